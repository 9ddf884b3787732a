-- How far the stream of a rank was read.
use Rattle.std.proofs.Common.{◌≡◌, ℕ, ◌<◌, List, [], ◌∷◌, ◌++◌, length, Option, Some, None, Result, Ok, Err, refl, sym, ap, subst, ◌∙◌, inl, inr, append_assoc, append-nil}
use Rattle.std.specs.Prelude.{ℤ, IfErr}
use Rattle.std.specs.Option.{option_map}
use Rattle.must_call.specs.declared.call.Call.{Call}
use Rattle.must_format.specs.declared.fault.StreamFault.{StreamFault}
use Rattle.must_format.specs.declared.fault.StreamFault.TheVariants as fault
use Rattle.must_format.specs.declared.cause.Cause.TheVariants as cause
use Rattle.must_format.specs.declared.expect.Expect.{Expect}
use Rattle.must_format.specs.declared.header.Header.{Header}
use Rattle.must_format.specs.Stream.{IsStream, AreCalls, BodyReading, whose, header_fault, header_of, header_past, tag_ub_of, version_of}
use Rattle.must_codec.specs.Reader.{Phase, ReaderState, Stands, StandsFor, ShowsNone, Gave, Fresh, Before, Ended, Failed}
use Rattle.must_codec.specs.Views.{IsBefore, IsOpen, Leaves}
use Rattle.must_node.specs.declared.node.Node.{Node}
use Rattle.must_rules.specs.Rank.{Rank}
use Rattle.must_rules.specs.Limits.{limit_at, IsWithin}
use Rattle.must_rules.specs.LimitLaws.{within_none, accepted_or_refused, bad_is_one}
use Rattle.must_rules.specs.Streams.{rank_told, Refused}
use Rattle.must_format.specs.declared.cause.Limit.{Limit}
use Rattle.must_entry.specs.declared.batch.Batch.{Batch}
use Rattle.must_local.specs.declared.fault.WalkFault.{WalkFault}
use Rattle.must_local.specs.declared.fault.WalkFault.TheVariants as walk_fault
use Rattle.must_local.specs.HandlesKnown.{IsLimitAt}
use Rattle.must_local.specs.Walks.{RankTold, rank_by, WalkState, Walks}
use Rattle.must_tree.specs.Told.{IsLeftOf, IsTooShort}
use Rattle.must_tree.specs.Ranks.{Gathers, GivesRank, ReadsRank, IsFaultOf, IsLimitFault}
use Rattle.must_tree.specs.Beside.{Stood, Reached, told_by, Beside, Walked, AllTaken}
use Rattle.must_tree.proofs.Gathering.{gathers_first}

-- what a call of `next` promises, where its source tells its bytes
abbrev pub Given : ReaderState → ReaderState → Option (List ℕ) → Option (List ℕ) → Result (Option Call) StreamFault → Type 0
Given old new left left' result = (h : List Call) (taken rest : List ℕ) → IsOpen old.phase → left ≡ Some rest → StandsFor old taken h → Gave new left' taken rest h result

pub fresh_stood : (bytes : List ℕ) (left : Option (List ℕ)) (reader : ReaderState) (e : Option Expect) → left ≡ Some bytes → reader ≡ record { expect = e; unread = []; header = None; at = 0; phase = Fresh } → Stood bytes left reader []
fresh_stood bytes left reader e left_is is =
    subst (λ (r : ReaderState). Stood bytes left r []) (sym is)
    (record { taken = []; rest = bytes; left_is = left_is; parts = refl; stands = (refl, refl, refl, refl, refl) })

-- all bytes, after some more were taken
all_parts : (taken rest bytes piece others : List ℕ) → taken ++ rest ≡ bytes → rest ≡ piece ++ others → (taken ++ piece) ++ others ≡ bytes
all_parts taken rest bytes piece others e f = append_assoc taken piece others ∙ ap (λ (xs : List ℕ). taken ++ xs) (sym f) ∙ e

pub reached_more : (bytes : List ℕ) (left left' : Option (List ℕ)) (old new : ReaderState) (calls : List Call) (next : Option Call) → Given old new left left' (Ok next) → IsOpen old.phase → Stood bytes left old calls → Reached bytes left' new calls next
reached_more bytes left left' old new calls (Some call) given «open» s =
    let got = given calls s.taken s.rest «open» s.left_is s.stands in
    (record { taken = s.taken ++ got.piece; rest = got.others; left_is = got.left_is; parts = all_parts s.taken s.rest bytes got.piece got.others s.parts got.parts; stands = got.answer.0 }, got.answer.1)
reached_more bytes left left' old new calls None given «open» s =
    let got = given calls s.taken s.rest «open» s.left_is s.stands in (
      record { taken = s.taken ++ got.piece; rest = got.others; left_is = got.left_is; parts = all_parts s.taken s.rest bytes got.piece got.others s.parts got.parts; stands = got.answer.0 },
      got.left_is ∙ ap (λ (xs : List ℕ). Some xs) got.answer.1,
    )

-- what was taken of the stream and what is left are the stream
pub left_stood : (bytes : List ℕ) (left : Option (List ℕ)) (reader : ReaderState) (calls : List Call) → Stood bytes left reader calls → IsLeftOf bytes left
left_stood bytes left reader calls s = (s.taken, s.rest, s.left_is, sym s.parts)

pub left_reached : (bytes : List ℕ) (left : Option (List ℕ)) (reader : ReaderState) (calls : List Call) (next : Option Call) → Reached bytes left reader calls next → IsLeftOf bytes left
left_reached bytes left reader calls (Some call) s = left_stood bytes left reader (calls ++ call ∷ []) s.0
left_reached bytes left reader calls None s = left_stood bytes left reader calls s.0

pub left_behind : (bytes : List ℕ) (left left' : Option (List ℕ)) (old new : ReaderState) (calls : List Call) (result : Result (Option Call) StreamFault) → Stood bytes left old calls → Given old new left left' result → IsOpen old.phase → IsLeftOf bytes left'
left_behind bytes left left' old new calls result s given «open» =
    let got = given calls s.taken s.rest «open» s.left_is s.stands in
    (s.taken ++ got.piece, got.others, got.left_is, sym (all_parts s.taken s.rest bytes got.piece got.others s.parts got.parts))

pub left_unread : (bytes : List ℕ) (left : Option (List ℕ)) → left ≡ Some bytes → IsLeftOf bytes left
left_unread bytes left e = ([], bytes, e, refl)

-- ---- the phase of a reader

-- where a reader is behind an answer
at_phase : (r : ReaderState) (phase : Phase) (taken : List ℕ) (calls : List Call) → r.phase ≡ phase → StandsFor r taken calls → Stands phase r taken calls
at_phase r phase taken calls e s = subst (λ (p : Phase). Stands p r taken calls) e s

-- a new reader
pub fresh_open : (r : ReaderState) (e : Option Expect) → r ≡ record { expect = e; unread = []; header = None; at = 0; phase = Fresh } → IsOpen r.phase
fresh_open r e is = subst (λ (p : Phase). IsOpen p) (sym (ap (λ (x : ReaderState). x.phase) is)) tt

is_open : (phase : Phase) → IsBefore phase → IsOpen phase
is_open Fresh before = absurd before
is_open (Before p) before = tt
is_open Ended before = absurd before
is_open (Failed f) before = absurd before

-- a reader that gave a call goes on
pub goes_on : (phase : Phase) (o : Option Call) (call : Call) → o ≡ Some call → Leaves phase (Ok o) → IsOpen phase
goes_on phase o call is leaves = is_open phase (subst (λ (p : Option Call). Leaves phase (Ok p)) is leaves)

-- a reader that gave a call or the end has not failed
pub not_failed : (phase : Phase) (o : Option Call) → Leaves phase (Ok o) → (f : StreamFault) → phase ≡ Failed f → ⊥
not_failed phase (Some call) leaves f e = subst (λ (p : Phase). IsBefore p) e leaves
not_failed phase None leaves f e = let no : Ended ≡ Failed f = sym leaves ∙ e in cc

pub ok_is_no_fault : (o : Option Call) (f : StreamFault) → ◌≡◌ {A = Result (Option Call) StreamFault} (Ok o) (Err f) → ⊥
ok_is_no_fault o f e = cc

-- ---- the header

header_before : (phase : Phase) (r : ReaderState) (bytes taken rest : List ℕ) (calls : List Call) → taken ++ rest ≡ bytes → IsBefore phase → Stands phase r taken calls → r.header ≡ Some (header_of bytes)
header_before Fresh r bytes taken rest calls parts before s = absurd before
header_before (Before p) r bytes taken rest calls parts before s = s.accepted ∙ ap (λ (h : Header). Some h) (sym (s.opened.header rest)) ∙ ap (λ (b : List ℕ). Some (header_of b)) parts
header_before Ended r bytes taken rest calls parts before s = absurd before
header_before (Failed f) r bytes taken rest calls parts before s = absurd before

no_end : (f : StreamFault) {P : Type 0} → ◌≡◌ {A = Option StreamFault} None (Some f) → P
no_end f e = absurd cc

good_header : (o : Option StreamFault) (bytes : List ℕ) (calls : List Call) → BodyReading bytes calls None o → header_past o bytes ≡ Some (header_of bytes)
good_header None bytes calls b = refl
good_header (Some f) bytes calls b = no_end f b.1

-- all that there is was taken at the end
pub whole_taken : (taken rest bytes : List ℕ) (left : Option (List ℕ)) → left ≡ Some rest → left ≡ Some [] → taken ++ rest ≡ bytes → taken ≡ bytes
whole_taken taken rest bytes left is none parts = sym (append-nil taken) ∙ ap (λ (xs : List ℕ). taken ++ xs) (same rest (sym is ∙ none)) ∙ parts
  where
    same : (xs : List ℕ) → Some xs ≡ Some [] → [] ≡ xs
    same xs e = cc

pub header_is : (bytes : List ℕ) (left : Option (List ℕ)) (r : ReaderState) (calls : List Call) (next : Option Call) → Leaves r.phase (Ok next) → Reached bytes left r calls next → r.header ≡ Some (header_of bytes)
header_is bytes left r calls (Some call) leaves s = header_before r.phase r bytes s.0.taken s.0.rest (calls ++ call ∷ []) s.0.parts leaves s.0.stands
header_is bytes left r calls None leaves s =
    let ended = at_phase r Ended s.0.taken calls leaves s.0.stands in
    ended.1 ∙ good_header (header_fault r.expect s.0.taken) s.0.taken calls ended.0 ∙ ap (λ (b : List ℕ). Some (header_of b)) (whole_taken s.0.taken s.0.rest bytes left s.0.left_is s.1 s.0.parts)

-- ---- the walk beside the reader

-- the first answer of the reader
pub walked_first : (rank n : ℕ) (tag : ℤ) (bytes : List ℕ) (left : Option (List ℕ)) (reader : ReaderState) (next : Option Call) (w : WalkState) (fs : Node)
    → rank < n → Leaves reader.phase (Ok next) → Reached bytes left reader [] next → ((t : ℤ) → option_map (λ (h : Header). h.tag_ub) reader.header ≡ Some t → tag ≡ t)
    → ((version : ℕ) → Walks version w [] []) → w.rank ≡ record { rank = rank; size = n; tag_ub = tag } → Walked rank n bytes left reader next w fs fs
walked_first rank n tag bytes left reader next w fs within leaves reached greatest walks is =
    let tag_is = greatest (tag_ub_of bytes) (ap (option_map (λ (h : Header). h.tag_ub)) (header_is bytes left reader [] next leaves reached)) in
    let told : ℤ → RankTold = λ t. record { rank = rank; size = n; tag_ub = t } in
    record { calls = []; reached = reached; gathers = gathers_first (told_by rank n bytes) w fs within walks (is ∙ ap told tag_is) }

abbrev told_with : ℕ → ℕ → ℤ → RankTold
told_with rank n tag = record { rank = rank; size = n; tag_ub = tag }

-- a walk is told the same tag as it stands in memory
pub told_tag : (t : RankTold) (rank n : ℕ) (tag raw : ℤ) → t ≡ record { rank = rank; size = n; tag_ub = raw } → raw ≡ tag → t ≡ record { rank = rank; size = n; tag_ub = tag }
told_tag t rank n tag raw is same = is ∙ ap (λ (z : ℤ). told_with rank n z) same

-- a new reader, its first answer, and a new walk
pub begun : (rank n : ℕ) (tag : ℤ) (bytes : List ℕ) (left left' : Option (List ℕ)) (e : Option Expect) (old new : ReaderState) (next : Option Call) (w : WalkState) (fs : Node)
    → rank < n → left ≡ Some bytes → old ≡ record { expect = e; unread = []; header = None; at = 0; phase = Fresh } → Given old new left left' (Ok next) → Leaves new.phase (Ok next)
    → ((t : ℤ) → option_map (λ (h : Header). h.tag_ub) new.header ≡ Some t → tag ≡ t) → ((version : ℕ) → Walks version w [] []) → w.rank ≡ record { rank = rank; size = n; tag_ub = tag }
    → Walked rank n bytes left' new next w fs fs
begun rank n tag bytes left left' e old new next w fs within left_is fresh given leaves greatest walks is =
    walked_first rank n tag bytes left' new next w fs within leaves (reached_more bytes left left' old new [] next given (fresh_open old e fresh) (fresh_stood bytes left old e left_is fresh)) greatest walks is

abbrev Took : WalkState → WalkState → Call → Node → Node → Type 0
Took w v call old new = (told : RankTold) (calls : List Call) (first : Node) → Gathers told w calls first old → Gathers told v (calls ++ call ∷ []) first new

pub call_reached : (bytes : List ℕ) (left : Option (List ℕ)) (reader : ReaderState) (calls : List Call) (next : Option Call) (call : Call) → next ≡ Some call → Reached bytes left reader calls next → Reached bytes left reader calls (Some call)
call_reached bytes left reader calls next call is s = subst (λ (o : Option Call). Reached bytes left reader calls o) is s

stood_call : (bytes : List ℕ) (left : Option (List ℕ)) (reader : ReaderState) (calls : List Call) (next : Option Call) (call : Call) → next ≡ Some call → Reached bytes left reader calls next → Stood bytes left reader (calls ++ call ∷ [])
stood_call bytes left reader calls next call is s = (call_reached bytes left reader calls next call is s).0

-- a call more
pub beside_more : (rank n : ℕ) (bytes : List ℕ) (left left' : Option (List ℕ)) (old new : ReaderState) (next : Option Call) (call : Call) (w v : WalkState) (first fs gs : Node)
    → next ≡ Some call → Took w v call fs gs → Given old new left left' (Ok next) → IsOpen old.phase → Beside rank n bytes left old w first fs → Beside rank n bytes left' new v first gs
beside_more rank n bytes left left' old new next call w v first fs gs is took given «open» b = record {
  calls = b.calls ++ call ∷ [];
  stood = stood_call bytes left' new b.calls next call is (reached_more bytes left left' old new b.calls next given «open» b.stood);
  gathers = took (told_by rank n bytes) b.calls first b.gathers;
}

-- the call that was given first
pub beside_first : (rank n : ℕ) (bytes : List ℕ) (left : Option (List ℕ)) (reader : ReaderState) (next : Option Call) (call : Call) (w v : WalkState) (first fs gs : Node)
    → next ≡ Some call → Took w v call fs gs → Walked rank n bytes left reader next w first fs → Beside rank n bytes left reader v first gs
beside_first rank n bytes left reader next call w v first fs gs is took k = record {
  calls = k.calls ++ call ∷ [];
  stood = stood_call bytes left reader k.calls next call is k.reached;
  gathers = took (told_by rank n bytes) k.calls first k.gathers;
}

-- the calls that a walk took reach no limit
pub within_gathered : (rank n : ℕ) (bytes : List ℕ) (w : WalkState) (calls : List Call) (first fs : Node) → Gathers (told_by rank n bytes) w calls first fs → IsWithin (rank_told rank n bytes) calls
within_gathered rank n bytes w calls first fs g = subst (λ (t : RankTold). IsWithin (rank_by (version_of bytes) t) calls) g.rank_is (g.walks (version_of bytes)).within

-- the end
pub walked_all : (rank n : ℕ) (bytes : List ℕ) (left : Option (List ℕ)) (reader : ReaderState) (next : Option Call) (w : WalkState) (first fs : Node)
    → next ≡ None → reader.expect ≡ whose rank n → Leaves reader.phase (Ok next) → Walked rank n bytes left reader next w first fs → AllTaken rank n bytes left w first fs
walked_all rank n bytes left reader next w first fs is expect leaves k =
    let s = subst (λ (o : Option Call). Reached bytes left reader k.calls o) is k.reached in
    let ended = at_phase reader Ended s.0.taken k.calls (subst (λ (o : Option Call). Leaves reader.phase (Ok o)) is leaves) s.0.stands in
    let here : IsStream (whose rank n) s.0.taken k.calls None = subst (λ (e : Option Expect). IsStream e s.0.taken k.calls None) expect ended.0 in
    record {
      calls = k.calls;
      accepted = record {
        complete = subst (λ (xs : List ℕ). IsStream (whose rank n) xs k.calls None) (whole_taken s.0.taken s.0.rest bytes left s.0.left_is s.1 s.0.parts) here;
        within = within_gathered rank n bytes w k.calls first fs k.gathers;
      };
      left_is = s.1;
      gathers = k.gathers;
    }

pub beside_all : (rank n : ℕ) (bytes : List ℕ) (left left' : Option (List ℕ)) (old new : ReaderState) (next : Option Call) (w : WalkState) (first fs : Node)
    → next ≡ None → Given old new left left' (Ok next) → IsOpen old.phase → new.expect ≡ whose rank n → Leaves new.phase (Ok next) → Beside rank n bytes left old w first fs → AllTaken rank n bytes left' w first fs
beside_all rank n bytes left left' old new next w first fs is given «open» expect leaves b =
    walked_all rank n bytes left' new next w first fs is expect leaves (record { calls = b.calls; reached = reached_more bytes left left' old new b.calls next given «open» b.stood; gathers = b.gathers })

-- the end of a rank
pub taken_reads : (rank n : ℕ) (bytes : List ℕ) (left : Option (List ℕ)) (w : WalkState) (first fs new : Node)
    → ((told : RankTold) (version : ℕ) (calls : List Call) (start : Node) → Gathers told w calls start fs → GivesRank (rank_by version told) calls start new)
    → AllTaken rank n bytes left w first fs → ReadsRank rank n bytes first new × (left ≡ Some [])
taken_reads rank n bytes left w first fs new ends a =
    (record { calls = a.calls; accepted = a.accepted; gives = ends (told_by rank n bytes) (version_of bytes) a.calls first a.gathers }, a.left_is)

pub left_walked : (rank n : ℕ) (bytes : List ℕ) (left : Option (List ℕ)) (reader : ReaderState) (next : Option Call) (w : WalkState) (first fs : Node) → Walked rank n bytes left reader next w first fs → IsLeftOf bytes left
left_walked rank n bytes left reader next w first fs k = left_reached bytes left reader k.calls next k.reached

pub left_beside : (rank n : ℕ) (bytes : List ℕ) (left : Option (List ℕ)) (reader : ReaderState) (w : WalkState) (first fs : Node) → Beside rank n bytes left reader w first fs → IsLeftOf bytes left
left_beside rank n bytes left reader w first fs b = left_stood bytes left reader b.calls b.stood

pub left_next : (rank n : ℕ) (bytes : List ℕ) (left left' : Option (List ℕ)) (old new : ReaderState) (result : Result (Option Call) StreamFault) (w : WalkState) (first fs : Node)
    → Given old new left left' result → IsOpen old.phase → Beside rank n bytes left old w first fs → IsLeftOf bytes left'
left_next rank n bytes left left' old new result w first fs given «open» b = left_behind bytes left left' old new b.calls result b.stood given «open»

-- an open reader has not failed
pub open_unfailed : (phase : Phase) → IsOpen phase → (f : StreamFault) → phase ≡ Failed f → ⊥
open_unfailed phase «open» f e = subst (λ (p : Phase). IsOpen p) e «open»

-- ---- faults

-- bytes that show nothing wrong but their end, behind calls that reach no limit
shows_none : (rank n : ℕ) (taken : List ℕ) (calls : List Call) → ShowsNone (whose rank n) taken calls → IsWithin (rank_told rank n taken) calls → (f : StreamFault) → Refused rank n taken f → IsTooShort f
shows_none rank n taken calls (inl complete) within f refused = absurd (accepted_or_refused rank n taken calls f (record { complete = complete; within = within }) refused)
shows_none rank n taken calls (inr short) within f refused = (short.0, bad_is_one rank n taken calls (fault.Malformed short.0 cause.Truncated) f short.1 within refused)

header_told : (rank n : ℕ) (a b : List ℕ) → header_of a ≡ header_of b → rank_told rank n a ≡ rank_told rank n b
header_told rank n a b e = ap (λ (h : Header). record { rank = rank; size = n; version = h.version; tag_ub = h.tag_ub }) e

-- what is known of a rank by the bytes that were taken is what is known by all, once a call was given
within_taken : (rank n : ℕ) (phase : Phase) (r : ReaderState) (taken piece others bytes : List ℕ) (calls : List Call) → IsOpen phase → Stands phase r taken calls → (taken ++ piece) ++ others ≡ bytes
    → IsWithin (rank_told rank n bytes) calls → IsWithin (rank_told rank n (taken ++ piece)) calls
within_taken rank n Fresh r taken piece others bytes calls «open» s all within = subst (IsWithin (rank_told rank n (taken ++ piece))) (sym s.0) (within_none (rank_told rank n (taken ++ piece)))
within_taken rank n (Before p) r taken piece others bytes calls «open» s all within =
    let whole : header_of bytes ≡ s.header = ap header_of (sym all ∙ append_assoc taken piece others) ∙ s.opened.header (piece ++ others) in
    subst (λ (t : Rank). IsWithin t calls) (header_told rank n bytes (taken ++ piece) (whole ∙ sym (s.opened.header piece))) within
within_taken rank n Ended r taken piece others bytes calls «open» s all within = absurd «open»
within_taken rank n (Failed f) r taken piece others bytes calls «open» s all within = absurd «open»

fault_of : (rank n : ℕ) (bytes taken rest : List ℕ) (left : Option (List ℕ)) (new : ReaderState) (calls : List Call) (f : StreamFault) (g : Gave new left taken rest calls (Err f)) → (taken ++ g.piece) ++ g.others ≡ bytes → new.expect ≡ whose rank n → new.phase ≡ Failed f
    → IsWithin (rank_told rank n bytes) calls → IsWithin (rank_told rank n (taken ++ g.piece)) calls → IsFaultOf rank n bytes left f
fault_of rank n bytes taken rest left new calls (fault.Malformed at c) g all expect failed within front =
    inl (record { calls = calls; stream = subst (λ (xs : List ℕ). IsStream (whose rank n) xs calls (Some (fault.Malformed at c))) all (subst (λ (e : Option Expect). IsStream e ((taken ++ g.piece) ++ g.others) calls (Some (fault.Malformed at c))) expect g.answer.1); within = within })
fault_of rank n bytes taken rest left new calls (fault.Bound at l) g all expect failed within front =
    inl (record { calls = calls; stream = subst (λ (xs : List ℕ). IsStream (whose rank n) xs calls (Some (fault.Bound at l))) all (subst (λ (e : Option Expect). IsStream e ((taken ++ g.piece) ++ g.others) calls (Some (fault.Bound at l))) expect g.answer.1); within = within })
fault_of rank n bytes taken rest left new calls fault.Read g all expect failed within front =
    let here = at_phase new (Failed fault.Read) (taken ++ g.piece) calls failed g.answer in
    let shows : ShowsNone (whose rank n) (taken ++ g.piece) calls = subst (λ (e : Option Expect). ShowsNone e (taken ++ g.piece) calls) expect here.0 in
    (taken ++ g.piece, g.others, g.left_is, sym all, shows_none rank n (taken ++ g.piece) calls shows front)
fault_of rank n bytes taken rest left new calls fault.NoMemory g all expect failed within front = tt

-- a refusal by the reader
pub stood_fault : (rank n : ℕ) (bytes : List ℕ) (left left' : Option (List ℕ)) (old new : ReaderState) (calls : List Call) (f : StreamFault)
    → Given old new left left' (Err f) → IsOpen old.phase → new.expect ≡ whose rank n → new.phase ≡ Failed f → IsWithin (rank_told rank n bytes) calls → Stood bytes left old calls → IsFaultOf rank n bytes left' f
stood_fault rank n bytes left left' old new calls f given «open» expect failed within s =
    let got = given calls s.taken s.rest «open» s.left_is s.stands in
    let all = all_parts s.taken s.rest bytes got.piece got.others s.parts got.parts in
    fault_of rank n bytes s.taken s.rest left' new calls f got all expect failed within (within_taken rank n old.phase old s.taken got.piece got.others bytes calls «open» s.stands all within)

no_calls : (calls : List Call) (call : Call) {P : Type 0} → calls ++ call ∷ [] ≡ [] → P
no_calls [] call e = absurd cc
no_calls (c ∷ calls) call e = absurd cc

record Opened (rank n : ℕ) (bytes : List ℕ) (given : List Call) : Type 0 where
  header : header_fault (whose rank n) bytes ≡ None
  calls : AreCalls bytes given

opened : (rank n : ℕ) (phase : Phase) (r : ReaderState) (taken rest bytes : List ℕ) (calls : List Call) (call : Call) → r.expect ≡ whose rank n → IsOpen phase → Stands phase r taken (calls ++ call ∷ []) → taken ++ rest ≡ bytes → Opened rank n bytes (calls ++ call ∷ [])
opened rank n Fresh r taken rest bytes calls call expect «open» s parts = no_calls calls call s.0
opened rank n (Before p) r taken rest bytes calls call expect «open» s parts = record {
  header = subst (λ (e : Option Expect). header_fault e bytes ≡ None) expect (subst (λ (xs : List ℕ). header_fault r.expect xs ≡ None) parts (s.opened.good rest));
  calls = subst (λ (xs : List ℕ). AreCalls xs (calls ++ call ∷ [])) parts (s.each rest);
}
opened rank n Ended r taken rest bytes calls call expect «open» s parts = absurd «open»
opened rank n (Failed f) r taken rest bytes calls call expect «open» s parts = absurd «open»

-- a walk's limit, as it is told of the rank
pub limit_told : (told : RankTold) (w : WalkState) (version : ℕ) (calls : List Call) (call : Call) (first fs : Node) (f : WalkFault) (k : ℕ) (l : Limit) → Gathers told w calls first fs
    → ((v : ℕ) (cs : List Call) (given : List Batch) → Walks v w cs given → IsLimitAt (length cs) (limit_at (rank_by v w.rank) cs call) f) → f ≡ walk_fault.TooWide k l → limit_at (rank_by version told) calls call ≡ Some l
limit_told told w version calls call first fs f k l g over is =
    let here : IsLimitAt (length calls) (limit_at (rank_by version w.rank) calls call) (walk_fault.TooWide k l) = subst (λ (x : WalkFault). IsLimitAt (length calls) (limit_at (rank_by version w.rank) calls call) x) is (over version calls g.given (g.walks version)) in
    subst (λ (t : RankTold). limit_at (rank_by version t) calls call ≡ Some l) g.rank_is here.1

-- a limit that the call reaches which the reader gave last
pub limit_fault : (rank n : ℕ) (bytes : List ℕ) (left : Option (List ℕ)) (reader : ReaderState) (calls : List Call) (call : Call) (f : StreamFault) → IsOpen reader.phase → reader.expect ≡ whose rank n
    → Reached bytes left reader calls (Some call) → IsWithin (rank_told rank n bytes) calls → IsLimitFault (limit_at (rank_told rank n bytes) calls call) reader.at f → IsFaultOf rank n bytes left f
limit_fault rank n bytes left reader calls call (fault.Malformed at c) «open» expect s within over = absurd over
limit_fault rank n bytes left reader calls call (fault.Bound at l) «open» expect s within over =
    let o = opened rank n reader.phase reader s.0.taken s.0.rest bytes calls call expect «open» s.0.stands s.0.parts in
    inr (record {
      before = calls;
      call = call;
      limit = l;
      header = o.header;
      calls = o.calls;
      within = within;
      reached = over.1;
      fault_is = ap (λ (m : ℕ). fault.Bound m l) (over.0 ∙ s.1);
    })
limit_fault rank n bytes left reader calls call fault.Read «open» expect s within over = absurd over
limit_fault rank n bytes left reader calls call fault.NoMemory «open» expect s within over = tt

-- what holds of the error holds of the result that hands it on
pub handed_on : (result : Result (Unit {0}) StreamFault) (given fault : StreamFault) (P : StreamFault → Type 0) → result ≡ Err given → given ≡ fault → P fault → IfErr result P
handed_on result given fault P is same holds =
    let here : P given = subst P (sym same) holds in
    subst (λ (r : Result (Unit {0}) StreamFault). IfErr r P) (sym is) here
