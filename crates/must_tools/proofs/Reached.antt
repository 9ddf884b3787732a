-- How far a stream was read.
use Rattle.std.proofs.Common.{◌≡◌, ℕ, ◌+◌, List, [], ◌∷◌, ◌++◌, length, Option, Some, None, Result, Ok, Err, refl, sym, ap, subst, ◌∙◌, inl, inr, append_assoc, append-nil, length-append, arith}
use Rattle.std.specs.Prelude.{IfErr}
use Rattle.must_call.specs.declared.call.Call.{Call}
use Rattle.must_format.specs.declared.fault.StreamFault.{StreamFault}
use Rattle.must_format.specs.declared.fault.StreamFault.TheVariants as fault
use Rattle.must_format.specs.declared.expect.Expect.{Expect}
use Rattle.must_format.specs.declared.header.Header.{Header}
use Rattle.must_format.specs.Stream.{IsStream, BodyReading, header_fault, header_of, header_past}
use Rattle.must_codec.specs.Reader.{Phase, ReaderState, Stands, StandsFor, ShowsNone, Gave, Fresh, Before, Ended, Failed}
use Rattle.must_codec.specs.Views.{IsBefore, IsOpen, Leaves}
use Rattle.must_tools.specs.Dump.{header_line, call_line, dump_text, lines_from, end_line}
use Rattle.must_tools.specs.Reading.{IsComplete, IsLeftOf, IsFaultOf, Stood, Reached, Shows, Begins, ShowsAll, IsDump, text_so_far}
use Rattle.must_tools.proofs.Lines.{text_more}

-- what a call of `next` promises, where its source tells its bytes
abbrev pub Given : ReaderState → ReaderState → Option (List ℕ) → Option (List ℕ) → Result (Option Call) StreamFault → Type 0
Given old new left left' result = (h : List Call) (taken rest : List ℕ) → IsOpen old.phase → left ≡ Some rest → StandsFor old taken h → Gave new left' taken rest h result

-- a reader that read nothing
abbrev pub new_reader : ReaderState
new_reader = record { expect = None; unread = []; header = None; at = 0; phase = Fresh }

pub fresh_stood : (bytes : List ℕ) (left : Option (List ℕ)) (reader : ReaderState) → left ≡ Some bytes → reader ≡ new_reader → Stood bytes left reader []
fresh_stood bytes left reader left_is is =
    subst (λ (r : ReaderState). Stood bytes left r []) (sym is)
    (record { taken = []; rest = bytes; left_is = left_is; parts = refl; stands = (refl, refl, refl, refl, refl) })

pub fresh_open : (r : ReaderState) → r ≡ new_reader → IsOpen r.phase
fresh_open r is = subst (λ (p : Phase). IsOpen p) (sym (ap (λ (x : ReaderState). x.phase) is)) tt

-- all bytes, after some more were taken
all_parts : (taken rest bytes piece others : List ℕ) → taken ++ rest ≡ bytes → rest ≡ piece ++ others → (taken ++ piece) ++ others ≡ bytes
all_parts taken rest bytes piece others e f = append_assoc taken piece others ∙ ap (λ (xs : List ℕ). taken ++ xs) (sym f) ∙ e

pub reached_more : (bytes : List ℕ) (left left' : Option (List ℕ)) (old new : ReaderState) (calls : List Call) (next : Option Call) → Given old new left left' (Ok next) → IsOpen old.phase → Stood bytes left old calls → Reached bytes left' new calls next
reached_more bytes left left' old new calls (Some call) given «open» s =
    let got = given calls s.taken s.rest «open» s.left_is s.stands in
    record { taken = s.taken ++ got.piece; rest = got.others; left_is = got.left_is; parts = all_parts s.taken s.rest bytes got.piece got.others s.parts got.parts; stands = got.answer.0 }
reached_more bytes left left' old new calls None given «open» s =
    let got = given calls s.taken s.rest «open» s.left_is s.stands in (
      record { taken = s.taken ++ got.piece; rest = got.others; left_is = got.left_is; parts = all_parts s.taken s.rest bytes got.piece got.others s.parts got.parts; stands = got.answer.0 },
      got.left_is ∙ ap (λ (xs : List ℕ). Some xs) got.answer.1,
    )

stood_call : (bytes : List ℕ) (left : Option (List ℕ)) (reader : ReaderState) (calls : List Call) (next : Option Call) (call : Call) → next ≡ Some call → Reached bytes left reader calls next → Stood bytes left reader (calls ++ call ∷ [])
stood_call bytes left reader calls next call is s = subst (λ (o : Option Call). Reached bytes left reader calls o) is s

-- ---- what was taken of the stream and what is left are the stream

left_stood : (bytes : List ℕ) (left : Option (List ℕ)) (reader : ReaderState) (calls : List Call) → Stood bytes left reader calls → IsLeftOf bytes left
left_stood bytes left reader calls s = (s.taken, s.rest, s.left_is, sym s.parts)

left_reached : (bytes : List ℕ) (left : Option (List ℕ)) (reader : ReaderState) (calls : List Call) (next : Option Call) → Reached bytes left reader calls next → IsLeftOf bytes left
left_reached bytes left reader calls (Some call) s = left_stood bytes left reader (calls ++ call ∷ []) s
left_reached bytes left reader calls None s = left_stood bytes left reader calls s.0

pub left_behind : (bytes : List ℕ) (left left' : Option (List ℕ)) (old new : ReaderState) (calls : List Call) (result : Result (Option Call) StreamFault) → Given old new left left' result → IsOpen old.phase → Stood bytes left old calls → IsLeftOf bytes left'
left_behind bytes left left' old new calls result given «open» s =
    let got = given calls s.taken s.rest «open» s.left_is s.stands in
    (s.taken ++ got.piece, got.others, got.left_is, sym (all_parts s.taken s.rest bytes got.piece got.others s.parts got.parts))

pub left_unread : (bytes : List ℕ) (left : Option (List ℕ)) → left ≡ Some bytes → IsLeftOf bytes left
left_unread bytes left e = ([], bytes, e, refl)

pub left_shows : (bytes : List ℕ) (left : Option (List ℕ)) (reader : ReaderState) (text : List ℕ) (n : ℕ) → Shows bytes left reader text n → IsLeftOf bytes left
left_shows bytes left reader text n b = left_stood bytes left reader b.calls b.stood

pub left_next : (bytes : List ℕ) (left left' : Option (List ℕ)) (old new : ReaderState) (result : Result (Option Call) StreamFault) (text : List ℕ) (n : ℕ) → Given old new left left' result → IsOpen old.phase → Shows bytes left old text n → IsLeftOf bytes left'
left_next bytes left left' old new result text n given «open» b = left_behind bytes left left' old new b.calls result given «open» b.stood

pub left_begins : (bytes : List ℕ) (left : Option (List ℕ)) (reader : ReaderState) (first : Option Call) (text : List ℕ) → Begins bytes left reader first text → IsLeftOf bytes left
left_begins bytes left reader first text b = left_reached bytes left reader [] first b.reached

-- ---- the phase of a reader

at_phase : (r : ReaderState) (phase : Phase) (taken : List ℕ) (calls : List Call) → r.phase ≡ phase → StandsFor r taken calls → Stands phase r taken calls
at_phase r phase taken calls e s = subst (λ (p : Phase). Stands p r taken calls) e s

is_open : (phase : Phase) → IsBefore phase → IsOpen phase
is_open Fresh before = absurd before
is_open (Before p) before = tt
is_open Ended before = absurd before
is_open (Failed f) before = absurd before

-- a reader that gave a call goes on
pub goes_on : (phase : Phase) (o : Option Call) (call : Call) → o ≡ Some call → Leaves phase (Ok o) → IsOpen phase
goes_on phase o call is leaves = is_open phase (subst (λ (p : Option Call). Leaves phase (Ok p)) is leaves)

-- a reader that gave a call or the end has not failed
pub not_failed : (phase : Phase) (o : Option Call) → Leaves phase (Ok o) → (f : StreamFault) → phase ≡ Failed f → ⊥
not_failed phase (Some call) leaves f e = subst (λ (p : Phase). IsBefore p) e leaves
not_failed phase None leaves f e = let no : Ended ≡ Failed f = sym leaves ∙ e in cc

-- an open reader has not failed
pub open_unfailed : (phase : Phase) → IsOpen phase → (f : StreamFault) → phase ≡ Failed f → ⊥
open_unfailed phase «open» f e = subst (λ (p : Phase). IsOpen p) e «open»

pub ok_is_no_fault : (o : Option Call) (f : StreamFault) → ◌≡◌ {A = Result (Option Call) StreamFault} (Ok o) (Err f) → ⊥
ok_is_no_fault o f e = cc

-- ---- the header

header_before : (phase : Phase) (r : ReaderState) (bytes taken rest : List ℕ) (calls : List Call) → taken ++ rest ≡ bytes → IsBefore phase → Stands phase r taken calls → r.header ≡ Some (header_of bytes)
header_before Fresh r bytes taken rest calls parts before s = absurd before
header_before (Before p) r bytes taken rest calls parts before s = s.accepted ∙ ap (λ (h : Header). Some h) (sym (s.opened.header rest)) ∙ ap (λ (b : List ℕ). Some (header_of b)) parts
header_before Ended r bytes taken rest calls parts before s = absurd before
header_before (Failed f) r bytes taken rest calls parts before s = absurd before

no_end : (f : StreamFault) {P : Type 0} → ◌≡◌ {A = Option StreamFault} None (Some f) → P
no_end f e = absurd cc

good_header : (o : Option StreamFault) (bytes : List ℕ) (calls : List Call) → BodyReading bytes calls None o → header_past o bytes ≡ Some (header_of bytes)
good_header None bytes calls b = refl
good_header (Some f) bytes calls b = no_end f b.1

-- all that there is was taken at the end
whole_taken : (taken rest bytes : List ℕ) (left : Option (List ℕ)) → left ≡ Some rest → left ≡ Some [] → taken ++ rest ≡ bytes → taken ≡ bytes
whole_taken taken rest bytes left is none parts = sym (append-nil taken) ∙ ap (λ (xs : List ℕ). taken ++ xs) (same rest (sym is ∙ none)) ∙ parts
  where
    same : (xs : List ℕ) → Some xs ≡ Some [] → [] ≡ xs
    same xs e = cc

header_is : (bytes : List ℕ) (left : Option (List ℕ)) (r : ReaderState) (calls : List Call) (next : Option Call) → Leaves r.phase (Ok next) → Reached bytes left r calls next → r.header ≡ Some (header_of bytes)
header_is bytes left r calls (Some call) leaves s = header_before r.phase r bytes s.taken s.rest (calls ++ call ∷ []) s.parts leaves s.stands
header_is bytes left r calls None leaves s =
    let ended = at_phase r Ended s.0.taken calls leaves s.0.stands in
    ended.1 ∙ good_header (header_fault r.expect s.0.taken) s.0.taken calls ended.0 ∙ ap (λ (b : List ℕ). Some (header_of b)) (whole_taken s.0.taken s.0.rest bytes left s.0.left_is s.1 s.0.parts)

-- ---- the text beside the reader

-- the first answer of the reader, and the line of the header
pub begun : (bytes : List ℕ) (left left' : Option (List ℕ)) (reader new : ReaderState) (next : Option Call) (empty text : List ℕ) → left ≡ Some bytes → reader ≡ new_reader → Given reader new left left' (Ok next) → Leaves new.phase (Ok next)
    → empty ≡ [] → ((h : Header) → new.header ≡ Some h → text ≡ empty ++ header_line h) → Begins bytes left' new next text
begun bytes left left' reader new next empty text left_is is given leaves none line =
    let reached = reached_more bytes left left' reader new [] next given (fresh_open reader is) (fresh_stood bytes left reader left_is is) in
    record {
      reached = reached;
      text_is = line (header_of bytes) (header_is bytes left' new [] next leaves reached) ∙ ap (λ (w : List ℕ). w ++ header_line (header_of bytes)) none;
    }

-- a call more
pub shows_more : (bytes : List ℕ) (left left' : Option (List ℕ)) (old new : ReaderState) (next : Option Call) (call : Call) (text longer : List ℕ) (n : ℕ)
    → next ≡ Some call → longer ≡ text ++ call_line n call → Given old new left left' (Ok next) → IsOpen old.phase → Shows bytes left old text n → Shows bytes left' new longer (n + 1)
shows_more bytes left left' old new next call text longer n is more given «open» b =
    let added : length (b.calls ++ call ∷ []) ≡ length b.calls + 1 = length-append b.calls (call ∷ []) in
    record {
      calls = b.calls ++ call ∷ [];
      stood = stood_call bytes left' new b.calls next call is (reached_more bytes left left' old new b.calls next given «open» b.stood);
      text_is = text_more bytes b.calls call n text longer b.number_is b.text_is more;
      number_is = omega (arith, b.number_is, added);
    }

-- the call that was given first
pub shows_first : (bytes : List ℕ) (left : Option (List ℕ)) (reader : ReaderState) (first : Option Call) (call : Call) (text longer : List ℕ)
    → first ≡ Some call → longer ≡ text ++ call_line 0 call → Begins bytes left reader first text → Shows bytes left reader longer 1
shows_first bytes left reader first call text longer is more b = record {
  calls = call ∷ [];
  stood = stood_call bytes left reader [] first call is b.reached;
  text_is = text_more bytes [] call 0 text longer refl (b.text_is ∙ sym (append-nil (header_line (header_of bytes)))) more;
  number_is = refl;
}

-- the end
ended : (bytes : List ℕ) (left : Option (List ℕ)) (reader : ReaderState) (calls : List Call) (next : Option Call) → next ≡ None → reader.expect ≡ None → Leaves reader.phase (Ok next) → Reached bytes left reader calls next
    → IsComplete bytes calls × (left ≡ Some [])
ended bytes left reader calls next is expect leaves reached =
    let s = subst (λ (o : Option Call). Reached bytes left reader calls o) is reached in
    let at_end = at_phase reader Ended s.0.taken calls (subst (λ (o : Option Call). Leaves reader.phase (Ok o)) is leaves) s.0.stands in
    let here : IsStream None s.0.taken calls None = subst (λ (e : Option Expect). IsStream e s.0.taken calls None) expect at_end.0 in
    (subst (λ (xs : List ℕ). IsStream None xs calls None) (whole_taken s.0.taken s.0.rest bytes left s.0.left_is s.1 s.0.parts) here, s.1)

pub shows_all : (bytes : List ℕ) (left left' : Option (List ℕ)) (old new : ReaderState) (next : Option Call) (text : List ℕ) (n : ℕ)
    → next ≡ None → Given old new left left' (Ok next) → IsOpen old.phase → new.expect ≡ None → Leaves new.phase (Ok next) → Shows bytes left old text n → ShowsAll bytes left' text n
shows_all bytes left left' old new next text n is given «open» expect leaves b =
    let e = ended bytes left' new b.calls next is expect leaves (reached_more bytes left left' old new b.calls next given «open» b.stood) in
    record { calls = b.calls; complete = e.0; left_is = e.1; text_is = b.text_is; number_is = b.number_is }

pub shows_none : (bytes : List ℕ) (left : Option (List ℕ)) (reader : ReaderState) (first : Option Call) (text : List ℕ)
    → first ≡ None → reader.expect ≡ None → Leaves reader.phase (Ok first) → Begins bytes left reader first text → ShowsAll bytes left text 0
shows_none bytes left reader first text is expect leaves b =
    let e = ended bytes left reader [] first is expect leaves b.reached in
    record { calls = []; complete = e.0; left_is = e.1; text_is = b.text_is ∙ sym (append-nil (header_line (header_of bytes))); number_is = refl }

-- the last line
pub dumped : (bytes : List ℕ) (left : Option (List ℕ)) (text longer : List ℕ) (n : ℕ) → ShowsAll bytes left text n → longer ≡ text ++ end_line n → IsDump bytes left longer
dumped bytes left text longer n a more = record {
  calls = a.calls;
  complete = a.complete;
  left_is = a.left_is;
  text_is =
      more ∙ ap (λ (w : List ℕ). w ++ end_line n) a.text_is ∙ append_assoc (header_line (header_of bytes)) (lines_from 0 a.calls) (end_line n)
      ∙ ap (λ (m : ℕ). header_line (header_of bytes) ++ (lines_from 0 a.calls ++ end_line m)) a.number_is;
}

-- ---- faults

fault_of : (bytes taken rest : List ℕ) (left : Option (List ℕ)) (new : ReaderState) (calls : List Call) (f : StreamFault) (g : Gave new left taken rest calls (Err f)) → (taken ++ g.piece) ++ g.others ≡ bytes → new.expect ≡ None → new.phase ≡ Failed f
    → IsFaultOf bytes left f
fault_of bytes taken rest left new calls (fault.Malformed at c) g all expect failed =
    (calls, subst (λ (xs : List ℕ). IsStream None xs calls (Some (fault.Malformed at c))) all (subst (λ (e : Option Expect). IsStream e ((taken ++ g.piece) ++ g.others) calls (Some (fault.Malformed at c))) expect g.answer.1))
fault_of bytes taken rest left new calls (fault.Bound at l) g all expect failed =
    (calls, subst (λ (xs : List ℕ). IsStream None xs calls (Some (fault.Bound at l))) all (subst (λ (e : Option Expect). IsStream e ((taken ++ g.piece) ++ g.others) calls (Some (fault.Bound at l))) expect g.answer.1))
fault_of bytes taken rest left new calls fault.Read g all expect failed =
    let here = at_phase new (Failed fault.Read) (taken ++ g.piece) calls failed g.answer in
    let shows : ShowsNone None (taken ++ g.piece) calls = subst (λ (e : Option Expect). ShowsNone e (taken ++ g.piece) calls) expect here.0 in
    (taken ++ g.piece, g.others, g.left_is, sym all, (calls, shows))
fault_of bytes taken rest left new calls fault.NoMemory g all expect failed = tt

-- a refusal by the reader
pub stood_fault : (bytes : List ℕ) (left left' : Option (List ℕ)) (old new : ReaderState) (calls : List Call) (f : StreamFault)
    → Given old new left left' (Err f) → IsOpen old.phase → new.expect ≡ None → new.phase ≡ Failed f → Stood bytes left old calls → IsFaultOf bytes left' f
stood_fault bytes left left' old new calls f given «open» expect failed s =
    let got = given calls s.taken s.rest «open» s.left_is s.stands in
    fault_of bytes s.taken s.rest left' new calls f got (all_parts s.taken s.rest bytes got.piece got.others s.parts got.parts) expect failed

pub shows_fault : (bytes : List ℕ) (left left' : Option (List ℕ)) (old new : ReaderState) (text : List ℕ) (n : ℕ) (f : StreamFault)
    → Given old new left left' (Err f) → IsOpen old.phase → new.expect ≡ None → new.phase ≡ Failed f → Shows bytes left old text n → IsFaultOf bytes left' f
shows_fault bytes left left' old new text n f given «open» expect failed b = stood_fault bytes left left' old new b.calls f given «open» expect failed b.stood

-- what holds of the error holds of the result that hands it on
pub handed_on : {T : Type 0} (result : Result T StreamFault) (given fault : StreamFault) (P : StreamFault → Type 0) → result ≡ Err given → given ≡ fault → P fault → IfErr result P
handed_on result given fault P is same holds =
    let here : P given = subst P (sym same) holds in
    subst (λ r. IfErr r P) (sym is) here
