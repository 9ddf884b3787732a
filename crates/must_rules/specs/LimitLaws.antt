-- Calls that reach no limit, one call more; and what is accepted isn't refused.
use Rattle.std.proofs.Common.{◌≡◌, ℕ, zero, suc, ◌<◌, ◌≤◌, List, [], ◌∷◌, ◌++◌, length, take, Option, Some, None, refl, sym, ap, subst, ◌∙◌, inl, inr, arith, append_assoc, append-nil}
use Rattle.std.specs.Prelude.{◌⊎◌, slice_get}
use Rattle.std.proofs.lemmas.Bool.{cases_lt, cases_order}
use Rattle.std.proofs.lemmas.List.{take-append-le, take_all}
use Rattle.std.proofs.lemmas.Option.{slice_get_within}
use Rattle.must_call.specs.declared.call.Call.{Call}
use Rattle.must_format.specs.declared.expect.Expect.{Expect}
use Rattle.must_format.specs.declared.cause.Limit.{Limit}
use Rattle.must_format.specs.declared.fault.StreamFault.{StreamFault}
use Rattle.must_format.specs.declared.fault.StreamFault.TheVariants as stream_fault
use Rattle.must_format.specs.Payload.{offset_behind}
use Rattle.must_format.specs.Stream.{Next, outcome, coming, AreCalls, IsReading, BodyReading, IsStream, header_fault, whose}
use Rattle.must_format.specs.StreamLaws.{stream_is_one}
use Rattle.must_format.specs.CompleteLaws.{stream_exists}
use Rattle.must_rules.specs.Rank.{Rank}
use Rattle.must_rules.specs.Limits.{limit_at, IsWithin}
use Rattle.must_rules.specs.Streams.{rank_told, Accepted, IsTooWide, Refused}

no_call : (call : Call) {P : Type 0} → None ≡ Some call → P
no_call call e = absurd cc

same_call : (c d : Call) → Some c ≡ Some d → c ≡ d
same_call c d e = cc

pub within_none : (r : Rank) → IsWithin r []
within_none r k call e = no_call call e

get_front : (xs ys : List Call) (i : ℕ) → i < length xs → slice_get (xs ++ ys) i ≡ slice_get xs i
get_front [] ys i h = absurd (omega arith)
get_front (x ∷ xs) ys zero h = refl
get_front (x ∷ xs) ys (suc i) h = get_front xs ys i (omega arith)

get_there : (xs ys : List Call) (x : Call) → slice_get (xs ++ x ∷ ys) (length xs) ≡ Some x
get_there [] ys x = refl
get_there (y ∷ xs) ys x = get_there xs ys x

get_last : (xs : List Call) (x y : Call) (k : ℕ) → length xs ≤ k → slice_get (xs ++ x ∷ []) k ≡ Some y → (k ≡ length xs) × (y ≡ x)
get_last [] x y zero le e = (refl, sym (same_call x y e))
get_last [] x y (suc k) le e = no_call y e
get_last (z ∷ xs) x y zero le e = absurd (omega (arith, le))
get_last (z ∷ xs) x y (suc k) le e = let rest = get_last xs x y k (omega (arith, le)) e in (ap suc rest.0, rest.1)

front_take : (xs ys : List Call) (k : ℕ) → k ≤ length xs → take k (xs ++ ys) ≡ take k xs
front_take xs ys k le = take-append-le k xs ys le

-- one call more
pub within_more : (r : Rank) (calls : List Call) (call : Call) → IsWithin r calls → limit_at r calls call ≡ None → IsWithin r (calls ++ call ∷ [])
within_more r calls call within none k other e =
    elim (cases_lt k (length calls)) [
      | inl less ↦ ap (λ (xs : List Call). limit_at r xs other) (front_take calls (call ∷ []) k (omega (arith, less))) ∙ within k other (sym (get_front calls (call ∷ []) k less) ∙ e)
      | inr more ↦ (let last = get_last calls call other k more e in
          let front : take k (calls ++ call ∷ []) ≡ calls = front_take calls (call ∷ []) k (omega (arith, last.0)) ∙ take_all k calls (omega (arith, last.0)) in
          ap (λ (xs : List Call). limit_at r xs other) front ∙ ap (limit_at r calls) last.1 ∙ none)
    ]

-- of some calls, those in front
pub within_front : (r : Rank) (calls more : List Call) → IsWithin r (calls ++ more) → IsWithin r calls
within_front r calls more within k call e =
    let less : k < length calls = slice_get_within calls k call e in
    ap (λ (xs : List Call). limit_at r xs call) (sym (front_take calls more k (omega (arith, less)))) ∙ within k call (get_front calls more k less ∙ e)

-- a call within
pub within_at : (r : Rank) (before after : List Call) (call : Call) → IsWithin r (before ++ call ∷ after) → limit_at r before call ≡ None
within_at r before after call within =
    ap (λ (xs : List Call). limit_at r xs call) (sym (front_take before (call ∷ after) (length before) (omega arith) ∙ take_all (length before) before (omega arith))) ∙ within (length before) call (get_there before after call)

-- the first call that reaches a limit
pub record IsOver (r : Rank) (calls : List Call) : Type 0 where
  pub before : List Call
  pub call : Call
  pub after : List Call
  pub limit : Limit
  pub calls_are : calls ≡ before ++ call ∷ after
  pub within : IsWithin r before
  pub reached : limit_at r before call ≡ Some limit

abbrev Found : Rank → List Call → Type 0
Found r calls = IsWithin r calls ⊎ IsOver r calls

over_at : (r : Rank) (before calls : List Call) (call : Call) (o : Option Limit) → limit_at r before call ≡ o → IsWithin r before → (IsWithin r (before ++ call ∷ []) → Found r ((before ++ call ∷ []) ++ calls)) → Found r (before ++ call ∷ calls)
over_at r before calls call None e within behind = subst (Found r) (append_assoc before (call ∷ []) calls) (behind (within_more r before call within e))
over_at r before calls call (Some l) e within behind = inr (record { before = before; call = call; after = calls; limit = l; calls_are = refl; within = within; reached = e })

over_from : (r : Rank) (before calls : List Call) → IsWithin r before → Found r (before ++ calls)
over_from r before [] within = inl (subst (IsWithin r) (sym (append-nil before)) within)
over_from r before (call ∷ calls) within = over_at r before calls call (limit_at r before call) refl within (λ w. over_from r (before ++ call ∷ []) calls w)

-- none of the calls reaches a limit, or there is a first that does
pub within_or_over : (r : Rank) (calls : List Call) → IsWithin r calls ⊎ IsOver r calls
within_or_over r calls = over_from r [] calls (within_none r)

-- ---- streams

next_same : (c d : Call) → Next c ≡ Next d → c ≡ d
next_same c d e = cc

no_next : (end : Option StreamFault) (d : Call) → outcome end ≡ Next d → ⊥
no_next None d e = cc
no_next (Some f) d e = cc

prefix_from : (bytes : List ℕ) (front calls given : List Call) (end : Option StreamFault) → IsReading bytes (front ++ calls) end → AreCalls bytes (front ++ given) → (after : List Call) × (calls ≡ given ++ after)
prefix_from bytes front calls [] end reading are = (calls, refl)
prefix_from bytes front [] (g ∷ given) end reading are =
    absurd (no_next end g (sym (subst (λ (xs : List Call). coming bytes xs ≡ outcome end) (append-nil front) reading.last) ∙ are front given g refl))
prefix_from bytes front (c ∷ calls) (g ∷ given) end reading are =
    let same : c ≡ g = next_same c g (sym (reading.each front calls c refl) ∙ are front given g refl) in
    let left : IsReading bytes ((front ++ c ∷ []) ++ calls) end = subst (λ (xs : List Call). IsReading bytes xs end) (sym (append_assoc front (c ∷ []) calls)) reading in
    let there : AreCalls bytes ((front ++ g ∷ []) ++ given) = subst (AreCalls bytes) (sym (append_assoc front (g ∷ []) given)) are in
    let right : AreCalls bytes ((front ++ c ∷ []) ++ given) = subst (λ (x : Call). AreCalls bytes ((front ++ x ∷ []) ++ given)) (sym same) there in
    let rest = prefix_from bytes (front ++ c ∷ []) calls given end left right in
    (rest.0, ap (λ (x : Call). x ∷ calls) same ∙ ap (λ (xs : List Call). g ∷ xs) rest.1)

-- calls that the records in front spell stand in front of all calls
pub calls_in_front : (e : Option Expect) (bytes : List ℕ) (calls given : List Call) (end : Option StreamFault) → header_fault e bytes ≡ None → IsStream e bytes calls end → AreCalls bytes given → (after : List Call) × (calls ≡ given ++ after)
calls_in_front e bytes calls given end header stream are =
    prefix_from bytes [] calls given end (subst (λ (h : Option StreamFault). BodyReading bytes calls end h) header stream) are

no_limit : (l : Limit) → None ≡ Some l → ⊥
no_limit l e = cc

-- calls that reach no limit have none among them that does
pub within_not_over : (rank n : ℕ) (bytes : List ℕ) (calls : List Call) (end : Option StreamFault) (f : StreamFault) → IsStream (whose rank n) bytes calls end → IsWithin (rank_told rank n bytes) calls → IsTooWide rank n bytes f → ⊥
within_not_over rank n bytes calls end f stream within wide =
    let front = calls_in_front (whose rank n) bytes calls (wide.before ++ wide.call ∷ []) end wide.header stream wide.calls in
    let here : calls ≡ wide.before ++ wide.call ∷ front.0 = front.1 ∙ append_assoc wide.before (wide.call ∷ []) front.0 in
    no_limit wide.limit (sym (within_at (rank_told rank n bytes) wide.before front.0 wide.call (subst (IsWithin (rank_told rank n bytes)) here within)) ∙ wide.reached)

-- one list of calls
pub accepted_is_one : (rank n : ℕ) (bytes : List ℕ) (calls others : List Call) → Accepted rank n bytes calls → Accepted rank n bytes others → calls ≡ others
accepted_is_one rank n bytes calls others a b = (stream_is_one (whose rank n) bytes calls others None None a.complete b.complete).0

-- an accepted stream isn't refused
pub accepted_or_refused : (rank n : ℕ) (bytes : List ℕ) (calls : List Call) (f : StreamFault) → Accepted rank n bytes calls → Refused rank n bytes f → ⊥
accepted_or_refused rank n bytes calls f a (inl bad) = let no = (stream_is_one (whose rank n) bytes calls bad.calls None (Some f) a.complete bad.stream).1 in cc
accepted_or_refused rank n bytes calls f a (inr wide) = within_not_over rank n bytes calls None f a.complete a.within wide

some_fault : (f g : StreamFault) → Some f ≡ Some g → f ≡ g
some_fault f g e = cc

-- where the bytes are bad behind calls that reach no limit, this is the one refusal
pub bad_is_one : (rank n : ℕ) (bytes : List ℕ) (calls : List Call) (f g : StreamFault) → IsStream (whose rank n) bytes calls (Some f) → IsWithin (rank_told rank n bytes) calls → Refused rank n bytes g → g ≡ f
bad_is_one rank n bytes calls f g stream within (inl bad) = some_fault g f (stream_is_one (whose rank n) bytes bad.calls calls (Some g) (Some f) bad.stream stream).1
bad_is_one rank n bytes calls f g stream within (inr wide) = absurd (within_not_over rank n bytes calls (Some f) g stream within wide)

none_front : (bytes : List ℕ) (before after : List Call) (call : Call) (end : Option StreamFault) (h : Option StreamFault) → BodyReading bytes (before ++ call ∷ after) end h → h ≡ None
none_front bytes before after call end None b = refl
none_front bytes [] after call end (Some f) b = let no = b.0 in absurd cc
none_front bytes (c ∷ before) after call end (Some f) b = let no = b.0 in absurd cc

front_calls : (bytes : List ℕ) (given after : List Call) → AreCalls bytes (given ++ after) → AreCalls bytes given
front_calls bytes given after are before rest call e = are before (rest ++ after) call (ap (λ (xs : List Call). xs ++ after) e ∙ append_assoc before (call ∷ rest) after)

-- a stream whose calls reach a limit
pub over_refused : (rank n : ℕ) (bytes : List ℕ) (calls : List Call) (end : Option StreamFault) → IsStream (whose rank n) bytes calls end → (o : IsOver (rank_told rank n bytes) calls) → Refused rank n bytes (stream_fault.Bound (offset_behind o.before) o.limit)
over_refused rank n bytes calls end stream o =
    let here : IsStream (whose rank n) bytes (o.before ++ o.call ∷ o.after) end = subst (λ (xs : List Call). IsStream (whose rank n) bytes xs end) o.calls_are stream in
    let header = none_front bytes o.before o.after o.call end (header_fault (whose rank n) bytes) here in
    let reading : IsReading bytes (o.before ++ o.call ∷ o.after) end = subst (λ (h : Option StreamFault). BodyReading bytes (o.before ++ o.call ∷ o.after) end h) header here in
    let grouped : AreCalls bytes ((o.before ++ o.call ∷ []) ++ o.after) = subst (AreCalls bytes) (sym (append_assoc o.before (o.call ∷ []) o.after)) reading.each in
    inr (record {
      before = o.before;
      call = o.call;
      limit = o.limit;
      header = header;
      calls = front_calls bytes (o.before ++ o.call ∷ []) o.after grouped;
      within = o.within;
      reached = o.reached;
      fault_is = refl;
    })

-- ---- one refusal

at_over : (r : Rank) (calls : List Call) (o : IsOver r calls) → (take (length o.before) calls ≡ o.before) × (slice_get calls (length o.before) ≡ Some o.call)
at_over r calls o = (
  ap (take (length o.before)) o.calls_are ∙ front_take o.before (o.call ∷ o.after) (length o.before) (omega arith) ∙ take_all (length o.before) o.before (omega arith),
  ap (λ (xs : List Call). slice_get xs (length o.before)) o.calls_are ∙ get_there o.before o.after o.call,
)

-- a call that reaches a limit isn't in front of the first that does
not_before : (r : Rank) (calls : List Call) (a b : IsOver r calls) → length a.before < length b.before → ⊥
not_before r calls a b less =
    let x = at_over r calls a in
    let long : length a.before ≤ length b.before = omega (arith, less) in
    let call : slice_get b.before (length a.before) ≡ Some a.call =
    sym (get_front b.before (b.call ∷ b.after) (length a.before) less) ∙ ap (λ (xs : List Call). slice_get xs (length a.before)) (sym b.calls_are) ∙ x.1 in
    let front : take (length a.before) b.before ≡ a.before =
    sym (front_take b.before (b.call ∷ b.after) (length a.before) long) ∙ ap (take (length a.before)) (sym b.calls_are) ∙ x.0 in
    no_limit a.limit (sym (b.within (length a.before) a.call call) ∙ ap (λ (xs : List Call). limit_at r xs a.call) front ∙ a.reached)

some_limit : (l m : Limit) → Some l ≡ Some m → l ≡ m
some_limit l m e = cc

over_is_one : (r : Rank) (calls : List Call) (a b : IsOver r calls) → (a.before ≡ b.before) × (a.limit ≡ b.limit)
over_is_one r calls a b =
    elim (cases_order (length a.before) (length b.before)) [
      | inl same ↦ (let x = at_over r calls a in
          let y = at_over r calls b in
          let before : a.before ≡ b.before = sym x.0 ∙ ap (λ n. take n calls) same ∙ y.0 in
          let call : a.call ≡ b.call = same_call a.call b.call (sym x.1 ∙ ap (slice_get calls) same ∙ y.1) in
          (before, some_limit a.limit b.limit (sym a.reached ∙ ap (λ (xs : List Call). limit_at r xs a.call) before ∙ ap (limit_at r b.before) call ∙ b.reached)))
      | inr (inl less) ↦ absurd (not_before r calls a b less)
      | inr (inr more) ↦ absurd (not_before r calls b a more)
    ]

over_from_wide : (rank n : ℕ) (bytes : List ℕ) (calls : List Call) (end : Option StreamFault) (f : StreamFault) → IsStream (whose rank n) bytes calls end → (w : IsTooWide rank n bytes f)
    → (o : IsOver (rank_told rank n bytes) calls) × (f ≡ stream_fault.Bound (offset_behind o.before) o.limit)
over_from_wide rank n bytes calls end f stream w =
    let front = calls_in_front (whose rank n) bytes calls (w.before ++ w.call ∷ []) end w.header stream w.calls in
    (record { before = w.before; call = w.call; after = front.0; limit = w.limit; calls_are = front.1 ∙ append_assoc w.before (w.call ∷ []) front.0; within = w.within; reached = w.reached }, w.fault_is)

-- a stream has one refusal at the most
pub refused_is_one : (rank n : ℕ) (bytes : List ℕ) (f g : StreamFault) → Refused rank n bytes f → Refused rank n bytes g → f ≡ g
refused_is_one rank n bytes f g (inl a) b = sym (bad_is_one rank n bytes a.calls f g a.stream a.within b)
refused_is_one rank n bytes f g (inr a) (inl b) = bad_is_one rank n bytes b.calls g f b.stream b.within (inr a)
refused_is_one rank n bytes f g (inr a) (inr b) =
    let s = stream_exists (whose rank n) bytes in
    let x = over_from_wide rank n bytes s.0 s.1.0 f s.1.1 a in
    let y = over_from_wide rank n bytes s.0 s.1.0 g s.1.1 b in
    let one = over_is_one (rank_told rank n bytes) s.0 x.0 y.0 in
    x.1 ∙ (λ i. stream_fault.Bound (offset_behind (one.0 i)) (one.1 i)) ∙ sym y.1
