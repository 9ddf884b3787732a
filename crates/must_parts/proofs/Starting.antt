-- What a call starts.
use mathlib.Core.Path.{fun_ext}
use Rattle.std.proofs.Common.{◌≡◌, ℕ, zero, suc, ◌+◌, ◌<◌, ◌≤◌, Bool, true, false, cond, not, ◌&&◌, ◌||◌, ◌==◌, nat_eq, inl, inr, ◌⊎◌, List, [], ◌∷◌, ◌++◌, length, take, drop, get_or, Option, Some, None, length-append, append_assoc, append-nil, refl, sym, ap, subst, ◌∙◌, arith}
use Rattle.std.specs.Prelude.{if◌then◌else◌, nat_lt, is_none, slice_get, sum_by}
use Rattle.std.proofs.lemmas.List.{take_more, take-append-drop}
use Rattle.std.proofs.lemmas.List.Folds.{list_any_more}
use Rattle.std.proofs.lemmas.List.Sums.{sum_by-append}
use Rattle.must_base.specs.Listing.{Has}
use Rattle.must_call.specs.declared.class.Class.TheVariants.{Request}
use Rattle.must_call.specs.declared.place.Place.{Place}
use Rattle.must_call.specs.declared.call.Call.{Call}
use Rattle.must_call.specs.declared.body.Body.{Body}
use Rattle.must_call.specs.declared.body.Body.TheVariants.{Frame, Point, Finish, Derive, Object, Collective, Persist, Started}
use Rattle.must_call.specs.declared.persist.Persist.TheVariants.{SendInit, SsendInit, RecvInit, Start, Startall}
use Rattle.must_format.specs.declared.cause.Limit.TheVariants as limit
use Rattle.must_type.specs.Tree.{TypeTree}
use Rattle.must_find.specs.declared.rule.Rule.TheVariants.{T3}
use Rattle.must_find.specs.declared.finding.Finding.{Finding}
use Rattle.must_find.specs.Adds.{Adds}
use Rattle.must_pending.specs.declared.held.Held.{Held}
use Rattle.must_pending.specs.Clashes.{weight_of}
use Rattle.must_rules.specs.Rank.{Rank}
use Rattle.must_rules.specs.Answer.{Answer, IsAnswer}
use Rattle.must_rules.specs.Facts.{Facts}
use Rattle.must_rules.specs.Search.{or_then, only_if}
use Rattle.must_rules.specs.Making.{is_in, is_handle, frees, completes, persists, made_by, freed_of, completed_of, started_of}
use Rattle.must_rules.specs.Lives.{life, is_kept, ends}
use Rattle.must_rules.specs.Starts.{start_of, is_start_kind}
use Rattle.must_rules.specs.ArgumentHandles.{StartOf}
use Rattle.must_rules.specs.Known.{facts_of, clear_behind}
use Rattle.must_rules.specs.Types.{type_of}
use Rattle.must_rules.specs.Parts.{Part, parts_of, part_weight, numbered}
use Rattle.must_rules.specs.Overlaps.{overlap_within, overlap_between}
use Rattle.must_rules.specs.PendingOperations.{Operation, operation, parts_behind, request_in, begun_with, part_made, part_started, with_started, started_from, started_below, started, begun, left_by, pending, clash_of, started_at, pending_clash, operations_weight, most_pending, pending_weight, pending_limit_at}
use Rattle.must_parts.specs.declared.placed.Placed.{Placed}
use Rattle.must_parts.specs.Placing.{IsPlaced, IsPlacedOf}
use Rattle.must_parts.specs.Holding.{AreHeld}
use Rattle.must_parts.specs.Keeping.{part_kept}
use Rattle.must_parts.specs.Starting.{starts_now, starting, part_for, begun_for, begun_by, part_in, clash_started}
use Rattle.must_parts.specs.Rows.{IsOfRule, OverlapRows, BufferRows, IsPendingLimit, IsWide}
use Rattle.must_parts.specs.Telling.{SeesStarts}
use Rattle.must_parts.specs.declared.fault.BuffersFault.{BuffersFault}
use Rattle.must_parts.specs.declared.fault.BuffersFault.TheVariants.{TooWide, NoMemory}
use Rattle.must_rules.specs.Clear.{is_clear}
use Rattle.must_parts.proofs.Rows.{none_is_not}
use Rattle.must_parts.proofs.Taking.{pending_more, held_weight}
use Rattle.must_parts.proofs.Keeping.{start_persists, take_there}
use Rattle.must_parts.proofs.Ending.{same_number}

-- ---- the requests of a list

starting_last : (clear : Bool) (starts : StartOf) (before xs : List ℕ) (x : ℕ)
    → starting clear starts before (xs ++ x ∷ []) ≡ starting clear starts before xs ++ (if starts_now clear starts (is_in (before ++ xs) x) x then Some x else None) ∷ []
starting_last clear starts before [] x = ap (λ (l : List ℕ). (if starts_now clear starts (is_in l x) x then Some x else None) ∷ []) (sym (append-nil before))
starting_last clear starts before (y ∷ xs) x =
    ap (λ (l : List (Option ℕ)). (if starts_now clear starts (is_in before y) y then Some y else None) ∷ l)
    (starting_last clear starts (before ++ y ∷ []) xs x
    ∙ ap (λ (l : List ℕ). starting clear starts (before ++ y ∷ []) xs ++ (if starts_now clear starts (is_in l x) x then Some x else None) ∷ []) (append_assoc before (y ∷ []) xs))

-- one request more
pub starting_more : (clear : Bool) (starts : StartOf) (xs : List ℕ) (i : ℕ) (again : Bool) (old new : List (Option ℕ)) → i < length xs → again ≡ is_in (take i xs) (get_or xs i 0)
    → old ≡ starting clear starts [] (take i xs) → new ≡ old ++ (if starts_now clear starts again (get_or xs i 0) then Some (get_or xs i 0) else None) ∷ [] → new ≡ starting clear starts [] (take (i + 1) xs)
starting_more clear starts xs i again old new within seen before e =
    let x = get_or xs i 0 in
    e ∙ ap (λ (l : List (Option ℕ)). l ++ (if starts_now clear starts again x then Some x else None) ∷ []) before
    ∙ ap (λ (b : Bool). starting clear starts [] (take i xs) ++ (if starts_now clear starts b x then Some x else None) ∷ []) seen
    ∙ sym (starting_last clear starts [] (take i xs) x)
    ∙ ap (starting clear starts []) (sym (take_more xs i 0 within))

pub seen_more : (xs : List ℕ) (i h : ℕ) (old new : Bool) → i < length xs → old ≡ is_in (take i xs) h → new ≡ (old || nat_eq h (get_or xs i 0)) → new ≡ is_in (take (i + 1) xs) h
seen_more xs i h old new within before e =
    e ∙ ap (λ (b : Bool). b || nat_eq h (get_or xs i 0)) before ∙ ap (λ (b : Bool). is_in (take i xs) h || b) (same_number (get_or xs i 0) h) ∙ sym (list_any_more (λ n. n == h) xs i 0 within)

starting_take : (clear : Bool) (starts : StartOf) (before xs : List ℕ) (n : ℕ) → take n (starting clear starts before xs) ≡ starting clear starts before (take n xs)
starting_take clear starts before xs zero = refl
starting_take clear starts before [] (suc n) = refl
starting_take clear starts before (x ∷ xs) (suc n) = ap (λ (l : List (Option ℕ)). (if starts_now clear starts (is_in before x) x then Some x else None) ∷ l) (starting_take clear starts (before ++ x ∷ []) xs n)

-- ---- what is begun

for_append : (call : ℕ) (part : ℕ → Option Part) (o : Option ℕ) (xs : List Operation) → begun_for call part o xs ≡ begun_for call part o [] ++ xs
for_append call part None xs = refl
for_append call part (Some x) xs = at (part x)
  where
    at : (p : Option Part) → with_started call x p xs ≡ with_started call x p [] ++ xs
    at None = refl
    at (Some p) = refl

by_append : (call : ℕ) (part : ℕ → Option Part) (os us : List (Option ℕ)) → begun_by call part (os ++ us) ≡ begun_by call part os ++ begun_by call part us
by_append call part [] us = refl
by_append call part (o ∷ os) us =
    ap (begun_for call part o) (by_append call part os us)
    ∙ for_append call part o (begun_by call part os ++ begun_by call part us)
    ∙ sym (append_assoc (begun_for call part o []) (begun_by call part os) (begun_by call part us))
    ∙ ap (λ (l : List Operation). l ++ begun_by call part us) (sym (for_append call part o (begun_by call part os)))

pub begun_more : (call : ℕ) (part : ℕ → Option Part) (os : List (Option ℕ)) (i : ℕ) (d : Option ℕ) → i < length os → begun_by call part (take (i + 1) os) ≡ begun_by call part (take i os) ++ begun_for call part (get_or os i d) []
begun_more call part os i d within = ap (begun_by call part) (take_more os i d within) ∙ by_append call part (take i os) (get_or os i d ∷ [])

-- one weight more
pub weight_more : (call : ℕ) (part : ℕ → Option Part) (os : List (Option ℕ)) (i : ℕ) (d : Option ℕ) (old one new : ℕ) → i < length os → old ≡ operations_weight (begun_by call part (take i os))
    → one ≡ operations_weight (begun_for call part (get_or os i d) []) → new ≡ old + one → new ≡ operations_weight (begun_by call part (take (i + 1) os))
weight_more call part os i d old one new within before e sum =
    sum ∙ ap (λ (n : ℕ). n + one) before ∙ ap (λ (n : ℕ). operations_weight (begun_by call part (take i os)) + n) e
    ∙ sym (sum_by-append (λ (o : Operation). part_weight o.part) (begun_by call part (take i os)) (begun_for call part (get_or os i d) []))
    ∙ ap operations_weight (sym (begun_more call part os i d within))

-- the operation of one request
pub one_weight : (call : ℕ) (part : ℕ → Option Part) (o : Option ℕ) (x : Placed) → IsPlacedOf (Some x) (part_for part o) → x.weight ≡ operations_weight (begun_for call part o [])
one_weight call part None x is = absurd is
one_weight call part (Some n) x is = at (part n) is
  where
    at : (p : Option Part) → IsPlacedOf (Some x) p → x.weight ≡ operations_weight (with_started call n p [])
    at None m = absurd m
    at (Some p) m = let e = m.weight_is in omega (arith, e)

pub no_weight : (call : ℕ) (part : ℕ → Option Part) (o : Option ℕ) → IsPlacedOf None (part_for part o) → 0 ≡ operations_weight (begun_for call part o [])
no_weight call part None is = refl
no_weight call part (Some n) is = at (part n) is
  where
    at : (p : Option Part) → IsPlacedOf None p → 0 ≡ operations_weight (with_started call n p [])
    at None m = refl
    at (Some p) m = absurd m

-- none begun
pub begun_nothing : (call : ℕ) (part : ℕ → Option Part) (o : Option ℕ) (hs : List Held) (ops : List Operation) → IsPlacedOf None (part_for part o) → AreHeld hs ops → AreHeld hs (ops ++ begun_for call part o [])
begun_nothing call part None hs ops is held = subst (AreHeld hs) (sym (append-nil ops)) held
begun_nothing call part (Some n) hs ops is held = at (part n) is
  where
    at : (p : Option Part) → IsPlacedOf None p → AreHeld hs (ops ++ with_started call n p [])
    at None m = subst (AreHeld hs) (sym (append-nil ops)) held
    at (Some p) m = absurd m

pub begun_part : (call : ℕ) (part : ℕ → Option Part) (n : ℕ) (x : Placed) (hs : List Held) (ops : List Operation) → IsPlacedOf (Some x) (part n)
    → ((p : Part) → IsPlaced x p → AreHeld hs (ops ++ operation call n p ∷ [])) → AreHeld hs (ops ++ begun_for call part (Some n) [])
begun_part call part n x hs ops is held = at (part n) is
  where
    at : (p : Option Part) → IsPlacedOf (Some x) p → AreHeld hs (ops ++ with_started call n p [])
    at None m = absurd m
    at (Some p) m = held p m

-- what is held with one operation more
pub held_more : (call : ℕ) (part : ℕ → Option Part) (os : List (Option ℕ)) (i : ℕ) (d : Option ℕ) (hs : List Held) (ops : List Operation) → i < length os
    → AreHeld hs ((ops ++ begun_by call part (take i os)) ++ begun_for call part (get_or os i d) []) → AreHeld hs (ops ++ begun_by call part (take (i + 1) os))
held_more call part os i d hs ops within held =
    subst (AreHeld hs)
    (append_assoc ops (begun_by call part (take i os)) (begun_for call part (get_or os i d) []) ∙ ap (λ (l : List Operation). ops ++ l) (sym (begun_more call part os i d within)))
    held

-- ---- the rows of T3

-- those at the parts below a number
pub record IsBelow (at : Place) (answers : ℕ → Option Answer) (i : ℕ) (f : Finding) : Type 0 where
  pub is : IsOfRule at T3 answers f
  pub below : f.part < i

pub none_below : (at : Place) (answers : ℕ → Option Answer) (rows : List Finding) → Adds rows rows (IsBelow at answers 0)
none_below at answers rows = λ f. (λ h. inl h, λ h. elim h [ inl o ↦ o | inr z ↦ (let b = z.below in absurd (omega (arith, b))) ])

pub more_below : (at : Place) (answers : ℕ → Option Answer) (i : ℕ) (answer : Option Answer) (old mid new : List Finding) → answer ≡ answers i → Adds old mid (IsBelow at answers i) → Adds mid new (IsAnswer at.rank at.call T3 i answer) → Adds old new (IsBelow at answers (i + 1))
more_below at answers i answer old mid new e a b = λ f. (there f, back f)
  where
    there : (f : Finding) → Has new f → Has old f ⊎ IsBelow at answers (i + 1) f
    there f h = elim ((b f).0 h) [
      | inl m ↦ elim ((a f).0 m) [ inl o ↦ inl o | inr z ↦ (let low = z.below in inr (record { is = z.is; below = omega (arith, low) })) ]
      | inr z ↦ (let same = z.part_is in inr (record { is = record { rank_is = z.rank_is; call_is = z.call_is; rule_is = z.rule_is; gives = ap answers z.part_is ∙ sym e ∙ z.gives }; below = omega (arith, same) }))
    ]

    by_part : (f : Finding) → IsBelow at answers (i + 1) f → (b : Bool) → (f.part == i) ≡ b → Has new f
    by_part f h true c =
        let same : f.part ≡ i = grind arith in
        (b f).1 (inr (record { rank_is = h.is.rank_is; call_is = h.is.call_is; rule_is = h.is.rule_is; part_is = same; gives = e ∙ ap answers (sym same) ∙ h.is.gives }))
    by_part f h false c =
        let low = h.below in
        let apart : (f.part ≡ i) → ⊥ = λ k. grind arith in
        (b f).1 (inl ((a f).1 (inr (record { is = h.is; below = lower low apart }))))
      where
        lower : f.part < i + 1 → (f.part ≡ i → ⊥) → f.part < i
        lower low apart = omega (arith, low, apart)

    back : (f : Finding) → Has old f ⊎ IsBelow at answers (i + 1) f → Has new f
    back f (inl h) = (b f).1 (inl ((a f).1 (inl h)))
    back f (inr h) = by_part f h (f.part == i) refl

pub all_below : (at : Place) (answers : ℕ → Option Answer) (i : ℕ) (old new : List Finding) → ((n : ℕ) → i ≤ n → answers n ≡ None) → Adds old new (IsBelow at answers i) → Adds old new (IsOfRule at T3 answers)
all_below at answers i old new none a = λ f. (there f, back f)
  where
    there : (f : Finding) → Has new f → Has old f ⊎ IsOfRule at T3 answers f
    there f h = elim ((a f).0 h) [ inl o ↦ inl o | inr z ↦ inr z.is ]

    by_part : (f : Finding) → IsOfRule at T3 answers f → (b : Bool) → nat_lt f.part i ≡ b → Has new f
    by_part f h true c = let low : f.part < i = grind arith in (a f).1 (inr (record { is = h; below = low }))
    by_part f h false c = let high : i ≤ f.part = grind arith in absurd (none_is_not (answers f.part) (f.see, f.value) (none f.part high) h.gives)

    back : (f : Finding) → Has old f ⊎ IsOfRule at T3 answers f → Has new f
    back f (inl h) = (a f).1 (inl h)
    back f (inr h) = by_part f h (nat_lt f.part i) refl

past : (os : List (Option ℕ)) (n : ℕ) → length os ≤ n → slice_get os n ≡ None
past [] n h = refl
past (o ∷ os) zero h = absurd (omega arith)
past (o ∷ os) (suc n) h = past os n (omega arith)

pub clash_past : (rank call : ℕ) (part : ℕ → Option Part) (ops : List Operation) (os : List (Option ℕ)) (i n : ℕ) → length os ≤ i → i ≤ n → clash_started rank call part ops os n ≡ None
clash_past rank call part ops os i n h k = ap (λ (o : Option (Option ℕ)). clash_of rank (ops ++ begun_by call part (take n os)) (part_in part o)) (past os n (omega (arith, h, k)))

there_is : (os : List (Option ℕ)) (i : ℕ) (d : Option ℕ) → i < length os → slice_get os i ≡ Some (get_or os i d)
there_is [] i d h = absurd (omega arith)
there_is (o ∷ os) zero d h = refl
there_is (o ∷ os) (suc i) d h = there_is os i d (omega arith)

pub clash_at : (rank call : ℕ) (part : ℕ → Option Part) (ops : List Operation) (os : List (Option ℕ)) (i : ℕ) (d : Option ℕ) → i < length os → clash_of rank (ops ++ begun_by call part (take i os)) (part_for part (get_or os i d)) ≡ clash_started rank call part ops os i
clash_at rank call part ops os i d h = ap (λ (o : Option (Option ℕ)). clash_of rank (ops ++ begun_by call part (take i os)) (part_in part o)) (sym (there_is os i d h))

-- ---- what the rules say of a call that starts requests

started_one : (clear kept again : Bool) (s : Option ℕ) (k x : ℕ) (part : ℕ → Option Part) (made : Option Part) → part x ≡ (if kept then made else None)
    → (if (clear && (kept && is_none (or_then s (only_if (clear && (again && kept)) k)))) then made else None) ≡ part_for part (if (clear && (is_none s && not again)) then Some x else None)
started_one false kept again s k x part made e = refl
started_one true false again (Some n) k x part made e = refl
started_one true false true None k x part made e = refl
started_one true false false None k x part made e = sym e
started_one true true again (Some n) k x part made e = refl
started_one true true true None k x part made e = refl
started_one true true false None k x part made e = sym e

module _ (r : Rank) (earlier : List Call) (call : Call) where
  part_is : (index x : ℕ) (before : List ℕ) → take index (started_of call.body) ≡ before
      → part_started r earlier call index x ≡ part_for (part_kept r earlier) (if starts_now (clear_behind r earlier call) (start_of (clear_behind r) earlier) (is_in before x) x then Some x else None)
  unfolding part_started part_kept
  part_is index x before e =
      ap (λ (l : List ℕ). if (clear_behind r earlier call && (is_kept earlier Request x && is_none (or_then (start_of (clear_behind r) earlier x) (only_if (clear_behind r earlier call && (is_in l x && is_kept earlier Request x)) (length earlier))))) then part_made r earlier (life earlier Request x) else None) e
      ∙ started_one (clear_behind r earlier call) (is_kept earlier Request x) (is_in before x) (start_of (clear_behind r) earlier x) (length earlier) x (part_kept r earlier) (part_made r earlier (life earlier Request x)) refl

  from_is : (before xs rest : List ℕ) → before ++ (xs ++ rest) ≡ started_of call.body
      → started_from r earlier call (length before) xs ≡ begun_by (length earlier) (part_kept r earlier) (starting (clear_behind r earlier call) (start_of (clear_behind r) earlier) before xs)
  from_is before [] rest e = refl
  from_is before (x ∷ xs) rest e =
      let front : take (length before) (started_of call.body) ≡ before = ap (take (length before)) (sym e) ∙ take_there before (x ∷ (xs ++ rest)) in
      let next : suc (length before) ≡ length (before ++ x ∷ []) = omega (arith, length-append before (x ∷ [])) in
      ap (λ (p : Option Part). with_started (length earlier) x p (started_from r earlier call (suc (length before)) xs)) (part_is (length before) x before front)
      ∙ ap (λ (n : ℕ). with_started (length earlier) x (part_for (part_kept r earlier) (at x)) (started_from r earlier call n xs)) next
      ∙ ap (with_started (length earlier) x (part_for (part_kept r earlier) (at x))) (from_is (before ++ x ∷ []) xs rest (append_assoc before (x ∷ []) (xs ++ rest) ∙ e))
      ∙ begun_if (starts_now (clear_behind r earlier call) (start_of (clear_behind r) earlier) (is_in before x) x) x (begun_by (length earlier) (part_kept r earlier) (starting (clear_behind r earlier call) (start_of (clear_behind r) earlier) (before ++ x ∷ []) xs))
    where
      at : ℕ → Option ℕ
      at x = if starts_now (clear_behind r earlier call) (start_of (clear_behind r) earlier) (is_in before x) x then Some x else None

      begun_if : (b : Bool) (x : ℕ) (others : List Operation) → with_started (length earlier) x (part_for (part_kept r earlier) (if b then Some x else None)) others ≡ begun_for (length earlier) (part_kept r earlier) (if b then Some x else None) others
      begun_if true x others = refl
      begun_if false x others = refl

  pub below_is : (n : ℕ) → started_below r earlier call n ≡ begun_by (length earlier) (part_kept r earlier) (take n (starting (clear_behind r earlier call) (start_of (clear_behind r) earlier) [] (started_of call.body)))
  below_is n =
      from_is [] (take n (started_of call.body)) (drop n (started_of call.body)) (take-append-drop n (started_of call.body))
      ∙ ap (begun_by (length earlier) (part_kept r earlier)) (sym (starting_take (clear_behind r earlier call) (start_of (clear_behind r) earlier) [] (started_of call.body) n))

  pub started_is : started r earlier call ≡ begun_by (length earlier) (part_kept r earlier) (starting (clear_behind r earlier call) (start_of (clear_behind r) earlier) [] (started_of call.body))
  started_is = from_is [] (started_of call.body) [] (append-nil (started_of call.body))

  index_is : (before xs : List ℕ) (i : ℕ) → before ++ xs ≡ started_of call.body
      → started_at r earlier call (length before + i) (slice_get xs i) ≡ part_in (part_kept r earlier) (slice_get (starting (clear_behind r earlier call) (start_of (clear_behind r) earlier) before xs) i)
  index_is before [] i e = refl
  index_is before (x ∷ xs) zero e =
      let here : length before + 0 ≡ length before = omega arith in
      part_is (length before + 0) x before (ap (λ (n : ℕ). take n (started_of call.body)) here ∙ ap (take (length before)) (sym e) ∙ take_there before (x ∷ xs))
  index_is before (x ∷ xs) (suc i) e =
      let next : length before + suc i ≡ length (before ++ x ∷ []) + i = omega (arith, length-append before (x ∷ [])) in
      ap (λ (n : ℕ). started_at r earlier call n (slice_get xs i)) next ∙ index_is (before ++ x ∷ []) xs i (append_assoc before (x ∷ []) xs ∙ e)

  pub clash_is : (n : ℕ) → is_start_kind call.body ≡ true
      → clash_started r.rank (length earlier) (part_kept r earlier) (pending r earlier) (starting (clear_behind r earlier call) (start_of (clear_behind r) earlier) [] (started_of call.body)) n ≡ pending_clash r earlier call n
  unfolding pending_clash
  clash_is n s =
      sym (ap (λ (b : Bool). if b then clash_of r.rank (pending r earlier ++ started_below r earlier call n) (started_at r earlier call n (slice_get (started_of call.body) n)) else clash_of r.rank (pending r earlier) (numbered n (parts_behind r earlier call))) (start_persists call.body s)
      ∙ ap (λ (l : List Operation). clash_of r.rank (pending r earlier ++ l) (started_at r earlier call n (slice_get (started_of call.body) n))) (below_is n)
      ∙ ap (clash_of r.rank (pending r earlier ++ begun_by (length earlier) (part_kept r earlier) (take n (starting (clear_behind r earlier call) (start_of (clear_behind r) earlier) [] (started_of call.body)))))
      (ap (λ (k : ℕ). started_at r earlier call k (slice_get (started_of call.body) n)) first ∙ index_is [] (started_of call.body) n refl))
    where
      first : n ≡ length {A = ℕ} [] + n
      first = omega arith

-- ---- no parts of its own, and nothing ended

no_parts_in : (facts : Facts) (types : ℕ → Option TypeTree) (b : Body) → is_start_kind b ≡ true → parts_of facts types b ≡ []
unfolding parts_of
no_parts_in facts types (Persist (Start request)) e = refl
no_parts_in facts types (Persist (Startall requests)) e = refl
no_parts_in facts types (Persist (SendInit a b c d f g h)) e = let no : false ≡ true = e in absurd cc
no_parts_in facts types (Persist (SsendInit a b c d f g h)) e = let no : false ≡ true = e in absurd cc
no_parts_in facts types (Persist (RecvInit a b c d f g h)) e = let no : false ≡ true = e in absurd cc
no_parts_in facts types (Frame x) e = let no : false ≡ true = e in absurd cc
no_parts_in facts types (Point x) e = let no : false ≡ true = e in absurd cc
no_parts_in facts types (Finish x) e = let no : false ≡ true = e in absurd cc
no_parts_in facts types (Derive x) e = let no : false ≡ true = e in absurd cc
no_parts_in facts types (Object x) e = let no : false ≡ true = e in absurd cc
no_parts_in facts types (Collective x) e = let no : false ≡ true = e in absurd cc
no_parts_in facts types (Started x) e = let no : false ≡ true = e in absurd cc

pub no_parts : (r : Rank) (earlier : List Call) (call : Call) → is_start_kind call.body ≡ true → parts_behind r earlier call ≡ []
unfolding parts_behind
no_parts r earlier call e = no_parts_in (facts_of r earlier) (type_of (clear_behind r) earlier) call.body e

ends_none : (b : Body) (returned : Bool) (n : ℕ) → is_start_kind b ≡ true
    → ((returned && is_handle Request n (freed_of b)) || (true && (returned && (true && is_in (completed_of b) n)))) ≡ false
ends_none (Persist (Start request)) true n e = refl
ends_none (Persist (Start request)) false n e = refl
ends_none (Persist (Startall requests)) true n e = refl
ends_none (Persist (Startall requests)) false n e = refl
ends_none (Persist (SendInit a b c d f g h)) returned n e = let no : false ≡ true = e in absurd cc
ends_none (Persist (SsendInit a b c d f g h)) returned n e = let no : false ≡ true = e in absurd cc
ends_none (Persist (RecvInit a b c d f g h)) returned n e = let no : false ≡ true = e in absurd cc
ends_none (Frame x) returned n e = let no : false ≡ true = e in absurd cc
ends_none (Point x) returned n e = let no : false ≡ true = e in absurd cc
ends_none (Finish x) returned n e = let no : false ≡ true = e in absurd cc
ends_none (Derive x) returned n e = let no : false ≡ true = e in absurd cc
ends_none (Object x) returned n e = let no : false ≡ true = e in absurd cc
ends_none (Collective x) returned n e = let no : false ≡ true = e in absurd cc
ends_none (Started x) returned n e = let no : false ≡ true = e in absurd cc

ends_not : (call : Call) (n : ℕ) → is_start_kind call.body ≡ true → ends false Request n call ≡ false
unfolding frees completes
ends_not call n e = ends_none call.body call.returned n e

left_all : (call : Call) (ops : List Operation) → is_start_kind call.body ≡ true → left_by call ops ≡ ops
left_all call [] e = refl
left_all call (o ∷ ops) e = ap (λ (b : Bool). cond (not b) (o ∷ left_by call ops) (left_by call ops)) (ends_not call o.request e) ∙ ap (λ (l : List Operation). o ∷ l) (left_all call ops e)

pub pending_start : (r : Rank) (earlier : List Call) (call : Call) → is_start_kind call.body ≡ true → pending r earlier ++ started r earlier call ≡ pending r (earlier ++ call ∷ [])
unfolding persists
pending_start r earlier call e =
    sym (pending_more r earlier call
    ∙ ap (λ (l : List Operation). l ++ begun r earlier call) (left_all call (pending r earlier) e)
    ∙ ap (λ (q : Bool). pending r earlier ++ (begun_with (length earlier) (if q then None else request_in (made_by call)) (parts_behind r earlier call) ++ started r earlier call)) (start_persists call.body e))

-- ---- the limit

pub limit_start : (r : Rank) (earlier : List Call) (call : Call) (size : ℕ) (wide : Bool) → r.size ≡ size → is_start_kind call.body ≡ true
    → nat_lt (most_pending size) (operations_weight (pending r earlier) + operations_weight (started r earlier call)) ≡ wide → pending_limit_at r earlier call ≡ (if wide then Some limit.PendingWeight else None)
unfolding pending_limit_at
limit_start r earlier call size wide s e is =
    let own : sum_by part_weight (parts_behind r earlier call) ≡ 0 = ap (sum_by part_weight) (no_parts r earlier call e) in
    let all : pending_weight r earlier call ≡ operations_weight (pending r earlier) + operations_weight (started r earlier call) = omega (arith, own) in
    ap (λ (b : Bool). if b then Some limit.PendingWeight else None)
    (ap (λ (n : ℕ). nat_lt (most_pending n) (pending_weight r earlier call)) s ∙ ap (nat_lt (most_pending size)) all ∙ is)

-- ---- rows of T3 alone

pub only_clashes : (at : Place) (answers : ℕ → Option Answer) (ps : List Part) (old new : List Finding) → ps ≡ [] → Adds old new (IsOfRule at T3 answers) → Adds old new (λ f. OverlapRows at ps f ⊎ IsOfRule at T3 answers f)
unfolding overlap_within overlap_between
only_clashes at answers ps old new e a =
    subst (λ (l : List Part). Adds old new (λ f. OverlapRows at l f ⊎ IsOfRule at T3 answers f)) (sym e) (λ f. (there f, back f))
  where
    there : (f : Finding) → Has new f → Has old f ⊎ (OverlapRows at [] f ⊎ IsOfRule at T3 answers f)
    there f h = elim ((a f).0 h) [ inl o ↦ inl o | inr z ↦ inr (inr z) ]

    not_between : (n : ℕ) → overlap_between [] n ≡ None
    not_between n = by (n == 1)
      where
        by : (b : Bool) → cond {A = Option Answer} b None None ≡ None
        by true = refl
        by false = refl

    none : (f : Finding) → OverlapRows at [] f → ⊥
    none f (inl h) = none_is_not None (f.see, f.value) refl h.gives
    none f (inr h) = none_is_not (overlap_between [] f.part) (f.see, f.value) (not_between f.part) h.gives

    back : (f : Finding) → Has old f ⊎ (OverlapRows at [] f ⊎ IsOfRule at T3 answers f) → Has new f
    back f (inl h) = (a f).1 (inl h)
    back f (inr (inl h)) = absurd (none f h)
    back f (inr (inr h)) = (a f).1 (inr h)

-- ---- all that a call starts

module _ (r : Rank) (calls : List Call) (call : Call) (at : Place) (os : List (Option ℕ)) (start : is_start_kind call.body ≡ true) (len : length calls ≡ at.call)
    (os_are : os ≡ starting (clear_behind r calls call) (start_of (clear_behind r) calls) [] (started_of call.body)) where
  begun_is : begun_by at.call (part_kept r calls) os ≡ started r calls call
  begun_is =
      ap (λ (l : List (Option ℕ)). begun_by at.call (part_kept r calls) l) os_are
      ∙ ap (λ (n : ℕ). begun_by n (part_kept r calls) (starting (clear_behind r calls call) (start_of (clear_behind r) calls) [] (started_of call.body))) (sym len)
      ∙ sym (started_is r calls call)

  pub start_stands : (hs : List Held) → AreHeld hs (pending r calls ++ begun_by at.call (part_kept r calls) os) → AreHeld hs (pending r (calls ++ call ∷ []))
  start_stands hs held = subst (AreHeld hs) (ap (λ (l : List Operation). pending r calls ++ l) begun_is ∙ pending_start r calls call start) held

  answer_is : (rank n : ℕ) → r.rank ≡ rank → clash_started rank at.call (part_kept r calls) (pending r calls) os n ≡ pending_clash r calls call n
  answer_is rank n e =
      ap (λ (l : List (Option ℕ)). clash_started rank at.call (part_kept r calls) (pending r calls) l n) os_are
      ∙ ap (λ (k : ℕ). clash_started k at.call (part_kept r calls) (pending r calls) (starting (clear_behind r calls call) (start_of (clear_behind r) calls) [] (started_of call.body)) n) (sym e)
      ∙ ap (λ (k : ℕ). clash_started r.rank k (part_kept r calls) (pending r calls) (starting (clear_behind r calls call) (start_of (clear_behind r) calls) [] (started_of call.body)) n) (sym len)
      ∙ clash_is r calls call n start

  pub start_rows : (old new : List Finding) → r.rank ≡ at.rank → Adds old new (IsOfRule at T3 (clash_started at.rank at.call (part_kept r calls) (pending r calls) os)) → Adds old new (BufferRows at r calls call)
  start_rows old new e a =
      let same : clash_started at.rank at.call (part_kept r calls) (pending r calls) os ≡ pending_clash r calls call = fun_ext (λ (n : ℕ). answer_is at.rank n e) in
      only_clashes at (pending_clash r calls call) (parts_behind r calls call) old new (no_parts r calls call start)
      (subst (λ (answers : ℕ → Option Answer). Adds old new (IsOfRule at T3 answers)) same a)

  pub start_limit : (size : ℕ) (wide : Bool) → r.size ≡ size → nat_lt (most_pending size) (operations_weight (pending r calls) + operations_weight (begun_by at.call (part_kept r calls) os)) ≡ wide
      → pending_limit_at r calls call ≡ (if wide then Some limit.PendingWeight else None)
  start_limit size wide s e = limit_start r calls call size wide s start (ap (λ (l : List Operation). nat_lt (most_pending size) (operations_weight (pending r calls) + operations_weight l)) (sym begun_is) ∙ e)

  pub start_over : (size : ℕ) (fault : BuffersFault) → r.size ≡ size → IsWide (nat_lt (most_pending size) (operations_weight (pending r calls) + operations_weight (begun_by at.call (part_kept r calls) os))) fault
      → IsPendingLimit (pending_limit_at r calls call) fault
  start_over size TooWide s w = start_limit size true s w
  start_over size NoMemory s w = tt

-- what is asked at a call
pub starting_is : (r : Rank) (calls : List Call) (call : Call) (facts : Facts) (starts : StartOf) (clear : Bool) (xs : List ℕ) → SeesStarts r calls facts starts → clear ≡ is_clear facts call.body → xs ≡ started_of call.body
    → starting clear starts [] xs ≡ starting (clear_behind r calls call) (start_of (clear_behind r) calls) [] (started_of call.body)
unfolding clear_behind
starting_is r calls call facts starts clear xs sees c e =
    ap (λ (b : Bool). starting b starts [] xs) (c ∙ ap (λ (f : Facts). is_clear f call.body) sees.facts_are)
    ∙ ap (λ (s : StartOf). starting (is_clear (facts_of r calls) call.body) s [] xs) sees.starts_are
    ∙ ap (starting (is_clear (facts_of r calls) call.body) (start_of (clear_behind r) calls) []) e

-- the weights that are held, with those of what is started
pub wide_is : (hs : List Held) (ops begun : List Operation) (size own held : ℕ) (wide : Bool) → AreHeld hs ops → held ≡ weight_of hs → own ≡ operations_weight begun → wide ≡ nat_lt (most_pending size) (held + own)
    → nat_lt (most_pending size) (operations_weight ops + operations_weight begun) ≡ wide
wide_is hs ops begun size own held wide m h o w =
    sym (w ∙ ap (λ (n : ℕ). nat_lt (most_pending size) (n + own)) (h ∙ held_weight hs ops m) ∙ ap (λ (n : ℕ). nat_lt (most_pending size) (operations_weight ops + n)) o)

-- nothing is pending before the first call
pub held_first : (r : Rank) (hs : List Held) → hs ≡ [] → AreHeld hs (pending r [])
unfolding pending
held_first r hs e = subst (λ (l : List Held). AreHeld l (pending r [])) (sym e) tt
