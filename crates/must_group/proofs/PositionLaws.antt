-- What lists of positions give, in the words of the standard.
use Rattle.std.proofs.Common.{◌≡◌, inl, inr, ⊎_elim, ℕ, zero, suc, ◌+◌, ◌<◌, ◌≤◌, Bool, true, false, not, ◌&&◌, cond, ℤ, pos, negsuc, List, [], ◌∷◌, length, take, get_or, Option, Some, None, is_none, sym, refl, ap, ◌∙◌, arith, nat_eq, nat_lt, nat_abs, slice_index, slice_index_or}
use Rattle.std.specs.Prelude.{find, Contains, IfSome, Decides}
use Rattle.std.specs.Cmp.{nat_eq_equiv, int_eq_equiv, signed_Decides}
use Rattle.std.specs.List.{All, IsDistinct}
use Rattle.std.specs.Ordering.{int_eq}
use Rattle.std.specs.Set.{is_member}
use Rattle.std.proofs.lemmas.Bool.{true≢false, lt-ltb, or_from, or_cases, false_from_ne_true}
use Rattle.std.proofs.lemmas.Bool.Decides.{Decides-not}
use Rattle.std.proofs.lemmas.Int.{ints}
use Rattle.std.proofs.lemmas.List.{get_or-map, length-map, get_or_default, get_or-take, length-take-le, take_all}
use Rattle.std.proofs.lemmas.List.Elements.{All-contains}
use Rattle.std.proofs.lemmas.List.Folds.{find-append, list_any_at, list_any_none}
use Rattle.std.proofs.lemmas.Map.Keys.{apart_from_distinct, IsDistinct-from_apart}
use Rattle.std.proofs.lemmas.Map.Made.{is_member-Decides, length-from_same_keys, length-intersection_difference}
use Rattle.must_group.specs.Groups.{position_of, is_bad_at, below, first_bad, incl, difference, intersection}
use Rattle.must_group.specs.GroupLaws.{IsPosition, ValidLaw, FirstBadLaw, IsFirstBad, InclLaw, ExclLaw}
use Rattle.must_group.proofs.Distinct.{filter_distinct}
use Rattle.must_group.proofs.Listed.{good_at, good_place, none_below, incl_distinct, excl_is, member_listed, found_below}
use Rattle.must_group.proofs.SetLaws.{member, difference_member, intersection_member, filter_order}

pub incl_law : InclLaw
incl_law members listed distinct good = record {
  count = length-map listed (λ rank. slice_index members (nat_abs rank));
  each = λ i within. get_or-map (λ rank. slice_index members (nat_abs rank)) listed i (pos 0) 0 within;
  once = incl_distinct members listed distinct good;
}

int_member : (xs : List ℤ) (x : ℤ) → Decides (is_member int_eq xs x) (Contains xs x)
int_member xs x = is_member-Decides signed_Decides xs x

-- the listed members are members
included : (members : List ℕ) (listed : List ℤ) → first_bad (length members) listed ≡ None → All (λ x. is_member nat_eq members x ≡ true) (incl members listed)
included members listed good i d within =
    let f : ℤ → ℕ = λ rank. slice_index members (nat_abs rank) in
    let in_list : i < length listed = omega (arith, length-map listed f) in
    let at = good_at (length members) listed good i in_list in
    rw (get_or-map f listed i (pos 0) d in_list) (list_any_at (nat_eq (f (slice_index_or listed i (pos 0)))) members (nat_abs (slice_index_or listed i (pos 0))) 0 at.within (nat_eq_equiv.refl (f (slice_index_or listed i (pos 0)))))

and_is : (a b : Bool) → (b ≡ true → a ≡ true) → (a && b) ≡ b
and_is true b h = refl
and_is false true h = h refl
and_is false false h = refl

excl_count : (members : List ℕ) (listed : List ℤ) → IsDistinct nat_eq members → first_bad (length members) listed ≡ None → length (difference members (incl members listed)) + length listed ≡ length members
excl_count members listed distinct good =
    let chosen = incl members listed in
    let shared = intersection members chosen in
    let left = difference members chosen in
    let shared_once = filter_distinct (λ rank. is_member nat_eq chosen rank) members distinct in
    let left_once = filter_distinct (λ rank. not (is_member nat_eq chosen rank)) members distinct in
    let sum = length-intersection_difference nat_eq_equiv members chosen shared left distinct shared_once left_once (intersection_member members chosen) (difference_member members chosen) in
    let same = length-from_same_keys nat_eq_equiv shared chosen shared_once (incl_distinct members listed distinct good) (λ q. intersection_member members chosen q ∙ and_is (is_member nat_eq members q) (is_member nat_eq chosen q) (λ h. All-contains (λ x. is_member nat_eq members x ≡ true) chosen q (included members listed good) ((member chosen q).0 h))) in
    omega (arith, sum, same, length-map listed (λ rank. slice_index members (nat_abs rank)))

kept_is : (members : List ℕ) (listed : List ℤ) → IsDistinct nat_eq members → first_bad (length members) listed ≡ None → (k : ℕ) → k < length members → is_member nat_eq (difference members (incl members listed)) (slice_index members k) ≡ not (is_member int_eq listed (pos k))
kept_is members listed distinct good k within =
    difference_member members (incl members listed) (slice_index members k)
    ∙ ap (λ b. b && not (is_member nat_eq (incl members listed) (slice_index members k))) (list_any_at (nat_eq (slice_index members k)) members k 0 within (nat_eq_equiv.refl (slice_index members k)))
    ∙ ap not (member_listed members listed distinct good k 0 within)

pub excl_law : ExclLaw
excl_law members listed distinct good = rw (← excl_is members listed distinct good) (record {
  kept = λ k within.
      let left = difference members (incl members listed) in
      let at = kept_is members listed distinct good k within in
      let out = Decides-not (is_member int_eq listed (pos k)) (int_member listed (pos k)) in
      let here = member left (slice_index members k) in
      (λ p. out.0 (sym at ∙ here.1 p), λ q. here.0 (at ∙ out.1 q));
  count = excl_count members listed distinct good;
  once = filter_distinct (λ rank. not (is_member nat_eq (incl members listed) rank)) members distinct;
  order = filter_order (λ rank. not (is_member nat_eq (incl members listed) rank)) members;
})

-- positions, by the test and by the bounds
position_bounds : (n : ℕ) (rank : ℤ) → nat_abs rank < n → rank ≡ pos (nat_abs rank) → IsPosition n rank
position_bounds n (pos m) within e = (omega (arith, ints), omega (arith, ints))
position_bounds n (negsuc m) within e = absurd (cc)

named_if : (n m : ℕ) (b : Bool) → b ≡ true → is_none (cond b (Some m) None) ≡ false
named_if n m true e = refl
named_if n m false e = absurd (true≢false (sym e))

bounds_named : (n : ℕ) (rank : ℤ) → IsPosition n rank → is_none (position_of n rank) ≡ false
bounds_named n (pos m) h = named_if n m (nat_lt m n) (lt-ltb m n (omega (arith, ints, h.1)))
bounds_named n (negsuc m) h = absurd (omega (arith, ints, h.0))

-- what is before a place where none was bad
good_front : (n : ℕ) (listed : List ℤ) (m : ℕ) → m ≤ length listed → ((k : ℕ) → k < m → is_bad_at n listed k ≡ false) → All (IsPosition n) (take m listed) × IsDistinct int_eq (take m listed)
good_front n listed m short good =
    let long : length (take m listed) ≡ m = length-take-le m listed short in
    let at : (k : ℕ) (d : ℤ) → k < m → get_or (take m listed) k d ≡ get_or listed k (pos 0) = λ k d less. get_or-take m listed k d less ∙ get_or_default listed k d (pos 0) (omega arith) in (
      λ k d within.
          let less : k < m = omega arith in
          let g = good_place n listed k (good k less) in
          rw (at k d less) (position_bounds n (slice_index_or listed k (pos 0)) g.within g.named),
      IsDistinct-from_apart int_eq (take m listed) (λ i j d before within.
          let less : j < m = omega arith in
          let g = good_place n listed j (good j less) in
          let in_front : i < length (take j listed) = omega (arith, length-take-le j listed (omega arith)) in
          rw (at i d (omega arith), at j d less) (false_from_ne_true (int_eq (get_or listed i (pos 0)) (get_or listed j (pos 0))) (λ same.
          let flipped = int_eq_equiv.symm (get_or listed j (pos 0)) (get_or listed i (pos 0)) ∙ same in
          true≢false (sym (list_any_at (int_eq (get_or listed j (pos 0))) (take j listed) i (pos 0) in_front (ap (int_eq (get_or listed j (pos 0))) (get_or-take j listed i (pos 0) before) ∙ flipped)) ∙ g.fresh)))),
    )

none_from : (p : ℕ → Bool) (n : ℕ) → ((k : ℕ) → k < n → p k ≡ false) → find p (below n) ≡ None
none_from p zero h = refl
none_from p (suc n) h = find-append p (below n) (n ∷ []) ∙ rw (none_from p n (λ k less. h k (omega arith)), h n (omega arith)) refl

valid_none : (n : ℕ) (listed : List ℤ) → All (IsPosition n) listed → IsDistinct int_eq listed → first_bad n listed ≡ None
valid_none n listed all distinct = none_from (is_bad_at n listed) (length listed) (λ k less.
    let rank = slice_index_or listed k (pos 0) in
    or_from (is_none (position_of n rank)) (is_member int_eq (take k listed) rank) (bounds_named n rank (all k (pos 0) less)) (list_any_none (int_eq rank) (take k listed) (λ i d within.
    let before : i < k = omega (arith, length-take-le k listed (omega arith)) in
    let differ = apart_from_distinct int_eq listed i k (pos 0) distinct before less in
    rw (get_or-take k listed i d before, get_or_default listed i d (pos 0) (omega arith)) (int_eq_equiv.symm rank (get_or listed i (pos 0)) ∙ differ))))

pub valid_law : ValidLaw
valid_law n listed = (
  λ none.
      let front = good_front n listed (length listed) (omega arith) (none_below (is_bad_at n listed) (length listed) none) in
      rw (take_all (length listed) listed (omega arith)) at front,
  λ h. valid_none n listed h.0 h.1,
)

first_bad_by : (n : ℕ) (listed : List ℤ) (o : Option ℕ) → first_bad n listed ≡ o → IfSome o (IsFirstBad n listed)
first_bad_by n listed None e = tt
first_bad_by n listed (Some k) e =
    let found = found_below (is_bad_at n listed) (length listed) k e in
    let rank = slice_index_or listed k (pos 0) in
    record {
      within = found.within;
      before = good_front n listed k (omega (arith, found.within)) found.before;
      bad = ⊎_elim (λ none. inl (λ position. true≢false (sym none ∙ bounds_named n rank position))) (λ here. inr ((int_member (take k listed) rank).0 here)) (or_cases (is_none (position_of n rank)) (is_member int_eq (take k listed) rank) found.here);
    }

pub first_bad_law : FirstBadLaw
first_bad_law n listed = first_bad_by n listed (first_bad n listed) refl
