-- Lists of positions in a group.
use Rattle.std.proofs.Common.{◌≡◌, ℕ, zero, suc, ◌+◌, ◌<◌, ◌⊎◌, ⊎_elim, Bool, true, false, not, ◌||◌, cond, List, [], ◌∷◌, ◌++◌, map, length, get_or, take, Option, Some, None, is_none, is_some, ◌^◌, sym, refl, ap, subst, ◌∙◌, arith, nat_eq, nat_lt, nat_abs, ℤ, pos, negsuc, set, add-one, slice_index_or, slice_index}
use Rattle.std.specs.Prelude.{filter, find}
use Rattle.std.specs.Option.{option_or}
use Rattle.std.specs.Ordering.{int_eq}
use Rattle.std.specs.Cmp.{nat_eq_equiv, int_eq_equiv}
use Rattle.std.specs.List.{list_any, All, IsDistinct, enumerate_from}
use Rattle.std.specs.Set.{is_member}
use Rattle.std.proofs.lemmas.Bool.{true≢false, or_parts, or_left, or_right, or_from, ltb-true, eqb-true, ne_eqb, cases_eq, cases_order, false_from_ne_true}
use Rattle.std.proofs.lemmas.Bool.Decides.{Decides-int_eq, Decides-eqb}
use Rattle.std.proofs.lemmas.List.{get_or-map, get_or-take, length-take-le, length-map, get_or_default}
use Rattle.std.proofs.lemmas.List.Folds.{find-append, list_any_at, list_any_more, Any-from_list_any}
use Rattle.std.proofs.lemmas.Map.Keys.{apart_from_distinct, IsDistinct-from_apart}
use Rattle.std.proofs.lemmas.Int.{to_z-of_z}
use Rattle.std.proofs.lemmas.List.{take_more, map-append, get_or-set_same, get_or-set_other}
use Rattle.std.proofs.lemmas.List.Elements.{All-head, All-tail}
use Rattle.std.proofs.lemmas.Map.Steps.{length-le_from_distinct_below}
use lib.Dec.{T}
use lib.Signed.{non_neg}
use mir.Syntax.{w32, w64}
use mir.Val.{SFits, Fits, to_z, of_z}
use Rattle.must_group.specs.Groups.{position_of, is_bad_at, below, first_bad, difference, incl, excl}

-- a search below a number that found nothing
lone_none : (n : ℕ) (b : Bool) → cond b (Some n) None ≡ None → b ≡ false
lone_none n true h = cc
lone_none n false h = refl

found_neither : (found : Option ℕ) (p : ℕ → Bool) (n : ℕ) → option_or found (find p (n ∷ [])) ≡ None → (found ≡ None) × (p n ≡ false)
found_neither (Some k) p n h = absurd (cc)
found_neither None p n h = (refl, lone_none n (p n) h)

cases_last : (k n : ℕ) → k < suc n → (k ≡ n) ⊎ (k < n)
cases_last k n h = grind arith

pub none_below : (p : ℕ → Bool) (n : ℕ) → find p (below n) ≡ None → (k : ℕ) → k < n → p k ≡ false
none_below p zero h k within = absurd (omega arith)
none_below p (suc n) h k within =
    let parts = found_neither (find p (below n)) p n (sym (find-append p (below n) (n ∷ [])) ∙ h) in
    ⊎_elim (λ e. subst (λ m. p m ≡ false) (sym e) parts.1) (λ lower. none_below p n parts.0 k lower) (cases_last k n within)

-- what a rank names that is not bad
names_below : (n m : ℕ) (b : Bool) → nat_lt m n ≡ b → is_none (cond b (Some m) None) ≡ false → (m < n) × (pos m ≡ pos m)
names_below n m true e h = (ltb-true m n e, refl)
names_below n m false e h = absurd (true≢false h)

pub names_position : (n : ℕ) (rank : ℤ) → is_none (position_of n rank) ≡ false → (nat_abs rank < n) × (rank ≡ pos (nat_abs rank))
names_position n (pos m) h = names_below n m (nat_lt m n) refl h
names_position n (negsuc m) h = absurd (true≢false h)

pub record IsGood (n : ℕ) (listed : List ℤ) (k : ℕ) : Type 0 where
  pub within : nat_abs (slice_index_or listed k (pos 0)) < n
  pub named : slice_index_or listed k (pos 0) ≡ pos (nat_abs (slice_index_or listed k (pos 0)))
  pub fresh : is_member int_eq (take k listed) (slice_index_or listed k (pos 0)) ≡ false

pub good_place : (n : ℕ) (listed : List ℤ) (k : ℕ) → is_bad_at n listed k ≡ false → IsGood n listed k
good_place n listed k h =
    let rank = slice_index_or listed k (pos 0) in
    let parts = or_parts (is_none (position_of n rank)) (is_member int_eq (take k listed) rank) h in
    let names = names_position n rank parts.0 in
    record { within = names.0; named = names.1; fresh = parts.1 }

pub good_at : (n : ℕ) (listed : List ℤ) → first_bad n listed ≡ None → (k : ℕ) → k < length listed → IsGood n listed k
good_at n listed h k within = good_place n listed k (none_below (is_bad_at n listed) (length listed) h k within)

-- the listed positions at two places differ
pub positions_apart : (n : ℕ) (listed : List ℤ) (i j : ℕ) → i < j → j < length listed → IsGood n listed i → IsGood n listed j → nat_abs (slice_index_or listed i (pos 0)) ≡ nat_abs (slice_index_or listed j (pos 0)) → ⊥
positions_apart n listed i j before within one two e =
    let same : slice_index_or listed j (pos 0) ≡ slice_index_or listed i (pos 0) = two.named ∙ ap pos (sym e) ∙ sym one.named in
    let at : get_or (take j listed) i (pos 0) ≡ get_or listed i (pos 0) = get_or-take j listed i (pos 0) before in
    let long : length (take j listed) ≡ j = length-take-le j listed (omega arith) in
    let equal = (Decides-int_eq (get_or listed j (pos 0)) (get_or (take j listed) i (pos 0))).1 (same ∙ sym at) in
    true≢false (sym (list_any_at (int_eq (get_or listed j (pos 0))) (take j listed) i (pos 0) (omega arith) equal) ∙ two.fresh)

-- members at two different positions differ
pub members_apart : (members : List ℕ) → IsDistinct nat_eq members → (a b d : ℕ) → a < length members → b < length members → (a ≡ b → ⊥) → nat_eq (get_or members a d) (get_or members b d) ≡ false
members_apart members h a b d in_a in_b ne =
    ⊎_elim (λ e. absurd (ne e))
    (⊎_elim (λ less. apart_from_distinct nat_eq members a b d h less in_b) (λ more. nat_eq_equiv.symm (get_or members a d) (get_or members b d) ∙ apart_from_distinct nat_eq members b a d h more in_a))
    (cases_order a b)

pub incl_distinct : (members : List ℕ) (listed : List ℤ) → IsDistinct nat_eq members → first_bad (length members) listed ≡ None → IsDistinct nat_eq (incl members listed)
incl_distinct members listed h good = IsDistinct-from_apart nat_eq (incl members listed) (λ i j d before within.
    let f : ℤ → ℕ = λ rank. slice_index members (nat_abs rank) in
    let in_j : j < length listed = omega (arith, length-map listed f) in
    let at_i = get_or-map f listed i (pos 0) d (omega arith) in
    let at_j = get_or-map f listed j (pos 0) d in_j in
    let one = good_at (length members) listed good i (omega arith) in
    let two = good_at (length members) listed good j in_j in
    rw (at_i, at_j) (members_apart members h _ _ 0 one.within two.within (positions_apart (length members) listed i j before in_j one two)))

-- a position as an index
pub cast_fits : (rank : ℤ) → SFits w32 rank → rank ≡ pos (nat_abs rank) → T (non_neg (to_z w32 (of_z w32 rank))) × Fits w64 (nat_abs (to_z w32 (of_z w32 rank)))
cast_fits (pos m) fits e = rw (to_z-of_z w32 (pos m) fits) (tt, record { fits = omega (arith, fits.sfits) })
cast_fits (negsuc m) fits e = absurd (cc)

pub incl_more : (members : List ℕ) (listed : List ℤ) (i : ℕ) → i < length listed → incl members (take (i + 1) listed) ≡ incl members (take i listed) ++ slice_index members (nat_abs (slice_index_or listed i (pos 0))) ∷ []
incl_more members listed i h =
    let f : ℤ → ℕ = λ rank. slice_index members (nat_abs rank) in
    ap (map f) (take_more listed i (pos 0) h) ∙ map-append f (take i listed) (slice_index_or listed i (pos 0) ∷ [])

-- tests that agree at each element
any_agree : {X : Type 0} (p q : X → Bool) (xs : List X) → All (λ x. p x ≡ q x) xs → list_any p xs ≡ list_any q xs
any_agree p q [] h = refl
any_agree p q (x ∷ xs) h =
    ap (λ b. b || list_any p xs) (All-head (λ y. p y ≡ q y) x xs h) ∙ ap (λ b. q x || b) (any_agree p q xs (All-tail (λ y. p y ≡ q y) x xs h))

any_map : {X Y : Type 0} (p : Y → Bool) (f : X → Y) (xs : List X) → list_any p (map f xs) ≡ list_any (λ x. p (f x)) xs
any_map p f [] = refl
any_map p f (x ∷ xs) = ap (λ b. p (f x) || b) (any_map p f xs)

-- a member is among the listed members exactly where its position is listed
equal_alike : (members : List ℕ) (k m d : ℕ) → k < length members → k ≡ m → nat_eq (get_or members k d) (get_or members m 0) ≡ int_eq (pos k) (pos m)
equal_alike members k m d in_k e =
    let same : get_or members k d ≡ get_or members m 0 = get_or_default members k d 0 in_k ∙ ap (λ n. get_or members n 0) e in
    (Decides-eqb (get_or members k d) (get_or members m 0)).1 same ∙ sym ((Decides-int_eq (pos k) (pos m)).1 (ap pos e))

differ_alike : (members : List ℕ) → IsDistinct nat_eq members → (k m d : ℕ) → k < length members → m < length members → (k ≡ m → ⊥) → nat_eq (get_or members k d) (get_or members m 0) ≡ int_eq (pos k) (pos m)
differ_alike members h k m d in_k in_m ne =
    let differ : int_eq (pos k) (pos m) ≡ false = false_from_ne_true (int_eq (pos k) (pos m)) (λ yes. let e : pos k ≡ pos m = (Decides-int_eq (pos k) (pos m)).0 yes in ne (cc)) in
    ap (λ x. nat_eq x (get_or members m 0)) (get_or_default members k d 0 in_k) ∙ members_apart members h k m 0 in_k in_m ne ∙ sym differ

listed_alike : (members : List ℕ) → IsDistinct nat_eq members → (k d : ℕ) → k < length members → (rank : ℤ) → nat_abs rank < length members → rank ≡ pos (nat_abs rank) → nat_eq (get_or members k d) (slice_index members (nat_abs rank)) ≡ int_eq (pos k) rank
listed_alike members h k d in_k (negsuc m) in_m e = absurd (cc)
listed_alike members h k d in_k (pos m) in_m e = ⊎_elim (λ same. equal_alike members k m d in_k same) (λ ne. differ_alike members h k m d in_k in_m ne) (cases_eq k m)

pub member_listed : (members : List ℕ) (listed : List ℤ) → IsDistinct nat_eq members → first_bad (length members) listed ≡ None → (k d : ℕ) → k < length members → is_member nat_eq (incl members listed) (get_or members k d) ≡ is_member int_eq listed (pos k)
member_listed members listed h good k d in_k =
    let f : ℤ → ℕ = λ rank. slice_index members (nat_abs rank) in
    let each : All (λ rank. nat_eq (get_or members k d) (f rank) ≡ int_eq (pos k) rank) listed = λ i e within.
    let at = good_at (length members) listed good i within in
    let same : get_or listed i e ≡ get_or listed i (pos 0) = get_or_default listed i e (pos 0) within in
    rw same (listed_alike members h k d in_k (get_or listed i (pos 0)) at.within at.named) in
    any_map (nat_eq (get_or members k d)) f listed ∙ any_agree (λ rank. nat_eq (get_or members k d) (f rank)) (int_eq (pos k)) listed each

-- a filter by a test of the elements, and by a test of their places
cond_places : (b : Bool) (k x : ℕ) (ys : List ℕ) (zs : List (ℕ × ℕ)) → ys ≡ map (λ e. e.1) zs → cond b (x ∷ ys) ys ≡ map (λ e. e.1) (cond b ((k, x) ∷ zs) zs)
cond_places true k x ys zs h = ap (λ l. x ∷ l) h
cond_places false k x ys zs h = h

by_places : (p q : ℕ → Bool) (k : ℕ) (xs : List ℕ) → ((j d : ℕ) → j < length xs → p (get_or xs j d) ≡ q (k + j)) → filter p xs ≡ map (λ e. e.1) (filter (λ e. q e.0) (enumerate_from k xs))
by_places p q k [] h = refl
by_places p q k (x ∷ xs) h =
    let rest = by_places p q (k + 1) xs (λ j d within. h (suc j) d (omega arith) ∙ ap q (omega arith)) in
    let first : p x ≡ q k = h 0 x (omega arith) ∙ ap q (omega arith) in
    ap (λ b. cond b (x ∷ filter p xs) (filter p xs)) first ∙ cond_places (q k) k x (filter p xs) (filter (λ e. q e.0) (enumerate_from (k + 1) xs)) rest

-- what is left without the listed members
pub excl_is : (members : List ℕ) (listed : List ℤ) → IsDistinct nat_eq members → first_bad (length members) listed ≡ None → difference members (incl members listed) ≡ excl members listed
excl_is members listed h good =
    by_places (λ rank. not (is_member nat_eq (incl members listed) rank)) (λ k. not (is_member int_eq listed (pos k))) 0 members (λ j d within. ap not (member_listed members listed h good j d within) ∙ ap (λ k. not (is_member int_eq listed (pos k))) (omega arith))

-- the first that passes below a number
pub found_first : (p : ℕ → Bool) (i m : ℕ) → find p (below i) ≡ None → p i ≡ true → i < m → find p (below m) ≡ Some i
found_first p i zero none here within = absurd (omega arith)
found_first p i (suc m) none here within =
    find-append p (below m) (m ∷ []) ∙
    ⊎_elim
    (λ e. let none_m : find p (below m) ≡ None = ap (λ n. find p (below n)) (sym e) ∙ none in
    let here_m : p m ≡ true = ap p (sym e) ∙ here in
    rw (none_m, here_m) (ap Some (sym e)))
    (λ lower. rw (found_first p i m none here lower) refl)
    (cases_last i m within)

pub none_more : (p : ℕ → Bool) (i : ℕ) → find p (below i) ≡ None → p i ≡ false → find p (below (i + 1)) ≡ None
none_more p i none here = rw add-one (find-append p (below i) (i ∷ []) ∙ rw (none, here) refl)

or_false : (b : Bool) → (b || false) ≡ b
or_false true = refl
or_false false = refl

-- a mark for each position that was listed
pub marked_more : (seen : List Bool) (listed : List ℤ) (i position : ℕ) → i < length listed → position < length seen → slice_index_or listed i (pos 0) ≡ pos position → ((k : ℕ) → k < length seen → get_or seen k false ≡ is_member int_eq (take i listed) (pos k)) → (k : ℕ) → k < length seen → get_or (set seen position true) k false ≡ is_member int_eq (take (i + 1) listed) (pos k)
marked_more seen listed i position in_list in_seen names marks k within =
    let more = list_any_more (int_eq (pos k)) listed i (pos 0) in_list in
    ⊎_elim
    (λ e. let yes : int_eq (pos k) (slice_index_or listed i (pos 0)) ≡ true = (Decides-int_eq (pos k) (slice_index_or listed i (pos 0))).1 (ap pos e ∙ sym names) in
    let left : get_or (set seen position true) k false ≡ true = ap (λ n. get_or (set seen position true) n false) e ∙ get_or-set_same seen position true false in_seen in
    left ∙ sym (or_right (is_member int_eq (take i listed) (pos k)) (int_eq (pos k) (slice_index_or listed i (pos 0))) yes) ∙ sym more)
    (λ ne. let no : int_eq (pos k) (slice_index_or listed i (pos 0)) ≡ false = false_from_ne_true (int_eq (pos k) (slice_index_or listed i (pos 0))) (λ yes. let e : pos k ≡ pos position = (Decides-int_eq (pos k) (slice_index_or listed i (pos 0))).0 yes ∙ names in ne (cc)) in
    get_or-set_other seen position k true false ne ∙ marks k within ∙ sym (or_false (is_member int_eq (take i listed) (pos k))) ∙ sym (more ∙ ap (λ b. is_member int_eq (take i listed) (pos k) || b) no))
    (cases_eq k position)

-- what makes a place bad, or good
none_from_no_some : (o : Option ℕ) → is_some o ≡ false → is_none o ≡ true
none_from_no_some None h = refl
none_from_no_some (Some p) h = absurd (true≢false h)

no_none_from_some : (o : Option ℕ) → is_some o ≡ true → is_none o ≡ false
no_none_from_some None h = absurd (true≢false (sym h))
no_none_from_some (Some p) h = refl

pub bad_by_position : (n : ℕ) (listed : List ℤ) (i : ℕ) → is_some (position_of n (slice_index_or listed i (pos 0))) ≡ false → is_bad_at n listed i ≡ true
bad_by_position n listed i h = or_left (is_none (position_of n (slice_index_or listed i (pos 0)))) (is_member int_eq (take i listed) (slice_index_or listed i (pos 0))) (none_from_no_some (position_of n (slice_index_or listed i (pos 0))) h)

pub bad_by_member : (n : ℕ) (listed : List ℤ) (i : ℕ) → is_member int_eq (take i listed) (slice_index_or listed i (pos 0)) ≡ true → is_bad_at n listed i ≡ true
bad_by_member n listed i h = or_right (is_none (position_of n (slice_index_or listed i (pos 0)))) (is_member int_eq (take i listed) (slice_index_or listed i (pos 0))) h

pub good_by_both : (n : ℕ) (listed : List ℤ) (i : ℕ) → is_some (position_of n (slice_index_or listed i (pos 0))) ≡ true → is_member int_eq (take i listed) (slice_index_or listed i (pos 0)) ≡ false → is_bad_at n listed i ≡ false
good_by_both n listed i h out = or_from (is_none (position_of n (slice_index_or listed i (pos 0)))) (is_member int_eq (take i listed) (slice_index_or listed i (pos 0))) (no_none_from_some (position_of n (slice_index_or listed i (pos 0))) h) out

-- what a rank that names a position is
pub record Names (n : ℕ) (rank : ℤ) (p : ℕ) : Type 0 where
  pub is : rank ≡ pos p
  pub within : p < n

named_by : (n m p : ℕ) (b : Bool) → nat_lt m n ≡ b → cond b (Some m) None ≡ Some p → Names n (pos m) p
named_by n m p true e h = let same : m ≡ p = cc in record { is = ap pos same; within = subst (λ k. k < n) same (ltb-true m n e) }
named_by n m p false e h = absurd (cc)

pub named : (n : ℕ) (rank : ℤ) (p : ℕ) → position_of n rank ≡ Some p → Names n rank p
named n (pos m) p h = named_by n m p (nat_lt m n) refl h
named n (negsuc m) p h = absurd (cc)

-- the test of a slice for an element, and the word for it
pub contains_is : (xs : List ℤ) (x : ℤ) → list_any (λ y. int_eq y x) xs ≡ is_member int_eq xs x
contains_is xs x = any_agree (λ y. int_eq y x) (int_eq x) xs (λ k d within. int_eq_equiv.symm (get_or xs k d) x)

-- what a search below a number found
lone_found : (n k : ℕ) (b : Bool) → cond b (Some n) None ≡ Some k → (k ≡ n) × (b ≡ true)
lone_found n k true h = (cc, refl)
lone_found n k false h = absurd (cc)

pub record Found (p : ℕ → Bool) (n k : ℕ) : Type 0 where
  pub within : k < n
  pub here : p k ≡ true
  pub before : (j : ℕ) → j < k → p j ≡ false

found_either : (o : Option ℕ) (p : ℕ → Bool) (n k : ℕ) → find p (below n) ≡ o → (o ≡ Some k → Found p n k) → option_or o (find p (n ∷ [])) ≡ Some k → Found p (suc n) k
found_either (Some j) p n k e lower h =
    let f = lower h in
    record { within = omega (arith, f.within); here = f.here; before = f.before }
found_either None p n k e lower h =
    let last = lone_found n k (p n) h in
    record { within = omega (arith, last.0); here = ap p last.0 ∙ last.1; before = λ j less. none_below p n e j (omega (arith, last.0)) }

pub found_below : (p : ℕ → Bool) (n k : ℕ) → find p (below n) ≡ Some k → Found p n k
found_below p zero k h = absurd (cc)
found_below p (suc n) k h = found_either (find p (below n)) p n k refl (λ e. found_below p n k e) (sym (find-append p (below n) (n ∷ [])) ∙ h)

small_position : (rank : ℤ) → SFits w32 rank → rank ≡ pos (nat_abs rank) → nat_abs rank < 2 ^ 31
small_position (pos m) fits e = omega (arith, fits.sfits)
small_position (negsuc m) fits e = absurd (cc)

-- a bad place comes after no more places than there are positions that an i32 names
pub all_below : (xs : List ℕ) (n : ℕ) → All (λ x. x < n) xs → (q : ℕ) → list_any (nat_eq q) xs ≡ true → q < n
all_below xs n h q here =
    let some = Any-from_list_any (nat_eq q) xs here in
    let at : get_or xs some.0 0 ≡ some.1 = get_or_default xs some.0 0 some.1 some.2 ∙ some.3 in
    let same : q ≡ some.1 = eqb-true q some.1 some.4 in
    omega (arith, h some.0 0 some.2)

pub first_bad_small : (n : ℕ) (listed : List ℤ) (k : ℕ) → ((i : ℕ) → i < k → SFits w32 (get_or listed i (pos 0))) → first_bad n listed ≡ Some k → k < 2 ^ 32
first_bad_small n listed k fits h =
    let found = found_below (is_bad_at n listed) (length listed) k h in
    let long : length (take k listed) ≡ k = length-take-le k listed (omega (arith, found.within)) in
    let size : length (map nat_abs (take k listed)) ≡ k = length-map (take k listed) nat_abs ∙ long in
    let at : (i d : ℕ) → i < k → get_or (map nat_abs (take k listed)) i d ≡ nat_abs (get_or listed i (pos 0)) = λ i d less. get_or-map nat_abs (take k listed) i (pos 0) d (omega arith) ∙ ap nat_abs (get_or-take k listed i (pos 0) less) in
    let small : All (λ x. x < 2 ^ 31) (map nat_abs (take k listed)) = λ i d within.
    let less : i < k = omega arith in
    let good = good_place n listed i (found.before i less) in
    rw (at i d less) (small_position (get_or listed i (pos 0)) (fits i less) good.named) in
    let apart : IsDistinct nat_eq (map nat_abs (take k listed)) = IsDistinct-from_apart nat_eq (map nat_abs (take k listed)) (λ i j d before within.
    let less : j < k = omega arith in
    let one = good_place n listed i (found.before i (omega arith)) in
    let two = good_place n listed j (found.before j less) in
    rw (at i d (omega arith), at j d less) (ne_eqb _ _ (positions_apart n listed i j before (omega (arith, found.within)) one two))) in
    omega (arith, length-le_from_distinct_below (map nat_abs (take k listed)) (2 ^ 31) apart (all_below (map nat_abs (take k listed)) (2 ^ 31) small))
