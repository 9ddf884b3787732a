-- The laws of counts, and of ranges that lie at several places.
use Rattle.std.proofs.Common.{◌≡◌, refl, sym, ◌∙◌, ap, subst, arith, inl, inr, ◌⊎◌, ◌↔◌, ℕ, zero, suc, ◌+◌, ◌*◌, ◌/◌, ◌%◌, ◌<◌, ◌≤◌, ℤ, pos, negsuc, ◌+ℤ◌, ◌-ℤ◌, ◌*ℤ◌, ◌≤ℤ◌, ◌<ℤ◌, List, [], ◌∷◌, ◌++◌, length, get_or, take, map, add-one, mul-le-mul, le_refl, false, append_assoc, append-nil, length-append, mul_comm, to_z, of_z, ◌^◌}
use Rattle.std.specs.Int.{w128}
use Rattle.std.specs.Int.RustNames.{unsigned_abs, FitsSigned}
use Rattle.std.specs.List.{AllByRecursion}
use Rattle.std.specs.Ordering.{int_cmp, is_lt}
use Rattle.std.specs.Prelude.{IsSortedByKey, IsPermutation}
use Rattle.std.proofs.lemmas.Int.{ints, unsigned_abs-mul, to_z-of_z, fits_signed_from_abs}
use Rattle.std.proofs.lemmas.List.{take_more, map-append}
use Rattle.std.proofs.lemmas.List.Elements.{recursion_from_All, All-from_recursion}
use Rattle.std.proofs.lemmas.List.Sorted.{All-permutation, IsPermutation-sym}
use Rattle.std.proofs.Math.IntN.{pos-*ℤ-pos, suc_ℤ-*ℤ, zero-*ℤ}
use Rattle.must_span.specs.declared.ranges.AddressRange.{AddressRange}
use Rattle.must_type.specs.Weights.{weigh}
use Rattle.must_span.specs.Ranges.{IsIn, Covers, IsFilled, AreApart, run_of, addresses}
use Rattle.must_span.specs.Steps.{Rise, IsNear, IsAsLong, moved_range, IsCopied, AreWithin, AreCopies, Repeats, IsDense, count_of}
use Rattle.must_span.proofs.FewLaws.{rows_few, block_few, none_few, weigh_least, weigh_one, product_one}
use Rattle.must_span.proofs.RangeLaws.{covers_left, covers_right, covers_split, all_append, all_weaker, past}

pub abs_pos : (z : ℤ) → pos 0 ≤ℤ z → pos (unsigned_abs z) ≡ z
abs_pos (pos n) h = refl
abs_pos (negsuc n) h = absurd (omega (arith, ints, h))

pub count-append : (a b : List AddressRange) → count_of (a ++ b) ≡ count_of a + count_of b
count-append [] b = omega arith
count-append (r ∷ a) b = omega (arith, count-append a b)

pub count_more : (rs : List AddressRange) (i : ℕ) (d : AddressRange) → i < length rs → count_of (take (i + 1) rs) ≡ count_of (take i rs) + unsigned_abs ((get_or rs i d).high -ℤ (get_or rs i d).low)
count_more rs i d h = ap count_of (take_more rs i d h) ∙ count-append (take i rs) (get_or rs i d ∷ []) ∙ omega arith

run_length : (n : ℕ) (x : ℤ) → length (run_of x n) ≡ n
run_length zero x = refl
run_length (suc n) x = omega (arith, run_length n (x +ℤ pos 1))

-- the sum of the lengths is the number of the addresses
pub count_is : (rs : List AddressRange) → count_of rs ≡ length (addresses rs)
count_is [] = refl
count_is (r ∷ rs) = omega (arith, length-append (run_of r.low (unsigned_abs (r.high -ℤ r.low))) (addresses rs), run_length (unsigned_abs (r.high -ℤ r.low)) r.low, count_is rs)

pub apart_next : (rs : List AddressRange) (i : ℕ) (d : AddressRange) → AreApart rs → suc i < length rs → (get_or rs i d).high <ℤ (get_or rs (suc i) d).low
apart_next [] i d p h = absurd (omega (arith, h))
apart_next (r ∷ []) i d p h = absurd (omega (arith, h))
apart_next (r ∷ s ∷ rs) zero d p h = p.1.0
apart_next (r ∷ s ∷ rs) (suc i) d p h = apart_next (s ∷ rs) i d p.2 (omega (arith, h))

-- The number of the addresses so far is at most that of those from `- m` up to where the next range begins.
pub count_room : (rs : List AddressRange) (i total m : ℕ) → AreApart rs → i < length rs → total ≡ count_of (take i rs) → (pos 0 -ℤ pos m) ≤ℤ (get_or rs i past).low → ((k : ℕ) → suc k ≡ i → pos total ≤ℤ ((get_or rs k past).high +ℤ pos m)) → pos total ≤ℤ ((get_or rs i past).low +ℤ pos m)
count_room rs zero total m p h e low far = omega (arith, ints, e, low)
count_room rs (suc i) total m p h e low far = omega (arith, ints, far i refl, apart_next rs i past p h)

pub abs_same : (a b x y : ℤ) → x ≡ a → y ≡ b → unsigned_abs (x -ℤ y) ≡ unsigned_abs (a -ℤ b)
abs_same a b x y e f = ap (λ (z : ℤ). unsigned_abs (z -ℤ y)) e ∙ ap (λ (z : ℤ). unsigned_abs (a -ℤ z)) f

-- ---- moved ranges

pub covers_moved : (by : ℤ) (rs : List AddressRange) (x : ℤ) → Covers (map (moved_range by) rs) x ↔ Covers rs (x -ℤ by)
covers_moved by [] x = ((λ p. p), (λ p. p))
covers_moved by (r ∷ rs) x = (
  (λ p. elim p [ inl q ↦ inl (record { from = omega (arith, ints, q.from); below = omega (arith, ints, q.below) }) | inr q ↦ inr ((covers_moved by rs x).0 q) ]),
  (λ p. elim p [ inl q ↦ inl (record { from = omega (arith, ints, q.from); below = omega (arith, ints, q.below) }) | inr q ↦ inr ((covers_moved by rs x).1 q) ]),
)

pub filled_moved : (by : ℤ) (rs : List AddressRange) → AllByRecursion IsFilled rs → AllByRecursion IsFilled (map (moved_range by) rs)
filled_moved by [] p = tt
filled_moved by (r ∷ rs) p = (omega (arith, ints, p.0), filled_moved by rs p.1)

pub times_suc : (n : ℕ) (d : ℤ) → pos (suc n) *ℤ d ≡ pos n *ℤ d +ℤ d
times_suc n d = suc_ℤ-*ℤ (pos n) d

-- ---- copies

pub copied_none : (rs : List AddressRange) (at stride x : ℤ) → IsCopied rs at stride 0 x → ⊥
copied_none rs at stride x h = omega (arith, h.below)

pub copied_empty : (at stride : ℤ) (n : ℕ) (x : ℤ) → IsCopied [] at stride n x → ⊥
copied_empty at stride n x h = h.covers

pub copied_more : (rs : List AddressRange) (at stride : ℤ) (n : ℕ) (x : ℤ) → IsCopied rs at stride (n + 1) x ↔ (IsCopied rs at stride n x ⊎ Covers rs (x -ℤ (at +ℤ pos n *ℤ stride)))
copied_more rs at stride n x = (
  (λ h. elim (below_or h.copy n (omega (arith, h.below))) [
    | inl less ↦ inl (record { copy = h.copy; below = less; covers = h.covers })
    | inr same ↦ inr (subst (λ k. Covers rs (x -ℤ (at +ℤ pos k *ℤ stride))) same h.covers)
  ]),
  (λ h. elim h [
    | inl c ↦ record { copy = c.copy; below = omega (arith, c.below); covers = c.covers }
    | inr c ↦ record { copy = n; below = omega arith; covers = c }
  ]),
)
  where
    below_or : (k n : ℕ) → k < suc n → (k < n) ⊎ (k ≡ n)
    below_or k n h = grind arith

-- ranges that were put in copy by copy
pub record Copied (rs : List AddressRange) (at : ℤ) (stride : ℤ) (n : ℕ) (more : List AddressRange) : Type 0 where
  pub covers : (x : ℤ) → Covers more x ↔ IsCopied rs at stride n x
  pub filled : AllByRecursion IsFilled rs → AllByRecursion IsFilled more
  pub near : (m k : ℕ) → AllByRecursion (IsNear m) rs → AreWithin at stride n k → AllByRecursion (IsNear (m + k)) more
  pub number : length more ≡ n * length rs
  pub long : (s : ℤ) → AllByRecursion (IsAsLong s) rs → AllByRecursion (IsAsLong s) more

pub copied_start : (rs : List AddressRange) (at stride : ℤ) → Copied rs at stride 0 []
copied_start rs at stride = record {
  covers = λ x. ((λ p. absurd p), (λ p. absurd (copied_none rs at stride x p)));
  filled = λ p. tt;
  near = λ m k p h. tt;
  number = omega arith;
  long = λ s p. tt;
}

pub abs_sum : (a b : ℤ) (m n : ℕ) → unsigned_abs a ≤ m → unsigned_abs b ≤ n → unsigned_abs (a +ℤ b) ≤ m + n
abs_sum (pos a) (pos b) m n p q = omega (arith, ints, p, q)
abs_sum (negsuc a) (negsuc b) m n p q = omega (arith, ints, p, q)
abs_sum a b m n p q = grind (arith, ints)

near_moved : (by : ℤ) (m k : ℕ) (rs : List AddressRange) → unsigned_abs by ≤ k → AllByRecursion (IsNear m) rs → AllByRecursion (IsNear (m + k)) (map (moved_range by) rs)
near_moved by m k [] h p = tt
near_moved by m k (r ∷ rs) h p = (record { low = abs_sum r.low by m k p.0.low h; high = abs_sum r.high by m k p.0.high h }, near_moved by m k rs h p.1)

length_moved : (by : ℤ) (rs : List AddressRange) → length (map (moved_range by) rs) ≡ length rs
length_moved by [] = refl
length_moved by (r ∷ rs) = omega (arith, length_moved by rs)

long_moved : (by s : ℤ) (rs : List AddressRange) → AllByRecursion (IsAsLong s) rs → AllByRecursion (IsAsLong s) (map (moved_range by) rs)
long_moved by s [] p = tt
long_moved by s (r ∷ rs) p = (omega (arith, ints, p.0), long_moved by s rs p.1)

pub copied_step : (rs more : List AddressRange) (at stride place : ℤ) (n : ℕ) → place ≡ at +ℤ pos n *ℤ stride → Copied rs at stride n more → Copied rs at stride (n + 1) (more ++ map (moved_range place) rs)
copied_step rs more at stride place n e h = record {
  covers = λ x. (
    (λ p. elim (covers_split more (map (moved_range place) rs) x p) [
      | inl q ↦ (copied_more rs at stride n x).1 (inl ((h.covers x).0 q))
      | inr q ↦ (copied_more rs at stride n x).1 (inr (subst (λ (z : ℤ). Covers rs (x -ℤ z)) e ((covers_moved place rs x).0 q)))
    ]),
    (λ p. elim ((copied_more rs at stride n x).0 p) [
      | inl q ↦ covers_left more (map (moved_range place) rs) x ((h.covers x).1 q)
      | inr q ↦ covers_right more (map (moved_range place) rs) x ((covers_moved place rs x).1 (subst (λ (z : ℤ). Covers rs (x -ℤ z)) (sym e) q))
    ]),
  );
  filled = λ p. all_append _ more (map (moved_range place) rs) (h.filled p) (filled_moved place rs p);
  near = λ m k p w. all_append _ more (map (moved_range place) rs) (h.near m k p (λ j g. w j (omega (arith, g)))) (near_moved place m k rs (subst (λ (z : ℤ). unsigned_abs z ≤ k) (sym e) (w n (omega arith))) p);
  number = let s : (n + 1) * length rs ≡ n * length rs + length rs = grind arith in omega (arith, length-append more (map (moved_range place) rs), length_moved place rs, h.number, s);
  long = λ s p. all_append _ more (map (moved_range place) rs) (h.long s p) (long_moved place s rs p);
}

-- one range of the old length is as long as the stride
sole : (rs : List AddressRange) (stride : ℤ) → length rs ≤ 1 → AllByRecursion (IsAsLong stride) rs → (rs ≡ []) ⊎ IsDense stride rs
sole [] stride h p = inl refl
sole (r ∷ []) stride h p = inr p.0
sole (r ∷ s ∷ rs) stride h p = absurd (omega (arith, h))

pub copies_of : (rs more : List AddressRange) (at stride : ℤ) (n : ℕ) → (IsDense stride rs → ⊥) → Copied rs at stride n more → AreCopies rs at stride n more
copies_of rs more at stride n sparse h = record {
  covers = h.covers;
  filled = h.filled;
  near = h.near;
  rows = λ w s f. rows_few n w s rs more h.number h.long f;
  block = λ w s f. block_few n w s stride rs more h.number h.long f (λ e p. elim (sole rs stride e p) [ inl q ↦ q | inr q ↦ absurd (sparse q) ]);
}

pub none_at_all : (rs : List AddressRange) (at stride : ℤ) → AreCopies rs at stride 0 []
none_at_all rs at stride = record {
  covers = λ x. ((λ p. absurd p), (λ p. absurd (copied_none rs at stride x p)));
  filled = λ p. tt;
  near = λ m k p h. tt;
  rows = λ w s f. none_few (0 * w) (0 * s) (omega arith);
  block = λ w s f. none_few (weigh 0 (record { weight = w; size = s; extent = stride })) (0 * s) (omega arith);
}

pub repeats_none : (old rs : List AddressRange) (at stride : ℤ) (n : ℕ) → n ≡ 0 → Repeats old rs at stride n old
repeats_none old rs at stride n e = record { more = []; put = sym (append-nil old); copies = subst (λ (k : ℕ). AreCopies rs at stride k []) (sym e) (none_at_all rs at stride) }

nil_copied : (at stride : ℤ) (n : ℕ) → Copied [] at stride n []
nil_copied at stride n = record {
  covers = λ x. ((λ p. absurd p), (λ p. absurd (copied_empty at stride n x p)));
  filled = λ p. p;
  near = λ m k p h. tt;
  number = omega arith;
  long = λ s p. tt;
}

pub repeats_empty : (old rs : List AddressRange) (at stride : ℤ) (n : ℕ) → rs ≡ [] → Repeats old rs at stride n old
repeats_empty old rs at stride n e = record { more = []; put = sym (append-nil old); copies = subst (λ l. AreCopies l at stride n []) (sym e) (copies_of [] [] at stride n (λ p. p) (nil_copied at stride n)) }

-- the loop of `repeat`
pub record Repeating (old rs : List AddressRange) (at : ℤ) (stride : ℤ) (n : ℕ) (new : List AddressRange) : Type 0 where
  pub more : List AddressRange
  pub put : new ≡ old ++ more
  pub copied : Copied rs at stride n more

pub repeating_start : (old rs : List AddressRange) (at stride : ℤ) → Repeating old rs at stride 0 old
repeating_start old rs at stride = record { more = []; put = sym (append-nil old); copied = copied_start rs at stride }

pub repeating_step : (old rs out : List AddressRange) (at stride place : ℤ) (n : ℕ) → place ≡ at +ℤ pos n *ℤ stride → Repeating old rs at stride n out → Repeating old rs at stride (n + 1) (out ++ map (moved_range place) rs)
repeating_step old rs out at stride place n e h =
    record { more = h.more ++ map (moved_range place) rs; put = ap (λ l. l ++ map (moved_range place) rs) h.put ∙ append_assoc old h.more (map (moved_range place) rs); copied = copied_step rs h.more at stride place n e h.copied }

pub repeating_end : (old rs out : List AddressRange) (at at' stride stride' : ℤ) (k n : ℕ) → k ≡ n → at ≡ at' → stride ≡ stride' → (IsDense stride rs → ⊥) → Repeating old rs at stride k out → Repeats old rs at' stride' n out
repeating_end old rs out at at' stride stride' k n e f g sparse h =
    subst (λ (m : ℕ). Repeats old rs at' stride' m out) e (subst (λ (z : ℤ). Repeats old rs z stride' k out) f (subst (λ (z : ℤ). Repeats old rs at z k out) g (record { more = h.more; put = h.put; copies = copies_of rs h.more at stride k sparse h.copied })))

-- ---- a list that a sort leaves

rise_cons : (r s : AddressRange) (rs : List AddressRange) → r.low ≤ℤ s.low → Rise (s ∷ rs) → Rise (r ∷ s ∷ rs)
rise_cons r s rs h p = ((h, all_weaker _ _ (λ t q. omega (arith, ints, q, h)) rs p.0), p)

pub adjacent_rise : (rs : List AddressRange) → ((k : ℕ) (d : AddressRange) → suc k < length rs → (get_or rs k d).low ≤ℤ (get_or rs (suc k) d).low) → Rise rs
adjacent_rise [] h = tt
adjacent_rise (r ∷ []) h = (tt, tt)
adjacent_rise (r ∷ s ∷ rs) h = rise_cons r s rs (h 0 r (omega arith)) (adjacent_rise (s ∷ rs) (λ k d g. h (suc k) d (omega (arith, g))))

not_less : (a b : ℤ) → is_lt (int_cmp b a) ≡ false → a ≤ℤ b
not_less a b h = grind (arith, ints)

pub sorted_rise : (rs : List AddressRange) → IsSortedByKey (λ (r : AddressRange). r.low) int_cmp rs → Rise rs
sorted_rise rs h = adjacent_rise rs (λ k d g. not_less _ _ (subst (λ m. is_lt (int_cmp (get_or rs m d).low (get_or rs k d).low) ≡ false) (add-one k) (h k d (omega arith) (omega (arith, g)))))

-- ---- what a permutation covers

covers_by : (Q : ℤ → Type 0) (ys : List AddressRange) → AllByRecursion (λ r. (x : ℤ) → IsIn r x → Q x) ys → (x : ℤ) → Covers ys x → Q x
covers_by Q [] p x h = absurd h
covers_by Q (r ∷ ys) p x (inl h) = p.0 x h
covers_by Q (r ∷ ys) p x (inr h) = covers_by Q ys p.1 x h

covers_each : (xs : List AddressRange) → AllByRecursion (λ r. (x : ℤ) → IsIn r x → Covers xs x) xs
covers_each [] = tt
covers_each (r ∷ xs) = ((λ x h. inl h), all_weaker _ _ (λ s p x h. inr (p x h)) xs (covers_each xs))

covers_moves : (xs ys : List AddressRange) → IsPermutation xs ys → (x : ℤ) → Covers ys x → Covers xs x
covers_moves xs ys m = covers_by (Covers xs) ys (let P : AddressRange → Type 0 = λ r. (x : ℤ) → IsIn r x → Covers xs x in recursion_from_All P ys (All-permutation P xs ys m (All-from_recursion P xs (covers_each xs))))

pub covers_permutation : (xs ys : List AddressRange) → IsPermutation xs ys → (x : ℤ) → Covers ys x ↔ Covers xs x
covers_permutation xs ys m x = (covers_moves xs ys m x, covers_moves ys xs (IsPermutation-sym xs ys m) x)

-- ---- one range moved and put in

pub pushed_more : (old out new rs : List AddressRange) (i : ℕ) (by b : ℤ) (r : AddressRange) → b ≡ by → r ≡ moved_range by (get_or rs i past) → out ≡ old ++ map (moved_range b) (take i rs) → new ≡ out ++ r ∷ [] → i < length rs → new ≡ old ++ map (moved_range b) (take (i + 1) rs)
pushed_more old out new rs i by b r e is was put h =
    put ∙ ap (λ l. l ++ r ∷ []) was ∙ append_assoc old (map (moved_range b) (take i rs)) (r ∷ []) ∙
    ap (λ l. old ++ l) (ap (λ q. map (moved_range b) (take i rs) ++ q ∷ []) (is ∙ ap (λ (z : ℤ). moved_range z (get_or rs i past)) (sym e)) ∙ sym (map-append (moved_range b) (take i rs) (get_or rs i past ∷ [])) ∙ ap (map (moved_range b)) (sym (take_more rs i past h)))

-- ---- one range that is as long as the stride

quotient_below : (y s n : ℕ) → 0 < s → y < n * s → y / s < n
quotient_below y s n h p =
    let d : s * (y / s) + y % s ≡ y = omega arith in
    elim (below_cases (y / s) n) [
      | inl q ↦ q
      | inr q ↦ let m = mul-le-mul q (le_refl s) in let c = mul_comm s (y / s) in absurd (omega (arith, m, c, d, p))
    ]
  where
    below_cases : (k n : ℕ) → (k < n) ⊎ (n ≤ k)
    below_cases k n = grind arith

pub dense_copied : (q : AddressRange) (at : ℤ) (s n : ℕ) → q.high -ℤ q.low ≡ pos s → 0 < s → (x : ℤ) → IsCopied (q ∷ []) at (pos s) n x ↔ IsIn (record { low = at +ℤ q.low; high = (at +ℤ q.low) +ℤ pos (n * s) }) x
dense_copied q at s n e h x = (
  (λ c. elim c.covers [
    | inl p ↦
        let t = pos-*ℤ-pos c.copy s in
        let m = mul-le-mul c.below (le_refl s) in
        let m' : suc c.copy * s ≡ c.copy * s + s = omega arith in
        record { from = omega (arith, ints, p.from, t); below = omega (arith, ints, p.below, t, e, m, m') }
    | inr p ↦ absurd p
  ]),
  (λ p.
      let y = unsigned_abs (x -ℤ (at +ℤ q.low)) in
      let is = abs_pos (x -ℤ (at +ℤ q.low)) (omega (arith, ints, p.from)) in
      let under : y < n * s = omega (arith, ints, is, p.below) in
      let d : s * (y / s) + y % s ≡ y = omega arith in
      let r : y % s < s = omega (arith, h) in
      let t = pos-*ℤ-pos (y / s) s in
      let c = mul_comm s (y / s) in
      record { copy = y / s; below = quotient_below y s n h under; covers = inl (record { from = omega (arith, ints, is, d, t, c); below = omega (arith, ints, is, d, t, c, r, e) }) }),
)

dense_near : (q r : AddressRange) (at stride : ℤ) (n m k : ℕ) → IsAsLong stride q → r.low ≡ at +ℤ q.low → r.high ≡ (at +ℤ q.low) +ℤ pos n *ℤ stride → 0 < n → IsNear m q → AreWithin at stride n k → IsNear (m + k) r
dense_near q r at stride zero m k d low high h p w = absurd (omega (arith, h))
dense_near q r at stride (suc n) m k d low high h p w =
    let z : pos 0 *ℤ stride ≡ pos 0 = zero-*ℤ stride in
    let first : at +ℤ pos 0 *ℤ stride ≡ at = omega (arith, ints, z) in
    let last : r.high ≡ q.high +ℤ (at +ℤ pos n *ℤ stride) = omega (arith, ints, high, times_suc n stride, d) in
    let begin : r.low ≡ q.low +ℤ at = omega (arith, ints, low) in
    record {
      low = subst (λ (x : ℤ). unsigned_abs x ≤ m + k) (sym begin) (abs_sum q.low at m k p.low (subst (λ (x : ℤ). unsigned_abs x ≤ k) first (w 0 (omega arith))));
      high = subst (λ (x : ℤ). unsigned_abs x ≤ m + k) (sym last) (abs_sum q.high (at +ℤ pos n *ℤ stride) m k p.high (w n (omega arith)));
    }

-- the run of a range that is as long as the stride
pub dense_copies : (q r : AddressRange) (at stride : ℤ) (n : ℕ) → IsFilled q → IsAsLong stride q → r.low ≡ at +ℤ q.low → r.high ≡ (at +ℤ q.low) +ℤ pos n *ℤ stride → 0 < n → AreCopies (q ∷ []) at stride n (r ∷ [])
dense_copies q r at stride n f d low high h =
    let s = unsigned_abs stride in
    let is : pos s ≡ stride = abs_pos stride (omega (arith, ints, d, f)) in
    let some : 0 < s = omega (arith, ints, is, d, f) in
    let e : q.high -ℤ q.low ≡ pos s = d ∙ sym is in
    let end : pos n *ℤ stride ≡ pos (n * s) = ap (λ (z : ℤ). pos n *ℤ z) (sym is) ∙ pos-*ℤ-pos n s in
    let same : (x : ℤ) → IsCopied (q ∷ []) at stride n x ↔ IsIn (record { low = at +ℤ q.low; high = (at +ℤ q.low) +ℤ pos (n * s) }) x = λ x. subst (λ (z : ℤ). IsCopied (q ∷ []) at z n x ↔ IsIn (record { low = at +ℤ q.low; high = (at +ℤ q.low) +ℤ pos (n * s) }) x) is (dense_copied q at s n e some x) in
    let longer = mul-le-mul h (le_refl s) in
    let one : suc 0 * s ≡ s = omega arith in
    let long : (t : ℕ) → pos t ≡ stride → IsAsLong (pos (n * t)) r = λ t g. let b : pos (n * t) ≡ pos n *ℤ stride = sym (pos-*ℤ-pos n t) ∙ ap (λ (z : ℤ). pos n *ℤ z) g in omega (arith, ints, low, high, b) in
    record {
      covers = λ x. (
        (λ p. elim p [ inl g ↦ (same x).1 (record { from = omega (arith, ints, g.from, low); below = omega (arith, ints, g.below, high, end) }) | inr g ↦ absurd g ]),
        (λ p. let g = (same x).0 p in inl (record { from = omega (arith, ints, g.from, low); below = omega (arith, ints, g.below, high, end) })),
      );
      filled = λ p. (omega (arith, ints, low, high, end, some, longer, one), tt);
      near = λ m k p w. (dense_near q r at stride n m k d low high h p.0 w, tt);
      rows = λ w t g. record {
        few = let m : 1 * 1 ≤ n * w = mul-le-mul h g.few in omega (arith, m);
        one = λ u. let b = product_one n w u in (long t (sym (g.one b.1).0 ∙ d), tt);
        none = λ u. let m : 1 * 1 ≤ n * w = mul-le-mul h g.few in absurd (omega (arith, m, u));
      };
      block = λ w t g. record {
        few = weigh_least n w t stride h g.few;
        one = λ u. (long t (weigh_one n w t stride h (λ v. sym (g.one v).0 ∙ d) u), tt);
        none = λ u. absurd (omega (arith, weigh_least n w t stride h g.few, u));
      };
    }

pub repeats_dense : (old rs : List AddressRange) (at stride : ℤ) (n : ℕ) (r : AddressRange) → AllByRecursion IsFilled rs → IsDense stride rs → r.low ≡ at +ℤ (get_or rs 0 past).low → r.high ≡ (at +ℤ (get_or rs 0 past).low) +ℤ pos n *ℤ stride → 0 < n → Repeats old rs at stride n (old ++ r ∷ [])
repeats_dense old [] at stride n r f d low high h = absurd d
repeats_dense old (q ∷ s ∷ rs) at stride n r f d low high h = absurd d
repeats_dense old (q ∷ []) at stride n r f d low high h = record { more = r ∷ []; put = refl; copies = dense_copies q r at stride n f.0 d low high h }

-- ---- how far copies lie

pub abs_times : (j n : ℕ) (stride : ℤ) (m : ℕ) → j ≤ n → n * unsigned_abs stride ≤ m → unsigned_abs (pos j *ℤ stride) ≤ m
abs_times j n stride m h p = let e = unsigned_abs-mul (pos j) stride in let w = mul-le-mul h (le_refl (unsigned_abs stride)) in omega (arith, e, w, p)

-- a product that fits is what is read
pub product_read : (a b : ℤ) → FitsSigned w128 a → FitsSigned w128 b → unsigned_abs a * unsigned_abs b ≤ 2 ^ 125 → to_z w128 (of_z w128 (to_z w128 (of_z w128 a) *ℤ to_z w128 (of_z w128 b))) ≡ a *ℤ b
product_read a b f g h =
    let fits : FitsSigned w128 (a *ℤ b) = fits_signed_from_abs w128 (a *ℤ b) (omega (arith, unsigned_abs-mul a b, h)) in
    ap (λ (x : ℤ). to_z w128 (of_z w128 (x *ℤ to_z w128 (of_z w128 b)))) (to_z-of_z w128 a f) ∙ ap (λ (y : ℤ). to_z w128 (of_z w128 (a *ℤ y))) (to_z-of_z w128 b g) ∙ to_z-of_z w128 (a *ℤ b) fits

pub product_is : (n : ℕ) (stride factor : ℤ) → FitsSigned w128 stride → factor ≡ pos n → n < 2 ^ 64 → n * unsigned_abs stride ≤ 2 ^ 125 → to_z w128 (of_z w128 (to_z w128 (of_z w128 factor) *ℤ to_z w128 (of_z w128 stride))) ≡ pos n *ℤ stride
product_is n stride factor f e w h =
    let far = abs_times n n stride (2 ^ 125) (le_refl n) h in
    let fits : FitsSigned w128 (pos n *ℤ stride) = fits_signed_from_abs w128 (pos n *ℤ stride) (omega (arith, far)) in
    let small : FitsSigned w128 (pos n) = fits_signed_from_abs w128 (pos n) (omega (arith, w)) in
    ap (λ (x : ℤ). to_z w128 (of_z w128 (x *ℤ to_z w128 (of_z w128 stride)))) (ap (λ (z : ℤ). to_z w128 (of_z w128 z)) e ∙ to_z-of_z w128 (pos n) small) ∙ ap (λ (y : ℤ). to_z w128 (of_z w128 (pos n *ℤ y))) (to_z-of_z w128 stride f) ∙ to_z-of_z w128 (pos n *ℤ stride) fits
