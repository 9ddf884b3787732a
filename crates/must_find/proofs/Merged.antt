-- Two lists that rise, merged into one.
use Rattle.std.proofs.Common.{◌≡◌, ℕ, ◌+◌, ◌<◌, ◌≤◌, List, [], ◌∷◌, ◌++◌, length, get_or, drop, refl, sym, ap, subst, ◌∙◌, inl, inr, Ordering, Less, Greater}
use Rattle.std.specs.Prelude.{◌⊎◌, ◌↔◌}
use Rattle.std.specs.List.{AllByRecursion}
use Rattle.std.specs.Ordering.{ordering_reverse}
use Rattle.std.specs.Cmp.{IsTotalOrder}
use Rattle.std.proofs.lemmas.List.{drop_more, drop_all}
use Rattle.must_base.specs.Listing.{Has, Rises}
use Rattle.must_find.specs.Merged.{IsMerged}
use Rattle.must_base.specs.ListingLaws.{all_has, rises_nil, rises_cons, rises_head, rises_tail}

-- ---- lists one behind the other

has_front : {X : Type 0} (xs ys : List X) (z : X) → Has xs z → Has (xs ++ ys) z
has_front [] ys z h = absurd h
has_front (x ∷ xs) ys z (inl e) = inl e
has_front (x ∷ xs) ys z (inr h) = inr (has_front xs ys z h)

has_back : {X : Type 0} (xs ys : List X) (z : X) → Has ys z → Has (xs ++ ys) z
has_back [] ys z h = h
has_back (x ∷ xs) ys z h = inr (has_back xs ys z h)

has_either : {X : Type 0} (xs ys : List X) (z : X) → Has (xs ++ ys) z → Has xs z ⊎ Has ys z
has_either [] ys z h = inr h
has_either (x ∷ xs) ys z (inl e) = inl (inl e)
has_either (x ∷ xs) ys z (inr h) = elim (has_either xs ys z h) [ inl k ↦ inl (inr k) | inr k ↦ inr k ]

all_of : {X : Type 0} (P : X → Type 0) (xs : List X) → ((z : X) → Has xs z → P z) → AllByRecursion P xs
all_of P [] f = tt
all_of P (x ∷ xs) f = (f x (inl refl), all_of P xs (λ z h. f z (inr h)))

rises_joined : {X : Type 0} (order : X → X → Ordering) (xs ys : List X) → Rises order xs → Rises order ys → ((z w : X) → Has xs z → Has ys w → order z w ≡ Less) → Rises order (xs ++ ys)
rises_joined order [] ys r s before = s
rises_joined order (x ∷ xs) ys r s before =
    rises_cons order x (xs ++ ys)
    (all_of (λ z. order x z ≡ Less) (xs ++ ys) (λ z h. elim (has_either xs ys z h) [ inl k ↦ all_has (λ w. order x w ≡ Less) xs z (rises_head order x xs r) k | inr k ↦ before x z (inl refl) k ]))
    (rises_joined order xs ys (rises_tail order x xs r) s (λ z w h k. before z w (inr h) k))

-- ---- the merge so far: `out` was taken from the fronts of two lists, of which p and q are left

pub record Merging {X : Type 0} (order : X → X → Ordering) (xs ys out p q : List X) : Type 0 where
  pub rises : Rises order out
  pub rises_p : Rises order p
  pub rises_q : Rises order q
  pub before : (z w : X) → Has out z → Has p w ⊎ Has q w → order z w ≡ Less
  pub exact : (z : X) → (Has out z ⊎ (Has p z ⊎ Has q z)) ↔ (Has xs z ⊎ Has ys z)

pub at_first : {X : Type 0} (order : X → X → Ordering) (xs ys : List X) → Rises order xs → Rises order ys → Merging order xs ys [] xs ys
at_first order xs ys r s = record {
  rises = rises_nil order;
  rises_p = r;
  rises_q = s;
  before = λ z w h k. absurd h;
  exact = λ z. (λ h. elim h [ inl k ↦ absurd k | inr k ↦ k ], λ h. inr h);
}

-- one that is before all that is left goes behind what was taken
more : {X : Type 0} (order : X → X → Ordering) (xs ys out p q p' q' : List X) (x : X) → Merging order xs ys out p q → Rises order p' → Rises order q'
    → ((w : X) → (Has p w ⊎ Has q w) ↔ ((w ≡ x) ⊎ (Has p' w ⊎ Has q' w))) → ((w : X) → Has p' w ⊎ Has q' w → order x w ≡ Less) → Merging order xs ys (out ++ x ∷ []) p' q'
more {X} order xs ys out p q p' q' x m rp rq splits first =
    let one : (z : X) → Has (out ++ x ∷ []) z → Has out z ⊎ (z ≡ x) = λ z h.
    elim (has_either out (x ∷ []) z h) [ inl k ↦ inl k | inr k ↦ elim k [ inl e ↦ inr e | inr n ↦ absurd n ] ] in
    let to : (z : X) → Has (out ++ x ∷ []) z ⊎ (Has p' z ⊎ Has q' z) → Has xs z ⊎ Has ys z = λ z h.
    (m.exact z).0 (elim h [
      | inl k ↦ elim (one z k) [ inl w ↦ inl w | inr e ↦ inr ((splits z).1 (inl e)) ]
      | inr k ↦ inr ((splits z).1 (inr k))
    ]) in
    let back : (z : X) → Has xs z ⊎ Has ys z → Has (out ++ x ∷ []) z ⊎ (Has p' z ⊎ Has q' z) = λ z h.
    elim ((m.exact z).1 h) [
      | inl k ↦ inl (has_front out (x ∷ []) z k)
      | inr k ↦ elim ((splits z).0 k) [ inl e ↦ inl (has_back out (x ∷ []) z (inl e)) | inr w ↦ inr w ]
    ] in
    record {
      rises = rises_joined order out (x ∷ []) m.rises (rises_cons order x [] tt (rises_nil order))
          (λ z w h k. elim k [ inl e ↦ m.before z w h ((splits w).1 (inl e)) | inr n ↦ absurd n ]);
      rises_p = rp;
      rises_q = rq;
      before = λ z w h k. elim (one z h) [ inl o ↦ m.before z w o ((splits w).1 (inr k)) | inr e ↦ subst (λ v. order v w ≡ Less) (sym e) (first w k) ];
      exact = λ z. (to z, back z);
    }

-- the first of xs is before the first of ys
pub takes_left : {X : Type 0} (order : X → X → Ordering) → IsTotalOrder order → (xs ys out p q : List X) (x y : X) → order x y ≡ Less → Merging order xs ys out (x ∷ p) (y ∷ q) → Merging order xs ys (out ++ x ∷ []) p (y ∷ q)
takes_left order o xs ys out p q x y less m =
    more order xs ys out (x ∷ p) (y ∷ q) p (y ∷ q) x m (rises_tail order x p m.rises_p) m.rises_q
    (λ w. (
      λ h. elim h [ inl k ↦ elim k [ inl e ↦ inl e | inr t ↦ inr (inl t) ] | inr k ↦ inr (inr k) ],
      λ h. elim h [ inl e ↦ inl (inl e) | inr k ↦ elim k [ inl t ↦ inl (inr t) | inr t ↦ inr t ] ],
    ))
    (λ w h. elim h [
      | inl k ↦ all_has (λ v. order x v ≡ Less) p w (rises_head order x p m.rises_p) k
      | inr k ↦ elim k [ inl e ↦ subst (λ v. order x v ≡ Less) (sym e) less | inr t ↦ o.trans x y w less (all_has (λ v. order y v ≡ Less) q w (rises_head order y q m.rises_q) t) ]
    ])

-- the first of ys is before the first of xs
pub takes_right : {X : Type 0} (order : X → X → Ordering) → IsTotalOrder order → (xs ys out p q : List X) (x y : X) → order x y ≡ Greater → Merging order xs ys out (x ∷ p) (y ∷ q) → Merging order xs ys (out ++ y ∷ []) (x ∷ p) q
takes_right order o xs ys out p q x y greater m =
    let less : order y x ≡ Less = o.antisymm y x ∙ ap ordering_reverse greater in
    more order xs ys out (x ∷ p) (y ∷ q) (x ∷ p) q y m m.rises_p (rises_tail order y q m.rises_q)
    (λ w. (
      λ h. elim h [ inl k ↦ inr (inl k) | inr k ↦ elim k [ inl e ↦ inl e | inr t ↦ inr (inr t) ] ],
      λ h. elim h [ inl e ↦ inr (inl e) | inr k ↦ elim k [ inl t ↦ inl t | inr t ↦ inr (inr t) ] ],
    ))
    (λ w h. elim h [
      | inl k ↦ elim k [ inl e ↦ subst (λ v. order y v ≡ Less) (sym e) less | inr t ↦ o.trans y x w less (all_has (λ v. order x v ≡ Less) p w (rises_head order x p m.rises_p) t) ]
      | inr k ↦ all_has (λ v. order y v ≡ Less) q w (rises_head order y q m.rises_q) k
    ])

-- the first of both are one, which is taken once
pub takes_both : {X : Type 0} (order : X → X → Ordering) (xs ys out p q : List X) (x y : X) → x ≡ y → Merging order xs ys out (x ∷ p) (y ∷ q) → Merging order xs ys (out ++ x ∷ []) p q
takes_both order xs ys out p q x y e m =
    more order xs ys out (x ∷ p) (y ∷ q) p q x m (rises_tail order x p m.rises_p) (rises_tail order y q m.rises_q)
    (λ w. (
      λ h. elim h [ inl k ↦ elim k [ inl f ↦ inl f | inr t ↦ inr (inl t) ] | inr k ↦ elim k [ inl f ↦ inl (f ∙ sym e) | inr t ↦ inr (inr t) ] ],
      λ h. elim h [ inl f ↦ inl (inl f) | inr k ↦ elim k [ inl t ↦ inl (inr t) | inr t ↦ inr (inr t) ] ],
    ))
    (λ w h. elim h [
      | inl k ↦ all_has (λ v. order x v ≡ Less) p w (rises_head order x p m.rises_p) k
      | inr k ↦ subst (λ v. order v w ≡ Less) (sym e) (all_has (λ v. order y v ≡ Less) q w (rises_head order y q m.rises_q) k)
    ])

-- ---- the same by places

left_of : {X : Type 0} (order : X → X → Ordering) (xs ys out : List X) (i j : ℕ) (d : X) → i < length xs → j < length ys → Merging order xs ys out (drop i xs) (drop j ys)
    → Merging order xs ys out (get_or xs i d ∷ drop (i + 1) xs) (get_or ys j d ∷ drop (j + 1) ys)
left_of {X} order xs ys out i j d h k m =
    let n : Merging order xs ys out (get_or xs i d ∷ drop (i + 1) xs) (drop j ys) = subst (λ (p : List X). Merging order xs ys out p (drop j ys)) (drop_more xs i d h) m in
    subst (λ (q : List X). Merging order xs ys out (get_or xs i d ∷ drop (i + 1) xs) q) (drop_more ys j d k) n

pub left_at : {X : Type 0} (order : X → X → Ordering) → IsTotalOrder order → (xs ys out : List X) (i j : ℕ) (d : X) → i < length xs → j < length ys → order (get_or xs i d) (get_or ys j d) ≡ Less
    → Merging order xs ys out (drop i xs) (drop j ys) → Merging order xs ys (out ++ get_or xs i d ∷ []) (drop (i + 1) xs) (drop j ys)
left_at {X} order o xs ys out i j d h k less m =
    subst (λ (q : List X). Merging order xs ys (out ++ get_or xs i d ∷ []) (drop (i + 1) xs) q) (sym (drop_more ys j d k))
    (takes_left order o xs ys out (drop (i + 1) xs) (drop (j + 1) ys) (get_or xs i d) (get_or ys j d) less (left_of order xs ys out i j d h k m))

pub right_at : {X : Type 0} (order : X → X → Ordering) → IsTotalOrder order → (xs ys out : List X) (i j : ℕ) (d : X) → i < length xs → j < length ys → order (get_or xs i d) (get_or ys j d) ≡ Greater
    → Merging order xs ys out (drop i xs) (drop j ys) → Merging order xs ys (out ++ get_or ys j d ∷ []) (drop i xs) (drop (j + 1) ys)
right_at {X} order o xs ys out i j d h k greater m =
    subst (λ (p : List X). Merging order xs ys (out ++ get_or ys j d ∷ []) p (drop (j + 1) ys)) (sym (drop_more xs i d h))
    (takes_right order o xs ys out (drop (i + 1) xs) (drop (j + 1) ys) (get_or xs i d) (get_or ys j d) greater (left_of order xs ys out i j d h k m))

pub both_at : {X : Type 0} (order : X → X → Ordering) (xs ys out : List X) (i j : ℕ) (d : X) → i < length xs → j < length ys → get_or xs i d ≡ get_or ys j d
    → Merging order xs ys out (drop i xs) (drop j ys) → Merging order xs ys (out ++ get_or xs i d ∷ []) (drop (i + 1) xs) (drop (j + 1) ys)
both_at order xs ys out i j d h k e m = takes_both order xs ys out (drop (i + 1) xs) (drop (j + 1) ys) (get_or xs i d) (get_or ys j d) e (left_of order xs ys out i j d h k m)

pub ends_of : {X : Type 0} (xs ys : List X) (i j : ℕ) → (length xs ≤ i) ⊎ (length ys ≤ j) → (drop i xs ≡ []) ⊎ (drop j ys ≡ [])
ends_of xs ys i j (inl h) = inl (drop_all i xs h)
ends_of xs ys i j (inr h) = inr (drop_all j ys h)

-- where one list is at its end, the other's rest goes behind what was taken
pub at_end : {X : Type 0} (order : X → X → Ordering) (xs ys out p q : List X) → (p ≡ []) ⊎ (q ≡ []) → Merging order xs ys out p q → IsMerged order xs ys ((out ++ p) ++ q)
at_end {X} order xs ys out p q ends m =
    let between : (z w : X) → Has p z → Has q w → order z w ≡ Less = λ z w h k. elim ends [
      | inl e ↦ absurd (subst (λ l. Has l z) e h)
      | inr e ↦ absurd (subst (λ l. Has l w) e k)
    ] in
    let front = rises_joined order out p m.rises m.rises_p (λ z w h k. m.before z w h (inl k)) in
    record {
      rises = rises_joined order (out ++ p) q front m.rises_q
          (λ z w h k. elim (has_either out p z h) [ inl a ↦ m.before z w a (inr k) | inr b ↦ between z w b k ]);
      exact = λ z. (
        λ h. (m.exact z).0 (elim (has_either (out ++ p) q z h) [ inl k ↦ elim (has_either out p z k) [ inl a ↦ inl a | inr b ↦ inr (inl b) ] | inr b ↦ inr (inr b) ]),
        λ h. elim ((m.exact z).1 h) [ inl a ↦ has_front (out ++ p) q z (has_front out p z a) | inr b ↦ elim b [ inl k ↦ has_front (out ++ p) q z (has_back out p z k) | inr k ↦ has_back (out ++ p) q z k ] ],
      );
    }
