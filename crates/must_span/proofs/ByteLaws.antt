-- From the ranges of an old type to those of what a call makes of it.
use Rattle.std.proofs.Common.{◌≡◌, refl, subst, arith, inl, inr, ◌⊎◌, ◌↔◌, ℕ, zero, suc, ◌+◌, ◌*◌, ◌<◌, ℤ, pos, ◌+ℤ◌, ◌-ℤ◌, ◌*ℤ◌, List, [], ◌∷◌, ◌++◌}
use Rattle.std.proofs.lemmas.Int.{ints}
use Rattle.must_type.specs.Maps.{Entry, Element, LowerMarker, UpperMarker, size, extent, moved, moved_entry, without_markers, each_below, block}
use Rattle.must_type.specs.MapLaws.{no_basics}
use Rattle.must_type.specs.Constructs.{vector_map, hvector_map}
use Rattle.must_span.specs.declared.ranges.AddressRange.{AddressRange}
use Rattle.must_span.specs.Steps.{IsCopied}
use Rattle.must_span.specs.Bytes.{IsByte, Holds, AreBytes}

pub holds_left : (a b : List Entry) (x : ℤ) → Holds a x → Holds (a ++ b) x
holds_left [] b x h = absurd h
holds_left (e ∷ a) b x (inl h) = inl h
holds_left (e ∷ a) b x (inr h) = inr (holds_left a b x h)

pub holds_right : (a b : List Entry) (x : ℤ) → Holds b x → Holds (a ++ b) x
holds_right [] b x h = h
holds_right (e ∷ a) b x h = inr (holds_right a b x h)

pub holds_split : (a b : List Entry) (x : ℤ) → Holds (a ++ b) x → Holds a x ⊎ Holds b x
holds_split [] b x h = inr h
holds_split (e ∷ a) b x (inl h) = inl (inl h)
holds_split (e ∷ a) b x (inr h) = elim (holds_split a b x h) [ inl p ↦ inl (inr p) | inr q ↦ inr q ]

byte_moved : (d : ℤ) (e : Entry) (x : ℤ) → IsByte (moved_entry d e) x ↔ IsByte e (x -ℤ d)
byte_moved d (Element b at) x = ((λ p. (omega (arith, ints, p.0), omega (arith, ints, p.1))), (λ p. (omega (arith, ints, p.0), omega (arith, ints, p.1))))
byte_moved d (LowerMarker at) x = ((λ p. p), (λ p. p))
byte_moved d (UpperMarker at) x = ((λ p. p), (λ p. p))

pub holds_moved : (d : ℤ) (es : List Entry) (x : ℤ) → Holds (moved d es) x ↔ Holds es (x -ℤ d)
holds_moved d [] x = ((λ p. p), (λ p. p))
holds_moved d (e ∷ es) x = (
  (λ p. elim p [ inl q ↦ inl ((byte_moved d e x).0 q) | inr q ↦ inr ((holds_moved d es x).0 q) ]),
  (λ p. elim p [ inl q ↦ inl ((byte_moved d e x).1 q) | inr q ↦ inr ((holds_moved d es x).1 q) ]),
)

-- an address of one of n lists of entries
pub record IsInOne (n : ℕ) (f : ℕ → List Entry) (x : ℤ) : Type 0 where
  pub which : ℕ
  pub below : which < n
  pub holds : Holds (f which) x

pub holds_below : (n : ℕ) (f : ℕ → List Entry) (x : ℤ) → Holds (each_below n f) x → IsInOne n f x
holds_below zero f x h = absurd h
holds_below (suc n) f x h = elim (holds_split (each_below n f) (f n) x h) [
  | inl p ↦ let q = holds_below n f x p in record { which = q.which; below = omega (arith, q.below); holds = q.holds }
  | inr p ↦ record { which = n; below = omega arith; holds = p }
]

pub below_holds : (n : ℕ) (f : ℕ → List Entry) (x : ℤ) (k : ℕ) → k < n → Holds (f k) x → Holds (each_below n f) x
below_holds zero f x k h p = absurd (omega (arith, h))
below_holds (suc n) f x k h p = elim (last_or k n h) [
  | inl less ↦ holds_left (each_below n f) (f n) x (below_holds n f x k less p)
  | inr same ↦ holds_right (each_below n f) (f n) x (subst (λ j. Holds (f j) x) same p)
]
  where
    last_or : (k n : ℕ) → k < suc n → (k < n) ⊎ (k ≡ n)
    last_or k n h = grind arith

-- the map of n copies, a stride apart
abbrev pub copies_map : ℕ → ℤ → ℤ → List Entry → List Entry
copies_map n at stride es = each_below n (λ j. moved (at +ℤ pos j *ℤ stride) es)

-- the addresses of the copies are the copied addresses
pub copied_bytes : (rs : List AddressRange) (n : ℕ) (es : List Entry) (at stride : ℤ) → AreBytes rs es → (x : ℤ) → IsCopied rs at stride n x ↔ Holds (copies_map n at stride es) x
copied_bytes rs n es at stride same x = (
  (λ c. below_holds n (λ j. moved (at +ℤ pos j *ℤ stride) es) x c.copy c.below ((holds_moved (at +ℤ pos c.copy *ℤ stride) es x).1 ((same (x -ℤ (at +ℤ pos c.copy *ℤ stride))).0 c.covers))),
  (λ h. let one = holds_below n (λ j. moved (at +ℤ pos j *ℤ stride) es) x h in
      record { copy = one.which; below = one.below; covers = (same (x -ℤ (at +ℤ pos one.which *ℤ stride))).1 ((holds_moved (at +ℤ pos one.which *ℤ stride) es x).0 one.holds) }),
)

-- a block at d is the block at 0, moved by d
pub block_moved : (n : ℕ) (T : List Entry) (d x : ℤ) → Holds (block n T d) x ↔ Holds (block n T (pos 0)) (x -ℤ d)
unfolding block
block_moved n T d x = (
  (λ h. let one = holds_below n (λ j. moved (d +ℤ pos j *ℤ extent T) T) x h in
      let e : x -ℤ (d +ℤ pos one.which *ℤ extent T) ≡ (x -ℤ d) -ℤ (pos 0 +ℤ pos one.which *ℤ extent T) = omega (arith, ints) in
      below_holds n (λ j. moved (pos 0 +ℤ pos j *ℤ extent T) T) (x -ℤ d) one.which one.below ((holds_moved (pos 0 +ℤ pos one.which *ℤ extent T) T (x -ℤ d)).1 (subst (Holds T) e ((holds_moved (d +ℤ pos one.which *ℤ extent T) T x).0 one.holds)))),
  (λ h. let one = holds_below n (λ j. moved (pos 0 +ℤ pos j *ℤ extent T) T) (x -ℤ d) h in
      let e : (x -ℤ d) -ℤ (pos 0 +ℤ pos one.which *ℤ extent T) ≡ x -ℤ (d +ℤ pos one.which *ℤ extent T) = omega (arith, ints) in
      below_holds n (λ j. moved (d +ℤ pos j *ℤ extent T) T) x one.which one.below ((holds_moved (d +ℤ pos one.which *ℤ extent T) T x).1 (subst (Holds T) e ((holds_moved (pos 0 +ℤ pos one.which *ℤ extent T) T (x -ℤ d)).0 one.holds)))),
)

-- copies of a block, a stride apart, are the blocks of a vector
pub hvector_holds : (count length : ℕ) (stride : ℤ) (T : List Entry) (x : ℤ) → Holds (copies_map count (pos 0) stride (block length T (pos 0))) x ↔ Holds (hvector_map count length stride T) x
unfolding hvector_map
hvector_holds count length stride T x = (
  (λ p.
      let one = holds_below count (λ j. moved (pos 0 +ℤ pos j *ℤ stride) (block length T (pos 0))) x p in
      let e : x -ℤ (pos 0 +ℤ pos one.which *ℤ stride) ≡ x -ℤ pos one.which *ℤ stride = omega (arith, ints) in
      below_holds count (λ i. block length T (pos i *ℤ stride)) x one.which one.below ((block_moved length T (pos one.which *ℤ stride) x).1 (subst (Holds (block length T (pos 0))) e ((holds_moved (pos 0 +ℤ pos one.which *ℤ stride) (block length T (pos 0)) x).0 one.holds)))),
  (λ p.
      let one = holds_below count (λ i. block length T (pos i *ℤ stride)) x p in
      let e : x -ℤ pos one.which *ℤ stride ≡ x -ℤ (pos 0 +ℤ pos one.which *ℤ stride) = omega (arith, ints) in
      below_holds count (λ j. moved (pos 0 +ℤ pos j *ℤ stride) (block length T (pos 0))) x one.which one.below ((holds_moved (pos 0 +ℤ pos one.which *ℤ stride) (block length T (pos 0)) x).1 (subst (Holds (block length T (pos 0))) e ((block_moved length T (pos one.which *ℤ stride) x).0 one.holds)))),
)

-- a vector counts its stride in extents
pub vector_is_hvector : (count length : ℕ) (stride : ℤ) (T : List Entry) → vector_map count length stride T ≡ hvector_map count length (stride *ℤ extent T) T
unfolding vector_map hvector_map
vector_is_hvector count length stride T = refl

-- markers have no addresses
pub unmarked_holds : (es : List Entry) (x : ℤ) → Holds (without_markers es) x ↔ Holds es x
unmarked_holds [] x = ((λ p. p), (λ p. p))
unmarked_holds (Element b d ∷ es) x = (
  (λ p. elim p [ inl q ↦ inl q | inr q ↦ inr ((unmarked_holds es x).0 q) ]),
  (λ p. elim p [ inl q ↦ inl q | inr q ↦ inr ((unmarked_holds es x).1 q) ]),
)
unmarked_holds (LowerMarker d ∷ es) x = ((λ p. inr ((unmarked_holds es x).0 p)), (λ p. elim p [ inl q ↦ absurd q | inr q ↦ (unmarked_holds es x).1 q ]))
unmarked_holds (UpperMarker d ∷ es) x = ((λ p. inr ((unmarked_holds es x).0 p)), (λ p. elim p [ inl q ↦ absurd q | inr q ↦ (unmarked_holds es x).1 q ]))

pub two_markers_hold : (es : List Entry) (lb ub x : ℤ) → Holds (es ++ LowerMarker lb ∷ UpperMarker ub ∷ []) x ↔ Holds es x
two_markers_hold es lb ub x = (
  (λ p. elim (holds_split es (LowerMarker lb ∷ UpperMarker ub ∷ []) x p) [ inl q ↦ q | inr q ↦ elim q [ inl r ↦ absurd r | inr r ↦ elim r [ inl t ↦ absurd t | inr t ↦ absurd t ] ] ]),
  (λ p. holds_left es (LowerMarker lb ∷ UpperMarker ub ∷ []) x p),
)

pub nowhere : (es : List Entry) → size es ≡ 0 → (x : ℤ) → Holds es x → ⊥
nowhere es h x p = subst (λ l. Holds l x) (no_basics es h) ((unmarked_holds es x).1 p)

-- ---- sizes

pub size_append : (a b : List Entry) → size (a ++ b) ≡ size a + size b
size_append [] b = omega arith
size_append (Element c d ∷ a) b = omega (arith, size_append a b)
size_append (LowerMarker d ∷ a) b = size_append a b
size_append (UpperMarker d ∷ a) b = size_append a b

pub size_moved : (d : ℤ) (es : List Entry) → size (moved d es) ≡ size es
size_moved d [] = refl
size_moved d (Element b at ∷ es) = omega (arith, size_moved d es)
size_moved d (LowerMarker at ∷ es) = size_moved d es
size_moved d (UpperMarker at ∷ es) = size_moved d es

pub size_unmarked : (es : List Entry) → size (without_markers es) ≡ size es
size_unmarked [] = refl
size_unmarked (Element b at ∷ es) = omega (arith, size_unmarked es)
size_unmarked (LowerMarker at ∷ es) = size_unmarked es
size_unmarked (UpperMarker at ∷ es) = size_unmarked es

pub size_each : (n s : ℕ) (f : ℕ → List Entry) → ((i : ℕ) → size (f i) ≡ s) → size (each_below n f) ≡ n * s
size_each zero s f h = omega arith
size_each (suc n) s f h = omega (arith, size_append (each_below n f) (f n), size_each n s f h, h n)

pub size_copies : (n : ℕ) (at stride : ℤ) (es : List Entry) → size (copies_map n at stride es) ≡ n * size es
size_copies n at stride es = size_each n (size es) (λ j. moved (at +ℤ pos j *ℤ stride) es) (λ j. size_moved (at +ℤ pos j *ℤ stride) es)

pub size_block : (n : ℕ) (T : List Entry) (d : ℤ) → size (block n T d) ≡ n * size T
unfolding block
size_block n T d = size_copies n d (extent T) T

pub size_hvector : (count length : ℕ) (stride : ℤ) (T : List Entry) → size (hvector_map count length stride T) ≡ count * (length * size T)
unfolding hvector_map
size_hvector count length stride T = size_each count (length * size T) (λ i. block length T (pos i *ℤ stride)) (λ i. size_block length T (pos i *ℤ stride))

pub size_marked : (es : List Entry) (lb ub : ℤ) → size (es ++ LowerMarker lb ∷ UpperMarker ub ∷ []) ≡ size es
size_marked es lb ub = omega (arith, size_append es (LowerMarker lb ∷ UpperMarker ub ∷ []))
