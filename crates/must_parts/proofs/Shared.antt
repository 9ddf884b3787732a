-- Addresses that entries have in common, and those that ranges have.
use Rattle.std.proofs.Common.{◌≡◌, ℕ, zero, suc, ◌<◌, Bool, true, false, ◌||◌, ◌⊎◌, inl, inr, ◌↔◌, List, [], ◌∷◌, Option, Some, None, refl, sym, ap, subst, arith}
use Rattle.std.specs.Prelude.{if◌then◌else◌, ℤ, pos, ◌+ℤ◌, ◌≤ℤ◌, ◌<ℤ◌, int_lt, is_some, slice_get}
use Rattle.std.specs.Int.{int_min, int_max}
use Rattle.std.proofs.lemmas.Int.{ints, clamps}
use Rattle.must_call.specs.Basics.{size_of}
use Rattle.must_type.specs.Maps.{Entry, Element, LowerMarker, UpperMarker}
use Rattle.must_span.specs.declared.ranges.AddressRange.{AddressRange}
use Rattle.must_span.specs.Ranges.{Covers, IsFirstShared}
use Rattle.must_span.specs.Bytes.{IsByte, Holds, AreBytes, ShareByte}
use Rattle.must_rules.specs.Overlaps.{first_from, shared_by, lesser, shared_with, least_shared, overlap}
use Rattle.must_parts.specs.Firsts.{IsFirstOf}

-- ---- comparing

lt_yes : (x y : ℤ) → int_lt x y ≡ true → x <ℤ y
lt_yes x y e = grind (arith, ints)

lt_no : (x y : ℤ) → int_lt x y ≡ false → y ≤ℤ x
lt_no x y e = grind (arith, ints)

-- ---- the least address with a property

pub first_one : (P : ℤ → Type 0) (o p : Option ℤ) → IsFirstOf P o → IsFirstOf P p → o ≡ p
first_one P None None f g = refl
first_one P None (Some y) f g = absurd (f y g.holds)
first_one P (Some x) None f g = absurd (g x f.holds)
first_one P (Some x) (Some y) f g =
    let below = f.least y g.holds in
    let above = g.least x f.holds in
    let same : x ≡ y = omega (arith, ints, below, above) in
    ap Some same

pub first_again : (P Q : ℤ → Type 0) → ((x : ℤ) → P x ↔ Q x) → (o : Option ℤ) → IsFirstOf P o → IsFirstOf Q o
first_again P Q e None f = λ x q. f x ((e x).1 q)
first_again P Q e (Some x) f = record { holds = (e x).0 f.holds; least = λ y q. f.least y ((e y).1 q) }

lesser_first : (P Q : ℤ → Type 0) (o p : Option ℤ) → IsFirstOf P o → IsFirstOf Q p → IsFirstOf (λ x. P x ⊎ Q x) (lesser o p)
lesser_first P Q None None f g = λ x h. elim h [ inl a ↦ f x a | inr b ↦ g x b ]
lesser_first P Q None (Some y) f g = record { holds = inr g.holds; least = λ z h. elim h [ inl a ↦ absurd (f z a) | inr b ↦ g.least z b ] }
lesser_first P Q (Some x) None f g = record { holds = inl f.holds; least = λ z h. elim h [ inl a ↦ f.least z a | inr b ↦ absurd (g z b) ] }
lesser_first P Q (Some x) (Some y) f g =
    record { holds = held; least = λ z h. elim h [ inl a ↦ left z (f.least z a) | inr b ↦ right z (g.least z b) ] }
  where
    left : (z : ℤ) → x ≤ℤ z → int_min x y ≤ℤ z
    left z h = omega (arith, ints, clamps, h)

    right : (z : ℤ) → y ≤ℤ z → int_min x y ≤ℤ z
    right z h = omega (arith, ints, clamps, h)

    at : (b : Bool) → int_lt x y ≡ b → P (int_min x y) ⊎ Q (int_min x y)
    at true e =
        let below = lt_yes x y e in
        let is : x ≡ int_min x y = omega (arith, ints, clamps, below) in
        inl (subst P is f.holds)
    at false e =
        let above = lt_no x y e in
        let is : y ≡ int_min x y = omega (arith, ints, clamps, above) in
        inr (subst Q is g.holds)

    held : P (int_min x y) ⊎ Q (int_min x y)
    held = at (int_lt x y) refl

-- ---- entries

between_first : (low high : ℤ) → IsFirstOf (λ x. (low ≤ℤ x) × (x <ℤ high)) (first_from low high)
between_first low high = at (int_lt low high) refl
  where
    at : (b : Bool) → int_lt low high ≡ b → IsFirstOf (λ x. (low ≤ℤ x) × (x <ℤ high)) (if b then Some low else None)
    at true e = record { holds = (omega (arith, ints), lt_yes low high e); least = λ y h. h.0 }
    at false e = let over = lt_no low high e in λ x h. let p = h.0 in let q = h.1 in omega (arith, ints, over, p, q)

shared_bytes : (d e f g x : ℤ) → ((int_max d e ≤ℤ x) × (x <ℤ int_min f g)) ↔ (((d ≤ℤ x) × (x <ℤ f)) × ((e ≤ℤ x) × (x <ℤ g)))
shared_bytes d e f g x = (
  (λ h. let p = h.0 in let q = h.1 in ((omega (arith, ints, clamps, p), omega (arith, ints, clamps, q)), (omega (arith, ints, clamps, p), omega (arith, ints, clamps, q)))),
  (λ h. let a = h.0.0 in let b = h.0.1 in let c = h.1.0 in let k = h.1.1 in (omega (arith, ints, clamps, a, c), omega (arith, ints, clamps, b, k))),
)

entries_first : (e f : Entry) → IsFirstOf (λ x. IsByte e x × IsByte f x) (shared_by e f)
entries_first (Element b d) (Element c k) =
    first_again (λ x. (int_max d k ≤ℤ x) × (x <ℤ int_min (d +ℤ pos (size_of b)) (k +ℤ pos (size_of c)))) (λ x. IsByte (Element b d) x × IsByte (Element c k) x)
    (λ x. shared_bytes d k (d +ℤ pos (size_of b)) (k +ℤ pos (size_of c)) x) (shared_by (Element b d) (Element c k))
    (between_first (int_max d k) (int_min (d +ℤ pos (size_of b)) (k +ℤ pos (size_of c))))
entries_first (Element b d) (LowerMarker k) = λ x h. h.1
entries_first (Element b d) (UpperMarker k) = λ x h. h.1
entries_first (LowerMarker d) f = λ x h. h.0
entries_first (UpperMarker d) f = λ x h. h.0

with_first : (e : Entry) (fs : List Entry) → IsFirstOf (λ x. IsByte e x × Holds fs x) (shared_with e fs)
with_first e [] = λ x h. h.1
with_first e (f ∷ fs) =
    first_again (λ x. (IsByte e x × IsByte f x) ⊎ (IsByte e x × Holds fs x)) (λ x. IsByte e x × Holds (f ∷ fs) x) (λ x. (there x, back x)) (shared_with e (f ∷ fs))
    (lesser_first (λ x. IsByte e x × IsByte f x) (λ x. IsByte e x × Holds fs x) (shared_by e f) (shared_with e fs) (entries_first e f) (with_first e fs))
  where
    there : (x : ℤ) → (IsByte e x × IsByte f x) ⊎ (IsByte e x × Holds fs x) → IsByte e x × Holds (f ∷ fs) x
    there x (inl h) = (h.0, inl h.1)
    there x (inr h) = (h.0, inr h.1)

    back : (x : ℤ) → IsByte e x × Holds (f ∷ fs) x → (IsByte e x × IsByte f x) ⊎ (IsByte e x × Holds fs x)
    back x (p, inl h) = inl (p, h)
    back x (p, inr h) = inr (p, h)

-- the least address that both hold
pub shared_first : (es fs : List Entry) → IsFirstOf (λ x. Holds es x × Holds fs x) (least_shared es fs)
shared_first [] fs = λ x h. h.0
shared_first (e ∷ es) fs =
    first_again (λ x. (IsByte e x × Holds fs x) ⊎ (Holds es x × Holds fs x)) (λ x. Holds (e ∷ es) x × Holds fs x) (λ x. (there x, back x)) (least_shared (e ∷ es) fs)
    (lesser_first (λ x. IsByte e x × Holds fs x) (λ x. Holds es x × Holds fs x) (shared_with e fs) (least_shared es fs) (with_first e fs) (shared_first es fs))
  where
    there : (x : ℤ) → (IsByte e x × Holds fs x) ⊎ (Holds es x × Holds fs x) → Holds (e ∷ es) x × Holds fs x
    there x (inl h) = (inl h.0, h.1)
    there x (inr h) = (inr h.0, h.1)

    back : (x : ℤ) → Holds (e ∷ es) x × Holds fs x → (IsByte e x × Holds fs x) ⊎ (Holds es x × Holds fs x)
    back x (inl p, h) = inl (p, h)
    back x (inr p, h) = inr (p, h)

-- the first address that ranges share, by their entries
ranges_first : (rs ss : List AddressRange) (o : Option ℤ) → IsFirstShared rs ss o → IsFirstOf (λ x. Covers rs x × Covers ss x) o
ranges_first rs ss None f = λ x h. f x h.0 h.1
ranges_first rs ss (Some x) f = record { holds = (f.in_first, f.in_second); least = λ y h. f.least y h.0 h.1 }

pub shared_is : (rs ss : List AddressRange) (es fs : List Entry) (o : Option ℤ) → AreBytes rs es → AreBytes ss fs → IsFirstShared rs ss o → o ≡ least_shared es fs
shared_is rs ss es fs o a b f =
    first_one (λ x. Holds es x × Holds fs x) o (least_shared es fs)
    (first_again (λ x. Covers rs x × Covers ss x) (λ x. Holds es x × Holds fs x) (λ x. ((λ h. ((a x).0 h.0, (b x).0 h.1)), (λ h. ((a x).1 h.0, (b x).1 h.1)))) o (ranges_first rs ss o f))
    (shared_first es fs)

-- ---- entries that overlap

-- an address is held by an entry
record IsHeldAt (es : List Entry) (x : ℤ) : Type 0 where
  at : ℕ
  entry : Entry
  is : slice_get es at ≡ Some entry
  byte : IsByte entry x

held_at : (es : List Entry) (x : ℤ) → Holds es x → IsHeldAt es x
held_at [] x h = absurd h
held_at (e ∷ es) x (inl h) = record { at = 0; entry = e; is = refl; byte = h }
held_at (e ∷ es) x (inr h) = let k = held_at es x h in record { at = suc k.at; entry = k.entry; is = k.is; byte = k.byte }

same_some : (e f : Entry) → Some e ≡ Some f → e ≡ f
same_some e f is = cc

at_held : (es : List Entry) (x : ℤ) (i : ℕ) (e : Entry) → slice_get es i ≡ Some e → IsByte e x → Holds es x
at_held [] x i e is h = absurd cc
at_held (f ∷ es) x zero e is h = inl (subst (λ k. IsByte k x) (sym (same_some f e is)) h)
at_held (f ∷ es) x (suc i) e is h = inr (at_held es x i e is h)

some_least : (P : ℤ → Type 0) (o : Option ℤ) (x : ℤ) → IsFirstOf P o → P x → is_some o ≡ true
some_least P None x f h = absurd (f x h)
some_least P (Some y) x f h = refl

or_true : (a b : Bool) → b ≡ true → (a || b) ≡ true
or_true true b e = refl
or_true false b e = e

or_left : (a b : Bool) → a ≡ true → (a || b) ≡ true
or_left true b e = refl
or_left false b e = absurd cc

overlap_at : (es : List Entry) (i k : ℕ) (e f : Entry) (x : ℤ) → i < k → slice_get es i ≡ Some e → slice_get es k ≡ Some f → IsByte e x → IsByte f x → overlap es ≡ true
overlap_at [] i k e f x h p q a b = absurd cc
overlap_at (g ∷ es) i zero e f x h p q a b = absurd (omega arith)
overlap_at (g ∷ es) zero (suc k) e f x h p q a b =
    or_left (is_some (shared_with g es)) (overlap es) (some_least (λ y. IsByte g y × Holds es y) (shared_with g es) x (with_first g es) (subst (λ m. IsByte m x) (sym (same_some g e p)) a, at_held es x k f q b))
overlap_at (g ∷ es) (suc i) (suc k) e f x h p q a b = or_true (is_some (shared_with g es)) (overlap es) (overlap_at es i k e f x (omega arith) p q a b)

pub overlap_from : (es : List Entry) → ShareByte es → overlap es ≡ true
overlap_from es s = overlap_at es s.i s.k s.first s.second s.address s.before s.first_is s.second_is s.in_first s.in_second

share_head : (e : Entry) (es : List Entry) (o : Option ℤ) → IsFirstOf (λ x. IsByte e x × Holds es x) o → is_some o ≡ true → ShareByte (e ∷ es)
share_head e es None f h = absurd cc
share_head e es (Some x) f h =
    let k = held_at es x f.holds.1 in
    record { i = 0; k = suc k.at; first = e; second = k.entry; before = omega arith; first_is = refl; second_is = k.is; address = x; in_first = f.holds.0; in_second = k.byte }

share_tail : (e : Entry) (es : List Entry) → ShareByte es → ShareByte (e ∷ es)
share_tail e es s = record { i = suc s.i; k = suc s.k; first = s.first; second = s.second; before = omega (arith, s.before); first_is = s.first_is; second_is = s.second_is; address = s.address; in_first = s.in_first; in_second = s.in_second }

share_by : (b : Bool) (e : Entry) (es : List Entry) → is_some (shared_with e es) ≡ b → (b || overlap es) ≡ true → (overlap es ≡ true → ShareByte es) → ShareByte (e ∷ es)
share_by true e es p h rest = share_head e es (shared_with e es) (with_first e es) p
share_by false e es p h rest = share_tail e es (rest h)

pub share_from : (es : List Entry) → overlap es ≡ true → ShareByte es
share_from [] h = absurd cc
share_from (e ∷ es) h = share_by (is_some (shared_with e es)) e es refl h (share_from es)

-- a test that holds exactly where two entries share a byte
pub overlap_is : (es : List Entry) (b : Bool) (P : Type 0) → (b ≡ true → P) → (P → b ≡ true) → (P ↔ ShareByte es) → b ≡ overlap es
overlap_is es b P f g h = at b (overlap es) refl refl
  where
    at : (c o : Bool) → b ≡ c → overlap es ≡ o → c ≡ o
    at true true p q = refl
    at false false p q = refl
    at true false p q = absurd (let t : overlap es ≡ true = overlap_from es (h.0 (f p)) in cc)
    at false true p q = absurd (let t : b ≡ true = g (h.1 (share_from es q)) in cc)
