-- Addresses are fewer than bytes exactly where two entries share one: both are counted address by address.
use Rattle.std.proofs.Common.{◌≡◌, refl, ◌∙◌, subst, arith, inl, inr, ◌⊎◌, ◌↔◌, true, false, ℕ, zero, suc, ◌+◌, ◌*◌, ◌<◌, ◌≤◌, ℤ, pos, negsuc, ◌+ℤ◌, ◌-ℤ◌, ◌≤ℤ◌, ◌<ℤ◌, List, [], ◌∷◌, Some, length}
use Rattle.std.specs.Prelude.{slice_get, if◌then◌else◌}
use Rattle.std.specs.Int.RustNames.{unsigned_abs}
use Rattle.std.specs.List.{AllByRecursion}
use Rattle.std.proofs.lemmas.Int.{ints, by_lt_z}
use lib.Signed.{lt_z}
use Rattle.must_call.specs.Basics.{size_of}
use Rattle.must_type.specs.Maps.{Entry, Element, LowerMarker, UpperMarker, size}
use Rattle.must_type.specs.Tree.{TypeTree, type_map}
use Rattle.must_span.specs.declared.ranges.AddressRange.{AddressRange}
use Rattle.must_span.specs.Ranges.{Covers, IsFilled, AreApart, addresses}
use Rattle.must_span.specs.Bytes.{IsByte, Holds, AreBytes, ShareByte, message_map}
use Rattle.must_span.specs.Steps.{count_of}
use Rattle.must_span.proofs.CopyLaws.{abs_pos, count_is}
use Rattle.must_span.proofs.ByteLaws.{size_block}

-- ---- one interval

-- 1 for an address from low to below high, else 0
abbrev inside : ℤ → ℤ → ℤ → ℕ
inside low high x = if lt_z x low then 0 else if lt_z x high then 1 else 0

less : (a b : ℤ) → a <ℤ b → lt_z a b ≡ true
less a b h = grind (arith, ints)

not_less : (a b : ℤ) → b ≤ℤ a → lt_z a b ≡ false
not_less a b h = grind (arith, ints)

inside_below : (low high x : ℤ) → x <ℤ low → inside low high x ≡ 0
inside_below low high x h = rw (less x low h) refl

inside_above : (low high x : ℤ) → low ≤ℤ high → high ≤ℤ x → inside low high x ≡ 0
inside_above low high x f h = rw (not_less x low (omega (arith, ints, f, h)), not_less x high h) refl

inside_yes : (low high x : ℤ) → low ≤ℤ x → x <ℤ high → inside low high x ≡ 1
inside_yes low high x h g = rw (not_less x low h, less x high g) refl

-- an address is inside or not
inside_or : (low high x : ℤ) → low ≤ℤ high → ((inside low high x ≡ 1) × (low ≤ℤ x) × (x <ℤ high)) ⊎ ((inside low high x ≡ 0) × ((x <ℤ low) ⊎ (high ≤ℤ x)))
inside_or low high x f = by_lt_z x low (λ (h : x <ℤ low). inr (inside_below low high x h, inl h)) (λ (h : low ≤ℤ x). by_lt_z x high (λ (g : x <ℤ high). inl (inside_yes low high x h g, h, g)) (λ (g : high ≤ℤ x). inr (inside_above low high x f g, inr g)))

-- ---- sums over the n addresses from x on

abbrev window : ℕ → ℤ → (ℤ → ℕ) → ℕ
window zero x f = 0
window (suc n) x f = f x + window n (x +ℤ pos 1) f

window_add : (n : ℕ) (x : ℤ) (f g : ℤ → ℕ) → window n x (λ y. f y + g y) ≡ window n x f + window n x g
window_add zero x f g = omega arith
window_add (suc n) x f g = omega (arith, window_add n (x +ℤ pos 1) f g)

window_none : (n : ℕ) (x : ℤ) → window n x (λ y. 0) ≡ 0
window_none zero x = refl
window_none (suc n) x = omega (arith, window_none n (x +ℤ pos 1))

inside_past : (n : ℕ) (x low high : ℤ) → low ≤ℤ high → high ≤ℤ x → window n x (inside low high) ≡ 0
inside_past zero x low high f h = refl
inside_past (suc n) x low high f h = omega (arith, inside_above low high x f h, inside_past n (x +ℤ pos 1) low high f (omega (arith, ints, h)))

inside_from : (k n : ℕ) (x low high : ℤ) → low ≤ℤ high → low ≤ℤ x → pos k ≡ high -ℤ x → k ≤ n → window n x (inside low high) ≡ k
inside_from zero n x low high f h e g = inside_past n x low high f (omega (arith, ints, e))
inside_from (suc k) zero x low high f h e g = absurd (omega (arith, g))
inside_from (suc k) (suc n) x low high f h e g = omega (arith, inside_yes low high x h (omega (arith, ints, e)), inside_from k n (x +ℤ pos 1) low high f (omega (arith, ints, h)) (omega (arith, ints, e)) (omega (arith, g)))

inside_whole : (i k n : ℕ) (x low high : ℤ) → low ≤ℤ high → pos i ≡ low -ℤ x → pos k ≡ high -ℤ low → i + k ≤ n → window n x (inside low high) ≡ k
inside_whole zero k n x low high f h e g = inside_from k n x low high f (omega (arith, ints, h)) (omega (arith, ints, e, h)) (omega (arith, g))
inside_whole (suc i) k zero x low high f h e g = absurd (omega (arith, g))
inside_whole (suc i) k (suc n) x low high f h e g = omega (arith, inside_below low high x (omega (arith, ints, h)), inside_whole i k n (x +ℤ pos 1) low high f (omega (arith, ints, h)) e (omega (arith, g)))

-- the sum over the addresses from - m to below m
abbrev around : ℕ → (ℤ → ℕ) → ℕ
around m f = window (m + m) (pos 0 -ℤ pos m) f

inside_around : (m k : ℕ) (low high : ℤ) → (pos 0 -ℤ pos m) ≤ℤ low → high ≤ℤ pos m → pos k ≡ high -ℤ low → around m (inside low high) ≡ k
inside_around m k low high f t e =
    let i = unsigned_abs (low -ℤ (pos 0 -ℤ pos m)) in
    let is = abs_pos (low -ℤ (pos 0 -ℤ pos m)) (omega (arith, ints, f)) in
    inside_whole i k (m + m) (pos 0 -ℤ pos m) low high (omega (arith, ints, e)) is e (omega (arith, ints, is, e, t))

-- where one function is nowhere greater, and less somewhere or not
window_up : (n : ℕ) (x : ℤ) (f g : ℤ → ℕ) → ((y : ℤ) → f y ≤ g y) → window n x f ≤ window n x g
window_up zero x f g h = omega arith
window_up (suc n) x f g h = omega (arith, h x, window_up n (x +ℤ pos 1) f g h)

record IsLess (f g : ℤ → ℕ) : Type 0 where
  at : ℤ
  less : f at < g at

window_less : (n : ℕ) (x : ℤ) (f g : ℤ → ℕ) → window n x f < window n x g → IsLess f g
window_less zero x f g h = absurd (omega (arith, h))
window_less (suc n) x f g h = elim (one_or (f x) (g x) (window n (x +ℤ pos 1) f) (window n (x +ℤ pos 1) g) h) [
  | inl p ↦ record { at = x; less = p }
  | inr p ↦ window_less n (x +ℤ pos 1) f g p
]
  where
    one_or : (a b c d : ℕ) → a + c < b + d → (a < b) ⊎ (c < d)
    one_or a b c d h = grind arith

window_strict : (n i : ℕ) (x y : ℤ) (f g : ℤ → ℕ) → ((z : ℤ) → f z ≤ g z) → pos i ≡ y -ℤ x → i < n → f y < g y → window n x f < window n x g
window_strict zero i x y f g h e b l = absurd (omega (arith, b))
window_strict (suc n) zero x y f g h e b l = let same : y ≡ x = omega (arith, ints, e) in omega (arith, subst (λ (z : ℤ). f z < g z) same l, window_up n (x +ℤ pos 1) f g h)
window_strict (suc n) (suc i) x y f g h e b l = omega (arith, h x, window_strict n i (x +ℤ pos 1) y f g h (omega (arith, ints, e)) (omega (arith, b)) l)

-- ---- how often entries hold an address, and ranges cover it

abbrev in_entry : Entry → ℤ → ℕ
in_entry (Element b d) x = inside d (d +ℤ pos (size_of b)) x
in_entry (LowerMarker d) x = 0
in_entry (UpperMarker d) x = 0

abbrev held : List Entry → ℤ → ℕ
held [] x = 0
held (e ∷ es) x = in_entry e x + held es x

abbrev covered : List AddressRange → ℤ → ℕ
covered [] x = 0
covered (r ∷ rs) x = inside r.low r.high x + covered rs x

wide : (b : ℕ) (d : ℤ) → d ≤ℤ (d +ℤ pos b)
wide b d = omega (arith, ints)

entry_or : (e : Entry) (x : ℤ) → ((in_entry e x ≡ 1) × IsByte e x) ⊎ ((in_entry e x ≡ 0) × (IsByte e x → ⊥))
entry_or (Element b d) x = elim (inside_or d (d +ℤ pos (size_of b)) x (wide (size_of b) d)) [
  | inl p ↦ inl (p.0, (p.1, p.2))
  | inr p ↦ inr (p.0, (λ q. elim p.1 [ inl h ↦ omega (arith, ints, h, q.0) | inr h ↦ omega (arith, ints, h, q.1) ]))
]
entry_or (LowerMarker d) x = inr (refl, (λ q. q))
entry_or (UpperMarker d) x = inr (refl, (λ q. q))

held_some : (es : List Entry) (x : ℤ) → Holds es x → 1 ≤ held es x
held_some [] x h = absurd h
held_some (e ∷ es) x (inl h) = elim (entry_or e x) [ inl p ↦ omega (arith, p.0) | inr p ↦ absurd (p.1 h) ]
held_some (e ∷ es) x (inr h) = omega (arith, held_some es x h)

some_held : (es : List Entry) (x : ℤ) → 1 ≤ held es x → Holds es x
some_held [] x h = absurd (omega (arith, h))
some_held (e ∷ es) x h = elim (entry_or e x) [ inl p ↦ inl p.1 | inr p ↦ inr (some_held es x (omega (arith, h, p.0))) ]

covered_some : (rs : List AddressRange) (x : ℤ) → AllByRecursion IsFilled rs → Covers rs x → 1 ≤ covered rs x
covered_some [] x f h = absurd h
covered_some (r ∷ rs) x f (inl h) = omega (arith, inside_yes r.low r.high x h.from h.below)
covered_some (r ∷ rs) x f (inr h) = omega (arith, covered_some rs x f.1 h)

some_covered : (rs : List AddressRange) (x : ℤ) → AllByRecursion IsFilled rs → 1 ≤ covered rs x → Covers rs x
some_covered [] x f h = absurd (omega (arith, h))
some_covered (r ∷ rs) x f h = elim (inside_or r.low r.high x (omega (arith, ints, f.0))) [ inl p ↦ inl (record { from = p.1; below = p.2 }) | inr p ↦ inr (some_covered rs x f.1 (omega (arith, h, p.0))) ]

covered_below : (rs : List AddressRange) (x : ℤ) → AllByRecursion (λ s. x <ℤ s.low) rs → covered rs x ≡ 0
covered_below [] x h = refl
covered_below (r ∷ rs) x h = omega (arith, inside_below r.low r.high x h.0, covered_below rs x h.1)

all_map : (P Q : AddressRange → Type 0) → ((r : AddressRange) → P r → Q r) → (rs : List AddressRange) → AllByRecursion P rs → AllByRecursion Q rs
all_map P Q f [] p = tt
all_map P Q f (r ∷ rs) p = (f r p.0, all_map P Q f rs p.1)

covered_once : (rs : List AddressRange) (x : ℤ) → AreApart rs → covered rs x ≤ 1
covered_once [] x h = omega arith
covered_once (r ∷ rs) x h = elim (inside_or r.low r.high x (omega (arith, ints, h.0))) [
  | inl p ↦ omega (arith, p.0, covered_below rs x (all_map (λ s. r.high <ℤ s.low) (λ s. x <ℤ s.low) (λ s q. omega (arith, ints, q, p.2)) rs h.1))
  | inr p ↦ omega (arith, p.0, covered_once rs x h.2)
]

-- ---- sums are sizes

abbrev reach : List Entry → ℕ
reach [] = 0
reach (Element b d ∷ es) = unsigned_abs d + size_of b + reach es
reach (LowerMarker d ∷ es) = reach es
reach (UpperMarker d ∷ es) = reach es

abbrev reach_of : List AddressRange → ℕ
reach_of [] = 0
reach_of (r ∷ rs) = unsigned_abs r.low + unsigned_abs r.high + reach_of rs

abs_low : (d : ℤ) (m : ℕ) → unsigned_abs d ≤ m → (pos 0 -ℤ pos m) ≤ℤ d
abs_low (pos n) m h = omega (arith, ints, h)
abs_low (negsuc n) m h = omega (arith, ints, h)

abs_high : (d : ℤ) (m k : ℕ) → unsigned_abs d + k ≤ m → (d +ℤ pos k) ≤ℤ pos m
abs_high (pos n) m k h = omega (arith, ints, h)
abs_high (negsuc n) m k h = omega (arith, ints, h)

sizes : (es : List Entry) (m : ℕ) → reach es ≤ m → around m (held es) ≡ size es
sizes [] m h = window_none (m + m) (pos 0 -ℤ pos m)
sizes (Element b d ∷ es) m h =
    let one = inside_around m (size_of b) d (d +ℤ pos (size_of b)) (abs_low d m (omega (arith, h))) (abs_high d m (size_of b) (omega (arith, h))) (omega (arith, ints)) in
    omega (arith, window_add (m + m) (pos 0 -ℤ pos m) (inside d (d +ℤ pos (size_of b))) (held es), one, sizes es m (omega (arith, h)))
sizes (LowerMarker d ∷ es) m h = omega (arith, window_add (m + m) (pos 0 -ℤ pos m) (λ y. 0) (held es), window_none (m + m) (pos 0 -ℤ pos m), sizes es m h)
sizes (UpperMarker d ∷ es) m h = omega (arith, window_add (m + m) (pos 0 -ℤ pos m) (λ y. 0) (held es), window_none (m + m) (pos 0 -ℤ pos m), sizes es m h)

counts : (rs : List AddressRange) (m : ℕ) → AllByRecursion IsFilled rs → reach_of rs ≤ m → around m (covered rs) ≡ count_of rs
counts [] m f h = window_none (m + m) (pos 0 -ℤ pos m)
counts (r ∷ rs) m f h =
    let k = unsigned_abs (r.high -ℤ r.low) in
    let top : (r.high +ℤ pos 0) ≤ℤ pos m = abs_high r.high m 0 (omega (arith, h)) in
    let one = inside_around m k r.low r.high (abs_low r.low m (omega (arith, h))) (omega (arith, ints, top)) (abs_pos (r.high -ℤ r.low) (omega (arith, ints, f.0))) in
    omega (arith, window_add (m + m) (pos 0 -ℤ pos m) (inside r.low r.high) (covered rs), one, counts rs m f.1 (omega (arith, h)))

-- ---- shared bytes

record IsAt (es : List Entry) (x : ℤ) : Type 0 where
  place : ℕ
  entry : Entry
  is : slice_get es place ≡ Some entry
  byte : IsByte entry x

holds_at : (es : List Entry) (x : ℤ) → Holds es x → IsAt es x
holds_at [] x h = absurd h
holds_at (e ∷ es) x (inl h) = record { place = 0; entry = e; is = refl; byte = h }
holds_at (e ∷ es) x (inr h) = let p = holds_at es x h in record { place = suc p.place; entry = p.entry; is = p.is; byte = p.byte }

twice_share : (es : List Entry) (x : ℤ) → 2 ≤ held es x → ShareByte es
twice_share [] x h = absurd (omega (arith, h))
twice_share (e ∷ es) x h = elim (entry_or e x) [
  | inl p ↦
      let q = holds_at es x (some_held es x (omega (arith, h, p.0))) in
      record { i = 0; k = suc q.place; first = e; second = q.entry; before = omega arith; first_is = refl; second_is = q.is; address = x; in_first = p.1; in_second = q.byte }
  | inr p ↦
      let q = twice_share es x (omega (arith, h, p.0)) in
      record { i = suc q.i; k = suc q.k; first = q.first; second = q.second; before = omega (arith, q.before); first_is = q.first_is; second_is = q.second_is; address = q.address; in_first = q.in_first; in_second = q.in_second }
]

at_holds : (es : List Entry) (k : ℕ) (e : Entry) (x : ℤ) → slice_get es k ≡ Some e → IsByte e x → Holds es x
at_holds [] k e x g h = cc
at_holds (f ∷ es) zero e x g h = let same : e ≡ f = cc in inl (subst (λ y. IsByte y x) same h)
at_holds (f ∷ es) (suc k) e x g h = inr (at_holds es k e x g h)

share_twice : (es : List Entry) (i k : ℕ) (e f : Entry) (x : ℤ) → i < k → slice_get es i ≡ Some e → slice_get es k ≡ Some f → IsByte e x → IsByte f x → 2 ≤ held es x
share_twice [] i k e f x l g h p q = cc
share_twice (d ∷ es) zero zero e f x l g h p q = absurd (omega (arith, l))
share_twice (d ∷ es) zero (suc k) e f x l g h p q =
    let same : e ≡ d = cc in
    elim (entry_or d x) [ inl r ↦ omega (arith, r.0, held_some es x (at_holds es k f x h q)) | inr r ↦ absurd (r.1 (subst (λ y. IsByte y x) same p)) ]
share_twice (d ∷ es) (suc i) zero e f x l g h p q = absurd (omega (arith, l))
share_twice (d ∷ es) (suc i) (suc k) e f x l g h p q = omega (arith, share_twice es i k e f x (omega (arith, l)) g h p q)

apart_filled : (rs : List AddressRange) → AreApart rs → AllByRecursion IsFilled rs
apart_filled [] p = tt
apart_filled (r ∷ rs) p = (p.0, apart_filled rs p.2)

no_more : (rs : List AddressRange) (es : List Entry) → AreApart rs → AreBytes rs es → (x : ℤ) → covered rs x ≤ held es x
no_more rs es a b x = by (covered rs x) refl
  where
    by : (n : ℕ) → covered rs x ≡ n → covered rs x ≤ held es x
    by zero e = omega (arith, e)
    by (suc n) e = omega (arith, covered_once rs x a, held_some es x ((b x).0 (some_covered rs x (apart_filled rs a) (omega (arith, e)))))

in_reach : (rs : List AddressRange) (x : ℤ) → Covers rs x → ((pos 0 -ℤ pos (reach_of rs)) ≤ℤ x) × (x <ℤ pos (reach_of rs))
in_reach [] x h = absurd h
in_reach (r ∷ rs) x (inl h) =
    let m = reach_of (r ∷ rs) in
    let top : (r.high +ℤ pos 0) ≤ℤ pos m = abs_high r.high m 0 (omega arith) in
    (omega (arith, ints, abs_low r.low m (omega arith), h.from), omega (arith, ints, top, h.below))
in_reach (r ∷ rs) x (inr h) = let p = in_reach rs x h in let m : reach_of rs ≤ reach_of (r ∷ rs) = omega arith in (omega (arith, ints, p.0, m), omega (arith, ints, p.1, m))

pub fewer_where_shared : (rs : List AddressRange) (es : List Entry) → AreApart rs → AreBytes rs es → (length (addresses rs) < size es) ↔ ShareByte es
fewer_where_shared rs es a b =
    let f = apart_filled rs a in
    let m = reach es + reach_of rs in
    let x = pos 0 -ℤ pos m in
    let all : around m (held es) ≡ size es = sizes es m (omega arith) in
    let some : around m (covered rs) ≡ length (addresses rs) = counts rs m f (omega arith) ∙ count_is rs in
    let up = no_more rs es a b in (
      (λ l.
          let p = window_less (m + m) x (covered rs) (held es) (omega (arith, l, all, some)) in
          let least : 1 ≤ covered rs p.at = covered_some rs p.at f ((b p.at).1 (some_held es p.at (omega (arith, p.less)))) in
          twice_share es p.at (omega (arith, p.less, least))),
      (λ s.
          let y = s.address in
          let two = share_twice es s.i s.k s.first s.second y s.before s.first_is s.second_is s.in_first s.in_second in
          let near = in_reach rs y ((b y).1 (some_held es y (omega (arith, two)))) in
          let i = unsigned_abs (y -ℤ x) in
          let is : pos i ≡ y -ℤ x = abs_pos (y -ℤ x) (omega (arith, ints, near.0)) in
          let l = window_strict (m + m) i x y (covered rs) (held es) up is (omega (arith, ints, is, near.1)) (omega (arith, two, covered_once rs y a)) in
          omega (arith, l, all, some)),
    )

pub message_shared : (rs : List AddressRange) (base : ℤ) (count : ℕ) (t : TypeTree) → AreApart rs → AreBytes rs (message_map base count t) → (length (addresses rs) < count * size (type_map t)) ↔ ShareByte (message_map base count t)
message_shared rs base count t a b = subst (λ (n : ℕ). (length (addresses rs) < n) ↔ ShareByte (message_map base count t)) (size_block count (type_map t) base) (fewer_where_shared rs (message_map base count t) a b)
