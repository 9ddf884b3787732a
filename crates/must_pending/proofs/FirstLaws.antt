-- The first clash with a list of operations and one more.
use Rattle.std.proofs.Common.{◌≡◌, sym, ◌∙◌, ap, subst, arith, inl, inr, ◌⊎◌, ℕ, ◌+◌, ◌<◌, ◌≤◌, ℤ, List, [], ◌∷◌, ◌++◌, length, get_or, take, Option, Some, None, Bool, true, false, cond, not, nat_eq}
use Rattle.std.proofs.lemmas.Int.{ints}
use Rattle.std.proofs.lemmas.List.{take_more}
use Rattle.std.proofs.lemmas.List.Elements.{filter-append}
use Rattle.std.proofs.lemmas.List.Sums.{sum_by-append, sum_by_more_le}
use Rattle.must_span.specs.declared.ranges.AddressRange.{AddressRange}
use Rattle.must_pending.specs.declared.access.Access.{Access}
use Rattle.must_pending.specs.declared.held.Held.{Held}
use Rattle.must_pending.specs.Clashes.{IsClash, IsFirst, IsNoLater, IsEarliest, without, weight_of}

clash_left : (a b : List Held) (s : List AddressRange) (w : Access) (c : ℕ) (x : ℤ) → IsClash a s w c x → IsClash (a ++ b) s w c x
clash_left [] b s w c x h = absurd h
clash_left (k ∷ a) b s w c x (inl h) = inl h
clash_left (k ∷ a) b s w c x (inr h) = inr (clash_left a b s w c x h)

clash_right : (a b : List Held) (s : List AddressRange) (w : Access) (c : ℕ) (x : ℤ) → IsClash b s w c x → IsClash (a ++ b) s w c x
clash_right [] b s w c x h = h
clash_right (k ∷ a) b s w c x h = inr (clash_right a b s w c x h)

clash_split : (a b : List Held) (s : List AddressRange) (w : Access) (c : ℕ) (x : ℤ) → IsClash (a ++ b) s w c x → IsClash a s w c x ⊎ IsClash b s w c x
clash_split [] b s w c x h = inr h
clash_split (k ∷ a) b s w c x (inl h) = inl (inl h)
clash_split (k ∷ a) b s w c x (inr h) = elim (clash_split a b s w c x h) [ inl p ↦ inl (inr p) | inr q ↦ inr q ]

no_later_trans : (c d e : ℕ) (x y z : ℤ) → IsNoLater c x d y → IsNoLater d y e z → IsNoLater c x e z
no_later_trans c d e x y z (inl p) (inl q) = inl (omega (arith, p, q))
no_later_trans c d e x y z (inl p) (inr q) = inl (omega (arith, p, q.0))
no_later_trans c d e x y z (inr p) (inl q) = inl (omega (arith, p.0, q))
no_later_trans c d e x y z (inr p) (inr q) = inr (p.0 ∙ q.0, omega (arith, ints, p.1, q.1))

pub first_joined : (a b : List Held) (s : List AddressRange) (w : Access) (p q r : Option (ℕ × ℤ)) → IsFirst a s w p → IsFirst b s w q → IsEarliest p q r → IsFirst (a ++ b) s w r
first_joined a b s w None None r f g e = subst (IsFirst (a ++ b) s w) (sym e) (λ d y h. elim (clash_split a b s w d y h) [ inl k ↦ f d y k | inr k ↦ g d y k ])
first_joined a b s w None (Some q) r f g e = subst (IsFirst (a ++ b) s w) (sym e) (clash_right a b s w q.0 q.1 g.0, (λ d y h. elim (clash_split a b s w d y h) [ inl k ↦ absurd (f d y k) | inr k ↦ g.1 d y k ]))
first_joined a b s w (Some p) None r f g e = subst (IsFirst (a ++ b) s w) (sym e) (clash_left a b s w p.0 p.1 f.0, (λ d y h. elim (clash_split a b s w d y h) [ inl k ↦ f.1 d y k | inr k ↦ absurd (g d y k) ]))
first_joined a b s w (Some p) (Some q) r f g (inl e) = subst (IsFirst (a ++ b) s w) (sym e.0) (clash_left a b s w p.0 p.1 f.0, (λ d y h. elim (clash_split a b s w d y h) [ inl k ↦ f.1 d y k | inr k ↦ no_later_trans p.0 q.0 d p.1 q.1 y e.1 (g.1 d y k) ]))
first_joined a b s w (Some p) (Some q) r f g (inr e) = subst (IsFirst (a ++ b) s w) (sym e.0) (clash_right a b s w q.0 q.1 g.0, (λ d y h. elim (clash_split a b s w d y h) [ inl k ↦ no_later_trans q.0 p.0 d q.1 p.1 y e.1 (f.1 d y k) | inr k ↦ g.1 d y k ]))

pub first_more : (hs : List Held) (i : ℕ) (h : Held) (s : List AddressRange) (w : Access) (p q r : Option (ℕ × ℤ)) → i < length hs → h ≡ get_or hs i h → IsFirst (take i hs) s w p → IsFirst (h ∷ []) s w q → IsEarliest p q r → IsFirst (take (i + 1) hs) s w r
first_more hs i h s w p q r within is f g e = rw (take_more hs i h within) (subst (λ k. IsFirst (take i hs ++ k ∷ []) s w r) is (first_joined (take i hs) (h ∷ []) s w p q r f g e))

-- ---- what is left, and its weight

kept_one : (r : ℕ) (h : Held) (t : Bool) → nat_eq h.request r ≡ t → weight_of (without r (h ∷ [])) + cond t h.weight 0 ≡ h.weight
kept_one r h true e = rw e (omega arith)
kept_one r h false e = rw e (omega arith)

pub weight_more : (hs : List Held) (i : ℕ) (h : Held) (r done : ℕ) (t : Bool) → i < length hs → h ≡ get_or hs i h → nat_eq h.request r ≡ t → done + weight_of (without r (take i hs)) ≡ weight_of (take i hs) →
    (done + cond t h.weight 0) + weight_of (without r (take (i + 1) hs)) ≡ weight_of (take (i + 1) hs)
weight_more hs i h r done t within is e told =
    let more : take (i + 1) hs ≡ take i hs ++ h ∷ [] = take_more hs i h within ∙ ap (λ k. take i hs ++ k ∷ []) (sym is) in
    let all : weight_of (take (i + 1) hs) ≡ weight_of (take i hs) + weight_of (h ∷ []) = ap weight_of more ∙ sum_by-append (λ (k : Held). k.weight) (take i hs) (h ∷ []) in
    let kept : weight_of (without r (take (i + 1) hs)) ≡ weight_of (without r (take i hs)) + weight_of (without r (h ∷ [])) =
    ap (λ l. weight_of (without r l)) more ∙ ap weight_of (filter-append (λ (k : Held). not (nat_eq k.request r)) (take i hs) (h ∷ [])) ∙ sum_by-append (λ (k : Held). k.weight) (without r (take i hs)) (without r (h ∷ [])) in
    let one = kept_one r h t e in
    let own : weight_of (h ∷ []) ≡ h.weight = omega arith in
    omega (arith, all, kept, one, told, own)

pub other_request : (a b : ℕ) → (a ≡ b → ⊥) → nat_eq a b ≡ false
other_request a b h = grind arith

pub weight_room : (hs : List Held) (i : ℕ) (h : Held) → i < length hs → h ≡ get_or hs i h → weight_of (take i hs) + h.weight ≤ weight_of hs
weight_room hs i h within is = let all = sum_by_more_le (λ (k : Held). k.weight) hs i h within in let own : h.weight ≡ (get_or hs i h).weight = ap (λ (k : Held). k.weight) is in omega (arith, all, own)
