-- The first clash with operations that are held.
use Rattle.std.proofs.Common.{◌≡◌, ℕ, Bool, true, false, ◌||◌, ◌&&◌, ◌⊎◌, inl, inr, List, [], ◌∷◌, ◌++◌, Option, Some, None, refl, sym, ap, subst, ◌∙◌, arith, map, take, ◌-◌, append_assoc, append-nil}
use Rattle.std.specs.Prelude.{if◌then◌else◌, ℤ, ◌≤ℤ◌, ◌<ℤ◌, int_lt, nat_lt, ◌==◌}
use Rattle.std.specs.Option.{option_map, option_to_list, MatchOption}
use Rattle.std.proofs.lemmas.List.{map-append}
use Rattle.std.proofs.lemmas.Int.{ints}
use Rattle.must_span.specs.declared.ranges.AddressRange.{AddressRange}
use Rattle.must_span.specs.Bytes as bytes
use Rattle.must_span.specs.Bytes.{AreBytes}
use Rattle.must_pending.specs.declared.access.Access.{Access}
use Rattle.must_pending.specs.declared.access.Access.TheVariants.{Reads, Writes}
use Rattle.must_pending.specs.declared.held.Held.{Held}
use Rattle.must_pending.specs.Clashes.{Disagree, Clashes, IsClash, IsFirst, IsNoLater}
use Rattle.must_rules.specs.Parts.{Part, entries_of}
use Rattle.must_rules.specs.Overlaps.{least_shared}
use Rattle.must_rules.specs.PendingOperations.{Operation, disagree, clash_with, is_before, earlier_of, first_clash, clash_answer, clash_of, operation}
use Rattle.must_parts.specs.Firsts.{IsFirstOf}
use Rattle.must_parts.specs.Holding.{Holds, AreHeld}
use Rattle.must_parts.specs.declared.placed.Placed.{Placed}
use Rattle.must_parts.specs.Placing.{IsPlaced, IsPlacedOf, ArePlaced}
use Rattle.must_parts.proofs.Matching.{matched_append, matched_last, matched_none}
use Rattle.must_parts.proofs.Shared.{shared_first}

-- ---- one clash at the most

same_pair : (c d : ℕ) (x y : ℤ) → IsNoLater c x d y → IsNoLater d y c x → (c ≡ d) × (x ≡ y)
same_pair c d x y (inl p) (inl q) = absurd (omega (arith, p, q))
same_pair c d x y (inl p) (inr q) = absurd (omega (arith, p, q.0))
same_pair c d x y (inr p) (inl q) = absurd (omega (arith, p.0, q))
same_pair c d x y (inr p) (inr q) = (p.0, omega (arith, ints, p.1, q.1))

pub first_one : (hs : List Held) (s : List AddressRange) (w : Access) (p q : Option (ℕ × ℤ)) → IsFirst hs s w p → IsFirst hs s w q → p ≡ q
first_one hs s w None None f g = refl
first_one hs s w None (Some q) f g = absurd (f q.0 q.1 g.0)
first_one hs s w (Some p) None f g = absurd (g p.0 p.1 f.0)
first_one hs s w (Some p) (Some q) f g =
    let same = same_pair p.0 q.0 p.1 q.1 (f.1 q.0 q.1 g.0) (g.1 p.0 p.1 f.0) in
    ap (λ (c : ℕ). Some (c, p.1)) same.0 ∙ ap (λ (x : ℤ). Some (q.0, x)) same.1

-- ---- the earlier of two

lt_yes : (x y : ℤ) → int_lt x y ≡ true → x <ℤ y
lt_yes x y e = grind (arith, ints)

lt_no : (x y : ℤ) → int_lt x y ≡ false → y ≤ℤ x
lt_no x y e = grind (arith, ints)

no_later_trans : (c d e : ℕ) (x y z : ℤ) → IsNoLater c x d y → IsNoLater d y e z → IsNoLater c x e z
no_later_trans c d e x y z (inl p) (inl q) = inl (omega (arith, p, q))
no_later_trans c d e x y z (inl p) (inr q) = inl (omega (arith, p, q.0))
no_later_trans c d e x y z (inr p) (inl q) = inl (omega (arith, p.0, q))
no_later_trans c d e x y z (inr p) (inr q) = inr (p.0 ∙ q.0, omega (arith, ints, p.1, q.1))

before_yes : (c d : ℕ) (x y : ℤ) → is_before (c, x) (d, y) ≡ true → IsNoLater c x d y
before_yes c d x y e = at (nat_lt c d) refl
  where
    at : (b : Bool) → nat_lt c d ≡ b → IsNoLater c x d y
    at true l = inl (grind arith)
    at false l = same (c == d) refl
      where
        rest : (b : Bool) → (c == d) ≡ b → (b && int_lt x y) ≡ true
        rest b k = sym (ap (λ m. m && int_lt x y) k) ∙ sym (ap (λ m. m || ((c == d) && int_lt x y)) l) ∙ e

        same : (b : Bool) → (c == d) ≡ b → IsNoLater c x d y
        same true k = let less = lt_yes x y (rest true k) in inr (grind arith, omega (arith, ints, less))
        same false k = let no : false ≡ true = rest false k in absurd cc

before_no : (c d : ℕ) (x y : ℤ) → is_before (c, x) (d, y) ≡ false → IsNoLater d y c x
before_no c d x y e = at (nat_lt c d) (c == d) refl refl
  where
    at : (a b : Bool) → nat_lt c d ≡ a → (c == d) ≡ b → IsNoLater d y c x
    at true b l k = let no : true ≡ false = sym (ap (λ m. m || ((c == d) && int_lt x y)) l) ∙ e in absurd cc
    at false true l k =
        let rest : int_lt x y ≡ false = sym (ap (λ m. m && int_lt x y) k) ∙ sym (ap (λ m. m || ((c == d) && int_lt x y)) l) ∙ e in
        let over = lt_no x y rest in
        inr (grind arith, over)
    at false false l k = inl (grind arith)

clash_split : (h : Held) (hs : List Held) (s : List AddressRange) (w : Access) (d : ℕ) (y : ℤ) → IsClash (h ∷ hs) s w d y → IsClash (h ∷ []) s w d y ⊎ IsClash hs s w d y
clash_split h hs s w d y (inl k) = inl (inl k)
clash_split h hs s w d y (inr k) = inr k

clash_left : (h : Held) (hs : List Held) (s : List AddressRange) (w : Access) (d : ℕ) (y : ℤ) → IsClash (h ∷ []) s w d y → IsClash (h ∷ hs) s w d y
clash_left h hs s w d y (inl k) = inl k
clash_left h hs s w d y (inr k) = absurd k

joined : (h : Held) (hs : List Held) (s : List AddressRange) (w : Access) (p q : Option (ℕ × ℤ)) → IsFirst (h ∷ []) s w p → IsFirst hs s w q → IsFirst (h ∷ hs) s w (earlier_of p q)
joined h hs s w None None f g = λ d y k. elim (clash_split h hs s w d y k) [ inl a ↦ f d y a | inr b ↦ g d y b ]
joined h hs s w None (Some q) f g = (inr g.0, λ d y k. elim (clash_split h hs s w d y k) [ inl a ↦ absurd (f d y a) | inr b ↦ g.1 d y b ])
joined h hs s w (Some p) None f g = (clash_left h hs s w p.0 p.1 f.0, λ d y k. elim (clash_split h hs s w d y k) [ inl a ↦ f.1 d y a | inr b ↦ absurd (g d y b) ])
joined h hs s w (Some p) (Some q) f g = at (is_before q p) refl
  where
    at : (b : Bool) → is_before q p ≡ b → IsFirst (h ∷ hs) s w (if b then Some q else Some p)
    at true e =
        let first = before_yes q.0 p.0 q.1 p.1 e in
        (inr g.0, λ d y k. elim (clash_split h hs s w d y k) [ inl a ↦ no_later_trans q.0 p.0 d q.1 p.1 y first (f.1 d y a) | inr b ↦ g.1 d y b ])
    at false e =
        let first = before_no q.0 p.0 q.1 p.1 e in
        (clash_left h hs s w p.0 p.1 f.0, λ d y k. elim (clash_split h hs s w d y k) [ inl a ↦ f.1 d y a | inr b ↦ no_later_trans p.0 q.0 d p.1 q.1 y first (g.1 d y b) ])

-- ---- one operation

agree_not : (a b : Access) → disagree a b ≡ false → Disagree a b → ⊥
agree_not Reads Reads e d = d
agree_not Reads Writes e d = absurd cc
agree_not Writes b e d = absurd cc

disagree_so : (a b : Access) → disagree a b ≡ true → Disagree a b
disagree_so Reads Reads e = absurd cc
disagree_so Reads Writes e = tt
disagree_so Writes b e = tt

clash_of_one : (h : Held) (o : Operation) (s : List AddressRange) (p : Part) → Holds h o → AreBytes s (entries_of p) → IsFirst (h ∷ []) s p.access (clash_with p o)
clash_of_one h o s p m b = at (disagree o.part.access p.access) refl (least_shared (entries_of o.part) (entries_of p)) (shared_first (entries_of o.part) (entries_of p))
  where
    held : (d : ℕ) (y : ℤ) → IsClash (h ∷ []) s p.access d y → Clashes h s p.access d y
    held d y (inl k) = k
    held d y (inr k) = absurd k

    at : (w : Bool) → disagree o.part.access p.access ≡ w → (l : Option ℤ) → IsFirstOf (λ x. bytes.Holds (entries_of o.part) x × bytes.Holds (entries_of p) x) l
        → IsFirst (h ∷ []) s p.access (if w then option_map (λ address. (o.call, address)) l else None)
    at false e l f = λ d y k. agree_not o.part.access p.access e (subst (λ a. Disagree a p.access) m.access_is (held d y k).disagree)
    at true e None f = λ d y k. let c = held d y k in f y ((m.bytes y).0 c.held, (b y).0 c.asked)
    at true e (Some x) f = (
      inl (record { call_is = m.call_is; disagree = subst (λ a. Disagree a p.access) (sym m.access_is) (disagree_so o.part.access p.access e); held = (m.bytes x).1 f.holds.0; asked = (b x).1 f.holds.1 }),
      λ d y k. let c = held d y k in inr (sym m.call_is ∙ c.call_is, f.least y ((m.bytes y).0 c.held, (b y).0 c.asked)),
    )

first_of : (hs : List Held) (ops : List Operation) (s : List AddressRange) (p : Part) → AreHeld hs ops → AreBytes s (entries_of p) → IsFirst hs s p.access (first_clash ops p)
first_of [] [] s p m b = λ d y k. k
first_of [] (o ∷ ops) s p m b = absurd m
first_of (h ∷ hs) [] s p m b = absurd m
first_of (h ∷ hs) (o ∷ ops) s p m b = joined h hs s p.access (clash_with p o) (first_clash ops p) (clash_of_one h o s p m.0 b) (first_of hs ops s p m.1 b)

-- what is found among those that are held is the first clash
pub first_is : (hs : List Held) (ops : List Operation) (s : List AddressRange) (p : Part) (r : Option (ℕ × ℤ)) → AreHeld hs ops → AreBytes s (entries_of p) → IsFirst hs s p.access r → r ≡ first_clash ops p
first_is hs ops s p r m b f = first_one hs s p.access r (first_clash ops p) f (first_of hs ops s p m b)

-- what T3 says of a part that is laid out
pub clash_is : (rank : ℕ) (x : Placed) (p : Option Part) (hs : List Held) (ops : List Operation) (r : Option (ℕ × ℤ)) → AreHeld hs ops → IsPlacedOf (Some x) p → IsFirst hs x.laid.spans x.access r → clash_answer rank r ≡ clash_of rank ops p
clash_is rank x None hs ops r held is f = absurd is
clash_is rank x (Some p) hs ops r held is f =
    ap (clash_answer rank) (first_is hs ops x.laid.spans p r held is.laid.bytes (subst (λ (a : Access). IsFirst hs x.laid.spans a r) is.access_is f))

-- one operation more
pub begun_one : (hs new : List Held) (ops : List Operation) (x : Placed) (p : Part) (call request : ℕ) → AreHeld hs ops → IsPlaced x p
    → new ≡ hs ++ record { call = call; request = request; access = x.access; spans = x.laid.spans; weight = x.weight } ∷ [] → AreHeld new (ops ++ operation call request p ∷ [])
begun_one hs new ops x p call request held is e =
    subst (λ (l : List Held). AreHeld l (ops ++ operation call request p ∷ [])) (sym e)
    (matched_append Holds hs (record { call = call; request = request; access = x.access; spans = x.laid.spans; weight = x.weight } ∷ []) ops (operation call request p ∷ []) held
    (record { call_is = refl; request_is = refl; access_is = is.access_is; bytes = is.laid.bytes; weight_is = is.weight_is }, tt))

-- ---- parts, the last behind the others

pub no_items : (xs rest : List Placed) (o : Option Placed) (n m : ℕ) (Q : Placed → Type 0) → o ≡ None → xs ≡ rest ++ option_to_list o → rest ≡ take (n - 1) xs → MatchOption o ((n ≡ 0) × (m ≡ 0)) Q → xs ≡ []
no_items xs rest None n m Q e is front c = is ∙ append-nil rest ∙ front ∙ at n c.0
  where
    at : (k : ℕ) → k ≡ 0 → take (k - 1) xs ≡ []
    at k z = let none : k - 1 ≡ 0 = omega (arith, z) in ap (λ i. take i xs) none
no_items xs rest (Some x) n m Q e is front c = absurd cc

pub last_items : (xs rest : List Placed) (o : Option Placed) (x : Placed) → o ≡ Some x → xs ≡ rest ++ option_to_list o → xs ≡ rest ++ x ∷ []
last_items xs rest o x e is = is ∙ ap (λ p. rest ++ option_to_list p) e

pub begun_none : (xs : List Placed) (ps : List Part) (hs : List Held) (ops : List Operation) (call request : ℕ) → xs ≡ [] → AreHeld hs ops → ArePlaced xs ps → AreHeld hs (ops ++ map (operation call request) ps)
begun_none xs ps hs ops call request e held all =
    let none : ps ≡ [] = matched_none IsPlaced ps (subst (λ (l : List Placed). ArePlaced l ps) e all) in
    let same : ops ++ map (operation call request) ps ≡ ops = ap (λ (l : List Part). ops ++ map (operation call request) l) none ∙ append-nil ops in
    subst (λ (l : List Operation). AreHeld hs l) (sym same) held

pub begun_last : (xs rest : List Placed) (x : Placed) (ps : List Part) (hs mid new : List Held) (ops : List Operation) (call request : ℕ) → xs ≡ rest ++ x ∷ [] → AreHeld hs ops → ArePlaced xs ps
    → ((os : List Operation) (qs : List Part) → AreHeld hs os → ArePlaced rest qs → AreHeld mid (os ++ map (operation call request) qs))
    → ((os : List Operation) (p : Part) → AreHeld mid os → IsPlaced x p → AreHeld new (os ++ operation call request p ∷ [])) → AreHeld new (ops ++ map (operation call request) ps)
begun_last xs rest x ps hs mid new ops call request e held all front one =
    let split = matched_last IsPlaced rest x ps (subst (λ (l : List Placed). ArePlaced l ps) e all) in
    let begun = one (ops ++ map (operation call request) split.front) split.last (front ops split.front held split.fronts) split.lasts in
    let same : (ops ++ map (operation call request) split.front) ++ operation call request split.last ∷ [] ≡ ops ++ map (operation call request) ps =
    append_assoc ops (map (operation call request) split.front) (operation call request split.last ∷ [])
    ∙ ap (λ (l : List Operation). ops ++ l) (sym (map-append (operation call request) split.front (split.last ∷ [])) ∙ ap (map (operation call request)) (sym split.ys_are)) in
    subst (λ (l : List Operation). AreHeld new l) same begun
