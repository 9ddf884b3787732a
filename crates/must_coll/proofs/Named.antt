-- Numbers of names, with one item more.
use Rattle.std.proofs.Common.{◌≡◌, inl, inr, true, false, Bool, ℕ, ◌+◌, ◌<◌, List, [], ◌∷◌, ◌++◌, Option, Some, None, Ordering, Less, Equal, Greater, refl, sym, ap, ◌∙◌, arith}
use Rattle.std.specs.Prelude.{◌⊎◌}
use Rattle.std.specs.BTreeMap as tree
use Rattle.std.specs.Ordering.{nat_cmp, ordering_then, is_eq}
use Rattle.std.specs.FinMap.{nat_cmp-IsAntisymmetric}
use Rattle.must_group.specs.Names.{Name, name_cmp}
use Rattle.must_group.specs.NameOrder.{name_same}
use Rattle.must_coll.specs.declared.item.WaveItem.{WaveItem}
use Rattle.must_coll.specs.declared.names.Handle.{Handle}
use Rattle.must_coll.specs.declared.names.Names.{Names}
use Rattle.must_coll.specs.Waves.{Orderly}
use Rattle.must_coll.specs.Numbering.{handle_of, handle_cmp, number_of, HasNumber, Knows}
use Rattle.must_coll.specs.ListLaws.{has_before, has_last}
use Rattle.must_coll.specs.WaveLaws.{equal_from}

pub one_number : (o : Option ℕ) (i j : ℕ) → o ≡ Some i → o ≡ Some j → i ≡ j
one_number o i j p q = let e : Some i ≡ Some j = sym p ∙ q in cc

pub not_none : (o : Option ℕ) (i : ℕ) → o ≡ Some i → o ≡ None → ⊥
not_none o i p q = let e : Some i ≡ None = sym p ∙ q in cc

then_parts : (a b : Ordering) → ordering_then a b ≡ Equal → (a ≡ Equal) × (b ≡ Equal)
then_parts Less b e = cc
then_parts Equal b e = (refl, e)
then_parts Greater b e = cc

handle_same : (a b : Handle) → is_eq (handle_cmp a b) ≡ true → a ≡ b
handle_same a b e =
    let p = then_parts (nat_cmp a.rank b.rank) (nat_cmp a.comm b.comm) (equal_from (handle_cmp a b) e) in
    let rank = nat_cmp-IsAntisymmetric a.rank b.rank p.0 in
    let comm = nat_cmp-IsAntisymmetric a.comm b.comm p.1 in
    λ i. record { rank = rank i; comm = comm i }

pub name_is : (a b : Name) → is_eq (name_cmp a b) ≡ true → a ≡ b
name_is a b e = name_same a b (equal_from (name_cmp a b) e)

-- what is told of a name that got its number
pub record Got (old new : Names) (name : Name) (i : ℕ) : Type 0 where
  pub number : number_of new name ≡ Some i
  pub others : (other : Name) → is_eq (name_cmp name other) ≡ false → number_of new other ≡ number_of old other
  pub old_or_new : ((number_of old name ≡ Some i) × (new.count ≡ old.count)) ⊎ ((number_of old name ≡ None) × ((i ≡ old.count) × (new.count ≡ old.count + 1)))

-- where the number of a name comes from
origin_by : (old new : Names) (name : Name) (i : ℕ) → Got old new name i → (a : Name) (k : ℕ) → number_of new a ≡ Some k → (b : Bool) → is_eq (name_cmp name a) ≡ b
    → (number_of old a ≡ Some k) ⊎ ((name ≡ a) × ((k ≡ old.count) × (new.count ≡ old.count + 1)))
origin_by old new name i g a k e true is =
    let same = name_is name a is in
    let ik : i ≡ k = one_number (number_of new a) i k (ap (number_of new) (sym same) ∙ g.number) e in
    elim g.old_or_new [
      | inl p ↦ inl (ap (number_of old) (sym same) ∙ p.0 ∙ ap Some ik)
      | inr p ↦ inr (same, (sym ik ∙ p.1.0, p.1.1))
    ]
origin_by old new name i g a k e false is = inl (sym (g.others a is) ∙ e)

origin : (old new : Names) (name : Name) (i : ℕ) → Got old new name i → (a : Name) (k : ℕ) → number_of new a ≡ Some k
    → (number_of old a ≡ Some k) ⊎ ((name ≡ a) × ((k ≡ old.count) × (new.count ≡ old.count + 1)))
origin old new name i g a k e = origin_by old new name i g a k e (is_eq (name_cmp name a)) refl

keeps_by : (old new : Names) (name : Name) (i : ℕ) → number_of new name ≡ Some i → ((other : Name) → is_eq (name_cmp name other) ≡ false → number_of new other ≡ number_of old other)
    → ((j : ℕ) → number_of old name ≡ Some j → i ≡ j) → (a : Name) (k : ℕ) → number_of old a ≡ Some k → (b : Bool) → is_eq (name_cmp name a) ≡ b → number_of new a ≡ Some k
keeps_by old new name i number others old_is a k e true is =
    let same = name_is name a is in
    ap (number_of new) (sym same) ∙ number ∙ ap Some (old_is k (ap (number_of old) same ∙ e))
keeps_by old new name i number others old_is a k e false is = others a is ∙ e

-- a number stays
pub number_stays : (old new : Names) (name : Name) (i : ℕ) → number_of new name ≡ Some i → ((other : Name) → is_eq (name_cmp name other) ≡ false → number_of new other ≡ number_of old other)
    → ((j : ℕ) → number_of old name ≡ Some j → i ≡ j) → (a : Name) (k : ℕ) → number_of old a ≡ Some k → number_of new a ≡ Some k
number_stays old new name i number others old_is a k e = keeps_by old new name i number others old_is a k e (is_eq (name_cmp name a)) refl

got_stays : (old new : Names) (name : Name) (i : ℕ) → Got old new name i → (a : Name) (k : ℕ) → number_of old a ≡ Some k → number_of new a ≡ Some k
got_stays old new name i g = number_stays old new name i g.number g.others (λ j e. elim g.old_or_new [
  | inl p ↦ one_number (number_of old name) i j p.0 e
  | inr p ↦ absurd (not_none (number_of old name) j e p.0)
])

apart_by : (old new : Names) (name : Name) (items : List WaveItem) (a b : Name) (k : ℕ) → Knows old items
    → (number_of old a ≡ Some k) ⊎ ((name ≡ a) × ((k ≡ old.count) × (new.count ≡ old.count + 1))) → (number_of old b ≡ Some k) ⊎ ((name ≡ b) × ((k ≡ old.count) × (new.count ≡ old.count + 1))) → a ≡ b
apart_by old new name items a b k known (inl p) (inl q) = known.apart a b k p q
apart_by old new name items a b k known (inl p) (inr q) = let l = known.below a k p in let e = q.1.0 in absurd (omega (arith, l, e))
apart_by old new name items a b k known (inr p) (inl q) = let l = known.below b k q in let e = p.1.0 in absurd (omega (arith, l, e))
apart_by old new name items a b k known (inr p) (inr q) = sym p.0 ∙ q.0

below_by : (old new : Names) (name : Name) (items : List WaveItem) (i : ℕ) (a : Name) (k : ℕ) → Knows old items → Got old new name i
    → (number_of old a ≡ Some k) ⊎ ((name ≡ a) × ((k ≡ old.count) × (new.count ≡ old.count + 1))) → k < new.count
below_by old new name items i a k known g (inl p) =
    let l = known.below a k p in
    elim g.old_or_new [
      | inl q ↦ let e = q.1 in omega (arith, l, e)
      | inr q ↦ let e = q.1.1 in omega (arith, l, e)
    ]
below_by old new name items i a k known g (inr p) = let d = p.1.0 in let e = p.1.1 in omega (arith, d, e)

still_numbered : (old new : Names) (items : List WaveItem) (x : WaveItem) (handle : Handle) (k : ℕ) → ((a : Name) (k : ℕ) → number_of old a ≡ Some k → number_of new a ≡ Some k)
    → HasNumber old items handle k → HasNumber new (items ++ x ∷ []) handle k
still_numbered old new items x handle k stays n = record { item = n.item; there = has_before items (x ∷ []) n.item n.there; handle_is = n.handle_is; number_is = stays n.item.name k n.number_is }

handle_by : (old new : Names) (items : List WaveItem) (x : WaveItem) (i : ℕ) → Knows old items → Got old new x.name i
    → tree.get handle_cmp new.handles (handle_of x) ≡ Some i → ((other : Handle) → is_eq (handle_cmp (handle_of x) other) ≡ false → tree.get handle_cmp new.handles other ≡ tree.get handle_cmp old.handles other)
    → (handle : Handle) (k : ℕ) → tree.get handle_cmp new.handles handle ≡ Some k → (b : Bool) → is_eq (handle_cmp (handle_of x) handle) ≡ b → HasNumber new (items ++ x ∷ []) handle k
handle_by old new items x i known g here others handle k e true is =
    let same = handle_same (handle_of x) handle is in
    let ik : i ≡ k = one_number (tree.get handle_cmp new.handles handle) i k (ap (λ (w : Handle). tree.get handle_cmp new.handles w) (sym same) ∙ here) e in
    record { item = x; there = has_last items x; handle_is = same; number_is = g.number ∙ ap Some ik }
handle_by old new items x i known g here others handle k e false is = still_numbered old new items x handle k (got_stays old new x.name i g) (known.handles handle k (sym (others handle is) ∙ e))

-- the names know one item more
pub knows_push : (old new : Names) (items : List WaveItem) (x : WaveItem) (i : ℕ) → Knows old items → Got old new x.name i
    → tree.get handle_cmp new.handles (handle_of x) ≡ Some i → ((other : Handle) → is_eq (handle_cmp (handle_of x) other) ≡ false → tree.get handle_cmp new.handles other ≡ tree.get handle_cmp old.handles other)
    → Knows new (items ++ x ∷ [])
knows_push old new items x i known g here others = record {
  apart = λ a b k p q. apart_by old new x.name items a b k known (origin old new x.name i g a k p) (origin old new x.name i g b k q);
  below = λ a k p. below_by old new x.name items i a k known g (origin old new x.name i g a k p);
  handles = λ handle k e. handle_by old new items x i known g here others handle k e (is_eq (handle_cmp (handle_of x) handle)) refl;
}

-- they know an item whose handle they know
pub knows_more : (names : Names) (items : List WaveItem) (x : WaveItem) → Knows names items → Knows names (items ++ x ∷ [])
knows_more names items x known = record {
  apart = known.apart;
  below = known.below;
  handles = λ handle k e. still_numbered names names items x handle k (λ a j p. p) (known.handles handle k e);
}

-- the number that is kept by handle is that of the name
pub handle_number : (names : Names) (items : List WaveItem) (x : WaveItem) (i : ℕ) → Knows names items → Orderly (items ++ x ∷ []) → tree.get handle_cmp names.handles (handle_of x) ≡ Some i → number_of names x.name ≡ Some i
handle_number names items x i known o e =
    let n = known.handles (handle_of x) i e in
    let same = o.named n.item x (has_before items (x ∷ []) n.item n.there) (has_last items x) (ap (λ (h : Handle). h.rank) n.handle_is) (ap (λ (h : Handle). h.comm) n.handle_is) in
    ap (number_of names) (sym same) ∙ n.number_is
