-- Before the first call there are the predefined types alone.
use Rattle.std.proofs.Common.{◌≡◌, ℕ, zero, suc, ◌+◌, ◌<◌, ◌≤◌, Bool, true, false, cond, List, [], ◌∷◌, ◌++◌, map, length, Option, Some, None, refl, sym, ap, subst, ◌∙◌, inl, inr, arith}
use Rattle.std.specs.Prelude.{◌⊎◌, ◌&&◌, ◌-◌, nat_le, slice_get}
use Rattle.std.specs.List.{AllByRecursion}
use Rattle.std.proofs.lemmas.Bool.{leb-true, leb-false}
use Rattle.must_call.specs.declared.basic.Basic.{Basic}
use Rattle.must_call.specs.Basics.{basics}
use Rattle.must_call.specs.declared.class.Class.TheVariants.{Datatype}
use Rattle.must_call.specs.declared.life.Life.{Life}
use Rattle.must_call.specs.declared.life.Life.TheVariants.{Never, Predefined}
use Rattle.must_type.specs.declared.construct.TypeNo.{TypeNo}
use Rattle.must_type.specs.Tree.{TypeTree, Elementary}
use Rattle.must_type.specs.Table.{Types, tree_at, pairs, predefined, live_weight, IsDerived}
use Rattle.must_rules.specs.Lives.{is_predefined, life}
use Rattle.must_rules.specs.LifeLaws.{life_first, made_count_first}
use Rattle.must_rules.specs.Starts.{Clearness}
use Rattle.must_rules.specs.Types.{type_of, sum_below, weight_at}
use Rattle.must_rules.specs.KnownLaws.{type_first}
use Rattle.must_derived.specs.declared.datatypes.Datatypes.{Datatypes}
use Rattle.must_derived.specs.Numbers.{flat, number_of}
use Rattle.must_derived.specs.Standing.{Suits, Fits, Stands}
use Rattle.must_derived.proofs.Numbering.{made_handle}

none_some : {X : Type 0} {P : Type 0} (x : X) → None ≡ Some x → P
none_some x e = absurd cc

some_same : {X : Type 0} (x y : X) → Some x ≡ Some y → x ≡ y
some_same x y e = cc

-- a type that MPI names
record IsNamed (o : Option TypeTree) : Type 0 where
  type : TypeTree
  is : o ≡ Some type
  underived : IsDerived (Some type) → ⊥

basics_named : (bs : List Basic) → AllByRecursion IsNamed (map (λ b. Some (Elementary b)) bs)
basics_named [] = tt
basics_named (b ∷ bs) = (record { type = Elementary b; is = refl; underived = λ h. h }, basics_named bs)

join : (xs ys : List (Option TypeTree)) → AllByRecursion IsNamed xs → AllByRecursion IsNamed ys → AllByRecursion IsNamed (xs ++ ys)
join [] ys a b = b
join (x ∷ xs) ys a b = (a.0, join xs ys a.1 b)

pairs_named : AllByRecursion IsNamed (map (λ t. Some t) pairs)
pairs_named = (
  record { type = _; is = refl; underived = λ h. h },
  (
    record { type = _; is = refl; underived = λ h. h },
    (
      record { type = _; is = refl; underived = λ h. h },
      (
        record { type = _; is = refl; underived = λ h. h },
        (record { type = _; is = refl; underived = λ h. h }, tt),
      ),
    ),
  ),
)

abbrev named_types : List (Option TypeTree)
named_types = map (λ b. Some (Elementary b)) basics ++ map (λ t. Some t) pairs

at_named : (slots : List (Option TypeTree)) (n : ℕ) → AllByRecursion IsNamed slots → n < length slots → IsNamed (tree_at slots n)
at_named [] n a h = absurd (omega (arith, h))
at_named (s ∷ slots) zero a h = a.0
at_named (s ∷ slots) (suc n) a h = at_named slots n a.1 (omega (arith, h))

past : (slots : List (Option TypeTree)) (n : ℕ) → length slots ≤ n → tree_at slots n ≡ None
past [] n h = refl
past (s ∷ slots) zero h = absurd (omega (arith, h))
past (s ∷ slots) (suc n) h = past slots n (omega (arith, h))

count : length named_types ≡ 30
count = refl

named_at : (h : ℕ) → 1 ≤ h → h ≤ 30 → IsNamed (tree_at predefined h)
named_at zero low high = absurd (omega (arith, low))
named_at (suc h) low high = at_named named_types h (join (map (λ b. Some (Elementary b)) basics) (map (λ t. Some t) pairs) (basics_named basics) pairs_named) (omega (arith, high, count))

bounds : (h : ℕ) (b : Bool) → is_predefined Datatype h ≡ b → ((b ≡ true) × (1 ≤ h) × (h ≤ 30)) ⊎ ((b ≡ false) × ((h ≡ 0) ⊎ (30 < h)))
unfolding is_predefined
bounds h b e = at (nat_le 1 h) (nat_le h 30) refl refl
  where
    at : (c d : Bool) → nat_le 1 h ≡ c → nat_le h 30 ≡ d → ((b ≡ true) × (1 ≤ h) × (h ≤ 30)) ⊎ ((b ≡ false) × ((h ≡ 0) ⊎ (30 < h)))
    at true true x y = inl (sym e ∙ (λ i. x i && y i), leb-true 1 h x, leb-true h 30 y)
    at true false x y = inr (sym e ∙ (λ i. x i && y i), inr (leb-false h 30 y))
    at false d x y = inr (sym e ∙ (λ i. x i && y i), inl (let low = leb-false 1 h x in omega (arith, low)))

type_at : (h : ℕ) → (h ≡ 0) ⊎ (30 < h) → tree_at predefined h ≡ None
type_at h (inl none) = ap (tree_at predefined) none
type_at h (inr high) = past predefined h (let n : length predefined ≡ 31 = refl in omega (arith, high, n))

fits_first : (is_clear : Clearness) (h : ℕ) (b : Bool) → is_predefined Datatype h ≡ b → Fits predefined (number_of [] h) (life [] Datatype h) (type_of is_clear [] h)
fits_first is_clear h b e = at (bounds h b e)
  where
    at : ((b ≡ true) × (1 ≤ h) × (h ≤ 30)) ⊎ ((b ≡ false) × ((h ≡ 0) ⊎ (30 < h))) → Fits predefined (number_of [] h) (life [] Datatype h) (type_of is_clear [] h)
    at (inl x) =
        let n = named_at h x.1 x.2 in
        let pre : is_predefined Datatype h ≡ true = e ∙ x.0 in
        let lives : life [] Datatype h ≡ Predefined = life_first Datatype h ∙ ap (λ c. cond c Predefined Never) pre in
        let number : number_of [] h ≡ Some (record { number = h }) = ap (λ c. cond c (Some (record { number = h })) (cond (nat_le 64 h) (flat (slice_get [] (h - 64))) None)) pre in
        let type : type_of is_clear [] h ≡ Some n.type = type_first is_clear h ∙ n.is in
        subst (λ (o : Option TypeNo). Fits predefined o (life [] Datatype h) (type_of is_clear [] h)) (sym number)
        (subst (λ (l : Life). Suits (tree_at predefined h) l (type_of is_clear [] h)) (sym lives)
        (subst (λ (o : Option TypeTree). Suits (tree_at predefined h) Predefined o) (sym type) (n.is, n.underived)))
    at (inr x) =
        let pre : is_predefined Datatype h ≡ false = e ∙ x.0 in
        let number : number_of [] h ≡ None = ap (λ c. cond {A = Option TypeNo} c (Some (record { number = h })) (cond (nat_le 64 h) (flat (slice_get [] (h - 64))) None)) pre ∙ inner (nat_le 64 h) in
        subst (λ (o : Option TypeNo). Fits predefined o (life [] Datatype h) (type_of is_clear [] h)) (sym number) (type_first is_clear h ∙ type_at h x.1)
      where
        inner : (c : Bool) → cond {A = Option TypeNo} c (flat (slice_get [] (h - 64))) None ≡ None
        inner true = refl
        inner false = refl

numbered_first : (h : ℕ) (n : TypeNo) (b : Bool) → is_predefined Datatype h ≡ b → number_of [] h ≡ Some n → (h ≤ 30) × (n.number ≡ h)
numbered_first h n b e x = at (bounds h b e)
  where
    at : ((b ≡ true) × (1 ≤ h) × (h ≤ 30)) ⊎ ((b ≡ false) × ((h ≡ 0) ⊎ (30 < h))) → (h ≤ 30) × (n.number ≡ h)
    at (inl y) =
        let number : number_of [] h ≡ Some (record { number = h }) = ap (λ c. cond c (Some (record { number = h })) (cond (nat_le 64 h) (flat (slice_get [] (h - 64))) None)) (e ∙ y.0) in
        let one : Some n ≡ Some (record { number = h }) = sym x ∙ number in
        (y.2, ap (λ (m : TypeNo). m.number) (some_same n (record { number = h }) one))
    at (inr y) =
        let number : number_of [] h ≡ None = ap (λ c. cond {A = Option TypeNo} c (Some (record { number = h })) (cond (nat_le 64 h) (flat (slice_get [] (h - 64))) None)) (e ∙ y.0) ∙ inner (nat_le 64 h) in
        none_some n (sym number ∙ x)
      where
        inner : (c : Bool) → cond {A = Option TypeNo} c (flat (slice_get [] (h - 64))) None ≡ None
        inner true = refl
        inner false = refl

pub stands_first : (is_clear : Clearness) (types : Datatypes) (most : ℕ) → types.table ≡ record { weight_limit = most; slots = predefined } → types.numbers ≡ [] → Stands is_clear types []
stands_first is_clear types most table_is none =
    let slots : types.table.slots ≡ predefined = ap (λ (t : Types). t.slots) table_is in
    let number : (h : ℕ) → number_of types.numbers h ≡ number_of [] h = λ h. ap (λ (ns : List (Option TypeNo)). number_of ns h) none in
    record {
      size = ap length none ∙ sym made_count_first;
      fits = λ h. subst (λ (ss : List (Option TypeTree)). Fits ss (number_of types.numbers h) (life [] Datatype h) (type_of is_clear [] h)) (sym slots)
          (subst (λ (o : Option TypeNo). Fits predefined o (life [] Datatype h) (type_of is_clear [] h)) (sym (number h)) (fits_first is_clear h (is_predefined Datatype h) refl));
      placed = λ h n x. (let y = numbered_first h n (is_predefined Datatype h) refl (sym (number h) ∙ x) in let l : length types.table.slots ≡ 31 = ap length slots in omega (arith, y.0, y.1, l));
      apart = λ g h n x y. sym (numbered_first g n (is_predefined Datatype g) refl (sym (number g) ∙ x)).1 ∙ (numbered_first h n (is_predefined Datatype h) refl (sym (number h) ∙ y)).1;
      fresh = λ h past. life_first Datatype h ∙ ap (λ c. cond c Predefined Never) (made_handle h (let l : length types.numbers ≡ 0 = ap length none in omega (arith, past)));
      weighs = ap live_weight slots ∙ sym (ap (sum_below (λ i. weight_at is_clear [] (64 + i))) made_count_first);
    }
