-- What a call makes of handles is like what it makes of the numbers that they stand for.
use Rattle.std.proofs.Common.{◌≡◌, ℕ, ◌+◌, max, List, [], ◌∷◌, ◌++◌, map, Option, Some, None, refl, sym, ap, subst, ◌∙◌, inl, inr}
use Rattle.std.specs.Prelude.{◌⊎◌}
use Rattle.std.specs.Option.{IsSome, option_map}
use Rattle.must_call.specs.declared.life.Life.{Life}
use Rattle.must_call.specs.declared.life.Life.TheVariants.{Never, Live, Freed, Predefined}
use Rattle.must_call.specs.declared.items.StructBlock.{StructBlock}
use Rattle.must_call.specs.declared.derive.Derive.{Derive}
use Rattle.must_call.specs.declared.derive.Derive.TheVariants.{TypeContiguous, TypeVector, TypeHvector, TypeIndexed, TypeHindexed, TypeIndexedBlock, TypeHindexedBlock, TypeStruct, TypeDup, TypeResized, TypeSubarray, TypeCommit, TypeFree}
use Rattle.must_type.specs.declared.construct.TypeNo.{TypeNo}
use Rattle.must_type.specs.declared.construct.StructItem.{StructItem}
use Rattle.must_type.specs.declared.construct.Construct.{Construct}
use Rattle.must_type.specs.declared.construct.Construct.TheVariants.{Contiguous, Vector, Hvector, Indexed, Hindexed, IndexedBlock, HindexedBlock, Struct, Dup, Resized, Subarray}
use Rattle.must_type.specs.declared.tree.Origin.TheVariants.{Derived}
use Rattle.must_type.specs.Maps.{Entry, size, extent, block}
use Rattle.must_type.specs.Constructs.{map_of, struct_map, natural}
use Rattle.must_type.specs.Weights.{Old, weight_of, struct_weight, weigh}
use Rattle.must_type.specs.Olds.{old_numbers}
use Rattle.must_type.specs.Tree.{TypeTree, Trees, Made, none, more, type_maps, weighed, greatest_depth}
use Rattle.must_type.specs.Table.{tree_at, push, trees_at, made_of, AreLive, IsDerived}
use Rattle.must_type.specs.Translation.{item_of, item_first, items_of, construct_of}
use Rattle.must_rules.specs.Types.{by_handle, trees_of, one_more, made_from}
use Rattle.must_derived.specs.Numbers.{number_of}
use Rattle.must_derived.specs.Standing.{IsLike, Suits, Fits}

none_some : {X : Type 0} {P : Type 0} (x : X) → None ≡ Some x → P
none_some x e = absurd cc

some_same : {X : Type 0} (x y : X) → Some x ≡ Some y → x ≡ y
some_same x y e = cc

-- ---- the calls

-- the numbers are those that the handles stand for
abbrev pub Pairs : List (Option TypeNo) → List ℕ → List ℕ → Type 0
Pairs numbers [] [] = Unit {0}
Pairs numbers [] (h ∷ hs) = ⊥
Pairs numbers (n ∷ ns) [] = ⊥
Pairs numbers (n ∷ ns) (h ∷ hs) = (number_of numbers h ≡ Some (record { number = n })) × Pairs numbers ns hs

-- two calls that differ by the numbers of their old types at most
pub record IsSame (numbers : List (Option TypeNo)) (c d : Construct) : Type 0 where
  pub maps : (ms : List (List Entry)) → map_of c ms ≡ map_of d ms
  pub weights : (ws : List Old) → weight_of c ws ≡ weight_of d ws
  pub olds : Pairs numbers (old_numbers c) (old_numbers d)

record Told (numbers : List (Option TypeNo)) (call : Derive) (c : Construct) : Type 0 where
  told : Construct
  told_is : construct_of by_handle call ≡ Some told
  same : IsSame numbers c told

record One (K : TypeNo → Construct) (o : Option TypeNo) (c : Construct) : Type 0 where
  n : TypeNo
  o_is : o ≡ Some n
  c_is : K n ≡ c

one : (K : TypeNo → Construct) (o : Option TypeNo) (c : Construct) → option_map K o ≡ Some c → One K o c
one K None c e = none_some c e
one K (Some n) c e = record { n = n; o_is = refl; c_is = some_same (K n) c e }

pub record AreSame (numbers : List (Option TypeNo)) (xs ys : List StructItem) : Type 0 where
  pub maps : (ms : List (List Entry)) → struct_map xs ms ≡ struct_map ys ms
  pub weights : (ws : List Old) → struct_weight xs ws ≡ struct_weight ys ws
  pub olds : Pairs numbers (map (λ it. it.old.number) xs) (map (λ it. it.old.number) ys)

record ItemsTold (numbers : List (Option TypeNo)) (blocks : List StructBlock) (xs : List StructItem) : Type 0 where
  told : List StructItem
  told_is : items_of by_handle blocks ≡ Some told
  same : AreSame numbers xs told

record First (b : StructBlock) (o : Option TypeNo) (items : Option (List StructItem)) (xs : List StructItem) : Type 0 where
  n : TypeNo
  o_is : o ≡ Some n
  rest : List StructItem
  rest_is : items ≡ Some rest
  xs_is : item_of b n ∷ rest ≡ xs

first : (b : StructBlock) (o : Option TypeNo) (items : Option (List StructItem)) (xs : List StructItem) → item_first b o items ≡ Some xs → First b o items xs
first b None items xs e = none_some xs e
first b (Some n) None xs e = none_some xs e
first b (Some n) (Some rest) xs e = record { n = n; o_is = refl; rest = rest; rest_is = refl; xs_is = some_same (item_of b n ∷ rest) xs e }

maps_first : (b : StructBlock) (m n : TypeNo) (xs ys : List StructItem) → ((ms : List (List Entry)) → struct_map xs ms ≡ struct_map ys ms) → (ms : List (List Entry)) → struct_map (item_of b m ∷ xs) ms ≡ struct_map (item_of b n ∷ ys) ms
maps_first b m n xs ys same [] = refl
maps_first b m n xs ys same (T ∷ ms) = ap (λ (es : List Entry). block (natural b.block) T b.disp ++ es) (same ms)

weights_first : (b : StructBlock) (m n : TypeNo) (xs ys : List StructItem) → ((ws : List Old) → struct_weight xs ws ≡ struct_weight ys ws) → (ws : List Old) → struct_weight (item_of b m ∷ xs) ws ≡ struct_weight (item_of b n ∷ ys) ws
weights_first b m n xs ys same [] = refl
weights_first b m n xs ys same (T ∷ ws) = ap (λ k. weigh (natural b.block) T + k) (same ws)

items_told : (numbers : List (Option TypeNo)) (blocks : List StructBlock) (xs : List StructItem) → items_of (number_of numbers) blocks ≡ Some xs → ItemsTold numbers blocks xs
items_told numbers [] xs e = record {
  told = [];
  told_is = refl;
  same = subst (λ (zs : List StructItem). AreSame numbers zs []) (some_same [] xs e) (record { maps = λ ms. refl; weights = λ ws. refl; olds = tt });
}
items_told numbers (b ∷ blocks) xs e =
    let f = first b (number_of numbers b.old) (items_of (number_of numbers) blocks) xs e in
    let r = items_told numbers blocks f.rest f.rest_is in
    let here : TypeNo = record { number = b.old } in
    record {
      told = item_of b here ∷ r.told;
      told_is = ap (item_first b (Some here)) r.told_is;
      same = subst (λ (zs : List StructItem). AreSame numbers zs (item_of b here ∷ r.told)) f.xs_is (record {
        maps = maps_first b f.n here f.rest r.told r.same.maps;
        weights = weights_first b f.n here f.rest r.told r.same.weights;
        olds = (f.o_is, r.same.olds);
      });
    }

record Items (items : Option (List StructItem)) (c : Construct) : Type 0 where
  xs : List StructItem
  is : items ≡ Some xs
  c_is : Struct xs ≡ c

items_some : (items : Option (List StructItem)) (c : Construct) → option_map (λ xs. Struct xs) items ≡ Some c → Items items c
items_some None c e = none_some c e
items_some (Some xs) c e = record { xs = xs; is = refl; c_is = some_same (Struct xs) c e }

told : (numbers : List (Option TypeNo)) (call : Derive) (c : Construct) → construct_of (number_of numbers) call ≡ Some c → Told numbers call c
told numbers (TypeContiguous count old made) c e =
    let p = one (λ t. Contiguous count t) (number_of numbers old) c e in
    let d : Construct = Contiguous count (record { number = old }) in
    record { told = d; told_is = refl; same = subst (λ (x : Construct). IsSame numbers x d) p.c_is (record { maps = λ ms. refl; weights = λ ws. refl; olds = (p.o_is, tt) }) }
told numbers (TypeVector count blocklength stride old made) c e =
    let p = one (λ t. Vector count blocklength stride t) (number_of numbers old) c e in
    let d : Construct = Vector count blocklength stride (record { number = old }) in
    record { told = d; told_is = refl; same = subst (λ (x : Construct). IsSame numbers x d) p.c_is (record { maps = λ ms. refl; weights = λ ws. refl; olds = (p.o_is, tt) }) }
told numbers (TypeHvector count blocklength stride old made) c e =
    let p = one (λ t. Hvector count blocklength stride t) (number_of numbers old) c e in
    let d : Construct = Hvector count blocklength stride (record { number = old }) in
    record { told = d; told_is = refl; same = subst (λ (x : Construct). IsSame numbers x d) p.c_is (record { maps = λ ms. refl; weights = λ ws. refl; olds = (p.o_is, tt) }) }
told numbers (TypeIndexed blocks old made) c e =
    let p = one (λ t. Indexed blocks t) (number_of numbers old) c e in
    let d : Construct = Indexed blocks (record { number = old }) in
    record { told = d; told_is = refl; same = subst (λ (x : Construct). IsSame numbers x d) p.c_is (record { maps = λ ms. refl; weights = λ ws. refl; olds = (p.o_is, tt) }) }
told numbers (TypeHindexed blocks old made) c e =
    let p = one (λ t. Hindexed blocks t) (number_of numbers old) c e in
    let d : Construct = Hindexed blocks (record { number = old }) in
    record { told = d; told_is = refl; same = subst (λ (x : Construct). IsSame numbers x d) p.c_is (record { maps = λ ms. refl; weights = λ ws. refl; olds = (p.o_is, tt) }) }
told numbers (TypeIndexedBlock blocklength disps old made) c e =
    let p = one (λ t. IndexedBlock blocklength disps t) (number_of numbers old) c e in
    let d : Construct = IndexedBlock blocklength disps (record { number = old }) in
    record { told = d; told_is = refl; same = subst (λ (x : Construct). IsSame numbers x d) p.c_is (record { maps = λ ms. refl; weights = λ ws. refl; olds = (p.o_is, tt) }) }
told numbers (TypeHindexedBlock blocklength disps old made) c e =
    let p = one (λ t. HindexedBlock blocklength disps t) (number_of numbers old) c e in
    let d : Construct = HindexedBlock blocklength disps (record { number = old }) in
    record { told = d; told_is = refl; same = subst (λ (x : Construct). IsSame numbers x d) p.c_is (record { maps = λ ms. refl; weights = λ ws. refl; olds = (p.o_is, tt) }) }
told numbers (TypeStruct blocks made) c e =
    let p = items_some (items_of (number_of numbers) blocks) c e in
    let q = items_told numbers blocks p.xs p.is in
    record {
      told = Struct q.told;
      told_is = ap (option_map (λ items. Struct items)) q.told_is;
      same = subst (λ (x : Construct). IsSame numbers x (Struct q.told)) p.c_is (record { maps = q.same.maps; weights = q.same.weights; olds = q.same.olds });
    }
told numbers (TypeDup old made) c e =
    let p = one (λ t. Dup t) (number_of numbers old) c e in
    let d : Construct = Dup (record { number = old }) in
    record { told = d; told_is = refl; same = subst (λ (x : Construct). IsSame numbers x d) p.c_is (record { maps = λ ms. refl; weights = λ ws. refl; olds = (p.o_is, tt) }) }
told numbers (TypeResized lb length old made) c e =
    let p = one (λ t. Resized lb length t) (number_of numbers old) c e in
    let d : Construct = Resized lb length (record { number = old }) in
    record { told = d; told_is = refl; same = subst (λ (x : Construct). IsSame numbers x d) p.c_is (record { maps = λ ms. refl; weights = λ ws. refl; olds = (p.o_is, tt) }) }
told numbers (TypeSubarray order dims old made) c e =
    let p = one (λ t. Subarray order dims t) (number_of numbers old) c e in
    let d : Construct = Subarray order dims (record { number = old }) in
    record { told = d; told_is = refl; same = subst (λ (x : Construct). IsSame numbers x d) p.c_is (record { maps = λ ms. refl; weights = λ ws. refl; olds = (p.o_is, tt) }) }
told numbers (TypeCommit dtype) c e = none_some c e
told numbers (TypeFree dtype) c e = none_some c e

-- ---- the old types

abbrev pub Alike : Trees → Trees → Type 0
Alike none none = Unit {0}
Alike none (more u us) = ⊥
Alike (more t ts) none = ⊥
Alike (more t ts) (more u us) = IsLike t u × Alike ts us

maps_like : (ts us : Trees) → Alike ts us → type_maps ts ≡ type_maps us
maps_like none none a = refl
maps_like none (more u us) a = absurd a
maps_like (more t ts) none a = absurd a
maps_like (more t ts) (more u us) a = λ i. a.0.map i ∷ maps_like ts us a.1 i

weighed_like : (ts us : Trees) → Alike ts us → weighed ts ≡ weighed us
weighed_like none none a = refl
weighed_like none (more u us) a = absurd a
weighed_like (more t ts) none a = absurd a
weighed_like (more t ts) (more u us) a = λ i. record { weight = a.0.weight i; size = size (a.0.map i); extent = extent (a.0.map i) } ∷ weighed_like ts us a.1 i

depth_like : (ts us : Trees) → Alike ts us → greatest_depth ts ≡ greatest_depth us
depth_like none none a = refl
depth_like none (more u us) a = absurd a
depth_like (more t ts) none a = absurd a
depth_like (more t ts) (more u us) a = λ i. max (a.0.depth i) (depth_like ts us a.1 i)

made_like : (numbers : List (Option TypeNo)) (c d : Construct) (ts us : Trees) → IsSame numbers c d → Alike ts us → IsLike (Made Derived c ts) (Made Derived d us)
made_like numbers c d ts us same a =
    let weights : weight_of c (weighed ts) ≡ weight_of d (weighed us) = same.weights (weighed ts) ∙ ap (weight_of d) (weighed_like ts us a) in
    record {
      map = same.maps (type_maps ts) ∙ ap (map_of d) (maps_like ts us a);
      weight = weights;
      depth = ap (λ k. k + 1) (depth_like ts us a);
      slot = weights;
    }

-- a handle of a live type stands for one that is like it
record Known (at : TypeTree) (t : Option TypeTree) : Type 0 where
  type : TypeTree
  is : t ≡ Some type
  like : IsLike at type

itself : (t : TypeTree) → IsLike t t
itself t = record { map = refl; weight = refl; depth = refl; slot = refl }

known : (o : Option TypeTree) (at : TypeTree) (life : Life) (t : Option TypeTree) → o ≡ Some at → Suits o life t → Known at t
known o at life None e s = absurd s
known o at (Live made) (Some t) e s =
    let same : s.held ≡ at = some_same s.held at (sym s.at_is ∙ e) in
    record { type = t; is = refl; like = subst (λ (x : TypeTree). IsLike x t) same s.like }
known o at Predefined (Some t) e s =
    let same : t ≡ at = some_same t at (sym s.0 ∙ e) in
    record { type = t; is = refl; like = subst (λ (x : TypeTree). IsLike x t) same (itself t) }
known o at (Freed made freed) (Some t) e s = none_some at (sym s ∙ e)
known o at Never (Some t) e s = absurd s

record Olds (slots : List (Option TypeTree)) (types : ℕ → Option TypeTree) (ns hs : List ℕ) : Type 0 where
  trees : Trees
  is : trees_of types hs ≡ Some trees
  alike : Alike (trees_at slots ns) trees

there_is : (o : Option TypeTree) → IsSome o → (t : TypeTree) × (o ≡ Some t)
there_is None s = let bad : IsSome {T = TypeTree} None = s in cc (bad)
there_is (Some t) s = (t, refl)

olds_known : (numbers : List (Option TypeNo)) (slots : List (Option TypeTree)) (lives : ℕ → Life) (types : ℕ → Option TypeTree) (ns hs : List ℕ) → ((h : ℕ) → Fits slots (number_of numbers h) (lives h) (types h)) → Pairs numbers ns hs → AreLive slots ns → Olds slots types ns hs
olds_known numbers slots lives types [] [] fits p l = record { trees = none; is = refl; alike = tt }
olds_known numbers slots lives types [] (h ∷ hs) fits p l = absurd p
olds_known numbers slots lives types (n ∷ ns) [] fits p l = absurd p
olds_known numbers slots lives types (n ∷ ns) (h ∷ hs) fits p l =
    let at = there_is (tree_at slots n) l.0 in
    let suits : Suits (tree_at slots n) (lives h) (types h) = subst (λ (o : Option TypeNo). Fits slots o (lives h) (types h)) p.0 (fits h) in
    let k = known (tree_at slots n) at.0 (lives h) (types h) at.1 suits in
    let r = olds_known numbers slots lives types ns hs fits p.1 l.1 in
    record {
      trees = more k.type r.trees;
      is = (λ i. one_more (k.is i) (r.is i));
      alike = subst (λ (o : Option TypeTree). Alike (push o (trees_at slots ns)) (more k.type r.trees)) (sym at.1) (k.like, r.alike);
    }

-- ---- what is made

pub record IsMade (slots : List (Option TypeTree)) (types : ℕ → Option TypeTree) (call : Derive) (c : Construct) : Type 0 where
  pub type : TypeTree
  pub is : made_from types (construct_of by_handle call) ≡ Some type
  pub like : IsLike (made_of slots c) type
  pub derived : IsDerived (Some type)

pub made_known : (numbers : List (Option TypeNo)) (slots : List (Option TypeTree)) (lives : ℕ → Life) (types : ℕ → Option TypeTree) (call : Derive) (c : Construct) → ((h : ℕ) → Fits slots (number_of numbers h) (lives h) (types h)) → construct_of (number_of numbers) call ≡ Some c → AreLive slots (old_numbers c)
    → IsMade slots types call c
made_known numbers slots lives types call c fits e l =
    let t = told numbers call c e in
    let o = olds_known numbers slots lives types (old_numbers c) (old_numbers t.told) fits t.same.olds l in
    record {
      type = Made Derived t.told o.trees;
      is = ap (made_from types) t.told_is ∙ ap (option_map (Made Derived t.told)) o.is;
      like = made_like numbers c t.told (trees_at slots (old_numbers c)) o.trees t.same o.alike;
      derived = tt;
    }

-- ---- what isn't made

none_here : (K : TypeNo → Construct) (o : Option TypeNo) → option_map K o ≡ None → o ≡ None
none_here K None e = refl
none_here K (Some n) e = none_some (K n) (sym e)

-- a handle that stands for no number stands for no type
unknown : (slots : List (Option TypeTree)) (o : Option TypeNo) (life : Life) (t : Option TypeTree) → Fits slots o life t → o ≡ None → t ≡ None
unknown slots o life t fits e = subst (λ (x : Option TypeNo). Fits slots x life t) e fits

one_none : (types : ℕ → Option TypeTree) (h : ℕ) (c : Construct) → types h ≡ None → old_numbers c ≡ h ∷ [] → made_from types (Some c) ≡ None
one_none types h c e olds = ap (λ (ns : List ℕ). option_map (Made Derived c) (trees_of types ns)) olds ∙ ap (λ (t : Option TypeTree). option_map (Made Derived c) (one_more t (Some none))) e

more_none : (t : Option TypeTree) (ts : Option Trees) → ts ≡ None → one_more t ts ≡ None
more_none None ts e = refl
more_none (Some t) ts e = ap (one_more (Some t)) e

items_here : (b : StructBlock) (o : Option TypeNo) (items : Option (List StructItem)) → item_first b o items ≡ None → (o ≡ None) ⊎ (items ≡ None)
items_here b None items e = inl refl
items_here b (Some n) None e = inr refl
items_here b (Some n) (Some items) e = none_some (item_of b n ∷ items) (sym e)

items_all : (blocks : List StructBlock) → (items : List StructItem) × (items_of by_handle blocks ≡ Some items)
items_all [] = ([], refl)
items_all (b ∷ blocks) =
    let r = items_all blocks in
    let here : TypeNo = record { number = b.old } in
    (item_of b here ∷ r.0, ap (item_first b (Some here)) r.1)

items_none : (numbers : List (Option TypeNo)) (slots : List (Option TypeTree)) (lives : ℕ → Life) (types : ℕ → Option TypeTree) → ((h : ℕ) → Fits slots (number_of numbers h) (lives h) (types h)) → (blocks : List StructBlock) (items : List StructItem)
    → items_of (number_of numbers) blocks ≡ None → items_of by_handle blocks ≡ Some items → trees_of types (map (λ it. it.old.number) items) ≡ None
items_none numbers slots lives types fits [] items e is = none_some [] (sym e)
items_none numbers slots lives types fits (b ∷ blocks) items e is =
    let r = items_all blocks in
    let here : TypeNo = record { number = b.old } in
    let same : item_of b here ∷ r.0 ≡ items = some_same (item_of b here ∷ r.0) items (sym (ap (item_first b (Some here)) r.1) ∙ is) in
    ap (λ (xs : List StructItem). trees_of types (map (λ it. it.old.number) xs)) (sym same)
    ∙ elim (items_here b (number_of numbers b.old) (items_of (number_of numbers) blocks) e) [
      | inl gone ↦ ap (λ (t : Option TypeTree). one_more t (trees_of types (map (λ it. it.old.number) r.0))) (unknown slots (number_of numbers b.old) (lives b.old) (types b.old) (fits b.old) gone)
      | inr gone ↦ more_none (types b.old) (trees_of types (map (λ it. it.old.number) r.0)) (items_none numbers slots lives types fits blocks r.0 gone r.1)
    ]

struct_here : (items : Option (List StructItem)) → option_map (λ xs. Struct xs) items ≡ None → items ≡ None
struct_here None e = refl
struct_here (Some xs) e = none_some (Struct xs) (sym e)

pub not_made : (numbers : List (Option TypeNo)) (slots : List (Option TypeTree)) (lives : ℕ → Life) (types : ℕ → Option TypeTree) (call : Derive) → ((h : ℕ) → Fits slots (number_of numbers h) (lives h) (types h)) → construct_of (number_of numbers) call ≡ None
    → made_from types (construct_of by_handle call) ≡ None
not_made numbers slots lives types (TypeContiguous count old made) fits e =
    one_none types old (Contiguous count (record { number = old })) (unknown slots (number_of numbers old) (lives old) (types old) (fits old) (none_here (λ t. Contiguous count t) (number_of numbers old) e)) refl
not_made numbers slots lives types (TypeVector count blocklength stride old made) fits e =
    one_none types old (Vector count blocklength stride (record { number = old })) (unknown slots (number_of numbers old) (lives old) (types old) (fits old) (none_here (λ t. Vector count blocklength stride t) (number_of numbers old) e)) refl
not_made numbers slots lives types (TypeHvector count blocklength stride old made) fits e =
    one_none types old (Hvector count blocklength stride (record { number = old })) (unknown slots (number_of numbers old) (lives old) (types old) (fits old) (none_here (λ t. Hvector count blocklength stride t) (number_of numbers old) e)) refl
not_made numbers slots lives types (TypeIndexed blocks old made) fits e =
    one_none types old (Indexed blocks (record { number = old })) (unknown slots (number_of numbers old) (lives old) (types old) (fits old) (none_here (λ t. Indexed blocks t) (number_of numbers old) e)) refl
not_made numbers slots lives types (TypeHindexed blocks old made) fits e =
    one_none types old (Hindexed blocks (record { number = old })) (unknown slots (number_of numbers old) (lives old) (types old) (fits old) (none_here (λ t. Hindexed blocks t) (number_of numbers old) e)) refl
not_made numbers slots lives types (TypeIndexedBlock blocklength disps old made) fits e =
    one_none types old (IndexedBlock blocklength disps (record { number = old })) (unknown slots (number_of numbers old) (lives old) (types old) (fits old) (none_here (λ t. IndexedBlock blocklength disps t) (number_of numbers old) e)) refl
not_made numbers slots lives types (TypeHindexedBlock blocklength disps old made) fits e =
    one_none types old (HindexedBlock blocklength disps (record { number = old })) (unknown slots (number_of numbers old) (lives old) (types old) (fits old) (none_here (λ t. HindexedBlock blocklength disps t) (number_of numbers old) e)) refl
not_made numbers slots lives types (TypeDup old made) fits e =
    one_none types old (Dup (record { number = old })) (unknown slots (number_of numbers old) (lives old) (types old) (fits old) (none_here (λ t. Dup t) (number_of numbers old) e)) refl
not_made numbers slots lives types (TypeResized lb length old made) fits e =
    one_none types old (Resized lb length (record { number = old })) (unknown slots (number_of numbers old) (lives old) (types old) (fits old) (none_here (λ t. Resized lb length t) (number_of numbers old) e)) refl
not_made numbers slots lives types (TypeSubarray order dims old made) fits e =
    one_none types old (Subarray order dims (record { number = old })) (unknown slots (number_of numbers old) (lives old) (types old) (fits old) (none_here (λ t. Subarray order dims t) (number_of numbers old) e)) refl
not_made numbers slots lives types (TypeStruct blocks made) fits e =
    let r = items_all blocks in
    ap (λ (items : Option (List StructItem)). made_from types (option_map (λ xs. Struct xs) items)) r.1
    ∙ ap (option_map (Made Derived (Struct r.0))) (items_none numbers slots lives types fits blocks r.0 (struct_here (items_of (number_of numbers) blocks) e) r.1)
not_made numbers slots lives types (TypeCommit dtype) fits e = refl
not_made numbers slots lives types (TypeFree dtype) fits e = refl
