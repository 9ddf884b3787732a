-- Types by their numbers, as the code holds them.
use Rattle.std.proofs.Common.{◌≡◌, refl, sym, ◌∙◌, ap, subst, arith, ℕ, zero, suc, ◌+◌, ◌≤◌, ◌<◌, List, [], ◌∷◌, ◌++◌, Option, Some, None, length, get_or, take, map, slice_set}
use Rattle.std.specs.Option.{IsSome, is_some}
use Rattle.std.proofs.lemmas.List.{take_more, map-append}
use Rattle.must_type.specs.declared.construct.StructItem.{StructItem}
use Rattle.must_type.specs.declared.tree.Origin.TheVariants.{Predefined, Derived}
use Rattle.must_type.specs.Tree.{TypeTree, Trees, Elementary, Made, none, more, weight}
use Rattle.must_type.specs.View.{trees_of, slot_of, slots_of}
use Rattle.must_type.specs.Table.{Types, tree_at, trees_at, push, AreLive, live_weight, slot_weight, IsDerived}
use Rattle.must_type.proofs.Rows.{Shared}

pub slot_found : (slots : List (Option Shared)) (n : ℕ) (d : Option Shared) → n < length slots → tree_at (slots_of slots) n ≡ slot_of (get_or slots n d)
slot_found [] n d h = absurd (omega arith)
slot_found (t ∷ slots) zero d h = refl
slot_found (t ∷ slots) (suc n) d h = slot_found slots n d (omega arith)

pub live_below : (slots : List (Option Shared)) (n : ℕ) → IsSome (tree_at (slots_of slots) n) → n < length slots
live_below [] n h = cc
live_below (t ∷ slots) zero h = omega arith
live_below (t ∷ slots) (suc n) h = let e = live_below slots n h in omega (arith, e)

pub slots_more : (slots : List (Option Shared)) (t : Option Shared) → slots_of (slots ++ t ∷ []) ≡ slots_of slots ++ slot_of t ∷ []
slots_more [] t = refl
slots_more (s ∷ slots) t = ap (λ l. slot_of s ∷ l) (slots_more slots t)

pub slots_length : (slots : List (Option Shared)) → length (slots_of slots) ≡ length slots
slots_length [] = refl
slots_length (t ∷ slots) = omega (arith, slots_length slots)

-- a tree behind a row
abbrev row_end : Trees → TypeTree → Trees
row_end none x = more x none
row_end (more t ts) x = more t (row_end ts x)

trees_end : (olds : List Shared) (x : Shared) → trees_of (olds ++ x ∷ []) ≡ row_end (trees_of olds) x.value
trees_end [] x = refl
trees_end (t ∷ olds) x = ap (more t.value) (trees_end olds x)

push_end : (o : Option TypeTree) (ts : Trees) (x : TypeTree) → IsSome o → push o (row_end ts x) ≡ row_end (push o ts) x
push_end None ts x h = cc
push_end (Some t) ts x h = refl

named_end : (slots : List (Option TypeTree)) (ns : List ℕ) (n : ℕ) (t : TypeTree) → AreLive slots ns → tree_at slots n ≡ Some t → trees_at slots (ns ++ n ∷ []) ≡ row_end (trees_at slots ns) t
named_end slots [] n t h e = ap (λ (o : Option TypeTree). push o none) e
named_end slots (m ∷ ns) n t h e = ap (push (tree_at slots m)) (named_end slots ns n t h.1 e) ∙ push_end (tree_at slots m) (trees_at slots ns) t h.0

pub row_more : (slots : List (Option TypeTree)) (ns : List ℕ) (n : ℕ) (olds : List Shared) (x : Shared) → AreLive slots ns → tree_at slots n ≡ Some x.value → trees_of olds ≡ trees_at slots ns → trees_of (olds ++ x ∷ []) ≡ trees_at slots (ns ++ n ∷ [])
row_more slots ns n olds x h e r = trees_end olds x ∙ ap (λ (ts : Trees). row_end ts x.value) r ∙ sym (named_end slots ns n x.value h e)

pub live_at : (slots : List (Option TypeTree)) (blocks : List StructItem) (i : ℕ) (b : StructItem) → i < length blocks → AreLive slots (map (λ it. it.old.number) blocks) → IsSome (tree_at slots (get_or blocks i b).old.number)
live_at slots [] i b h l = absurd (omega arith)
live_at slots (it ∷ blocks) zero b h l = l.0
live_at slots (it ∷ blocks) (suc i) b h l = live_at slots blocks i b (omega arith) l.1

live_take : (slots : List (Option TypeTree)) (blocks : List StructItem) (i : ℕ) → AreLive slots (map (λ it. it.old.number) blocks) → AreLive slots (map (λ it. it.old.number) (take i blocks))
live_take slots [] zero l = tt
live_take slots [] (suc i) l = tt
live_take slots (it ∷ blocks) zero l = tt
live_take slots (it ∷ blocks) (suc i) l = (l.0, live_take slots blocks i l.1)

numbers_more : (blocks : List StructItem) (i : ℕ) (b : StructItem) → i < length blocks → map (λ it. it.old.number) (take (i + 1) blocks) ≡ map (λ it. it.old.number) (take i blocks) ++ (get_or blocks i b).old.number ∷ []
numbers_more blocks i b h = ap (map (λ it. it.old.number)) (take_more blocks i b h) ∙ map-append (λ it. it.old.number) (take i blocks) (get_or blocks i b ∷ [])

pub block_olds_step : (slots : List (Option TypeTree)) (blocks : List StructItem) (i : ℕ) (b : StructItem) (olds next : List Shared) (x found : Shared) → i < length blocks → AreLive slots (map (λ it. it.old.number) blocks) →
    tree_at slots (get_or blocks i b).old.number ≡ Some found.value → x.value ≡ found.value → next ≡ olds ++ x ∷ [] → trees_of olds ≡ trees_at slots (map (λ it. it.old.number) (take i blocks)) →
    trees_of next ≡ trees_at slots (map (λ it. it.old.number) (take (i + 1) blocks))
block_olds_step slots blocks i b olds next x found h l e v n r =
    ap trees_of n ∙ row_more slots (map (λ it. it.old.number) (take i blocks)) (get_or blocks i b).old.number olds x (live_take slots blocks i l) (e ∙ ap (λ (t : TypeTree). Some t) (sym v)) r ∙ ap (trees_at slots) (sym (numbers_more blocks i b h))

pub found_is : (slots : List (Option Shared)) (n : ℕ) (at : Option Shared) (t : Shared) → IsSome (tree_at (slots_of slots) n) → at ≡ get_or slots n at → at ≡ Some t → tree_at (slots_of slots) n ≡ Some t.value
found_is slots n at t h e f = slot_found slots n at (live_below slots n h) ∙ ap slot_of (sym e ∙ f)

pub not_free : (slots : List (Option Shared)) (n : ℕ) (at : Option Shared) → IsSome (tree_at (slots_of slots) n) → at ≡ get_or slots n at → at ≡ None → ⊥
not_free slots n at h e f =
    let free : tree_at (slots_of slots) n ≡ None = slot_found slots n at (live_below slots n h) ∙ ap slot_of (sym e ∙ f) in
    let no : IsSome {T = TypeTree} None = subst IsSome free h in
    cc (no)

slot_some : (o : Option Shared) → is_some (slot_of o) ≡ is_some o
slot_some None = refl
slot_some (Some t) = refl

pub is_live_there : (slots : List (Option Shared)) (n : ℕ) (at : Option Shared) → n < length slots → at ≡ get_or slots n at → is_some (tree_at (slots_of slots) n) ≡ is_some at
is_live_there slots n at h e = ap is_some (slot_found slots n at h) ∙ slot_some (get_or slots n at) ∙ ap is_some (sym e)

pub none_past : (slots : List (Option Shared)) (n : ℕ) → length slots ≤ n → IsSome (tree_at (slots_of slots) n) → ⊥
none_past slots n h s = let b = live_below slots n s in omega (arith, b)

-- ---- what a freed number leaves

pub slots_set : (slots : List (Option Shared)) (n : ℕ) → slots_of (slice_set slots n None) ≡ slice_set (slots_of slots) n None
slots_set [] n = refl
slots_set (t ∷ slots) zero = refl
slots_set (t ∷ slots) (suc n) = ap (λ l. slot_of t ∷ l) (slots_set slots n)

pub live_set : (slots : List (Option TypeTree)) (n : ℕ) → n < length slots → live_weight slots ≡ slot_weight (tree_at slots n) + live_weight (slice_set slots n None)
live_set [] n h = absurd (omega arith)
live_set (t ∷ slots) zero h = omega arith
live_set (t ∷ slots) (suc n) h = let e = live_set slots n (omega arith) in omega (arith, e)

pub derived_some : (o : Option TypeTree) → IsDerived o → IsSome o
derived_some None h = absurd h
derived_some (Some t) h = refl

derived_is : (t : TypeTree) → IsDerived (Some t) → slot_weight (Some t) ≡ weight t
derived_is (Elementary b) h = absurd h
derived_is (Made Predefined call olds) h = absurd h
derived_is (Made Derived call olds) h = refl

pub derived_weight : (o : Option TypeTree) (t : TypeTree) → o ≡ Some t → IsDerived o → slot_weight o ≡ weight t
derived_weight o t e h = ap slot_weight e ∙ derived_is t (subst IsDerived e h)

pub live_more : (slots : List (Option TypeTree)) (t : Option TypeTree) → live_weight (slots ++ t ∷ []) ≡ live_weight slots + slot_weight t
live_more [] t = omega arith
live_more (s ∷ slots) t = let e = live_more slots t in omega (arith, e)

pub same_types : (a b : ℕ) (c d : List (Option TypeTree)) → a ≡ b → c ≡ d → (let t : Types = record { weight_limit = a; slots = c } in t) ≡ record { weight_limit = b; slots = d }
same_types a b c d p q = ap (λ (x : ℕ). let t : Types = record { weight_limit = x; slots = c } in t) p ∙ ap (λ (l : List (Option TypeTree)). let t : Types = record { weight_limit = b; slots = l } in t) q
