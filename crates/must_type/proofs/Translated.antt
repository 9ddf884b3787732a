-- The blocks of a recorded struct with their types, one block after another.
use Rattle.std.proofs.Common.{◌≡◌, refl, ◌∙◌, ap, arith, ℕ, zero, suc, ◌+◌, ◌<◌, List, [], ◌∷◌, ◌++◌, Option, Some, None, length, get_or, take}
use Rattle.std.proofs.lemmas.List.{take_more}
use Rattle.must_call.specs.declared.items.StructBlock.{StructBlock}
use Rattle.must_type.specs.declared.construct.TypeNo.{TypeNo}
use Rattle.must_type.specs.declared.construct.StructItem.{StructItem}
use Rattle.must_type.specs.Translation.{item_of, item_first, items_of}

abbrev both : Option (List StructItem) → Option (List StructItem) → Option (List StructItem)
both None ys = None
both (Some xs) None = None
both (Some xs) (Some ys) = Some (xs ++ ys)

none_first : (ys : Option (List StructItem)) → ys ≡ both (Some []) ys
none_first None = refl
none_first (Some ys) = refl

first_both : (b : StructBlock) (o : Option TypeNo) (xs ys : Option (List StructItem)) → item_first b o (both xs ys) ≡ both (item_first b o xs) ys
first_both b None xs ys = refl
first_both b (Some t) None ys = refl
first_both b (Some t) (Some xs) None = refl
first_both b (Some t) (Some xs) (Some ys) = refl

items_append : (types : ℕ → Option TypeNo) (xs ys : List StructBlock) → items_of types (xs ++ ys) ≡ both (items_of types xs) (items_of types ys)
items_append types [] ys = none_first (items_of types ys)
items_append types (x ∷ xs) ys = ap (item_first x (types x.old)) (items_append types xs ys) ∙ first_both x (types x.old) (items_of types xs) (items_of types ys)

-- one block more
pub items_more : (types : ℕ → Option TypeNo) (blocks : List StructBlock) (i : ℕ) (b : StructBlock) (t : TypeNo) (items : List StructItem) → i < length blocks → types (get_or blocks i b).old ≡ Some t →
    items_of types (take i blocks) ≡ Some items → items_of types (take (i + 1) blocks) ≡ Some (items ++ item_of (get_or blocks i b) t ∷ [])
items_more types blocks i b t items h e r =
    let x = get_or blocks i b in
    ap (items_of types) (take_more blocks i b h) ∙ items_append types (take i blocks) (x ∷ []) ∙ ap (λ o. both o (items_of types (x ∷ []))) r ∙ ap (λ o. both (Some items) (item_first x o (Some []))) e

first_none : (b : StructBlock) (o : Option TypeNo) → item_first b o None ≡ None
first_none b None = refl
first_none b (Some t) = refl

-- a block without a type
pub items_none : (types : ℕ → Option TypeNo) (blocks : List StructBlock) (i : ℕ) (b : StructBlock) → i < length blocks → types (get_or blocks i b).old ≡ None → items_of types blocks ≡ None
items_none types [] i b h e = absurd (omega arith)
items_none types (x ∷ blocks) zero b h e = ap (λ o. item_first x o (items_of types blocks)) e
items_none types (x ∷ blocks) (suc i) b h e = ap (item_first x (types x.old)) (items_none types blocks i b (omega arith) e) ∙ first_none x (types x.old)
