-- A list that is appended item by item.
use Rattle.std.proofs.Common.{◌≡◌, ℕ, zero, suc, ◌<◌, List, [], ◌∷◌, ◌++◌, length, take, drop, get_or, refl, sym, ap, subst, ◌∙◌, append_assoc, arith}
use Rattle.std.specs.List.{flat_map}
use Rattle.must_value.specs.Fronts.{IsFrontBehind}
use Rattle.must_value.specs.FrontLaws.{front_first, front_second}

-- the texts before an item, its text, and those behind it
parted : {A : Type 0} (text : A → List ℕ) (items : List A) (i : ℕ) (d : A) → i < length items
    → flat_map text items ≡ flat_map text (take i items) ++ (text (get_or items i d) ++ flat_map text (drop (suc i) items))
parted text [] i d lt = absurd (omega (arith, lt))
parted text (x ∷ items) zero d lt = refl
parted text (x ∷ items) (suc i) d lt =
    ap (λ (bytes : List ℕ). text x ++ bytes) (parted text items i d (omega (arith, lt)))
    ∙ sym (append_assoc (text x) (flat_map text (take i items)) (text (get_or items i d) ++ flat_map text (drop (suc i) items)))

pub items_front : {A : Type 0} (text : A → List ℕ) (items : List A) (i : ℕ) (x : A) (old middle new : List ℕ) → i < length items → x ≡ get_or items i x
    → middle ≡ old ++ flat_map text (take i items) → IsFrontBehind middle (text x) new → IsFrontBehind old (flat_map text items) new
items_front text items i x old middle new lt is whole front =
    let behind = flat_map text (drop (suc i) items) in
    let item = subst (λ y. IsFrontBehind middle (text y) new) is front in
    subst (λ all. IsFrontBehind old all new) (sym (parted text items i x lt))
    (front_second old (flat_map text (take i items)) (text (get_or items i x) ++ behind) middle new whole (front_first middle (text (get_or items i x)) behind new item))
