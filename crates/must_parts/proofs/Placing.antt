-- Parts that are laid out, one by one.
use Rattle.std.proofs.Common.{◌≡◌, ℕ, ◌+◌, ◌<◌, ◌≤◌, Bool, true, false, nat_eq, List, [], ◌∷◌, ◌++◌, flat_map, length, take, drop, get_or, Option, Some, None, sym, ap, subst, ◌∙◌, arith}
use Rattle.std.specs.Prelude.{cond, ℤ}
use Rattle.std.specs.List.{list_any}
use Rattle.std.proofs.lemmas.List.{drop_all}
use Rattle.must_type.specs.Maps.{Entry, block}
use Rattle.must_type.specs.Tree.{TypeTree}
use Rattle.must_span.specs.Ranges.{IsFirstShared}
use Rattle.must_span.specs.Bytes.{AreBytes}
use Rattle.must_rules.specs.Parts.{Block, Part, block_map, entries_of, numbered}
use Rattle.must_rules.specs.Overlaps.{overlap, valued, shared_parts}
use Rattle.must_parts.specs.declared.lay.Laid.{Laid}
use Rattle.must_parts.specs.declared.placed.Placed.{Placed}
use Rattle.must_parts.specs.declared.told.Told.{Told}
use Rattle.must_parts.specs.Telling.{IsAlike, IsTold, AreTold}
use Rattle.must_parts.specs.Laying.{IsLaid}
use Rattle.must_parts.specs.Placing.{IsPlaced, IsPlacedOf, ArePlaced}
use Rattle.must_parts.proofs.Shared.{shared_is}
use Rattle.must_parts.proofs.Matching.{matched_append, matched_item, matched_length}

maps : List Entry → Block → List Entry
maps m b = block b.count m b.address

-- a type with the same map is laid out alike
pub laid_alike : (laid : Laid) (held t : TypeTree) (bs cs : List Block) → IsLaid laid held bs → IsAlike held t → bs ≡ cs → IsLaid laid t cs
laid_alike laid held t bs cs is a e = record {
  bytes = subst (λ (l : List Block). AreBytes laid.spans (flat_map (block_map t) l)) e (subst (λ (m : List Entry). AreBytes laid.spans (flat_map (λ b. block b.count m b.address) bs)) a.map_is is.bytes);
  overlaps_is = is.overlaps_is ∙ ap (λ (m : List Entry). list_any (λ b. overlap (block b.count m b.address)) bs) a.map_is ∙ ap (λ (l : List Block). list_any (λ b. overlap (block_map t b)) l) e;
}

-- ---- the part with a number

by_number : (b : Bool) (p : Part) (ps : List Part) (number : ℕ) → nat_eq p.number number ≡ b → numbered number (p ∷ ps) ≡ cond b (Some p) (numbered number ps)
by_number b p ps number e = ap (λ c. cond c (Some p) (numbered number ps)) e

eq_yes : (m n : ℕ) → m ≡ n → nat_eq m n ≡ true
eq_yes m n e = grind arith

eq_no : (m n : ℕ) → (m ≡ n → ⊥) → nat_eq m n ≡ false
eq_no m n e = grind arith

pub numbered_here : (xs : List Placed) (ps : List Part) (i number : ℕ) (x : Placed) → ArePlaced xs ps → i < length xs → x ≡ get_or xs i x → x.number ≡ number → numbered number (drop i ps) ≡ numbered number ps → IsPlacedOf (Some x) (numbered number ps)
numbered_here xs ps i number x all within is n before =
    let item = matched_item IsPlaced xs ps i x all within in
    let here : IsPlaced x item.item = subst (λ y. IsPlaced y item.item) (sym is) item.matches in
    let found : numbered number ps ≡ Some item.item = sym before ∙ ap (numbered number) item.drop_is ∙ by_number true item.item (drop (i + 1) ps) number (eq_yes item.item.number number (sym here.number_is ∙ n)) in
    subst (λ o. IsPlacedOf (Some x) o) (sym found) here

pub numbered_next : (xs : List Placed) (ps : List Part) (i number : ℕ) (x : Placed) → ArePlaced xs ps → i < length xs → x ≡ get_or xs i x → (x.number ≡ number → ⊥) → numbered number (drop i ps) ≡ numbered number ps → numbered number (drop (i + 1) ps) ≡ numbered number ps
numbered_next xs ps i number x all within is n before =
    let item = matched_item IsPlaced xs ps i x all within in
    let here : IsPlaced x item.item = subst (λ y. IsPlaced y item.item) (sym is) item.matches in
    sym (by_number false item.item (drop (i + 1) ps) number (eq_no item.item.number number (λ e. n (here.number_is ∙ e)))) ∙ sym (ap (numbered number) item.drop_is) ∙ before

pub numbered_none : (xs : List Placed) (ps : List Part) (i number : ℕ) → ArePlaced xs ps → length xs ≤ i → numbered number (drop i ps) ≡ numbered number ps → IsPlacedOf None (numbered number ps)
numbered_none xs ps i number all past before =
    let none : None ≡ numbered number ps = ap (numbered number) (sym (drop_all i ps (omega (arith, matched_length IsPlaced xs ps all, past)))) ∙ before in
    subst (λ o. IsPlacedOf None o) none tt

-- one part more
pub placed_step : (slots : List (Option TypeTree)) (ts : List Told) (ps : List Part) (i : ℕ) (x : Told) (old new : List Placed) (placed : Placed) → AreTold slots ts ps → i < length ts → x ≡ get_or ts i x
    → ArePlaced old (take i ps) → ((part : Part) → IsTold slots x part → IsPlaced placed part) → new ≡ old ++ placed ∷ [] → ArePlaced new (take (i + 1) ps)
placed_step slots ts ps i x old new placed all within is before one e =
    let item = matched_item (IsTold slots) ts ps i x all within in
    let here = one item.item (subst (λ y. IsTold slots y item.item) (sym is) item.matches) in
    subst (λ (l : List Placed). ArePlaced l (take (i + 1) ps)) (sym e)
    (subst (λ (l : List Part). ArePlaced (old ++ placed ∷ []) l) (sym item.take_is) (matched_append IsPlaced old (placed ∷ []) (take i ps) (item.item ∷ []) before (here, tt)))

-- what two parts share
pub between_is : (x y : Placed) (p q : Option Part) (o : Option ℤ) → IsPlacedOf (Some x) p → IsPlacedOf (Some y) q → IsFirstShared x.laid.spans y.laid.spans o → valued o ≡ shared_parts p q
between_is x y None q o a b f = absurd a
between_is x y (Some p) None o a b f = absurd b
between_is x y (Some p) (Some q) o a b f = ap valued (shared_is x.laid.spans y.laid.spans (entries_of p) (entries_of q) o a.laid.bytes b.laid.bytes f)
