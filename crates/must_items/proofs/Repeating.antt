-- Signatures that are repeated for each member.
use Rattle.std.proofs.Common.{◌≡◌, ℕ, ◌+◌, ◌<◌, ◌≤◌, ℤ, pos, List, [], ◌∷◌, ◌++◌, map, length, take, get_or, Option, sym, ap, ◌∙◌, arith}
use Rattle.std.proofs.lemmas.List.{append-nil, map-append, take_more}
use Rattle.must_call.specs.declared.basic.Basic.{Basic}
use Rattle.must_type.specs.Tree.{TypeTree, type_map}
use Rattle.must_sig.specs.Signatures.{Periods, expansion, repeated, signature, basics_of}
use Rattle.must_items.specs.Moved.{elements, signatures_of}
use Rattle.must_items.specs.Typed.{HasMap}

pub once : (xs : List Basic) → repeated 1 xs ≡ xs
unfolding repeated
once xs = append-nil xs

-- one signature more
pub one_more : (f : ℤ → List Basic) (sigs : List Periods) (sig : Periods) (counts : List ℤ) (i : ℕ) → i < length counts → map expansion sigs ≡ map f (take i counts) → expansion sig ≡ f (get_or counts i (pos 0))
    → map expansion (sigs ++ sig ∷ []) ≡ map f (take (i + 1) counts)
one_more f sigs sig counts i within before new =
    map-append expansion sigs (sig ∷ []) ∙ (λ k. before k ++ new k ∷ []) ∙ sym (ap (map f) (take_more counts i (pos 0) within) ∙ map-append f (take i counts) (get_or counts i (pos 0) ∷ []))

-- those of an element of the type, repeated, are those of the type
pub of_type : (t : TypeTree) (e : List Basic) (counts : List ℤ) → e ≡ signature t 1 → map (λ z. repeated (elements z) e) counts ≡ map (λ z. signature t (elements z)) counts
of_type t e counts is = ap (λ (b : List Basic). map (λ z. repeated (elements z) b) counts) (is ∙ once (basics_of (type_map t)))

-- the map of the type decides
pub by_map : (held : TypeTree) (o : Option TypeTree) (counts : List ℤ) → HasMap o held → map (λ z. signature held (elements z)) counts ≡ signatures_of o counts
by_map held o counts m = ap (λ b. map (λ z. repeated (elements z) (basics_of b)) counts) m.map_is ∙ ap (λ (p : Option TypeTree). signatures_of p counts) (sym m.is)

-- a loop that went as far as it may took all
pub end_of : (counts : List ℤ) (i n : ℕ) → i ≤ n → n ≤ i → take i counts ≡ take n counts
end_of counts i n le ge = ap (λ k. take k counts) (let e : i ≡ n = omega (arith, le, ge) in e)
