-- Counted gaps, and the calls of a whole wave.
use Rattle.std.proofs.Common.{◌≡◌, ℕ, zero, suc, ◌+◌, ◌<◌, Bool, true, false, not, List, [], ◌∷◌, ◌++◌, length, map, drop, set, get_or, Option, Some, None, refl, sym, ap, ◌∙◌, arith}
use Rattle.std.specs.Prelude.{◌==◌}
use Rattle.std.specs.Option.{option_map}
use Rattle.std.proofs.lemmas.Bool.{ne_eqb}
use Rattle.must_call.specs.declared.place.Place.{Place}
use Rattle.must_coll.specs.declared.item.WaveItem.{WaveItem}
use Rattle.must_coll.specs.Waves.{has_gap, gap_count, present, missing, all_places}
use Rattle.must_coll.specs.Fronts.{fronts, fills}

-- no gap is counted where there is none
pub counted_none : (ws : List (Option WaveItem)) (n : ℕ) → n ≡ gap_count ws → (n == 0) ≡ not (has_gap ws)
counted_none ws n e = ap (λ k. k == 0) e ∙ by ws
  where
    by : (l : List (Option WaveItem)) → (gap_count l == 0) ≡ not (has_gap l)
    by [] = refl
    by (None ∷ l) = ne_eqb (suc (gap_count l)) 0 (λ q. omega (arith, q))
    by (Some x ∷ l) = by l

pub whole_places : (ws : List (Option WaveItem)) → has_gap ws ≡ false → all_places ws ≡ Some (map (λ x. x.place) (present ws))
whole_places [] e = refl
whole_places (None ∷ ws) e = let n : true ≡ false = e in cc
whole_places (Some x ∷ ws) e = ap (option_map (λ (ps : List Place). x.place ∷ ps)) (whole_places ws e)

pub gap_places : (ws : List (Option WaveItem)) → has_gap ws ≡ true → all_places ws ≡ None
gap_places [] e = let n : false ≡ true = e in cc
gap_places (None ∷ ws) e = refl
gap_places (Some x ∷ ws) e = ap (option_map (λ (ps : List Place). x.place ∷ ps)) (gap_places ws e)

pub none_missing : (members : List ℕ) (ws : List (Option WaveItem)) → has_gap ws ≡ false → missing members ws ≡ None
none_missing members [] e = refl
none_missing members (None ∷ ws) e = let n : true ≡ false = e in cc
none_missing members (Some x ∷ ws) e = none_missing (drop 1 members) ws e

-- a call that comes fills its lane, where that was empty
pub count_at : (lanes : List (List WaveItem)) (p : ℕ) (x : WaveItem) → p < length lanes
    → fills (get_or lanes p []) + gap_count (fronts (set lanes p (get_or lanes p [] ++ x ∷ []))) ≡ gap_count (fronts lanes)
count_at [] p x h = absurd (omega (arith, h))
count_at ([] ∷ ls) zero x h = omega arith
count_at ((y ∷ ys) ∷ ls) zero x h = omega arith
count_at ([] ∷ ls) (suc p) x h = let rest = count_at ls p x (omega (arith, h)) in omega (arith, rest)
count_at ((y ∷ ys) ∷ ls) (suc p) x h = count_at ls p x (omega (arith, h))

pub gap_from : (b r : Bool) → r ≡ not b → r ≡ false → b ≡ true
gap_from true r e n = refl
gap_from false r e n = let q : true ≡ false = sym e ∙ n in cc

pub whole_from : (b r : Bool) → r ≡ not b → r ≡ true → b ≡ false
whole_from true r e n = let q : true ≡ false = sym n ∙ e in cc
whole_from false r e n = refl
