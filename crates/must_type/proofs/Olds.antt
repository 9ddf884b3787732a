-- The old types of a tree, as its maps and its weights.
use Rattle.std.proofs.Common.{◌≡◌, refl, ap, subst, sym, ◌∙◌, arith, ℕ, zero, suc, List, [], ◌∷◌, Some, None, length}
use Rattle.std.specs.Prelude.{slice_get, pos}
use Rattle.std.specs.Option.{option_map, IsSome}
use Rattle.must_call.specs.declared.basic.Basic.{Basic}
use Rattle.must_type.specs.declared.construct.Construct.{Construct}
use Rattle.must_type.specs.Maps.{Element}
use Rattle.must_type.specs.Tree.{TypeTree, Trees, Elementary, Made, none, more, type_map, type_maps, weight, weighed, basic_of, call_of, old_at, old_maps, old_weights, as_old, row_get, row_length}
use Rattle.must_type.specs.Making.{IsWellMade, IsMadeBy}

row_map : (ts : Trees) (i : ℕ) → option_map type_map (row_get ts i) ≡ slice_get (type_maps ts) i
row_map none i = refl
row_map (more t ts) zero = refl
row_map (more t ts) (suc i) = row_map ts i

pub old_map : (t : TypeTree) (i : ℕ) → option_map type_map (old_at t i) ≡ slice_get (old_maps t) i
old_map (Elementary b) i = refl
old_map (Made origin call olds) i = row_map olds i

row_weight : (ts : Trees) (i : ℕ) → option_map as_old (row_get ts i) ≡ slice_get (weighed ts) i
row_weight none i = refl
row_weight (more t ts) zero = refl
row_weight (more t ts) (suc i) = row_weight ts i

pub old_weight : (t : TypeTree) (i : ℕ) → option_map as_old (old_at t i) ≡ slice_get (old_weights t) i
old_weight (Elementary b) i = refl
old_weight (Made origin call olds) i = row_weight olds i

maps_length : (ts : Trees) → length (type_maps ts) ≡ row_length ts
maps_length none = refl
maps_length (more t ts) = omega (arith, maps_length ts)

pub made_by : (t : TypeTree) (call : Construct) → IsWellMade t → Some call ≡ call_of t → IsMadeBy t call
made_by (Elementary b) call h e = cc
made_by (Made origin c olds) call h e =
    let same : c ≡ call = cc in
    subst (IsMadeBy (Made origin c olds)) same (record { map_is = refl; weight_is = refl; olds = maps_length olds ∙ h.1; allowed = h.0 })
