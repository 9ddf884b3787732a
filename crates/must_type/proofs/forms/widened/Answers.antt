use Rattle.std.proofs.Common.{rules, ◌≡◌, ◌*◌, ◌+◌, ◌≤◌, ◌^◌, ℕ, subst, sym, ◌∙◌, ap, ℤ, pos, ◌*ℤ◌, arith, to_z, of_z}
use Rattle.std.specs.Int.{w128}
use Rattle.std.specs.Int.RustNames.{unsigned_abs}
use Rattle.std.proofs.lemmas.Int.{to_z-of_z}
use Rattle.must_type.specs.declared.summary.Summary.{Summary}
use Rattle.must_type.proofs.Parts.{shifted_bounded, widened_bounded}
use Rattle.must_type.specs.Maps.{IsBounded}
use Rattle.must_type.specs.Constructs.{natural}
use Rattle.must_type.specs.Summaries.{shift, repeated, IsBoundedBy, IsOrdered}
use Rattle.must_type.proofs.Summed.{shift_alignment}
use Rattle.must_type.proofs.Distances.{kept, wider, wider_by, bounded_abs, shift_ordered, shifted_size}
use Rattle.must_type.proofs.forms.widened.Goals as goal

pub moved-requires-clause-bounded : goal.moved-requires-clause-bounded
moved-requires-clause-bounded c =
    let a = bounded_abs (2 ^ 63) c.args.step c.requires.partly.near in
    wider_by (2 ^ 62 + unsigned_abs c.args.step) (2 ^ 126) c.args.all (omega (arith, a)) c.requires.partly.bounded

pub moved-requires-clause-near : goal.moved-requires-clause-near
moved-requires-clause-near c =
    let step : to_z w128 (of_z w128 c.args.step) ≡ c.args.step = to_z-of_z w128 c.args.step c.ranges.step in
    let near = c.times-first.ensures.bounded (2 ^ 63) (subst (IsBounded (2 ^ 63)) (sym step) c.requires.partly.near) in
    let keep = kept c.times-first.result (wider (2 ^ 31 * 2 ^ 63) (2 ^ 126) c.times-first.result (omega arith) near) in
    subst (IsBounded (2 ^ 125)) (sym keep) (wider (2 ^ 31 * 2 ^ 63) (2 ^ 125) c.times-first.result (omega arith) near)

pub repeated-requires-clause-bounded : goal.repeated-requires-clause-bounded
repeated-requires-clause-bounded c =
    let first : to_z w128 (of_z w128 c.times-first.result) ≡ pos (natural c.args.dim.start) *ℤ c.args.step = search rules in
    let few : natural c.args.dim.start ≤ 2 ^ 31 = search rules in
    subst (IsBoundedBy (2 ^ 126)) (sym (c.moved.ensures ∙ ap (λ (d : ℤ). shift d c.args.all) first)) (shifted_bounded (natural c.args.dim.start) c.args.step c.args.all few c.requires.partly.near c.requires.partly.bounded)

pub repeated-requires-clause-ordered : goal.repeated-requires-clause-ordered
repeated-requires-clause-ordered c = subst IsOrdered (sym c.moved.ensures) (shift_ordered _ c.args.all c.requires.partly.ordered)

pub repeated-requires-clause-aligned : goal.repeated-requires-clause-aligned
repeated-requires-clause-aligned c = let e = ap (λ (s : Summary). s.alignment) c.moved.ensures ∙ shift_alignment (to_z w128 (of_z w128 c.times-first.result)) c.args.all in omega (arith, e, c.requires.partly.aligned)

pub repeated-requires-clause-small : goal.repeated-requires-clause-small
repeated-requires-clause-small c = let e : c.moved.result.size ≡ c.args.all.size = shifted_size _ c.args.all c.moved.result c.moved.ensures in omega (arith, c.requires.partly.small)

pub returns-clause-bounded : goal.returns-clause-bounded
returns-clause-bounded c =
    let first : to_z w128 (of_z w128 c.times-first.result) ≡ pos (natural c.args.dim.start) *ℤ c.args.step = search rules in
    let step : to_z w128 (of_z w128 c.args.step) ≡ c.args.step = to_z-of_z w128 c.args.step c.ranges.step in
    let n : c.natural.result ≡ natural c.args.dim.subsize = search rules in
    let there = c.moved.ensures ∙ ap (λ (d : ℤ). shift d c.args.all) first in
    let value : c.repeated.result ≡ repeated (natural c.args.dim.subsize) c.args.step (shift (pos (natural c.args.dim.start) *ℤ c.args.step) c.args.all) =
    c.repeated.ensures.value ∙ ap (λ (k : ℕ). repeated k (to_z w128 (of_z w128 c.args.step)) c.moved.result) n ∙ ap (λ (d : ℤ). repeated (natural c.args.dim.subsize) d c.moved.result) step ∙ ap (repeated (natural c.args.dim.subsize) c.args.step) there in
    subst (IsBoundedBy (2 ^ 62 + natural c.args.dim.size * unsigned_abs c.args.step)) (sym value) (widened_bounded c.args.dim c.args.step c.args.all c.requires.part c.requires.partly.bounded)
