use Rattle.std.proofs.Common.{subst, ◌∙◌, ap, ℤ}
use Rattle.std.specs.Int.{w128}
use Rattle.std.proofs.lemmas.Int.{to_z-of_z}
use Rattle.must_type.specs.Summaries.{repeated}
use Rattle.must_type.specs.Facts.{IsWhereFits}
use Rattle.must_type.proofs.layout.runs.Goals as goal

pub returns : goal.returns
returns c =
    let stride = to_z-of_z w128 c.args.stride c.ranges.stride in
    subst (IsWhereFits c.where_fits.result) (c.repeated.ensures.value ∙ ap (λ (x : ℤ). repeated c.args.count x c.run.result) stride ∙ ap (repeated c.args.count c.args.stride) c.run.ensures.value) c.where_fits.ensures
