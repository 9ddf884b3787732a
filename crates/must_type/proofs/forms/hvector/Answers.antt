use Rattle.std.proofs.Common.{rules, ◌≡◌, subst, ◌∙◌, ap, ℕ, ℤ, to_z, of_z}
use Rattle.std.specs.Int.{w128}
use Rattle.must_type.specs.Constructs.{natural}
use Rattle.must_type.specs.Summaries.{repeated}
use Rattle.must_type.specs.Facts.{IsWhereFits}
use Rattle.must_type.proofs.Laid.{hvector_is}
use Rattle.must_type.proofs.forms.hvector.Goals as goal

pub returns : goal.returns
returns c = λ T h.
    let f = c.args.old.now in
    let n : c.natural.result ≡ natural c.args.count = search rules in
    let m : c.natural-2.result ≡ natural c.args.blocklength = search rules in
    let s : to_z w128 (of_z w128 c.from.result) ≡ c.args.stride = search rules in
    subst (IsWhereFits c.runs.result) (ap (λ (k : ℕ). repeated k (to_z w128 (of_z w128 c.from.result)) (repeated c.natural-2.result f.bounds.extent f.summary)) n ∙ ap (λ (x : ℤ). repeated (natural c.args.count) x (repeated c.natural-2.result f.bounds.extent f.summary)) s ∙ ap (λ (k : ℕ). repeated (natural c.args.count) c.args.stride (repeated k f.bounds.extent f.summary)) m ∙ hvector_is (natural c.args.count) (natural c.args.blocklength) c.args.stride T f h) c.runs.ensures
