use Rattle.std.proofs.Common.{rules, ◌≡◌, subst, ◌∙◌, ap, ℕ}
use Rattle.must_type.specs.Constructs.{natural}
use Rattle.must_type.specs.Summaries.{repeated}
use Rattle.must_type.specs.Facts.{IsWhereFits}
use Rattle.must_type.proofs.Laid.{contiguous_is}
use Rattle.must_type.proofs.forms.contiguous.Goals as goal

pub returns : goal.returns
returns c = λ T h.
    let f = c.args.old.now in
    let n : c.natural.result ≡ natural c.args.count = search rules in
    subst (IsWhereFits c.where_fits.result) (c.run.ensures.value ∙ ap (λ (k : ℕ). repeated k f.bounds.extent f.summary) n ∙ contiguous_is (natural c.args.count) T f h) c.where_fits.ensures
