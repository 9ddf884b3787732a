use Rattle.std.proofs.Common.{subst, sym, ◌∙◌, ap, ℤ, arith, ◌^◌}
use Rattle.must_type.specs.Summaries.{repeated}
use Rattle.must_type.specs.Facts.{IsModest}
use Rattle.must_type.proofs.Distances.{kept, wider}
use Rattle.must_type.proofs.Layouts.{run_modest}
use Rattle.must_type.proofs.layout.run.Goals as goal

pub returns-clause-modest : goal.returns-clause-modest
returns-clause-modest c =
    let f = c.args.old.now in
    let h = c.requires.settled in
    let e = kept f.bounds.extent (wider (2 ^ 63) (2 ^ 126) f.bounds.extent (omega arith) h.near) in
    subst IsModest (sym (c.repeated.ensures.value ∙ ap (λ (x : ℤ). repeated c.args.length x f.summary) e)) (run_modest c.args.length f.bounds.extent f.summary c.requires.few h.near h.fits h.ordered h.aligned)
