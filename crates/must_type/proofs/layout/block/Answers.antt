use Rattle.std.proofs.Common.{subst, sym, ◌∙◌, ap, ℤ}
use Rattle.std.specs.Int.{w128}
use Rattle.std.proofs.lemmas.Int.{to_z-of_z}
use Rattle.must_type.specs.Summaries.{shift}
use Rattle.must_type.specs.Facts.{IsModest}
use Rattle.must_type.proofs.Layouts.{block_modest}
use Rattle.must_type.proofs.layout.block.Goals as goal

pub returns-clause-modest : goal.returns-clause-modest
returns-clause-modest c =
    let f = c.args.old.now in
    let h = c.requires.settled in
    let at = to_z-of_z w128 c.args.at c.ranges.at in
    subst IsModest (sym (c.moved.ensures ∙ ap (λ (d : ℤ). shift d c.run.result) at ∙ ap (shift c.args.at) c.run.ensures.value)) (block_modest c.args.length f.bounds.extent c.args.at f.summary c.requires.few h.near c.requires.near h.fits h.ordered h.aligned)
