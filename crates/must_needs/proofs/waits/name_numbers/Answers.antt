use Rattle.std.proofs.Common.{[], ◌∷◌, ◌++◌, sym, ◌∙◌, arith}
use Rattle.must_needs.specs.declared.names.Name.TheVariants.{Operation as Numbered}
use Rattle.must_needs.proofs.Stepping.{numbers_more}
use Rattle.must_needs.proofs.waits.name_numbers.Goals as goal

pub loop-preserved : goal.loop-preserved
loop-preserved c =
    let here = c.loop.invariant.0 in
    let next = c.in_ok-number.ensures in (
      omega (arith, here, next),
      c.in_ok-push.ensures.items ∙ (λ i. c.loop.invariant.1 i ++ Numbered (here i) ∷ []) ∙ sym (numbers_more c.args.first c.loop.counter),
    )
