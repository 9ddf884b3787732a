use Rattle.std.proofs.Common.{◌≡◌, Some, ap, ◌∙◌, sym, arith, to_z, of_z}
use Rattle.std.specs.Prelude.{ℤ}
use Rattle.std.specs.Int.{w128}
use Rattle.std.proofs.lemmas.Int.{ints}
use Rattle.must_rules.specs.Parts.{numbered}
use Rattle.must_rules.specs.Overlaps.{valued}
use Rattle.must_parts.proofs.Placing.{between_is}
use Rattle.must_parts.proofs.overlaps.judge_between.Goals as goal

pub returns-in-Some : goal.returns-in-Some
returns-in-Some c = λ ps all.
    let shared = between_is c.in_ok-first.first.now c.in_ok-second.second.now (numbered 0 ps) (numbered 1 ps) c.first_shared.result (c.in_ok-first.ensures ps all) (c.in_ok-second.ensures ps all) c.first_shared.ensures in
    let read : to_z w128 (of_z w128 c.in-Some.address) ≡ c.in-Some.address = omega (arith, ints) in
    ap (λ (a : ℤ). valued (Some a)) read ∙ sym (ap valued c.in-Some.is) ∙ shared

pub returns-in-None : goal.returns-in-None
returns-in-None c = λ ps all.
    let shared = between_is c.in_ok-first.first.now c.in_ok-second.second.now (numbered 0 ps) (numbered 1 ps) c.first_shared.result (c.in_ok-first.ensures ps all) (c.in_ok-second.ensures ps all) c.first_shared.ensures in
    sym (ap valued c.in-None.is) ∙ shared
