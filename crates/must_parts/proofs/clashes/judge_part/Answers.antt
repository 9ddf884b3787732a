use Rattle.std.proofs.Common.{◌≡◌, Option, Some, ap, ◌∙◌, sym, subst, arith, to_z, of_z}
use Rattle.std.specs.Option.{option_map}
use Rattle.must_parts.specs.declared.placed.Placed.{Placed}
use Rattle.must_parts.specs.Placing.{IsPlacedOf}
use Rattle.std.specs.Prelude.{ℤ}
use Rattle.std.specs.Int.{w128}
use Rattle.std.proofs.lemmas.Int.{ints}
use Rattle.must_rules.specs.PendingOperations.{clash_answer}
use Rattle.must_parts.proofs.Clashing.{clash_is}
use Rattle.must_parts.proofs.clashes.judge_part.Goals as goal

pub returns-in-Some-clash : goal.returns-in-Some-clash
returns-in-Some-clash c = λ ops p held is.
    let found = clash_is c.args.rank c.in-Some.part.now p c.args.pending.now ops c.clash.result held (subst (λ (o : Option Placed). IsPlacedOf o p) (ap (option_map (λ q. q.now)) c.in-Some.is) is) c.clash.ensures in
    let read : to_z w128 (of_z w128 c.in-Some-clash.address) ≡ c.in-Some-clash.address = omega (arith, ints) in
    ap (λ (a : ℤ). clash_answer c.args.rank (Some (c.in-Some-clash.call, a))) read ∙ sym (ap (clash_answer c.args.rank) c.in-Some-clash.is) ∙ found

pub returns-in-None : goal.returns-in-None
returns-in-None c = λ ops p held is.
    let found = clash_is c.args.rank c.in-Some.part.now p c.args.pending.now ops c.clash.result held (subst (λ (o : Option Placed). IsPlacedOf o p) (ap (option_map (λ q. q.now)) c.in-Some.is) is) c.clash.ensures in
    sym (ap (clash_answer c.args.rank) c.in-None.is) ∙ found
