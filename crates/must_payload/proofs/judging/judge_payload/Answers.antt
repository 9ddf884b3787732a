use Rattle.std.proofs.Common.{arith}
use Rattle.must_call.specs.Fields.{inputs}
use Rattle.must_format.specs.FieldLaws.{inputs_good}
use Rattle.must_payload.proofs.judging.judge_payload.Goals as goal

pub returns-clause-outputs : goal.returns-clause-outputs
returns-clause-outputs c =
    (inputs_good (inputs c.args.kind) c.args.payload.now c.in_ok-outputs.outputs.now (λ i. omega (arith, c.type_inv.payload i)) (rw c.inputs_of.ensures at c.in_ok-outputs.ensures)).rest_is
