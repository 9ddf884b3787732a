use Rattle.std.proofs.Common.{◌≤◌, ◌+◌, List, map, length, refl, subst, arith}
use Rattle.must_call.specs.Values.{Typed}
use Rattle.must_call.specs.Handles.{typed_handles}
use Rattle.must_call.specs.Arguments.{seen}
use Rattle.must_rules.specs.Breaches.{AddsBreaches, asked_from}
use Rattle.must_args.specs.Settings.{has_sense, asks}
use Rattle.must_args.proofs.Added.{adds_none}
use Rattle.must_args.specs.AskingLaws.{all_there}
use Rattle.must_args.proofs.Asking.{handles_in}
use Rattle.must_args.proofs.Steps.{fields_step, count_step, count_within}
use Rattle.must_args.proofs.fields.judge_fields.Goals as goal

pub loop-argument-init : goal.loop-argument-init
loop-argument-init g c = record { number = refl; adds = adds_none c.args.at c.args.rows.now }

pub loop-argument-preserved : goal.loop-argument-preserved
loop-argument-preserved g c =
    let facts = g.V.View.facts c.args.view.now in
    let s = c.args.setting.now in
    let xs = c.args.arguments.now in
    record {
      number = count_step seen xs c.loop-argument.argument-index c.argument-item.result c.loop-argument-test.true c.argument-item.is c.loop-argument.number c.in_ok-number.number c.loop-argument.invariant.number c.in_ok-number.ensures.next;
      adds = fields_step seen xs c.loop-argument.argument-index c.argument-item.result c.loop-argument-test.true c.argument-item.is (has_sense s) (asks facts s) c.args.at c.args.rows.now c.loop-argument.rows c.judge_field.new.rows c.loop-argument.number c.loop-argument.invariant.number c.loop-argument.invariant.adds c.in_ok-number.ensures.adds;
    }

pub returns : goal.returns
returns g c =
    subst (λ (ts : List Typed). AddsBreaches c.args.at c.args.rows.now c.loop-argument.rows (asked_from (has_sense c.args.setting.now) (asks (g.V.View.facts c.args.view.now) c.args.setting.now) 0 ts))
    (all_there seen c.args.arguments.now c.loop-argument.argument-index c.loop-argument-test.false) c.loop-argument.invariant.adds

pub judge_field-requires : goal.judge_field-requires
judge_field-requires g c =
    let within : c.loop-argument.number + length (typed_handles (seen c.argument-item.result)) ≤ handles_in (map seen c.args.arguments.now) =
    count_within seen c.args.arguments.now c.loop-argument.argument-index c.argument-item.result c.loop-argument-test.true c.argument-item.is c.loop-argument.number c.loop-argument.invariant.number in
    omega (arith, within, c.requires)
