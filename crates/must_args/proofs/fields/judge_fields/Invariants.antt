use Rattle.std.proofs.Common.{◌≡◌, map, take}
use Rattle.must_call.specs.Arguments.{seen}
use Rattle.must_rules.specs.Breaches.{AddsBreaches, asked_from}
use Rattle.must_args.specs.Settings.{has_sense, asks}
use Rattle.must_args.proofs.Asking.{handles_in}
use Rattle.must_args.proofs.fields.judge_fields.Given as goal

abbrev pub invariant-loop-argument : goal.invariant-loop-argument
invariant-loop-argument g l = record {
  number : l.number ≡ handles_in (map seen (take l.argument-index l.arguments));
  adds : AddsBreaches l.at l.fn.rows l.rows (asked_from (has_sense l.setting) (asks (g.V.View.facts l.view) l.setting) 0 (map seen (take l.argument-index l.arguments)));
}
