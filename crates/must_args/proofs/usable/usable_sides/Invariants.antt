use Rattle.std.proofs.Common.{◌≡◌, map, take}
use Rattle.must_call.specs.Arguments.{seen}
use Rattle.must_args.specs.Settings.{usable_from}
use Rattle.must_args.proofs.usable.usable_sides.Given as goal

abbrev pub invariant-loop-argument : goal.invariant-loop-argument
invariant-loop-argument g l = record {
  first : l.first ≡ usable_from (g.V.View.sound l.view) l.setting (map seen l.arguments) 0 (map seen (take l.argument-index l.arguments));
  second : l.second ≡ usable_from (g.V.View.sound l.view) l.setting (map seen l.arguments) 1 (map seen (take l.argument-index l.arguments));
}
