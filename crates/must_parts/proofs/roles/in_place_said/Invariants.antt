use Rattle.std.proofs.Common.{◌≡◌, map, drop}
use Rattle.must_call.specs.Arguments.{seen}
use Rattle.must_rules.specs.Significant.{in_place_in, first_told}
use Rattle.must_parts.proofs.roles.in_place_said.Given as goal

-- no argument before says one
abbrev pub invariant-loop-argument : goal.invariant-loop-argument
invariant-loop-argument l = first_told in_place_in (map seen (drop l.argument-index l.arguments)) ≡ first_told in_place_in (map seen l.arguments)
