use Rattle.std.proofs.Common.{◌≡◌, map, drop}
use Rattle.must_call.specs.Arguments.{seen}
use Rattle.must_rules.specs.Significant.{first_told}
use Rattle.must_rules.specs.UsableParts.{type_in}
use Rattle.must_parts.proofs.roles.type_of.Given as goal

-- no argument before says one
abbrev pub invariant-loop-argument : goal.invariant-loop-argument
invariant-loop-argument l = first_told (type_in l.side) (map seen (drop l.argument-index l.arguments)) ≡ first_told (type_in l.side) (map seen l.arguments)
