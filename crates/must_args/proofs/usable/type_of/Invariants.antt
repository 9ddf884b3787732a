use Rattle.std.proofs.Common.{◌≡◌, map, take}
use Rattle.must_call.specs.Arguments.{seen}
use Rattle.must_rules.specs.Significant.{first_told}
use Rattle.must_rules.specs.UsableParts.{type_in}
use Rattle.must_args.proofs.usable.type_of.Given as goal

abbrev pub invariant-loop-argument : goal.invariant-loop-argument
invariant-loop-argument l = l.dtype ≡ first_told (type_in l.side) (map seen (take l.argument-index l.arguments))
