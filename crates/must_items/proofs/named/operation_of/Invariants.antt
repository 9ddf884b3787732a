use Rattle.std.proofs.Common.{◌≡◌, map, take}
use Rattle.must_call.specs.Arguments.{seen}
use Rattle.must_rules.specs.Significant.{first_told}
use Rattle.must_items.specs.CollectiveItems.{operation_in}
use Rattle.must_items.proofs.named.operation_of.Given as goal

abbrev pub invariant-loop-argument : goal.invariant-loop-argument
invariant-loop-argument l = l.operation ≡ first_told operation_in (map seen (take l.argument-index l.arguments))
