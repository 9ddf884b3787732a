use Rattle.std.proofs.Common.{◌≡◌, take, map, ◌++◌, Some}
use Rattle.must_type.specs.Tree.{Elementary}
use Rattle.must_type.specs.View.{slots_of}
use Rattle.must_type.proofs.slots.push_basics.Given as goal

abbrev pub invariant-loop-basic : goal.invariant-loop-basic
invariant-loop-basic l = slots_of l.slots.items ≡ slots_of l.fn.slots.items ++ map (λ b. Some (Elementary b)) (take l.basic-index l.basics)
