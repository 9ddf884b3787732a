use Rattle.std.specs.Prelude.{◌+◌, ◌≤◌, max, List, [], ◌∷◌}
use Rattle.std.proofs.Common.{arith}
use Rattle.std.specs.declared.rc.Rc.{Rc}
use Rattle.std.specs.declared.alloc.Global.{Global}
use denote.Param.Weighed.{most}
use Rattle.must_type.specs.declared.tree.Node.{Node}
use Rattle.must_type.specs.declared.tree.Node.TheVariants as node
use Rattle.must_type.specs.declared.tree.Tree.TheDeep.{deep-Node}
use Rattle.must_type.specs.Tree.{TypeTree, height, greatest_height}
use Rattle.must_type.specs.View.{trees_of, tree_of}

most_greatest_height : (olds : List (Rc TypeTree Global)) → most (λ r. height r.value + 1) olds ≤ greatest_height (trees_of olds) + 1
most_greatest_height [] = omega arith
most_greatest_height (t ∷ ts) = omega (arith, most_greatest_height ts)

pub falls : (n : Node) → max (deep-Node n) 0 ≤ height (tree_of n)
falls (node.Elementary b) = omega arith
falls (node.Made o c olds) = omega (arith, most_greatest_height olds.items)
