use Rattle.std.specs.Prelude.{List, [], ◌∷◌, Option, Some, None}
use Rattle.std.specs.declared.rc.Rc.{Rc}
use Rattle.std.specs.declared.alloc.Global.{Global}
use Rattle.must_type.specs.declared.tree.Node.{Node}
use Rattle.must_type.specs.declared.tree.Node.TheVariants as node
use Rattle.must_type.specs.Tree.{TypeTree, Trees, Elementary, Made, none, more}

abbrev pub trees_of : List (Rc TypeTree Global) → Trees
trees_of [] = none
trees_of (t ∷ ts) = more t.value (trees_of ts)

abbrev pub tree_of : Node → TypeTree
tree_of (node.Elementary b) = Elementary b
tree_of (node.Made o c olds) = Made o c (trees_of olds.items)

abbrev pub slot_of : Option (Rc TypeTree Global) → Option TypeTree
slot_of None = None
slot_of (Some t) = Some t.value

abbrev pub slots_of : List (Option (Rc TypeTree Global)) → List (Option TypeTree)
slots_of [] = []
slots_of (t ∷ slots) = slot_of t ∷ slots_of slots
