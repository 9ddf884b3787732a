-- What the table of a rank's types says of the types that its handles stand for.
use Rattle.std.specs.Prelude.{◌≡◌, ℕ, Option, Some, is_some}
use Rattle.must_type.specs.declared.construct.TypeNo.{TypeNo}
use Rattle.must_type.specs.Tree.{TypeTree, type_map}
use Rattle.must_type.specs.Table.{tree_at}
use Rattle.must_derived.specs.declared.datatypes.Datatypes.{Datatypes}
use Rattle.must_derived.specs.Numbers.{number_of}

pub record HasMap (t : Option TypeTree) (held : TypeTree) : Type 0 where
  pub tree : TypeTree
  pub is : t ≡ Some tree
  pub map_is : type_map held ≡ type_map tree

-- it tells which handles stand for types, and a type that it still holds has the map of the handle's
pub record HasTypes (held : Datatypes) (types : ℕ → Option TypeTree) : Type 0 where
  pub sound : (h : ℕ) → is_some (number_of held.numbers h) ≡ is_some (types h)
  pub maps : (h : ℕ) (n : TypeNo) (t : TypeTree) → number_of held.numbers h ≡ Some n → tree_at held.table.slots n.number ≡ Some t → HasMap (types h) t
