-- Names of communicators, and their order.
use Rattle.std.specs.Prelude.{ℕ, ℤ, List, ◌∷◌, [], ◌++◌}
use Rattle.std.specs.Cmp.Lexicographic.{slice_cmp}
use Rattle.std.specs.Ordering.{nat_cmp, int_cmp, ordering_then}
use Rattle.std.specs.declared.cmp.Ordering.{Ordering}
use Rattle.must_group.specs.declared.name.Step.{Step}

-- the root, the way from it, and the world ranks of the members as they were recorded
pub record Name : Type 0 where
  pub root : ℕ
  pub path : List Step
  pub members : List ℕ

-- the name of a communicator that a collective of the named one made
abbrev pub child_name : Name → ℕ → ℤ → List ℕ → Name
child_name parent number class members = record { root = parent.root; path = parent.path ++ (record { number = number; class = class }) ∷ []; members = members }

-- by number, then class
abbrev pub step_cmp : Step → Step → Ordering
step_cmp step other = ordering_then (nat_cmp step.number other.number) (int_cmp step.class other.class)

-- by root, then path, then members: of two lists the first difference decides, and a proper prefix comes first
abbrev pub name_cmp : Name → Name → Ordering
name_cmp name other = ordering_then (nat_cmp name.root other.root) (ordering_then (slice_cmp step_cmp name.path other.path) (slice_cmp nat_cmp name.members other.members))
