use Rattle.std.proofs.Common.{◌∙◌, ap}
use Rattle.must_type.specs.declared.bounds.Bounds.{Bounds}
use Rattle.must_type.specs.declared.facts.Facts.{Facts}
use Rattle.must_type.specs.Tree.{TypeTree, type_map}
use Rattle.must_type.specs.Facts.{bounds_of, facts_of}
use Rattle.must_type.proofs.tree.Tree.bounds.Goals as goal

pub returns-clause-value : goal.returns-clause-value
unfolding facts_of
returns-clause-value c = ap (λ (f : Facts). f.bounds) c.self.invariant.0 ∙ ap (λ (t : TypeTree). bounds_of (type_map t)) c.self.view_is

pub returns-clause-size : goal.returns-clause-size
unfolding bounds_of
returns-clause-size c = ap (λ (b : Bounds). b.size) (returns-clause-value c)

pub returns-clause-extent : goal.returns-clause-extent
unfolding bounds_of
returns-clause-extent c = ap (λ (b : Bounds). b.extent) (returns-clause-value c)
