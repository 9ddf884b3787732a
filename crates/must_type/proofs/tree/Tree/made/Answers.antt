use Rattle.std.proofs.Common.{◌∙◌, ap, sym, subst}
use Rattle.must_type.specs.Tree.{call_of}
use Rattle.must_type.specs.View.{tree_of}
use Rattle.must_type.specs.Making.{IsWellMade}
use Rattle.must_type.proofs.Olds.{made_by}
use Rattle.must_type.proofs.tree.Tree.made.Goals as goal

pub returns-in-Made-clause-made : goal.returns-in-Made-clause-made
returns-in-Made-clause-made c = made_by c.args.self.now c.in-Made.call (subst IsWellMade c.self.view_is c.self.invariant.1.made) (ap (λ n. call_of (tree_of n)) (sym c.in-Made.is) ∙ ap call_of c.self.view_is)
