use Rattle.std.proofs.Common.{◌∙◌, ap, ◌∷◌, ◌++◌, [], Some}
use Rattle.must_type.specs.Tree.{TypeTree}
use Rattle.must_type.specs.View.{slots_of}
use Rattle.must_type.proofs.SlotLaws.{slots_more}
use Rattle.must_type.proofs.slots.push_tree.Goals as goal

pub returns-clause-ok : goal.returns-clause-ok
returns-clause-ok c = ap slots_of c.in_ok-push.ensures.items ∙ slots_more c.args.slots.now.items (Some c.in_ok-new.field-0) ∙ ap (λ (t : TypeTree). slots_of c.args.slots.now.items ++ Some t ∷ []) c.in_ok-new.ensures.ok
