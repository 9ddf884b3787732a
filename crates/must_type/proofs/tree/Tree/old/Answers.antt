use Rattle.std.proofs.Common.{◌∙◌, ap, sym, Some}
use Rattle.std.specs.Option.{option_map}
use Rattle.must_type.specs.Tree.{TypeTree, old_at, type_map, as_old}
use Rattle.must_type.specs.View.{tree_of}
use Rattle.must_type.proofs.Rows.{old_found, old_past, old_lower}
use Rattle.must_type.proofs.Olds.{old_map, old_weight}
use Rattle.must_type.proofs.tree.Tree.old.Goals as goal

pub returns-in-Some-clause-value : goal.returns-in-Some-clause-value
returns-in-Some-clause-value c =
    ap Some c.as_ref.ensures ∙ sym (old_found c.in-Made.olds.items c.deref.result.now c.args.i c.in-Some.old.now c.deref.ensures.value c.in-Some.ensures.lookup.3.0 c.in-Some.ensures.lookup.1) ∙ ap (λ (t : TypeTree). old_at t c.args.i) (sym (ap tree_of c.in-Made.is) ∙ c.self.view_is)

pub returns-in-None-clause-value : goal.returns-in-None-clause-value
returns-in-None-clause-value c =
    sym (old_past c.in-Made.olds.items c.deref.result.now c.args.i c.deref.ensures.value c.in-None.ensures.lookup.3) ∙ ap (λ (t : TypeTree). old_at t c.args.i) (sym (ap tree_of c.in-Made.is) ∙ c.self.view_is)

pub returns-in-Some-clause-map : goal.returns-in-Some-clause-map
returns-in-Some-clause-map c = ap (option_map type_map) (returns-in-Some-clause-value c) ∙ old_map c.args.self.now c.args.i

pub returns-in-None-clause-map : goal.returns-in-None-clause-map
returns-in-None-clause-map c = ap (option_map type_map) (returns-in-None-clause-value c) ∙ old_map c.args.self.now c.args.i

pub returns-in-Some-clause-weight : goal.returns-in-Some-clause-weight
returns-in-Some-clause-weight c = ap (option_map as_old) (returns-in-Some-clause-value c) ∙ old_weight c.args.self.now c.args.i

pub returns-in-None-clause-weight : goal.returns-in-None-clause-weight
returns-in-None-clause-weight c = ap (option_map as_old) (returns-in-None-clause-value c) ∙ old_weight c.args.self.now c.args.i

pub returns-in-Some-clause-lower : goal.returns-in-Some-clause-lower
returns-in-Some-clause-lower c = λ t e. old_lower c.args.self.now t c.args.i e

pub returns-in-None-clause-lower : goal.returns-in-None-clause-lower
returns-in-None-clause-lower c = λ t e. old_lower c.args.self.now t c.args.i e
