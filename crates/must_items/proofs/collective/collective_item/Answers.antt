use Rattle.std.specs.Prelude.{FitsSigned, pos, unwrap_or}
use Rattle.std.proofs.Common.{rules, ap, ◌∙◌, map}
use Rattle.std.proofs.lemmas.Int.{to_z-of_z}
use mir.Syntax.{w32}
use Rattle.must_call.specs.declared.field.Side.TheVariants as side
use Rattle.must_call.specs.Bodies.{inputs_of}
use Rattle.must_call.specs.Arguments.{all_seen}
use Rattle.must_sig.specs.Signatures.{expansion}
use Rattle.must_rules.specs.Significant.{first_told}
use Rattle.must_items.specs.CollectiveItems.{operation_in, oper_by}
use Rattle.must_items.proofs.Settled.{duties_are, moved_is, oper_is}
use Rattle.must_items.proofs.collective.collective_item.Goals as goal

pub returns-clause-tells : goal.returns-clause-tells
returns-clause-tells g c = λ trees commutes has is_commute.
    let facts = g.V.View.facts c.args.view.now in
    let b = c.args.call.now.body in
    let s = c.setting_of-setting.result in
    let is = c.setting_of-setting.ensures in
    let args = c.inputs-arguments.ensures in
    let duties = duties_are facts trees b s (all_seen c.deref-2.result.now) c.args.clear c.has_duties-counts.result is (ap all_seen c.deref-2.ensures.0 ∙ args) c.requires.clear (c.has_duties-counts.ensures trees has) in
    let fits : FitsSigned w32 c.unwrap_or.result = search rules in
    record {
      kind_is = is.kind_is;
      counts_is = duties;
      in_place_is = is.in_place_is;
      root_is = to_z-of_z w32 c.unwrap_or.result fits ∙ c.unwrap_or.ensures ∙ ap (λ o. unwrap_or o (pos 0)) is.root_is;
      operation_is = c.oper_of.ensures ∙ ap (oper_by (λ _. c.args.commute)) (c.operation_of.ensures ∙ ap (first_told operation_in) (ap all_seen c.deref-5.ensures.0 ∙ args)) ∙ oper_is c.args.commute commutes (first_told operation_in (inputs_of b)) is_commute;
      sends_are = ap (map expansion) c.sends.view_is ∙ c.in_ok-sends.ensures trees has ∙ moved_is facts trees b s (all_seen c.deref-3.result.now) side.Send c.has_duties-counts.result is (ap all_seen c.deref-3.ensures.0 ∙ args) duties;
      recvs_are = ap (map expansion) c.recvs.view_is ∙ c.in_ok-recvs.ensures trees has ∙ moved_is facts trees b s (all_seen c.deref-4.result.now) side.Receive c.has_duties-counts.result is (ap all_seen c.deref-4.ensures.0 ∙ args) duties;
      split_is = c.split_of.ensures;
      group_is = c.in_ok-group_of.ensures;
      members_are = c.in_ok-members_of.ensures;
    }
