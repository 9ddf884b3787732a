use Rattle.std.proofs.Common.{sym, ap, ◌∙◌}
use Rattle.std.specs.Option.{is_some}
use Rattle.must_type.specs.Table.{Types, tree_at}
use Rattle.std.proofs.lemmas.Result.{IfOk-weaker}
use Rattle.must_rules.specs.ArgumentRules.{for_members}
use Rattle.must_items.specs.Seen.{counts_seen}
use Rattle.must_items.proofs.Settled.{held_is}
use Rattle.must_items.proofs.signatures.signatures.Goals as goal

pub returns : goal.returns
returns c = IfOk-weaker c.each.result _ _ (λ sigs is. λ trees has.
    rw c.in-Some-Some.is-0 (rw c.in-Some-Some.is-1
    (held_is c.args.types.now c.table-2.result.now trees c.in-Some-Some.dtype c.in-Some.no sigs (for_members c.args.members (counts_seen c.in-Some-Some.moved)) c.table-2.ensures has (sym c.type_no.ensures ∙ c.in-Some.is)
    (ap (λ (x : Types). is_some (tree_at x.slots c.in-Some.no.number)) (c.table-2.ensures ∙ sym c.table.ensures) ∙ c.is_live.ensures.0 c.if-not-is_live.false) is))) c.each.ensures
