use Rattle.std.proofs.Common.{◌∙◌}
use Rattle.std.proofs.lemmas.Result.{IfOk-weaker}
use Rattle.must_rules.specs.ArgumentRules.{for_members}
use Rattle.must_items.specs.Seen.{counts_seen}
use Rattle.must_items.proofs.Repeating.{of_type}
use Rattle.must_items.proofs.signatures.each.Goals as goal

pub returns : goal.returns
returns c = IfOk-weaker c.repeated_each.result _ _ (λ sigs is. λ t at.
    is ∙ of_type t _ (for_members c.args.members (counts_seen c.args.moved.now)) (c.in_ok-one.ensures.expansion t at)) c.repeated_each.ensures
