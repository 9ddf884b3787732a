use Rattle.must_inbox.proofs.Steps.{opens, no_orderly}
use Rattle.must_inbox.proofs.inbox.Inbox.open.Goals as goal

pub with_rule-requires : goal.with_rule-requires
with_rule-requires c = opens
