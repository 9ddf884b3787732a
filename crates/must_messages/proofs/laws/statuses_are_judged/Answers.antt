use Rattle.must_messages.specs.StatusLaws.{judged_by, breaks_now}
use Rattle.must_messages.proofs.laws.statuses_are_judged.Goals as goal

pub returns-clause-completion : goal.returns-clause-completion
returns-clause-completion c = judged_by

pub returns-clause-broken : goal.returns-clause-broken
returns-clause-broken c = breaks_now
