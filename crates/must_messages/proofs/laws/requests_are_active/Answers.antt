use Rattle.must_messages.specs.ActiveLaws.{open_is_active}
use Rattle.must_messages.proofs.laws.requests_are_active.Goals as goal

pub returns : goal.returns
returns c = open_is_active
