use Rattle.must_messages.specs.FateLaws.{fate_first, fate_more}
use Rattle.must_messages.proofs.laws.fates_go_on.Goals as goal

pub returns-clause-first : goal.returns-clause-first
returns-clause-first c = fate_first

pub returns-clause-next : goal.returns-clause-next
returns-clause-next c = fate_more
