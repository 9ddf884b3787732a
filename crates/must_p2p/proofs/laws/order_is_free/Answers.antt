use Rattle.must_p2p.specs.SetLaws.{match_alike_both, message_row_alike_both}
use Rattle.must_p2p.proofs.laws.order_is_free.Goals as goal

pub returns-clause-matches : goal.returns-clause-matches
returns-clause-matches c = match_alike_both

pub returns-clause-rows : goal.returns-clause-rows
returns-clause-rows c = message_row_alike_both
