use Rattle.must_node.proofs.Settle.{knows_none}
use Rattle.must_node.proofs.settled.Settled.new.Goals as goal

pub returns : goal.returns
returns c = knows_none (record { channels = c.in_ok-new.field-0; waves = c.in_ok-new-2.field-0; findings = c.new-3.result; facts = c.new-4.result }) c.in_ok-new.ensures.empty c.in_ok-new-2.ensures c.new-3.ensures c.new-4.ensures
