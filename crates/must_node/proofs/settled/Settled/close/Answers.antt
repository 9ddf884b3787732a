use Rattle.must_entry.specs.Entries.{messages, calls}
use Rattle.must_node.proofs.Settle.{closes}
use Rattle.must_node.proofs.settled.Settled.close.Goals as goal

pub returns : goal.returns
returns c = λ g k o w. record {
  rows = closes g c.args.self.findings c.close.new.out c.close-2.new.out k.findings (c.in_ok-close.ensures (messages g) k.channels o) (c.in_ok-close-2.ensures (calls g) k.waves w);
  facts = k.facts;
}
