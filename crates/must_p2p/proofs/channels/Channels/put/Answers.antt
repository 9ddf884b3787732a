use Rattle.must_p2p.proofs.Probe.{probe_stands, probe_found, probe_rows}
use Rattle.must_p2p.proofs.channels.Channels.put.Goals as goal

pub returns-in-Probe-clause-put : goal.returns-in-Probe-clause-put
returns-in-Probe-clause-put c = λ items st o. probe_stands c.args.self.now items c.args.item c.in-Probe.is st

pub returns-in-Probe-clause-found : goal.returns-in-Probe-clause-found
returns-in-Probe-clause-found c = λ items st o. probe_found items c.args.item c.in-Probe.is o

pub returns-in-Probe-clause-rows : goal.returns-in-Probe-clause-rows
returns-in-Probe-clause-rows c = λ items st o. probe_rows c.args.out.now items c.args.item c.in-Probe.is o
