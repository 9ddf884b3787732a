use Rattle.must_p2p.specs.PlaceLaws.{send_one, receive_one}
use Rattle.must_p2p.proofs.laws.one_partner.Goals as goal

pub returns-clause-receive : goal.returns-clause-receive
returns-clause-receive c = receive_one

pub returns-clause-send : goal.returns-clause-send
returns-clause-send c = send_one
