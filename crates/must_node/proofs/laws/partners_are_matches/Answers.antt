use Rattle.must_node.specs.PartnerLaws.{receive_told, send_told, no_receive_told, no_send_told}
use Rattle.must_node.proofs.laws.partners_are_matches.Goals as goal

pub returns-clause-receive : goal.returns-clause-receive
returns-clause-receive c = receive_told

pub returns-clause-send : goal.returns-clause-send
returns-clause-send c = send_told

pub returns-clause-no_receive : goal.returns-clause-no_receive
returns-clause-no_receive c = no_receive_told

pub returns-clause-no_send : goal.returns-clause-no_send
returns-clause-no_send c = no_send_told
