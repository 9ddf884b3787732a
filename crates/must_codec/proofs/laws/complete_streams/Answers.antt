use Rattle.must_format.specs.CompleteLaws.{accepted_complete, complete_accepted}
use Rattle.must_codec.proofs.laws.complete_streams.Goals as goal

pub returns-clause-complete : goal.returns-clause-complete
returns-clause-complete c = λ e bytes calls fits accepted. accepted_complete e bytes calls fits accepted

pub returns-clause-accepted : goal.returns-clause-accepted
returns-clause-accepted c = λ e bytes calls within. complete_accepted e bytes calls within
