use Rattle.must_drill.proofs.Lengths.{accepted_stream}
use Rattle.must_drill.proofs.laws.accepted_run.Goals as goal

pub returns : goal.returns
returns c = accepted_stream
