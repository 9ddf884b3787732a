use Rattle.must_drill.proofs.Complete.{complete_stream}
use Rattle.must_drill.proofs.laws.complete_run.Goals as goal

pub returns : goal.returns
returns c = complete_stream
