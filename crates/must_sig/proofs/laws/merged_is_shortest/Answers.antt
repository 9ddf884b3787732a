use Rattle.must_sig.proofs.Merged.{shortest}
use Rattle.must_sig.proofs.laws.merged_is_shortest.Goals as goal

pub returns : goal.returns
returns c = shortest
