use Rattle.must_node.specs.MemberLaws.{wave_told}
use Rattle.must_node.proofs.laws.waves_are_told.Goals as goal

pub returns : goal.returns
returns c = wave_told
