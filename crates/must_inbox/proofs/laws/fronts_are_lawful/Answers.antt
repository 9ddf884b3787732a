use Rattle.must_inbox.specs.RankLaws.{lawful_front}
use Rattle.must_inbox.proofs.laws.fronts_are_lawful.Goals as goal

pub returns : goal.returns
returns c = lawful_front
