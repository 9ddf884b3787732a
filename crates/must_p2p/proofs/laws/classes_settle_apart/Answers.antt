use Rattle.must_p2p.specs.SetLaws.{rows_cut}
use Rattle.must_p2p.proofs.laws.classes_settle_apart.Goals as goal

pub returns : goal.returns
returns c = λ p items f k. rows_cut p k items f
