use Rattle.must_p2p.specs.GrowthLaws.{match_rows_push}
use Rattle.must_p2p.proofs.laws.rows_add_up.Goals as goal

pub returns : goal.returns
returns c = match_rows_push
