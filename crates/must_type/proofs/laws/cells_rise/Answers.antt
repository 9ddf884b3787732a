use Rattle.must_type.proofs.Rising.{cells_rising}
use Rattle.must_type.proofs.laws.cells_rise.Goals as goal

pub returns : goal.returns
returns c = λ dims p. cells_rising dims p
