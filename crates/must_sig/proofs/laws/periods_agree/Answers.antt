use Rattle.must_sig.proofs.Periods.{repeated_agree}
use Rattle.must_sig.proofs.laws.periods_agree.Goals as goal

pub returns : goal.returns
returns c = λ m n xs ys. repeated_agree m n xs ys
