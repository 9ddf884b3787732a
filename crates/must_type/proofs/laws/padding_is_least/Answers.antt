use Rattle.must_type.proofs.Rising.{padding_least}
use Rattle.must_type.proofs.laws.padding_is_least.Goals as goal

pub returns : goal.returns
returns c = λ length a h. padding_least length a h
