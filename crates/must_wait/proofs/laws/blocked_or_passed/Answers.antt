use Rattle.must_wait.proofs.BlockedRanks.{blocked_of, is_unpassed}
use Rattle.must_wait.proofs.laws.blocked_or_passed.Goals as goal

pub returns : goal.returns
returns c = λ rows rank. (λ h. (h.0, is_unpassed rows rank h.0 h.1, h.1.not_passed), λ h. blocked_of rows rank h.0 h.1 h.2)
