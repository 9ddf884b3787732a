use Rattle.std.proofs.Common.{sym, subst}
use Rattle.must_sig.specs.Signatures.{expansion}
use Rattle.must_p2p.specs.FitLaws.{IsShort, is_short}
use Rattle.must_p2p.proofs.judge.fit_on.Goals as goal

pub returns-clause-short : goal.returns-clause-short
returns-clause-short g c = subst IsShort (sym c.compare.ensures.value) (is_short (expansion c.args.sent.now) (expansion c.args.received.now) c.len.ensures.small)
