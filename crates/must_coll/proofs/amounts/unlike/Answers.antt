use Rattle.must_sig.specs.Signatures.{expansion}
use Rattle.must_coll.proofs.Amounting.{small_difference}
use Rattle.must_coll.proofs.amounts.unlike.Goals as goal

pub returns-clause-small : goal.returns-clause-small
returns-clause-small c = small_difference c.counted_difference.result (expansion c.args.a.now) (expansion c.args.b.now) c.counted_difference.ensures c.len.ensures.small
