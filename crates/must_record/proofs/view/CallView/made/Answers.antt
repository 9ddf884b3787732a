use Rattle.must_format.specs.Decoding.{requests_at}
use Rattle.must_record.proofs.Decoded.{made_is}
use Rattle.must_record.proofs.view.CallView.made.Goals as goal

pub returns : goal.returns
returns c = rw (made_is, ← c.args.self.now.behind) (rw (← c.output_of.ensures) (c.made_at.ensures (requests_at c.args.self.now.kind c.args.self.now.payload.now)))
