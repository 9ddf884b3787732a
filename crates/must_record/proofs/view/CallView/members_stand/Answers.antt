use Rattle.must_format.specs.Decoding.{requests_at}
use Rattle.must_record.proofs.Decoded.{comm_is}
use Rattle.must_record.proofs.view.CallView.members_stand.Goals as goal

pub returns : goal.returns
returns c = rw (comm_is, ← c.args.self.now.behind) (rw (← c.output_of.ensures) (c.members_at.ensures (requests_at c.args.self.now.kind c.args.self.now.payload.now)))
