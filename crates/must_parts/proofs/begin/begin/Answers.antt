use Rattle.must_parts.proofs.Clashing.{begun_one}
use Rattle.must_parts.proofs.begin.begin.Goals as goal

pub returns : goal.returns
returns c = λ ops p held is. begun_one c.args.pending.now _ ops c.args.part p c.args.call c.args.request held is c.in_ok-start.ensures.ok
