use Rattle.must_cli.proofs.Put.{puts_some}
use Rattle.must_cli.proofs.line.put_line.Goals as goal

pub returns : goal.returns
returns g c = puts_some (g.E.Sink.shows c.args.err.now) (g.E.Sink.shows c.put.new.self) c.args.line.now c.put.result (rw c.as_bytes.ensures.value at c.put.ensures)
