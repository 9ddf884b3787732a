use Rattle.std.proofs.Common.{map}
use Rattle.must_words.specs.Asked.{check_asked}
use Rattle.must_cli.specs.Outside.{output}
use Rattle.must_cli.proofs.PartLists.{write_answers}
use Rattle.must_cli.proofs.check.check.Goals as goal

pub returns-in-Err-Write-clause-answers : goal.returns-in-Err-Write-clause-answers
returns-in-Err-Write-clause-answers g c =
    let wrong = c.in-Err-Write.field-0-is in
    write_answers (g.T.Trace.files c.args.trace.now) (check_asked c.args.words.now) (map g.T.Src.Source.shows (g.T.Trace.bound c.read_check.new.trace))
    (output (g.O.Sink.shows c.args.out.now) (g.O.Sink.shows c.put_report.new.out)) (output (g.E.Sink.shows c.args.err.now) (g.E.Sink.shows c.put_write.new.err)) c.in-Ok.analysed
    c.in-Ok.ensures.reads (c.in-Err-Write.ensures.cuts cc) c.put_write.ensures
