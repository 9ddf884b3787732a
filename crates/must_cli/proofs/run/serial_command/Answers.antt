use Rattle.std.proofs.Common.{map, refl, sym}
use Rattle.must_words.specs.Asked.{check_asked}
use Rattle.must_cli.specs.Promises.{world}
use Rattle.must_cli.proofs.Promised.{promises_of_check, promises_of_dump, promises_of_memory}
use Rattle.must_cli.proofs.run.serial_command.Goals as goal

pub returns-in-Ok-Some-Check : goal.returns-in-Ok-Some-Check
returns-in-Ok-Some-Check g c = record {
  promises = promises_of_check c.args.words.now (check_asked c.in-Ok-Some-Check.words) (g.T.Trace.files c.args.trace.now)
      (world (g.T.Trace.names c.args.trace.now) (map g.T.Src.Source.shows (g.T.Trace.bound c.args.trace.now)) (g.O.Sink.shows c.args.out.now) (g.E.Sink.shows c.args.err.now))
      (world (g.T.Trace.names c.check.new.trace) (map g.T.Src.Source.shows (g.T.Trace.bound c.check.new.trace)) (g.O.Sink.shows c.check.new.out) (g.E.Sink.shows c.check.new.err))
      c.check.result (sym (rw (c.in-Ok-Some-Check.field-0-is, c.in-Ok-Some-Check.field-0-0-is) at c.in-Ok-Some-Check.ensures.command)) c.check.ensures.answers c.check.ensures.names c.check.ensures.tied;
}

pub returns-in-Ok-Some-Dump : goal.returns-in-Ok-Some-Dump
returns-in-Ok-Some-Dump g c = record {
  promises = promises_of_dump c.args.words.now c.in-Ok-Some-Dump.file.now (g.T.Trace.files c.args.trace.now)
      (world (g.T.Trace.names c.args.trace.now) (map g.T.Src.Source.shows (g.T.Trace.bound c.args.trace.now)) (g.O.Sink.shows c.args.out.now) (g.E.Sink.shows c.args.err.now))
      (world (g.T.Trace.names c.dump.new.trace) (map g.T.Src.Source.shows (g.T.Trace.bound c.dump.new.trace)) (g.O.Sink.shows c.dump.new.out) (g.E.Sink.shows c.dump.new.err))
      c.dump.result (sym (rw (c.in-Ok-Some-Dump.field-0-is, c.in-Ok-Some-Dump.field-0-0-is) at c.in-Ok-Some-Dump.ensures.command)) c.dump.ensures.answers c.dump.ensures.memory c.dump.ensures.refused c.dump.ensures.names c.dump.ensures.tied;
}

pub returns-in-Err : goal.returns-in-Err
returns-in-Err g c = record {
  promises = promises_of_memory c.args.words.now (g.T.Trace.files c.args.trace.now)
      (world (g.T.Trace.names c.args.trace.now) (map g.T.Src.Source.shows (g.T.Trace.bound c.args.trace.now)) (g.O.Sink.shows c.args.out.now) (g.E.Sink.shows c.args.err.now))
      (world (g.T.Trace.names c.args.trace.now) (map g.T.Src.Source.shows (g.T.Trace.bound c.args.trace.now)) (g.O.Sink.shows c.args.out.now) (g.E.Sink.shows c.put_memory.new.err))
      c.in-Err.ensures.memory (record { nothing = refl; line = c.put_memory.ensures });
}
