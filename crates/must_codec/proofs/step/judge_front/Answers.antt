use Rattle.std.proofs.Common.{ap, length, length-drop, arith}
use Rattle.must_format.specs.HeaderLaws.{header_long}
use Rattle.must_codec.proofs.Headers.{ready_at}
use Rattle.must_codec.proofs.step.judge_front.Goals as goal

pub skip-requires : goal.skip-requires
skip-requires c = rw c.bytes.ensures at (header_long c.args.expect c.bytes.result.now c.in-Ok.ensures.exact.0)

pub returns-in-Ok-clause-ready : goal.returns-in-Ok-clause-ready
returns-in-Ok-clause-ready c =
    ready_at c.args.expect c.bytes.result.now c.skip.new.self c.in-Ok.header c.requires.expect c.in-Ok.ensures.exact.0 c.in-Ok.ensures.exact.1 (omega (arith, ap length c.skip.ensures, length-drop 17 c.args.window.now, c.requires.few))
