use Rattle.must_codec.proofs.Headers.{headed, headed_short, refusal_of}
use Rattle.must_codec.proofs.step.take_header.Goals as goal

pub returns-in-Ok-clause-header : goal.returns-in-Ok-clause-header
returns-in-Ok-clause-header g c = λ rest is.
    headed c.args.expect rest c.take_front.new.window _ c.judge_front.result (rw c.in-Ok.is at (c.take_front.ensures.front rest is)) c.judge_front.ensures.says (refusal_of c.judge_front.result c.judge_front.ensures.refusal)

pub returns-in-Err-clause-header : goal.returns-in-Err-clause-header
returns-in-Err-clause-header g c = λ rest is. headed_short c.args.expect rest c.take_front.new.window _ (rw c.in-Err.is at (c.take_front.ensures.front rest is))
