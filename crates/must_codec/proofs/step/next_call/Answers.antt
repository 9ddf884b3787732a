use Rattle.std.proofs.Common.{sym, ap, subst, length, ◌∙◌, arith}
use Rattle.std.proofs.lemmas.Bool.{eqb-true}
use Rattle.must_format.specs.Decoding.{call_at}
use Rattle.must_codec.specs.Reader.{IsPlace}
use Rattle.must_codec.proofs.Steps.{mid_more, mid_left, said_now, stepped, stop_answers, refusal_is, err_same, call_answers, memory_answers}
use Rattle.must_codec.proofs.step.next_call.Goals as goal

pub returns-in-Stop-clause-step : goal.returns-in-Stop-clause-step
returns-in-Stop-clause-step g c = λ given rest is at.
    let l = c.loop-fault in
    let place = subst (λ p. IsPlace p given) (sym l.invariant.place) at in
    let m = l.invariant.mid rest is in
    stepped c.args.header l.place l.place given c.args.window.now l.window l.window rest _ l.ended _ place l.invariant.ready m
    (stop_answers c.args.header given l.window m.others l.window l.place c.in-Stop.fault l.ended (rw c.in-Stop.is at c.arrival_at.ensures.within) m.end (rw (c.in-Stop.is, c.bytes.ensures) at (c.arrival_at.ensures.exact given place)))

pub returns-in-Stop-clause-read : goal.returns-in-Stop-clause-read
returns-in-Stop-clause-read g c = λ e. absurd (refusal_is c.in-Stop.fault (rw c.in-Stop.is at c.arrival_at.ensures.within) (err_same _ _ e))

pub returns-in-Done-clause-step : goal.returns-in-Done-clause-step
returns-in-Done-clause-step g c = λ given rest is at.
    let l = c.loop-fault in
    let place = subst (λ p. IsPlace p given) (sym l.invariant.place) at in
    let m = l.invariant.mid rest is in
    stepped c.args.header l.place l.place given c.args.window.now l.window l.window rest _ l.ended _ place l.invariant.ready m
    (m.end (rw c.in-Done.is at c.arrival_at.ensures.within), said_now c.args.header given l.window _ l.ended (rw (c.in-Done.is, c.bytes.ensures) at (c.arrival_at.ensures.exact given place)))

pub returns-in-Ok-clause-step : goal.returns-in-Ok-clause-step
returns-in-Ok-clause-step g c = λ given rest is at.
    let l = c.loop-fault in
    let place = subst (λ p. IsPlace p given) (sym l.invariant.place) at in
    let m = l.invariant.mid rest is in
    let view = c.in-Next.view in
    let within = rw (c.in-Next.is, c.bytes.ensures) at c.arrival_at.ensures.within in
    stepped c.args.header l.place c.place_behind-behind.result given c.args.window.now l.window c.skip.new.self rest _ l.ended _ place l.invariant.ready m
    (call_answers c.args.header given l.window m.others c.skip.new.self view.payload.now l.place c.place_behind-behind.result c.in-Ok.call (call_at view.kind view.returned view.payload.now) l.ended
    c.in-Ok.ensures.exact c.in-Ok.ensures.text within.0 c.skip.ensures (λ p. c.place_behind-behind.ensures.place given p) place (rw (c.in-Next.is, c.bytes.ensures) at (c.arrival_at.ensures.exact given place)))

pub returns-in-Err-clause-step : goal.returns-in-Err-clause-step
returns-in-Err-clause-step g c = λ given rest is at.
    let l = c.loop-fault in
    let place = subst (λ p. IsPlace p given) (sym l.invariant.place) at in
    let m = l.invariant.mid rest is in
    let view = c.in-Next.view in
    stepped c.args.header l.place l.place given c.args.window.now l.window l.window rest _ l.ended _ place l.invariant.ready m
    (memory_answers c.args.header given l.window m.others l.window l.place (call_at view.kind view.returned view.payload.now) l.ended (rw (c.in-Next.is, c.bytes.ensures) at (c.arrival_at.ensures.exact given place)))

pub returns-in-Err-fill-clause-step : goal.returns-in-Err-fill-clause-step
returns-in-Err-fill-clause-step g c = λ given rest is at.
    let l = c.loop-fault in
    let place = subst (λ p. IsPlace p given) (sym l.invariant.place) at in
    let m = l.invariant.mid rest is in
    let f = c.in-Err-fill.ensures.bytes m.others m.left_is in
    stepped c.args.header l.place l.place given c.args.window.now l.window c.fill.new.self rest _ l.ended _ place l.invariant.ready (mid_left m f.1) (rw (c.in-Short.is, c.bytes.ensures) at (c.arrival_at.ensures.exact given place))

pub loop-fault-preserved : goal.loop-fault-preserved
loop-fault-preserved g c =
    let l = c.loop-fault in
    let e = c.in-Ok-fill.ensures in
    let r = l.invariant.ready in
    record {
      mid = λ rest is. mid_more c.args.window.now l.window c.fill.new.self rest _ _ l.ended _ c.in-Ok-fill.count (l.invariant.mid rest is) (λ others left. e.bytes others left) (λ none. eqb-true _ _ none);
      ready = record { size = r.size; rank = r.rank; at = r.at; taken = omega (arith, e.most.0, e.most.1, c.from.ensures, c.byte_limit_of.ensures, c.bytes-in-loop-fault.ensures, ap length c.bytes-in-loop-fault.ensures, r.taken); number = r.number; next = r.next };
      place = l.invariant.place;
      kept = e.cause.kept ∙ l.invariant.kept;
    }
