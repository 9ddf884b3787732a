use Rattle.std.proofs.Common.{ap, ◌∙◌, cond}
use Rattle.must_format.specs.Decoding.{call_at}
use Rattle.must_format.specs.Stream.{is_made}
use Rattle.must_codec.proofs.Places.{place_more}
use Rattle.must_codec.proofs.arrival.place_behind.Goals as goal

pub returns-clause-place : goal.returns-clause-place
returns-clause-place c = λ given place.
    let view = c.args.view.now in
    rw c.stuck_behind.ensures
    (place_more c.args.place given (call_at view.kind view.returned view.payload.now) c.length_of.result c.handles_made.result c.length_of.ensures.record (c.handles_made.ensures ∙ ap (λ made. cond (is_made made) 1 0) c.made.ensures) place)
