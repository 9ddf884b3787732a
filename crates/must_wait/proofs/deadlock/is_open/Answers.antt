use Rattle.std.proofs.Common.{sym, arith}
use Rattle.must_call.specs.declared.place.Place.{Place}
use Rattle.must_wait.specs.Replay.{reached, passed}
use Rattle.must_wait.proofs.Watched.{all_at}
use Rattle.must_wait.proofs.deadlock.is_open.Goals as goal

pub returns : goal.returns
returns c = sym (all_at (λ (p : Place). reached c.args.rows.now.needs (passed c.args.rows.now.needs) p.rank p.call) c.args.places.now (λ k d h. c.loop-place.invariant k d (omega (arith, h, c.loop-place-test.false))))
