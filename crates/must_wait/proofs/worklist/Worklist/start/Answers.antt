use Rattle.std.proofs.Common.{◌≡◌, ◌++◌, ◌∙◌, List, slice_index, ◌<◌, ◌≤◌, ◌+◌, ◌∷◌, [], ℕ, length, replicate, sym, arith, subst, ap, length-append}
use Rattle.must_wait.specs.Needs.{calls_of}
use Rattle.must_wait.specs.Shared.{coded}
use Rattle.must_wait.proofs.Rounds.{some_get}
use Rattle.must_wait.proofs.Watched.{start_sound, more_slots, rank_of_call}
use Rattle.must_wait.proofs.worklist.Worklist.start.Goals as goal

pub loop-rank-preserved : goal.loop-rank-preserved
loop-rank-preserved c =
    let first = c.loop-rank.first.items in
    let at = c.loop-rank.rank in
    let before = c.len.result in
    let more : c.push.new.self.items ≡ first ++ before ∷ [] = c.in_ok-push.ensures.items in
    let long : before + length (calls_of (coded c.args.rows.now) at) ≡ length c.loop-call.watches.items = omega (arith, c.len.ensures, c.loop-call.invariant, c.loop-call-test.false, c.call_count-call-end.ensures) in
    record {
      firsts = omega (arith, ap length more, length-append first (before ∷ []), c.loop-rank.invariant.firsts);
      slots = subst (λ (l : List ℕ). (rank : ℕ) → rank < at + 1 → slice_index l rank + length (calls_of (coded c.args.rows.now) rank) ≤ length c.loop-call.watches.items) (sym more)
          (more_slots (coded c.args.rows.now) first at before (length c.loop-call.watches.items) c.loop-rank.invariant.firsts long (λ rank less. omega (arith, c.len.ensures, c.loop-rank.invariant.slots rank less)));
    }

pub returns-clause-ready : goal.returns-clause-ready
returns-clause-ready c =
    record {
      sound = start_sound (coded c.args.rows.now) c.in_ok-done.done.items (c.in_ok-done.ensures.items_if_clones_equal (λ y e. e) ∙ ap (λ n. replicate n 0) c.rank_count.ensures.count);
      firsts = omega (arith, c.loop-rank.invariant.firsts, c.rank_count-rank-end.ensures.count);
      slots = λ rank call e. omega (arith, c.loop-rank.invariant.slots rank (omega (arith, rank_of_call (coded c.args.rows.now) rank call e, c.rank_count-rank-end.ensures.count)), some_get (calls_of (coded c.args.rows.now) rank) call e);
      few = c.requires.calls;
      calls = λ rank call h. (c.in_ok-fresh.ensures.calls rank call h).1;
    }
