use Rattle.must_drill.proofs.Ranges.{state_more, rounds_more}
use Rattle.must_drill.proofs.stream.put_rounds.Goals as goal

pub loop-m-preserved : goal.loop-m-preserved
loop-m-preserved c =
    let a = c.args in
    let m = c.loop-m.m in
    let state = state_more a.number m c.loop-m.state c.next_state-state.result c.loop-m.invariant.state c.next_state-state.ensures in
    record {
      state = state;
      put = rounds_more a.ranks a.number a.rank m c.next_state-state.result c.round_of.result a.out.now.items c.loop-m.out.items c.put_round.new.out.items state c.round_of.ensures.exact c.loop-m.invariant.put c.in_ok-put_round.ensures;
    }
