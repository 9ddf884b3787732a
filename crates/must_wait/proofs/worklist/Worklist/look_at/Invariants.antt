use Rattle.std.proofs.Common.{ℕ, ◌<◌, length, get_or}
use Rattle.must_wait.specs.declared.worklist.Watch.{Watch}
use Rattle.must_wait.specs.Needs.{needs_of}
use Rattle.must_wait.specs.Watching.{state_of, slot, taken, ways_in, Steps, IsSettled}
use Rattle.must_wait.specs.Shared.{coded}
use Rattle.must_wait.proofs.worklist.Worklist.look_at.Given as goal

abbrev pub invariant-loop-way : goal.invariant-loop-way
invariant-loop-way l = record {
  steps : Steps (coded l.rows) (taken (state_of l.fn.self) (slot (state_of l.fn.self) l.place.rank l.place.call)) (state_of l.self);
  own : (way : ℕ) → way < l.way → IsSettled (coded l.rows) (state_of l.self) l.place.rank l.place.call way;
}

abbrev pub invariant-loop-watch : goal.invariant-loop-watch
invariant-loop-watch l = record {
  steps : Steps (coded l.rows) (taken (state_of l.fn.self) (slot (state_of l.fn.self) l.fn.place.rank l.fn.place.call)) (state_of l.self);
  own : (way : ℕ) → way < length (ways_in (needs_of (coded l.rows) l.fn.place.rank l.fn.place.call)) → IsSettled (coded l.rows) (state_of l.self) l.fn.place.rank l.fn.place.call way;
  woken : (k : ℕ) (d : Watch) → k < l.watch-index → IsSettled (coded l.rows) (state_of l.self) (get_or l.watch-items k d).rank (get_or l.watch-items k d).call (get_or l.watch-items k d).way;
}
