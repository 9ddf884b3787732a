use Rattle.std.proofs.Common.{take}
use Rattle.must_rules.specs.Making.{picked}
use Rattle.must_handle.specs.Changes.{Changes, complete_requests}
use Rattle.must_handle.proofs.ending.complete_picked.Given as goal

abbrev pub invariant-loop-completion : goal.invariant-loop-completion
invariant-loop-completion l = Changes (complete_requests (picked l.requests (take l.completion-index l.completions)) l.k) l.initial.slots l.slots
