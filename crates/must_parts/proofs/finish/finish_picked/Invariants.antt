use Rattle.std.proofs.Common.{◌≡◌, take}
use Rattle.must_rules.specs.Making.{picked}
use Rattle.must_parts.specs.Ending.{left}
use Rattle.must_parts.proofs.finish.finish_picked.Given as goal

abbrev pub invariant-loop-completion : goal.invariant-loop-completion
invariant-loop-completion l = l.pending ≡ left (picked l.requests (take l.completion-index l.completions)) l.initial.pending
