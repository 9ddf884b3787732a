use Rattle.std.proofs.Common.{◌≡◌, take}
use Rattle.must_rules.specs.Making.{picked}
use Rattle.must_hold.proofs.completed.requests_picked.Given as goal

abbrev pub invariant-loop-completion : goal.invariant-loop-completion
invariant-loop-completion l = l.named.items ≡ picked l.requests (take l.completion-index l.completions)
