use Rattle.std.proofs.Common.{◌≡◌, take}
use Rattle.std.specs.Prelude.{map}
use Rattle.std.specs.List.{flat_map}
use Rattle.must_hold.specs.Told.{recorded_seen}
use Rattle.must_hold.proofs.Recording.{at_completion}
use Rattle.must_hold.proofs.completed.picked.Given as goal

abbrev pub invariant-loop-completion : goal.invariant-loop-completion
invariant-loop-completion l = map recorded_seen l.told.items ≡ flat_map (at_completion l.requests) (take l.completion-index l.completions)
