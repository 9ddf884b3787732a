use Rattle.std.proofs.Common.{◌≡◌, map, take}
use Rattle.must_sig.specs.Signatures.{expansion, repeated}
use Rattle.must_items.specs.Moved.{elements}
use Rattle.must_items.specs.Seen.{counts_seen}
use Rattle.must_items.proofs.signatures.repeated_each.Given as goal

abbrev pub invariant-loop-i : goal.invariant-loop-i
invariant-loop-i l = map expansion l.sigs.items ≡ map (λ z. repeated (elements z) (expansion l.one)) (take l.i (counts_seen l.moved))
