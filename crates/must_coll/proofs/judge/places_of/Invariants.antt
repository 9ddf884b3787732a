use Rattle.std.proofs.Common.{◌≡◌, ◌++◌, map, drop}
use Rattle.must_coll.proofs.judge.places_of.Given as goal

-- the places so far, and those of the other calls, are those of all
abbrev pub invariant-loop-call : goal.invariant-loop-call
invariant-loop-call l = l.places.items ++ map (λ x. x.place) (drop l.call-index l.calls) ≡ map (λ x. x.place) l.calls
