-- The ports of a node's children, and what each child sent.
use Rattle.std.specs.Prelude.{◌≡◌, ℕ, ◌+◌, ◌<◌, List, [], ◌∷◌, min}
use Rattle.std.specs.List.{AllByRecursion}
use Rattle.std.specs.declared.alloc.Global.{Global}
use Rattle.crossbeam_queue.specs.SegTies.{SegId}
use Rattle.must_entry.specs.declared.range.RankRange.{RankRange}
use Rattle.must_entry.specs.declared.batch.Batch.{Batch}
use Rattle.must_entry.specs.Lawful.{IsLawful}
use Rattle.must_inbox.specs.States.{PortState}

-- new ports of this inbox for the ranks of `from` up to `at`, of which each has so many ranks, but none from `to` on
abbrev pub ArePorts : SegId Global → ℕ → ℕ → ℕ → ℕ → List PortState → Type 0
ArePorts inbox width to at from [] = from ≡ at
ArePorts inbox width to at from (p ∷ ps) = (from < to) × (p.inbox ≡ inbox) × (p.sent ≡ []) × (p.range ≡ record { from = from; to = min (from + width) to }) × ArePorts inbox width to at (min (from + width) to) ps

-- a port that sent more
abbrev pub IsMoved : PortState → PortState → Type 0
IsMoved old new = (new ≡ record old { sent = new.sent }) × IsLawful new.range new.sent

abbrev pub AreMoved : List PortState → List PortState → Type 0
AreMoved [] [] = Unit {0}
AreMoved [] (q ∷ qs) = ⊥
AreMoved (p ∷ ps) [] = ⊥
AreMoved (p ∷ ps) (q ∷ qs) = IsMoved p q × AreMoved ps qs

abbrev pub range_of_port : PortState → RankRange
range_of_port p = p.range

-- what the taker keeps of a port once it is joined
abbrev pub closing_of : PortState → ℕ × List Batch
closing_of p = (p.number, p.sent)

-- the ports' numbers go up from this one
abbrev pub ArePlaced : ℕ → List PortState → Type 0
ArePlaced k [] = Unit {0}
ArePlaced k (p ∷ ps) = (p.number ≡ k) × ArePlaced (k + 1) ps

abbrev pub AreOfInbox : SegId Global → List PortState → Type 0
AreOfInbox inbox ports = AllByRecursion (λ p. p.inbox ≡ inbox) ports
