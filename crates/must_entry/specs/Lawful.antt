-- What batches must keep to, in whatever interleaving of ranks they come (docs/ARCHITECTURE.md, "The way of the data").
use Rattle.std.specs.Prelude.{◌≡◌, ◌<◌, ℕ, Bool, true, ◌&&◌, nat_lt, nat_le, List, [], ◌∷◌, map}
use Rattle.std.specs.List.{AllByRecursion}
use Rattle.must_base.specs.Listing.{Has}
use Rattle.must_call.specs.declared.place.Place.{Place}
use Rattle.must_p2p.specs.Items as p2p
use Rattle.must_p2p.specs.Items.{end_of}
use Rattle.must_coll.specs.Waves as waves
use Rattle.must_entry.specs.declared.entry.Entry.{Entry}
use Rattle.must_entry.specs.declared.entry.Entry.TheVariants.{Row, Message, Wave, Need}
use Rattle.must_entry.specs.declared.range.RankRange.{RankRange}
use Rattle.must_entry.specs.declared.batch.Batch.{Batch}
use Rattle.must_entry.specs.Entries.{messages, calls, needs, entries_of}

abbrev pub in_range : RankRange → ℕ → Bool
in_range range rank = nat_le range.from rank && nat_lt rank range.to

-- an entry of a rank: the rank is the source of a send, the destination of a receive and of a probe, and a member of the
-- communicator of a collective call
abbrev pub IsOf : ℕ → Entry → Type 0
IsOf rank (Row finding) = finding.rank ≡ rank
IsOf rank (Message item) = (item.place.rank ≡ rank) × (end_of item item.side ≡ rank)
IsOf rank (Wave item) = (item.place.rank ≡ rank) × Has item.name.members rank
IsOf rank (Need place ways) = place.rank ≡ rank

-- a batch of a rank in the range
abbrev pub IsBatchOf : RankRange → Batch → Type 0
IsBatchOf range b = (in_range range b.rank ≡ true) × AllByRecursion (IsOf b.rank) b.entries

-- no batch of a rank follows one of it that is the last
abbrev pub NoneAfterLast : List Batch → Type 0
NoneAfterLast [] = Unit {0}
NoneAfterLast (b ∷ bs) = (b.last ≡ true → AllByRecursion (λ later. later.rank ≡ b.rank → ⊥) bs) × NoneAfterLast bs

-- those of one rank come in order of call, and no two of one call
abbrev pub Rise : List Place → Type 0
Rise [] = Unit {0}
Rise (p ∷ ps) = AllByRecursion (λ q. p.rank ≡ q.rank → p.call < q.call) ps × Rise ps

-- what a node of this range may be given
pub record IsLawful (range : RankRange) (batches : List Batch) : Type 0 where
  pub each : AllByRecursion (IsBatchOf range) batches
  pub lasts : NoneAfterLast batches
  pub messages : p2p.Orderly (messages (entries_of batches))
  pub numbered : waves.Orderly (calls (entries_of batches))
  pub calls : Rise (map (λ x. x.place) (calls (entries_of batches)))
  pub needs : Rise (map (λ n. n.place) (needs (entries_of batches)))
