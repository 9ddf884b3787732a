-- What the collective calls of a run give to their waves (docs/WAVES.md, "What a call gives").
use Rattle.std.specs.Prelude.{◌≡◌, ℕ, suc, List, [], ◌∷◌, take}
use Rattle.must_coll.specs.declared.item.WaveItem.{WaveItem}
use Rattle.must_rules.specs.Run.{Run, Recorded, size_of}
use Rattle.must_rules.specs.RunRows.{rank_in}
use Rattle.must_items.specs.CollectiveLists.{AreParted, AreItemsOf}

-- the items of these ranks of a run of `size`, rank by rank; the first of them has this number
abbrev pub AreItemsFrom : (size rank : ℕ) → List Recorded → List WaveItem → Type 0
AreItemsFrom size rank [] items = items ≡ []
AreItemsFrom size rank (recorded ∷ ranks) items = AreParted (AreItemsOf (rank_in size rank recorded) recorded.calls) (AreItemsFrom size (suc rank) ranks) items

-- the items of the ranks below this one
abbrev pub AreItemsBelow : Run → (rank : ℕ) → List WaveItem → Type 0
AreItemsBelow run rank items = AreItemsFrom (size_of run) 0 (take rank run.ranks) items

-- the items of a run
abbrev pub AreRunItems : Run → List WaveItem → Type 0
AreRunItems run items = AreItemsFrom (size_of run) 0 run.ranks items
