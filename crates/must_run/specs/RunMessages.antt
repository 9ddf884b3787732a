-- What the ranks of a run give to the matching of messages and to the replay (docs/MESSAGES.md).
use Rattle.std.specs.Prelude.{◌≡◌, ℕ, suc, List, [], ◌∷◌, ◌++◌, map, take}
use Rattle.must_p2p.specs.declared.item.MsgItem.{MsgItem}
use Rattle.must_entry.specs.Entries.{Waits}
use Rattle.must_rules.specs.Run.{Run, Recorded, size_of}
use Rattle.must_rules.specs.RunRows.{rank_in}
use Rattle.must_messages.specs.MessageItems.{Item, item_seen, items_of}
use Rattle.must_messages.specs.CallNeeds.{needs_of}

-- ---- messages

-- the message items of these ranks of a run of `size`, rank by rank; the first of them has this number
abbrev pub items_from : (size rank : ℕ) → List Recorded → List Item
items_from size rank [] = []
items_from size rank (recorded ∷ ranks) = items_of (rank_in size rank recorded) recorded.calls ++ items_from size (suc rank) ranks

-- these are the message items of the ranks below this one, whatever form their signatures have
abbrev pub AreMessagesBelow : Run → (rank : ℕ) → List MsgItem → Type 0
AreMessagesBelow run rank items = map item_seen items ≡ items_from (size_of run) 0 (take rank run.ranks)

-- these are the message items of a run
abbrev pub AreRunMessages : Run → List MsgItem → Type 0
AreRunMessages run items = map item_seen items ≡ items_from (size_of run) 0 run.ranks

-- ---- needs

-- what the calls of these ranks wait for, rank by rank
abbrev pub needs_from : (size rank : ℕ) → List Recorded → List Waits
needs_from size rank [] = []
needs_from size rank (recorded ∷ ranks) = needs_of (rank_in size rank recorded) recorded.calls ++ needs_from size (suc rank) ranks

abbrev pub needs_below : Run → (rank : ℕ) → List Waits
needs_below run rank = needs_from (size_of run) 0 (take rank run.ranks)

-- what the calls of a run wait for
abbrev pub needs_in : Run → List Waits
needs_in run = needs_from (size_of run) 0 run.ranks
