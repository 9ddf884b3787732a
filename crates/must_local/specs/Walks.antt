-- What a walk keeps, and the calls and batches that it stands for.
use Rattle.std.specs.Prelude.{◌≡◌, ◌↔◌, ℕ, ◌+◌, ◌<◌, ◌^◌, ℤ, Bool, true, false, List, [], ◌∷◌, ◌++◌, map, Option, length}
use Rattle.std.specs.List.{AllByRecursion, flat_map}
use Rattle.must_call.specs.declared.call.Call.{Call}
use Rattle.must_find.specs.declared.finding.Finding.{Finding}
use Rattle.must_base.specs.Listing.{Has}
use Rattle.must_rules.specs.Rank.{Rank}
use Rattle.must_local.specs.Distinct.{AreDistinct}
use Rattle.must_rules.specs.Frames.{first_init, first_finalize, ends_returned}
use Rattle.must_rules.specs.Local.{IsHere, IsLocal}
use Rattle.must_local.specs.declared.handles.Handles.{Handles}
use Rattle.must_call.specs.Handles.{handles_of}
use Rattle.must_rules.specs.Limits.{IsWithin}
use Rattle.must_rules.specs.Numbered.{AreNumbered}
use Rattle.must_rules.specs.Communicators.{derived_of}
use Rattle.must_handle.specs.Changes.{IsNext}
use Rattle.must_parts.specs.declared.buffers.Buffers.{Buffers}
use Rattle.must_parts.specs.Standing as parts
use Rattle.must_local.specs.Objects.{HasMembers}
use Rattle.must_local.specs.HandlesKnown.{HandlesStand}
use Rattle.must_local.specs.declared.traffic.Traffic.{Traffic}
use Rattle.must_local.specs.TrafficStands.{TrafficStands}
use Rattle.must_entry.specs.declared.batch.Batch.{Batch}
use Rattle.must_entry.specs.Entries.{Waits, rows_of}
use Rattle.must_entry.specs.Entries as entries
use Rattle.must_p2p.specs.declared.item.MsgItem.{MsgItem}
use Rattle.must_coll.specs.declared.item.WaveItem.{WaveItem}
use Rattle.must_items.specs.CollectiveLists.{AreItemsOf}
use Rattle.must_messages.specs.MessageItems.{item_seen, AreMessagesOf}
use Rattle.must_messages.specs.Holding.{items_given}
use Rattle.must_messages.specs.CallNeeds.{needs_of}

-- what a walk is told of its rank: its number, the number of ranks, and the greatest tag
pub record RankTold : Type 0 where
  pub rank : ℕ
  pub size : ℕ
  pub tag_ub : ℤ

-- what is known of the rank where its stream has this version; no rule of a walk asks for the version
abbrev pub rank_by : ℕ → RankTold → Rank
rank_by version told = record { rank = told.rank; size = told.size; version = version; tag_ub = told.tag_ub }

-- the rank, how many calls were stepped, the first Init and Finalize, whether the last call returned, what is known of handles, the
-- buffers of operations that are pending, and what is held back of messages and needs
pub record WalkState : Type 0 where
  pub rank : RankTold
  pub number : ℕ
  pub init : Option ℕ
  pub finalize : Option ℕ
  pub returned : Bool
  pub handles : Handles
  pub buffers : Buffers
  pub traffic : Traffic

-- a walk may take this call next: the handle that it makes, if any, has the next number, and the communicator members that it may
-- have; it names few handles, and few calls were taken
pub record MayStep (w : WalkState) (call : Call) : Type 0 where
  pub next : IsNext w.handles.lives call
  pub few : w.number + 1 < 2 ^ 32
  pub members : HasMembers (derived_of call.body)
  pub short : length (handles_of call.body) < 2 ^ 32

-- the tables tell what these calls did, which make handles with the next numbers
pub record Knows (version : ℕ) (w : WalkState) (calls : List Call) : Type 0 where
  pub number : w.number ≡ length calls
  pub init : w.init ≡ first_init calls
  pub finalize : w.finalize ≡ first_finalize calls
  pub returned : w.returned ≡ ends_returned calls
  pub handles : HandlesStand (rank_by version w.rank) w.handles calls
  pub buffers : parts.Stands (rank_by version w.rank) calls w.buffers
  pub traffic : TrafficStands (rank_by version w.rank) calls w.traffic
  pub numbered : AreNumbered 64 calls

-- the local rows of some batches
abbrev pub all_rows : List Batch → List Finding
all_rows batches = flat_map (λ b. rows_of b.entries) batches

-- what the collective calls of some batches give
abbrev pub collectives : List Batch → List WaveItem
collectives batches = flat_map (λ b. entries.calls b.entries) batches

-- the messages of some batches
abbrev pub message_items : List Batch → List MsgItem
message_items batches = flat_map (λ b. entries.messages b.entries) batches

-- the needs of some batches
abbrev pub call_needs : List Batch → List Waits
call_needs batches = flat_map (λ b. entries.needs b.entries) batches

-- a batch of a rank behind which others come
pub record IsMiddle (rank : ℕ) (b : Batch) : Type 0 where
  pub rank_is : b.rank ≡ rank
  pub goes_on : b.last ≡ false

-- the walk has taken these calls, which reach no limit, and given these batches; needs are given when the calls end
pub record Walks (version : ℕ) (w : WalkState) (calls : List Call) (given : List Batch) : Type 0 where
  pub knows : Knows version w calls
  pub once : AreDistinct (all_rows given)
  pub rows : (f : Finding) → Has (all_rows given) f ↔ IsHere (rank_by version w.rank) calls f
  pub waves : AreItemsOf (rank_by version w.rank) calls (collectives given)
  pub messages : map item_seen (message_items given) ≡ items_given (rank_by version w.rank) calls
  pub needs : call_needs given ≡ []
  pub middle : AllByRecursion (IsMiddle (rank_by version w.rank).rank) given
  pub members : AllByRecursion (λ (call : Call). HasMembers (derived_of call.body)) calls
  pub within : IsWithin (rank_by version w.rank) calls

-- these batches are all that the calls of a rank give: each local row once, what each collective call gives to its wave, the
-- messages, and what each call waits for; the last batch alone is the last
pub record GivesAll (r : Rank) (calls : List Call) (batches : List Batch) : Type 0 where
  pub once : AreDistinct (all_rows batches)
  pub rows : (f : Finding) → Has (all_rows batches) f ↔ IsLocal r calls f
  pub waves : AreItemsOf r calls (collectives batches)
  pub messages : AreMessagesOf r calls (message_items batches)
  pub needs : call_needs batches ≡ needs_of r calls
  pub middle : List Batch
  pub last : Batch
  pub batches_are : batches ≡ middle ++ last ∷ []
  pub go_on : AllByRecursion (IsMiddle r.rank) middle
  pub rank_is : last.rank ≡ r.rank
  pub ends : last.last ≡ true
