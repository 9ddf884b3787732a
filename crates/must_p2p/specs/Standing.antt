-- What the channels know and keep of the items that they were given (docs/MATCHING.md).
use Rattle.std.specs.Prelude.{◌≡◌, ◌⊎◌, ◌<◌, ℕ, List, [], ◌∷◌, Option, Some, None, map, nat_lt}
use Rattle.std.specs.declared.cmp.Ordering.{Ordering}
use Rattle.std.specs.Ordering.{nat_cmp, int_cmp, ordering_then}
use Rattle.std.specs.BTreeMap as tree
use Rattle.std.specs.BTreeMap.{BTreeMap}
use Rattle.must_base.specs.Listing.{Has}
use Rattle.must_find.specs.declared.finding.Finding.{Finding}
use Rattle.must_group.specs.Names.{Name, name_cmp}
use Rattle.must_p2p.specs.declared.side.Side.{Side}
use Rattle.must_p2p.specs.declared.side.Side.TheVariants.{Send, Receive}
use Rattle.must_p2p.specs.declared.item.MsgItem.{MsgItem}
use Rattle.must_p2p.specs.declared.waiting.Waiting.{Waiting}
use Rattle.must_p2p.specs.declared.queue.Queue.{Queue}
use Rattle.must_p2p.specs.declared.names.Handle.{Handle}
use Rattle.must_p2p.specs.declared.names.Names.{Names}
use Rattle.must_p2p.specs.declared.key.Key.{Key}
use Rattle.must_p2p.specs.declared.channels.Channels.{Channels}
use Rattle.must_p2p.specs.Items.{Class, lane}
use Rattle.must_p2p.specs.Queues.{waiting, StandsAt, IsLeft, side_left}

-- ---- names

abbrev pub handle_of : MsgItem → Handle
handle_of x = record { rank = x.place.rank; comm = x.comm }

-- by rank and handle number
abbrev pub handle_cmp : Handle → Handle → Ordering
handle_cmp a b = ordering_then (nat_cmp a.rank b.rank) (nat_cmp a.comm b.comm)

abbrev pub number_of : Names → Name → Option ℕ
number_of names name = tree.get name_cmp names.met name

-- an item with this handle has a name of this number
pub record HasNumber (names : Names) (items : List MsgItem) (handle : Handle) (i : ℕ) : Type 0 where
  pub item : MsgItem
  pub there : Has items item
  pub handle_is : handle_of item ≡ handle
  pub number_is : number_of names item.name ≡ Some i

-- no two names have one number, the next number is free, and the handles known are those of the items
pub record Knows (names : Names) (items : List MsgItem) : Type 0 where
  pub apart : (a b : Name) (i : ℕ) → number_of names a ≡ Some i → number_of names b ≡ Some i → a ≡ b
  pub below : (name : Name) (i : ℕ) → number_of names name ≡ Some i → i < names.count
  pub handles : (handle : Handle) (i : ℕ) → tree.get handle_cmp names.handles handle ≡ Some i → HasNumber names items handle i

-- ---- queues

-- by source, destination, tag and number of the name
abbrev pub key_cmp : Key → Key → Ordering
key_cmp a b = ordering_then (nat_cmp a.source b.source) (ordering_then (nat_cmp a.dest b.dest) (ordering_then (int_cmp a.tag b.tag) (nat_cmp a.name b.name)))

abbrev pub key_of : Class → ℕ → Key
key_of c i = record { source = c.source; dest = c.dest; tag = c.tag; name = i }

-- the queue of a class whose name has this number
abbrev pub queue_by : BTreeMap Key Queue → Class → Option ℕ → Option Queue
queue_by queues c None = None
queue_by queues c (Some i) = tree.get key_cmp queues (key_of c i)

abbrev pub queue_of : Names → BTreeMap Key Queue → Class → Option Queue
queue_of names queues c = queue_by queues c (number_of names c.name)

-- a name has this number
pub record IsOwned (names : Names) (i : ℕ) : Type 0 where
  pub name : Name
  pub is : number_of names name ≡ Some i

-- what waits of a class and side, and what waited
abbrev pub kept : Class → Side → List MsgItem → List Waiting
kept c side items = map waiting (lane c side items)

abbrev pub Keeps : Names → BTreeMap Key Queue → List MsgItem → Type 0
Keeps names queues items = (c : Class) → StandsAt (queue_of names queues c) (kept c Send items) (kept c Receive items)

abbrev pub AreOwned : Names → BTreeMap Key Queue → Type 0
AreOwned names queues = (key : Key) (q : Queue) → tree.get key_cmp queues key ≡ Some q → IsOwned names key.name

-- the channels were given these items
pub record StandsFor (channels : Channels) (items : List MsgItem) : Type 0 where
  pub knows : Knows channels.names items
  pub keeps : Keeps channels.names channels.queues items
  pub owned : AreOwned channels.names channels.queues

-- ---- what the queues give at the end

abbrev pub IsLeftAt : Queue → Finding → Type 0
IsLeftAt q f = IsLeft (side_left (nat_lt q.sent q.received)) q.waiting.items f

abbrev pub IsLeftIn : List (Key × Queue) → Finding → Type 0
IsLeftIn [] f = ⊥
IsLeftIn (e ∷ es) f = IsLeftAt e.1 f ⊎ IsLeftIn es f
