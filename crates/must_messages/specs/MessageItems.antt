-- The message items of a rank: the operations that take part in matching, each with its class (MPI 3.1 sections 3.2.3, 3.2.4 and
-- 3.5; docs/MESSAGES.md). Their numbers and matches are told in must_p2p/specs.
use Rattle.std.specs.Prelude.{◌≡◌, ℕ, ℤ, Bool, false, ◌||◌, if◌then◌else◌, List, [], map, filter_map, flat_map, Option, Some, None, option_map, option_and_then}
use Rattle.must_call.specs.declared.place.Place.{Place}
use Rattle.must_call.specs.declared.status.Status3.{Status3}
use Rattle.must_call.specs.declared.basic.Basic.{Basic}
use Rattle.must_call.specs.declared.call.Call.{Call}
use Rattle.must_group.specs.Names.{Name}
use Rattle.must_sig.specs.Signatures.{signature, expansion}
use Rattle.must_p2p.specs.declared.side.Side.{Side}
use Rattle.must_p2p.specs.declared.side.Side.TheVariants.{Send, Receive, Probe}
use Rattle.must_p2p.specs.declared.wild.Wild.{Wild}
use Rattle.must_p2p.specs.declared.item.MsgItem.{MsgItem}
use Rattle.must_rules.specs.Rank.{Rank}
use Rattle.must_rules.specs.Making.{indexed}
use Rattle.must_rules.specs.Parts.{Part, with_both}
use Rattle.must_rules.specs.Operations.{Action, Sends, Receives, Probes, Envelope, Operation, operations_of}
use Rattle.must_rules.specs.Fates.{Fate, fate_of, status_of, done_in}
use Rattle.must_rules.specs.Statuses.{is_cancelled, names_any_source, names_any_tag, names_any, breaks_status}

-- an item, its signature as a plain list
pub record Item : Type 0 where
  pub place : Place
  pub part : ℕ
  pub side : Side
  pub name : Name
  pub comm : ℕ
  pub source : ℕ
  pub dest : ℕ
  pub tag : ℤ
  pub signature : List Basic
  pub wild : Wild

abbrev pub item_seen : MsgItem → Item
item_seen x = record {
  place = x.place;
  part = x.part;
  side = x.side;
  name = x.name;
  comm = x.comm;
  source = x.source;
  dest = x.dest;
  tag = x.tag;
  signature = expansion x.sig;
  wild = x.wild;
}

-- ---- source and tag

abbrev pub source_in : Status3 → ℤ
source_in status = status.source

abbrev pub tag_in : Status3 → ℤ
tag_in status = status.tag

-- the source that was named, or else the one that the status tells
abbrev pub known_source : Envelope → Option Status3 → Option ℤ
known_source e status = if names_any_source e then option_map source_in status else Some e.peer

abbrev pub known_tag : Envelope → Option Status3 → Option ℤ
known_tag e status = if names_any_tag e then option_map tag_in status else Some e.tag

-- a probe that returned found the message of its status, whatever it named
abbrev pub probed_source : Envelope → Option Status3 → Option ℤ
probed_source e (Some status) = Some status.source
probed_source e None = known_source e None

abbrev pub probed_tag : Envelope → Option Status3 → Option ℤ
probed_tag e (Some status) = Some status.tag
probed_tag e None = known_tag e None

-- the world rank at a position
abbrev pub rank_at : Envelope → ℤ → Option ℕ
rank_at e position = indexed e.name.members position

-- ---- what is sent, or may be received

-- the signature of a part
abbrev pub signature_of : Part → List Basic
signature_of p = flat_map (λ b. signature p.datatype b.count) p.blocks

-- a probe has none
abbrev pub signature_in : Option Part → List Basic
signature_in (Some p) = signature_of p
signature_in None = []

-- ---- wildcards

abbrev pub no_wild : Wild
no_wild = record { source = false; tag = false; done = None }

-- which wildcards a receive named, and which call completed it
abbrev pub wild_of : Envelope → Fate → Wild
wild_of e fate = if names_any e then record { source = names_any_source e; tag = names_any_tag e; done = done_in fate } else no_wild

-- ---- the item of an operation

abbrev pub item : Rank → Operation → Side → Wild → (source dest : ℕ) → (tag : ℤ) → Item
item r op side wild source dest tag = record {
  place = record { rank = r.rank; call = op.call };
  part = op.part;
  side = side;
  name = op.message.envelope.name;
  comm = op.message.envelope.comm;
  source = source;
  dest = dest;
  tag = tag;
  signature = signature_in op.message.buffer;
  wild = wild;
}

-- a send goes to a rank
abbrev pub sent : Rank → Operation → Option ℕ → Option Item
sent r op dest = option_map (λ to. item r op Send no_wild r.rank to op.message.envelope.tag) dest

-- a receive or a probe takes a message with this source and this tag
abbrev pub taken : Rank → Operation → Side → Wild → (source : Option ℕ) → (tag : Option ℤ) → Option Item
taken r op side wild source tag = with_both (λ from t. item r op side wild from r.rank t) source tag

-- a send that isn't cancelled; a receive that isn't, doesn't break S1, and has a known source and tag; a probe with a known source
-- and tag
abbrev pub item_by : Rank → (is_cancelled breaks_status : Bool) → Fate → Operation → Action → Envelope → Option Item
item_by r cancelled breaks fate op (Sends mode) e = if cancelled then None else sent r op (rank_at e e.peer)
item_by r cancelled breaks fate op Receives e =
    if cancelled || breaks then None else taken r op Receive (wild_of e fate) (option_and_then (rank_at e) (known_source e (status_of fate))) (known_tag e (status_of fate))
item_by r cancelled breaks fate op Probes e = taken r op Probe no_wild (option_and_then (rank_at e) (probed_source e (status_of fate))) (probed_tag e (status_of fate))

-- the item of an operation, by all calls of its rank
unfoldable pub item_of : Rank → List Call → Operation → Option Item
item_of r calls op = item_by r (is_cancelled op (fate_of calls op)) (breaks_status r calls op) (fate_of calls op) op op.message.action op.message.envelope

-- ---- the items of a rank

-- in the order of their calls and parts
abbrev pub items_of : Rank → List Call → List Item
items_of r calls = filter_map (item_of r calls) (operations_of r calls)

-- these are the items of a rank, whatever form their signatures have
abbrev pub AreMessagesOf : Rank → List Call → List MsgItem → Type 0
AreMessagesOf r calls items = map item_seen items ≡ items_of r calls
