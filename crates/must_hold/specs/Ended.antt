-- What is told of an operation once it is known how it ended: its item, and what it needs.
use Rattle.std.specs.Prelude.{◌≡◌, ℕ, ℤ, Bool, true, false, ◌||◌, ◌&&◌, if◌then◌else◌, List, [], ◌∷◌, Option, Some, None, option_map, option_and_then, is_some, is_none}
use Rattle.must_call.specs.declared.place.Place.{Place}
use Rattle.must_call.specs.declared.status.Status3.{Status3}
use Rattle.must_sig.specs.Signatures.{expansion}
use Rattle.must_p2p.specs.declared.side.Side.{Side}
use Rattle.must_p2p.specs.declared.side.Side.TheVariants.{Send, Receive, Probe}
use Rattle.must_p2p.specs.declared.wild.Wild.{Wild}
use Rattle.must_entry.specs.declared.want.Want.{Want}
use Rattle.must_entry.specs.declared.want.Want.TheVariants as want
use Rattle.must_rules.specs.Parts.{with_both}
use Rattle.must_messages.specs.declared.asked.Mode.{Mode}
use Rattle.must_messages.specs.declared.asked.Mode.TheVariants as mode
use Rattle.must_messages.specs.declared.asked.Deed.{Deed}
use Rattle.must_messages.specs.declared.asked.Deed.TheVariants as deed
use Rattle.must_messages.specs.declared.asked.Asked.{Asked}
use Rattle.must_rules.specs.Operations.{Envelope, Operation}
use Rattle.must_messages.specs.Asking.{IsAsked, envelope_seen, action_seen}
use Rattle.must_rules.specs.Statuses.{says_cancelled, names_any_source, names_any_tag, names_any, is_receive}
use Rattle.must_messages.specs.MessageItems.{Item, no_wild, rank_at, known_source, known_tag, probed_source, probed_tag}
use Rattle.must_hold.specs.declared.held.Pending.{Pending}
use Rattle.must_hold.specs.declared.held.End.{End}
use Rattle.must_hold.specs.declared.held.Need.{Need}
use Rattle.must_hold.specs.declared.held.Need.TheVariants.{Never, Nothing, Partner, Unmet}

-- what is kept of an operation
pub record IsPending (p : Pending) (op : Operation) : Type 0 where
  pub call_is : op.call ≡ p.call
  pub part_is : op.part ≡ p.part
  pub request_is : op.request ≡ p.request
  pub asked_is : IsAsked p.asked op.message

-- ---- the item

abbrev pub envelope : Pending → Envelope
envelope p = envelope_seen p.asked

abbrev pub item_for : (rank : ℕ) → Pending → Side → Wild → (source dest : ℕ) → (tag : ℤ) → Item
item_for rank p side wild source dest tag = record {
  place = record { rank = rank; call = p.call };
  part = p.part;
  side = side;
  name = p.asked.name;
  comm = p.asked.comm;
  source = source;
  dest = dest;
  tag = tag;
  signature = expansion p.asked.sig;
  wild = wild;
}

abbrev pub wild_for : Envelope → Option ℕ → Wild
wild_for e done = if names_any e then record { source = names_any_source e; tag = names_any_tag e; done = done } else no_wild

abbrev pub item_taken : (rank : ℕ) → Pending → Side → Wild → (source : Option ℕ) → (tag : Option ℤ) → Option Item
item_taken rank p side wild source tag = with_both (λ from t. item_for rank p side wild from rank t) source tag

abbrev pub item_sent : (rank : ℕ) → Pending → Option Item
item_sent rank p = option_map (λ to. item_for rank p Send no_wild rank to p.asked.tag) (rank_at (envelope p) p.asked.peer)

abbrev pub item_received : (rank : ℕ) → Pending → End → Option Item
item_received rank p end =
    item_taken rank p Receive (wild_for (envelope p) end.done) (option_and_then (rank_at (envelope p)) (known_source (envelope p) end.status)) (known_tag (envelope p) end.status)

abbrev pub item_probed : (rank : ℕ) → Pending → End → Option Item
item_probed rank p end =
    item_taken rank p Probe no_wild (option_and_then (rank_at (envelope p)) (probed_source (envelope p) end.status)) (probed_tag (envelope p) end.status)

-- the item of an operation that ended so
abbrev pub item_ended : (rank : ℕ) → Pending → End → Deed → Option Item
item_ended rank p end (deed.Send mode) = if says_cancelled end.status then None else item_sent rank p
item_ended rank p end deed.Receive = if says_cancelled end.status || end.breaks then None else item_received rank p end
item_ended rank p end deed.Probe = item_probed rank p end

-- ---- the need

abbrev pub is_cancelled_as : Deed → Option Status3 → Bool
is_cancelled_as deed.Probe status = false
is_cancelled_as _ status = says_cancelled status

abbrev pub partner : (call part : ℕ) → Deed → Need
partner call part (deed.Send mode.Buffered) = Nothing
partner call part (deed.Send mode.Standard) = Partner call part true
partner call part (deed.Send mode.Ready) = Partner call part true
partner call part _ = Partner call part false

-- nothing completed a receive that named a wildcard
abbrev pub is_unmet : Deed → Envelope → (done : Option ℕ) → Bool
is_unmet d e done = is_receive (action_seen d) && (names_any e && is_none done)

abbrev pub need_by : (call part : ℕ) → Deed → Envelope → Option Status3 → (done : Option ℕ) → (there : Bool) → Need
need_by call part d e status done there = if is_unmet d e done then Unmet call part else if is_cancelled_as d status then Nothing else if there then partner call part d else Never

-- what an operation needs that ended so
abbrev pub need_ended : (rank : ℕ) → Pending → End → Need
need_ended rank p end = need_by p.call p.part p.asked.deed (envelope p) end.status end.done (is_some (item_ended rank p end p.asked.deed))

abbrev pub place_at : (rank call : ℕ) → Place
place_at rank call = record { rank = rank; call = call }

-- the wants that a need stands for, at a rank; none where nothing will ever do
abbrev pub need_seen : (rank : ℕ) → Need → Option (List Want)
need_seen rank Never = None
need_seen rank (Unmet call part) = None
need_seen rank Nothing = Some []
need_seen rank (Partner call part standard) = Some (want.Op (place_at rank call) part standard ∷ [])

-- the call and the part of an open wildcard
abbrev pub unmet_at : Need → Option (ℕ × ℕ)
unmet_at (Unmet call part) = Some (call, part)
unmet_at _ = None
