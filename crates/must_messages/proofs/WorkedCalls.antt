-- What the worked calls of a rank are made of.
use Rattle.std.specs.Prelude.{◌≡◌, ℕ, ℤ, pos, negsuc, Bool, true, false, List, [], ◌∷◌, map, take, Option, Some, None, slice_get}
use Rattle.must_call.specs.declared.status.Status3.{Status3}
use Rattle.must_call.specs.declared.basic.Basic.{Basic}
use Rattle.must_call.specs.declared.body.Body.{Body}
use Rattle.must_call.specs.declared.call.Call.{Call}
use Rattle.must_p2p.specs.declared.side.Side.{Side}
use Rattle.must_p2p.specs.declared.wild.Wild.{Wild}
use Rattle.must_entry.specs.declared.want.Want.{Want}
use Rattle.must_entry.specs.declared.want.Want.TheVariants.{Op, Wave}
use Rattle.must_rules.specs.Rank.{Rank}
use Rattle.must_rules.specs.Answer.{Answer}
use Rattle.must_rules.specs.Statuses.{status_contradicts}
use Rattle.must_messages.specs.MessageItems.{Item, items_of}
use Rattle.must_messages.specs.CallNeeds.{needs_of}

abbrev pub rank_of : (rank size : ℕ) → Rank
rank_of rank size = record { rank = rank; size = size; version = 2; tag_ub = pos 32767 }

abbrev pub done : Body → Call
done body = record { returned = true; body = body }

abbrev pub stuck : Body → Call
stuck body = record { returned = false; body = body }

abbrev pub status : (source tag : ℤ) → Status3
status source tag = record { source = source; tag = tag; cancelled = false }

abbrev pub empty : Status3
empty = status (negsuc 1) (negsuc 0)

abbrev pub cancelled : Status3
cancelled = record { source = negsuc 1; tag = negsuc 0; cancelled = true }

-- an item at a rank, on MPI_COMM_WORLD
abbrev pub on_world : Side → (call part : ℕ) → (members : List ℕ) → (rank source dest : ℕ) → (tag : ℤ) → List Basic → Wild → Item
on_world side call part members rank source dest tag signature wild = record {
  place = record { rank = rank; call = call };
  part = part;
  side = side;
  name = record { root = 0; path = []; members = members };
  comm = 1;
  source = source;
  dest = dest;
  tag = tag;
  signature = signature;
  wild = wild;
}

-- the same on the duplicate of it that the first collective call made, handle 64
abbrev pub on_duplicate : Item → Item
on_duplicate i = record i { name = record { root = 0; path = record { number = 0; class = pos 0 } ∷ []; members = i.name.members }; comm = 64 }

abbrev pub wild_at : (source tag : Bool) → (done : ℕ) → Wild
wild_at source tag done = record { source = source; tag = tag; done = Some done }

abbrev pub want_of : (rank call part : ℕ) → (standard : Bool) → Want
want_of rank call part standard = Op (record { rank = rank; call = call }) part standard

abbrev pub wave_of : (rank call : ℕ) → Want
wave_of rank call = Wave (record { rank = rank; call = call })

-- a finding of rank 0 that sees a call of it
abbrev pub sees : (call value : ℕ) → Option Answer
sees call value = Some (Some (record { rank = 0; call = call }), pos value)

-- these calls have these items, and wait in these ways
abbrev pub Give : Rank → List Call → List Item → List (List (List Want)) → Type 0
Give r calls items ways = (items_of r calls ≡ items) × (map (λ w. w.ways) (needs_of r calls) ≡ ways)

abbrev pub status_by : Rank → List Call → (k part : ℕ) → Option Call → Option Answer
status_by r calls k part None = None
status_by r calls k part (Some call) = status_contradicts r (take k calls) call part

-- S1 at a part of call k
abbrev pub status_at : Rank → List Call → (k part : ℕ) → Option Answer
status_at r calls k part = status_by r calls k part (slice_get calls k)
