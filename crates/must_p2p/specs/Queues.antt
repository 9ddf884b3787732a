-- What the channels keep of the items of one class (docs/MATCHING.md).
use Rattle.std.specs.Prelude.{◌≡◌, ◌⊎◌, Bool, true, false, List, [], ◌∷◌, ◌++◌, length, drop, slice_get, Option, Some, None, if◌then◌else◌}
use Rattle.std.specs.Option.{option_map}
use Rattle.must_find.specs.declared.finding.Finding.{Finding}
use Rattle.must_p2p.specs.declared.side.Side.{Side}
use Rattle.must_p2p.specs.declared.side.Side.TheVariants.{Send, Receive, Probe}
use Rattle.must_p2p.specs.declared.item.MsgItem.{MsgItem}
use Rattle.must_p2p.specs.declared.matched.Matched.{Matched}
use Rattle.must_p2p.specs.declared.waiting.Waiting.{Waiting}
use Rattle.must_p2p.specs.declared.queue.Queue.{Queue}
use Rattle.must_p2p.specs.Items.{same_side}
use Rattle.must_p2p.specs.MessageRules.{broken, fit_of, lone}

-- what an item keeps while it waits
abbrev pub waiting : MsgItem → Waiting
waiting x = record { place = x.place; part = x.part; sig = x.sig }

-- what the pair of a send and a receive gives
abbrev pub pair_matches_as : Waiting × Waiting → Matched
pair_matches_as p = record { send = p.0.place; send_part = p.0.part; recv = p.1.place; recv_part = p.1.part }

abbrev pub pair_breaks : Waiting × Waiting → Option Finding
pair_breaks p = broken (fit_of p.0.sig p.1.sig) p.0.place p.1.place p.1.part

-- the pair that one item more makes with the sends and receives of its class before it
abbrev pub pair_of : {X : Type 0} → Side → X → (sends receives : List X) → Option (X × X)
pair_of Send x sends receives = option_map (λ r. (x, r)) (slice_get receives (length sends))
pair_of Receive x sends receives = option_map (λ s. (s, x)) (slice_get sends (length receives))
pair_of Probe x sends receives = None

-- the items of a side, and one more of side `own`
abbrev pub with_item : {X : Type 0} → Side → Side → X → List X → List X
with_item side own x xs = if same_side side own then xs ++ x ∷ [] else xs

-- those that found no partner so far: of the sends or of the receives there are none
abbrev pub left : List Waiting → List Waiting → List Waiting
left sends receives = drop (length receives) sends ++ drop (length sends) receives

-- the queue of a class with these sends and receives
pub record IsQueue (sends receives : List Waiting) (q : Queue) : Type 0 where
  pub sent : q.sent ≡ length sends
  pub received : q.received ≡ length receives
  pub waits : q.waiting.items ≡ left sends receives

-- a class that has no queue yet has no item
abbrev pub StandsAt : Option Queue → List Waiting → List Waiting → Type 0
StandsAt None sends receives = (sends ≡ []) × (receives ≡ [])
StandsAt (Some q) sends receives = IsQueue sends receives q

-- the first of those that wait, where they are of the other side
abbrev pub partner : Bool → List Waiting → Option Waiting
partner true items = slice_get items 0
partner false items = None

-- one more: it takes the first of the other side, or waits behind those of its own
abbrev pub met : Bool → List Waiting → Waiting → List Waiting
met b [] x = x ∷ []
met true (y ∷ ys) x = ys
met false (y ∷ ys) x = (y ∷ ys) ++ x ∷ []

-- what those that wait on this side give
abbrev pub IsLeft : Side → List Waiting → Finding → Type 0
IsLeft side [] f = ⊥
IsLeft side (x ∷ xs) f = (lone side x.place x.part ≡ Some f) ⊎ IsLeft side xs f

-- the side that waits in a queue
abbrev pub side_left : Bool → Side
side_left true = Receive
side_left false = Send
