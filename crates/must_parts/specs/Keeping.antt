-- The parts of persistent requests, as they are kept for the calls that start them.
use Rattle.std.specs.Prelude.{ℕ, nat_eq, if◌then◌else◌, List, Option, Some, None}
use Rattle.std.specs.Ordering.{nat_cmp}
use Rattle.std.specs.BTreeMap.{get}
use Rattle.must_call.specs.declared.class.Class.TheVariants.{Request}
use Rattle.must_call.specs.declared.life.Life.{Life}
use Rattle.must_call.specs.declared.life.Life.TheVariants.{Never}
use Rattle.must_call.specs.declared.call.Call.{Call}
use Rattle.must_call.specs.Handles.{ClassedHandle}
use Rattle.must_rules.specs.Rank.{Rank}
use Rattle.must_rules.specs.Lives.{life, is_kept}
use Rattle.must_rules.specs.Parts.{Part}
use Rattle.must_rules.specs.PendingOperations.{part_made}
use Rattle.must_parts.specs.declared.kept.Kept.{Kept}
use Rattle.must_parts.specs.declared.placed.Placed.{Placed}
use Rattle.must_parts.specs.Placing.{IsPlacedOf}

-- the part of a live persistent request, where it was usable in the call that made it; none of any other request
unfoldable pub part_kept : Rank → List Call → (request : ℕ) → Option Part
part_kept r calls request = if is_kept calls Request request then part_made r calls (life calls Request request) else None

-- these parts are kept, by their requests
abbrev pub HaveParts : Kept → (ℕ → Option Part) → Type 0
HaveParts kept part = (request : ℕ) → IsPlacedOf (get nat_cmp kept.parts request) (part request)

-- those of the persistent requests that are live after these calls are kept
abbrev pub AreKept : Kept → Rank → List Call → Type 0
AreKept kept r calls = HaveParts kept (part_kept r calls)

-- this request, where its number had no life yet
abbrev pub unless_lived : Life → ℕ → Option ℕ
unless_lived Never request = Some request
unless_lived _ request = None

-- the request that a call makes, where its number had no life yet
abbrev pub fresh_request : (ℕ → Life) → Option ClassedHandle → Option ℕ
fresh_request lives (Some (Request, request)) = unless_lived (lives request) request
fresh_request lives _ = None

-- a part more for a request, where there are both
abbrev pub with_part : (ℕ → Option Placed) → Option ℕ → Option Placed → ℕ → Option Placed
with_part at (Some request) (Some part) n = if nat_eq n request then Some part else at n
with_part at _ _ n = at n
