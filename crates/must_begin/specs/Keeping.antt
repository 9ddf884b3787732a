-- What the persistent requests of a rank ask for, as it is kept for the calls that start them.
use Rattle.std.specs.Prelude.{ℕ, if◌then◌else◌, nat_eq, List, Option, Some, None}
use Rattle.std.specs.Ordering.{nat_cmp}
use Rattle.std.specs.BTreeMap.{get}
use Rattle.must_call.specs.declared.class.Class.TheVariants.{Request}
use Rattle.must_call.specs.declared.call.Call.{Call}
use Rattle.must_rules.specs.Rank.{Rank}
use Rattle.must_rules.specs.Lives.{life, is_kept}
use Rattle.must_messages.specs.declared.asked.Asked.{Asked}
use Rattle.must_rules.specs.Operations.{Message, message_made}
use Rattle.must_begin.specs.declared.requests.Requests.{Requests}
use Rattle.must_begin.specs.Telling.{IsAskedOf}

-- what a live persistent request asks for, where that was usable in the call that made it; nothing for any other request
unfoldable pub message_kept : Rank → List Call → (request : ℕ) → Option Message
message_kept r calls request = if is_kept calls Request request then message_made r calls (life calls Request request) else None

-- what the persistent requests that are live after these calls ask for is kept, and nothing else
abbrev pub Keeps : Rank → List Call → Requests → Type 0
Keeps r calls requests = (request : ℕ) → IsAskedOf (get nat_cmp requests.asked request) (message_kept r calls request)

-- one more for a request, where there are both
abbrev pub with_asked : (ℕ → Option Asked) → Option ℕ → Option Asked → ℕ → Option Asked
with_asked at (Some request) (Some asked) n = if nat_eq n request then Some asked else at n
with_asked at _ _ n = at n
