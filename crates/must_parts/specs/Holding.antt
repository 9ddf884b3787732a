-- Operations that are held, and the pending operations that they stand for.
use Rattle.std.specs.Prelude.{◌≡◌, List}
use Rattle.must_span.specs.Bytes.{AreBytes}
use Rattle.must_pending.specs.declared.held.Held.{Held}
use Rattle.must_rules.specs.Parts.{entries_of, part_weight}
use Rattle.must_rules.specs.PendingOperations.{Operation}
use Rattle.must_parts.specs.Matching.{Matched}

pub record Holds (h : Held) (o : Operation) : Type 0 where
  pub call_is : h.call ≡ o.call
  pub request_is : h.request ≡ o.request
  pub access_is : h.access ≡ o.part.access
  pub bytes : AreBytes h.spans (entries_of o.part)
  pub weight_is : h.weight ≡ part_weight o.part

-- these operations, one by one
abbrev pub AreHeld : List Held → List Operation → Type 0
AreHeld hs ops = Matched Holds hs ops
