-- Clashes of a message with pending operations: an address that both use, where one of them writes it (MPI 3.1, 3.7.2;
-- docs/SPANS.md).
use Rattle.std.specs.Prelude.{◌≡◌, ℕ, ◌<◌, nat_eq, not, filter, sum_by, ℤ, ◌≤ℤ◌, ◌⊎◌, List, [], ◌∷◌, Option, Some, None}
use Rattle.must_span.specs.declared.ranges.AddressRange.{AddressRange}
use Rattle.must_span.specs.Ranges.{Covers}
use Rattle.must_pending.specs.declared.access.Access.{Access}
use Rattle.must_pending.specs.declared.access.Access.TheVariants.{Reads, Writes}
use Rattle.must_pending.specs.declared.held.Held.{Held}

abbrev pub Disagree : Access → Access → Type 0
Disagree Reads Reads = ⊥
Disagree Reads Writes = Unit {0}
Disagree Writes b = Unit {0}

-- an operation of the call uses the address, as the message does, and one of them writes
pub record Clashes (h : Held) (spans : List AddressRange) (access : Access) (call : ℕ) (x : ℤ) : Type 0 where
  pub call_is : h.call ≡ call
  pub disagree : Disagree h.access access
  pub held : Covers h.spans x
  pub asked : Covers spans x

abbrev pub IsClash : List Held → List AddressRange → Access → ℕ → ℤ → Type 0
IsClash [] spans access call x = ⊥
IsClash (h ∷ hs) spans access call x = Clashes h spans access call x ⊎ IsClash hs spans access call x

-- of an earlier call, or of the same at no higher an address
abbrev pub IsNoLater : ℕ → ℤ → ℕ → ℤ → Type 0
IsNoLater c x d y = (c < d) ⊎ ((c ≡ d) × (x ≤ℤ y))

-- the first clash: the earliest call that clashes, with the least address at which it does
abbrev pub IsFirst : List Held → List AddressRange → Access → Option (ℕ × ℤ) → Type 0
IsFirst hs spans access None = (d : ℕ) (y : ℤ) → IsClash hs spans access d y → ⊥
IsFirst hs spans access (Some p) = IsClash hs spans access p.0 p.1 × ((d : ℕ) (y : ℤ) → IsClash hs spans access d y → IsNoLater p.0 p.1 d y)

abbrev pub IsEarliest : Option (ℕ × ℤ) → Option (ℕ × ℤ) → Option (ℕ × ℤ) → Type 0
IsEarliest None q r = r ≡ q
IsEarliest (Some p) None r = r ≡ Some p
IsEarliest (Some p) (Some q) r = ((r ≡ Some p) × IsNoLater p.0 p.1 q.0 q.1) ⊎ ((r ≡ Some q) × IsNoLater q.0 q.1 p.0 p.1)

-- what is left where a request is done
abbrev pub without : ℕ → List Held → List Held
without request hs = filter (λ h. not (nat_eq h.request request)) hs

-- the sum of the weights
abbrev pub weight_of : List Held → ℕ
weight_of hs = sum_by (λ h. h.weight) hs
