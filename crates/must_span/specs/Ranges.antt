-- Sets of addresses as lists of ranges (docs/SPANS.md). Addresses are whole numbers, without an end.
use Rattle.std.specs.Prelude.{ℕ, zero, suc, ℤ, pos, ◌+ℤ◌, ◌-ℤ◌, ◌≤ℤ◌, ◌<ℤ◌, ◌⊎◌, List, [], ◌∷◌, ◌++◌, Option, Some, None}
use Rattle.std.specs.Int.RustNames.{unsigned_abs}
use Rattle.std.specs.List.{AllByRecursion}
use Rattle.must_span.specs.declared.ranges.AddressRange.{AddressRange}

pub record IsIn (r : AddressRange) (x : ℤ) : Type 0 where
  pub from : r.low ≤ℤ x
  pub below : x <ℤ r.high

-- an address is in one of the ranges
abbrev pub Covers : List AddressRange → ℤ → Type 0
Covers [] x = ⊥
Covers (r ∷ rs) x = IsIn r x ⊎ Covers rs x

abbrev pub IsFilled : AddressRange → Type 0
IsFilled r = r.low <ℤ r.high

-- Ranges in order, with an address between each and the next. A set of addresses has just one such list.
abbrev pub AreApart : List AddressRange → Type 0
AreApart [] = Unit {0}
AreApart (r ∷ rs) = IsFilled r × AllByRecursion (λ s. r.high <ℤ s.low) rs × AreApart rs

-- the n addresses from x on
abbrev pub run_of : ℤ → ℕ → List ℤ
run_of x zero = []
run_of x (suc n) = x ∷ run_of (x +ℤ pos 1) n

-- the addresses of a list of ranges, one behind another
abbrev pub addresses : List AddressRange → List ℤ
addresses [] = []
addresses (r ∷ rs) = run_of r.low (unsigned_abs (r.high -ℤ r.low)) ++ addresses rs

-- the least address that both lists cover
pub record IsLeastShared (first second : List AddressRange) (x : ℤ) : Type 0 where
  pub in_first : Covers first x
  pub in_second : Covers second x
  pub least : (y : ℤ) → Covers first y → Covers second y → x ≤ℤ y

-- none exactly where they share no address
abbrev pub IsFirstShared : List AddressRange → List AddressRange → Option ℤ → Type 0
IsFirstShared first second None = (x : ℤ) → Covers first x → Covers second x → ⊥
IsFirstShared first second (Some x) = IsLeastShared first second x
