-- What the steps of laying out a type promise one another. No public contract speaks of it.
use Rattle.std.specs.Prelude.{◌≡◌, ℕ, suc, ◌+◌, ◌*◌, ◌^◌, ◌<◌, ◌≤◌, ℤ, pos, ◌+ℤ◌, ◌-ℤ◌, ◌*ℤ◌, ◌≤ℤ◌, ◌⊎◌, ◌↔◌, List, [], ◌∷◌, ◌++◌, length}
use Rattle.std.specs.Int.RustNames.{unsigned_abs}
use Rattle.std.specs.List.{AllByRecursion}
use Rattle.must_type.specs.declared.construct.Construct.{Construct}
use Rattle.must_type.specs.declared.construct.Construct.TheVariants.{Subarray}
use Rattle.must_type.specs.Maps.{Entry, size, extent}
use Rattle.must_type.specs.Constructs.{cells_in}
use Rattle.must_type.specs.Weights.{Old, weigh}
use Rattle.must_span.specs.declared.ranges.AddressRange.{AddressRange}
use Rattle.must_span.specs.declared.laid.Laid.{Laid}
use Rattle.must_span.specs.Ranges.{IsIn, Covers, IsFilled, AreApart}
use Rattle.must_span.specs.Bytes.{AreBytes}

-- each range begins no lower than those before it
abbrev pub Rise : List AddressRange → Type 0
Rise [] = Unit {0}
Rise (r ∷ rs) = AllByRecursion (λ s. r.low ≤ℤ s.low) rs × Rise rs

-- no range begins above an address
abbrev pub IsBehind : ℤ → List AddressRange → Type 0
IsBehind x rs = AllByRecursion (λ r. r.low ≤ℤ x) rs

-- one range more, which begins no lower than those before it
pub record Puts (old : List AddressRange) (r : AddressRange) (new : List AddressRange) : Type 0 where
  pub apart : AreApart new
  pub covers : (x : ℤ) → Covers new x ↔ (Covers old x ⊎ IsIn r x)
  pub behind : IsBehind r.low new
  pub few : length new ≤ suc (length old)

-- how many addresses there are
abbrev pub count_of : List AddressRange → ℕ
count_of [] = 0
count_of (r ∷ rs) = unsigned_abs (r.high -ℤ r.low) + count_of rs

-- a range no further than m bytes from 0
pub record IsNear (m : ℕ) (r : AddressRange) : Type 0 where
  pub low : unsigned_abs r.low ≤ m
  pub high : unsigned_abs r.high ≤ m

abbrev pub IsAsLong : ℤ → AddressRange → Type 0
IsAsLong n r = r.high -ℤ r.low ≡ n

abbrev pub moved_range : ℤ → AddressRange → AddressRange
moved_range by r = record { low = r.low +ℤ by; high = r.high +ℤ by }

-- Ranges of s bytes of a type of weight w: no more than the weight, and a weight of 1 is one range.
pub record AreFew (rs : List AddressRange) (w s : ℕ) : Type 0 where
  pub few : length rs ≤ w
  pub one : w ≡ 1 → AllByRecursion (IsAsLong (pos s)) rs
  pub none : w ≡ 0 → s ≡ 0

-- the ranges of a map of weight w
pub record IsLaid (rs : List AddressRange) (es : List Entry) (w : ℕ) : Type 0 where
  pub filled : AllByRecursion IsFilled rs
  pub bytes : AreBytes rs es
  pub few : AreFew rs w (size es)

-- an address lies in a list that was moved by one of n steps of a stride
pub record IsCopied (rs : List AddressRange) (at : ℤ) (stride : ℤ) (n : ℕ) (x : ℤ) : Type 0 where
  pub copy : ℕ
  pub below : copy < n
  pub covers : Covers rs (x -ℤ (at +ℤ pos copy *ℤ stride))

-- the first n copies lie no further than m bytes away
abbrev pub AreWithin : ℤ → ℤ → ℕ → ℕ → Type 0
AreWithin at stride n m = (j : ℕ) → j < n → unsigned_abs (at +ℤ pos j *ℤ stride) ≤ m

-- ranges that stand for n copies of others
pub record AreCopies (rs : List AddressRange) (at : ℤ) (stride : ℤ) (n : ℕ) (more : List AddressRange) : Type 0 where
  pub covers : (x : ℤ) → Covers more x ↔ IsCopied rs at stride n x
  pub filled : AllByRecursion IsFilled rs → AllByRecursion IsFilled more
  pub near : (m k : ℕ) → AllByRecursion (IsNear m) rs → AreWithin at stride n k → AllByRecursion (IsNear (m + k)) more
  pub rows : (w s : ℕ) → AreFew rs w s → AreFew more (n * w) (n * s)
  pub block : (w s : ℕ) → AreFew rs w s → AreFew more (weigh n (record { weight = w; size = s; extent = stride })) (n * s)

-- ranges were put in n times
pub record Repeats (old rs : List AddressRange) (at : ℤ) (stride : ℤ) (n : ℕ) (new : List AddressRange) : Type 0 where
  pub more : List AddressRange
  pub put : new ≡ old ++ more
  pub copies : AreCopies rs at stride n more

-- one range, which is as long as the stride
abbrev pub IsDense : ℤ → List AddressRange → Type 0
IsDense stride [] = ⊥
IsDense stride (r ∷ []) = IsAsLong stride r
IsDense stride (r ∷ s ∷ rs) = ⊥

-- ranges and an extent that can be repeated
pub record AreUsable (l : Laid) : Type 0 where
  pub filled : AllByRecursion IsFilled l.ranges.items
  pub near : AllByRecursion (IsNear (2 ^ 63)) l.ranges.items
  pub extent_near : unsigned_abs l.extent ≤ 2 ^ 63

-- they are those of a type of weight w
pub record AreOf (T : List Entry) (w : ℕ) (l : Laid) : Type 0 where
  pub laid : IsLaid l.ranges.items T w
  pub extent_is : l.extent ≡ extent T

abbrev pub element : List Entry → ℕ → Old
element T w = record { weight = w; size = size T; extent = extent T }

-- the ranges of a map of weight w were put in
pub record Adds (old new : List AddressRange) (es : List Entry) (w : ℕ) : Type 0 where
  pub more : List AddressRange
  pub put : new ≡ old ++ more
  pub laid : IsLaid more es w

-- the array that a part lies in is within reach
abbrev pub HasRoom : ℤ → Construct → Type 0
HasRoom e (Subarray order dims old) = cells_in dims * unsigned_abs e ≤ 2 ^ 62
HasRoom e _ = Unit {0}
