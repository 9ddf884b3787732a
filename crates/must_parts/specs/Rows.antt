-- The rows that the parts of a call give.
use Rattle.std.specs.Prelude.{◌≡◌, ◌⊎◌, ℕ, ◌<◌, Bool, true, List, Option, Some}
use Rattle.std.specs.List.{AllByRecursion}
use Rattle.must_call.specs.declared.place.Place.{Place}
use Rattle.must_call.specs.declared.call.Call.{Call}
use Rattle.must_format.specs.declared.cause.Limit.{Limit}
use Rattle.must_format.specs.declared.cause.Limit.TheVariants.{PendingWeight}
use Rattle.must_find.specs.declared.rule.Rule.{Rule}
use Rattle.must_find.specs.declared.rule.Rule.TheVariants.{T1, T2, T3}
use Rattle.must_find.specs.declared.finding.Finding.{Finding}
use Rattle.must_rules.specs.Answer.{Answer}
use Rattle.must_rules.specs.Parts.{Part}
use Rattle.must_rules.specs.Overlaps.{overlap_within, overlap_between}
use Rattle.must_rules.specs.Rank.{Rank}
use Rattle.must_rules.specs.PendingOperations.{parts_behind, pending_clash}
use Rattle.must_parts.specs.declared.fault.BuffersFault.{BuffersFault}
use Rattle.must_parts.specs.declared.fault.BuffersFault.TheVariants.{TooWide, NoMemory}

-- parts have the numbers 0 and 1 alone
abbrev pub HaveNumbers : List Part → Type 0
HaveNumbers ps = AllByRecursion (λ p. p.number < 2) ps

-- the finding stands at this call and rule, and its part's answer is this
pub record IsOfRule (at : Place) (rule : Rule) (answers : ℕ → Option Answer) (f : Finding) : Type 0 where
  pub rank_is : f.rank ≡ at.rank
  pub call_is : f.call ≡ at.call
  pub rule_is : f.rule ≡ rule
  pub gives : answers f.part ≡ Some (f.see, f.value)

-- T1 and T2
abbrev pub OverlapRows : Place → List Part → Finding → Type 0
OverlapRows at ps f = IsOfRule at T1 (overlap_within ps) f ⊎ IsOfRule at T2 (overlap_between ps) f

-- T1, T2 and T3 at a call behind the earlier ones
abbrev pub BufferRows : Place → Rank → (earlier : List Call) → Call → Finding → Type 0
BufferRows at r earlier call f = OverlapRows at (parts_behind r earlier call) f ⊎ IsOfRule at T3 (pending_clash r earlier call) f

-- a fault other than want of memory is this limit
abbrev pub IsPendingLimit : Option Limit → BuffersFault → Type 0
IsPendingLimit reached TooWide = reached ≡ Some PendingWeight
IsPendingLimit reached NoMemory = Unit {0}

-- the same where it is told whether the limit is reached
abbrev pub IsWide : (wide : Bool) → BuffersFault → Type 0
IsWide wide TooWide = wide ≡ true
IsWide wide NoMemory = Unit {0}
