-- What the families of rules add at a call, by what the walk keeps.
use Rattle.std.specs.Prelude.{◌≡◌, ◌⊎◌, ◌↔◌, ℕ, ℤ, option_map, Bool, true, false, List, length, Option, Some, None, slice_get}
use Rattle.must_call.specs.declared.class.Class.{Class}
use Rattle.must_call.specs.declared.class.Class.TheVariants.{Comm, Group, Datatype, Operation, Request}
use Rattle.must_call.specs.declared.life.Life.{Life}
use Rattle.must_call.specs.declared.life.Life.TheVariants.{Live}
use Rattle.must_call.specs.declared.call.Call.{Call}
use Rattle.must_find.specs.declared.rule.Rule.{Rule}
use Rattle.must_find.specs.declared.rule.Rule.TheVariants.{I1, I2, I3, S1, C6, L1, L2, L3, L4, L5}
use Rattle.must_find.specs.declared.finding.Finding.{Finding}
use Rattle.must_base.specs.Listing.{Has, Rises}
use Rattle.must_find.specs.Order.{by_all}
use Rattle.must_rules.specs.Rank.{Rank}
use Rattle.must_rules.specs.Local.{IsBehind, IsWhole, breaches_at, operation_untaken}
use Rattle.must_rules.specs.Answer.{Answer, alone, at_part}
use Rattle.must_rules.specs.Statuses.{status_contradicts}
use Rattle.must_rules.specs.Breaches.{IsBreach}
use Rattle.must_parts.specs.Rows.{BufferRows}
use Rattle.must_rules.specs.WrongLaws.{place_behind}
use Rattle.must_rules.specs.Frames.{is_init, first_init, first_finalize, init_answer, seeing, no_finalize}
use Rattle.must_rules.specs.Lives.{open_handles}
use Rattle.must_rules.specs.Leaks.{leak, ends_rank}

-- the finding stands at this call and rule, and its part's answer is this
pub record IsOfRule (rank call : ℕ) (rule : Rule) (answers : ℕ → Option Answer) (f : Finding) : Type 0 where
  pub rank_is : f.rank ≡ rank
  pub call_is : f.call ≡ call
  pub rule_is : f.rule ≡ rule
  pub gives : answers f.part ≡ Some (f.see, f.value)

-- what contradicts a call's own status sees no other call
abbrev pub own_answer : Option ℤ → Option Answer
own_answer value = option_map alone value

-- S1
abbrev pub StatusRows : Rank → List Call → Call → Finding → Type 0
StatusRows r calls call f = IsOfRule r.rank (length calls) S1 (status_contradicts r calls call) f

-- I1 and I2, by the first Init and the first Finalize
abbrev pub FrameRows : ℕ → ℕ → Option ℕ → Option ℕ → Call → Finding → Type 0
FrameRows rank k init finalize call f = IsOfRule rank k I1 (at_part 0 (init_answer rank (is_init call) init)) f ⊎ IsOfRule rank k I2 (at_part 0 (seeing rank finalize)) f

-- A1 to A7 and H1 to H5
abbrev pub ArgumentRows : Rank → List Call → Call → Finding → Type 0
ArgumentRows r calls call f = IsBreach (place_behind r calls) (breaches_at r calls call) f

-- C6
abbrev pub OperationRows : Rank → List Call → Call → Finding → Type 0
OperationRows r calls call f = IsOfRule r.rank (length calls) C6 (at_part 0 (operation_untaken r calls call)) f

-- a handle, where it is live
abbrev pub open_one : ℕ → Life → Option (ℕ × ℕ)
open_one number (Live made) = Some (number, made)
open_one number _ = None

-- the open handles of a class at the first Finalize
abbrev pub ClassRows : ℕ → ℕ → Class → Rule → List Call → Finding → Type 0
ClassRows rank k class rule calls f = IsOfRule rank k rule (λ part. leak rank (slice_get (open_handles calls class) part)) f

-- L1 to L5
abbrev pub LeakRows : ℕ → ℕ → List Call → Finding → Type 0
LeakRows rank k calls f = ClassRows rank k Datatype L1 calls f ⊎ (ClassRows rank k Comm L2 calls f ⊎ (ClassRows rank k Group L3 calls f ⊎ (ClassRows rank k Operation L4 calls f ⊎ ClassRows rank k Request L5 calls f)))

abbrev pub LeakRowsAt : ℕ → ℕ → Bool → List Call → Finding → Type 0
LeakRowsAt rank k true calls f = LeakRows rank k calls f
LeakRowsAt rank k false calls f = ⊥

-- those that are added as a call is taken: of its statuses and of its buffers
abbrev pub LateRows : Rank → List Call → Call → Finding → Type 0
LateRows r calls call f = StatusRows r calls call f ⊎ BufferRows (place_behind r calls) r calls call f

-- those of all other rules
abbrev pub RowsBeside : Rank → List Call → Call → Finding → Type 0
RowsBeside r calls call f =
    FrameRows r.rank (length calls) (first_init calls) (first_finalize calls) call f
    ⊎ (ArgumentRows r calls call f ⊎ (OperationRows r calls call f ⊎ LeakRowsAt r.rank (length calls) (ends_rank calls call) calls f))

-- exactly these
pub record HasRowsBeside (r : Rank) (calls : List Call) (call : Call) (rows : List Finding) : Type 0 where
  pub exact : (f : Finding) → Has rows f ↔ RowsBeside r calls call f

-- the rows of a call, in order
pub record RowsAt (r : Rank) (calls : List Call) (call : Call) (rows : List Finding) : Type 0 where
  pub rises : Rises by_all rows
  pub exact : (f : Finding) → Has rows f ↔ IsBehind r calls call f

-- I3
abbrev pub MissingRows : Rank → List Call → Finding → Type 0
MissingRows r calls f = IsOfRule r.rank (length calls) I3 (at_part 0 (no_finalize calls)) f

pub record HasMissing (r : Rank) (calls : List Call) (rows : List Finding) : Type 0 where
  pub exact : (f : Finding) → Has rows f ↔ MissingRows r calls f

-- the rows that all calls give at the end, in order
pub record RowsAtEnd (r : Rank) (calls : List Call) (rows : List Finding) : Type 0 where
  pub rises : Rises by_all rows
  pub exact : (f : Finding) → Has rows f ↔ IsWhole r calls f
