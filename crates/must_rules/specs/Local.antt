-- The findings of one rank's calls.
use Rattle.std.specs.Prelude.{◌≡◌, ℕ, ◌==◌, if◌then◌else◌, List, Option, Some, None, length, take, slice_get}
use Rattle.must_call.specs.declared.class.Class.TheVariants.{Comm, Group, Datatype, Operation, Request}
use Rattle.must_call.specs.declared.call.Call.{Call}
use Rattle.must_find.specs.declared.rule.Rule.{Rule}
use Rattle.must_find.specs.declared.rule.Rule.TheVariants.{I1, I2, I3, A1, A2, A3, A4, A5, A6, A7, H1, H2, H3, H4, H5, T1, T2, T3, S1, N1, C6, L1, L2, L3, L4, L5}
use Rattle.must_find.specs.declared.finding.Finding.{Finding}
use Rattle.must_rules.specs.Answer.{Answer, at_part}
use Rattle.must_rules.specs.Rank.{Rank}
use Rattle.must_rules.specs.Starts.{start_of}
use Rattle.must_rules.specs.Breaches.{Breach, answer_at}
use Rattle.must_rules.specs.Clear.{argument_breaches}
use Rattle.must_rules.specs.Known.{facts_of, clear_behind}
use Rattle.must_rules.specs.Types.{sound_type}
use Rattle.must_rules.specs.Reductions.{wrong_operation}
use Rattle.must_rules.specs.Overlaps.{overlap_within, overlap_between}
use Rattle.must_rules.specs.PendingOperations.{parts_behind, pending_clash}
use Rattle.must_rules.specs.Statuses.{status_contradicts, open_wildcard}
use Rattle.must_rules.specs.Frames.{outside_init, after_finalize, no_finalize}
use Rattle.must_rules.specs.Leaks.{not_freed}

-- rules A1 to A7 and H1 to H5 at a call, by what its rank knows of its handles
unfoldable pub breaches_at : Rank → (earlier : List Call) → Call → List Breach
breaches_at r earlier call = argument_breaches (facts_of r earlier) (start_of (clear_behind r) earlier) (length earlier) call.body

abbrev pub wrong_argument : Rank → (earlier : List Call) → Call → Rule → (part : ℕ) → Option Answer
wrong_argument r earlier call rule part = answer_at r.rank (breaches_at r earlier call) rule part

-- rule C6 at a call
unfoldable pub operation_untaken : Rank → (earlier : List Call) → Call → Option Answer
operation_untaken r earlier call = wrong_operation (facts_of r earlier) (sound_type (clear_behind r) earlier) call.body

-- what a rule finds at a call by looking at it and at the earlier calls of its rank
abbrev pub finding_behind : Rank → (earlier : List Call) → Call → Rule → (part : ℕ) → Option Answer
finding_behind r earlier call I1 part = at_part 0 (outside_init r earlier call) part
finding_behind r earlier call I2 part = at_part 0 (after_finalize r earlier) part
finding_behind r earlier call A1 part = wrong_argument r earlier call A1 part
finding_behind r earlier call A2 part = wrong_argument r earlier call A2 part
finding_behind r earlier call A3 part = wrong_argument r earlier call A3 part
finding_behind r earlier call A4 part = wrong_argument r earlier call A4 part
finding_behind r earlier call A5 part = wrong_argument r earlier call A5 part
finding_behind r earlier call A6 part = wrong_argument r earlier call A6 part
finding_behind r earlier call A7 part = wrong_argument r earlier call A7 part
finding_behind r earlier call H1 part = wrong_argument r earlier call H1 part
finding_behind r earlier call H2 part = wrong_argument r earlier call H2 part
finding_behind r earlier call H3 part = wrong_argument r earlier call H3 part
finding_behind r earlier call H4 part = wrong_argument r earlier call H4 part
finding_behind r earlier call H5 part = wrong_argument r earlier call H5 part
finding_behind r earlier call T1 part = overlap_within (parts_behind r earlier call) part
finding_behind r earlier call T2 part = overlap_between (parts_behind r earlier call) part
finding_behind r earlier call T3 part = pending_clash r earlier call part
finding_behind r earlier call S1 part = status_contradicts r earlier call part
finding_behind r earlier call C6 part = at_part 0 (operation_untaken r earlier call) part
finding_behind r earlier call L1 part = not_freed Datatype r earlier call part
finding_behind r earlier call L2 part = not_freed Comm r earlier call part
finding_behind r earlier call L3 part = not_freed Group r earlier call part
finding_behind r earlier call L4 part = not_freed Operation r earlier call part
finding_behind r earlier call L5 part = not_freed Request r earlier call part
finding_behind r earlier call rule part = None

-- what a rule finds at call k by looking at all calls of its rank; k may be one past the last
abbrev pub finding_whole : Rank → (calls : List Call) → (k : ℕ) → Rule → (part : ℕ) → Option Answer
finding_whole r calls k I3 part = if k == length calls then at_part 0 (no_finalize calls) part else None
finding_whole r calls k N1 part = open_wildcard r calls k part
finding_whole r calls k rule part = None

abbrev pub finding_here : Rank → List Call → Option Call → Rule → ℕ → Option Answer
finding_here r earlier None rule part = None
finding_here r earlier (Some call) rule part = finding_behind r earlier call rule part

-- either, of which one at most finds something
abbrev pub either : Option Answer → Option Answer → Option Answer
either None other = other
either (Some answer) other = Some answer

-- what a rule finds at a part of call k of a rank
abbrev pub local_finding : Rank → (calls : List Call) → (k : ℕ) → Rule → (part : ℕ) → Option Answer
local_finding r calls k rule part = either (finding_here r (take k calls) (slice_get calls k) rule part) (finding_whole r calls k rule part)

-- a rule gives this finding at its place
pub record IsLocal (r : Rank) (calls : List Call) (f : Finding) : Type 0 where
  pub rank_is : f.rank ≡ r.rank
  pub gives : local_finding r calls f.call f.rule f.part ≡ Some (f.see, f.value)

-- the finding stands at this call, by the call and the earlier ones
pub record IsBehind (r : Rank) (earlier : List Call) (call : Call) (f : Finding) : Type 0 where
  pub rank_is : f.rank ≡ r.rank
  pub call_is : f.call ≡ length earlier
  pub gives : finding_behind r earlier call f.rule f.part ≡ Some (f.see, f.value)

-- the finding stands at a call that is there, by that call and the earlier ones
pub record IsHere (r : Rank) (calls : List Call) (f : Finding) : Type 0 where
  pub rank_is : f.rank ≡ r.rank
  pub gives : finding_here r (take f.call calls) (slice_get calls f.call) f.rule f.part ≡ Some (f.see, f.value)

-- the finding stands there by all calls
pub record IsWhole (r : Rank) (calls : List Call) (f : Finding) : Type 0 where
  pub rank_is : f.rank ≡ r.rank
  pub gives : finding_whole r calls f.call f.rule f.part ≡ Some (f.see, f.value)
