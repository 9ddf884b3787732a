-- What the rules of one rank find in a run: a question with one answer, asked at each rank, call, rule and part.
use Rattle.std.specs.Prelude.{◌≡◌, ◌↔◌, ℕ, ◌<◌, List, Option, Some, None, slice_get}
use Rattle.must_find.specs.declared.rule.Rule.{Rule}
use Rattle.must_find.specs.declared.finding.Finding.{Finding}
use Rattle.must_base.specs.Listing.{Has}
use Rattle.must_rules.specs.Run.{Run, Mode, Recorded, size_of}
use Rattle.must_rules.specs.Answer.{Answer}
use Rattle.must_rules.specs.Rank.{Rank}
use Rattle.must_rules.specs.Local.{local_finding}

-- what is known of a rank of a run
abbrev pub rank_in : ℕ → ℕ → Recorded → Rank
rank_in size rank recorded = record { rank = rank; size = size; version = recorded.version; tag_ub = recorded.tag_ub }

-- what a rule finds by looking at one rank alone; a rank that isn't there has none
abbrev pub finding_in : ℕ → ℕ → Option Recorded → (call : ℕ) → Rule → (part : ℕ) → Option Answer
finding_in size rank None call rule part = None
finding_in size rank (Some recorded) call rule part = local_finding (rank_in size rank recorded) recorded.calls call rule part

-- what a rule finds at a part of a call of a rank: its see and value, or nothing
abbrev pub finding_at : Run → Mode → (rank call : ℕ) → Rule → (part : ℕ) → Option Answer
finding_at run mode rank call rule part = finding_in (size_of run) rank (slice_get run.ranks rank) call rule part

-- a rule gives this finding at its place
abbrev pub IsFinding : Run → Mode → Finding → Type 0
IsFinding run mode f = finding_at run mode f.rank f.call f.rule f.part ≡ Some (f.see, f.value)

-- what stands there are the findings of the ranks below this one
pub record HasRanksBelow (run : Run) (mode : Mode) (rank : ℕ) (fs : List Finding) : Type 0 where
  pub exact : (f : Finding) → Has fs f ↔ ((f.rank < rank) × IsFinding run mode f)
