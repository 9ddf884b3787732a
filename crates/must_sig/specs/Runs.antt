-- Lists of runs.
use Rattle.std.specs.Prelude.{◌≡◌, ℕ, ◌*◌, ◌<◌, ◌≤◌, List, [], ◌∷◌, length}
use Rattle.std.specs.List.{AllByRecursion}
use Rattle.must_call.specs.declared.basic.Basic.{Basic}
use Rattle.must_sig.specs.declared.run.Run.{Run}
use Rattle.must_sig.specs.Signatures.{repeated, laid}

-- no run is empty
abbrev pub AreRuns : List Run → Type 0
AreRuns unit = AllByRecursion (λ r. 0 < r.length) unit

-- the first of some runs is of another basic type
abbrev pub IsOther : Run → List Run → Type 0
IsOther r [] = Unit {0}
IsOther r (s ∷ rs) = r.basic ≡ s.basic → ⊥

-- no two neighbours are of one basic type
abbrev pub AreMerged : List Run → Type 0
AreMerged [] = Unit {0}
AreMerged (r ∷ rs) = IsOther r rs × AreMerged rs

-- the last run is of this basic type
abbrev pub EndsWith : List Run → Basic → Type 0
EndsWith [] b = ⊥
EndsWith (r ∷ []) b = r.basic ≡ b
EndsWith (r ∷ s ∷ rs) b = EndsWith (s ∷ rs) b

-- The runs, so many times over, are n copies of some basic types; they are no longer than one copy, and not empty where
-- they stand there at all.
pub record StandFor (runs : List Run) (times n : ℕ) (bs : List Basic) : Type 0 where
  pub same : repeated times (laid runs) ≡ repeated n bs
  pub short : length (laid runs) ≤ length bs
  pub some : times ≤ times * length (laid runs)
  pub filled : AreRuns runs
  pub merged : AreMerged runs
