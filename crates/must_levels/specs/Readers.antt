-- What was read of the ranks, rank by rank, and which of them has a fault (docs/THREADS.md, "The tree").
use Rattle.std.specs.Prelude.{◌≡◌, ◌⊎◌, ℕ, ◌+◌, List, [], ◌∷◌, ◌++◌, Option, Some, None, Result, Ok, Err}
use Rattle.std.specs.List.{flat_map}
use Rattle.must_format.specs.declared.fault.StreamFault.{StreamFault}
use Rattle.must_format.specs.declared.fault.StreamFault.TheVariants as fault
use Rattle.must_entry.specs.declared.range.RankRange.{RankRange}
use Rattle.must_entry.specs.declared.batch.Batch.{Batch}
use Rattle.must_entry.specs.Lawful.{IsLawful}
use Rattle.must_levels.specs.declared.fault.RunFault.{RunFault}
use Rattle.must_levels.specs.declared.fault.RunFault.TheVariants as run_fault

abbrev pub one_rank : ℕ → RankRange
one_rank rank = record { from = rank; to = rank + 1 }

-- the fault of a run, by the fault of a rank's stream
abbrev pub fault_at : ℕ → StreamFault → RunFault
fault_at rank (fault.Malformed at cause) = run_fault.Stream rank (fault.Malformed at cause)
fault_at rank (fault.Bound at limit) = run_fault.Stream rank (fault.Bound at limit)
fault_at rank fault.Read = run_fault.Stream rank fault.Read
fault_at rank fault.NoMemory = run_fault.NoMemory

-- a reader that gave these batches of a rank was asked for the next; `now` and `reader` are how its part and it are after that
abbrev pub Gives : {S M : Type 0} → (gave : (size rank : ℕ) → (first now : S) → M → List Batch → Type 0) → (whole : (size rank : ℕ) → (first now : S) → List Batch → Type 0) → (failed : (size rank : ℕ) → (first now : S) → StreamFault → Type 0) → (size rank : ℕ) → (first now : S) → (reader : M) → List Batch → Result (Option Batch) StreamFault → Type 0
Gives gave whole failed size rank first now reader given (Ok (Some b)) = gave size rank first now reader (given ++ b ∷ [])
Gives gave whole failed size rank first now reader given (Ok None) = whole size rank first now given
Gives gave whole failed size rank first now reader given (Err (fault.Malformed at cause)) = failed size rank first now (fault.Malformed at cause)
Gives gave whole failed size rank first now reader given (Err (fault.Bound at limit)) = failed size rank first now (fault.Bound at limit)
Gives gave whole failed size rank first now reader given (Err fault.Read) = failed size rank first now fault.Read
Gives gave whole failed size rank first now reader given (Err fault.NoMemory) = Unit {0}

-- each part stands in `since` to what it was at first
abbrev pub AreSince : {S : Type 0} → (since : S → S → Type 0) → (olds news : List S) → Type 0
AreSince since [] [] = Unit {0}
AreSince since [] (q ∷ qs) = ⊥
AreSince since (p ∷ ps) [] = ⊥
AreSince since (p ∷ ps) (q ∷ qs) = since p q × AreSince since ps qs

-- These lists are, one for each rank from this one on, all of its batches. `whole` and `failed` are those of a reader at the number of
-- ranks.
abbrev pub AreWhole : {S : Type 0} → (whole : ℕ → S → S → List Batch → Type 0) → (from : ℕ) → (olds news : List S) → List (List Batch) → Type 0
AreWhole whole from [] [] [] = Unit {0}
AreWhole whole from [] [] (l ∷ ls) = ⊥
AreWhole whole from [] (q ∷ qs) ls = ⊥
AreWhole whole from (p ∷ ps) [] ls = ⊥
AreWhole whole from (p ∷ ps) (q ∷ qs) [] = ⊥
AreWhole whole from (p ∷ ps) (q ∷ qs) (l ∷ ls) = whole from p q l × AreWhole whole (from + 1) ps qs ls

-- This rank stops with this fault, and all lower ones gave all of their batches; `from` is the rank of the first part.
abbrev pub IsLowestFault : {S : Type 0} → (whole : ℕ → S → S → List Batch → Type 0) → (failed : ℕ → S → S → StreamFault → Type 0) → (from : ℕ) → (olds news : List S) → (rank : ℕ) → StreamFault → Type 0
IsLowestFault whole failed from [] news rank f = ⊥
IsLowestFault whole failed from (p ∷ ps) [] rank f = ⊥
IsLowestFault whole failed from (p ∷ ps) (q ∷ qs) rank f = ((rank ≡ from) × failed from p q f) ⊎ (((given : List Batch) × whole from p q given) × IsLowestFault whole failed (from + 1) ps qs rank f)

-- the batches of several ranks, one rank behind the other
abbrev pub batches_in : List (List Batch) → List Batch
batches_in lists = flat_map (λ l. l) lists

-- each list is lawful for its rank; `from` is the rank of the first
abbrev pub AreRankLists : ℕ → List (List Batch) → Type 0
AreRankLists from [] = Unit {0}
AreRankLists from (l ∷ ls) = IsLawful (one_rank from) l × AreRankLists (from + 1) ls
