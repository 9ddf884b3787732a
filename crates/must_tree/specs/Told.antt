-- The bytes of the files of a run, where they are told, and what the parts that read them show.
use Rattle.std.specs.Prelude.{◌≡◌, ℕ, ◌++◌, List, length, Option, Some, None, slice_get}
use Rattle.must_base.specs.Causes.{Rose}
use Rattle.must_base.specs.Views.{SourceView}
use Rattle.must_format.specs.declared.cause.Cause.TheVariants as cause
use Rattle.must_format.specs.declared.fault.StreamFault.{StreamFault}
use Rattle.must_format.specs.declared.fault.StreamFault.TheVariants as fault
use Rattle.must_rules.specs.Streams.{Refused}

-- the count of a part, which begins at 0, has risen
abbrev pub HasFailed : SourceView → Type 0
HasFailed p = Rose 0 p.faults

abbrev pub flat : {A : Type 0} → Option (Option A) → Option A
flat None = None
flat (Some o) = o

-- the bytes of a rank's file, where they are told
abbrev pub told_at : List (Option (List ℕ)) → ℕ → Option (List ℕ)
told_at told rank = flat (slice_get told rank)

-- what was taken of these bytes and what is left are together these bytes
abbrev pub IsLeftOf : List ℕ → Option (List ℕ) → Type 0
IsLeftOf bytes left = (taken rest : List ℕ) × (left ≡ Some rest) × (bytes ≡ taken ++ rest)

-- the stream ends too early
abbrev pub IsTooShort : StreamFault → Type 0
IsTooShort f = (at : ℕ) × (f ≡ fault.Malformed at cause.Truncated)

-- What was taken of the bytes of a rank's file shows no refusal, but that it ends too early.
abbrev pub ShowsNoRefusal : ℕ → ℕ → List ℕ → Option (List ℕ) → Type 0
ShowsNoRefusal rank n bytes left = (taken rest : List ℕ) × (left ≡ Some rest) × (bytes ≡ taken ++ rest)
    × ((f : StreamFault) → Refused rank n taken f → IsTooShort f)

-- Each part is that of its rank's file: there are as many as files, and where the bytes of a file are told, what was
-- taken from its part and what is left are together these bytes.
pub record AreTied (told : List (Option (List ℕ))) (parts : List SourceView) : Type 0 where
  pub count : length parts ≡ length told
  pub each : (rank : ℕ) (bytes : List ℕ) → told_at told rank ≡ Some bytes
      → (part : SourceView) × (slice_get parts rank ≡ Some part) × IsLeftOf bytes part.left
