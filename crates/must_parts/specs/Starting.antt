-- The requests that a call starts, by what is known of them, and the operations that it begins so.
use Rattle.std.specs.Prelude.{ℕ, Bool, not, ◌&&◌, if◌then◌else◌, List, [], ◌∷◌, ◌++◌, take, Option, Some, None, is_none, slice_get}
use Rattle.must_rules.specs.Answer.{Answer}
use Rattle.must_rules.specs.Making.{is_in}
use Rattle.must_rules.specs.ArgumentHandles.{StartOf}
use Rattle.must_rules.specs.Parts.{Part}
use Rattle.must_rules.specs.PendingOperations.{Operation, with_started, clash_of}

-- the call is clear, and the request isn't active and doesn't stand in the list before
abbrev pub starts_now : (clear : Bool) → StartOf → (again : Bool) → ℕ → Bool
starts_now clear starts again request = clear && (is_none (starts request) && not again)

-- each of the requests of a list behind others, where the call starts it if it's a live persistent one
abbrev pub starting : (clear : Bool) → StartOf → (before : List ℕ) → List ℕ → List (Option ℕ)
starting clear starts before [] = []
starting clear starts before (request ∷ requests) =
    (if starts_now clear starts (is_in before request) request then Some request else None) ∷ starting clear starts (before ++ request ∷ []) requests

-- the part of a request that is started
abbrev pub part_for : (part : ℕ → Option Part) → Option ℕ → Option Part
part_for part None = None
part_for part (Some request) = part request

abbrev pub begun_for : (call : ℕ) → (part : ℕ → Option Part) → Option ℕ → List Operation → List Operation
begun_for call part None others = others
begun_for call part (Some request) others = with_started call request (part request) others

-- the operations that a call begins for these requests
abbrev pub begun_by : (call : ℕ) → (part : ℕ → Option Part) → List (Option ℕ) → List Operation
begun_by call part [] = []
begun_by call part (o ∷ os) = begun_for call part o (begun_by call part os)

abbrev pub part_in : (part : ℕ → Option Part) → Option (Option ℕ) → Option Part
part_in part None = None
part_in part (Some o) = part_for part o

-- what T3 says at an index of these requests, beside operations that are pending
abbrev pub clash_started : (rank call : ℕ) → (part : ℕ → Option Part) → List Operation → List (Option ℕ) → (index : ℕ) → Option Answer
clash_started rank call part ops os index = clash_of rank (ops ++ begun_by call part (take index os)) (part_in part (slice_get os index))
