-- Looking for the first call of a list that meets a test.
use Rattle.std.specs.Prelude.{ℕ, ◌+◌, Bool, List, Option, Some, None, drop, if◌then◌else◌}
use Rattle.std.specs.List.{position_from}
use Rattle.must_call.specs.declared.call.Call.{Call}

-- the number of the first call that meets the test
abbrev pub first_where : (Call → Bool) → List Call → Option ℕ
first_where test calls = position_from test 0 calls

-- the number of the first call behind call k that meets the test
abbrev pub first_behind : ℕ → (Call → Bool) → List Call → Option ℕ
first_behind k test calls = position_from test (k + 1) (drop (k + 1) calls)

-- the first of two, where it is there
abbrev pub or_then : Option ℕ → Option ℕ → Option ℕ
or_then None other = other
or_then (Some k) other = Some k

abbrev pub only_if : Bool → ℕ → Option ℕ
only_if b k = if b then Some k else None
