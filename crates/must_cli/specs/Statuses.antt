-- What the statuses say (README.md, "Answers").
use Rattle.std.specs.Prelude.{ℕ, Bool, true, false}
use Rattle.must_format.specs.declared.fault.StreamFault.{StreamFault}
use Rattle.must_format.specs.declared.fault.StreamFault.TheVariants as fault
use Rattle.must_cli.specs.declared.status.Status.{Status}
use Rattle.must_cli.specs.declared.status.Status.TheVariants.{Clean, Found, Usage, Malformed, Outside, Bound, NoMemory, Settings}

abbrev pub number_of : Status → ℕ
number_of Clean = 0
number_of Found = 1
number_of Usage = 2
number_of Malformed = 3
number_of Outside = 4
number_of Bound = 5
number_of NoMemory = 6
number_of Settings = 7

-- what was asked for was put
abbrev pub IsSuccess : Status → Type 0
IsSuccess Clean = Unit {0}
IsSuccess Found = Unit {0}
IsSuccess Usage = ⊥
IsSuccess Malformed = ⊥
IsSuccess Outside = ⊥
IsSuccess Bound = ⊥
IsSuccess NoMemory = ⊥
IsSuccess Settings = ⊥

-- a stream is refused
abbrev pub IsRefusal : Status → Type 0
IsRefusal Clean = ⊥
IsRefusal Found = ⊥
IsRefusal Usage = ⊥
IsRefusal Malformed = Unit {0}
IsRefusal Outside = ⊥
IsRefusal Bound = Unit {0}
IsRefusal NoMemory = ⊥
IsRefusal Settings = ⊥

-- the report has a line of a finding
abbrev pub is_found : Status → Bool
is_found Clean = false
is_found Found = true
is_found Usage = false
is_found Malformed = false
is_found Outside = false
is_found Bound = false
is_found NoMemory = false
is_found Settings = false

-- the status of a stream's fault
abbrev pub status_for : StreamFault → Status
status_for (fault.Malformed at cause) = Malformed
status_for (fault.Bound at limit) = Bound
status_for fault.Read = Outside
status_for fault.NoMemory = NoMemory
