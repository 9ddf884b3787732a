-- The kinds of calls and their numbers.
use Rattle.std.specs.Prelude.{ℕ, ◌-◌, ◌==◌, nat_lt, if◌then◌else◌, slice_get, Option, None}
use Rattle.must_call.specs.declared.kind.Kind.{Kind}
use Rattle.must_call.specs.declared.kind.TheConstants.{KINDS}
use Rattle.must_call.specs.declared.body.Body.{Body}
use Rattle.must_call.specs.Fields.{row}
use Rattle.must_call.specs.Bodies.{told}

-- the number that stands for a kind in a record
abbrev pub number_of : Kind → ℕ
number_of k = (row k).number

-- how many kinds a version knows: those of the least numbers
abbrev pub known : ℕ → ℕ
known version = if version == 1 then 67 else if version == 2 then 79 else 0

-- the kind with this number in a version
unfoldable pub kind_at : ℕ → ℕ → Option Kind
kind_at version n = if n == 0 then None else if nat_lt (known version) n then None else slice_get KINDS (n - 1)

-- the kind of a call
abbrev pub kind_of : Body → Kind
kind_of b = (told b).0
