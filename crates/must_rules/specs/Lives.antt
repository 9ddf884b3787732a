-- The life of a handle at a call, by the earlier calls of its rank (MPI 3.1 sections 2.5, 3.7, 3.9, 4.1.9 and 6.4).
use Rattle.std.specs.Prelude.{ℕ, zero, suc, nat_le, Bool, true, false, not, ◌&&◌, ◌||◌, if◌then◌else◌, List, [], ◌∷◌, Option, Some, None, length, reverse, slice_get}
use Rattle.std.specs.List.{filter_map}
use Rattle.must_call.specs.declared.class.Class.{Class}
use Rattle.must_call.specs.declared.class.Class.TheVariants.{Comm, Group, Datatype, Operation, Request}
use Rattle.must_call.specs.declared.constants.TheConstants.{FIRST_MADE}
use Rattle.must_call.specs.declared.life.Life.{Life}
use Rattle.must_call.specs.declared.life.Life.TheVariants.{Never, Live, Freed, Predefined}
use Rattle.must_call.specs.declared.call.Call.{Call}
use Rattle.must_rules.specs.Search.{first_where, first_behind}
use Rattle.must_rules.specs.Making.{makes, frees, completes, persists, made_by, commits, copies}

-- the handles of a class that MPI names have the numbers from 1 to this one
abbrev pub last_predefined : Class → ℕ
last_predefined Comm = 2
last_predefined Group = 1
last_predefined Datatype = 30
last_predefined Operation = 12
last_predefined Request = 0

unfoldable pub is_predefined : Class → ℕ → Bool
is_predefined class number = nat_le 1 number && nat_le number (last_predefined class)

-- ---- life

-- a call ends a handle where it frees it in its class, or completes it and it isn't kept
abbrev pub ends : (is_kept : Bool) → Class → ℕ → Call → Bool
ends is_kept class number call = frees class number call || (not is_kept && completes class number call)

-- a persistent request is kept when it is completed
abbrev pub persists_in : Option Call → Bool
persists_in None = false
persists_in (Some maker) = persists maker

-- the life of a handle that call `made` made, by the first later call that ends it
abbrev pub life_from : ℕ → Option ℕ → Life
life_from made None = Live made
life_from made (Some freed) = Freed made freed

-- the life of a handle, by the first call that made it
abbrev pub life_by : List Call → Class → ℕ → Option ℕ → Life
life_by calls class number None = Never
life_by calls class number (Some made) = life_from made (first_behind made (ends (persists_in (slice_get calls made)) class number) calls)

-- the life of a handle after these calls: a number looked up in another class was never made
unfoldable pub life : List Call → Class → ℕ → Life
life calls class number =
    if is_predefined class number then Predefined else life_by calls class number (first_where (makes class number) calls)

abbrev pub is_live : Life → Bool
is_live (Live made) = true
is_live _ = false

-- a live handle of this life is a persistent request
abbrev pub is_kept_by : List Call → Life → Bool
is_kept_by calls (Live made) = persists_in (slice_get calls made)
is_kept_by calls _ = false

-- the handle is live after these calls, and a persistent request
unfoldable pub is_kept : List Call → Class → ℕ → Bool
is_kept calls class number = is_kept_by calls (life calls class number)

abbrev pub is_persistent : List Call → ℕ → Bool
is_persistent calls number = is_kept calls Request number

-- ---- live handles in order of number

abbrev pub with_live : ℕ → Life → List (ℕ × ℕ) → List (ℕ × ℕ)
with_live number (Live made) others = (number, made) ∷ others
with_live number _ others = others

-- the live handles of a class among so many numbers from this one on, each with its making call
abbrev pub live_among : List Call → Class → (count number : ℕ) → List (ℕ × ℕ)
live_among calls class zero number = []
live_among calls class (suc count) number = with_live number (life calls class number) (live_among calls class count (suc number))

-- how many handles these calls made
unfoldable pub made_count : List Call → ℕ
made_count calls = length (filter_map made_by calls)

-- the made handles of a class that are live after these calls, in order of number, each with its making call
unfoldable pub open_handles : List Call → Class → List (ℕ × ℕ)
open_handles calls class = live_among calls class (made_count calls) FIRST_MADE

-- ---- committed types

abbrev pub commits_live : Bool → Life → Bool
commits_live commits life = commits && is_live life

-- a type that copies another is committed where the other is
abbrev pub copies_committed : (ℕ → Bool) → Option ℕ → Bool
copies_committed is_committed None = false
copies_committed is_committed (Some old) = is_committed old

-- the same of calls of which the last stands first
abbrev pub committed_by : List Call → ℕ → Bool
committed_by [] number = is_predefined Datatype number
committed_by (last ∷ before) number =
    committed_by before number
    || (commits_live (commits number last) (life (reverse before) Datatype number) || copies_committed (committed_by before) (copies number last))

-- a type is committed after these calls: it is predefined, or was committed already before the last of them, or the last
-- committed it while it was live, or the last made it as a copy of a type that was committed then
unfoldable pub committed : List Call → ℕ → Bool
committed calls number = committed_by (reverse calls) number
