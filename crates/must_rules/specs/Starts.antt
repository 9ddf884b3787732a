-- The start of a request: the call that began the operation under way (MPI 3.1 sections 3.7 and 3.9).
use Rattle.std.specs.Prelude.{◌≡◌, ℕ, Bool, true, false, ◌&&◌, if◌then◌else◌, List, [], ◌∷◌, Option, Some, None, length, reverse, take, is_some}
use Rattle.must_call.specs.declared.class.Class.TheVariants.{Request}
use Rattle.must_call.specs.declared.life.Life.{Life}
use Rattle.must_call.specs.declared.life.Life.TheVariants.{Live}
use Rattle.must_call.specs.declared.call.Call.{Call}
use Rattle.must_call.specs.declared.body.Body.{Body}
use Rattle.must_call.specs.declared.body.Body.TheVariants.{Persist}
use Rattle.must_call.specs.declared.persist.Persist.TheVariants.{Start, Startall}
use Rattle.must_rules.specs.Search.{or_then, only_if}
use Rattle.must_rules.specs.Making.{is_in, completes, started_of}
use Rattle.must_rules.specs.Lives.{life, is_kept}

-- which call is clear behind which earlier ones
abbrev pub Clearness : Type 0
Clearness = List Call → Call → Bool

-- a clear call that starts requests names this one
unfoldable pub names_to_start : Clearness → List Call → Call → ℕ → Bool
names_to_start is_clear earlier call number = is_clear earlier call && is_in (started_of call.body) number

-- the last start of a persistent request that no later call completed, of calls of which the last stands first: a clear
-- call starts those that are live and not under way
abbrev pub under_way_by : Clearness → List Call → ℕ → Option ℕ
under_way_by is_clear [] number = None
under_way_by is_clear (last ∷ before) number =
    if completes Request number last then None
    else or_then (under_way_by is_clear before number) (only_if (names_to_start is_clear (reverse before) last number && is_kept (reverse before) Request number) (length before))

-- a request that isn't persistent is started by its making call
abbrev pub start_by : Bool → Option ℕ → Life → Option ℕ
start_by false under_way (Live made) = Some made
start_by true under_way (Live made) = under_way
start_by _ under_way _ = None

-- the start of a request that is live and active after these calls, and none of any other
unfoldable pub start_of : Clearness → List Call → ℕ → Option ℕ
start_of is_clear calls number = start_by (is_kept calls Request number) (under_way_by is_clear (reverse calls) number) (life calls Request number)

-- a live request is active
abbrev pub is_active : Clearness → List Call → ℕ → Bool
is_active is_clear calls number = is_some (start_of is_clear calls number)

-- the start of a request at an index of a call behind these: a clear call that named it at a lower index and started it
-- there is its start
abbrev pub start_at : Clearness → List Call → Call → (index number : ℕ) → Option ℕ
start_at is_clear earlier call index number =
    or_then (start_of is_clear earlier number) (only_if (is_clear earlier call && (is_in (take index (started_of call.body)) number && is_kept earlier Request number)) (length earlier))

abbrev pub is_start_kind : Body → Bool
is_start_kind (Persist (Start request)) = true
is_start_kind (Persist (Startall requests)) = true
is_start_kind _ = false

-- this is whether the call is clear behind the earlier ones, where it is one that starts requests
abbrev pub TellsClear : Clearness → List Call → Call → Bool → Type 0
TellsClear is_clear earlier call clear = is_start_kind call.body ≡ true → is_clear earlier call ≡ clear
