-- What the tables of a rank tell of buffers.
use Rattle.std.proofs.Common.{◌≡◌, ℕ, List, Option, Some, None, refl, sym, ap, subst, ◌∙◌}
use Rattle.std.specs.Prelude.{is_some}
use mathlib.Core.Path.{fun_ext}
use Rattle.must_call.specs.declared.class.Class.TheVariants.{Datatype}
use Rattle.must_call.specs.declared.call.Call.{Call}
use Rattle.must_format.specs.declared.cause.Limit.{Limit}
use Rattle.must_format.specs.declared.cause.Limit.TheVariants.{PendingWeight}
use Rattle.must_rules.specs.Rank.{Rank}
use Rattle.must_rules.specs.Known.{clear_behind}
use Rattle.must_rules.specs.Lives.{life}
use Rattle.must_rules.specs.Starts.{start_of}
use Rattle.must_rules.specs.Types.{type_of, sound_type}
use Rattle.must_rules.specs.PendingOperations.{pending_limit_at}
use Rattle.must_rules.specs.Limits.{or_limit, handle_limit_at, limit_at}
use Rattle.must_handle.specs.Slots.{start_in}
use Rattle.must_derived.specs.Numbers.{number_of}
use Rattle.must_derived.specs.StandingLaws.{number_sound}
use Rattle.must_parts.specs.Telling.{Sees}
use Rattle.must_parts.specs.Rows.{IsPendingLimit}
use Rattle.must_parts.specs.declared.fault.BuffersFault.TheVariants.{TooWide}
use Rattle.must_local.specs.declared.handles.Handles.{Handles}
use Rattle.must_local.specs.declared.fault.WalkFault.TheVariants as walk_fault
use Rattle.must_local.specs.HandlesKnown.{facts_in, sound_in, HandlesStand, IsLimitAt}
use Rattle.must_local.proofs.Facing.{facts_are}

-- what is asked at a call is what its rank knows
pub sees : (r : Rank) (h : Handles) (calls : List Call) → HandlesStand r h calls → Sees r calls (facts_in h) (sound_in h) (λ n. start_in h.lives n) h.types
sees r h calls s = record {
  facts_are = facts_are r h calls s;
  sound_are = fun_ext (λ (n : ℕ). number_sound (number_of h.types.numbers n) h.types.table.slots (life calls Datatype n) (type_of (clear_behind r) calls n) (s.types.fits n));
  starts_are = fun_ext (λ (n : ℕ). s.lives.starts n);
  stands = s.types;
}

-- the limit of its buffers is the call's
pub pending_first : (pending other : Option Limit) (call : ℕ) → IsPendingLimit pending TooWide → IsLimitAt call (or_limit pending other) (walk_fault.TooWide call PendingWeight)
pending_first pending other call reached = (refl, ap (λ (o : Option Limit). or_limit o other) reached)
