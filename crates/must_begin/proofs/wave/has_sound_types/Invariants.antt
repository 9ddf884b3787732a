use Rattle.std.proofs.Common.{◌≡◌, ℕ, true, map, take, Option}
use Rattle.must_call.specs.Arguments.{seen}
use Rattle.must_type.specs.Tree.{TypeTree}
use Rattle.must_args.specs.Settings.{has_sense}
use Rattle.must_messages.specs.CallNeeds.{has_sound_types}
use Rattle.must_items.specs.Typed.{HasTypes}
use Rattle.must_begin.proofs.wave.has_sound_types.Given as goal

abbrev pub invariant-loop-argument : goal.invariant-loop-argument
invariant-loop-argument l = (trees : ℕ → Option TypeTree) → HasTypes l.types trees → has_sound_types (has_sense l.setting) trees (map seen (take l.argument-index l.arguments)) ≡ true
