use Rattle.std.proofs.Common.{◌≡◌, ℕ, map, take, Option}
use Rattle.must_call.specs.Arguments.{seen}
use Rattle.must_type.specs.Tree.{TypeTree}
use Rattle.must_args.specs.Settings.{has_sense}
use Rattle.must_items.specs.CollectiveItems.{all_sound}
use Rattle.must_items.specs.Typed.{HasTypes}
use Rattle.must_items.proofs.named.all_sound.Given as goal

abbrev pub invariant-loop-argument : goal.invariant-loop-argument
invariant-loop-argument g l = (trees : ℕ → Option TypeTree) → HasTypes l.types trees → l.sound ≡ all_sound (g.V.View.facts l.view) trees (has_sense l.setting) (map seen (take l.argument-index l.arguments))
