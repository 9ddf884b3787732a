use Rattle.std.proofs.Common.{ℕ, ◌+◌, ◌≡◌, Bool, ◌||◌, ◌&&◌, ap, ◌∙◌, nat_eq}
use Rattle.std.specs.Prelude.{if◌then◌else◌}
use Rattle.must_call.specs.Arguments.{seen, all_seen}
use Rattle.must_args.specs.Settings.{usable_field, usable_from}
use Rattle.must_args.specs.AskingLaws.{all_there}
use Rattle.must_args.proofs.Asking.{usable_here}
use Rattle.must_args.proofs.Steps.{usable_step}
use Rattle.must_args.proofs.usable.usable_sides.Goals as goal

pub loop-argument-preserved : goal.loop-argument-preserved
loop-argument-preserved g c =
    let sound = g.V.View.sound c.args.view.now in
    let s = c.args.setting.now in
    let xs = c.args.arguments.now in
    let t = seen c.argument-item.result in
    let here : (part : ℕ) (old : Bool) → (old || (nat_eq c.part-part.result part && c.is_usable_field-usable.result)) ≡ (old || usable_here sound s (all_seen xs) part t) = λ part old.
    ap (λ (u : Bool). old || (nat_eq c.part-part.result part && u)) c.is_usable_field-usable.ensures
    ∙ ap (λ (p : ℕ). old || (nat_eq p part && usable_field sound s (all_seen xs) t.0)) c.part-part.ensures in
    record {
      first = usable_step seen xs c.loop-argument.argument-index c.argument-item.result c.loop-argument-test.true c.argument-item.is sound s (all_seen xs) 0 c.loop-argument.first c.is_more-first.result c.loop-argument.invariant.first (c.is_more-first.ensures ∙ here 0 c.loop-argument.first);
      second = usable_step seen xs c.loop-argument.argument-index c.argument-item.result c.loop-argument-test.true c.argument-item.is sound s (all_seen xs) 1 c.loop-argument.second c.is_more-second.result c.loop-argument.invariant.second (c.is_more-second.ensures ∙ here 1 c.loop-argument.second);
    }

pub returns : goal.returns
returns g c =
    let sound = g.V.View.sound c.args.view.now in
    let s = c.args.setting.now in
    let ts = all_seen c.args.arguments.now in
    let all = all_there seen c.args.arguments.now c.loop-argument.argument-index c.loop-argument-test.false in
    c.bits.ensures
    ∙ ap (λ (b : Bool). (if b then 1 else 0) + (if c.loop-argument.second then 2 else 0)) (c.loop-argument.invariant.first ∙ ap (usable_from sound s ts 0) all)
    ∙ ap (λ (b : Bool). (if usable_from sound s ts 0 ts then 1 else 0) + (if b then 2 else 0)) (c.loop-argument.invariant.second ∙ ap (usable_from sound s ts 1) all)
