use Rattle.std.proofs.Common.{◌≡◌, ℕ, ap, ◌∙◌}
use Rattle.must_call.specs.Arguments.{seen}
use Rattle.must_rules.specs.Significant.{side}
use Rattle.must_rules.specs.Breaches.{part_of}
use Rattle.must_rules.specs.Clear.{wrong_value}
use Rattle.must_args.specs.Told.{value_told}
use Rattle.must_args.proofs.Added.{adds_both, adds_as}
use Rattle.must_args.proofs.Values.{broken_told}
use Rattle.must_args.proofs.fields.judge_significant.Goals as goal

pub returns : goal.returns
returns g c =
    let s = c.args.setting.now in
    let t = seen c.args.argument.now in
    let part = part_of s.sends (side t.0) in
    let value : value_told c.part.result c.judge_value.result ≡ wrong_value s.tag_ub s.size part t =
    ap (λ (p : ℕ). value_told p c.judge_value.result) c.part.ensures ∙ ap (value_told part) c.judge_value.ensures ∙ broken_told s.tag_ub s.size part t.0 t.1 in
    adds_both c.args.at c.args.rows.now c.add_value.new.rows c.judge_handles.new.rows _ _ (adds_as c.args.at c.args.rows.now c.add_value.new.rows _ _ value c.in_ok-add_value.ensures) c.in_ok-judge_handles.ensures
