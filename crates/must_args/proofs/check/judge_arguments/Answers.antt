use Rattle.std.proofs.Common.{◌<◌, ◌^◌, List, [], length, flat_map, sym, ap, subst, ◌∙◌}
use Rattle.must_call.specs.Values.{Typed}
use Rattle.must_call.specs.Handles.{typed_handles}
use Rattle.must_find.specs.declared.finding.Finding.{Finding}
use Rattle.must_rules.specs.Breaches.{AddsBreaches, asked_from}
use Rattle.must_rules.specs.ArgumentRules.{wrong_ranks}
use Rattle.must_args.specs.Settings.{has_sense, asks}
use Rattle.must_args.proofs.Added.{adds_both, adds_as}
use Rattle.must_args.proofs.Settled.{settled}
use Rattle.must_args.proofs.check.judge_arguments.Goals as goal

pub judge_fields-requires : goal.judge_fields-requires
judge_fields-requires g c = subst (λ (ts : List Typed). length (flat_map typed_handles ts) < 2 ^ 32) (sym c.requires.fields) c.requires.few

pub returns : goal.returns
returns g c =
    let facts = g.V.View.facts c.args.view.now in
    let b = c.args.body.now in
    let s = c.args.setting.now in
    let at = c.args.at in
    let ranks = subst (λ (fs : List Finding). AddsBreaches at fs c.judge_ranks.new.rows (wrong_ranks facts b)) c.new-rows.ensures c.in_ok-judge_ranks.ensures in
    let all = ap (asked_from (has_sense s) (asks facts s) 0) c.requires.fields ∙ settled facts b s c.requires.setting in
    adds_both at [] c.judge_ranks.new.rows c.judge_fields.new.rows _ _ ranks (adds_as at c.judge_ranks.new.rows c.judge_fields.new.rows _ _ all c.in_ok-judge_fields.ensures)
