use Rattle.std.proofs.Common.{◌≡◌, List, ◌++◌}
use Rattle.toml.specs.View.{members_view}
use Rattle.toml.proofs.Views.{Entry}
use Rattle.must_find.specs.declared.rule.Rule.{Rule}
use Rattle.must_find.specs.RuleSet.{severity_in}
use Rattle.must_settings.specs.RulesFile.{severity_by}
use Rattle.must_settings.proofs.read.set_rules.Given as goal

abbrev pub invariant-loop-code : goal.invariant-loop-code
invariant-loop-code l = (done : List Entry) × (l.table.entries ≡ done ++ l.code-iterator)
    × ((rule : Rule) → severity_in l.rules rule ≡ severity_by rule (severity_in l.fn.rules rule) (members_view done))
