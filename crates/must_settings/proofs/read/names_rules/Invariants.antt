use Rattle.std.proofs.Common.{◌≡◌, true, List, ◌++◌}
use Rattle.toml.specs.View.{members_view}
use Rattle.toml.proofs.Views.{Entry}
use Rattle.must_settings.specs.RulesFile.{all_members, is_rule}
use Rattle.must_settings.proofs.read.names_rules.Given as goal

abbrev pub invariant-loop-code : goal.invariant-loop-code
invariant-loop-code l = (done : List Entry) × (l.table.entries ≡ done ++ l.code-iterator) × (all_members is_rule (members_view done) ≡ true)
