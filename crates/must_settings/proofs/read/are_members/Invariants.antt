use Rattle.std.proofs.Common.{◌≡◌, true, List, ◌++◌}
use Rattle.toml.specs.View.{members_view}
use Rattle.toml.proofs.Views.{Entry}
use Rattle.must_settings.specs.RulesFile.{all_members, is_setting}
use Rattle.must_settings.proofs.read.are_members.Given as goal

abbrev pub invariant-loop-key : goal.invariant-loop-key
invariant-loop-key l = (done : List Entry) × (l.table.entries ≡ done ++ l.key-iterator) × (all_members is_setting (members_view done) ≡ true)
