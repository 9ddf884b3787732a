-- The severity of a rule in a set.
use Rattle.std.specs.Prelude.{List, slice_index_or}
use Rattle.must_find.specs.declared.rule.Rule.{Rule}
use Rattle.must_find.specs.declared.severity.Severity.{Severity}
use Rattle.must_find.specs.declared.severity.Severity.TheVariants.{Off}
use Rattle.must_find.specs.Rules.{rule_place}

-- a set is the list of severities in the order of the table of rules
abbrev pub severity_in : List Severity → Rule → Severity
severity_in set rule = slice_index_or set (rule_place rule) Off
