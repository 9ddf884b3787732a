use Rattle.std.proofs.Common.{List, Option, ap, ◌∙◌}
use Rattle.must_find.specs.declared.severity.Severity.{Severity}
use Rattle.must_find.specs.RuleSet.{severity_in}
use Rattle.toml.specs.Data.{Members}
use Rattle.toml.specs.View.{table_view}
use Rattle.must_settings.specs.RulesFile.{severity_by, severity_in_rules}
use Rattle.must_settings.proofs.Codes.{usual_in}
use Rattle.must_settings.proofs.read.rules_in.Goals as goal

pub returns-in-Some : goal.returns-in-Some
returns-in-Some c = λ rule.
    c.set_rules.ensures rule
    ∙ ap (λ (s : Severity). severity_by rule s (table_view c.in-Some.named.now)) (ap (λ (set : List Severity). severity_in set rule) c.usual-rules.ensures ∙ usual_in rule)
    ∙ ap (λ (named : Option Members). severity_in_rules rule named) (rw c.in-Some.is at c.rules_table.ensures)

pub returns-in-None : goal.returns-in-None
returns-in-None c = λ rule.
    ap (λ (set : List Severity). severity_in set rule) c.usual-rules.ensures
    ∙ usual_in rule
    ∙ ap (λ (named : Option Members). severity_in_rules rule named) (rw c.in-None.is at c.rules_table.ensures)
