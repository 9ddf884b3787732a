use Rattle.std.proofs.Common.{sym, ◌∙◌}
use Rattle.must_find.specs.RuleSet.{severity_in}
use Rattle.toml.specs.View.{view}
use Rattle.must_settings.proofs.Codes.{none_given, nothing_given, rule_given}
use Rattle.must_settings.proofs.read.set_rule.Goals as goal

pub returns-in-Some-severity_of : goal.returns-in-Some-severity_of
returns-in-Some-severity_of c = λ r. rule_given c.args.rules.now c.set.new.self c.in-Some.rule r c.in-Some-severity_of.severity c.args.code.now (view c.args.value.now)
    (sym c.from_code.ensures ∙ c.in-Some.is) (sym c.severity_of.ensures ∙ c.in-Some-severity_of.is) c.set.ensures.this c.set.ensures.others

pub returns-in_default-severity_of : goal.returns-in_default-severity_of
returns-in_default-severity_of c = λ r. nothing_given r (severity_in c.args.rules.now r) c.args.code.now (view c.args.value.now) (sym c.severity_of.ensures ∙ c.in_default-severity_of.is)

pub returns-in_default : goal.returns-in_default
returns-in_default c = λ r. none_given r (severity_in c.args.rules.now r) c.args.code.now (view c.args.value.now) (sym c.from_code.ensures ∙ c.in_default.is)
