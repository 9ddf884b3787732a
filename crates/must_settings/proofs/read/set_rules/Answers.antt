use Rattle.std.proofs.Common.{◌≡◌, ℕ, List, [], ◌∷◌, ◌++◌, sym, ap, ◌∙◌, append_assoc}
use Rattle.must_find.specs.declared.severity.Severity.{Severity}
use Rattle.must_find.specs.RuleSet.{severity_in}
use Rattle.toml.specs.View.{view, members_view}
use Rattle.toml.proofs.Views.{Entry}
use Rattle.must_settings.specs.RulesFile.{given, severity_by}
use Rattle.must_settings.proofs.Members.{given_more}
use Rattle.must_settings.proofs.read.set_rules.Goals as goal

pub loop-code-preserved : goal.loop-code-preserved
loop-code-preserved c =
    let done = c.loop-code.invariant.0 in
    let e : Entry = (c.in-Some.code.now, c.in-Some.value.now) in
    let all : c.args.table.now.entries ≡ done ++ e ∷ c.next.new.self = c.loop-code.invariant.1 ∙ ap (λ (es : List Entry). done ++ es) c.in-Some.ensures.steps in (
      done ++ e ∷ [],
      all ∙ sym (append_assoc done (e ∷ []) c.next.new.self),
      λ rule.
          let before = severity_by rule (severity_in c.args.rules.now rule) (members_view done) in
          c.set_rule.ensures rule
          ∙ ap (λ (s : Severity). given rule s c.as_str.result.now (view e.1)) (c.loop-code.invariant.2 rule)
          ∙ ap (λ (code : List ℕ). given rule before code (view e.1)) c.as_str.ensures.value
          ∙ sym (given_more rule (severity_in c.args.rules.now rule) done e),
    )
