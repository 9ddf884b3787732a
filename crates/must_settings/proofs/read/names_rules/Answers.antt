use Rattle.std.proofs.Common.{◌≡◌, false, true, List, [], ◌∷◌, ◌++◌, string_bytes, sym, ap, ◌∙◌, append_assoc}
use Rattle.toml.specs.View.{view, members_view}
use Rattle.toml.proofs.Views.{Entry}
use Rattle.must_settings.specs.RulesFile.{all_members, is_rule}
use Rattle.must_settings.proofs.Members.{all_more, all_stops}
use Rattle.must_settings.proofs.read.names_rules.Goals as goal

pub returns-then-not-names_rule : goal.returns-then-not-names_rule
returns-then-not-names_rule c =
    let done = c.loop-code.invariant.0 in
    let e : Entry = (c.in-Some.code.now, c.in-Some.value.now) in
    let all : c.args.table.now.entries ≡ done ++ e ∷ c.next.new.self = c.loop-code.invariant.1 ∙ ap (λ (es : List Entry). done ++ es) c.in-Some.ensures.steps in
    let here : is_rule (string_bytes e.0) (view e.1) ≡ false = sym (ap (λ (key : List Rattle.std.proofs.Common.ℕ). is_rule key (view e.1)) c.as_str.ensures.value) ∙ sym c.names_rule.ensures ∙ c.if-not-names_rule.true in
    sym (ap (λ (es : List Entry). all_members is_rule (members_view es)) all ∙ all_stops is_rule done e c.next.new.self here)

pub loop-code-preserved : goal.loop-code-preserved
loop-code-preserved c =
    let done = c.loop-code.invariant.0 in
    let e : Entry = (c.in-Some.code.now, c.in-Some.value.now) in
    let all : c.args.table.now.entries ≡ done ++ e ∷ c.next.new.self = c.loop-code.invariant.1 ∙ ap (λ (es : List Entry). done ++ es) c.in-Some.ensures.steps in
    let here : is_rule (string_bytes e.0) (view e.1) ≡ true = sym (ap (λ (key : List Rattle.std.proofs.Common.ℕ). is_rule key (view e.1)) c.as_str.ensures.value) ∙ sym c.names_rule.ensures ∙ c.if-not-names_rule.false in
    (done ++ e ∷ [], all ∙ sym (append_assoc done (e ∷ []) c.next.new.self), all_more is_rule done e c.loop-code.invariant.2 here)
