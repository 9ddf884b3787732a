use Rattle.std.proofs.Common.{◌≡◌, false, true, List, [], ◌∷◌, ◌++◌, string_bytes, sym, ap, ◌∙◌, append_assoc}
use Rattle.toml.specs.View.{view, members_view}
use Rattle.toml.proofs.Views.{Entry}
use Rattle.must_settings.specs.RulesFile.{all_members, is_setting}
use Rattle.must_settings.proofs.Members.{all_more, all_stops}
use Rattle.must_settings.proofs.read.are_members.Goals as goal

pub returns-then-not-is_member : goal.returns-then-not-is_member
returns-then-not-is_member c =
    let done = c.loop-key.invariant.0 in
    let e : Entry = (c.in-Some.key.now, c.in-Some.value.now) in
    let all : c.args.table.now.entries ≡ done ++ e ∷ c.next.new.self = c.loop-key.invariant.1 ∙ ap (λ (es : List Entry). done ++ es) c.in-Some.ensures.steps in
    let here : is_setting (string_bytes e.0) (view e.1) ≡ false = sym (ap (λ (key : List Rattle.std.proofs.Common.ℕ). is_setting key (view e.1)) c.as_str.ensures.value) ∙ sym c.is_member.ensures ∙ c.if-not-is_member.true in
    sym (ap (λ (es : List Entry). all_members is_setting (members_view es)) all ∙ all_stops is_setting done e c.next.new.self here)

pub loop-key-preserved : goal.loop-key-preserved
loop-key-preserved c =
    let done = c.loop-key.invariant.0 in
    let e : Entry = (c.in-Some.key.now, c.in-Some.value.now) in
    let all : c.args.table.now.entries ≡ done ++ e ∷ c.next.new.self = c.loop-key.invariant.1 ∙ ap (λ (es : List Entry). done ++ es) c.in-Some.ensures.steps in
    let here : is_setting (string_bytes e.0) (view e.1) ≡ true = sym (ap (λ (key : List Rattle.std.proofs.Common.ℕ). is_setting key (view e.1)) c.as_str.ensures.value) ∙ sym c.is_member.ensures ∙ c.if-not-is_member.false in
    (done ++ e ∷ [], all ∙ sym (append_assoc done (e ∷ []) c.next.new.self), all_more is_setting done e c.loop-key.invariant.2 here)
