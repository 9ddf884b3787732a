-- The findings of the rules of arguments at a call are its breaches.
use Rattle.std.proofs.Common.{◌≡◌, ℕ, ℤ, true, false, List, length, Option, Some, refl, sym, ap, ap₂, ◌∙◌}
use Rattle.must_call.specs.declared.place.Place.{Place}
use Rattle.must_call.specs.declared.call.Call.{Call}
use Rattle.must_find.specs.declared.rule.Rule.{Rule}
use Rattle.must_find.specs.declared.rule.Rule.TheVariants.{A1, A2, A3, A4, A5, A6, A7, H1, H2, H3, H4, H5}
use Rattle.must_find.specs.declared.finding.Finding.{Finding}
use Rattle.must_rules.specs.Answer.{Answer}
use Rattle.must_rules.specs.Rank.{Rank}
use Rattle.must_rules.specs.Starts.{start_of}
use Rattle.must_rules.specs.Breaches.{IsBreach}
use Rattle.must_rules.specs.BreachLaws.{has_answer, answer_has}
use Rattle.must_rules.specs.Clear.{argument_breaches}
use Rattle.must_rules.specs.Known.{facts_of, clear_behind}
use Rattle.must_rules.specs.Local.{finding_behind, breaches_at, wrong_argument, IsBehind}
use Rattle.must_rules.specs.OnceLaws.{is_of_arguments, breaches_once, breaches_of_arguments}

-- a call's place
abbrev pub place_behind : Rank → List Call → Place
place_behind r earlier = record { rank = r.rank; call = length earlier }

argument_rule : (r : Rank) (earlier : List Call) (call : Call) (rule : Rule) (part : ℕ) → is_of_arguments rule ≡ true → finding_behind r earlier call rule part ≡ wrong_argument r earlier call rule part
argument_rule r earlier call A1 part e = refl
argument_rule r earlier call A2 part e = refl
argument_rule r earlier call A3 part e = refl
argument_rule r earlier call A4 part e = refl
argument_rule r earlier call A5 part e = refl
argument_rule r earlier call A6 part e = refl
argument_rule r earlier call A7 part e = refl
argument_rule r earlier call H1 part e = refl
argument_rule r earlier call H2 part e = refl
argument_rule r earlier call H3 part e = refl
argument_rule r earlier call H4 part e = refl
argument_rule r earlier call H5 part e = refl
argument_rule r earlier call _ part e = let bad : false ≡ true = e in absurd cc

-- a breach is found
pub breach_found : (r : Rank) (earlier : List Call) (call : Call) (f : Finding) → IsBreach (place_behind r earlier) (breaches_at r earlier call) f → IsBehind r earlier call f
unfolding breaches_at
breach_found r earlier call f is =
    let facts = facts_of r earlier in
    let starts = start_of (clear_behind r) earlier in
    let bs = argument_breaches facts starts (length earlier) call.body in
    let x = is.breach in
    let of_arguments : is_of_arguments f.rule ≡ true = ap is_of_arguments is.rule_is ∙ breaches_of_arguments facts starts (length earlier) call.body x is.broken in
    let found = has_answer r.rank bs f.rule f.part x (λ y h stands.
    breaches_once facts starts (length earlier) call.body y x h is.broken (stands.rule_is ∙ is.rule_is) (stands.part_is ∙ is.part_is)) is.broken (record { rule_is = sym is.rule_is; part_is = sym is.part_is }) in
    let pair : Option Place → ℤ → Option Answer = λ see value. Some (see, value) in
    record {
      rank_is = is.rank_is;
      call_is = is.call_is;
      gives = argument_rule r earlier call f.rule f.part of_arguments ∙ found ∙ sym (ap₂ pair is.see_is is.value_is);
    }

-- what is found is a breach
pub found_breach : (r : Rank) (earlier : List Call) (call : Call) (f : Finding) (rule : Rule) → f.rule ≡ rule → is_of_arguments rule ≡ true → f.rank ≡ r.rank → f.call ≡ length earlier
    → finding_behind r earlier call rule f.part ≡ Some (f.see, f.value) → IsBreach (place_behind r earlier) (breaches_at r earlier call) f
found_breach r earlier call f rule e of_arguments rank_is call_is gives =
    let found = answer_has r.rank (breaches_at r earlier call) rule f.part (f.see, f.value) (sym (argument_rule r earlier call rule f.part of_arguments) ∙ gives) in
    record {
      rank_is = rank_is;
      call_is = call_is;
      breach = found.breach;
      broken = found.has;
      rule_is = e ∙ sym found.stands.rule_is;
      part_is = sym found.stands.part_is;
      see_is = ap (λ (a : Answer). a.0) found.gives;
      value_is = ap (λ (a : Answer). a.1) found.gives;
    }
