use Rattle.std.proofs.Common.{◌≡◌, ℕ, ◌+◌, List, drop, Option, Some, None, Bor, sym, ap, subst, ◌∙◌, add-one}
use Rattle.std.specs.Prelude.{◌⊎◌, ◌↔◌}
use Rattle.std.specs.Option.{option_copied}
use Rattle.must_base.specs.Listing.{Has}
use Rattle.must_find.specs.declared.finding.Finding.{Finding}
use Rattle.must_find.specs.Adds.{Adds}
use Rattle.must_coll.specs.Given.{GivenBy}
use Rattle.must_coll.specs.Created.{first_other, other_found, counted_group, group_by, group_row}
use Rattle.must_coll.proofs.NoCall.{adds_nothing, not_some}
use Rattle.must_coll.proofs.Others.{given_more}
use Rattle.must_coll.proofs.created.report_others.Goals as goal
use Rattle.must_coll.proofs.created.report_others.Goals.{in-None, in-Some+in_ok-report-in-Some}

pub loop-call-preserved : goal.loop-call-preserved
loop-call-preserved c =
    let ms = c.args.members.now in
    let calls = c.args.calls.now in
    let i = c.loop-call.call-index in
    let x = c.call-item.result in
    let row = group_row ms calls in
    let T = λ (f : Finding). Has c.args.out.now f ⊎ GivenBy row calls f in
    let more = λ (new : List Finding) (adds : Adds c.loop-call.out new (λ f. row x ≡ Some f)).
    subst (λ n. (f : Finding) → (Has new f ⊎ GivenBy row (drop n calls) f) ↔ T f) (sym (add-one i)) (given_more row calls i x c.loop-call.out new T c.loop-call-test.true c.call-item.is adds c.loop-call.invariant.1) in
    elim c.match-counted_group.branch [
      | in-None w ↦
          let none : counted_group x ≡ None = sym c.counted_group.ensures ∙ ap option_copied w.in-None.is in (
            w.other-is ∙ c.loop-call.invariant.0 ∙ ap (λ (g : Bor (List ℕ)). first_other ms calls g.now g.now) (sym w.group-is),
            subst (λ (l : List Finding). (f : Finding) → (Has l f ⊎ GivenBy row (drop (i + 1) calls) f) ↔ T f) (sym w.out-is)
                (more c.loop-call.out (adds_nothing c.loop-call.out (λ f. row x ≡ Some f) (λ f h. not_some (row x) f (ap (group_by ms calls x) none) h))),
          )
      | in-Some+in_ok-report-in-Some w ↦
          let own = w.in-Some.own.now in
          let group : counted_group x ≡ Some own = sym c.counted_group.ensures ∙ ap option_copied w.in-Some.is in
          let other = w.first_other_after-other.ensures c.loop-call.invariant.0 in
          let is : row x ≡ w.other_finding.result = ap (group_by ms calls x) group ∙ sym (w.other_finding.ensures ∙ ap (other_found x) other) in (
            w.other-is ∙ other ∙ ap (λ (g : Bor (List ℕ)). first_other ms calls g.now g.now) (sym w.group-is),
            subst (λ (l : List Finding). (f : Finding) → (Has l f ⊎ GivenBy row (drop (i + 1) calls) f) ↔ T f) (sym w.out-is)
                (more w.report.new.out (subst (λ (o : Option Finding). Adds c.loop-call.out w.report.new.out (λ f. o ≡ Some f)) (sym is) w.in_ok-report-in-Some.ensures)),
          )
    ]
