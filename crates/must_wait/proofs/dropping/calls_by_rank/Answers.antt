use Rattle.std.proofs.Common.{◌≡◌, ◌<◌, ◌∙◌, true, Some, length, get_or, ap, arith, inl, inr}
use Rattle.std.specs.Option.{is_some}
use Rattle.std.proofs.lemmas.Bool.{cases_order}
use Rattle.std.proofs.lemmas.List.{length-set, get_or_default}
use Rattle.must_call.specs.declared.place.Place.{Place}
use Rattle.must_wait.specs.Keeping.{kept_call}
use Rattle.must_wait.proofs.Kept.{set_calls, set_some}
use Rattle.must_wait.proofs.Listed.{each_item}
use Rattle.must_wait.proofs.Watched.{has_at}
use Rattle.must_wait.proofs.dropping.calls_by_rank.Goals as goal

pub index_mut-requires : goal.index_mut-requires
index_mut-requires c =
    let none : Place = record { rank = 0; call = 0 } in
    let within = c.requires (get_or c.args.blocked.now c.loop-place.place-index none) (has_at c.args.blocked.now c.loop-place.place-index none c.loop-place-test.true) in
    omega (arith, within, c.loop-place.invariant.len)

pub loop-place-preserved : goal.loop-place-preserved
loop-place-preserved c =
    let calls = c.loop-place.calls.items in
    let none : Place = record { rank = 0; call = 0 } in
    let p : Place = get_or c.args.blocked.now c.loop-place.place-index none in
    let has = has_at c.args.blocked.now c.loop-place.place-index none c.loop-place-test.true in
    let inside : p.rank < length calls = omega (arith, c.requires p has, c.loop-place.invariant.len) in
    record {
      len = length-set calls p.rank (Some p.call) ∙ c.loop-place.invariant.len;
      calls = set_calls c.args.blocked.now calls p has inside c.loop-place.invariant.calls;
      all = λ k d less. set_some calls p.rank p.call (get_or c.args.blocked.now k d).rank inside (elim (cases_order k c.loop-place.place-index) [
        | inl same ↦ inr (ap (λ (q : Place). q.rank) (ap (λ i. get_or c.args.blocked.now i d) same ∙ get_or_default c.args.blocked.now c.loop-place.place-index d none c.loop-place-test.true))
        | inr (inl below) ↦ inl (c.loop-place.invariant.all k d below)
        | inr (inr above) ↦ absurd (omega arith)
      ]);
    }

pub returns-clause-all : goal.returns-clause-all
returns-clause-all c = each_item (λ (p : Place). is_some (kept_call c.loop-place.calls.items p.rank) ≡ true) c.args.blocked.now (λ k d less. c.loop-place.invariant.all k d (omega arith))
