use Rattle.std.proofs.Common.{ℕ, Bool, List, Option, Some, None, get_or, [], ◌∷◌, ◌++◌, ap, ◌∙◌}
use Rattle.std.specs.Prelude.{if◌then◌else◌}
use Rattle.std.specs.Ordering.{nat_cmp}
use Rattle.std.specs.List.{list_any}
use Rattle.std.specs.BTreeMap.{is_at}
use Rattle.std.proofs.lemmas.List.{take_all}
use Rattle.must_parts.specs.Starting.{starting}
use Rattle.must_parts.proofs.Starting.{starting_more, seen_more}
use Rattle.must_parts.proofs.start.starting.Goals as goal

pub loop-request-init : goal.loop-request-init
loop-request-init g c = record { started_are = c.new-started.ensures.items; seen_are = λ h. ap (λ (ks : List ℕ). list_any (is_at (nat_cmp h)) ks) c.new-seen.ensures.empty }

pub loop-request-preserved : goal.loop-request-preserved
loop-request-preserved g c =
    let xs = c.args.requests.now in
    let i = c.loop-request.request-index in
    let x = get_or xs i 0 in
    record {
      started_are = starting_more c.args.clear (g.V.View.starts c.args.view.now) xs i _ c.loop-request.started.items _ c.loop-request-test.true (c.in_ok-again.ensures.again ∙ c.loop-request.invariant.seen_are x) c.loop-request.invariant.started_are
          (c.in_ok-push.ensures.items ∙ ap (λ (o : Option ℕ). c.loop-request.started.items ++ o ∷ []) (c.if_started.ensures ∙ ap (λ (b : Bool). if b then Some x else None) c.starts_now-is_started.ensures));
      seen_are = λ h. seen_more xs i h _ _ c.loop-request-test.true (c.loop-request.invariant.seen_are h) (c.in_ok-again.ensures.seen h);
    }

pub returns : goal.returns
returns g c = c.loop-request.invariant.started_are ∙ ap (starting c.args.clear (g.V.View.starts c.args.view.now) []) (take_all c.loop-request.request-index c.args.requests.now c.loop-request-test.false)
