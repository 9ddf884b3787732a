use Rattle.std.proofs.Common.{◌≡◌, ◌∙◌, ap, subst, rules, Option, Some, None}
use Rattle.std.specs.BTreeMap as tree
use Rattle.std.specs.BTreeMap.{BTreeMap}
use Rattle.std.specs.Option.{option_map}
use Rattle.must_p2p.specs.declared.queue.Queue.{Queue}
use Rattle.must_p2p.specs.declared.waiting.Waiting.{Waiting}
use Rattle.must_p2p.specs.declared.key.Key.{Key}
use Rattle.must_p2p.specs.Queues.{StandsAt, pair_of, pair_breaks}
use Rattle.must_p2p.specs.Standing.{key_cmp}
use Rattle.must_p2p.proofs.Steps.{adds_none}
use Rattle.must_p2p.proofs.Meet.{pair_none}
use Rattle.must_p2p.proofs.channels.put_in.Goals as goal

pub returns-in-Some-clause-found : goal.returns-in-Some-clause-found
returns-in-Some-clause-found c = λ s r st.
    let e : tree.get key_cmp c.args.queues.now c.args.key ≡ Some c.in-Some.queue.now = search rules in
    c.take.ensures.found s r (subst (λ (o : Option Queue). StandsAt o s r) e st)

pub returns-in-Some-clause-rows : goal.returns-in-Some-clause-rows
returns-in-Some-clause-rows c = λ s r st.
    let e : tree.get key_cmp c.args.queues.now c.args.key ≡ Some c.in-Some.queue.now = search rules in
    c.take.ensures.rows s r (subst (λ (o : Option Queue). StandsAt o s r) e st)

pub returns-in_ok-insert-in-None-clause-rows : goal.returns-in_ok-insert-in-None-clause-rows
returns-in_ok-insert-in-None-clause-rows c = λ s r st.
    let e : tree.get key_cmp c.args.queues.now c.args.key ≡ None = search rules in
    let n = subst (λ (o : Option Queue). StandsAt o s r) e st in
    adds_none c.args.out.now (option_map pair_breaks (pair_of c.args.side c.args.item s r)) (ap (λ (o : Option (Waiting × Waiting)). option_map pair_breaks o) (pair_none c.args.side c.args.item s r n.0 n.1))

pub returns-in_ok-insert-in-None-clause-others : goal.returns-in_ok-insert-in-None-clause-others
returns-in_ok-insert-in-None-clause-others c = λ k apart.
    c.in_ok-insert-in-None.ensures.updates.2 k apart ∙ ap (λ (m : BTreeMap Key Queue). tree.get key_cmp m k) c.get_mut.follows.holds-at-none
