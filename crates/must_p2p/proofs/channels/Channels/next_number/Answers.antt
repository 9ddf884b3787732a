use Rattle.std.proofs.Common.{◌≡◌, sym, ◌∙◌, ap, rules, Some, None}
use Rattle.std.specs.BTreeMap as tree
use Rattle.must_p2p.specs.Items.{class_of, counted}
use Rattle.must_p2p.specs.Standing.{key_cmp, key_of, queue_by}
use Rattle.must_p2p.proofs.Next.{none_from, next_first, next_send, next_receive}
use Rattle.must_p2p.proofs.channels.Channels.next_number.Goals as goal

pub returns-in_default : goal.returns-in_default
returns-in_default c = λ items st o.
    let x = c.args.item.now in
    let none = none_from c.find.result c.in_default.not-Some in
    next_first c.args.self.now items x st o (ap (queue_by c.args.self.now.queues (class_of x)) (sym (c.find.ensures items st.knows o) ∙ none))

pub returns-in-None : goal.returns-in-None
returns-in-None c = λ items st o.
    let x = c.args.item.now in
    let e : tree.get key_cmp c.args.self.now.queues (key_of (class_of x) c.in-Some.name) ≡ None = search rules in
    next_first c.args.self.now items x st o (ap (queue_by c.args.self.now.queues (class_of x)) (sym (c.find.ensures items st.knows o) ∙ c.in-Some.is) ∙ e)

pub returns-in-Send : goal.returns-in-Send
returns-in-Send c = λ items st o.
    let x = c.args.item.now in
    let q = c.in-Some-get.queue.now in
    let e : tree.get key_cmp c.args.self.now.queues (key_of (class_of x) c.in-Some.name) ≡ Some q = search rules in
    next_send c.args.self.now items x q st o (ap (queue_by c.args.self.now.queues (class_of x)) (sym (c.find.ensures items st.knows o) ∙ c.in-Some.is) ∙ e) (ap counted c.in-Send.is)

pub returns-in-Receive : goal.returns-in-Receive
returns-in-Receive c = λ items st o.
    let x = c.args.item.now in
    let q = c.in-Some-get.queue.now in
    let e : tree.get key_cmp c.args.self.now.queues (key_of (class_of x) c.in-Some.name) ≡ Some q = search rules in
    next_receive c.args.self.now items x q st o (ap (queue_by c.args.self.now.queues (class_of x)) (sym (c.find.ensures items st.knows o) ∙ c.in-Some.is) ∙ e) (ap counted c.in-Receive.is)

pub returns-in-Probe : goal.returns-in-Probe
returns-in-Probe c = λ items st o.
    let x = c.args.item.now in
    let q = c.in-Some-get.queue.now in
    let e : tree.get key_cmp c.args.self.now.queues (key_of (class_of x) c.in-Some.name) ≡ Some q = search rules in
    next_receive c.args.self.now items x q st o (ap (queue_by c.args.self.now.queues (class_of x)) (sym (c.find.ensures items st.knows o) ∙ c.in-Some.is) ∙ e) (ap counted c.in-Probe.is)
