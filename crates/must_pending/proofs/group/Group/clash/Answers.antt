use Rattle.std.proofs.Common.{subst, None, ℤ}
use Rattle.must_span.specs.Ranges.{Covers}
use Rattle.must_pending.specs.declared.held.Held.{Held}
use Rattle.must_pending.specs.Clashes.{IsFirst, Disagree}
use Rattle.must_pending.specs.Groups.{Surrounds}
use Rattle.must_pending.proofs.GroupLaws.{none_clashes}
use Rattle.must_pending.proofs.group.Group.clash.Goals as goal

pub returns-then-not-may_clash : goal.returns-then-not-may_clash
returns-then-not-may_clash c =
    let spans = c.args.spans.now in
    let common = c.self.inside.common in
    let never : (h : Held) (x : ℤ) → Surrounds common h → Disagree h.access c.args.access → Covers h.spans x → Covers spans x → ⊥ = λ h x s d p q. let yes = c.may_clash.ensures h x s d p q in let no = c.if-not-may_clash.true in cc (yes, no) in
    subst (λ l. IsFirst l spans c.args.access None) c.self.view_is (none_clashes common c.self.inside.operations.items spans c.args.access never c.self.invariant)
