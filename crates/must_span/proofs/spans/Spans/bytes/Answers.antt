use Rattle.std.proofs.Common.{◌≡◌, ◌∙◌, ap, subst, length}
use Rattle.must_span.specs.Ranges.{AreApart, addresses}
use Rattle.must_span.proofs.SharedLaws.{message_shared}
use Rattle.must_span.proofs.spans.Spans.bytes.Goals as goal

pub returns-clause-shared : goal.returns-clause-shared
returns-clause-shared c = λ base count t same.
    let now = c.args.self.now in
    let e : c.count.result ≡ length (addresses now) = c.count.ensures ∙ ap (λ l. length (addresses l)) (c.as_slice.ensures.value ∙ c.self.view_is) in
    rw e (message_shared now base count t (subst AreApart c.self.view_is c.self.invariant) same)
