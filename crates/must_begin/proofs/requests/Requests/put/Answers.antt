use Rattle.std.proofs.Common.{ℕ, Option, Some, sym, ap, ◌∙◌}
use Rattle.std.specs.Ordering.{nat_cmp}
use Rattle.std.specs.BTreeMap.{get}
use Rattle.must_messages.specs.declared.asked.Asked.{Asked}
use Rattle.must_begin.specs.Keeping.{with_asked}
use Rattle.must_begin.proofs.Keeping.{put_key}
use Rattle.must_begin.proofs.requests.Requests.put.Goals as goal

pub returns : goal.returns
returns c = λ n.
    let at = get nat_cmp c.args.self.now.asked in
    put_key c.in-Some.request n (Some c.in-Some-asked.asked) (at n) _ (c.in_ok-insert.ensures.updates.0 n)
    ∙ sym (ap (λ (o : Option ℕ). with_asked at o c.args.asked n) c.in-Some.is ∙ ap (λ (o : Option Asked). with_asked at (Some c.in-Some.request) o n) c.in-Some-asked.is)
