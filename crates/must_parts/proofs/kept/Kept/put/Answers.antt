use Rattle.std.proofs.Common.{ℕ, Option, Some, sym, ap, ◌∙◌}
use Rattle.std.specs.Ordering.{nat_cmp}
use Rattle.std.specs.BTreeMap.{get}
use Rattle.must_parts.specs.declared.placed.Placed.{Placed}
use Rattle.must_parts.specs.Keeping.{with_part}
use Rattle.must_parts.proofs.Keeping.{put_key}
use Rattle.must_parts.proofs.kept.Kept.put.Goals as goal

pub returns : goal.returns
returns c = λ n.
    let at = get nat_cmp c.args.self.now.parts in
    put_key c.in-Some.request n (Some c.in-Some-part.part) (at n) _ (c.in_ok-insert.ensures.updates.0 n)
    ∙ sym (ap (λ (o : Option ℕ). with_part at o c.args.part n) c.in-Some.is ∙ ap (λ (o : Option Placed). with_part at (Some c.in-Some.request) o n) c.in-Some-part.is)
