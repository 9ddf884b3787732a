use Rattle.std.proofs.Common.{ℕ, Option, ap, ◌∙◌}
use Rattle.std.specs.Ordering.{nat_cmp}
use Rattle.std.specs.BTreeMap.{get}
use Rattle.must_call.specs.declared.class.Class.TheVariants.{Request}
use Rattle.must_rules.specs.Facts.{Facts}
use Rattle.must_parts.specs.Keeping.{with_part}
use Rattle.must_parts.proofs.Keeping.{keep_step}
use Rattle.must_parts.proofs.kept.Kept.keep.Goals as goal

pub returns : goal.returns
returns g c = λ r calls facts kept placed.
    keep_step r calls c.args.call.now ((g.V.View.facts c.args.view.now).life Request) _ _ c.take_numbered-part.result c.requires (ap (λ (f : Facts). f.life Request) facts) kept (c.take_numbered-part.ensures _ placed)
    (λ n. c.in_ok-put.ensures n ∙ ap (λ (o : Option ℕ). with_part (get nat_cmp c.args.self.now.parts) o c.take_numbered-part.result n) c.fresh_request-request.ensures)
