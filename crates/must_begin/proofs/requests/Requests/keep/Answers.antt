use Rattle.std.proofs.Common.{ℕ, Option, ap, ◌∙◌}
use Rattle.std.specs.Ordering.{nat_cmp}
use Rattle.std.specs.BTreeMap.{get}
use Rattle.must_call.specs.declared.class.Class.TheVariants.{Request}
use Rattle.must_rules.specs.Facts.{Facts}
use Rattle.must_begin.specs.Keeping.{with_asked}
use Rattle.must_begin.proofs.Keeping.{keep_step}
use Rattle.must_begin.proofs.Seeing.{parts_seen}
use Rattle.must_begin.proofs.requests.Requests.keep.Goals as goal

pub returns : goal.returns
returns g c = λ r calls sees on kept.
    let call = c.args.call.now in
    keep_step r calls call ((g.V.View.facts c.args.view.now).life Request) _ _ c.in_ok-asked.asked c.requires.persistent (ap (λ (f : Facts). f.life Request) sees.facts_are) kept
    (c.in_ok-asked.ensures r calls (parts_seen r calls _ _ _ _ sees call.body c.args.usable.now.parts c.requires.parts) sees.stands on)
    (λ n. c.in_ok-put.ensures n ∙ ap (λ (o : Option ℕ). with_asked (get nat_cmp c.args.self.now.asked) o c.in_ok-asked.asked n) c.fresh_request-request.ensures)
