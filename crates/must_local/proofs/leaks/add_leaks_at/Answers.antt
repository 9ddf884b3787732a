use Rattle.std.proofs.Common.{Bool, sym, subst}
use Rattle.must_find.specs.Adds.{Adds}
use Rattle.must_local.specs.Adding.{LeakRowsAt}
use Rattle.must_local.proofs.leaks.add_leaks_at.Goals as goal

pub returns-in_ok-add_leaks : goal.returns-in_ok-add_leaks
returns-in_ok-add_leaks c = λ is_clear calls stands.
    subst (λ (b : Bool). Adds c.args.rows.now c.add_leaks.new.rows (LeakRowsAt c.args.at.rank c.args.at.call b calls)) (sym c.if-ends.true) (c.in_ok-add_leaks.ensures is_clear calls stands)
