use Rattle.std.proofs.Common.{◌≡◌, ◌<◌, Some, subst, ap, sym, ◌∙◌}
use Rattle.std.proofs.lemmas.Bool.{ltb-true, lt-ltb}
use Rattle.must_wait.specs.Ways.{number_of}
use Rattle.must_wait.proofs.way.Way.is_below.Goals as goal

pub returns-in-Shared : goal.returns-in-Shared
returns-in-Shared c = (
  λ e number is.
      let both : Some c.in-Shared.number ≡ Some number = sym (ap number_of c.in-Shared.is) ∙ is in
      let same : c.in-Shared.number ≡ number = cc in
      subst (λ n. n < c.args.count) same (ltb-true c.in-Shared.number c.args.count e),
  λ all. lt-ltb c.in-Shared.number c.args.count (all c.in-Shared.number (ap number_of c.in-Shared.is)),
)
