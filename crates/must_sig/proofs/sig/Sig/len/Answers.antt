use Rattle.std.proofs.Common.{◌≡◌, ◌∙◌, ap, arith, ◌*◌, length}
use Rattle.must_sig.specs.Signatures.{expansion}
use Rattle.must_sig.proofs.Ahead.{length_is}
use Rattle.must_sig.proofs.sig.Sig.len.Goals as goal

pub returns-clause-value : goal.returns-clause-value
returns-clause-value c =
    ap (λ n. c.self.inside.times * n) c.from.ensures ∙ length_is c.args.self.now (record { unit = c.self.inside.unit.value.items; times = c.self.inside.times }) c.self.inside.unit_length c.self.view_is c.self.invariant.0

pub returns-clause-small : goal.returns-clause-small
returns-clause-small c =
    let e : c.self.inside.times * c.self.inside.unit_length ≡ length (expansion c.args.self.now) = length_is c.args.self.now (record { unit = c.self.inside.unit.value.items; times = c.self.inside.times }) c.self.inside.unit_length c.self.view_is c.self.invariant.0 in
    omega (arith, e, c.self.invariant.2)
