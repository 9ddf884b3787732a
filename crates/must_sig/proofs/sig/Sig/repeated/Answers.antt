use Rattle.std.proofs.Common.{◌≡◌, sym, subst, ◌∙◌, ap, arith, ◌*◌, length, mul_comm}
use Rattle.must_sig.specs.Signatures.{laid, repeated, expansion}
use Rattle.must_sig.specs.Runs.{AreRuns, AreMerged}
use Rattle.must_sig.proofs.Ahead.{length_is}
use Rattle.must_sig.proofs.Flat.{repeated_twice}
use Rattle.must_sig.proofs.Rooms.{copies_fit, copies_some, copies_few}
use Rattle.must_sig.proofs.sig.Sig.repeated.Goals as goal

pub overflow_mul-result : goal.overflow_mul-result
overflow_mul-result c =
    let l = c.self.inside.unit_length in
    let e : c.self.inside.times * l ≡ length (expansion c.args.self.now) = length_is c.args.self.now (record { unit = c.self.inside.unit.value.items; times = c.self.inside.times }) l c.self.view_is c.self.invariant.0 in
    record { fits = copies_fit c.self.inside.times l c.from.result c.self.invariant.1 (omega (arith, e, c.requires)) (omega (arith, c.from.ensures, c.ranges.count)) }

pub invariant_of-result : goal.invariant_of-result
invariant_of-result c =
    let l = c.self.inside.unit_length in
    let n = c.self.inside.times in
    let k = c.from.result in
    let e : n * l ≡ length (expansion c.args.self.now) = length_is c.args.self.now (record { unit = c.self.inside.unit.value.items; times = n }) l c.self.view_is c.self.invariant.0 in
    let same : c.in_ok-try_clone.field-0.value.items ≡ c.self.inside.unit.value.items = ap (λ v. v.items) c.in_ok-try_clone.ensures in (
      c.self.invariant.0 ∙ ap (λ rs. length (laid rs)) (sym same),
      copies_some n l k c.self.invariant.1,
      copies_few n l k (omega (arith, e, c.requires)) (omega (arith, c.from.ensures, c.ranges.count)),
      subst AreRuns (sym same) c.self.invariant.3,
      subst AreMerged (sym same) c.self.invariant.4,
    )

pub returns-clause-expansion : goal.returns-clause-expansion
returns-clause-expansion c =
    let n = c.self.inside.times in
    let k = c.from.result in
    let u = laid c.self.inside.unit.value.items in
    let same : c.in_ok-try_clone.field-0.value.items ≡ c.self.inside.unit.value.items = ap (λ v. v.items) c.in_ok-try_clone.ensures in
    ap (λ rs. repeated (n * k) (laid rs)) same ∙ ap (λ m. repeated m u) (mul_comm n k) ∙ sym (repeated_twice k n u) ∙ ap (λ m. repeated m (repeated n u)) c.from.ensures ∙ ap (λ p. repeated c.args.count (expansion p)) c.self.view_is
