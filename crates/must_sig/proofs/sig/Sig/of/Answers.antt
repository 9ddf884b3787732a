use Rattle.std.proofs.Common.{◌≡◌, sym, subst, ◌∙◌, ap, arith, ◌*◌, ◌≤◌, ◌^◌, Some, length, mul-le-mul, mul_comm, le_refl}
use Rattle.must_type.specs.Tree.{TypeTree, type_map}
use Rattle.must_sig.specs.Signatures.{laid, repeated, basics_of}
use Rattle.must_sig.specs.Runs.{AreRuns, AreMerged}
use Rattle.must_sig.proofs.Flat.{repeated_twice}
use Rattle.must_sig.proofs.Rooms.{copies_some, copies_few}
use Rattle.must_sig.proofs.Periods.{repeated_length}
use Rattle.must_sig.proofs.sig.Sig.of.Goals as goal

same_tree : (t u : TypeTree) → Some t ≡ Some u → t ≡ u
same_tree t u e = cc

pub invariant_of-result : goal.invariant_of-result
invariant_of-result c =
    let n = c.in_ok-copies.copies.times in
    let l = c.in_ok-copies.unit_length in
    let same : c.in_ok-new.field-0.value.items ≡ c.in_ok-copies.copies.runs.items = ap (λ v. v.items) c.in_ok-new.ensures.ok in
    let times : c.times_over.result ≡ n * c.args.count = c.times_over.ensures.copies ∙ mul_comm c.args.count n in (
      c.in_ok-copies.ensures.length ∙ ap (λ rs. length (laid rs)) (sym same),
      subst (λ m. m ≤ m * l) (sym times) (copies_some n l c.args.count c.in_ok-copies.ensures.some),
      subst (λ m. m * l ≤ 2 ^ 126) (sym times) (copies_few n l c.args.count c.in_ok-copies.ensures.small (omega (arith, c.ranges.count))),
      subst AreRuns (sym same) c.in_ok-copies.ensures.runs.0,
      subst AreMerged (sym same) c.in_ok-copies.ensures.runs.1,
    )

pub returns-clause-expansion : goal.returns-clause-expansion
returns-clause-expansion c = λ t e.
    let n = c.in_ok-copies.copies.times in
    let count = c.args.count in
    let u = laid c.in_ok-copies.copies.runs.items in
    ap (λ v. repeated c.times_over.result (laid v.items)) c.in_ok-new.ensures.ok ∙ ap (λ m. repeated m u) c.times_over.ensures.copies ∙ sym (repeated_twice count n u) ∙ ap (repeated count) c.in_ok-copies.ensures.same ∙
    ap (λ x. repeated count (basics_of (type_map x))) (same_tree c.tree-tree.result.now t (sym c.tree-tree.ensures ∙ e))

pub returns-clause-short : goal.returns-clause-short
returns-clause-short c =
    let n = c.in_ok-copies.copies.times in
    let count = c.args.count in
    let u = laid c.in_ok-copies.copies.runs.items in
    let flat : length (repeated c.times_over.result (laid c.in_ok-new.field-0.value.items)) ≡ length (repeated count (repeated n u)) =
    ap length (ap (λ v. repeated c.times_over.result (laid v.items)) c.in_ok-new.ensures.ok ∙ ap (λ m. repeated m u) c.times_over.ensures.copies ∙ sym (repeated_twice count n u)) in
    let one : n * length u ≤ 2 ^ 62 = omega (arith, ap (λ m. n * m) c.in_ok-copies.ensures.length, c.in_ok-copies.ensures.small) in
    let all : count * (n * length u) ≤ count * 2 ^ 62 = mul-le-mul (le_refl count) one in
    omega (arith, flat, repeated_length count (repeated n u), ap (λ m. count * m) (repeated_length n u), all)
