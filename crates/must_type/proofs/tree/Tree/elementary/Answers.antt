use Rattle.std.proofs.Common.{◌≡◌, ◌∙◌, pos, arith, to_z, of_z}
use Rattle.std.specs.Int.{w128}
use Rattle.std.proofs.lemmas.Int.{ints}
use Rattle.must_call.specs.Basics.{size_of}
use Rattle.must_type.proofs.Settled.{basic_read, elementary_facts, elementary_makeable}
use Rattle.must_type.proofs.tree.Tree.elementary.Goals as goal

pub invariant_of-result : goal.invariant_of-result
invariant_of-result c =
    let b = c.args.basic in
    let high : to_z w128 (of_z w128 c.from-bytes.result) ≡ pos (size_of b) = omega (arith, ints, c.from-bytes.ensures, c.size-size.ensures) in
    (basic_read (size_of b) c.from.result c.size-size.result (to_z w128 (of_z w128 c.from-bytes.result)) (c.from.ensures ∙ c.size-size.ensures) c.size-size.ensures high ∙ elementary_facts b, elementary_makeable b)
