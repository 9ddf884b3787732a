use Rattle.std.proofs.Common.{◌≤◌, ◌^◌, subst, ◌∙◌, ap, arith, List}
use Rattle.must_type.specs.Tree.{Made, IsWithinReach, weight}
use Rattle.must_type.specs.View.{trees_of}
use Rattle.must_type.specs.Facts.{facts_of}
use Rattle.must_type.proofs.Rows.{Shared, row_length_is}
use Rattle.must_type.proofs.tree.Tree.derive.Goals as goal

pub invariant_of-result : goal.invariant_of-result
invariant_of-result c =
    let made = c.in-Some.ensures in
    let items = c.as_slice.ensures.value in
    let olds = c.args.olds.items in
    let light : weight (Made c.args.origin c.args.call (trees_of olds)) ≤ 2 ^ 64 = omega (arith, c.requires.weight, c.ranges.weight) in (
      made.0 ∙ ap (λ (l : List Shared). facts_of (Made c.args.origin c.args.call (trees_of l))) items,
      record {
        reach = subst (λ (l : List Shared). IsWithinReach (Made c.args.origin c.args.call (trees_of l))) items made.1;
        made = (c.requires.allowed, row_length_is olds ∙ c.requires.olds);
        light = light;
      },
    )
