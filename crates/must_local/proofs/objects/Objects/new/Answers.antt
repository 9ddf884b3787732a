use Rattle.std.proofs.Common.{length, nat_eq, sym, ap, subst, ◌∙◌, arith}
use Rattle.std.specs.List.{IsDistinct}
use Rattle.must_local.proofs.Marking.{nil_distinct, one_distinct, below_distinct, below_length}
use Rattle.must_local.proofs.objects.Objects.new.Goals as goal

pub named-requires-clause-distinct : goal.named-requires-clause-distinct
named-requires-clause-distinct c = subst (IsDistinct nat_eq) (sym (c.deref.ensures.value ∙ c.in_ok-world.ensures)) (below_distinct c.args.size)

pub named-requires-clause-few : goal.named-requires-clause-few
named-requires-clause-few c =
    let len = ap length (c.deref.ensures.value ∙ c.in_ok-world.ensures) ∙ below_length c.args.size in
    omega (arith, len, c.ranges.size.fits)

pub named-requires-2-clause-distinct : goal.named-requires-2-clause-distinct
named-requires-2-clause-distinct c = one_distinct c.args.rank

pub of-requires : goal.of-requires
of-requires c = nil_distinct
