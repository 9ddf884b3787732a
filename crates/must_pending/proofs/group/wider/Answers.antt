use Rattle.std.proofs.Common.{arith}
use Rattle.std.proofs.lemmas.Int.{ints, clamps}
use Rattle.must_pending.proofs.GroupLaws.{neither}
use Rattle.must_pending.proofs.group.wider.Goals as goal

pub returns-clause-first : goal.returns-clause-first
returns-clause-first c = λ h s. record {
  within = record {
    from = λ x p. let q = s.within.from x p in omega (arith, ints, clamps, q, c.min.ensures.value);
    below = λ x p. let q = s.within.below x p in omega (arith, ints, clamps, q, c.max.ensures.value);
  };
  reads = λ e. s.reads (neither c.args.first.writes c.args.second.writes e).0;
  from_least = omega (arith, s.from_least, c.min-2.ensures);
  to_greatest = omega (arith, s.to_greatest, c.max-2.ensures);
}

pub returns-clause-second : goal.returns-clause-second
returns-clause-second c = λ h s. record {
  within = record {
    from = λ x p. let q = s.within.from x p in omega (arith, ints, clamps, q, c.min.ensures.value);
    below = λ x p. let q = s.within.below x p in omega (arith, ints, clamps, q, c.max.ensures.value);
  };
  reads = λ e. s.reads (neither c.args.first.writes c.args.second.writes e).1;
  from_least = omega (arith, s.from_least, c.min-2.ensures);
  to_greatest = omega (arith, s.to_greatest, c.max-2.ensures);
}
