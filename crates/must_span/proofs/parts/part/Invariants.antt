use Rattle.std.proofs.Common.{◌≡◌, ℕ, List, ◌+◌, ◌^◌, pos, ◌*ℤ◌}
use Rattle.std.specs.Int.RustNames.{unsigned_abs}
use Rattle.std.specs.List.{AllByRecursion}
use Rattle.must_type.specs.Maps.{Entry}
use Rattle.must_type.specs.Constructs.{cells_in, slow_first}
use Rattle.must_span.specs.Ranges.{IsFilled}
use Rattle.must_span.specs.Steps.{IsNear, AreOf}
use Rattle.must_span.proofs.PartLaws.{fastest, IsPartLaid}
use Rattle.must_span.proofs.parts.part.Given as goal

abbrev pub invariant-loop-k : goal.invariant-loop-k
invariant-loop-k l = record {
  filled : AllByRecursion IsFilled l.made.items;
  near : AllByRecursion (IsNear (2 ^ 63 + unsigned_abs l.step)) l.made.items;
  step_is : l.step ≡ pos (cells_in (fastest (slow_first l.order l.dims) l.k)) *ℤ l.fn.old.extent;
  laid : (T : List Entry) (w : ℕ) → AreOf T w l.fn.old → IsPartLaid (fastest (slow_first l.order l.dims) l.k) l.made.items T w;
}
