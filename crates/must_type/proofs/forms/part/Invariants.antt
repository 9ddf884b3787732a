use Rattle.std.proofs.Common.{◌≡◌, List, pos, ◌*ℤ◌}
use Rattle.must_type.specs.Maps.{Entry, extent}
use Rattle.must_type.specs.Constructs.{cells_in, part_cells, slow_first, at_cells}
use Rattle.must_type.specs.Summaries.{summary}
use Rattle.must_type.specs.Facts.{IsOf, IsPartly}
use Rattle.must_type.proofs.Parts.{fastest}
use Rattle.must_type.proofs.forms.part.Given as goal

abbrev pub invariant-loop-k : goal.invariant-loop-k
invariant-loop-k l =
    record {
      partly : IsPartly l.step l.all;
      step_is : (T : List Entry) → IsOf T l.fn.old → l.step ≡ pos (cells_in (fastest (slow_first l.fn.order l.dims) l.k)) *ℤ extent T;
      all_is : (T : List Entry) → IsOf T l.fn.old → l.all ≡ summary (at_cells T (part_cells (fastest (slow_first l.fn.order l.dims) l.k)));
    }
