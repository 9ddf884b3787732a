use Rattle.std.proofs.Common.{◌≡◌, List, take}
use Rattle.std.specs.List.{flat_map}
use Rattle.must_type.specs.Maps.{Entry, extent, block}
use Rattle.must_type.specs.Summaries.{summary, Fits}
use Rattle.must_type.specs.Facts.{IsOf}
use Rattle.must_type.proofs.layout.all_blocks.Given as goal

abbrev pub invariant-loop-item : goal.invariant-loop-item
invariant-loop-item g l =
    record {
      fits : Fits l.all;
      all_is : (T : List Entry) → IsOf T l.fn.old → l.all ≡ summary (flat_map (λ it. block (g.P.Place.blocklength it l.fn.common) T (g.P.Place.at it (extent T))) (take l.item-index l.items));
    }
