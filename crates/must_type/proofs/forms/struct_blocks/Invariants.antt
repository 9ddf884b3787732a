use Rattle.std.proofs.Common.{◌≡◌, take}
use Rattle.must_type.specs.Constructs.{struct_map}
use Rattle.must_type.specs.Summaries.{summary, Fits}
use Rattle.must_type.specs.Tree.{type_maps}
use Rattle.must_type.specs.View.{trees_of}
use Rattle.must_type.proofs.forms.struct_blocks.Given as goal

abbrev pub invariant-loop-i : goal.invariant-loop-i
invariant-loop-i l = record { fits : Fits l.all; all_is : l.all ≡ summary (struct_map (take l.i l.blocks) (type_maps (trees_of l.olds))) }
