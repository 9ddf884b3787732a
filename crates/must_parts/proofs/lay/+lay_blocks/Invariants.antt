use Rattle.std.proofs.Common.{length}
use Rattle.must_parts.proofs.lay.+lay_blocks.Given as goal

abbrev pub decreases-lay_blocks : goal.decreases-lay_blocks
decreases-lay_blocks l = length l.blocks.now
