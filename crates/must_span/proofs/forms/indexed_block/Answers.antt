use Rattle.std.proofs.Common.{◌≡◌, ◌∙◌, ap}
use Rattle.std.specs.Int.{w32}
use Rattle.std.proofs.lemmas.Int.{to_z-of_z}
use Rattle.must_type.specs.Constructs.{natural, indexed_block_map}
use Rattle.must_span.proofs.forms.indexed_block.Goals as goal

pub returns : goal.returns
unfolding indexed_block_map
returns c = λ T w h.
    let n : c.natural.result ≡ natural c.args.blocklength = c.natural.ensures.value ∙ ap natural (to_z-of_z w32 c.args.blocklength c.ranges.blocklength) in
    rw n at (c.all_blocks.ensures T w h)
