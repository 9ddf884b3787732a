use Rattle.std.proofs.Common.{map, ap, ◌∙◌}
use Rattle.must_parts.specs.Telling.{block_seen}
use Rattle.must_parts.proofs.Placing.{laid_alike}
use Rattle.must_parts.proofs.placed.place.Goals as goal

pub returns : goal.returns
returns c = λ part is. record {
  number_is = is.number_is;
  access_is = is.access_is;
  weight_is = (c.in-Ok.ensures).1 ∙ c.in_ok-part_weight.ensures part is;
  laid = laid_alike _ is.held part.datatype _ part.blocks (c.in_ok-laid.ensures is.held is.held_is) is.alike (ap (map block_seen) c.as_slice.ensures.value ∙ is.blocks_are);
}
