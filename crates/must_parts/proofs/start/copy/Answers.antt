use Rattle.must_parts.proofs.Laying.{bytes_copied}
use Rattle.must_parts.proofs.start.copy.Goals as goal

pub returns : goal.returns
returns c = λ p is. record {
  number_is = is.number_is;
  access_is = is.access_is;
  weight_is = is.weight_is;
  laid = record { bytes = bytes_copied _ _ _ _ c.empty-spans.ensures c.in_ok-join.ensures.covers is.laid.bytes; overlaps_is = is.laid.overlaps_is };
}
