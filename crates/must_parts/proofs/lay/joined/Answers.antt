use Rattle.std.proofs.Common.{◌∙◌}
use Rattle.must_parts.proofs.Laying.{bytes_joined, both_either}
use Rattle.must_parts.proofs.lay.joined.Goals as goal

pub returns : goal.returns
returns c = λ t bs cs p q. record {
  bytes = bytes_joined t bs cs _ _ _ c.in_ok-join.ensures.covers p.bytes q.bytes;
  overlaps_is = c.either.ensures ∙ both_either t bs cs _ _ p.overlaps_is q.overlaps_is;
}
