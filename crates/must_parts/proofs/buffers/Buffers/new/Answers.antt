use Rattle.must_parts.proofs.Starting.{held_first}
use Rattle.must_parts.proofs.buffers.Buffers.new.Goals as goal

pub returns : goal.returns
returns c = λ r. record { held = held_first r _ c.in_ok-new.ensures; kept = c.new-2.ensures r }
