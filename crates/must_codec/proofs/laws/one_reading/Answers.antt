use Rattle.must_format.specs.StreamLaws.{stream_is_one}
use Rattle.must_format.specs.CompleteLaws.{stream_exists}
use Rattle.must_codec.proofs.laws.one_reading.Goals as goal

pub returns-clause-some : goal.returns-clause-some
returns-clause-some c = λ e bytes. stream_exists e bytes

pub returns-clause-one : goal.returns-clause-one
returns-clause-one c = λ e bytes calls others end other a b. stream_is_one e bytes calls others end other a b
