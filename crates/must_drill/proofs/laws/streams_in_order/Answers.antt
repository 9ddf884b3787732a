use Rattle.std.proofs.lemmas.List.FromFn.{length-map-range_with_len}
use Rattle.must_drill.specs.Streams.{stream_of}
use Rattle.must_drill.proofs.Ranges.{made_at}
use Rattle.must_drill.proofs.laws.streams_in_order.Goals as goal

pub returns-clause-count : goal.returns-clause-count
returns-clause-count c = λ ranks rounds number. length-map-range_with_len (λ rank. stream_of ranks rounds number rank) 0 ranks

pub returns-clause-each : goal.returns-clause-each
returns-clause-each c = λ ranks rounds number rank less. made_at (λ k. stream_of ranks rounds number k) ranks rank less
