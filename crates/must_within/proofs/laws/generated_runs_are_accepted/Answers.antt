use Rattle.std.proofs.Common.{refl}
use Rattle.must_drill.specs.Streams.{stream_of}
use Rattle.must_rules.specs.Streams.{rank_told}
use Rattle.must_within.proofs.Rounds.{calls_within}
use Rattle.must_within.proofs.laws.generated_runs_are_accepted.Goals as goal

pub returns : goal.returns
returns c = λ ranks rounds number rank less few early. record {
  complete = c.accepted_run.ensures ranks rounds number rank less few early;
  within = calls_within (rank_told rank ranks (stream_of ranks rounds number rank)) ranks rounds number rank refl less few;
}
