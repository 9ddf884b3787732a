use Rattle.must_parts.proofs.Rows.{overlap_rows}
use Rattle.must_parts.proofs.overlaps.add_overlaps.Goals as goal

pub returns : goal.returns
returns c = λ ps low all.
    overlap_rows c.args.at ps _ _ _ _ _ _ _ low (c.judge_within.ensures ps all) (c.judge_within-2.ensures ps all) (c.judge_between.ensures ps all) c.in_ok-add_answer.ensures c.in_ok-add_answer-2.ensures c.in_ok-add_answer-3.ensures
