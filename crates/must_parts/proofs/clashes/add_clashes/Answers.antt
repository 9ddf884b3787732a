use Rattle.std.proofs.Common.{ap}
use Rattle.must_find.specs.declared.rule.Rule.TheVariants.{T3}
use Rattle.must_rules.specs.Parts.{numbered}
use Rattle.must_rules.specs.PendingOperations.{clash_of}
use Rattle.must_parts.proofs.Rows.{told_two, no_such}
use Rattle.must_parts.proofs.clashes.add_clashes.Goals as goal

pub returns : goal.returns
returns c = λ ops ps low held all.
    told_two c.args.at T3 (λ n. clash_of c.args.at.rank ops (numbered n ps)) (λ n. ap (clash_of c.args.at.rank ops) (no_such ps n low)) _ _ _ _ _ (c.judge_clash.ensures ops ps held all) (c.judge_clash-2.ensures ops ps held all) c.in_ok-add_answer.ensures c.in_ok-add_answer-2.ensures
