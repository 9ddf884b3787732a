use Rattle.std.proofs.Common.{List, map, refl, sym, ap, subst, Err, ◌∙◌}
use Rattle.std.proofs.Math.ListN.{set}
use Rattle.must_base.specs.Views.{SourceView}
use Rattle.must_tree.specs.Reading.{ReadsRun, mode_of}
use Rattle.must_tree.specs.Told.{AreTied}
use Rattle.must_tree.specs.Reading.{Analyses}
use Rattle.must_tree.specs.Ranks.{fault_at}
use Rattle.must_tree.proofs.Analysing.{at_first, one_more, at_last, at_fault, tied_at_first, tied_at_last, tied_at_fault, parts_shown}
use Rattle.must_tree.proofs.serial.analyse_serial.Goals as goal

pub loop-rank-init : goal.loop-rank-init
loop-rank-init g c = record { size_is = refl; analysing = at_first g.S.Source.left g.S.Source.faults c.args.parts.now c.in_ok-node.node c.in_ok-node.ensures }

pub loop-rank-preserved : goal.loop-rank-preserved
loop-rank-preserved g c = record {
  size_is = refl;
  analysing = one_more g.S.Source.left g.S.Source.faults c.args.parts.now c.loop-rank.parts c.loop-rank.rank c.loop-rank.node c.read_rank.new.node _ c.read_rank.new.src
      c.loop-rank-test.true c.in-Ok.ensures.done c.in-Ok.ensures.tied c.loop-rank.invariant.analysing;
}

pub returns-clause-analyses : goal.returns-clause-analyses
returns-clause-analyses g c =
    let mode = mode_of c.args.plan.now.sends in
    subst (λ (parts : List SourceView). ReadsRun mode (map g.S.Source.left c.args.parts.now) parts c.in_ok-findings.findings) (sym (parts_shown g.S.Source.shows g.S.Source.left g.S.Source.faults g.met.S.Source.shows_is c.loop-rank.parts))
    (at_last g.S.Source.left g.S.Source.faults mode c.args.parts.now c.loop-rank.parts c.loop-rank.rank _ c.is_strict.result c.loop-rank.node c.in_ok-closed.closed c.in_ok-findings.findings
    c.loop-rank.invariant.size_is c.is_strict.ensures c.loop-rank-test.false c.in_ok-closed.ensures c.in_ok-findings.ensures c.as_slice.ensures.rises c.loop-rank.invariant.analysing)

pub returns-clause-tied : goal.returns-clause-tied
returns-clause-tied g c =
    subst (λ (parts : List SourceView). AreTied (map g.S.Source.left c.args.parts.now) parts) (sym (parts_shown g.S.Source.shows g.S.Source.left g.S.Source.faults g.met.S.Source.shows_is c.loop-rank.parts))
    (tied_at_last g.S.Source.left g.S.Source.faults c.args.parts.now c.loop-rank.parts c.loop-rank.rank c.loop-rank.node c.loop-rank-test.false c.loop-rank.invariant.analysing)

pub returns-in-Err-clause-analyses : goal.returns-in-Err-clause-analyses
returns-in-Err-clause-analyses g c =
    rw c.at.ensures
    (subst (λ (parts : List SourceView). Analyses (mode_of c.args.plan.now.sends) (map g.S.Source.left c.args.parts.now) parts (Err (fault_at c.loop-rank.rank c.in-Err.fault)))
    (sym (parts_shown g.S.Source.shows g.S.Source.left g.S.Source.faults g.met.S.Source.shows_is (set c.loop-rank.parts c.loop-rank.rank c.read_rank.new.src)))
    (at_fault g.S.Source.left g.S.Source.faults (mode_of c.args.plan.now.sends) c.args.parts.now c.loop-rank.parts c.loop-rank.rank _ c.read_rank.new.src c.loop-rank.node c.in-Err.fault
    c.loop-rank-test.true c.requires.fresh c.loop-rank.invariant.analysing c.in-Err.ensures.refused (λ e. c.read_rank.ensures.read (c.in-Err.is ∙ ap Err e))))

pub returns-in-Err-clause-tied : goal.returns-in-Err-clause-tied
returns-in-Err-clause-tied g c =
    subst (λ (parts : List SourceView). AreTied (map g.S.Source.left c.args.parts.now) parts)
    (sym (parts_shown g.S.Source.shows g.S.Source.left g.S.Source.faults g.met.S.Source.shows_is (set c.loop-rank.parts c.loop-rank.rank c.read_rank.new.src)))
    (tied_at_fault g.S.Source.left g.S.Source.faults c.args.parts.now c.loop-rank.parts c.loop-rank.rank _ c.read_rank.new.src c.loop-rank.node c.loop-rank-test.true c.in-Err.ensures.tied c.loop-rank.invariant.analysing)

pub returns-in_err-node-clause-tied : goal.returns-in_err-node-clause-tied
returns-in_err-node-clause-tied g c =
    subst (λ (parts : List SourceView). AreTied (map g.S.Source.left c.args.parts.now) parts) (sym (parts_shown g.S.Source.shows g.S.Source.left g.S.Source.faults g.met.S.Source.shows_is c.args.parts.now))
    (tied_at_first g.S.Source.left g.S.Source.faults c.args.parts.now)

pub returns-in_err-closed-clause-tied : goal.returns-in_err-closed-clause-tied
returns-in_err-closed-clause-tied g c =
    subst (λ (parts : List SourceView). AreTied (map g.S.Source.left c.args.parts.now) parts) (sym (parts_shown g.S.Source.shows g.S.Source.left g.S.Source.faults g.met.S.Source.shows_is c.loop-rank.parts))
    (tied_at_last g.S.Source.left g.S.Source.faults c.args.parts.now c.loop-rank.parts c.loop-rank.rank c.loop-rank.node c.loop-rank-test.false c.loop-rank.invariant.analysing)

pub returns-in_err-findings-clause-tied : goal.returns-in_err-findings-clause-tied
returns-in_err-findings-clause-tied g c =
    subst (λ (parts : List SourceView). AreTied (map g.S.Source.left c.args.parts.now) parts) (sym (parts_shown g.S.Source.shows g.S.Source.left g.S.Source.faults g.met.S.Source.shows_is c.loop-rank.parts))
    (tied_at_last g.S.Source.left g.S.Source.faults c.args.parts.now c.loop-rank.parts c.loop-rank.rank c.loop-rank.node c.loop-rank-test.false c.loop-rank.invariant.analysing)
