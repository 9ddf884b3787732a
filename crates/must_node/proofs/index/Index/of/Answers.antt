use Rattle.std.proofs.Common.{take, sym, subst}
use Rattle.std.proofs.lemmas.List.{take_all}
use Rattle.must_node.specs.ListLaws.{front_more}
use Rattle.must_node.specs.Indexed.{Stands}
use Rattle.must_node.proofs.index.Index.of.Goals as goal

pub loop-fact-preserved : goal.loop-fact-preserved
loop-fact-preserved c =
    let xs = c.args.facts.now in
    let i = c.loop-fact.fact-index in
    let x = c.fact-item.result in
    subst (Stands c.add.new.self) (sym (front_more xs i x x c.loop-fact-test.true c.fact-item.is)) (c.in_ok-add.ensures (take i xs) c.loop-fact.invariant)

pub returns : goal.returns
returns c = subst (Stands c.loop-fact.index) (take_all c.loop-fact.fact-index c.args.facts.now c.loop-fact-test.false) c.loop-fact.invariant
