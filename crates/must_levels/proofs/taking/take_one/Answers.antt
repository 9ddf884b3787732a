use Rattle.std.proofs.Common.{◌++◌, ◌∷◌, []}
use Rattle.must_inbox.specs.Children.{batches_of}
use Rattle.must_levels.proofs.Moves.{none_taken, one_taken, taken_lawful, passed_on, got_more}
use Rattle.must_levels.proofs.taking.take_one.Goals as goal

pub returns-in_err-take-in-Some-clause-taken : goal.returns-in_err-take-in-Some-clause-taken
returns-in_err-take-in-Some-clause-taken g c = one_taken c.args.root c.args.inbox.now c.args.upper.now c.args.taker.now c.take.new.taker c.args.node.now c.args.port.now (c.in-Some.field-0-0, c.in-Some.batch) c.requires.take c.in-Some.ensures.taken

pub pass_on-requires-clause-passes : goal.pass_on-requires-clause-passes
pass_on-requires-clause-passes g c =
    let law = taken_lawful c.args.root c.args.inbox.now c.args.upper.now c.args.taker.now c.take.new.taker c.args.node.now c.args.port.now (c.in-Some.field-0-0, c.in-Some.batch) c.requires.take c.in-Some.ensures.taken c.in-Some.ensures.orderly in
    record {
      taken = batches_of c.args.taker.now.got ++ c.in-Some.batch ∷ [];
      stands = c.in_ok-take-in-Some.ensures c.args.port.now.range c.args.root (batches_of c.args.taker.now.got) c.args.port.now.sent c.requires.take.passed.stands law;
      lawful = law;
    }

pub returns-in_ok-pass_on-in-Some-clause-passed : goal.returns-in_ok-pass_on-in-Some-clause-passed
returns-in_ok-pass_on-in-Some-clause-passed g c =
    let law = taken_lawful c.args.root c.args.inbox.now c.args.upper.now c.args.taker.now c.take.new.taker c.args.node.now c.args.port.now (c.in-Some.field-0-0, c.in-Some.batch) c.requires.take c.in-Some.ensures.taken c.in-Some.ensures.orderly in
    let taken = batches_of c.args.taker.now.got ++ c.in-Some.batch ∷ [] in
    let stands = c.in_ok-take-in-Some.ensures c.args.port.now.range c.args.root (batches_of c.args.taker.now.got) c.args.port.now.sent c.requires.take.passed.stands law in
    let after = c.in_ok-pass_on-in-Some.ensures.all taken stands in
    passed_on c.args.root c.take.new.taker c.pass_on.new.node c.args.port.now c.pass_on.new.port taken (got_more c.args.taker.now c.take.new.taker (c.in-Some.field-0-0, c.in-Some.batch) c.in-Some.ensures.taken) c.in_ok-pass_on-in-Some.ensures.port after.0 after.1 law

pub returns-in-None-clause-taken : goal.returns-in-None-clause-taken
returns-in-None-clause-taken g c = none_taken c.args.root c.args.inbox.now c.args.upper.now c.args.taker.now c.take.new.taker c.args.node.now c.args.port.now c.requires.take c.in-None.ensures.none
