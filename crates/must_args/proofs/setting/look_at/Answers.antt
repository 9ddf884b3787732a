use Rattle.std.proofs.Common.{ap, ◌∙◌, ◌||◌}
use Rattle.must_call.specs.Arguments.{seen}
use Rattle.must_rules.specs.Significant.{or_else, first_told, comm_in, root_in, in_place_in, is_send}
use Rattle.must_rules.specs.Breaches.{sends}
use Rattle.must_args.specs.AskingLaws.{all_there}
use Rattle.must_args.specs.AskingLaws.{told_step}
use Rattle.must_args.proofs.Steps.{sends_step}
use Rattle.must_args.proofs.setting.look_at.Goals as goal

pub loop-argument-preserved : goal.loop-argument-preserved
loop-argument-preserved c =
    let xs = c.args.arguments.now in
    let i = c.loop-argument.argument-index in
    let within = c.loop-argument-test.true in
    record {
      comm = told_step seen xs i c.argument-item.result within c.argument-item.is comm_in c.loop-argument.comm c.first_of-comm.result c.loop-argument.invariant.comm (c.first_of-comm.ensures ∙ ap (or_else c.loop-argument.comm) c.comm_told.ensures);
      root = told_step seen xs i c.argument-item.result within c.argument-item.is root_in c.loop-argument.root c.first_of-root.result c.loop-argument.invariant.root (c.first_of-root.ensures ∙ ap (or_else c.loop-argument.root) c.root_told.ensures);
      in_place = told_step seen xs i c.argument-item.result within c.argument-item.is in_place_in c.loop-argument.in_place c.first_of-in_place.result c.loop-argument.invariant.in_place (c.first_of-in_place.ensures ∙ ap (or_else c.loop-argument.in_place) c.in_place_told.ensures);
      sends = sends_step seen xs i c.argument-item.result within c.argument-item.is c.loop-argument.sends c.either-sends.result c.loop-argument.invariant.sends (c.either-sends.ensures ∙ ap (λ b. c.loop-argument.sends || b) (c.is_send.ensures ∙ ap is_send c.side_of.ensures));
    }

pub returns : goal.returns
returns c =
    let all = all_there seen c.args.arguments.now c.loop-argument.argument-index c.loop-argument-test.false in
    record {
      comm = c.loop-argument.invariant.comm ∙ ap (first_told comm_in) all;
      root = c.loop-argument.invariant.root ∙ ap (first_told root_in) all;
      in_place = c.loop-argument.invariant.in_place ∙ ap (first_told in_place_in) all;
      sends = c.loop-argument.invariant.sends ∙ ap sends all;
    }
