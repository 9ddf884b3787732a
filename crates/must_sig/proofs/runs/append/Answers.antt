use Rattle.std.proofs.Common.{refl, ◌∙◌, ap, arith, ◌++◌, take, length, length-append, get_or}
use Rattle.std.specs.Prelude.{replicate}
use Rattle.must_sig.specs.Signatures.{laid}
use Rattle.must_sig.proofs.Laying.{room_for, appended_more}
use Rattle.must_call.specs.declared.basic.Basic.TheVariants.{Char}
use Rattle.must_sig.specs.declared.run.Run.{Run}
use Rattle.must_sig.proofs.runs.append.Goals as goal

abbrev default : Run
default = record { basic = Char; length = 0 }

pub push_run-requires-clause-short : goal.push_run-requires-clause-short
push_run-requires-clause-short c = omega (arith, c.requires.short, room_for c.args.more.now c.loop-i.i default (omega (arith, c.loop-i-test.true)), ap length c.loop-i.invariant.laid, length-append (laid c.args.runs.now.items) (laid (take c.loop-i.i c.args.more.now)))

pub loop-i-preserved : goal.loop-i-preserved
loop-i-preserved c = record {
  laid = appended_more c.args.runs.now.items c.loop-i.runs.items c.args.more.now _ c.loop-i.i default (omega (arith, c.loop-i-test.true)) refl (c.in_ok-push_run.ensures.laid ∙ ap (λ l. l ++ replicate (get_or c.args.more.now c.loop-i.i default).length (get_or c.args.more.now c.loop-i.i default).basic) c.loop-i.invariant.laid);
  runs = c.in_ok-push_run.ensures.runs;
  merged = c.in_ok-push_run.ensures.merged;
}
