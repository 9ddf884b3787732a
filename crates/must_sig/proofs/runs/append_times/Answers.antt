use Rattle.std.proofs.Common.{◌≡◌, refl, sym, ◌∙◌, ap, arith, ◌++◌, length, get_or, length-append, append-nil, append_assoc}
use Rattle.std.proofs.lemmas.Bool.Decides.{nat_tests}
use Rattle.must_call.specs.declared.basic.Basic.TheVariants.{Char}
use Rattle.must_sig.specs.declared.run.Run.{Run}
use Rattle.must_sig.specs.Signatures.{laid, repeated}
use Rattle.must_sig.proofs.Periods.{repeated_zero, repeated_length}
use Rattle.must_sig.proofs.Laying.{no_runs_more, long_room, long_short, one_filled, times_some, long_run, copies_room, one_more}
use Rattle.must_sig.proofs.runs.append_times.Goals as goal

abbrev default : Run
default = record { basic = Char; length = 0 }

pub returns-then-times-eq0-clause-laid : goal.returns-then-times-eq0-clause-laid
returns-then-times-eq0-clause-laid c =
    let xs = laid c.args.runs.now.items in
    sym (ap (λ n. xs ++ repeated n (laid c.args.more.now)) c.if-times-eq0.true ∙ ap (λ l. xs ++ l) (repeated_zero (laid c.args.more.now)) ∙ append-nil xs)

pub returns-then-is_empty-clause-laid : goal.returns-then-is_empty-clause-laid
returns-then-is_empty-clause-laid c =
    let xs = laid c.args.runs.now.items in
    let none : length c.args.more.now ≡ 0 = grind (arith, nat_tests, c.is_empty.ensures, c.if-is_empty.true) in
    sym (ap (λ l. xs ++ l) (no_runs_more c.args.more.now c.args.times none) ∙ append-nil xs)

pub overflow_mul-long : goal.overflow_mul-long
overflow_mul-long c = record { fits = long_room c.args.more.now c.args.times (length (laid c.args.runs.now.items)) default c.if-more-eq1.true c.requires.short }

pub push_run-requires-clause-run : goal.push_run-requires-clause-run
push_run-requires-clause-run c = times_some c.args.times (get_or c.args.more.now 0 default).length c.if-times-eq0.false (one_filled c.args.more.now default (get_or c.args.more.now 0 default) refl c.if-more-eq1.true c.requires.more)

pub push_run-requires-clause-short : goal.push_run-requires-clause-short
push_run-requires-clause-short c = long_short c.args.more.now c.args.times (length (laid c.args.runs.now.items)) default c.if-more-eq1.true c.requires.short

pub returns-then-more-eq1-clause-laid : goal.returns-then-more-eq1-clause-laid
returns-then-more-eq1-clause-laid c = c.in_ok-push_run.ensures.laid ∙ ap (λ l. laid c.args.runs.now.items ++ l) (long_run c.args.more.now c.args.times default (get_or c.args.more.now 0 default) refl c.if-more-eq1.true)

pub loop-copy-init : goal.loop-copy-init
loop-copy-init c = record { laid = sym (ap (λ l. laid c.args.runs.now.items ++ l) (repeated_zero (laid c.args.more.now)) ∙ append-nil (laid c.args.runs.now.items)); runs = c.requires.runs; merged = c.requires.merged }

pub append-requires-clause-short : goal.append-requires-clause-short
append-requires-clause-short c =
    let u = laid c.args.more.now in
    let xs = laid c.args.runs.now.items in
    let done = repeated c.loop-copy.copy u in
    omega (arith, ap length c.loop-copy.invariant.laid, length-append xs done, repeated_length c.loop-copy.copy u, copies_room c.args.times c.loop-copy.copy (length u) (length xs) (omega (arith, c.loop-copy-test.true)) c.requires.short)

pub loop-copy-preserved : goal.loop-copy-preserved
loop-copy-preserved c =
    let u = laid c.args.more.now in
    let xs = laid c.args.runs.now.items in
    record {
      laid = c.in_ok-append.ensures.laid ∙ ap (λ l. l ++ u) c.loop-copy.invariant.laid ∙ append_assoc xs (repeated c.loop-copy.copy u) u ∙ ap (λ l. xs ++ l) (one_more c.loop-copy.copy u);
      runs = c.in_ok-append.ensures.runs;
      merged = c.in_ok-append.ensures.merged;
    }
