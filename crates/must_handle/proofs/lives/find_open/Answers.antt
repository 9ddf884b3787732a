use Rattle.std.proofs.Common.{◌≡◌, ◌+◌, length, sym, ap, ◌∙◌, arith}
use Rattle.std.specs.Prelude.{slice_get}
use Rattle.must_rules.specs.Lives.{open_handles, live_among}
use Rattle.must_rules.specs.LiveLaws.{open_at, live_count, live_now, open_past}
use Rattle.must_handle.proofs.lives.find_open.Goals as goal

pub returns-in-loop-at : goal.returns-in-loop-at
returns-in-loop-at c = λ is_clear calls stands.
    let n = 64 + c.loop-at.at in
    let is = sym (stands.lives c.args.class n) ∙ sym c.handle_life-life.ensures ∙ c.in-Some.ensures in
    let i : c.args.i ≡ length (live_among calls c.args.class c.loop-at.at 64) = omega (arith, c.loop-at.invariant is_clear calls stands) in
    sym (ap (λ k. slice_get (open_handles calls c.args.class) k) i ∙ open_at calls c.args.class c.loop-at.at c.in-Some.made (omega (arith, stands.count)) is)

pub loop-at-preserved : goal.loop-at-preserved
loop-at-preserved c = λ is_clear calls stands.
    let n = 64 + c.loop-at.at in
    let is = ap live_now (sym (stands.lives c.args.class n) ∙ sym c.handle_life-life.ensures) in
    omega (arith, c.loop-at.invariant is_clear calls stands, live_count calls c.args.class c.loop-at.at 64, is, c.left_behind-left.ensures)

pub returns : goal.returns
returns c = λ is_clear calls stands.
    sym (open_past calls c.args.class c.loop-at.at c.args.i (omega (arith, stands.count)) (omega (arith, stands.count)) (omega (arith, c.loop-at.invariant is_clear calls stands)))
