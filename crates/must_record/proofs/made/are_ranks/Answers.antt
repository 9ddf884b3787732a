use Rattle.std.proofs.Common.{◌≡◌, ◌-◌, ◌++◌, ◌∷◌, [], refl, sym, ◌∙◌, arith}
use Rattle.must_format.specs.Stream.{has_rank}
use Rattle.must_record.proofs.Marked.{no_marks, mark, past_refused, again_refused, member_next}
use Rattle.must_record.proofs.made.are_ranks.Goals as goal

pub loop-init : goal.loop-init
loop-init c = let all : c.args.count - 0 ≡ c.args.count = omega arith in ([], no_marks c.args.size, rw all refl)

pub returns-then-member-size : goal.returns-then-member-size
returns-then-member-size c =
    let i = c.loop.invariant in
    past_refused c.args.rank c.args.size c.args.count c.loop.counter i.0 c.loop.fields.rest.now _ c.loop-test.true i.2 (omega (arith, c.u32-member.ensures.value, c.if-member-size.true))

pub returns-then-marks-member : goal.returns-then-marks-member
returns-then-marks-member c =
    let i = c.loop.invariant in
    let has = sym (i.1.marks_are c.u32-member.result (omega (arith, c.if-member-size.false, c.requires.size))) ∙ c.if-marks-member.true in
    again_refused c.args.rank c.args.size c.args.count c.loop.counter i.0 c.loop.fields.rest.now _ c.loop-test.true i.2 (rw c.u32-member.ensures.value at has)

pub loop-preserved : goal.loop-preserved
loop-preserved c =
    let i = c.loop.invariant in
    let m = c.u32-member.result in
    let new : has_rank m i.0 ≡ _ = sym (i.1.marks_are m (omega (arith, c.if-member-size.false, c.requires.size))) ∙ c.if-marks-member.false in (
      i.0 ++ m ∷ [],
      mark c.args.size c.loop.marks i.0 m c.if-member-size.false c.requires.size new i.1,
      rw (c.u32-member.ensures.value, c.u32-member.ensures.rest) (member_next c.args.count c.loop.counter i.0 c.loop.fields.rest.now _ c.loop-test.true i.2),
    )
