use Rattle.std.proofs.Common.{◌≡◌, ◌∙◌, ap, arith, rules, ℤ, pos, ◌*ℤ◌, to_z, of_z}
use Rattle.std.specs.Int.{w128, w32}
use Rattle.std.proofs.lemmas.Int.{ints, to_z-of_z}
use Rattle.must_type.specs.Constructs.{natural}
use Rattle.must_span.proofs.LaidLaws.{put_alone}
use Rattle.must_span.proofs.PartLaws.{natural_is}
use Rattle.must_span.proofs.parts.widened.Goals as goal

pub returns : goal.returns
returns c =
    let step = to_z-of_z w128 c.args.step c.ranges.step in
    let f : to_z w128 (of_z w128 c.from.result) ≡ c.args.dim.start = search rules in
    let b : to_z w128 (of_z w128 c.times-first.result) ≡ c.times-first.result = omega (arith, ints, c.times-first.ensures.near) in
    let at : to_z w128 (of_z w128 c.times-first.result) ≡ pos (natural c.args.dim.start) *ℤ c.args.step =
    b ∙ c.times-first.ensures.value ∙ ap (λ (x : ℤ). x *ℤ to_z w128 (of_z w128 c.args.step)) (f ∙ natural_is c.args.dim.start c.requires.dim.start) ∙ ap (λ (x : ℤ). pos (natural c.args.dim.start) *ℤ x) step in
    let e : to_z w32 (of_z w32 c.args.dim.subsize) ≡ c.args.dim.subsize = omega (arith, ints) in
    let n : c.natural.result ≡ natural c.args.dim.subsize = c.natural.ensures.value ∙ ap natural e in
    rw n at (put_alone _ c.args.part.now c.repeat.new.out.items _ (pos (natural c.args.dim.start) *ℤ c.args.step) _ c.args.step c.natural.result c.new-wider.ensures.items at step c.in_ok-repeat.ensures)
