use Rattle.std.proofs.Common.{◌≡◌, ◌-◌, ◌*◌, pos, ◌*ℤ◌, ℤ, arith, ◌∙◌, ap, to_z, of_z}
use Rattle.std.specs.Int.{w128}
use Rattle.std.proofs.lemmas.Int.{ints, to_z-of_z}
use Rattle.must_type.proofs.Distances.{repeated_read, repeated_none, shifted_size}
use Rattle.must_type.proofs.summary.Summary.repeated.Goals as goal

pub returns-then-count-eq0 : goal.returns-then-count-eq0
returns-then-count-eq0 c = record { value = c.empty.ensures ∙ repeated_none c.args.count c.args.stride c.args.self c.if-count-eq0.true }

pub joined-all-requires : goal.joined-all-requires
joined-all-requires c = let e : c.moved.result.size ≡ c.args.self.size = shifted_size _ c.args.self c.moved.result c.moved.ensures in omega arith

pub returns : goal.returns
returns c =
    let l : to_z w128 (of_z w128 c.times-last.result) ≡ c.times-last.result = omega (arith, ints) in
    let f : to_z w128 (of_z w128 c.from.result) ≡ pos (c.args.count - 1) = omega (arith, ints, c.from.ensures) in
    let g : to_z w128 (of_z w128 c.args.stride) ≡ c.args.stride = to_z-of_z w128 c.args.stride c.ranges.stride in
    let last : to_z w128 (of_z w128 c.times-last.result) ≡ pos (c.args.count - 1) *ℤ c.args.stride =
    l ∙ c.times-last.ensures.value ∙ ap (λ (x : ℤ). x *ℤ to_z w128 (of_z w128 c.args.stride)) f ∙ ap (λ (y : ℤ). pos (c.args.count - 1) *ℤ y) g in
    record { value = repeated_read c.args.count (c.from-2.result * c.args.self.size) c.args.stride (to_z w128 (of_z w128 c.times-last.result)) c.args.self c.moved.result c.joined-all.result c.if-count-eq0.false (ap (λ n. n * c.args.self.size) c.from-2.ensures) c.requires.aligned last c.moved.ensures c.joined-all.ensures }
