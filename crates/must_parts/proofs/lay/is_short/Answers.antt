use Rattle.std.proofs.Common.{◌≡◌, ◌*◌, ap, ◌∙◌, arith, to_z, of_z}
use Rattle.std.specs.Int.{w128}
use Rattle.std.specs.Int.RustNames.{unsigned_abs}
use Rattle.std.proofs.lemmas.Int.{ints}
use Rattle.must_type.specs.Maps.{size}
use Rattle.must_type.specs.Tree.{type_map}
use Rattle.must_type.specs.Facts.{bounds_of}
use Rattle.must_type.specs.declared.bounds.Bounds.{Bounds}
use Rattle.must_span.specs.Bytes.{message_map}
use Rattle.must_parts.proofs.Shared.{overlap_is}
use Rattle.must_parts.proofs.Laying.{lt_from, lt_to}
use Rattle.must_parts.proofs.lay.is_short.Goals as goal

pub returns : goal.returns
unfolding bounds_of
returns c = λ t address there held.
    let count = c.args.count in
    let read : to_z w128 (of_z w128 c.bounds.result.size) ≡ c.bounds.result.size = omega (arith, ints) in
    let size_is : c.unsigned_abs-size.result ≡ size (type_map t) = c.unsigned_abs-size.ensures.value ∙ ap unsigned_abs read ∙ ap (λ (x : Bounds). unsigned_abs x.size) (c.bounds.ensures t there) in
    let total : c.in-Some.bytes ≡ count * size (type_map t) = (c.in-Some.ensures).1 ∙ ap (λ n. n * c.unsigned_abs-size.result) c.from.ensures ∙ ap (λ n. count * n) size_is in
    overlap_is (message_map address count t) _ _ (lt_from c.bytes.result c.in-Some.bytes (count * size (type_map t)) total) (lt_to c.bytes.result c.in-Some.bytes (count * size (type_map t)) total) (c.bytes.ensures.shared address count t held)
