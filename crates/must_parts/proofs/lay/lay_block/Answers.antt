use Rattle.std.proofs.Common.{◌≡◌, sym, subst, ◌∙◌, arith, to_z, of_z}
use Rattle.std.specs.Prelude.{ℤ}
use Rattle.std.specs.Int.{w128}
use Rattle.std.proofs.lemmas.Int.{ints}
use Rattle.must_span.specs.Bytes.{AreBytes, message_map}
use Rattle.must_parts.proofs.Laying.{one_block, one_overlap}
use Rattle.must_parts.specs.Telling.{block_seen}
use Rattle.must_parts.proofs.lay.lay_block.Goals as goal

pub returns : goal.returns
returns c = λ t there.
    let b = block_seen c.args.block in
    let read : to_z w128 (of_z w128 c.args.block.address) ≡ c.args.block.address = omega (arith, ints) in
    let held = subst (λ (a : ℤ). AreBytes c.in_ok-spans.spans (message_map a c.args.block.count t)) read (c.in_ok-spans.ensures.bytes t there) in
    record {
      bytes = subst (AreBytes c.in_ok-spans.spans) (sym (one_block t b)) held;
      overlaps_is = c.in_ok-overlaps.ensures t c.args.block.address there held ∙ sym (one_overlap t b);
    }
