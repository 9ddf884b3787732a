use Rattle.std.proofs.Common.{rules, ◌≡◌, ◌∙◌, ap, arith, pos, get_or, to_z, of_z}
use Rattle.std.specs.Int.{w128, w32}
use Rattle.must_type.specs.Constructs.{natural}
use Rattle.std.proofs.lemmas.Int.{ints, to_z-of_z}
use Rattle.must_type.specs.declared.construct.StructItem.{StructItem}
use Rattle.must_type.specs.Maps.{size}
use Rattle.must_type.specs.Tree.{type_map, weight}
use Rattle.must_span.proofs.LaidLaws.{laid_none, adds_none, put_block, near_weaker}
use Rattle.must_span.proofs.TreeLaws.{usable, made_laid, has_old, has_room, struct_more, struct_end}
use Rattle.must_span.proofs.lay.+lay.Goals as goal

abbrev default : StructItem
default = record { block = pos 0; disp = pos 0; old = record { number = 0 } }

pub laid_out-returns-clause-usable : goal.laid_out-returns-clause-usable
laid_out-returns-clause-usable t c =
    let e : to_z w128 (of_z w128 c.bounds-bounds.result.extent) ≡ c.bounds-bounds.result.extent = omega (arith, ints) in
    usable c.args.tree.now _ c.bounds-bounds.ensures.makeable (e ∙ c.bounds-bounds.ensures.extent) c.in_ok-ranges.ensures

pub lay-returns-then-bounds-eq0 : goal.lay-returns-then-bounds-eq0
lay-returns-then-bounds-eq0 t c =
    let none : size (type_map c.args.tree.now) ≡ 0 = omega (arith, ints, c.if-bounds-eq0.true, c.bounds-bounds.ensures.size, c.bounds-bounds.ensures.makeable.reach.small) in
    rw c.new.ensures.items (laid_none (type_map c.args.tree.now) (weight c.args.tree.now) none)

pub lay_made-old_of-requires : goal.lay_made-old_of-requires
lay_made-old_of-requires t c = has_old c.args.tree.now c.args.call.now c.requires.made c.requires.one

pub lay_made-made_of-requires-clause-room : goal.lay_made-made_of-requires-clause-room
lay_made-made_of-requires-clause-room t c = has_room c.args.tree.now c.old_of.result.now c.args.call.now c.in_ok-old.old.extent c.requires.made c.requires.one c.requires.makeable c.old_of.ensures.map c.in_ok-old.ensures.of.extent_is

pub lay_made-returns : goal.lay_made-returns
lay_made-returns t c =
    let old = c.old_of.result.now in
    made_laid c.args.tree.now old c.args.call.now c.in_ok-laid.laid.items c.requires.made c.requires.one c.old_of.ensures.map c.old_of.ensures.weight (c.in_ok-laid.ensures (type_map old) (weight old) c.in_ok-old.ensures.of)

pub push_block-returns-then-count-eq0 : goal.push_block-returns-then-count-eq0
push_block-returns-then-count-eq0 t c = adds_none c.args.made.now.items (type_map c.args.tree.now) c.args.at c.args.count (weight c.args.tree.now) c.if-count-eq0.true

pub push_block-repeat-requires-clause-near : goal.push_block-repeat-requires-clause-near
push_block-repeat-requires-clause-near t c = rw c.as_slice.ensures.value (near_weaker _ _ _ (omega arith) c.in_ok-old.ensures.usable.near)

pub push_block-returns : goal.push_block-returns
push_block-returns t c =
    let old = c.in_ok-old.old in
    let e : to_z w128 (of_z w128 old.extent) ≡ old.extent = omega (arith, ints, c.in_ok-old.ensures.usable.extent_near) in
    put_block c.args.made.now.items old.ranges.items c.repeat.new.out.items (type_map c.args.tree.now) _ c.args.at _ old.extent c.args.count (weight c.args.tree.now) (to_z-of_z w128 c.args.at c.ranges.at) e c.in_ok-old.ensures.of.extent_is c.in_ok-old.ensures.of.laid (rw c.as_slice.ensures.value at c.in_ok-repeat.ensures)

pub struct_ranges-loop-i-preserved : goal.struct_ranges-loop-i-preserved
struct_ranges-loop-i-preserved t c =
    let blocks = c.args.blocks.now in
    let item = get_or blocks c.loop-i.i default in
    let at : to_z w128 (of_z w128 c.from-at.result) ≡ item.disp = search rules in
    let e : to_z w32 (of_z w32 item.block) ≡ item.block = omega (arith, ints) in
    let n : c.natural-count.result ≡ natural item.block = c.natural-count.ensures.value ∙ ap natural e in
    struct_more c.args.tree.now c.old_of.result.now blocks c.loop-i.i c.natural-count.result (to_z w128 (of_z w128 c.from-at.result)) default c.loop-i.made.items c.push_block.new.made.items c.old_of.ensures.map c.old_of.ensures.weight (omega (arith, c.loop-i-test.true)) n at c.loop-i.invariant c.in_ok-push_block.ensures

pub struct_ranges-returns : goal.struct_ranges-returns
struct_ranges-returns t c = struct_end c.args.tree.now c.args.blocks.now c.loop-i.i c.loop-i.made.items c.requires (omega (arith, c.loop-i-test.false)) c.loop-i.invariant
