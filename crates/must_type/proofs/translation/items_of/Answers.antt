use Rattle.std.proofs.Common.{rules, arith, sym, ap, ◌∙◌, ℤ, pos, Some, List, [], ◌∷◌, ◌++◌, get_or, to_z, of_z}
use Rattle.std.specs.Prelude.{FitsSigned}
use Rattle.std.specs.Int.{w32, w64}
use Rattle.std.proofs.lemmas.Int.{to_z-of_z}
use Rattle.must_call.specs.declared.items.StructBlock.{StructBlock}
use Rattle.must_type.specs.declared.construct.StructItem.{StructItem}
use Rattle.must_type.proofs.Translated.{items_more, items_none}
use Rattle.must_type.proofs.translation.items_of.Goals as goal

abbrev default : StructBlock
default = record { block = pos 0; disp = pos 0; old = 0 }

pub returns-in_default : goal.returns-in_default
returns-in_default g c = sym (items_none (g.H.TypeHandles.types c.args.handles.now) c.args.blocks.now c.loop-block.block-index default (omega (arith, c.loop-block-test.true)) (sym c.in_default.ensures))

pub loop-block-preserved : goal.loop-block-preserved
loop-block-preserved g c =
    let b = get_or c.args.blocks.now c.loop-block.block-index default in
    let old = c.in-Some.old in
    let before = c.loop-block.items.items in
    let block_fits : FitsSigned w32 b.block = search rules in
    let disp_fits : FitsSigned w64 b.disp = search rules in
    let block = to_z-of_z w32 b.block block_fits in
    let disp = to_z-of_z w64 b.disp disp_fits in
    let with_block : ℤ → List StructItem = λ x. before ++ record { block = x; disp = to_z w64 (of_z w64 b.disp); old = old } ∷ [] in
    let with_disp : ℤ → List StructItem = λ x. before ++ record { block = b.block; disp = x; old = old } ∷ [] in
    items_more (g.H.TypeHandles.types c.args.handles.now) c.args.blocks.now c.loop-block.block-index default old before (omega (arith, c.loop-block-test.true)) (sym c.in-Some.ensures) c.loop-block.invariant ∙ ap Some (sym (c.in_ok-push.ensures.items ∙ ap with_block block ∙ ap with_disp disp))
