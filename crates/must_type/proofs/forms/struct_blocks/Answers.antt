use Rattle.std.proofs.Common.{rules, ◌≡◌, ℕ, ◌+◌, subst, sym, ◌∙◌, ap, ℤ, pos, arith, get_or, FitsSigned, to_z, of_z, w32, w64}
use Rattle.std.specs.Int.{w128}
use Rattle.std.proofs.lemmas.Int.{ints, to_z-of_z}
use Rattle.must_type.specs.declared.construct.StructItem.{StructItem}
use Rattle.must_type.specs.Constructs.{natural}
use Rattle.must_type.specs.Summaries.{shift, repeated, Fits}
use Rattle.must_type.specs.Tree.{type_maps}
use Rattle.must_type.specs.View.{trees_of}
use Rattle.must_type.proofs.Layouts.{no_entries_fit, no_entries_are}
use Rattle.must_type.proofs.Rows.{struct_step, struct_front_fits}
use Rattle.must_type.proofs.forms.struct_blocks.Goals as goal

pub loop-i-init : goal.loop-i-init
loop-i-init c = record { fits = subst Fits (sym c.empty-all.ensures) no_entries_fit; all_is = c.empty-all.ensures ∙ no_entries_are }

pub returns-in_default : goal.returns-in_default
returns-in_default c = λ fits.
    let b : StructItem = record { block = pos 0; disp = pos 0; old = record { number = 0 } } in
    let it = get_or c.args.blocks.now c.loop-i.i b in
    let f = c.old_facts-old.result in
    let block_fits : FitsSigned w32 it.block = search rules in
    let disp_fits : FitsSigned w64 it.disp = search rules in
    let at : to_z w128 (of_z w128 c.from.result) ≡ it.disp = omega (arith, ints, c.from.ensures, disp_fits) in
    let n : c.natural.result ≡ natural it.block = c.natural.ensures.value ∙ ap natural (to_z-of_z w32 it.block block_fits) in
    let one : c.block-next.result ≡ shift it.disp (repeated (natural it.block) f.bounds.extent f.summary) =
    c.block-next.ensures.value ∙ ap (λ (d : ℤ). shift d (repeated c.natural.result f.bounds.extent f.summary)) at ∙ ap (λ (k : ℕ). shift it.disp (repeated k f.bounds.extent f.summary)) n in
    let next = struct_step c.args.blocks.now c.args.olds.now c.loop-i.i b f c.loop-i.all c.block-next.result (omega arith) (omega arith) c.old_facts-old.ensures.of c.loop-i.invariant.all_is one in
    c.in_default.ensures (subst Fits (sym next) (struct_front_fits c.args.blocks.now (type_maps (trees_of c.args.olds.now)) (c.loop-i.i + 1) fits))

pub loop-i-preserved : goal.loop-i-preserved
loop-i-preserved c =
    let b : StructItem = record { block = pos 0; disp = pos 0; old = record { number = 0 } } in
    let it = get_or c.args.blocks.now c.loop-i.i b in
    let f = c.old_facts-old.result in
    let block_fits : FitsSigned w32 it.block = search rules in
    let disp_fits : FitsSigned w64 it.disp = search rules in
    let at : to_z w128 (of_z w128 c.from.result) ≡ it.disp = omega (arith, ints, c.from.ensures, disp_fits) in
    let n : c.natural.result ≡ natural it.block = c.natural.ensures.value ∙ ap natural (to_z-of_z w32 it.block block_fits) in
    let one : c.block-next.result ≡ shift it.disp (repeated (natural it.block) f.bounds.extent f.summary) =
    c.block-next.ensures.value ∙ ap (λ (d : ℤ). shift d (repeated c.natural.result f.bounds.extent f.summary)) at ∙ ap (λ (k : ℕ). shift it.disp (repeated k f.bounds.extent f.summary)) n in
    let next = struct_step c.args.blocks.now c.args.olds.now c.loop-i.i b f c.loop-i.all c.block-next.result (omega arith) (omega arith) c.old_facts-old.ensures.of c.loop-i.invariant.all_is one in
    record { fits = subst Fits (sym c.in-Some.ensures.0) c.in-Some.ensures.1; all_is = c.in-Some.ensures.0 ∙ next }
