use Rattle.std.proofs.Common.{sym, subst, ◌∙◌, ap, arith, ◌+◌, ◌*◌, ◌<◌, ◌≤◌, ◌^◌, ◌++◌, length, pos}
use Rattle.must_type.specs.Maps.{size}
use Rattle.must_type.specs.Tree.{type_map}
use Rattle.must_type.specs.declared.construct.StructItem.{StructItem}
use Rattle.must_sig.specs.Signatures.{laid, repeated, basics_of}
use Rattle.must_sig.specs.Runs.{StandFor}
use Rattle.must_sig.proofs.Trees.{none_stand, struct_stands, old_sized, is_old, old_stands, block_room, runs_room, block_more, all_blocks}
use Rattle.must_sig.proofs.unit.+unit.Goals as goal

abbrev default : StructItem
default = record { block = pos 0; disp = pos 0; old = record { number = 0 } }

pub copies_of-returns-then-bytes-eq0 : goal.copies_of-returns-then-bytes-eq0
copies_of-returns-then-bytes-eq0 t c =
    let T = type_map c.args.tree.now in
    let none = none_stand c.args.n T (sym c.bytes_of-bytes.ensures.value ∙ c.if-bytes-eq0.true) in
    subst (λ m. StandFor c.no_copies.result.runs.items m c.args.n (basics_of T)) (sym c.no_copies.ensures.times) (subst (λ rs. StandFor rs 0 c.args.n (basics_of T)) (sym c.no_copies.ensures.runs) none)

pub copies_of-returns-in-Struct : goal.copies_of-returns-in-Struct
copies_of-returns-in-Struct t c =
    let T = type_map c.args.tree.now in
    let some : 0 < size T = omega (arith, c.bytes_of-bytes.ensures.value, c.if-bytes-eq0.false) in
    struct_stands c.args.n c.in_ok-runs.runs.items T c.in_ok-runs.ensures.laid some c.in_ok-runs.ensures.runs c.in_ok-runs.ensures.merged

pub old_copies-nonzero_div-bytes : goal.old_copies-nonzero_div-bytes
old_copies-nonzero_div-bytes t c =
    let s = old_sized c.args.tree.now (type_map c.old_of-old.result.now) c.args.call.now c.args.bytes c.requires.made c.requires.one c.old_of-old.ensures.map c.requires.bytes c.requires.some in
    omega (arith, c.bytes_of.ensures.value, s)

pub old_copies-copies_of-requires : goal.old_copies-copies_of-requires
old_copies-copies_of-requires t c =
    let o = is_old c.args.tree.now (type_map c.old_of-old.result.now) c.args.call.now c.args.n c.args.bytes c.bytes_of.result c.requires.made c.requires.one c.old_of-old.ensures.map c.requires.short c.requires.bytes c.bytes_of.ensures.value c.requires.some in
    (omega (arith, c.decreases, c.old_of-old.ensures.lower), o.short)

pub old_copies-returns : goal.old_copies-returns
old_copies-returns t c =
    let O = type_map c.old_of-old.result.now in
    let o = is_old c.args.tree.now O c.args.call.now c.args.n c.args.bytes c.bytes_of.result c.requires.made c.requires.one c.old_of-old.ensures.map c.requires.short c.requires.bytes c.bytes_of.ensures.value c.requires.some in
    old_stands (type_map c.args.tree.now) O c.args.n _ c.in_ok-copies.copies.runs.items c.in_ok-copies.copies.times o c.in_ok-copies.ensures

pub struct_runs-copies_of-requires : goal.struct_runs-copies_of-requires
struct_runs-copies_of-requires t c = (
  omega (arith, c.decreases, c.old_of.ensures.lower),
  block_room c.args.tree.now (type_map c.old_of.result.now) c.args.blocks.now c.loop-i.i c.blocklength_of.result default c.requires.made c.requires.small c.old_of.ensures.map (omega (arith, c.loop-i-test.true)) c.blocklength_of.ensures,
)

pub struct_runs-append_times-requires-clause-short : goal.struct_runs-append_times-requires-clause-short
struct_runs-append_times-requires-clause-short t c =
    let so_far = laid c.loop-i.runs.items in
    let times = c.in_ok-copies.copies.times in
    subst (λ rs. length so_far + times * length (laid rs) ≤ 2 ^ 62) (sym c.as_slice.ensures.value) (runs_room c.args.tree.now (type_map c.old_of.result.now) c.args.blocks.now c.loop-i.i c.blocklength_of.result default so_far c.in_ok-copies.copies.runs.items times c.requires.made c.requires.small c.old_of.ensures.map (omega (arith, c.loop-i-test.true)) c.blocklength_of.ensures c.loop-i.invariant.laid c.in_ok-copies.ensures)

pub struct_runs-loop-i-preserved : goal.struct_runs-loop-i-preserved
struct_runs-loop-i-preserved t c =
    let so_far = laid c.loop-i.runs.items in
    let times = c.in_ok-copies.copies.times in
    record {
      laid = c.in_ok-append_times.ensures.laid ∙ ap (λ rs. so_far ++ repeated times (laid rs)) c.as_slice.ensures.value ∙ block_more c.args.tree.now (type_map c.old_of.result.now) c.args.blocks.now c.loop-i.i c.blocklength_of.result default so_far c.in_ok-copies.copies.runs.items times c.old_of.ensures.map (omega (arith, c.loop-i-test.true)) c.blocklength_of.ensures c.loop-i.invariant.laid c.in_ok-copies.ensures;
      runs = c.in_ok-append_times.ensures.runs;
      merged = c.in_ok-append_times.ensures.merged;
    }

pub struct_runs-returns-clause-laid : goal.struct_runs-returns-clause-laid
struct_runs-returns-clause-laid t c = all_blocks c.args.tree.now c.args.blocks.now c.loop-i.i (laid c.loop-i.runs.items) c.requires.made (omega (arith, c.loop-i-test.false)) c.loop-i.invariant.laid
