use Rattle.std.proofs.Common.{◌≤◌, ◌^◌, subst, sym, arith}
use Rattle.must_type.specs.declared.summary.Summary.{Summary}
use Rattle.must_type.specs.Maps.{IsBounded}
use Rattle.must_type.specs.Summaries.{summary, upper_bound, IsOrdered}
use Rattle.must_type.specs.Constructs.{map_of}
use Rattle.must_type.specs.Tree.{Made, type_map, type_maps}
use Rattle.must_type.specs.View.{trees_of}
use Rattle.must_type.proofs.Summed.{summary_alignment}
use Rattle.must_type.proofs.Reach.{within_fits, fits_within, ordered}
use Rattle.must_type.proofs.Settled.{facts_are}
use Rattle.must_type.proofs.forms.settle.Goals as goal

pub returns-in_default : goal.returns-in_default
returns-in_default c = λ w. c.in_default.ensures (within_fits (Made c.args.origin c.args.call.now (trees_of c.args.olds.now)) w).0

pub bounds-requires-clause-ordered : goal.bounds-requires-clause-ordered
bounds-requires-clause-ordered c = subst IsOrdered (sym c.in-Some.ensures.0) (ordered (map_of c.args.call.now (type_maps (trees_of c.args.olds.now))))

pub bounds-requires-clause-aligned : goal.bounds-requires-clause-aligned
bounds-requires-clause-aligned c = subst (λ (s : Summary). 1 ≤ s.alignment) (sym c.in-Some.ensures.0) (summary_alignment (map_of c.args.call.now (type_maps (trees_of c.args.olds.now))))

pub returns-in_default-bounds : goal.returns-in_default-bounds
returns-in_default-bounds c = λ w.
    let t = Made c.args.origin c.args.call.now (trees_of c.args.olds.now) in
    c.in_default-bounds.ensures (subst (λ (s : Summary). IsBounded (2 ^ 62) (upper_bound s)) (sym c.in-Some.ensures.0) (within_fits t w).1)

pub returns : goal.returns
returns c =
    let t = Made c.args.origin c.args.call.now (trees_of c.args.olds.now) in
    let made = c.in-Some.ensures in
    let found = c.in-Some-bounds.ensures in
    let depth_is = c.depth_of-depth.ensures c.args.call.now in
    let near : IsBounded (2 ^ 62) (upper_bound (summary (type_map t))) = subst (λ (s : Summary). IsBounded (2 ^ 62) (upper_bound s)) made.0 found.1 in
    (facts_are t c.in-Some.summary c.in-Some-bounds.bounds c.depth_of-depth.result c.args.weight made.0 found.0 depth_is c.requires.weight, fits_within t (omega (arith, depth_is, c.if-depth-gt-DEEPEST.false)) made.1 near)
