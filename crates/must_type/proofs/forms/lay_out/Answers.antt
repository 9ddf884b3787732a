use Rattle.std.proofs.Common.{◌<◌, subst, arith, ap, length}
use Rattle.must_type.specs.Constructs.{the_old}
use Rattle.must_type.specs.Summaries.{summary}
use Rattle.must_type.specs.Tree.{type_maps}
use Rattle.must_type.specs.View.{trees_of}
use Rattle.must_type.specs.Facts.{IsWhereFits}
use Rattle.must_type.specs.ConstructLaws.{one_number}
use Rattle.must_type.proofs.Laid.{first_is, one_old, map_of_one}
use Rattle.must_type.proofs.forms.lay_out.Goals as goal

pub returns : goal.returns
returns c =
    let call = c.args.call.now in
    let olds = c.args.olds.now in
    let one = one_old call c.in_default.not-Struct in
    let some : 0 < length olds = omega (arith, c.requires.olds, one_number call one) in
    let maps = type_maps (trees_of olds) in
    subst (IsWhereFits c.lay_out_one.result) (ap summary (map_of_one call maps one)) (c.lay_out_one.ensures (the_old maps) (first_is olds c.old_facts.result some c.old_facts.ensures.of))
