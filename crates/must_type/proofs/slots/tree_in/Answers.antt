use Rattle.must_type.proofs.SlotLaws.{live_below, found_is, not_free}
use Rattle.must_type.proofs.slots.tree_in.Goals as goal

pub bounds-slots-no : goal.bounds-slots-no
bounds-slots-no c = live_below c.args.slots.now c.args.no.number c.requires

pub unreachable-requires : goal.unreachable-requires
unreachable-requires c = not_free c.args.slots.now c.args.no.number c.index-slots-no.result c.requires c.index-slots-no.is c.in-None.is

pub returns : goal.returns
returns c = found_is c.args.slots.now c.args.no.number c.index-slots-no.result c.in-Some.tree c.requires c.index-slots-no.is c.in-Some.is
