use Rattle.std.proofs.Common.{◌^◌, nat_eq}
use Rattle.must_group.proofs.Placed.{small_place}
use Rattle.must_group.proofs.positions.place_in.Goals as goal

pub returns-clause-small : goal.returns-clause-small
returns-clause-small c = small_place c.args.ranks.now (λ member. nat_eq member c.args.rank) (2 ^ 32) c.first_place.result c.requires (λ k. (c.type_inv.ranks k).fits) c.first_place.ensures
