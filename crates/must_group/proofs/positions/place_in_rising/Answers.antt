use Rattle.std.proofs.Common.{◌≡◌, ◌∙◌, ◌^◌, nat_eq}
use Rattle.std.specs.Prelude.{position}
use Rattle.must_group.proofs.Placed.{small_place, found_place}
use Rattle.must_group.proofs.positions.place_in_rising.Goals as goal

pub returns-clause-place : goal.returns-clause-place
returns-clause-place c = c.ok.ensures.value ∙ found_place c.args.ranks.now c.args.rank c.binary_search.result c.binary_search.ensures.position c.requires.0 c.requires.1

pub returns-clause-small : goal.returns-clause-small
returns-clause-small c =
    let place : c.ok.result ≡ position (λ member. nat_eq member c.args.rank) c.args.ranks.now =
    c.ok.ensures.value ∙ found_place c.args.ranks.now c.args.rank c.binary_search.result c.binary_search.ensures.position c.requires.0 c.requires.1 in
    small_place c.args.ranks.now (λ member. nat_eq member c.args.rank) (2 ^ 32) c.ok.result c.requires.0 (λ k. (c.type_inv.ranks k).fits) place
