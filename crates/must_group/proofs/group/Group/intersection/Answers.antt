use Rattle.std.proofs.Common.{◌≡◌, nat_eq, rules}
use Rattle.std.specs.Prelude.{filter}
use Rattle.std.specs.Set.{is_member}
use Rattle.must_group.proofs.Distinct.{filter_distinct}
use Rattle.must_group.proofs.group.Group.intersection.Goals as goal

pub listed-requires : goal.listed-requires
listed-requires c =
    let chosen : c.in_ok-ranks.ranks.items ≡ filter (λ rank. is_member nat_eq c.in_ok-others.others rank) c.self.inside.ranks.items = search rules in
    rw chosen (filter_distinct _ c.self.inside.ranks.items c.self.invariant.0)
