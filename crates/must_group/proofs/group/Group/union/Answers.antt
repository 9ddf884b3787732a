use Rattle.std.proofs.Common.{◌≡◌, refl, rules, ap, sym, ◌∙◌}
use Rattle.must_group.specs.Groups.{union, difference}
use Rattle.must_group.proofs.Distinct.{union_distinct}
use Rattle.must_group.proofs.group.Group.union.Goals as goal

pub listed-requires : goal.listed-requires
listed-requires c =
    let copied : c.in_ok-ranks.ranks.items ≡ c.self.inside.ranks.items = search rules in
    let added : c.added.inside.ranks.items ≡ difference c.args.other.now c.self.inside.ranks.items = c.added.view_is ∙ c.in_ok-added.ensures ∙ ap (difference c.args.other.now) (sym c.self.view_is) in
    let joined : c.extend_from_slice.new.self.items ≡ union c.self.inside.ranks.items c.args.other.now = c.in_ok-extend_from_slice.ensures.items ∙ rw (copied, c.deref-2.ensures.value, added) refl in
    rw joined (union_distinct c.self.inside.ranks.items c.args.other.now c.self.invariant.0 (rw (← added) c.added.invariant.0))
