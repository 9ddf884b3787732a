use Rattle.std.proofs.Common.{List, set, sym, ap, subst, ◌∙◌, arith, length, ◌<◌, ◌≤◌}
use Rattle.must_local.specs.Bumps.{bumped, Bumps}
use Rattle.must_local.specs.declared.known.Known.{Known}
use Rattle.must_local.proofs.Tables.{bumps_past, bumps_one}
use Rattle.must_local.proofs.objects.Objects.count.Goals as goal

pub returns-in_ok-count_one : goal.returns-in_ok-count_one
returns-in_ok-count_one c =
    let items = c.self.inside.slots.items in
    let within : c.in-Some.place < length items = omega (arith, c.if-place-len.true, c.len.ensures, c.self.inside.slots.ok) in
    subst (λ (xs : List Known). Bumps c.args.number xs (set items c.in-Some.place c.count_one.new.known)) c.self.view_is
    (bumps_one c.args.number c.in-Some.place items (set items c.in-Some.place c.count_one.new.known) _ (sym c.place_of.ensures ∙ c.in-Some.is) within
    (ap (set items c.in-Some.place) (c.in_ok-count_one.ensures ∙ ap bumped c.index_mut.ensures.value)))

pub returns-else-place-len : goal.returns-else-place-len
returns-else-place-len c =
    let items = c.self.inside.slots.items in
    let past : length items ≤ c.in-Some.place = omega (arith, c.if-place-len.false, c.len.ensures, c.self.inside.slots.ok) in
    subst (λ (xs : List Known). Bumps c.args.number xs xs) c.self.view_is (bumps_past c.args.number c.in-Some.place items (sym c.place_of.ensures ∙ c.in-Some.is) past)
