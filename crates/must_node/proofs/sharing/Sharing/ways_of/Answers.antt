use Rattle.std.proofs.Common.{◌+◌, List, [], ◌∷◌, ◌++◌, map, take, sym, subst}
use Rattle.must_call.specs.declared.place.Place.{Place}
use Rattle.must_entry.specs.declared.want.Want.{Want}
use Rattle.must_wait.specs.declared.way.Way.{Way}
use Rattle.must_node.specs.ListLaws.{mapped_more}
use Rattle.must_node.specs.RunNeeds.{way_places}
use Rattle.must_node.specs.Sharing.{IsWay, AreWays}
use Rattle.must_node.proofs.SharedLists.{grows_more, ways_grow, ways_push}
use Rattle.must_node.proofs.sharing.Sharing.ways_of.Goals as goal

pub loop-way-preserved : goal.loop-way-preserved
loop-way-preserved c =
    let i = c.loop-way.way-index in
    let xs = c.args.ways.now in
    let x = c.way-item.result in
    let new = c.way_of.new.self in
    let w = c.in_ok-way_of.field-0 in
    let before = c.loop-way.invariant in
    let made = c.loop-way.made.items in
    record {
      shared = λ facts s shared. c.in_ok-way_of.ensures.shared facts s (before.shared facts s shared);
      ways = λ facts s shared.
          let f = way_places c.args.strict facts in
          let is : IsWay new.rows.lists w (f x) = subst (λ (l : List Want). IsWay new.rows.lists w (f l)) c.items.ensures (c.in_ok-way_of.ensures.way facts s (before.shared facts s shared)) in
          let grown = ways_grow c.loop-way.self.rows.lists new.rows.lists c.in_ok-way_of.ensures.grows.lists made (map f (take i xs)) (before.ways facts s shared) in
          let pushed = ways_push new.rows.lists made (map f (take i xs)) w (f x) grown is in
          subst (λ (l : List Way). AreWays new.rows.lists l (map f (take (i + 1) xs))) (sym c.in_ok-push.ensures.items)
          (subst (λ (l : List (List Place)). AreWays new.rows.lists (made ++ w ∷ []) l) (sym (mapped_more f xs i x x c.loop-way-test.true c.way-item.is)) pushed);
      grows = grows_more c.args.self.now c.loop-way.self new before.grows c.in_ok-way_of.ensures.grows;
    }
