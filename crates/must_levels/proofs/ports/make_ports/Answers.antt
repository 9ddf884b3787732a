use Rattle.std.proofs.Common.{◌≡◌, ◌≤◌, ℕ, List, [], ◌∷◌, ◌++◌, map, length, sym, ap, ◌∙◌, subst, arith}
use Rattle.std.proofs.lemmas.List.{length-append}
use Rattle.must_entry.specs.declared.range.RankRange.{RankRange}
use Rattle.must_inbox.specs.States.{PortState, TakerState}
use Rattle.must_levels.specs.Sending.{ArePorts, ArePlaced, range_of_port}
use Rattle.must_levels.proofs.PortLists.{ports_snoc, placed_snoc, ranges_snoc, ranges_length, EndBy, end_snoc, place_next}
use Rattle.must_levels.proofs.ports.make_ports.Goals as goal

pub loop-i-preserved : goal.loop-i-preserved
loop-i-preserved g c =
    let q = c.args.inbox.now in
    let width = c.args.width in
    let to = c.args.to in
    let at = c.loop-i.at in
    let end = c.min-end.result in
    let p = c.new.result in
    let ps = c.loop-i.ports.items in
    let inv = c.loop-i.invariant in
    let berth : c.new.result ≡ c.port-port.result = c.new.ensures in
    let port = berth ∙ c.port-port.ensures.port in
    let items : c.push.new.self.items ≡ ps ++ p ∷ [] = c.in_ok-push.ensures.items in
    let is = c.min-end.ensures in
    let lt = c.if-at-to.false in
    let range : RankRange = record { from = at; to = end } in
    let range_is : p.range ≡ range = ap (λ (s : PortState). s.range) port in
    let count : length c.loop-i.taker.ranges ≡ length ps = ap (λ (t : TakerState). length t.ranges) inv.taker ∙ ranges_length ps in
    let number : p.number ≡ length ps = ap (λ (s : PortState). s.number) port ∙ count in
    let longer = length-append ps (p ∷ []) in
    let len : length c.push.new.self.items ≡ length (ps ++ p ∷ []) = ap length items in
    let small = inv.count in
    let later : at ≤ end = omega arith in
    let ranges : map range_of_port c.push.new.self.items ≡ map range_of_port ps ++ range ∷ [] = ap (map range_of_port) items ∙ (ranges_snoc ps p ∙ ap (λ (r : RankRange). map range_of_port ps ++ r ∷ []) range_is) in
    record {
      at_most = omega arith;
      place = place_next at to c.args.from width c.loop-i._i end is lt inv.place;
      count = omega arith;
      ports = subst (ArePorts q width to end c.args.from) (sym items) (subst (λ (n : ℕ). ArePorts q width to n c.args.from (ps ++ p ∷ [])) (sym is)
          (ports_snoc q width to at c.args.from ps p lt (ap (λ (s : PortState). s.inbox) port) (ap (λ (s : PortState). s.sent) port) (range_is ∙ ap (λ (n : ℕ). record { from = at; to = n }) is) inv.ports));
      placed = subst (ArePlaced 0) (sym items) (placed_snoc 0 ps p (omega arith) inv.placed);
      taker = c.port-port.ensures.taker ∙ (ap (λ (t : TakerState). record t { ranges = t.ranges ++ range ∷ [] }) inv.taker ∙ ap (λ (l : List RankRange). record c.args.taker.now { ranges = l }) (sym ranges));
      below = subst (EndBy end) (sym ranges) (end_snoc (map range_of_port ps) at end later inv.below);
    }
