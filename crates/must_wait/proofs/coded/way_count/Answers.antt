use Rattle.std.proofs.Common.{◌-◌, ◌∙◌, None, length, sym, ap, arith}
use Rattle.std.specs.Option.{option_copied}
use Rattle.must_wait.proofs.CodedRows.{own_count, gate_ways, list_count}
use Rattle.must_wait.proofs.coded.way_count.Goals as goal

pub returns-then-place-ranks : goal.returns-then-place-ranks
returns-then-place-ranks c = c.own_count.ensures ∙ sym (own_count c.args.rows.now c.args.place.rank c.args.place.call (omega (arith, c.if-place-ranks.true, c.ranks-ranks.ensures)))

pub returns-then-place-gt0 : goal.returns-then-place-gt0
returns-then-place-gt0 c = sym (ap length (gate_ways c.args.rows.now c.args.place.rank c.args.place.call (omega (arith, c.if-place-ranks.false, c.ranks-ranks.ensures)) c.if-place-gt0.true))

pub returns-in-Some : goal.returns-in-Some
returns-in-Some c =
    sym (list_count c.args.rows.now c.args.place.rank (c.args.place.rank - c.ranks-ranks.result) c.args.place.call _ (omega (arith, c.if-place-ranks.false, c.ranks-ranks.ensures)) (omega (arith, c.if-place-gt0.false)) (sym c.list.ensures ∙ ap option_copied c.in-Some.is))

pub returns-in-None : goal.returns-in-None
returns-in-None c =
    sym (list_count c.args.rows.now c.args.place.rank (c.args.place.rank - c.ranks-ranks.result) c.args.place.call None (omega (arith, c.if-place-ranks.false, c.ranks-ranks.ensures)) (omega (arith, c.if-place-gt0.false)) (sym c.list.ensures ∙ ap option_copied c.in-None.is))
