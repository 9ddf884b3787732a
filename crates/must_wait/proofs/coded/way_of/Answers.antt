use Rattle.std.proofs.Common.{◌≡◌, ◌+◌, ◌-◌, ◌∙◌, length, sym, ap, arith}
use Rattle.must_wait.specs.Shared.{coded}
use Rattle.must_wait.specs.Watching.{way_at}
use Rattle.must_wait.proofs.CodedRows.{gate_way, later_way}
use Rattle.must_wait.proofs.coded.way_of.Goals as goal

pub returns-then-call-gt0 : goal.returns-then-call-gt0
returns-then-call-gt0 c = sym (gate_way c.args.rows.now c.args.rank c.args.call c.args.way (omega (arith, c.if-rank-ranks.false, c.ranks-ranks.ensures)) c.if-call-gt0.true)

pub returns-then-way-gt0 : goal.returns-then-way-gt0
returns-then-way-gt0 c = sym (later_way c.args.rows.now c.args.rank c.args.call c.args.way (omega (arith, c.if-rank-ranks.false, c.ranks-ranks.ensures)) (omega (arith, c.if-call-gt0.false)) c.if-way-gt0.true)

pub returns : goal.returns
returns c =
    let t = c.args.rows.now in
    let at : length t.needs + (c.args.rank - c.ranks-ranks.result) ≡ c.args.rank = omega (arith, c.if-rank-ranks.false, c.ranks-ranks.ensures) in
    let first : 0 ≡ c.args.call = omega (arith, c.if-call-gt0.false) in
    let way : 0 ≡ c.args.way = omega (arith, c.if-way-gt0.false) in
    c.list_way.ensures ∙ ap (λ r. way_at (coded t) r 0 0) at ∙ ap (λ k. way_at (coded t) c.args.rank k 0) first ∙ ap (λ k. way_at (coded t) c.args.rank c.args.call k) way
