use Rattle.std.proofs.Common.{◌≡◌, ◌<◌, ◌≤◌, ◌-◌, ◌∙◌, length, get_or, sym, ap, subst, arith}
use Rattle.must_wait.specs.Needs.{calls_of}
use Rattle.must_wait.specs.Shared.{Table, coded}
use Rattle.must_wait.proofs.CodedRows.{length_coded, length_left, length_right, length_past}
use Rattle.must_wait.proofs.Rounds.{get_some}
use Rattle.must_wait.proofs.Watched.{calls_at}
use Rattle.must_wait.proofs.shared.SharedRows.call_count.Goals as goal

pub returns-in-Some : goal.returns-in-Some
returns-in-Some c =
    let t : Table = record { needs = c.self.inside.ranks.items; numbers = c.self.inside.numbers.items; lists = c.self.inside.lists.items } in
    let s = c.in-Some.ensures.lookup in
    let is : c.in-Some.row.now ≡ get_or t.needs c.args.rank c.in-Some.row.now = s.1 ∙ ap (λ l. get_or l c.args.rank c.in-Some.row.now) c.deref.ensures.value in
    let h : c.args.rank < length t.needs = omega (arith, s.3.0, ap length c.deref.ensures.value) in
    subst (λ (u : Table). c.len.result ≡ length (calls_of (coded u) c.args.rank)) c.self.view_is
    (omega (arith, c.len.ensures, ap length c.row.view_is, ap length (calls_at t.needs c.args.rank c.in-Some.row.now h is), length_left t c.args.rank h))

pub returns-in-None : goal.returns-in-None
returns-in-None c =
    let t : Table = record { needs = c.self.inside.ranks.items; numbers = c.self.inside.numbers.items; lists = c.self.inside.lists.items } in
    let s = c.in-None.ensures.lookup in
    let count : c.rank_count-count.result ≡ length (coded t) = c.rank_count-count.ensures.count ∙ sym (ap (λ (u : Table). length (coded u)) c.self.view_is) in
    let above : length t.needs ≤ c.args.rank = omega (arith, s.3, ap length c.deref.ensures.value) in
    let number = c.args.rank - length t.needs in
    subst (λ (u : Table). 2 ≡ length (calls_of (coded u) c.args.rank)) c.self.view_is
    (sym (length_right t c.args.rank number (omega (arith, above)) (get_some t.lists number (omega (arith, above, count, length_coded t, c.if-rank-count.true)))))

pub returns-in-None-2 : goal.returns-in-None-2
returns-in-None-2 c =
    let t : Table = record { needs = c.self.inside.ranks.items; numbers = c.self.inside.numbers.items; lists = c.self.inside.lists.items } in
    let count : c.rank_count-count.result ≡ length (coded t) = c.rank_count-count.ensures.count ∙ sym (ap (λ (u : Table). length (coded u)) c.self.view_is) in
    subst (λ (u : Table). 0 ≡ length (calls_of (coded u) c.args.rank)) c.self.view_is (sym (length_past t c.args.rank (omega (arith, count, length_coded t, c.if-rank-count.false))))
