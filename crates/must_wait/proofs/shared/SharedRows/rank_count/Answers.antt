use Rattle.std.proofs.Common.{◌≡◌, ◌≤◌, ◌+◌, ◌^◌, ℕ, length, subst, arith}
use Rattle.must_wait.specs.Needs.{calls_of}
use Rattle.must_wait.specs.Shared.{Table, coded}
use Rattle.must_wait.proofs.CodedRows.{length_coded, calls_coded}
use Rattle.must_wait.proofs.shared.SharedRows.rank_count.Goals as goal

pub returns-clause-count : goal.returns-clause-count
returns-clause-count c =
    let t : Table = record { needs = c.self.inside.ranks.items; numbers = c.self.inside.numbers.items; lists = c.self.inside.lists.items } in
    subst (λ (u : Table). c.len-ranks.result + c.len-lists.result ≡ length (coded u)) c.self.view_is (omega (arith, length_coded t, c.len-ranks.ensures, c.len-lists.ensures))

pub returns-clause-calls : goal.returns-clause-calls
returns-clause-calls c =
    let t : Table = record { needs = c.self.inside.ranks.items; numbers = c.self.inside.numbers.items; lists = c.self.inside.lists.items } in
    subst (λ (u : Table). (rank : ℕ) → length (calls_of (coded u) rank) ≤ 2 ^ 31) c.self.view_is (calls_coded t c.self.invariant)
