use Rattle.std.proofs.Common.{◌≡◌, ◌<◌, ◌^◌, ◌∙◌, ℕ, List, Some, None, length, set, take, ◌-◌, arith, get_or, slice_get, slice_index_or, sym, ap, subst}
use Rattle.std.specs.Vec.{vec_len}
use Rattle.must_call.specs.declared.place.Place.{Place}
use Rattle.must_wait.specs.Needs.{calls_of}
use Rattle.must_wait.specs.Shared.{Table, IsTable}
use Rattle.must_wait.specs.Ways.{appended}
use Rattle.must_wait.proofs.Tables.{one_more_call, append_ok, append_back}
use Rattle.must_wait.proofs.shared.SharedRows.append.Goals as goal
use Rattle.must_wait.proofs.shared.SharedRows.append.Goals.{in-Ok, in-Err}

pub invariant_of-self-in-Ok : goal.invariant_of-self-in-Ok
invariant_of-self-in-Ok c =
    let t : Table = record { needs = c.self.inside.ranks.items; numbers = c.self.inside.numbers.items; lists = c.self.inside.lists.items } in
    let back = sym c.self.view_is in
    let h = subst (λ (u : Table). c.args.rank < length u.needs) back c.requires.rank in
    subst IsTable
    (sym (append_ok t c.args.rank c.args.needs c.args.numbers c.behind-self-2.inside.calls.items c.push-2.new.self.items c.behind-self.inside.calls.items c.push.new.self.items c.self.invariant h
    (c.behind-self-2.view_is ∙ c.index_mut-2.ensures.value ∙ ap (λ r. get_or t.needs c.args.rank r) (sym c.behind-self-2.view_is)) c.in-Ok.ensures.items
    (c.behind-self.view_is ∙ c.index_mut.ensures.value ∙ ap (λ r. get_or t.numbers c.args.rank r) (sym c.behind-self.view_is)) c.in_ok-push.ensures.items))
    (one_more_call t c.args.rank c.args.needs c.args.numbers c.self.invariant h
    (subst (λ (u : Table). length (calls_of u.needs c.args.rank) < 2 ^ 31) back c.requires.calls)
    (subst (λ (u : Table). (way number : ℕ) → slice_index_or c.args.numbers way None ≡ Some number → (places : List Place) × (slice_get c.args.needs way ≡ Some places) × (slice_get u.lists number ≡ Some places)) back c.requires.shared))

pub invariant_of-self-in-Err : goal.invariant_of-self-in-Err
invariant_of-self-in-Err c =
    let t : Table = record { needs = c.self.inside.ranks.items; numbers = c.self.inside.numbers.items; lists = c.self.inside.lists.items } in
    let h = subst (λ (u : Table). c.args.rank < length u.needs) (sym c.self.view_is) c.requires.rank in
    subst IsTable
    (sym (append_back t c.args.rank c.args.numbers c.behind-self-2.inside.calls.items c.push-2.new.self.items c.behind-self.inside.calls.items c.push.new.self.items c.behind-self-in-Err.inside.calls.items c.pop.new.self.items c.self.invariant h
    (c.behind-self-2.view_is ∙ c.index_mut-2.ensures.value ∙ ap (λ r. get_or t.needs c.args.rank r) (sym c.behind-self-2.view_is)) c.in-Err.ensures.items
    (c.behind-self.view_is ∙ c.index_mut.ensures.value ∙ ap (λ r. get_or t.numbers c.args.rank r) (sym c.behind-self.view_is)) c.in_ok-push.ensures.items
    (c.behind-self-in-Err.view_is ∙ c.index_mut-in-Err.ensures.value ∙ ap (λ r. get_or (set t.numbers c.args.rank c.push.new.self.items) c.args.rank r) (sym c.behind-self-in-Err.view_is)) (c.pop.ensures.rest ∙ ap (λ n. take (n - 1) c.behind-self-in-Err.inside.calls.items) (let same : vec_len c.behind-self-in-Err.inside.calls ≡ length c.behind-self-in-Err.inside.calls.items = omega arith in same))))
    c.self.invariant

pub returns-clause-ok : goal.returns-clause-ok
returns-clause-ok c =
    let t : Table = record { needs = c.self.inside.ranks.items; numbers = c.self.inside.numbers.items; lists = c.self.inside.lists.items } in
    let h = subst (λ (u : Table). c.args.rank < length u.needs) (sym c.self.view_is) c.requires.rank in
    elim c.match-push.branch [
      | in-Ok w ↦ rw w.result-is (w.self-is
          ∙ append_ok t c.args.rank c.args.needs c.args.numbers c.behind-self-2.inside.calls.items c.push-2.new.self.items c.behind-self.inside.calls.items c.push.new.self.items c.self.invariant h
          (c.behind-self-2.view_is ∙ c.index_mut-2.ensures.value ∙ ap (λ r. get_or t.needs c.args.rank r) (sym c.behind-self-2.view_is)) w.in-Ok.ensures.items
          (c.behind-self.view_is ∙ c.index_mut.ensures.value ∙ ap (λ r. get_or t.numbers c.args.rank r) (sym c.behind-self.view_is)) c.in_ok-push.ensures.items
          ∙ ap (λ (u : Table). appended u c.args.rank c.args.needs c.args.numbers) c.self.view_is)
      | in-Err w ↦ rw w.result-is tt
    ]

pub returns-clause-err : goal.returns-clause-err
returns-clause-err c =
    let t : Table = record { needs = c.self.inside.ranks.items; numbers = c.self.inside.numbers.items; lists = c.self.inside.lists.items } in
    let h = subst (λ (u : Table). c.args.rank < length u.needs) (sym c.self.view_is) c.requires.rank in
    elim c.match-push.branch [
      | in-Ok w ↦ rw w.result-is tt
      | in-Err w ↦ rw w.result-is (w.self-is
          ∙ append_back t c.args.rank c.args.numbers c.behind-self-2.inside.calls.items c.push-2.new.self.items c.behind-self.inside.calls.items c.push.new.self.items w.behind-self-in-Err.inside.calls.items w.pop.new.self.items c.self.invariant h
          (c.behind-self-2.view_is ∙ c.index_mut-2.ensures.value ∙ ap (λ r. get_or t.needs c.args.rank r) (sym c.behind-self-2.view_is)) w.in-Err.ensures.items
          (c.behind-self.view_is ∙ c.index_mut.ensures.value ∙ ap (λ r. get_or t.numbers c.args.rank r) (sym c.behind-self.view_is)) c.in_ok-push.ensures.items
          (w.behind-self-in-Err.view_is ∙ w.index_mut-in-Err.ensures.value ∙ ap (λ r. get_or (set t.numbers c.args.rank c.push.new.self.items) c.args.rank r) (sym w.behind-self-in-Err.view_is)) (w.pop.ensures.rest ∙ ap (λ n. take (n - 1) w.behind-self-in-Err.inside.calls.items) (let same : vec_len w.behind-self-in-Err.inside.calls ≡ length w.behind-self-in-Err.inside.calls.items = omega arith in same))
          ∙ c.self.view_is)
    ]
