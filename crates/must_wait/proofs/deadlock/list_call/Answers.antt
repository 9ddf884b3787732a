use Rattle.std.proofs.Common.{◌+◌, ℕ, [], get_or, sym, subst}
use Rattle.std.proofs.lemmas.Option.{slice_get-get_or}
use Rattle.must_wait.specs.Replay.{IsBlocked}
use Rattle.must_wait.specs.Shared.{coded}
use Rattle.must_wait.proofs.CodedRows.{codes_of}
use Rattle.must_wait.proofs.Codes.{open_blocked, closed_blocked}
use Rattle.must_wait.proofs.deadlock.list_call.Goals as goal

pub returns-then-is_open_list-clause-blocked : goal.returns-then-is_open_list-clause-blocked
returns-then-is_open_list-clause-blocked c =
    let t = c.args.rows.now in
    let list = slice_get-get_or t.lists c.args.number [] c.requires.number in
    subst (λ (n : ℕ). IsBlocked (coded t) (record { rank = n + c.args.number; call = 1 })) (sym c.ranks.ensures)
    (open_blocked t.needs (coded t) t.lists (codes_of t c.requires.valid) c.args.number (get_or t.lists c.args.number []) list (sym (c.if-is_open_list.ensures (get_or t.lists c.args.number []) list)))

pub returns-clause-blocked : goal.returns-clause-blocked
returns-clause-blocked c =
    let t = c.args.rows.now in
    let list = slice_get-get_or t.lists c.args.number [] c.requires.number in
    subst (λ (n : ℕ). IsBlocked (coded t) (record { rank = n + c.args.number; call = 0 })) (sym c.ranks.ensures)
    (closed_blocked t.needs (coded t) t.lists (codes_of t c.requires.valid) c.args.number (get_or t.lists c.args.number []) list (sym (c.if-is_open_list.ensures (get_or t.lists c.args.number []) list)))
