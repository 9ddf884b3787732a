use Rattle.std.proofs.Common.{◌≡◌, ◌+◌, ℕ, List, length, sym, subst, arith}
use Rattle.must_call.specs.declared.place.Place.{Place}
use Rattle.must_base.specs.Listing.{Lists}
use Rattle.must_find.specs.Order.{by_spot}
use Rattle.must_wait.specs.Keeping.{AreBlocked}
use Rattle.must_wait.specs.Shared.{coded}
use Rattle.must_wait.proofs.CodedRows.{BlockedBelow, blocked_first, blocked_push, blocked_last}
use Rattle.must_wait.proofs.deadlock.all_blocked.Goals as goal

pub loop-number-init : goal.loop-number-init
loop-number-init c =
    let t = c.args.rows.now in
    subst (λ (l : List Place). Lists by_spot (BlockedBelow (coded t) (length t.needs + 0)) l) (sym (c.in_ok-all.ensures.items_if_clones_equal (λ x y e. e)))
    (blocked_first t c.args.blocked.now (length t.needs + 0) c.requires.valid (omega arith) c.requires.list)

pub list_call-requires-clause-calls : goal.list_call-requires-clause-calls
list_call-requires-clause-calls c = subst (AreBlocked c.args.rows.now.needs) (sym c.deref.ensures.value) (record {
  are = λ rank call e. (c.requires.list.exact (record { rank = rank; call = call })).0 (c.in_ok-calls.ensures.calls rank call e);
  all = λ rank call b. c.in_ok-calls.ensures.all (record { rank = rank; call = call }) ((c.requires.list.exact (record { rank = rank; call = call })).1 b);
})

pub loop-number-preserved : goal.loop-number-preserved
loop-number-preserved c =
    let t = c.args.rows.now in
    let at = length t.needs + c.loop-number.number in
    subst (λ (n : ℕ). Lists by_spot (BlockedBelow (coded t) n) c.push.new.self.items) (let same : at + 1 ≡ length t.needs + (c.loop-number.number + 1) = omega arith in same)
    (blocked_push (coded t) at c.loop-number.all.items c.push.new.self.items c.list_call.result c.list_call.ensures.rank c.list_call.ensures.blocked c.in_ok-push.ensures.items c.loop-number.invariant)

pub returns : goal.returns
returns c = blocked_last c.args.rows.now (length c.args.rows.now.needs + c.loop-number.number) c.loop-number.all.items (omega (arith, c.lists-number-end.ensures, c.loop-number-test.false, c.loop-number.auto.number-end)) c.loop-number.invariant
