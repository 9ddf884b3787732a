use Rattle.std.proofs.Common.{Some, refl, ap, sym, ◌∙◌}
use Rattle.must_hold.proofs.Putting.{ended}
use Rattle.must_hold.proofs.table.Table.end.Goals as goal

pub returns-in-Some-Open-clause-some : goal.returns-in-Some-Open-clause-some
returns-in-Some-Open-clause-some c = λ n p found here.
    ended c.args.rank c.args.request n c.in-Some.number p c.in-Some-Open.pending c.args.end c.args.self.now
    (record { count = c.args.self.now.count; given = c.args.self.now.given; held = c.insert.new.self; numbers = c.remove.new.self }) c.remove-2.new.self c.settled-item.result.0 c.settled-item.result.1
    found here (sym c.in-Some.is ∙ c.remove.ensures.value) (sym (c.in-Some-Open.is ∙ ap Some c.in-Some-Open.field-0-is) ∙ c.remove-2.ensures.value)
    c.settled-item.ensures.item c.settled-item.ensures.need c.remove-2.ensures.updates c.in_ok-insert-in-Some-Open.ensures.updates c.remove.ensures.updates refl refl
