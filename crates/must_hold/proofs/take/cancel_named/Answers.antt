use Rattle.std.proofs.Common.{refl, sym, ◌∙◌}
use Rattle.must_hold.proofs.Ending.{last_named, last_none}
use Rattle.must_hold.proofs.take.cancel_named.Goals as goal

pub returns-in_ok-cancel-clause-ended : goal.returns-in_ok-cancel-clause-ended
returns-in_ok-cancel-clause-ended c = λ r calls call ops done below exact named w.
    last_named r calls call done ops c.args.table.now c.cancel.new.self below exact w c.in-Some.request (sym c.in-Some.is ∙ named) c.in_ok-cancel.ensures.none c.in_ok-cancel.ensures.some

pub returns-in_default-clause-ended : goal.returns-in_default-clause-ended
returns-in_default-clause-ended c = λ r calls call ops done below exact named w.
    last_none r calls call done ops c.args.table.now c.args.table.now below exact w (sym named ∙ c.in_default.is) (record { count = refl; given = refl; held = λ k. refl; numbers = λ k. refl })
