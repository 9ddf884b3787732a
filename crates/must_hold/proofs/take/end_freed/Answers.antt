use Rattle.std.proofs.Common.{ap, sym, subst}
use Rattle.std.specs.Option.{option_to_list}
use Rattle.must_hold.specs.Changes.{is_either}
use Rattle.must_hold.specs.Needing.{HaveNeedsWhile}
use Rattle.must_hold.proofs.Ending.{freed_step, freed_none}
use Rattle.must_hold.proofs.Needs.{freed_needs, freed_no_needs}
use Rattle.must_hold.proofs.take.end_freed.Goals as goal

pub returns-in_ok-settling-clause-ended : goal.returns-in_ok-settling-clause-ended
returns-in_ok-settling-clause-ended c = λ r calls call ops done w closes.
    freed_step r calls call ops c.args.rank c.in-Some.request done (option_to_list c.args.request) c.args.table.now c.end.new.self c.not_done-end.result _ (ap option_to_list c.in-Some.is) c.not_done-end.ensures (λ e. (c.in_ok-settling.ensures.none e).1) c.in_ok-settling.ensures.some closes w

pub returns-in_default-clause-ended : goal.returns-in_default-clause-ended
returns-in_default-clause-ended c = λ r calls call ops done w closes. freed_none r calls call ops done (option_to_list c.args.request) c.args.table.now (ap option_to_list c.in_default.is) w

pub returns-in_ok-settling-clause-needs : goal.returns-in_ok-settling-clause-needs
returns-in_ok-settling-clause-needs c = λ r calls call ops done w closes have.
    subst (HaveNeedsWhile r calls call (is_either done (option_to_list c.args.request)) ops) (sym c.set_need.ensures)
    (freed_needs r calls call ops c.args.rank c.in-Some.request done (option_to_list c.args.request) c.args.table.now c.end.new.self c.not_done-end.result _ c.args.needs.now.items (ap option_to_list c.in-Some.is) c.not_done-end.ensures
    (λ e. (c.in_ok-settling.ensures.none e).0) c.in_ok-settling.ensures.some closes w have)

pub returns-in_default-clause-needs : goal.returns-in_default-clause-needs
returns-in_default-clause-needs c = λ r calls call ops done w closes have. freed_no_needs r calls call ops done (option_to_list c.args.request) c.args.needs.now.items (ap option_to_list c.in_default.is) have
