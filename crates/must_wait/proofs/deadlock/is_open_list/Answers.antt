use Rattle.std.proofs.Common.{◌≡◌, ◌∙◌, Some, None, sym, ap}
use Rattle.std.specs.List.{list_all}
use Rattle.std.specs.Option.{option_copied}
use Rattle.must_call.specs.declared.place.Place.{Place}
use Rattle.must_wait.specs.Replay.{reached, passed}
use Rattle.must_wait.proofs.deadlock.is_open_list.Goals as goal

pub returns-in-Some : goal.returns-in-Some
returns-in-Some c = λ places e.
    let both : Some c.in-Some.places.now ≡ Some places = sym (ap option_copied c.in-Some.is) ∙ c.list.ensures ∙ e in
    let same : c.in-Some.places.now ≡ places = cc in
    c.is_open.ensures ∙ ap (list_all (λ (p : Place). reached c.args.rows.now.needs (passed c.args.rows.now.needs) p.rank p.call)) same

pub returns-in-None : goal.returns-in-None
returns-in-None c = λ places e.
    let none : None ≡ Some places = sym (ap option_copied c.in-None.is) ∙ c.list.ensures ∙ e in
    absurd (cc)
