use Rattle.std.proofs.Common.{◌∙◌, sym, ap}
use Rattle.std.specs.Option.{is_some}
use Rattle.std.proofs.lemmas.Bool.{true≢false}
use Rattle.must_wait.proofs.BlockedRanks.{all_reached, reached_at}
use Rattle.must_wait.proofs.Watched.{copied_some}
use Rattle.must_wait.proofs.deadlock.reaches.Goals as goal

pub returns-in-Some : goal.returns-in-Some
returns-in-Some c = reached_at c.args.rows.now.needs c.args.place.rank c.in-Some.call c.args.place.call (c.requires.are c.args.place.rank c.in-Some.call (sym c.call_of.ensures ∙ c.in-Some.is))

pub returns-in-None : goal.returns-in-None
returns-in-None c =
    c.is_some.ensures ∙ sym (copied_some c.needs.result) ∙ ap is_some c.needs.ensures
    ∙ all_reached c.args.rows.now.needs c.args.place.rank (λ at b. true≢false (sym (c.requires.all c.args.place.rank at b) ∙ ap is_some (sym c.call_of.ensures ∙ c.in-None.is))) c.args.place.call
