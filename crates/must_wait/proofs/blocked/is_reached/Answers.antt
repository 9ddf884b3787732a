use Rattle.std.proofs.Common.{◌∙◌, ap, refl, subst, sym}
use Rattle.std.specs.Option.{is_some}
use Rattle.must_call.specs.declared.place.Place.{Place}
use Rattle.must_base.specs.Listing.{Has}
use Rattle.must_wait.proofs.BlockedRanks.{all_reached, reached_at}
use Rattle.must_wait.proofs.Watched.{copied_some}
use Rattle.must_wait.proofs.blocked.is_reached.Goals as goal

pub returns-in-Some : goal.returns-in-Some
returns-in-Some c =
    let at : Place = record { rank = c.args.place.rank; call = c.in-Some.call } in
    reached_at c.args.rows.now c.args.place.rank c.in-Some.call c.args.place.call ((c.requires.exact at).0 (subst (λ l. Has l at) c.items.ensures c.in-Some.ensures))

pub returns-in-None : goal.returns-in-None
returns-in-None c =
    c.is_some.ensures ∙ sym (copied_some c.needs.result) ∙ ap is_some c.needs.ensures
    ∙ all_reached c.args.rows.now c.args.place.rank (λ at b. c.in-None.ensures (record { rank = c.args.place.rank; call = at }) (subst (λ l. Has l (record { rank = c.args.place.rank; call = at })) (sym c.items.ensures) ((c.requires.exact (record { rank = c.args.place.rank; call = at })).1 b)) refl) c.args.place.call
