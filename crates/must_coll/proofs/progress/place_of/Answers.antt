use Rattle.std.proofs.Common.{ℕ, List, nat_eq, sym, ap, ◌∙◌}
use Rattle.std.specs.Prelude.{position}
use Rattle.must_coll.proofs.Position.{place_found, place_none}
use Rattle.must_coll.proofs.progress.place_of.Goals as goal

pub returns-in_err-position-clause-none : goal.returns-in_err-position-clause-none
returns-in_err-position-clause-none c = λ k e is.
    place_none c.args.name.now.members c.args.rank k (ap (λ (ms : List ℕ). position (λ m. nat_eq m c.args.rank) ms) (sym c.members-2.ensures) ∙ sym c.position.ensures ∙ c.in_err-position.was) is

pub returns-clause-found : goal.returns-clause-found
returns-clause-found c =
    place_found c.args.name.now.members c.args.rank c.in_ok-position.position (ap (λ (ms : List ℕ). position (λ m. nat_eq m c.args.rank) ms) (sym c.members-2.ensures) ∙ sym c.position.ensures ∙ c.in_ok-position.was)
