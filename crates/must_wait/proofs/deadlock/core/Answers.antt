use Rattle.std.proofs.Common.{◌≡◌, ◌<◌, ◌∙◌, ap, arith, ℕ, List, Option, true, length, sym, subst}
use Rattle.std.specs.Option.{is_some}
use Rattle.std.specs.Ordering.{nat_cmp}
use Rattle.must_call.specs.declared.place.Place.{Place}
use Rattle.must_base.specs.Listing.{Lists}
use Rattle.must_wait.specs.Core.{IsCore}
use Rattle.must_wait.specs.Keeping.{kept_call, IsKeptSome}
use Rattle.must_wait.specs.Needs.{Rows}
use Rattle.must_wait.specs.Replay.{IsBlockedList}
use Rattle.must_wait.specs.Shared.{coded}
use Rattle.must_wait.proofs.CodedCore.{coded_listed}
use Rattle.must_wait.proofs.CodedRows.{codes_of, length_coded}
use Rattle.must_wait.proofs.Listed.{if_ok}
use Rattle.must_wait.proofs.deadlock.core.Goals as goal

pub returns : goal.returns
returns c =
    let t = c.shared-shared.result.now in
    let all = c.in_ok-all.all.items in
    let list : IsBlockedList t.needs c.args.blocked.now = subst (λ (r : Rows). IsBlockedList r c.args.blocked.now) (sym c.shared-shared.ensures.needs) c.requires in
    let late : IsBlockedList (coded t) all = c.in_ok-all.ensures in
    let kept = subst (λ (b : List Place). IsKeptSome (coded t) b c.in_ok-kept.kept.items) c.deref.ensures.value c.in_ok-kept.ensures.kept in
    if_ok c.kept_ranks.result
    (λ ranks l. subst (λ (r : Rows). IsCore r c.args.blocked.now ranks) c.shared-shared.ensures.needs (coded_listed t.needs (coded t) t.lists c.args.blocked.now all kept.0 c.in_ok-kept.kept.items ranks (codes_of t c.shared-shared.ensures.valid) list late kept.1 c.in_ok-kept.ensures.held
    (subst (λ (n : ℕ). Lists nat_cmp (λ rank. (rank < n) × (is_some (kept_call c.in_ok-kept.kept.items rank) ≡ true)) ranks) (c.ranks.ensures ∙ sym (ap length c.shared-shared.ensures.needs))
    (subst (λ (k : List (Option ℕ)). Lists nat_cmp (λ rank. (rank < c.ranks.result) × (is_some (kept_call k rank) ≡ true)) ranks) c.deref-2.ensures.value l))))
    c.kept_ranks.ensures

pub kept_ranks-requires : goal.kept_ranks-requires
kept_ranks-requires c =
    let t = c.shared-shared.result.now in
    omega (arith, c.ranks.ensures, ap length c.shared-shared.ensures.needs, c.in_ok-kept.ensures.kept.1.ranks, length_coded t, ap length c.deref-2.ensures.value)
