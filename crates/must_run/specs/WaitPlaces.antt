-- At a place stands at most one row of a blocked call.
use Rattle.std.proofs.Common.{◌≡◌, ℕ, List, [], ◌∷◌, refl, sym, ap, subst, ◌∙◌, inl, inr}
use Rattle.std.specs.Cmp.{IsTotalOrder}
use Rattle.std.proofs.lemmas.Cmp.{nat_cmp_total, on_total, then_total}
use Rattle.must_base.specs.Listing.{Has}
use Rattle.must_base.specs.ListingLaws.{lists_one}
use Rattle.must_call.specs.declared.place.Place.{Place}
use Rattle.must_find.specs.declared.finding.Finding.{Finding}
use Rattle.must_find.specs.Order.{by_spot}
use Rattle.must_wait.specs.Needs.{Rows}
use Rattle.must_wait.specs.Replay.{IsBlocked}
use Rattle.must_wait.specs.CoreLaws.{in_core}
use Rattle.must_node.specs.Waits.{wait_finding, IsWaitOf, IsWaitRow}

spots_total : IsTotalOrder by_spot
spots_total = then_total (on_total (λ (s : Place). s.rank) nat_cmp_total) (on_total (λ (s : Place). s.call) nat_cmp_total)

abbrev finding_of : Rows → List Place → Place → Finding
finding_of rows blocked place = wait_finding rows (in_core rows blocked place.rank) place

record IsOf (rows : Rows) (blocked : List Place) (f : Finding) : Type 0 where
  place : Place
  is : finding_of rows blocked place ≡ f

found : (rows : Rows) (blocked places : List Place) (f : Finding) → IsWaitOf rows blocked places f → IsOf rows blocked f
found rows blocked [] f is = absurd is
found rows blocked (place ∷ places) f (inl e) = record { place = place; is = e }
found rows blocked (place ∷ places) f (inr is) = found rows blocked places f is

abbrev spot : ℕ → ℕ → Place
spot rank call = record { rank = rank; call = call }

at_spot : (p : Place) → p ≡ spot p.rank p.call
at_spot p = refl

same_spot : (p q : Place) → p.rank ≡ q.rank → p.call ≡ q.call → p ≡ q
same_spot p q r c = at_spot p ∙ ap (λ n. spot n p.call) r ∙ ap (λ n. spot q.rank n) c ∙ sym (at_spot q)

pub wait_rows_one : (rows : Rows) (f g : Finding) → IsWaitRow rows f → IsWaitRow rows g → f.rank ≡ g.rank → f.call ≡ g.call → f ≡ g
wait_rows_one rows f g a b r c =
    let lists : a.blocked ≡ b.blocked = lists_one by_spot spots_total (IsBlocked rows) a.blocked b.blocked a.are_blocked b.are_blocked in
    let p = found rows a.blocked a.blocked f a.row in
    let q = found rows b.blocked b.blocked g b.row in
    let rank : p.place.rank ≡ q.place.rank = ap (λ (x : Finding). x.rank) p.is ∙ r ∙ sym (ap (λ (x : Finding). x.rank) q.is) in
    let call : p.place.call ≡ q.place.call = ap (λ (x : Finding). x.call) p.is ∙ c ∙ sym (ap (λ (x : Finding). x.call) q.is) in
    sym p.is ∙ ap (λ (l : List Place). finding_of rows l p.place) lists ∙ ap (finding_of rows b.blocked) (same_spot p.place q.place rank call) ∙ q.is
