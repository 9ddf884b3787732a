-- The orders of findings are orders.
use Rattle.std.specs.Cmp.{IsTotalOrder}
use Rattle.std.proofs.Common.{◌≡◌, ℕ, ℤ, refl, ap, Ordering, Less, Equal, Greater, Option, Some, None}
use Rattle.std.specs.Ordering.{nat_cmp, ordering_then}
use Rattle.std.specs.FinMap.{nat_cmp-IsAntisymmetric, int_cmp-IsAntisymmetric}
use Rattle.must_find.specs.declared.rule.Rule.{Rule}
use Rattle.must_find.specs.RuleLaws.{rule_same}
use Rattle.must_find.specs.Rules.{rule_place}
use Rattle.std.specs.Option.{option_cmp}
use Rattle.std.specs.Cmp.Lexicographic.{options_total}
use Rattle.std.proofs.lemmas.Cmp.{nat_cmp_total, int_cmp_total, on_total, then_total}
use Rattle.must_find.specs.declared.finding.Finding.{Finding}
use Rattle.must_call.specs.declared.place.Place.{Place}
use Rattle.must_find.specs.Order.{by_place, by_spot, by_all}

pub by_place_total : IsTotalOrder by_place
by_place_total = then_total (on_total (λ (f : Finding). f.rank) nat_cmp_total) (then_total (on_total (λ (f : Finding). f.call) nat_cmp_total) (then_total (on_total (λ (f : Finding). rule_place f.rule) nat_cmp_total) (on_total (λ (f : Finding). f.part) nat_cmp_total)))

by_spot_total : IsTotalOrder by_spot
by_spot_total = then_total (on_total (λ (s : Place). s.rank) nat_cmp_total) (on_total (λ (s : Place). s.call) nat_cmp_total)

pub by_all_total : IsTotalOrder by_all
by_all_total = then_total by_place_total (then_total (on_total (λ (f : Finding). f.see) (options_total by_spot_total)) (on_total (λ (f : Finding). f.value) int_cmp_total))

then_parts : (a b : Ordering) → ordering_then a b ≡ Equal → (a ≡ Equal) × (b ≡ Equal)
then_parts Less b e = cc
then_parts Equal b e = (refl, e)
then_parts Greater b e = cc

spot_of : ℕ → ℕ → Place
spot_of rank call = record { rank = rank; call = call }

spots_alike : (a a' b b' : ℕ) → a ≡ a' → b ≡ b' → spot_of a b ≡ spot_of a' b'
spots_alike a a' b b' p q = cc

spot_same : (s t : Place) → by_spot s t ≡ Equal → s ≡ t
unfolding spot_of
spot_same s t e =
    let p = then_parts (nat_cmp s.rank t.rank) (nat_cmp s.call t.call) e in
    let a : s.rank ≡ t.rank = nat_cmp-IsAntisymmetric s.rank t.rank p.0 in
    let b : s.call ≡ t.call = nat_cmp-IsAntisymmetric s.call t.call p.1 in
    spots_alike s.rank t.rank s.call t.call a b

see_same : (s t : Option Place) → option_cmp by_spot s t ≡ Equal → s ≡ t
see_same None None e = refl
see_same None (Some t) e = cc
see_same (Some s) None e = cc
see_same (Some s) (Some t) e = ap Some (spot_same s t e)

-- what compares equal by place has one place
pub record SamePlace (f g : Finding) : Type 0 where
  pub rank : f.rank ≡ g.rank
  pub call : f.call ≡ g.call
  pub rule : f.rule ≡ g.rule
  pub part : f.part ≡ g.part

pub place_same : (f g : Finding) → by_place f g ≡ Equal → SamePlace f g
place_same f g e =
    let p = then_parts (nat_cmp f.rank g.rank) _ e in
    let q = then_parts (nat_cmp f.call g.call) _ p.1 in
    let r = then_parts (nat_cmp (rule_place f.rule) (rule_place g.rule)) _ q.1 in
    record {
      rank = nat_cmp-IsAntisymmetric f.rank g.rank p.0;
      call = nat_cmp-IsAntisymmetric f.call g.call q.0;
      rule = rule_same f.rule g.rule r.0;
      part = nat_cmp-IsAntisymmetric f.part g.part r.1;
    }

finding_of : ℕ → ℕ → Rule → ℕ → Option Place → ℤ → Finding
finding_of rank call rule part see value = record { rank = rank; call = call; rule = rule; part = part; see = see; value = value }

findings_alike : (a a' b b' : ℕ) (r r' : Rule) (p p' : ℕ) (s s' : Option Place) (v v' : ℤ) → a ≡ a' → b ≡ b' → r ≡ r' → p ≡ p' → s ≡ s' → v ≡ v' → finding_of a b r p s v ≡ finding_of a' b' r' p' s' v'
findings_alike a a' b b' r r' p p' s s' v v' ea eb er ep es ev = cc

pub finding_same : (f g : Finding) → SamePlace f g → f.see ≡ g.see → f.value ≡ g.value → f ≡ g
unfolding finding_of
finding_same f g p s v = findings_alike f.rank g.rank f.call g.call f.rule g.rule f.part g.part f.see g.see f.value g.value p.rank p.call p.rule p.part s v

pub by_all_same : (f g : Finding) → by_all f g ≡ Equal → f ≡ g
by_all_same f g e =
    let p = then_parts (by_place f g) _ e in
    let q = then_parts (option_cmp by_spot f.see g.see) _ p.1 in
    finding_same f g (place_same f g p.0) (see_same f.see g.see q.0) (int_cmp-IsAntisymmetric f.value g.value q.1)
