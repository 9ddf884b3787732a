-- Breaches that are added one after the other.
use Rattle.std.proofs.Common.{◌≡◌, List, [], ◌∷◌, ◌++◌, refl, ap, subst, ◌∙◌, inl, inr}
use Rattle.std.specs.Prelude.{◌⊎◌, ◌↔◌}
use Rattle.must_call.specs.declared.place.Place.{Place}
use Rattle.must_find.specs.declared.finding.Finding.{Finding}
use Rattle.must_find.specs.OrderLaws.{finding_same}
use Rattle.must_base.specs.Listing.{Has}
use Rattle.must_rules.specs.Breaches.{Breach, IsBreach, AddsBreaches, see_at}
use Rattle.must_rules.specs.Clear.{is_nil}

has_front : {X : Type 0} (xs ys : List X) (z : X) → Has xs z → Has (xs ++ ys) z
has_front [] ys z h = absurd h
has_front (x ∷ xs) ys z (inl e) = inl e
has_front (x ∷ xs) ys z (inr h) = inr (has_front xs ys z h)

has_back : {X : Type 0} (xs ys : List X) (z : X) → Has ys z → Has (xs ++ ys) z
has_back [] ys z h = h
has_back (x ∷ xs) ys z h = inr (has_back xs ys z h)

has_either : {X : Type 0} (xs ys : List X) (z : X) → Has (xs ++ ys) z → Has xs z ⊎ Has ys z
has_either [] ys z h = inr h
has_either (x ∷ xs) ys z (inl e) = inl (inl e)
has_either (x ∷ xs) ys z (inr h) = elim (has_either xs ys z h) [ inl k ↦ inl (inr k) | inr k ↦ inr k ]

moved : (at : Place) (xs ys : List Breach) (f : Finding) → ((b : Breach) → Has xs b → Has ys b) → IsBreach at xs f → IsBreach at ys f
moved at xs ys f to w = record { rank_is = w.rank_is; call_is = w.call_is; breach = w.breach; broken = to w.breach w.broken; rule_is = w.rule_is; part_is = w.part_is; see_is = w.see_is; value_is = w.value_is }

either : (at : Place) (xs ys : List Breach) (f : Finding) → IsBreach at (xs ++ ys) f → IsBreach at xs f ⊎ IsBreach at ys f
either at xs ys f w = elim (has_either xs ys w.breach w.broken) [
  | inl h ↦ inl (record { rank_is = w.rank_is; call_is = w.call_is; breach = w.breach; broken = h; rule_is = w.rule_is; part_is = w.part_is; see_is = w.see_is; value_is = w.value_is })
  | inr h ↦ inr (record { rank_is = w.rank_is; call_is = w.call_is; breach = w.breach; broken = h; rule_is = w.rule_is; part_is = w.part_is; see_is = w.see_is; value_is = w.value_is })
]

pub adds_none : (at : Place) (fs : List Finding) → AddsBreaches at fs fs []
adds_none at fs = record { exact = λ f. (λ h. inl h, λ p. elim p [ inl h ↦ h | inr w ↦ absurd w.broken ]) }

pub adds_both : (at : Place) (a b c : List Finding) (xs ys : List Breach) → AddsBreaches at a b xs → AddsBreaches at b c ys → AddsBreaches at a c (xs ++ ys)
adds_both at a b c xs ys p q = record {
  exact = λ f. (
    (λ h. elim ((q.exact f).0 h) [
      | inl k ↦ elim ((p.exact f).0 k) [ inl o ↦ inl o | inr w ↦ inr (moved at xs (xs ++ ys) f (λ d m. has_front xs ys d m) w) ]
      | inr w ↦ inr (moved at ys (xs ++ ys) f (λ d m. has_back xs ys d m) w)
    ]),
    (λ s. elim s [
      | inl o ↦ (q.exact f).1 (inl ((p.exact f).1 (inl o)))
      | inr w ↦ elim (either at xs ys f w) [ inl u ↦ (q.exact f).1 (inl ((p.exact f).1 (inr u))) | inr u ↦ (q.exact f).1 (inr u) ]
    ]),
  );
}

-- the finding of a breach
abbrev pub finding_of : Place → Breach → Finding
finding_of at b = record { rank = at.rank; call = at.call; rule = b.rule; part = b.part; see = see_at at.rank b.see; value = b.value }

finding_is : (at : Place) (f : Finding) (b : Breach) → f.rank ≡ at.rank → f.call ≡ at.call → f.rule ≡ b.rule → f.part ≡ b.part → f.see ≡ see_at at.rank b.see → f.value ≡ b.value → f ≡ finding_of at b
finding_is at f b r c u p s v = finding_same f (finding_of at b) (record { rank = r; call = c; rule = u; part = p }) s v

pub adds_one : (at : Place) (old new : List Finding) (b : Breach) → ((x : Finding) → Has new x ↔ ((x ≡ finding_of at b) ⊎ Has old x)) → AddsBreaches at old new (b ∷ [])
adds_one at old new b exact = record {
  exact = λ f. (
    (λ h. elim ((exact f).0 h) [
      | inl e ↦ inr (record { rank_is = ap (λ (x : Finding). x.rank) e; call_is = ap (λ (x : Finding). x.call) e; breach = b; broken = inl refl; rule_is = ap (λ (x : Finding). x.rule) e; part_is = ap (λ (x : Finding). x.part) e; see_is = ap (λ (x : Finding). x.see) e; value_is = ap (λ (x : Finding). x.value) e })
      | inr o ↦ inl o
    ]),
    (λ s. elim s [
      | inl o ↦ (exact f).1 (inr o)
      | inr w ↦ elim w.broken [
        | inl e ↦ (exact f).1 (inl (finding_is at f b w.rank_is w.call_is (w.rule_is ∙ ap (λ (x : Breach). x.rule) e) (w.part_is ∙ ap (λ (x : Breach). x.part) e) (w.see_is ∙ ap (λ (x : Breach). see_at at.rank x.see) e) (w.value_is ∙ ap (λ (x : Breach). x.value) e)))
        | inr n ↦ absurd n
      ]
    ]),
  );
}

-- nothing is added where nothing is broken
pub adds_as : (at : Place) (old new : List Finding) (xs ys : List Breach) → xs ≡ ys → AddsBreaches at old new xs → AddsBreaches at old new ys
adds_as at old new xs ys e p = subst (λ (zs : List Breach). AddsBreaches at old new zs) e p

-- from no findings on, there are some where there are breaches
pub none_where_clear : (at : Place) (rows : List Finding) (bs : List Breach) → AddsBreaches at [] rows bs → is_nil rows ≡ is_nil bs
none_where_clear at [] [] p = refl
none_where_clear at [] (b ∷ bs) p =
    let there : Has [] (finding_of at b) = (p.exact (finding_of at b)).1 (inr (record { rank_is = refl; call_is = refl; breach = b; broken = inl refl; rule_is = refl; part_is = refl; see_is = refl; value_is = refl })) in
    absurd there
none_where_clear at (f ∷ fs) [] p = elim ((p.exact f).0 (inl refl)) [ inl h ↦ absurd h | inr w ↦ absurd w.broken ]
none_where_clear at (f ∷ fs) (b ∷ bs) p = refl

-- what is added to a list of its own is added to another by joining the two
pub adds_joined : (at : Place) (old rows new : List Finding) (bs : List Breach) → AddsBreaches at [] rows bs → ((x : Finding) → Has new x ↔ (Has old x ⊎ Has rows x)) → AddsBreaches at old new bs
adds_joined at old rows new bs p joined = record {
  exact = λ f. (
    (λ h. elim ((joined f).0 h) [
      | inl o ↦ inl o
      | inr r ↦ elim ((p.exact f).0 r) [ inl n ↦ absurd n | inr w ↦ inr w ]
    ]),
    (λ s. elim s [
      | inl o ↦ (joined f).1 (inl o)
      | inr w ↦ (joined f).1 (inr ((p.exact f).1 (inr w)))
    ]),
  );
}
