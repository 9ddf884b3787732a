-- The rows of blocked calls.
use Rattle.std.proofs.Common.{◌≡◌, ℕ, Bool, true, false, List, refl, sym, subst, inl, inr}
use Rattle.std.specs.Prelude.{◌⊎◌, ◌↔◌, Result, Ok, Err, OnOk}
use Rattle.std.specs.Cmp.{IsTotalOrder}
use Rattle.std.proofs.lemmas.Cmp.{nat_cmp_total, on_total, then_total}
use Rattle.must_base.specs.Listing.{Has}
use Rattle.must_base.specs.ListingLaws.{lists_one}
use Rattle.must_call.specs.declared.place.Place.{Place}
use Rattle.must_find.specs.Adds.{Adds}
use Rattle.must_find.specs.Order.{by_spot}
use Rattle.must_find.specs.declared.finding.Finding.{Finding}
use Rattle.must_wait.specs.Core.{IsCore}
use Rattle.must_wait.specs.CoreLaws.{in_core}
use Rattle.must_wait.specs.Needs.{Rows}
use Rattle.must_wait.specs.Replay.{IsBlocked, IsBlockedList}
use Rattle.must_node.specs.Waits.{IsWaitOf, IsWaitRow}

bool_by : (a b : Bool) → (a ≡ true → b ≡ true) → (b ≡ true → a ≡ true) → a ≡ b
bool_by true b f g = sym (f refl)
bool_by false true f g = g refl
bool_by false false f g = refl

-- a rank is in the core where it stands in the list
pub core_told : (rows : Rows) (blocked : List Place) (core : List ℕ) (rank : ℕ) (b : Bool) → IsCore rows blocked core → ((b ≡ true) ↔ Has core rank) → b ≡ in_core rows blocked rank
core_told rows blocked core rank b is told = bool_by b (in_core rows blocked rank) (λ e. (is.exact rank).0 (told.0 e)) (λ e. told.1 ((is.exact rank).1 e))

by_spot_total : IsTotalOrder by_spot
by_spot_total = then_total (on_total (λ (s : Place). s.rank) nat_cmp_total) (on_total (λ (s : Place). s.call) nat_cmp_total)

-- the blocked calls are one list
pub rows_told : (rows : Rows) (blocked : List Place) (f : Finding) → IsBlockedList rows blocked → IsWaitRow rows f ↔ IsWaitOf rows blocked blocked f
rows_told rows blocked f is = (
  λ row.
      let e : row.blocked ≡ blocked = lists_one by_spot by_spot_total (IsBlocked rows) row.blocked blocked row.are_blocked is in
      subst (λ (l : List Place). IsWaitOf rows l l f) e row.row,
  λ row. record { blocked = blocked; are_blocked = is; row = row },
)

-- what one more adds, with what the rest gives
pub one_added : (first old new : List Finding) (g f : Finding) (P Q : Type 0) → (((x : Finding) → Has new x ↔ ((x ≡ g) ⊎ Has old x)))
    → (Has old f ⊎ ((g ≡ f) ⊎ P)) ↔ (Has first f ⊎ Q) → (Has new f ⊎ P) ↔ (Has first f ⊎ Q)
one_added first old new g f P Q added same = (
  λ h. same.0 (elim h [
    | inl n ↦ elim ((added f).0 n) [ inl e ↦ inr (inl (sym e)) | inr o ↦ inl o ]
    | inr p ↦ inr (inr p)
  ]),
  λ h. elim (same.1 h) [
    | inl o ↦ inl ((added f).1 (inr o))
    | inr r ↦ elim r [ inl e ↦ inl ((added f).1 (inl (sym e))) | inr p ↦ inr p ]
  ],
)

-- the same rows, told otherwise
pub ok_adds_as : {T E : Type 0} (r : Result T E) (old new : List Finding) (P Q : Finding → Type 0) → ((f : Finding) → Q f ↔ P f) → OnOk r (Adds old new P) → OnOk r (Adds old new Q)
ok_adds_as (Ok t) old new P Q same adds = λ f. (
  λ h. elim ((adds f).0 h) [ inl o ↦ inl o | inr p ↦ inr ((same f).1 p) ],
  λ h. (adds f).1 (elim h [ inl o ↦ inl o | inr q ↦ inr ((same f).0 q) ]),
)
ok_adds_as (Err e) old new P Q same adds = adds
