-- Findings that are added, and waves without a call.
use Rattle.std.proofs.Common.{◌≡◌, Result, Ok, Err, OnErr, OnOk, ◌+◌, length, Bool, true, false, refl, List, [], ◌∷◌, Option, Some, None, sym, ap, ◌∙◌, inl, inr}
use Rattle.std.specs.Prelude.{◌⊎◌, ℕ, slice_get}
use Rattle.must_find.specs.declared.finding.Finding.{Finding}
use Rattle.must_find.specs.Adds.{Adds}
use Rattle.must_coll.specs.declared.item.WaveItem.{WaveItem}
use Rattle.must_coll.specs.Rows.{are_kind, one_kind_of, IsCallsRow}
use Rattle.must_coll.specs.Given.{GivenBy, GivenFrom}
use Rattle.must_coll.specs.Agreement.{first_counting, root_row, operation_row, IsAgreementRow}
use Rattle.must_coll.specs.GrowthLaws.{no_calls_row}

pub no_first : (calls : List WaveItem) → slice_get calls 0 ≡ None → calls ≡ []
no_first [] e = refl
no_first (x ∷ xs) e = let n : Some x ≡ None = e in cc

pub nothing_added : (fs : List Finding) (m : Option ℕ) (calls : List WaveItem) → slice_get calls 0 ≡ None → Adds fs fs (IsCallsRow m calls)
nothing_added fs m calls e = λ f. (λ h. inl h, λ h. elim h [ inl there ↦ there | inr row ↦ absurd (no_calls_row m calls f (no_first calls e) row) ])

pub none_agrees : (calls : List WaveItem) → slice_get calls 0 ≡ None → true ≡ one_kind_of calls
none_agrees calls e = sym (ap (λ (o : Option WaveItem). are_kind o calls) e)

pub adds_none : (fs : List Finding) (b : Bool) (P : Finding → Type 0) → b ≡ true → Adds fs fs (λ f. (b ≡ false) × P f)
adds_none fs b P e = λ f. (λ h. inl h, λ h. elim h [ inl there ↦ there | inr p ↦ absurd (let n : true ≡ false = sym e ∙ p.0 in cc) ])

pub adds_with : (old new : List Finding) (b : Bool) (P : Finding → Type 0) → b ≡ false → Adds old new P → Adds old new (λ f. (b ≡ false) × P f)
adds_with old new b P e adds = λ f. (
  λ h. elim ((adds f).0 h) [ inl there ↦ inl there | inr p ↦ inr (e, p) ],
  λ h. (adds f).1 (elim h [ inl there ↦ inl there | inr p ↦ inr p.1 ]),
)

pub when_err : {T E A : Type 0} (r : Result T E) → A → OnErr r A
when_err (Ok x) a = tt
when_err (Err e) a = a

pub adds_then : (a b c : List Finding) (P Q : Finding → Type 0) → Adds a b P → Adds b c Q → Adds a c (λ f. P f ⊎ Q f)
adds_then a b c P Q p q = λ f. (
  λ h. elim ((q f).0 h) [ inl there ↦ elim ((p f).0 there) [ inl old ↦ inl old | inr x ↦ inr (inl x) ] | inr y ↦ inr (inr y) ],
  λ h. elim h [
    | inl old ↦ (q f).1 (inl ((p f).1 (inl old)))
    | inr given ↦ elim given [ inl x ↦ (q f).1 (inl ((p f).1 (inr x))) | inr y ↦ (q f).1 (inr y) ]
  ],
)

pub ok_adds_then : {T E : Type 0} (r : Result T E) (a b c : List Finding) (P Q : Finding → Type 0) → Adds a b P → OnOk r (Adds b c Q) → OnOk r (Adds a c (λ f. P f ⊎ Q f))
ok_adds_then (Ok x) a b c P Q p q = adds_then a b c P Q p q
ok_adds_then (Err e) a b c P Q p q = tt

pub adds_nothing : (fs : List Finding) (P : Finding → Type 0) → ((f : Finding) → P f → ⊥) → Adds fs fs P
adds_nothing fs P none = λ f. (λ h. inl h, λ h. elim h [ inl there ↦ there | inr p ↦ absurd (none f p) ])

pub not_some : (o : Option Finding) (f : Finding) → o ≡ None → o ≡ Some f → ⊥
not_some o f e h = let n : None ≡ Some f = sym e ∙ h in cc

pub none_by : (row : WaveItem → Option Finding) → ((x : WaveItem) → row x ≡ None) → (calls : List WaveItem) (f : Finding) → GivenBy row calls f → ⊥
none_by row e [] f h = h
none_by row e (x ∷ xs) f (inl h) = not_some (row x) f (e x) h
none_by row e (x ∷ xs) f (inr h) = none_by row e xs f h

pub none_from : (row : ℕ → WaveItem → Option Finding) → ((i : ℕ) (x : WaveItem) → row i x ≡ None) → (i : ℕ) (calls : List WaveItem) (f : Finding) → GivenFrom row i calls f → ⊥
none_from row e i [] f h = h
none_from row e i (x ∷ xs) f (inl h) = not_some (row i x) f (e i x) h
none_from row e i (x ∷ xs) f (inr h) = none_from row e (i + 1) xs f h

pub no_agreement : (calls : List WaveItem) (f : Finding) → first_counting calls ≡ None → IsAgreementRow calls f → ⊥
no_agreement calls f e (inl h) = none_by (root_row (length calls) (first_counting calls)) (λ x. ap (λ (o : Option WaveItem). root_row (length calls) o x) e) calls f h
no_agreement calls f e (inr h) = none_by (operation_row (first_counting calls)) (λ x. ap (λ (o : Option WaveItem). operation_row o x) e) calls f h

pub adds_under : (C : Type 0) (old new : List Finding) (P : Finding → Type 0) → C → Adds old new P → Adds old new (λ f. C × P f)
adds_under C old new P e adds = λ f. (
  λ h. elim ((adds f).0 h) [ inl there ↦ inl there | inr p ↦ inr (e, p) ],
  λ h. (adds f).1 (elim h [ inl there ↦ inl there | inr p ↦ inr p.1 ]),
)
