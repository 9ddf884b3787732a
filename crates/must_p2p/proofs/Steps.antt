-- Answers of a call, from answers of what it calls.
use Rattle.std.proofs.Common.{◌≡◌, Option, Some, None, Result, Ok, Err, List, OnOk, IfOk, inl, inr, sym, ◌∙◌}
use Rattle.std.specs.Prelude.{◌↔◌}
use Rattle.must_find.specs.Adds.{Adds}
use Rattle.must_find.specs.declared.finding.Finding.{Finding}

pub on_ok : {T E A B : Type 0} (r : Result T E) → OnOk r A → (A → B) → OnOk r B
on_ok (Ok x) a f = f a
on_ok (Err e) a f = tt

pub on_both : {T E A B C : Type 0} (r : Result T E) → OnOk r A → OnOk r B → (A → B → C) → OnOk r C
on_both (Ok x) a b f = f a b
on_both (Err e) a b f = tt

pub on_three : {T E A B C D : Type 0} (r : Result T E) → OnOk r A → OnOk r B → OnOk r C → (A → B → C → D) → OnOk r D
on_three (Ok x) a b c f = f a b c
on_three (Err e) a b c f = tt

pub if_ok : {T E : Type 0} (r : Result T E) (P Q : T → Type 0) → ((x : T) → P x → Q x) → IfOk r P → IfOk r Q
if_ok (Ok x) P Q f p = f x p
if_ok (Err e) P Q f p = tt

pub adds_alike : (old new : List Finding) (P Q : Finding → Type 0) → ((f : Finding) → P f ↔ Q f) → Adds old new P → Adds old new Q
adds_alike old new P Q same adds = λ f. (
  λ h. elim ((adds f).0 h) [ inl there ↦ inl there | inr p ↦ inr ((same f).0 p) ],
  λ h. elim h [ inl there ↦ (adds f).1 (inl there) | inr q ↦ (adds f).1 (inr ((same f).1 q)) ],
)

pub adds_none : (fs : List Finding) (o : Option (Option Finding)) → o ≡ None → Adds fs fs (λ f. o ≡ Some (Some f))
adds_none fs o e = λ f. (λ h. inl h, λ h. elim h [ inl there ↦ there | inr is ↦ absurd (let n : None ≡ Some (Some f) = sym e ∙ is in cc) ])
