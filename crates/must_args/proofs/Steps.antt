-- The steps of the loops of this crate, over plain values.
use Rattle.std.proofs.Common.{◌≡◌, ℕ, ◌+◌, ◌<◌, ◌≤◌, Bool, ◌||◌, ◌&&◌, List, [], ◌∷◌, ◌++◌, map, length, take, drop, get_or, refl, sym, ap, subst, ◌∙◌, arith, nat_eq, flat_map, length-append, zero-add}
use Rattle.std.specs.Prelude.{if◌then◌else◌}
use Rattle.std.specs.Set.{is_member}
use Rattle.std.proofs.lemmas.List.{length-take-le, length-map, map-append, append-nil, take-append-drop}
use Rattle.std.proofs.lemmas.Grind.{flat_map-append}
use Rattle.must_call.specs.declared.kind.Kind.{Kind}
use Rattle.must_call.specs.declared.place.Place.{Place}
use Rattle.must_call.specs.declared.field.Field.{Field}
use Rattle.must_call.specs.Values.{Typed}
use Rattle.must_call.specs.Handles.{ClassedHandle, typed_handles}
use Rattle.must_find.specs.declared.finding.Finding.{Finding}
use Rattle.must_rules.specs.Facts.{Facts}
use Rattle.must_rules.specs.Significant.{side, is_send}
use Rattle.must_rules.specs.Breaches.{Breach, AddsBreaches, sends, asked_from}
use Rattle.must_rules.specs.ArgumentHandles.{StartOf, wrong_handle, wrong_handles, active, active_from}
use Rattle.must_args.specs.declared.setting.Setting.{Setting}
use Rattle.must_args.specs.Settings.{usable_from}
use Rattle.must_args.proofs.Added.{adds_both, adds_as}
use Rattle.must_args.specs.AskingLaws.{front_more, seen_more}
use Rattle.must_args.proofs.Asking.{sends_more, asked_more, handles_more, active_more, usable_more, usable_here, handles_in}

seen_length : {A B : Type 0} (f : A → B) (xs : List A) (j : ℕ) → j < length xs → length (map f (take j xs)) ≡ j
seen_length f xs j within = simp length-map (length-take-le j xs (omega (arith, within)))

handles_joined : (ts us : List Typed) → handles_in (ts ++ us) ≡ handles_in ts + handles_in us
handles_joined ts us = ap length (flat_map-append typed_handles ts us) ∙ length-append (flat_map typed_handles ts) (flat_map typed_handles us)

handles_more_in : (ts : List Typed) (t : Typed) → handles_in (ts ++ t ∷ []) ≡ handles_in ts + length (typed_handles t)
handles_more_in ts t = handles_joined ts (t ∷ []) ∙ ap (λ (hs : List ClassedHandle). handles_in ts + length hs) (append-nil (typed_handles t))

module _ {A : Type 0} (f : A → Typed) (xs : List A) (j : ℕ) (x : A) (within : j < length xs) (is : x ≡ get_or xs j x) where
  pub sends_step : (old new : Bool) → old ≡ sends (map f (take j xs)) → new ≡ (old || is_send (side (f x).0)) → new ≡ sends (map f (take (j + 1) xs))
  sends_step old new before step =
      step ∙ ap (λ o. o || is_send (side (f x).0)) before ∙ sym (ap sends (seen_more f xs j x x within is) ∙ sends_more (map f (take j xs)) (f x))

  pub usable_step : (sound_type : ℕ → Bool) (s : Setting) (all : List Typed) (part : ℕ) (old new : Bool) → old ≡ usable_from sound_type s all part (map f (take j xs)) → new ≡ (old || usable_here sound_type s all part (f x)) → new ≡ usable_from sound_type s all part (map f (take (j + 1) xs))
  usable_step sound_type s all part old new before step =
      step ∙ ap (λ o. o || usable_here sound_type s all part (f x)) before ∙ sym (ap (usable_from sound_type s all part) (seen_more f xs j x x within is) ∙ usable_more sound_type s all part (map f (take j xs)) (f x))

  pub fields_step : (test : Field → Bool) (rule : ℕ → Typed → List Breach) (at : Place) (old mid new : List Finding) (number : ℕ) → number ≡ handles_in (map f (take j xs))
      → AddsBreaches at old mid (asked_from test rule 0 (map f (take j xs))) → AddsBreaches at mid new (if test (f x).0 then rule number (f x) else []) → AddsBreaches at old new (asked_from test rule 0 (map f (take (j + 1) xs)))
  fields_step test rule at old mid new number count before step =
      let here = subst (λ (n : ℕ). AddsBreaches at mid new (if test (f x).0 then rule n (f x) else [])) count step in
      adds_as at old new _ _ (sym (ap (asked_from test rule 0) (seen_more f xs j x x within is) ∙ asked_more test rule 0 (map f (take j xs)) (f x) ∙ ap (λ (n : ℕ). asked_from test rule 0 (map f (take j xs)) ++ (if test (f x).0 then rule n (f x) else [])) (zero-add (handles_in (map f (take j xs))))))
      (adds_both at old mid new _ _ before here)

  pub count_step : (number next : ℕ) → number ≡ handles_in (map f (take j xs)) → next ≡ number + length (typed_handles (f x)) → next ≡ handles_in (map f (take (j + 1) xs))
  count_step number next before step =
      let all : handles_in (map f (take (j + 1) xs)) ≡ handles_in (map f (take j xs)) + length (typed_handles (f x)) =
      ap handles_in (seen_more f xs j x x within is) ∙ handles_more_in (map f (take j xs)) (f x) in
      omega (arith, before, step, all)

  -- the numbers of the handles so far are no more than there are handles
  pub count_within : (number : ℕ) → number ≡ handles_in (map f (take j xs)) → number + length (typed_handles (f x)) ≤ handles_in (map f xs)
  count_within number before =
      let step : number + length (typed_handles (f x)) ≡ handles_in (map f (take (j + 1) xs)) = count_step number (number + length (typed_handles (f x))) before refl in
      let all : handles_in (map f xs) ≡ handles_in (map f (take (j + 1) xs)) + handles_in (map f (drop (j + 1) xs)) =
      ap (λ (ys : List A). handles_in (map f ys)) (sym (take-append-drop (j + 1) xs))
      ∙ ap handles_in (map-append f (take (j + 1) xs) (drop (j + 1) xs))
      ∙ handles_joined (map f (take (j + 1) xs)) (map f (drop (j + 1) xs)) in
      omega (arith, step, all)

pub handles_step : {A : Type 0} (f : A → ClassedHandle) (facts : Facts) (k : Kind) (of_buffer : Bool) (i : ℕ) (xs : List A) (j : ℕ) (x d : A) (at : Place) (old mid new : List Finding) → j < length xs → x ≡ get_or xs j d
    → AddsBreaches at old mid (wrong_handles facts k of_buffer i (map f (take j xs))) → AddsBreaches at mid new (wrong_handle facts k of_buffer (i + j) (f x)) → AddsBreaches at old new (wrong_handles facts k of_buffer i (map f (take (j + 1) xs)))
handles_step f facts k of_buffer i xs j x d at old mid new within is before step =
    let more : wrong_handles facts k of_buffer i (map f (take (j + 1) xs)) ≡ wrong_handles facts k of_buffer i (map f (take j xs)) ++ wrong_handle facts k of_buffer (i + j) (f x) =
    ap (wrong_handles facts k of_buffer i) (seen_more f xs j x d within is)
    ∙ handles_more facts k of_buffer i (map f (take j xs)) (f x)
    ∙ ap (λ (n : ℕ). wrong_handles facts k of_buffer i (map f (take j xs)) ++ wrong_handle facts k of_buffer (i + n) (f x)) (seen_length f xs j within) in
    adds_as at old new _ _ (sym more) (adds_both at old mid new _ _ before step)

pub active_step : (start_of : StartOf) (here : ℕ) (clear : Bool) (xs : List ℕ) (j : ℕ) (at : Place) (old mid new : List Finding) → j < length xs
    → AddsBreaches at old mid (active_from start_of here clear [] 0 (take j xs))
    → AddsBreaches at mid new (active here (clear && is_member nat_eq (take j xs) (get_or xs j 0)) j (get_or xs j 0) (start_of (get_or xs j 0)))
    → AddsBreaches at old new (active_from start_of here clear [] 0 (take (j + 1) xs))
active_step start_of here clear xs j at old mid new within before step =
    let x = get_or xs j 0 in
    let more : active_from start_of here clear [] 0 (take (j + 1) xs) ≡ active_from start_of here clear [] 0 (take j xs) ++ active here (clear && is_member nat_eq (take j xs) x) j x (start_of x) =
    ap (active_from start_of here clear [] 0) (front_more xs j x 0 within refl)
    ∙ active_more start_of here clear [] 0 (take j xs) x
    ∙ ap (λ (n : ℕ). active_from start_of here clear [] 0 (take j xs) ++ active here (clear && is_member nat_eq (take j xs) x) n x (start_of x)) (zero-add (length (take j xs)) ∙ length-take-le j xs (omega (arith, within))) in
    adds_as at old new _ _ (sym more) (adds_both at old mid new _ _ before step)
