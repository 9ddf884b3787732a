-- One field, one handle or one request more.
use Rattle.std.proofs.Common.{◌≡◌, ℕ, suc, ◌+◌, Bool, true, false, ◌||◌, ◌&&◌, List, [], ◌∷◌, ◌++◌, map, length, take, refl, sym, ap, ◌∙◌, arith, nat_eq, append_assoc, length-append, flat_map}
use Rattle.std.specs.Prelude.{if◌then◌else◌}
use Rattle.std.specs.Set.{is_member}
use Rattle.std.proofs.lemmas.List.{append-nil}
use Rattle.must_call.specs.declared.kind.Kind.{Kind}
use Rattle.must_call.specs.declared.field.Field.{Field}
use Rattle.must_call.specs.Values.{Typed}
use Rattle.must_call.specs.Handles.{ClassedHandle, typed_handles}
use Rattle.must_rules.specs.Facts.{Facts}
use Rattle.must_rules.specs.Significant.{side, is_send}
use Rattle.must_rules.specs.Breaches.{Breach, sends, part_of, asked_from}
use Rattle.must_rules.specs.ArgumentHandles.{StartOf, wrong_handle, wrong_handles, active, active_from}
use Rattle.must_args.specs.declared.setting.Setting.{Setting}
use Rattle.must_args.specs.Settings.{usable_field, usable_from}

or-false : (b : Bool) → (b || false) ≡ b
or-false true = refl
or-false false = refl

or-or : (a b c : Bool) → (a || (b || c)) ≡ ((a || b) || c)
or-or true b c = refl
or-or false b c = refl

pub sends_more : (ts : List Typed) (t : Typed) → sends (ts ++ t ∷ []) ≡ (sends ts || is_send (side t.0))
sends_more [] t = or-false (is_send (side t.0))
sends_more (x ∷ ts) t = ap (λ b. is_send (side x.0) || b) (sends_more ts t) ∙ or-or (is_send (side x.0)) (sends ts) (is_send (side t.0))

-- ---- rules

abbrev pub handles_in : List Typed → ℕ
handles_in ts = length (flat_map typed_handles ts)

pub asked_more : (test : Field → Bool) (rule : ℕ → Typed → List Breach) (i : ℕ) (ts : List Typed) (t : Typed)
    → asked_from test rule i (ts ++ t ∷ []) ≡ asked_from test rule i ts ++ (if test t.0 then rule (i + handles_in ts) t else [])
asked_more test rule i [] t =
    let none : i ≡ i + 0 = omega arith in
    append-nil (if test t.0 then rule i t else []) ∙ ap (λ (m : ℕ). if test t.0 then rule m t else []) none
asked_more test rule i (x ∷ ts) t =
    let here = if test x.0 then rule i x else [] in
    let n = length (typed_handles x) in
    let count : i + n + handles_in ts ≡ i + handles_in (x ∷ ts) = omega (arith, length-append (typed_handles x) (flat_map typed_handles ts)) in
    ap (λ (r : List Breach). here ++ r) (asked_more test rule (i + n) ts t)
    ∙ sym (append_assoc here (asked_from test rule (i + n) ts) (if test t.0 then rule (i + n + handles_in ts) t else []))
    ∙ ap (λ (m : ℕ). (here ++ asked_from test rule (i + n) ts) ++ (if test t.0 then rule m t else [])) count

pub handles_more : (facts : Facts) (k : Kind) (of_buffer : Bool) (i : ℕ) (hs : List ClassedHandle) (h : ClassedHandle)
    → wrong_handles facts k of_buffer i (hs ++ h ∷ []) ≡ wrong_handles facts k of_buffer i hs ++ wrong_handle facts k of_buffer (i + length hs) h
handles_more facts k of_buffer i [] h =
    let none : i ≡ i + 0 = omega arith in
    append-nil (wrong_handle facts k of_buffer i h) ∙ ap (λ (m : ℕ). wrong_handle facts k of_buffer m h) none
handles_more facts k of_buffer i (x ∷ hs) h =
    let here = wrong_handle facts k of_buffer i x in
    let rest = wrong_handles facts k of_buffer (suc i) hs in
    let count : suc i + length hs ≡ i + length (x ∷ hs) = omega arith in
    ap (λ (r : List Breach). here ++ r) (handles_more facts k of_buffer (suc i) hs h)
    ∙ sym (append_assoc here rest (wrong_handle facts k of_buffer (suc i + length hs) h))
    ∙ ap (λ (m : ℕ). (here ++ rest) ++ wrong_handle facts k of_buffer m h) count

pub active_more : (start_of : StartOf) (here : ℕ) (clear : Bool) (before : List ℕ) (i : ℕ) (hs : List ℕ) (h : ℕ)
    → active_from start_of here clear before i (hs ++ h ∷ []) ≡ active_from start_of here clear before i hs ++ active here (clear && is_member nat_eq (before ++ hs) h) (i + length hs) h (start_of h)
active_more start_of here clear before i [] h =
    let none : i ≡ i + 0 = omega arith in
    append-nil (active here (clear && is_member nat_eq before h) i h (start_of h))
    ∙ ap (λ (b : List ℕ). active here (clear && is_member nat_eq b h) i h (start_of h)) (sym (append-nil before))
    ∙ ap (λ (m : ℕ). active here (clear && is_member nat_eq (before ++ []) h) m h (start_of h)) none
active_more start_of here clear before i (x ∷ hs) h =
    let first = active here (clear && is_member nat_eq before x) i x (start_of x) in
    let rest = active_from start_of here clear (before ++ x ∷ []) (suc i) hs in
    let count : suc i + length hs ≡ i + length (x ∷ hs) = omega arith in
    ap (λ (r : List Breach). first ++ r) (active_more start_of here clear (before ++ x ∷ []) (suc i) hs h)
    ∙ sym (append_assoc first rest (active here (clear && is_member nat_eq ((before ++ x ∷ []) ++ hs) h) (suc i + length hs) h (start_of h)))
    ∙ ap (λ (m : ℕ). (first ++ rest) ++ active here (clear && is_member nat_eq ((before ++ x ∷ []) ++ hs) h) m h (start_of h)) count
    ∙ ap (λ (b : List ℕ). (first ++ rest) ++ active here (clear && is_member nat_eq b h) (i + length (x ∷ hs)) h (start_of h)) (append_assoc before (x ∷ []) hs)

-- ---- usable

abbrev pub usable_here : (sound_type : ℕ → Bool) → Setting → (all : List Typed) → (part : ℕ) → Typed → Bool
usable_here sound_type s all part t = nat_eq (part_of s.sends (side t.0)) part && usable_field sound_type s all t.0

pub usable_more : (sound_type : ℕ → Bool) (s : Setting) (all : List Typed) (part : ℕ) (ts : List Typed) (t : Typed)
    → usable_from sound_type s all part (ts ++ t ∷ []) ≡ (usable_from sound_type s all part ts || usable_here sound_type s all part t)
usable_more sound_type s all part [] t = or-false (usable_here sound_type s all part t)
usable_more sound_type s all part (x ∷ ts) t =
    ap (λ b. usable_here sound_type s all part x || b) (usable_more sound_type s all part ts t)
    ∙ or-or (usable_here sound_type s all part x) (usable_from sound_type s all part ts) (usable_here sound_type s all part t)
