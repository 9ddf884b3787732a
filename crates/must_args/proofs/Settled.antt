-- What is asked by the setting of a call is what the definitions ask.
use Rattle.std.proofs.Common.{◌≡◌, ℕ, ◌+◌, Bool, true, ◌||◌, ◌&&◌, ℤ, List, [], ◌∷◌, ◌++◌, Option, Some, None, refl, sym, ap, ◌∙◌, nat_eq}
use Rattle.std.specs.Prelude.{if◌then◌else◌, is_some}
use Rattle.std.specs.Option.{option_map}
use Rattle.must_call.specs.declared.kind.Kind.{Kind}
use Rattle.must_call.specs.declared.field.Field.{Field}
use Rattle.must_call.specs.declared.field.Field.TheVariants.{Handle, Buffer, I32, I64, Bit, Order, Items}
use Rattle.must_call.specs.declared.body.Body.{Body}
use Rattle.must_call.specs.Values.{Typed}
use Rattle.must_call.specs.Kinds.{kind_of}
use Rattle.must_call.specs.Bodies.{inputs_of}
use Rattle.must_call.specs.Handles.{typed_handles}
use Rattle.must_rules.specs.Facts.{Facts, Comm, size_of_comm}
use Rattle.must_rules.specs.Significant.{Seat, side, in_place, comm_of, is_significant, significant_in}
use Rattle.must_rules.specs.Breaches.{Breach, sends, part_of, part_in, asked_from}
use Rattle.must_rules.specs.ArgumentHandles.{is_of_buffer, wrong_handles}
use Rattle.must_rules.specs.Clear.{wrong_value, wrong_field, is_clear}
use Rattle.must_rules.specs.UsableParts.{is_usable_side, is_usable_buffer, usable_among, is_usable, usable_parts}
use Rattle.must_args.specs.declared.setting.Setting.{Setting}
use Rattle.must_args.specs.Settings.{told_seat, has_sense, asks, IsSetting, usable_field, usable_from}
use Rattle.must_args.specs.SettingLaws.{significant_is}

abbrev pub asked_with : Facts → List Typed → Kind → Bool → Bool → Option ℕ → ℤ → Seat → List Breach
asked_with facts ts k place sending n tag_ub seat =
    asked_from (λ f. is_significant k place seat f) (λ i t. wrong_value tag_ub n (part_of sending (side t.0)) t ++ wrong_handles facts k (is_of_buffer t.0) i (typed_handles t)) 0 ts

pub settled : (facts : Facts) (b : Body) (s : Setting) → IsSetting facts b s
    → asked_from (has_sense s) (asks facts s) 0 (inputs_of b) ≡ asked_from (significant_in facts b) (wrong_field facts (kind_of b) (option_map size_of_comm (comm_of facts b)) (part_in b)) 0 (inputs_of b)
settled facts b s is =
    let ts = inputs_of b in
    ap (λ k. asked_with facts ts k s.in_place s.sends s.size s.tag_ub (told_seat s.seat)) is.kind_is
    ∙ ap (λ x. asked_with facts ts (kind_of b) x s.sends s.size s.tag_ub (told_seat s.seat)) is.in_place_is
    ∙ ap (λ x. asked_with facts ts (kind_of b) (in_place b) x s.size s.tag_ub (told_seat s.seat)) is.sends_is
    ∙ ap (λ x. asked_with facts ts (kind_of b) (in_place b) (sends ts) x s.tag_ub (told_seat s.seat)) is.size_is
    ∙ ap (λ x. asked_with facts ts (kind_of b) (in_place b) (sends ts) (option_map size_of_comm (comm_of facts b)) x (told_seat s.seat)) is.tag_ub_is
    ∙ ap (λ x. asked_with facts ts (kind_of b) (in_place b) (sends ts) (option_map size_of_comm (comm_of facts b)) facts.tag_ub x) is.seat_is

-- ---- usable

field_usable : (facts : Facts) (sound : ℕ → Bool) (b : Body) (s : Setting) (f : Field) → IsSetting facts b s → usable_field sound s (inputs_of b) f ≡ is_usable_buffer facts sound b f
field_usable facts sound b s (Buffer side) is = ap (λ x. x && is_usable_side sound (inputs_of b) side) (significant_is facts b s (Buffer side) is)
field_usable facts sound b s (Handle r) is = refl
field_usable facts sound b s (I32 u) is = refl
field_usable facts sound b s (I64 u) is = refl
field_usable facts sound b s (Bit u) is = refl
field_usable facts sound b s Order is = refl
field_usable facts sound b s (Items i) is = refl

pub usable_is : (facts : Facts) (sound : ℕ → Bool) (b : Body) (s : Setting) (part : ℕ) (ts : List Typed) → IsSetting facts b s → usable_from sound s (inputs_of b) part ts ≡ usable_among facts sound b part ts
usable_is facts sound b s part [] is = refl
usable_is facts sound b s part (t ∷ ts) is =
    ap (λ x. (nat_eq (part_of x (side t.0)) part && usable_field sound s (inputs_of b) t.0) || usable_from sound s (inputs_of b) part ts) is.sends_is
    ∙ ap (λ x. (nat_eq (part_in b t.0) part && x) || usable_from sound s (inputs_of b) part ts) (field_usable facts sound b s t.0 is)
    ∙ ap (λ x. (nat_eq (part_in b t.0) part && is_usable_buffer facts sound b t.0) || x) (usable_is facts sound b s part ts is)

some_size : (o : Option Comm) → is_some (option_map size_of_comm o) ≡ is_some o
some_size (Some c) = refl
some_size None = refl

-- a call that is clear, on a communicator that is live and sound
pub usable_there : (facts : Facts) (sound : ℕ → Bool) (b : Body) (s : Setting) → IsSetting facts b s → is_clear facts b ≡ true → is_some s.size ≡ true
    → (if usable_from sound s (inputs_of b) 0 (inputs_of b) then 1 else 0) + (if usable_from sound s (inputs_of b) 1 (inputs_of b) then 2 else 0) ≡ usable_parts facts sound b
usable_there facts sound b s is clear size =
    let comm : is_some (comm_of facts b) ≡ true = sym (some_size (comm_of facts b)) ∙ ap is_some (sym is.size_is) ∙ size in
    let here : (part : ℕ) → usable_from sound s (inputs_of b) part (inputs_of b) ≡ is_usable facts sound b part = λ part.
    usable_is facts sound b s part (inputs_of b) is
    ∙ sym (ap (λ x. x && is_some (comm_of facts b) && usable_among facts sound b part (inputs_of b)) clear ∙ ap (λ x. x && usable_among facts sound b part (inputs_of b)) comm) in
    ap (λ x. (if x then 1 else 0) + (if usable_from sound s (inputs_of b) 1 (inputs_of b) then 2 else 0)) (here 0)
    ∙ ap (λ x. (if is_usable facts sound b 0 then 1 else 0) + (if x then 2 else 0)) (here 1)
