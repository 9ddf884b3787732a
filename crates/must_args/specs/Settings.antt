-- What the rules know of a call when they ask its fields: worked out once a call.
use Rattle.std.specs.Prelude.{◌≡◌, ℕ, ◌++◌, Bool, false, ◌&&◌, ◌||◌, List, [], ◌∷◌, nat_eq, option_map}
use Rattle.must_call.specs.declared.field.Field.{Field}
use Rattle.must_call.specs.declared.field.Field.TheVariants.{Buffer}
use Rattle.must_call.specs.declared.body.Body.{Body}
use Rattle.must_call.specs.Values.{Typed}
use Rattle.must_call.specs.Kinds.{kind_of}
use Rattle.must_call.specs.Bodies.{inputs_of}
use Rattle.must_call.specs.Handles.{typed_handles}
use Rattle.must_rules.specs.Facts.{Facts, size_of_comm}
use Rattle.must_rules.specs.Significant as significant
use Rattle.must_rules.specs.Significant.{first_told, comm_in, root_in, side, in_place, comm_of, seat_of, is_significant}
use Rattle.must_rules.specs.Breaches.{Breach, sends, part_of}
use Rattle.must_rules.specs.ArgumentHandles.{is_of_buffer, wrong_handles}
use Rattle.must_rules.specs.Clear.{wrong_value}
use Rattle.must_rules.specs.UsableParts.{is_usable_side}
use Rattle.must_args.specs.declared.setting.Setting.{Setting}
use Rattle.must_args.specs.declared.setting.Seat.{Seat}
use Rattle.must_args.specs.declared.setting.Seat.TheVariants as seat

-- the seat as the definitions have it
abbrev pub told_seat : Seat → significant.Seat
told_seat seat.Equal = significant.Equal
told_seat seat.First = significant.First
told_seat seat.AtRoot = significant.AtRoot
told_seat seat.BesideRoot = significant.BesideRoot
told_seat seat.NoSeat = significant.NoSeat

abbrev pub has_sense : Setting → Field → Bool
has_sense s f = is_significant s.kind s.in_place (told_seat s.seat) f

-- what the rules say of a field, whose first handle argument has the number i
abbrev pub asks : Facts → Setting → ℕ → Typed → List Breach
asks facts s i t = wrong_value s.tag_ub s.size (part_of s.sends (side t.0)) t ++ wrong_handles facts s.kind (is_of_buffer t.0) i (typed_handles t)

-- the setting is that of a call
pub record IsSetting (facts : Facts) (b : Body) (s : Setting) : Type 0 where
  pub kind_is : s.kind ≡ kind_of b
  pub comm_is : s.comm ≡ first_told comm_in (inputs_of b)
  pub root_is : s.root ≡ first_told root_in (inputs_of b)
  pub in_place_is : s.in_place ≡ in_place b
  pub sends_is : s.sends ≡ sends (inputs_of b)
  pub size_is : s.size ≡ option_map size_of_comm (comm_of facts b)
  pub tag_ub_is : s.tag_ub ≡ facts.tag_ub
  pub seat_is : told_seat s.seat ≡ seat_of facts b

-- ---- usable

abbrev pub usable_field : (sound_type : ℕ → Bool) → Setting → (all : List Typed) → Field → Bool
usable_field sound_type s all (Buffer side) = has_sense s (Buffer side) && is_usable_side sound_type all side
usable_field sound_type s all _ = false

abbrev pub usable_from : (sound_type : ℕ → Bool) → Setting → (all : List Typed) → (part : ℕ) → List Typed → Bool
usable_from sound_type s all part [] = false
usable_from sound_type s all part (t ∷ ts) = (nat_eq (part_of s.sends (side t.0)) part && usable_field sound_type s all t.0) || usable_from sound_type s all part ts
