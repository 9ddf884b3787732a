-- Collective calls that wait for their wave.
use Rattle.std.proofs.Common.{◌≡◌, ℕ, ◌+◌, ◌<◌, Bool, true, false, ◌&&◌, List, map, take, length, get_or, Option, Some, None, refl, sym, ap, ◌∙◌}
use mathlib.Core.Path.{fun_ext}
use Rattle.std.specs.Prelude.{not, ◌||◌, is_some, option_map}
use Rattle.std.specs.List.{list_all}
use Rattle.std.proofs.lemmas.List.Folds.{list_all_more, list_all_at, list_all-map}
use Rattle.must_call.specs.declared.argument.Argument.{Argument}
use Rattle.must_call.specs.Arguments.{seen}
use Rattle.must_call.specs.declared.field.Field.{Field}
use Rattle.must_call.specs.declared.body.Body.{Body}
use Rattle.must_call.specs.declared.call.Call.{Call}
use Rattle.must_call.specs.Values.{Typed}
use Rattle.must_call.specs.Bodies.{inputs_of}
use Rattle.must_type.specs.Tree.{TypeTree}
use Rattle.must_rules.specs.Rank.{Rank}
use Rattle.must_rules.specs.Facts.{Facts, size_of_comm}
use Rattle.must_rules.specs.Significant.{comm_of, significant_in}
use Rattle.must_rules.specs.Communicators.{is_collective}
use Rattle.must_rules.specs.Known.{facts_of, clear_behind}
use Rattle.must_rules.specs.Types.{type_of}
use Rattle.must_args.specs.declared.setting.Setting.{Setting}
use Rattle.must_args.specs.Settings.{has_sense, IsSetting}
use Rattle.must_args.specs.SettingLaws.{significant_is}
use Rattle.must_messages.specs.CallNeeds.{is_sound_datatype, has_sound_types, waits_for_wave}

same_some : {X Y : Type 0} (f : X → Y) (o : Option X) → is_some (option_map f o) ≡ is_some o
same_some f None = refl
same_some f (Some x) = refl

sense_is : (facts : Facts) (b : Body) (s : Setting) → IsSetting facts b s → has_sense s ≡ significant_in facts b
sense_is facts b s is = fun_ext (λ (f : Field). significant_is facts b s f is)

-- what is known of a call's setting says what is known of the call
pub ready_is : (facts : Facts) (trees : ℕ → Option TypeTree) (b : Body) (s : Setting) (ts : List Typed) (sized sound : Bool) → IsSetting facts b s → ts ≡ inputs_of b → sized ≡ is_some s.size → sound ≡ has_sound_types (has_sense s) trees ts
    → (sized && sound) ≡ (is_some (comm_of facts b) && has_sound_types (significant_in facts b) trees (inputs_of b))
ready_is facts trees b s ts sized sound is args sized_is sound_is =
    let sense = sense_is facts b s is in
    let there : sized ≡ is_some (comm_of facts b) = sized_is ∙ ap (λ (o : Option ℕ). is_some o) is.size_is ∙ same_some size_of_comm (comm_of facts b) in
    let all : sound ≡ has_sound_types (significant_in facts b) trees (inputs_of b) = sound_is ∙ (λ i. has_sound_types (sense i) trees (args i)) in
    λ i. there i && all i

pub waits_is : (r : Rank) (calls : List Call) (call : Call) (facts : Facts) (collective clear ready : Bool) → facts ≡ facts_of r calls → collective ≡ is_collective call.body → clear ≡ clear_behind r calls call
    → ready ≡ (is_some (comm_of facts call.body) && has_sound_types (significant_in facts call.body) (type_of (clear_behind r) calls) (inputs_of call.body))
    → (collective && (clear && ready)) ≡ waits_for_wave r calls call
unfolding waits_for_wave
waits_is r calls call facts collective clear ready f a c e =
    let known : ready ≡ (is_some (comm_of (facts_of r calls) call.body) && has_sound_types (significant_in (facts_of r calls) call.body) (type_of (clear_behind r) calls) (inputs_of call.body)) =
    e ∙ (λ i. is_some (comm_of (f i) call.body) && has_sound_types (significant_in (f i) call.body) (type_of (clear_behind r) calls) (inputs_of call.body)) in
    λ i. a i && (c i && known i)

-- ---- one field more

module _ (is_significant : Field → Bool) (trees : ℕ → Option TypeTree) where
  is_sound : Argument → Bool
  is_sound x = not (is_significant (seen x).0) || is_sound_datatype trees (seen x).0 (seen x).1

  by_arguments : (xs : List Argument) → has_sound_types is_significant trees (map seen xs) ≡ list_all is_sound xs
  unfolding is_sound
  by_arguments xs = list_all-map (λ t. not (is_significant t.0) || is_sound_datatype trees t.0 t.1) seen xs

  pub sound_more : (xs : List Argument) (i : ℕ) (x : Argument) → i < length xs → x ≡ get_or xs i x → has_sound_types is_significant trees (map seen (take i xs)) ≡ true
      → (not (is_significant (seen x).0) || is_sound_datatype trees (seen x).0 (seen x).1) ≡ true → has_sound_types is_significant trees (map seen (take (i + 1) xs)) ≡ true
  unfolding is_sound
  sound_more xs i x within is before one =
      by_arguments (take (i + 1) xs) ∙ list_all_more is_sound xs i x within
      ∙ ap (λ (b : Bool). b && is_sound (get_or xs i x)) (sym (by_arguments (take i xs)) ∙ before)
      ∙ ap is_sound (sym is) ∙ one

  pub sound_not : (xs : List Argument) (i : ℕ) (x : Argument) → i < length xs → x ≡ get_or xs i x → (not (is_significant (seen x).0) || is_sound_datatype trees (seen x).0 (seen x).1) ≡ false
      → has_sound_types is_significant trees (map seen xs) ≡ false
  unfolding is_sound
  sound_not xs i x within is one = by_arguments xs ∙ list_all_at is_sound xs i x within (ap is_sound (sym is) ∙ one)
