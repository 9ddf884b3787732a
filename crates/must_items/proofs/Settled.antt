-- What is asked by the setting of a call is what the definitions ask.
use Rattle.std.proofs.Common.{◌≡◌, ℕ, ℤ, Bool, true, false, cond, ◌&&◌, List, [], map, Option, Some, None, refl, sym, ap, ◌∙◌}
use mathlib.Core.Path.{fun_ext}
use Rattle.std.specs.Option.{IsSome}
use Rattle.must_call.specs.declared.field.Side.{Side}
use Rattle.must_call.specs.declared.field.Field.{Field}
use Rattle.must_call.specs.declared.body.Body.{Body}
use Rattle.must_call.specs.Values.{Typed}
use Rattle.must_call.specs.Bodies.{inputs_of}
use Rattle.must_type.specs.declared.construct.TypeNo.{TypeNo}
use Rattle.must_type.specs.Tree.{TypeTree}
use Rattle.must_type.specs.Table.{Types, tree_at}
use Rattle.must_sig.specs.Signatures.{Periods, expansion, signature}
use Rattle.must_rules.specs.Facts.{Facts}
use Rattle.must_rules.specs.Significant.{first_told, significant_in}
use Rattle.must_rules.specs.Clear.{is_clear}
use Rattle.must_derived.specs.declared.datatypes.Datatypes.{Datatypes}
use Rattle.must_derived.specs.Numbers.{number_of}
use Rattle.must_args.specs.declared.setting.Setting.{Setting}
use Rattle.must_args.specs.Settings.{has_sense, IsSetting}
use Rattle.must_args.specs.SettingLaws.{significant_is}
use Rattle.must_items.specs.Moved.{counts_in, type_in, elements, where_significant, signatures_of, signatures_by, signatures_moved}
use Rattle.must_items.specs.CollectiveItems.{oper_by, all_sound, has_duties}
use Rattle.must_items.specs.Typed.{HasTypes}
use Rattle.must_items.proofs.Repeating.{by_map}

sense_is : (facts : Facts) (b : Body) (s : Setting) → IsSetting facts b s → has_sense s ≡ significant_in facts b
sense_is facts b s is = fun_ext (λ (f : Field). significant_is facts b s f is)

pub duties_are : (facts : Facts) (trees : ℕ → Option TypeTree) (b : Body) (s : Setting) (ts : List Typed) (clear counts : Bool) → IsSetting facts b s → ts ≡ inputs_of b → clear ≡ is_clear facts b
    → counts ≡ (clear && all_sound facts trees (has_sense s) ts) → counts ≡ has_duties facts trees b
duties_are facts trees b s ts clear counts is args c e = e ∙ (λ i. c i && all_sound facts trees (sense_is facts b s is i) (args i))

pub moved_is : (facts : Facts) (trees : ℕ → Option TypeTree) (b : Body) (s : Setting) (ts : List Typed) (side : Side) (counts : Bool) → IsSetting facts b s → ts ≡ inputs_of b → counts ≡ has_duties facts trees b
    → cond counts (signatures_by trees s.size (first_told (where_significant (has_sense s) (counts_in side)) ts) (first_told (where_significant (has_sense s) (type_in side)) ts)) []
    ≡ cond (has_duties facts trees b) (signatures_moved facts trees side b) []
moved_is facts trees b s ts side counts is args c =
    let sense = sense_is facts b s is in
    λ i. cond (c i) (signatures_by trees (is.size_is i) (first_told (where_significant (sense i) (counts_in side)) (args i)) (first_told (where_significant (sense i) (type_in side)) (args i))) []

pub oper_is : (commute : Option Bool) (commutes : ℕ → Option Bool) (o : Option ℕ) → ((op : ℕ) → o ≡ Some op → commute ≡ commutes op) → oper_by (λ _. commute) o ≡ oper_by commutes o
oper_is commute commutes None same = refl
oper_is commute commutes (Some op) same = ap (λ (c : Option Bool). Some (record { number = op; commute = c })) (same op refl)

-- the signatures of a type that the table holds are those of the handle's
pub held_is : (held : Datatypes) (table : Types) (trees : ℕ → Option TypeTree) (h : ℕ) (n : TypeNo) (sigs : List Periods) (counts : List ℤ) → table ≡ held.table → HasTypes held trees → number_of held.numbers h ≡ Some n
    → IsSome (tree_at table.slots n.number) → ((t : TypeTree) → tree_at table.slots n.number ≡ Some t → map expansion sigs ≡ map (λ z. signature t (elements z)) counts) → map expansion sigs ≡ signatures_of (trees h) counts
held_is held table trees h n sigs counts same has number live is = at (tree_at table.slots n.number) refl live
  where
    at : (o : Option TypeTree) → tree_at table.slots n.number ≡ o → IsSome o → map expansion sigs ≡ signatures_of (trees h) counts
    at None e l = let bad : false ≡ true = l in absurd cc
    at (Some t) e l = is t e ∙ by_map t (trees h) counts (has.maps h n t number (ap (λ (x : Types). tree_at x.slots n.number) (sym same) ∙ e))
