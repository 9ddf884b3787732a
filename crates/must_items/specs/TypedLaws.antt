-- What the table of a rank's types says, where it stands for some calls.
use Rattle.std.proofs.Common.{◌≡◌, List, Option, Some, None, refl, sym, ap, subst, ◌∙◌}
use Rattle.must_call.specs.declared.class.Class.TheVariants.{Datatype}
use Rattle.must_call.specs.declared.life.Life.{Life}
use Rattle.must_call.specs.declared.life.Life.TheVariants.{Never, Live, Freed, Predefined}
use Rattle.must_call.specs.declared.call.Call.{Call}
use Rattle.must_type.specs.declared.construct.TypeNo.{TypeNo}
use Rattle.must_type.specs.Tree.{TypeTree, type_map}
use Rattle.must_type.specs.Table.{tree_at}
use Rattle.must_rules.specs.Lives.{life}
use Rattle.must_rules.specs.Starts.{Clearness}
use Rattle.must_rules.specs.Types.{type_of}
use Rattle.must_derived.specs.declared.datatypes.Datatypes.{Datatypes}
use Rattle.must_derived.specs.Numbers.{number_of}
use Rattle.must_derived.specs.Standing.{Fits, Suits, Stands}
use Rattle.must_derived.specs.StandingLaws.{number_sound}
use Rattle.must_items.specs.Typed.{HasMap, HasTypes}

same_tree : (t u : TypeTree) → Some t ≡ Some u → t ≡ u
same_tree t u e = cc

no_tree : (t : TypeTree) → None ≡ Some t → ⊥
no_tree t e = cc

map_by : (at : Option TypeTree) (l : Life) (t : Option TypeTree) (held : TypeTree) → Suits at l t → at ≡ Some held → HasMap t held
map_by at l None held f e = absurd f
map_by at (Live made) (Some t) held f e = record {
  tree = t;
  is = refl;
  map_is = ap type_map (same_tree held f.held (sym e ∙ f.at_is)) ∙ f.like.map;
}
map_by at Predefined (Some t) held f e = record { tree = t; is = refl; map_is = ap type_map (same_tree held t (sym e ∙ f.0)) }
map_by at (Freed made freed) (Some t) held f e = absurd (no_tree held (sym f ∙ e))
map_by at Never (Some t) held f e = absurd f

pub stands_types : (is_clear : Clearness) (types : Datatypes) (calls : List Call) → Stands is_clear types calls → HasTypes types (type_of is_clear calls)
stands_types is_clear types calls s =
    let slots = types.table.slots in
    record {
      sound = λ h. number_sound (number_of types.numbers h) slots (life calls Datatype h) (type_of is_clear calls h) (s.fits h);
      maps = λ h n t is at.
          map_by (tree_at slots n.number) (life calls Datatype h) (type_of is_clear calls h) t
          (subst (λ (o : Option TypeNo). Fits slots o (life calls Datatype h) (type_of is_clear calls h)) is (s.fits h)) at;
    }
