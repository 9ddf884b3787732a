-- What the tables give of a collective call is what its calls give.
use Rattle.std.proofs.Common.{◌≡◌, ℕ, Bool, true, false, cond, nat_eq, List, [], ◌∷◌, length, Option, Some, None, refl, sym, ap, subst, ◌∙◌}
use Rattle.std.specs.Prelude.{is_some, position}
use Rattle.std.specs.Option.{option_map}
use Rattle.must_call.specs.declared.class.Class.TheVariants.{Comm}
use Rattle.must_call.specs.declared.place.Place.{Place}
use Rattle.must_call.specs.declared.call.Call.{Call}
use Rattle.must_group.specs.Names.{Name}
use Rattle.must_coll.specs.declared.item.WaveItem.{WaveItem}
use Rattle.must_rules.specs.Rank.{Rank}
use Rattle.must_rules.specs.Facts.{Facts}
use Rattle.must_rules.specs.Lives.{life}
use Rattle.must_rules.specs.Communicators.{is_there, comm_named, collectives, name_of, usable_name, placed, members_named}
use Rattle.must_rules.specs.Known.{clear_behind}
use Rattle.must_rules.specs.Types.{type_of}
use Rattle.must_items.specs.CollectiveItems.{Tells}
use Rattle.must_items.specs.CollectiveLists.{commute_of, IsItemOf, stands_in_wave, OneWhere, IsGivenBy}
use Rattle.must_local.specs.declared.handles.Handles.{Handles}
use Rattle.must_local.specs.Counted.{Counted, counted, name_counted}
use Rattle.must_local.specs.HandlesKnown.{facts_in, usable_comm, HandlesStand}
use Rattle.must_local.proofs.Facing.{facts_are, named_is, usable_is}

pub comm_absent : (h : Handles) (number : ℕ) (comm : Counted) → usable_comm h number ≡ Some comm → position (λ member. nat_eq member h.rank) comm.name.members ≡ None → is_some ((facts_in h).comm number) ≡ false
comm_absent h number comm e none =
    ap (λ (o : Option Counted). is_some (members_named h.rank (option_map name_counted o))) e ∙ ap (λ (o : Option ℕ). is_some (option_map (placed comm.name) o)) none

pub comm_present : (h : Handles) (number : ℕ) (comm : Counted) (p : ℕ) → usable_comm h number ≡ Some comm → position (λ member. nat_eq member h.rank) comm.name.members ≡ Some p → is_some ((facts_in h).comm number) ≡ true
comm_present h number comm p e some =
    ap (λ (o : Option Counted). is_some (members_named h.rank (option_map name_counted o))) e ∙ ap (λ (o : Option ℕ). is_some (option_map (placed comm.name) o)) some

pub not_given : (r : Rank) (h : Handles) (calls : List Call) (call : Call) → HandlesStand r h calls → false ≡ stands_in_wave (facts_in h) call.body → IsGivenBy r calls call []
not_given r h calls call s e =
    subst (λ b. OneWhere b (IsItemOf r calls call) []) (e ∙ ap (λ (f : Facts). stands_in_wave f call.body) (facts_are r h calls s)) refl

no_comm : (c : Counted) {P : Type 0} → None ≡ Some c → P
no_comm c e = absurd cc

calls_same : (c d : Counted) → Some c ≡ Some d → c.calls ≡ d.calls
calls_same c d e = let s : c ≡ d = cc in ap (λ (x : Counted). x.calls) s

calls_told : (b : Bool) (c : ℕ) (o : Option Name) (d : Counted) → cond b (option_map (counted c) o) None ≡ Some d → d.calls ≡ c
calls_told true c None d e = no_comm d e
calls_told true c (Some n) d e = sym (calls_same (counted c n) d e)
calls_told false c o d e = no_comm d e

pub given : (r : Rank) (h : Handles) (calls : List Call) (call : Call) (item : WaveItem) (at : Place) (comm count : ℕ) (name : Name) → HandlesStand r h calls → at.rank ≡ h.rank → at.call ≡ length calls → true ≡ stands_in_wave (facts_in h) call.body
    → comm_named call.body ≡ Some comm → usable_comm h comm ≡ Some (counted count name) → item.place ≡ at → item.comm ≡ comm → item.name ≡ name → item.number ≡ count
    → Tells (facts_in h) (type_of (clear_behind r) calls) (commute_of calls) call.body item → IsGivenBy r calls call (item ∷ [])
given r h calls call item at comm count name s rank here stands named usable place_is comm_is name_is number_is tells =
    let facts = facts_are r h calls s in
    let place : at ≡ record { rank = r.rank; call = length calls } = λ i. record { rank = (rank ∙ s.rank_is) i; call = here i } in
    let usable_is_named : usable_name r calls comm ≡ Some name = sym (named_is r h calls comm s) ∙ ap (option_map name_counted) usable in
    let counts : count ≡ collectives calls comm = calls_told (is_there (life calls Comm comm)) (collectives calls comm) (name_of r calls comm) (counted count name) (sym (usable_is r h calls comm s) ∙ usable) in
    subst (λ b. OneWhere b (IsItemOf r calls call) (item ∷ [])) (stands ∙ ap (λ (f : Facts). stands_in_wave f call.body) facts) (record {
      item = item;
      items_are = refl;
      is = record {
        place_is = place_is ∙ place;
        comm_is = named ∙ ap Some (sym comm_is);
        name_is = ap (usable_name r calls) comm_is ∙ usable_is_named ∙ ap Some (sym name_is);
        number_is = number_is ∙ counts ∙ ap (collectives calls) (sym comm_is);
        tells = subst (λ (f : Facts). Tells f (type_of (clear_behind r) calls) (commute_of calls) call.body item) facts tells;
      };
    })
