-- What is known before the first call.
use Rattle.std.proofs.Common.{◌≡◌, ℕ, zero, suc, ◌+◌, ◌-◌, ◌<◌, ◌≤◌, ◌==◌, Bool, true, false, cond, ◌&&◌, List, [], ◌∷◌, Option, Some, None, refl, sym, ap, subst, ◌∙◌, inl, inr, arith}
use Rattle.std.specs.Prelude.{nat_le}
use Rattle.std.specs.Option.{option_map}
use Rattle.std.proofs.lemmas.Bool.{cases_lt, lt-leb}
use Rattle.must_call.specs.declared.class.Class.{Class}
use Rattle.must_call.specs.declared.class.Class.TheVariants.{Comm, Group, Datatype, Operation, Request}
use Rattle.must_call.specs.declared.life.Life.TheVariants.{Never, Predefined}
use Rattle.must_group.specs.Groups.{below}
use Rattle.must_rules.specs.Rank.{Rank}
use Rattle.must_rules.specs.Limits.{most_weight}
use Rattle.must_rules.specs.Lives.{is_predefined, life}
use Rattle.must_rules.specs.LifeLaws.{life_first, made_count_first}
use Rattle.must_rules.specs.Communicators.{there, collectives, predefined_name, name_of}
use Rattle.must_rules.specs.Known.{group_of, clear_behind}
use Rattle.must_handle.specs.Slots.{Stands}
use Rattle.must_derived.specs.Standing as derived
use Rattle.must_local.specs.declared.handles.Handles.{Handles}
use Rattle.must_local.specs.declared.known.Known.{Known}
use Rattle.must_items.specs.CollectiveLists.{commute_of}
use Rattle.must_local.specs.Counted.{counted}
use Rattle.must_local.specs.Objects.{place_of, slot_in, comm_slot, comm_in, group_slot, operation_slot, group_in, counted_of, Remembers}
use Rattle.must_local.specs.HandlesKnown.{HandlesStand}
use Rattle.must_local.specs.Bumps.{first_objects}

and_false : (b : Bool) → (b && false) ≡ false
and_false true = refl
and_false false = refl

past : (last h : ℕ) → last < h → (nat_le 1 h && nat_le h last) ≡ false
past last h w = ap (λ b. nat_le 1 h && b) (lt-leb h last w) ∙ and_false (nat_le 1 h)

-- a number that a call may make isn't one that MPI names
pub made_number : (class : Class) (h : ℕ) → 64 ≤ h → is_predefined class h ≡ false
unfolding is_predefined
made_number Comm h w = past 2 h (omega (arith, w))
made_number Group h w = past 1 h (omega (arith, w))
made_number Datatype h w = past 30 h (omega (arith, w))
made_number Operation h w = past 12 h (omega (arith, w))
made_number Request h w = past 0 h (omega (arith, w))

-- ---- the first table

low_place : (h : ℕ) → h < 64 → place_of h ≡ cond (h == 1) (Some 0) (cond (h == 2) (Some 1) None)
low_place h w = ap (λ b. cond b (Some (h - 62)) (cond (h == 1) (Some 0) (cond (h == 2) (Some 1) None))) (lt-leb 64 h w)

named_slots : (r : Rank) (b c : Bool) → comm_slot (slot_in (first_objects r.rank r.size) (cond b (Some 0) (cond c (Some 1) None)))
    ≡ option_map (counted 0) (cond b (Some (record { root = 0; path = []; members = below r.size })) (cond c (Some (record { root = 1; path = []; members = r.rank ∷ [] })) None))
named_slots r true c = refl
named_slots r false true = refl
named_slots r false false = refl

comm_first : (r : Rank) (h : ℕ) → h < 64 → comm_in (first_objects r.rank r.size) h ≡ option_map (counted 0) (predefined_name r h)
comm_first r h w = ap (λ o. comm_slot (slot_in (first_objects r.rank r.size) o)) (low_place h w) ∙ named_slots r (h == 1) (h == 2)

group_first : (rank size : ℕ) (o : Option ℕ) → group_slot (slot_in (first_objects rank size) o) ≡ None
group_first rank size None = refl
group_first rank size (Some zero) = refl
group_first rank size (Some (suc zero)) = refl
group_first rank size (Some (suc (suc n))) = refl

counted_first : (r : Rank) (h : ℕ) → counted_of r [] h ≡ option_map (counted 0) (predefined_name r h)
unfolding collectives name_of
counted_first r h = refl

operation_first : (rank size : ℕ) (o : Option ℕ) → operation_slot (slot_in (first_objects rank size) o) ≡ None
operation_first rank size None = refl
operation_first rank size (Some zero) = refl
operation_first rank size (Some (suc zero)) = refl
operation_first rank size (Some (suc (suc n))) = refl

there_first : {X : Type 0} (class : Class) (h : ℕ) (x y : Option X) → (h < 64 → x ≡ y) → there (life [] class h) x ≡ there (life [] class h) y
there_first class h x y same =
    elim (cases_lt h 64) [
      | inl low ↦ ap (there (life [] class h)) (same low)
      | inr high ↦ (let never : life [] class h ≡ Never = life_first class h ∙ ap (λ b. cond b Predefined Never) (made_number class h high) in
          ap (λ l. there l x) never ∙ sym (ap (λ l. there l y) never))
    ]

remembers_first : (r : Rank) → Remembers r (first_objects r.rank r.size) []
unfolding group_of commute_of
remembers_first r = record {
  size = sym (ap (λ n. 2 + n) made_count_first);
  comms = λ h. there_first Comm h (comm_in (first_objects r.rank r.size) h) (counted_of r [] h) (λ low. comm_first r h low ∙ sym (counted_first r h));
  groups = λ h. there_first Group h (group_in (first_objects r.rank r.size) h) (cond (h == 1) (Some []) None) (λ low. ap (cond (h == 1) (Some [])) (group_first r.rank r.size (place_of h)));
  operations = λ h. operation_first r.rank r.size (place_of h);
}

pub handles_first : (r : Rank) (h : Handles) → h.rank ≡ r.rank → h.tag_ub ≡ r.tag_ub → Stands (clear_behind r) h.lives [] → derived.Stands (clear_behind r) h.types [] → h.types.table.weight_limit ≡ most_weight r.size → h.objects ≡ first_objects r.rank r.size → HandlesStand r h []
handles_first r h rank tag lives types weight objects = record { rank_is = rank; tag_is = tag; lives = lives; types = types; weight_is = weight; objects = subst (λ (slots : List Known). Remembers r slots []) (sym objects) (remembers_first r) }
