-- The communicators of a rank's items have distinct members.
use Rattle.std.proofs.Common.{◌≡◌, ℕ, ◌<◌, ◌==◌, Bool, true, false, cond, List, [], ◌∷◌, ◌++◌, map, Option, Some, None, refl, sym, ap, subst, ◌∙◌, inl, inr, nat_eq, arith}
use Rattle.std.specs.Prelude.{reverse, option_map}
use Rattle.std.specs.Cmp.{nat_eq_equiv}
use Rattle.std.specs.List.{AllByRecursion, IsDistinct}
use Rattle.std.proofs.lemmas.List.{reverse-append, append_assoc}
use Rattle.std.proofs.lemmas.Map.Keys.{IsDistinct-push}
use Rattle.must_base.specs.Listing.{Has}
use Rattle.must_call.specs.declared.class.Class.TheVariants.{Comm}
use Rattle.must_call.specs.declared.constants.TheConstants.{COMM_WORLD, COMM_SELF}
use Rattle.must_call.specs.declared.life.Life.{Life}
use Rattle.must_call.specs.declared.call.Call.{Call}
use Rattle.must_group.specs.Groups.{below}
use Rattle.must_group.specs.Names.{Name}
use Rattle.must_coll.specs.declared.item.WaveItem.{WaveItem}
use Rattle.must_coll.specs.OneRowLaws.{HaveDistinctMembers}
use Rattle.must_rules.specs.Rank.{Rank}
use Rattle.must_rules.specs.Making.{makes}
use Rattle.must_rules.specs.Lives.{life}
use Rattle.must_rules.specs.Known.{facts_of}
use Rattle.must_rules.specs.Communicators.{Derived, derived_of, derived_name, child_of, is_there, there, collectives_by, predefined_name, name_by, name_of, usable_name}
use Rattle.must_items.specs.CollectiveLists.{IsItemOf, OneWhere, stands_in_wave, AreItemsBehind, AreItemsOf}
use Rattle.must_local.specs.DistinctLaws.{has_append}
use Rattle.must_local.specs.Objects.{HasMembers}
use Rattle.must_local.proofs.Marking.{nil_distinct, below_distinct}

abbrev MayMake : Call → Type 0
MayMake call = HasMembers (derived_of call.body)

abbrev AreApart : Name → Type 0
AreApart name = IsDistinct nat_eq name.members

no_name : (n : Name) {P : Type 0} → None ≡ Some n → P
no_name n e = absurd cc

same_name : (n m : Name) → Some n ≡ Some m → n ≡ m
same_name n m e = cc

one_distinct : (rank : ℕ) → IsDistinct nat_eq (rank ∷ [])
one_distinct rank = IsDistinct-push nat_eq_equiv [] rank nil_distinct refl

-- ---- the names of a rank

named_world : (r : Rank) (world self : Bool) (n : Name)
    → cond {A = Option Name} world (Some (record { root = 0; path = []; members = below r.size })) (cond {A = Option Name} self (Some (record { root = 1; path = []; members = r.rank ∷ [] })) None) ≡ Some n → AreApart n
named_world r true self n e = subst AreApart (same_name (record { root = 0; path = []; members = below r.size }) n e) (below_distinct r.size)
named_world r false true n e = subst AreApart (same_name (record { root = 1; path = []; members = r.rank ∷ [] }) n e) (one_distinct r.rank)
named_world r false false n e = no_name n e

derived_child : (o : Option Name) (number : ℕ) (d : Derived) (n : Name) → HasMembers (Some d) → option_map (child_of number d) o ≡ Some n → AreApart n
derived_child None number d n may e = no_name n e
derived_child (Some parent) number d n may e = subst AreApart (same_name (child_of number d parent) n e) may.distinct

derived_apart : (names : ℕ → Option Name) (numbers : ℕ → ℕ) (o : Option Derived) (n : Name) → HasMembers o → derived_name names numbers o ≡ Some n → AreApart n
derived_apart names numbers None n may e = no_name n e
derived_apart names numbers (Some d) n may e = derived_child (names d.parent) (numbers d.parent) d n may e

either_apart : (b : Bool) (o p : Option Name) (n : Name) → (o ≡ Some n → AreApart n) → (p ≡ Some n → AreApart n) → cond b o p ≡ Some n → AreApart n
either_apart true o p n left right e = left e
either_apart false o p n left right e = right e

named_apart : (r : Rank) (calls : List Call) (comm : ℕ) (n : Name) → AllByRecursion MayMake calls → name_by r calls comm ≡ Some n → AreApart n
named_apart r [] comm n all e = named_world r (comm == COMM_WORLD) (comm == COMM_SELF) n e
named_apart r (last ∷ before) comm n all e =
    let names : ℕ → Option Name = λ parent. there (life (reverse before) Comm parent) (name_by r before parent) in
    either_apart (makes Comm comm last) (derived_name names (collectives_by before) (derived_of last.body)) (name_by r before comm) n
    (derived_apart names (collectives_by before) (derived_of last.body) n all.0) (named_apart r before comm n all.1) e

there_is : (l : Life) (o : Option Name) (n : Name) → there l o ≡ Some n → o ≡ Some n
there_is l o n e = at (is_there l) e
  where
    at : (b : Bool) → cond b o None ≡ Some n → o ≡ Some n
    at true f = f
    at false f = no_name n f

all_onto : {X : Type 0} (P : X → Type 0) (xs : List X) (x : X) → AllByRecursion P xs → P x → AllByRecursion P (xs ++ x ∷ [])
all_onto P [] x all p = (p, tt)
all_onto P (y ∷ ys) x all p = (all.0, all_onto P ys x all.1 p)

all_back : (calls : List Call) → AllByRecursion MayMake calls → AllByRecursion MayMake (reverse calls)
all_back [] all = tt
all_back (c ∷ cs) all = subst (AllByRecursion MayMake) (sym (reverse-append (c ∷ []) cs)) (all_onto MayMake (reverse cs) c (all_back cs all.1) all.0)

usable_apart : (r : Rank) (calls : List Call) (comm : ℕ) (n : Name) → AllByRecursion MayMake calls → usable_name r calls comm ≡ Some n → AreApart n
unfolding name_of
usable_apart r calls comm n all e = named_apart r (reverse calls) comm n (all_back calls all) (there_is (life calls Comm comm) (name_of r calls comm) n e)

-- ---- the items of a rank

pub distinct_both : (xs ys : List WaveItem) → HaveDistinctMembers xs → HaveDistinctMembers ys → HaveDistinctMembers (xs ++ ys)
distinct_both xs ys first second = λ x h. elim (has_append xs ys x h) [ inl there ↦ first x there | inr there ↦ second x there ]

distinct_here : (r : Rank) (earlier : List Call) (call : Call) (b : Bool) (items : List WaveItem) → AllByRecursion MayMake earlier → OneWhere b (IsItemOf r earlier call) items → HaveDistinctMembers items
distinct_here r earlier call false items all none = subst HaveDistinctMembers (sym none) (λ x h. absurd h)
distinct_here r earlier call true items all one =
    let here : HaveDistinctMembers (one.item ∷ []) = λ x h. elim h [
      | inl e ↦ subst (λ (y : WaveItem). AreApart y.name) (sym e) (usable_apart r earlier one.item.comm one.item.name all one.is.name_is)
      | inr none ↦ absurd none
    ] in
    subst HaveDistinctMembers (sym one.items_are) here

distinct_behind : (r : Rank) (earlier calls : List Call) (items : List WaveItem) → AllByRecursion MayMake earlier → AllByRecursion MayMake calls → AreItemsBehind r earlier calls items → HaveDistinctMembers items
distinct_behind r earlier [] items before all none = subst HaveDistinctMembers (sym none) (λ x h. absurd h)
distinct_behind r earlier (call ∷ calls) items before all parted =
    subst HaveDistinctMembers (sym parted.items_are)
    (distinct_both parted.front parted.back (distinct_here r earlier call (stands_in_wave (facts_of r earlier) call.body) parted.front before parted.first)
    (distinct_behind r (earlier ++ call ∷ []) calls parted.back (all_onto MayMake earlier call before all.0) all.1 parted.rest))

pub distinct_members : (r : Rank) (calls : List Call) (items : List WaveItem) → AllByRecursion MayMake calls → AreItemsOf r calls items → HaveDistinctMembers items
distinct_members r calls items all are = distinct_behind r [] calls items tt all are
