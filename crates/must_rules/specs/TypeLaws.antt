-- What is within the reach of a type, as a test and as a property.
use Rattle.std.proofs.Common.{◌≡◌, ℕ, Bool, true, false, T, ◌&&◌, ℤ, List, [], ◌∷◌, refl}
use Rattle.std.specs.Prelude.{◌≤ℤ◌, ◌^◌, int_le}
use Rattle.std.specs.List.{AllByRecursion, list_all}
use Rattle.std.specs.Int.Signed.{le_z_yes}
use Rattle.std.proofs.lemmas.Bool.{leb-true, le-leb}
use Rattle.must_type.specs.Maps.{Entry, displacement, end_of, size, lower, upper}
use Rattle.must_type.specs.Tree.{TypeTree, type_map, depth, IsNear, IsNearEntry, IsWithinReach}
use Rattle.must_rules.specs.Limits.{is_near, is_near_entry, is_within_reach}

both : (a b : Bool) → (a && b) ≡ true → (a ≡ true) × (b ≡ true)
both true b e = (refl, e)
both false b e = let bad : false ≡ true = e in absurd cc

and_true : (a b : Bool) → a ≡ true → b ≡ true → (a && b) ≡ true
and_true true b e f = f
and_true false b e f = let bad : false ≡ true = e in absurd cc

holds : (b : Bool) → b ≡ true → T b
holds true e = tt
holds false e = let bad : false ≡ true = e in absurd cc

told : (b : Bool) → T b → b ≡ true
told true t = refl
told false t = absurd t

low_or_same : (a b : ℤ) → int_le a b ≡ true → a ≤ℤ b
low_or_same a b e = le_z_yes (holds (int_le a b) e)

le_told : (a b : ℤ) → a ≤ℤ b → int_le a b ≡ true
le_told a b l = told (int_le a b) l.le

near_is : (at : ℤ) → is_near at ≡ true → IsNear at
near_is at e = let p = both _ _ e in record { low = low_or_same _ _ p.0; high = low_or_same _ _ p.1 }

near_told : (at : ℤ) → IsNear at → is_near at ≡ true
near_told at n = and_true _ _ (le_told _ _ n.low) (le_told _ _ n.high)

entries_are : (es : List Entry) → list_all is_near_entry es ≡ true → AllByRecursion IsNearEntry es
entries_are [] e = tt
entries_are (x ∷ es) e =
    let p = both (is_near_entry x) (list_all is_near_entry es) e in
    let q = both (is_near (displacement x)) (is_near (end_of x)) p.0 in
    (record { begins = near_is (displacement x) q.0; ends = near_is (end_of x) q.1 }, entries_are es p.1)

entries_told : (es : List Entry) → AllByRecursion IsNearEntry es → list_all is_near_entry es ≡ true
entries_told [] h = refl
entries_told (x ∷ es) h = and_true (is_near_entry x) (list_all is_near_entry es) (and_true (is_near (displacement x)) (is_near (end_of x)) (near_told (displacement x) h.0.begins) (near_told (end_of x) h.0.ends)) (entries_told es h.1)

pub reach_is : (t : TypeTree) → is_within_reach t ≡ true → IsWithinReach t
unfolding is_within_reach
reach_is t e =
    let p = both _ _ e in
    let q = both _ _ p.1 in
    let r = both _ _ q.1 in
    let s = both _ _ r.1 in
    record {
      shallow = leb-true (depth t) 256 p.0;
      small = leb-true (size (type_map t)) (2 ^ 62) q.0;
      lower_near = near_is (lower (type_map t)) r.0;
      upper_near = near_is (upper (type_map t)) s.0;
      entries_near = entries_are (type_map t) s.1;
    }

pub reach_told : (t : TypeTree) → IsWithinReach t → is_within_reach t ≡ true
unfolding is_within_reach
reach_told t w =
    and_true _ _ (le-leb (depth t) 256 w.shallow)
    (and_true _ _ (le-leb (size (type_map t)) (2 ^ 62) w.small)
    (and_true _ _ (near_told (lower (type_map t)) w.lower_near)
    (and_true _ _ (near_told (upper (type_map t)) w.upper_near) (entries_told (type_map t) w.entries_near))))
