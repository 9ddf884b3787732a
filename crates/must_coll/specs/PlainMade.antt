-- Kinds, roots, operations and what a wave makes (C1 to C3, C5, C7 and C8) don't depend on signatures.
use Rattle.std.proofs.Common.{◌≡◌, ℕ, ◌&&◌, List, [], ◌∷◌, length, map, Option, Some, None, refl, ap, ◌∙◌}
use Rattle.std.specs.Prelude.{slice_get, position, nat_eq, if◌then◌else◌}
use Rattle.must_call.specs.declared.place.Place.{Place}
use Rattle.must_find.specs.declared.finding.Finding.{Finding}
use Rattle.must_group.specs.declared.splits.SplitRow.{SplitRow}
use Rattle.must_coll.specs.declared.item.WaveItem.{WaveItem}
use Rattle.must_coll.specs.declared.making.Making.{Making}
use Rattle.must_coll.specs.declared.making.Making.TheVariants.{Nothing, Duplicate, Split, Create}
use Rattle.must_coll.specs.Agreement.{first_counting, root_of, root_by, root_row, operation_row}
use Rattle.must_coll.specs.Made.{making_of, row_before, split_rows, unlike_from, defined, member_found, recorded_row, members_row, all_count, made_row}
use Rattle.must_coll.specs.Created.{call_at, call_of_member, first_by, other_place, first_other, counted_group, other_found, group_by, is_create, created_row}
use Rattle.must_coll.specs.Rows.{kind_row, gap_row}
use Rattle.must_coll.specs.Plain.{plain}
use Rattle.must_coll.specs.PlainWaves.{plain_call, counting_plain, call_plain}
use Rattle.must_coll.specs.PlainAmounts.{many_plain}

-- ---- C1 and C5

kind_by : (o : Option WaveItem) (x : WaveItem) → kind_row (plain_call o) (plain x) ≡ kind_row o x
kind_by (Some first) x = refl
kind_by None x = refl

pub kind_plain : (calls : List WaveItem) (x : WaveItem) → kind_row (slice_get (map plain calls) 0) (plain x) ≡ kind_row (slice_get calls 0) x
kind_plain calls x = ap (λ (o : Option WaveItem). kind_row o (plain x)) (call_plain calls 0) ∙ kind_by (slice_get calls 0) x

gap_by : (m : Option ℕ) (o : Option WaveItem) → gap_row m (plain_call o) ≡ gap_row m o
gap_by (Some m) (Some first) = refl
gap_by (Some m) None = refl
gap_by None (Some first) = refl
gap_by None None = refl

pub gap_row_plain : (m : Option ℕ) (calls : List WaveItem) → gap_row m (slice_get (map plain calls) 0) ≡ gap_row m (slice_get calls 0)
gap_row_plain m calls = ap (λ (o : Option WaveItem). gap_row m o) (call_plain calls 0) ∙ gap_by m (slice_get calls 0)

-- ---- C2 and C3

roots_plain : (see : Place) (o : Option ℕ) (x : WaveItem) (p : Option ℕ) → root_by see o (plain x) p ≡ root_by see o x p
roots_plain see (Some r) x (Some s) = refl
roots_plain see (Some r) x None = refl
roots_plain see None x p = refl

root_row_by : (n : ℕ) (o : Option WaveItem) (x : WaveItem) → root_row n (plain_call o) (plain x) ≡ root_row n o x
root_row_by n (Some first) x =
    ap (λ (o : Option Finding). if x.counts then o else None) (roots_plain first.place (root_of n first) x (root_of n x))
root_row_by n None x = refl

pub root_plain : (calls : List WaveItem) (x : WaveItem) → root_row (length (map plain calls)) (first_counting (map plain calls)) (plain x) ≡ root_row (length calls) (first_counting calls) x
root_plain calls x =
    ap (λ n. root_row n (first_counting (map plain calls)) (plain x)) (many_plain calls)
    ∙ ap (λ (o : Option WaveItem). root_row (length calls) o (plain x)) (counting_plain calls)
    ∙ root_row_by (length calls) (first_counting calls) x

operation_by : (o : Option WaveItem) (x : WaveItem) → operation_row (plain_call o) (plain x) ≡ operation_row o x
operation_by (Some first) x = refl
operation_by None x = refl

pub operation_plain : (calls : List WaveItem) (x : WaveItem) → operation_row (first_counting (map plain calls)) (plain x) ≡ operation_row (first_counting calls) x
operation_plain calls x =
    ap (λ (o : Option WaveItem). operation_row o (plain x)) (counting_plain calls) ∙ operation_by (first_counting calls) x

-- ---- C7

splits_plain : (ms : List ℕ) (calls : List WaveItem) → split_rows ms (map plain calls) ≡ split_rows ms calls
splits_plain [] calls = refl
splits_plain (m ∷ ms) [] = refl
splits_plain (m ∷ ms) (x ∷ xs) = ap (λ (o : Option (List SplitRow)). row_before m x.split o) (splits_plain ms xs)

all_plain : (calls : List WaveItem) → all_count (map plain calls) ≡ all_count calls
all_plain [] = refl
all_plain (x ∷ xs) = ap (λ b. x.counts && b) (all_plain xs)

member_plain : (x : WaveItem) (o : Option ℕ) → member_found (plain x) o ≡ member_found x o
member_plain x (Some v) = refl
member_plain x None = refl

recorded_plain : (x : WaveItem) (o p : Option (List ℕ)) → recorded_row (plain x) o p ≡ recorded_row x o p
recorded_plain x (Some recorded) (Some members) = member_plain x (unlike_from 0 members recorded)
recorded_plain x (Some recorded) None = refl
recorded_plain x None p = refl

defined_plain : (m : Making) (members : List ℕ) (rows : Option (List SplitRow)) (i : ℕ) (x : WaveItem) → defined m members rows i (plain x) ≡ defined m members rows i x
defined_plain Nothing members rows i x = refl
defined_plain Duplicate members rows i x = refl
defined_plain Split members (Some rows) i x = refl
defined_plain Split members None i x = refl
defined_plain Create members rows i x = refl

members_plain : (m : Making) (members : List ℕ) (rows : Option (List SplitRow)) (i : ℕ) (x : WaveItem) → members_row m members rows i (plain x) ≡ members_row m members rows i x
members_plain m members rows i x =
    recorded_plain x x.members (defined m members rows i (plain x)) ∙ ap (λ (o : Option (List ℕ)). recorded_row x x.members o) (defined_plain m members rows i x)

made_by : (o : Option WaveItem) (calls : List WaveItem) (i : ℕ) (x : WaveItem) → made_row (plain_call o) (map plain calls) i (plain x) ≡ made_row o calls i x
made_by (Some first) calls i x =
    let m = making_of first.kind in
    let members = first.name.members in
    ap (λ b. if b then members_row m members (split_rows members (map plain calls)) i (plain x) else None) (all_plain calls)
    ∙ ap (λ (o : Option (List SplitRow)). if all_count calls then members_row m members o i (plain x) else None) (splits_plain members calls)
    ∙ ap (λ (o : Option Finding). if all_count calls then o else None) (members_plain m members (split_rows members calls) i x)
made_by None calls i x = refl

pub made_plain : (calls : List WaveItem) (i : ℕ) (x : WaveItem) → made_row (slice_get (map plain calls) 0) (map plain calls) i (plain x) ≡ made_row (slice_get calls 0) calls i x
made_plain calls i x = ap (λ (o : Option WaveItem). made_row o (map plain calls) i (plain x)) (call_plain calls 0) ∙ made_by (slice_get calls 0) calls i x

-- ---- C8

stands_plain : (calls : List WaveItem) (o : Option ℕ) → call_at (map plain calls) o ≡ plain_call (call_at calls o)
stands_plain calls (Some p) = call_plain calls p
stands_plain calls None = refl

place_plain : (g : List ℕ) (o : Option WaveItem) → other_place g (plain_call o) ≡ other_place g o
place_plain g (Some y) = refl
place_plain g None = refl

place_of_plain : (members : List ℕ) (calls : List WaveItem) (g : List ℕ) (m : ℕ) → other_place g (call_of_member members (map plain calls) m) ≡ other_place g (call_of_member members calls m)
place_of_plain members calls g m =
    ap (λ (o : Option WaveItem). other_place g o) (stands_plain calls (position (λ k. nat_eq k m) members))
    ∙ place_plain g (call_of_member members calls m)

others_plain : (members : List ℕ) (calls : List WaveItem) (g ms : List ℕ) → first_other members (map plain calls) g ms ≡ first_other members calls g ms
others_plain members calls g [] = refl
others_plain members calls g (m ∷ ms) =
    ap (λ (o : Option Place). first_by m o (first_other members (map plain calls) g ms)) (place_of_plain members calls g m)
    ∙ ap (λ (o : Option (Place × ℕ)). first_by m (other_place g (call_of_member members calls m)) o) (others_plain members calls g ms)

found_plain : (x : WaveItem) (o : Option (Place × ℕ)) → other_found (plain x) o ≡ other_found x o
found_plain x (Some (see, m)) = refl
found_plain x None = refl

group_by_plain : (members : List ℕ) (calls : List WaveItem) (x : WaveItem) (o : Option (List ℕ)) → group_by members (map plain calls) (plain x) o ≡ group_by members calls x o
group_by_plain members calls x (Some g) =
    found_plain x (first_other members (map plain calls) g g) ∙ ap (λ (o : Option (Place × ℕ)). other_found x o) (others_plain members calls g g)
group_by_plain members calls x None = refl

created_by : (o : Option WaveItem) (calls : List WaveItem) (x : WaveItem) → created_row (plain_call o) (map plain calls) (plain x) ≡ created_row o calls x
created_by (Some first) calls x =
    ap (λ (o : Option Finding). if is_create (making_of first.kind) then o else None) (group_by_plain first.name.members calls x (counted_group x))
created_by None calls x = refl

pub created_plain : (calls : List WaveItem) (x : WaveItem) → created_row (slice_get (map plain calls) 0) (map plain calls) (plain x) ≡ created_row (slice_get calls 0) calls x
created_plain calls x = ap (λ (o : Option WaveItem). created_row o (map plain calls) (plain x)) (call_plain calls 0) ∙ created_by (slice_get calls 0) calls x
