-- Where the rows of a wave stand: each at a call of the wave, and each way of giving rows gives those of one rule.
use Rattle.std.proofs.Common.{◌≡◌, ℕ, ℤ, pos, Bool, true, false, cond, ◌+◌, ◌==◌, List, [], ◌∷◌, length, Option, Some, None, refl, subst}
use Rattle.std.specs.Prelude.{slice_get, ◌&&◌}
use Rattle.must_call.specs.declared.place.Place.{Place}
use Rattle.must_call.specs.Kinds.{number_of}
use Rattle.must_find.specs.declared.rule.Rule.{Rule}
use Rattle.must_find.specs.declared.rule.Rule.TheVariants.{C1, C2, C3, C4, C5, C7, C8}
use Rattle.must_find.specs.declared.finding.Finding.{Finding}
use Rattle.must_group.specs.declared.splits.SplitRow.{SplitRow}
use Rattle.must_coll.specs.declared.item.WaveItem.{WaveItem}
use Rattle.must_coll.specs.declared.item.Oper.{Oper}
use Rattle.must_coll.specs.declared.exchange.Exchange.{Exchange}
use Rattle.must_coll.specs.declared.making.Making.{Making}
use Rattle.must_coll.specs.Given.{or_else}
use Rattle.must_coll.specs.Agreement.{has_root, first_counting, root_of, root_by, root_row, agree, operation_by, operation_row}
use Rattle.must_coll.specs.Amounts.{exchange_of, part_of, difference_between, amount_found, pair_row, against, first_against, common_root, is_reduction, is_free, rooted_row, rootless_row, amount_row}
use Rattle.must_coll.specs.Made.{making_of, split_rows, unlike_from, defined, member_found, recorded_row, members_row, all_count, made_row}
use Rattle.must_coll.specs.Created.{first_other, other_found, counted_group, group_by, is_create, group_row, created_row}
use Rattle.must_coll.specs.Rows.{is_kind, kind_row, gap_row}
use Rattle.must_coll.specs.ListLaws.{some_is, none_is}

-- a finding of this rule that stands at this call
pub record StandsAt (x : WaveItem) (r : Rule) (f : Finding) : Type 0 where
  pub rank_is : f.rank ≡ x.place.rank
  pub call_is : f.call ≡ x.place.call
  pub rule_is : f.rule ≡ r

-- what is given, if anything, stands so
abbrev pub Gives : WaveItem → Rule → Option Finding → Type 0
Gives x r o = (f : Finding) → o ≡ Some f → StandsAt x r f

abbrev row_at : WaveItem → Rule → ℕ → Option Place → ℤ → Finding
row_at x r part see value = record { rank = x.place.rank; call = x.place.call; rule = r; part = part; see = see; value = value }

pub none_gives : (x : WaveItem) (r : Rule) → Gives x r None
none_gives x r f e = absurd (none_is f e)

here_gives : (x : WaveItem) (r : Rule) (part : ℕ) (see : Option Place) (value : ℤ) → Gives x r (Some (row_at x r part see value))
here_gives x r part see value f e =
    let here : StandsAt x r (row_at x r part see value) = record { rank_is = refl; call_is = refl; rule_is = refl } in
    subst (StandsAt x r) (some_is (row_at x r part see value) f e) here

either_gives : (x : WaveItem) (r : Rule) (b : Bool) (o p : Option Finding) → Gives x r o → Gives x r p → Gives x r (cond b o p)
either_gives x r true o p left right = left
either_gives x r false o p left right = right

when_gives : (x : WaveItem) (r : Rule) (b : Bool) (o : Option Finding) → Gives x r o → Gives x r (cond b o None)
when_gives x r b o given = either_gives x r b o None given (none_gives x r)

unless_gives : (x : WaveItem) (r : Rule) (b : Bool) (o : Option Finding) → Gives x r o → Gives x r (cond b None o)
unless_gives x r b o given = either_gives x r b None o (none_gives x r) given

or_gives : (x : WaveItem) (r : Rule) (o p : Option Finding) → Gives x r o → Gives x r p → Gives x r (or_else o p)
or_gives x r (Some g) p left right = left
or_gives x r None p left right = right

-- ---- C1 and C5

pub kind_gives : (o : Option WaveItem) (x : WaveItem) → Gives x C1 (kind_row o x)
kind_gives (Some first) x =
    unless_gives x C1 (is_kind first x) (Some (row_at x C1 0 (Some first.place) (pos (number_of x.kind)))) (here_gives x C1 0 (Some first.place) (pos (number_of x.kind)))
kind_gives None x = none_gives x C1

pub gap_gives : (m : Option ℕ) (first : WaveItem) → Gives first C5 (gap_row m (Some first))
gap_gives (Some m) first = here_gives first C5 0 None (pos m)
gap_gives None first = none_gives first C5

-- ---- C2 and C3

root_by_gives : (see : Place) (o : Option ℕ) (x : WaveItem) (p : Option ℕ) → Gives x C2 (root_by see o x p)
root_by_gives see (Some r) x (Some s) = unless_gives x C2 (r == s) (Some (row_at x C2 0 (Some see) x.root)) (here_gives x C2 0 (Some see) x.root)
root_by_gives see (Some r) x None = none_gives x C2
root_by_gives see None x p = none_gives x C2

pub root_gives : (n : ℕ) (o : Option WaveItem) (x : WaveItem) → Gives x C2 (root_row n o x)
root_gives n (Some first) x =
    when_gives x C2 x.counts (root_by first.place (root_of n first) x (root_of n x)) (root_by_gives first.place (root_of n first) x (root_of n x))
root_gives n None x = none_gives x C2

operation_by_gives : (see : Place) (o : Option Oper) (x : WaveItem) (p : Option Oper) → Gives x C3 (operation_by see o x.place p)
operation_by_gives see (Some p) x (Some q) = unless_gives x C3 (agree p q) (Some (row_at x C3 0 (Some see) (pos q.number))) (here_gives x C3 0 (Some see) (pos q.number))
operation_by_gives see (Some p) x None = none_gives x C3
operation_by_gives see None x p = none_gives x C3

pub operation_gives : (o : Option WaveItem) (x : WaveItem) → Gives x C3 (operation_row o x)
operation_gives (Some first) x =
    when_gives x C3 x.counts (operation_by first.place first.operation x.place x.operation) (operation_by_gives first.place first.operation x x.operation)
operation_gives None x = none_gives x C3

-- ---- C4

found_gives : (e : Exchange) (x y : WaveItem) (o : Option ℕ) → Gives x C4 (amount_found e x y o)
found_gives e x y (Some v) = here_gives x C4 (part_of e) (Some y.place) (pos v)
found_gives e x y None = none_gives x C4

pair_gives : (e : Exchange) (n i j : ℕ) (x y : WaveItem) → Gives x C4 (pair_row e n i j x y)
pair_gives e n i j x y =
    when_gives x C4 (x.counts && y.counts) (amount_found e x y (difference_between e n i j x y)) (found_gives e x y (difference_between e n i j x y))

against_gives : (e : Exchange) (n j : ℕ) (o : Option WaveItem) (i : ℕ) (x : WaveItem) → Gives x C4 (against e n j o i x)
against_gives e n j (Some y) i x = pair_gives e n i j x y
against_gives e n j None i x = none_gives x C4

each_gives : (e : Exchange) (n i : ℕ) (x : WaveItem) (j : ℕ) (ys : List WaveItem) → Gives x C4 (first_against e n i x j ys)
each_gives e n i x j [] = none_gives x C4
each_gives e n i x j (y ∷ ys) =
    or_gives x C4 (pair_row e n i j x y) (first_against e n i x (j + 1) ys) (pair_gives e n i j x y) (each_gives e n i x (j + 1) ys)

rooted_gives : (e : Exchange) (calls : List WaveItem) (o : Option ℕ) (i : ℕ) (x : WaveItem) → Gives x C4 (rooted_row e calls o i x)
rooted_gives e calls (Some r) i x =
    let first = first_counting calls in
    let root = slice_get calls r in
    either_gives x C4 (is_reduction e) (against e (length calls) 0 first i x) (against e (length calls) r root i x)
    (against_gives e (length calls) 0 first i x) (against_gives e (length calls) r root i x)
rooted_gives e calls None i x = none_gives x C4

rootless_gives : (e : Exchange) (calls : List WaveItem) (i : ℕ) (x : WaveItem) → Gives x C4 (rootless_row e calls i x)
rootless_gives e calls i x =
    let first = against e (length calls) 0 (first_counting calls) i x in
    let each = first_against e (length calls) i x 0 calls in
    unless_gives x C4 (is_free e) (cond (is_reduction e) first each)
    (either_gives x C4 (is_reduction e) first each (against_gives e (length calls) 0 (first_counting calls) i x) (each_gives e (length calls) i x 0 calls))

pub amount_gives : (o : Option WaveItem) (calls : List WaveItem) (i : ℕ) (x : WaveItem) → Gives x C4 (amount_row o calls i x)
amount_gives (Some first) calls i x =
    let e = exchange_of first.kind in
    either_gives x C4 (has_root first.kind) (rooted_row e calls (common_root calls) i x) (rootless_row e calls i x)
    (rooted_gives e calls (common_root calls) i x) (rootless_gives e calls i x)
amount_gives None calls i x = none_gives x C4

-- ---- C7

member_gives : (x : WaveItem) (o : Option ℕ) → Gives x C7 (member_found x o)
member_gives x (Some v) = here_gives x C7 0 None (pos v)
member_gives x None = none_gives x C7

recorded_gives : (x : WaveItem) (o p : Option (List ℕ)) → Gives x C7 (recorded_row x o p)
recorded_gives x (Some recorded) (Some members) = member_gives x (unlike_from 0 members recorded)
recorded_gives x (Some recorded) None = none_gives x C7
recorded_gives x None p = none_gives x C7

members_gives : (m : Making) (members : List ℕ) (rows : Option (List SplitRow)) (i : ℕ) (x : WaveItem) → Gives x C7 (members_row m members rows i x)
members_gives m members rows i x = recorded_gives x x.members (defined m members rows i x)

pub made_gives : (o : Option WaveItem) (calls : List WaveItem) (i : ℕ) (x : WaveItem) → Gives x C7 (made_row o calls i x)
made_gives (Some first) calls i x =
    let rows = split_rows first.name.members calls in
    when_gives x C7 (all_count calls) (members_row (making_of first.kind) first.name.members rows i x) (members_gives (making_of first.kind) first.name.members rows i x)
made_gives None calls i x = none_gives x C7

-- ---- C8

other_gives : (x : WaveItem) (o : Option (Place × ℕ)) → Gives x C8 (other_found x o)
other_gives x (Some (see, m)) = here_gives x C8 0 (Some see) (pos m)
other_gives x None = none_gives x C8

group_gives : (members : List ℕ) (calls : List WaveItem) (x : WaveItem) (o : Option (List ℕ)) → Gives x C8 (group_by members calls x o)
group_gives members calls x (Some g) = other_gives x (first_other members calls g g)
group_gives members calls x None = none_gives x C8

pub created_gives : (o : Option WaveItem) (calls : List WaveItem) (x : WaveItem) → Gives x C8 (created_row o calls x)
created_gives (Some first) calls x =
    when_gives x C8 (is_create (making_of first.kind)) (group_row first.name.members calls x) (group_gives first.name.members calls x (counted_group x))
created_gives None calls x = none_gives x C8
