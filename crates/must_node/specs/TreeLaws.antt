-- Nodes of ranges without a common rank are apart, and the nodes of all levels of a tree settle what one root node settles.
use Rattle.std.proofs.Common.{◌≡◌, ℕ, Bool, true, false, not, List, [], ◌∷◌, ◌++◌, refl, sym, ap, subst, ◌∙◌, inl, inr, append_assoc}
use Rattle.std.specs.Prelude.{slice_get, Some, ◌⊎◌, ◌↔◌, zero, suc}
use Rattle.std.specs.List.{AllByRecursion}
use Rattle.std.proofs.lemmas.List.Elements.{filter-append}
use Rattle.std.proofs.lemmas.Bool.{and_parts, and_from, cases_Bool}
use Rattle.must_base.specs.Listing.{Has}
use Rattle.must_base.specs.ListingLaws.{all_has}
use Rattle.must_find.specs.declared.finding.Finding.{Finding}
use Rattle.must_find.specs.Rearranged.{Rearranges, back, through, ahead, from_equal}
use Rattle.must_group.specs.Names.{Name}
use Rattle.must_p2p.specs.declared.side.Side.{Side}
use Rattle.must_p2p.specs.declared.side.Side.TheVariants.{Send, Receive, Probe}
use Rattle.must_p2p.specs.declared.item.MsgItem.{MsgItem}
use Rattle.must_p2p.specs.Items.{class_of, end_of}
use Rattle.must_p2p.specs.SetLaws.{all_filter}
use Rattle.must_coll.specs.declared.item.WaveItem.{WaveItem}
use Rattle.must_coll.specs.Waves as waves
use Rattle.must_entry.specs.declared.entry.Entry.{Entry}
use Rattle.must_entry.specs.declared.entry.Entry.TheVariants.{Row, Message, Wave, Need}
use Rattle.must_entry.specs.declared.range.RankRange.{RankRange}
use Rattle.must_entry.specs.declared.batch.Batch.{Batch}
use Rattle.must_entry.specs.Entries.{calls, entries_of}
use Rattle.must_entry.specs.Lawful.{in_range, IsOf, IsBatchOf, IsLawful}
use Rattle.must_node.specs.declared.fact.Fact.{Fact}
use Rattle.must_node.specs.Inner.{all_in, within, is_inner, inner, outer}
use Rattle.must_node.specs.EntryRows.{IsRow}
use Rattle.must_node.specs.Facts.{facts_of}
use Rattle.must_node.specs.Levels.{Part, all_given, all_left, IsRowOfOne, all_facts, NoneWithin, AreApart, IsInside, AreLevels, IsRowOfLevels, facts_of_levels}
use Rattle.must_node.specs.ListLaws.{all_join, filter_in, filter_swap}
use Rattle.must_node.specs.OrderLaws.{calls_outer}
use Rattle.must_node.specs.LevelLaws.{row_alike, facts_alike, inner_keeps, level_rows, level_facts, left_there, none_later, all_none}

-- no rank is in both
abbrev pub AreDisjoint : RankRange → RankRange → Type 0
AreDisjoint a b = (n : ℕ) → in_range a n ≡ true → in_range b n ≡ false

clash : (b : Bool) → b ≡ true → b ≡ false → ⊥
clash b p q = let n : true ≡ false = sym p ∙ q in cc

-- an end of a message that is inner is in the range
end_within : (r : RankRange) (x : MsgItem) (t : Side) → within r (Message x) ≡ true → in_range r (end_of x t) ≡ true
end_within r x Send e = (and_parts (in_range r x.source) (in_range r x.dest) e).0
end_within r x Receive e = (and_parts (in_range r x.source) (in_range r x.dest) e).1
end_within r x Probe e = (and_parts (in_range r x.source) (in_range r x.dest) e).1

member_within : (r : RankRange) (members : List ℕ) (rank : ℕ) → all_in r members ≡ true → Has members rank → in_range r rank ≡ true
member_within r [] rank e h = absurd h
member_within r (m ∷ ms) rank e (inl is) = ap (in_range r) is ∙ (and_parts (in_range r m) (all_in r ms) e).0
member_within r (m ∷ ms) rank e (inr h) = member_within r ms rank (and_parts (in_range r m) (all_in r ms) e).1 h

not_inner : (a b : RankRange) (rank : ℕ) (e : Entry) → AreDisjoint a b → in_range a rank ≡ true → IsOf rank e → within b e ≡ false
not_inner a b rank (Row f) apart here is = ap (in_range b) is ∙ apart rank here
not_inner a b rank (Message x) apart here is =
    elim (cases_Bool (within b (Message x))) [
      | inl h ↦ absurd (clash (in_range b rank) (ap (in_range b) (sym is.1) ∙ end_within b x x.side h) (apart rank here))
      | inr h ↦ h
    ]
not_inner a b rank (Wave x) apart here is =
    elim (cases_Bool (within b (Wave x))) [
      | inl h ↦ absurd (clash (in_range b rank) (member_within b x.name.members rank h is.1) (apart rank here))
      | inr h ↦ h
    ]
not_inner a b rank (Need p ways) apart here is = refl

none_of_rank : (a b : RankRange) (rank : ℕ) (es : List Entry) → AreDisjoint a b → in_range a rank ≡ true → AllByRecursion (IsOf rank) es → NoneWithin b es
none_of_rank a b rank [] apart here are = tt
none_of_rank a b rank (e ∷ es) apart here are = (not_inner a b rank e apart here are.0, none_of_rank a b rank es apart here are.1)

-- nothing that a range may give is inner to a range without a common rank
pub none_of_range : (a b : RankRange) (batches : List Batch) → AreDisjoint a b → AllByRecursion (IsBatchOf a) batches → NoneWithin b (entries_of batches)
none_of_range a b [] apart are = tt
none_of_range a b (w ∷ ws) apart are = all_join (λ e. within b e ≡ false) w.entries (entries_of ws) (none_of_rank a b w.rank w.entries apart are.0.0 are.0.1) (none_of_range a b ws apart are.1)

-- a child: its range, and the batches that it was given
pub record Child : Type 0 where
  pub range : RankRange
  pub batches : List Batch

abbrev pub part_of : Child → Part
part_of child = record { range = child.range; given = entries_of child.batches }

abbrev pub parts_of : List Child → List Part
parts_of [] = []
parts_of (child ∷ children) = part_of child ∷ parts_of children

-- each was given lawful batches, and no two share a rank
abbrev pub AreChildren : List Child → Type 0
AreChildren [] = Unit {0}
AreChildren (child ∷ children) = IsLawful child.range child.batches × AllByRecursion (λ other. AreDisjoint child.range other.range × AreDisjoint other.range child.range) children × AreChildren children

apart_from : (child : Child) (others : List Child) → IsLawful child.range child.batches → AllByRecursion (λ other. AreDisjoint child.range other.range × AreDisjoint other.range child.range) others → AreChildren others
    → AllByRecursion (λ (other : Part). NoneWithin other.range (entries_of child.batches) × NoneWithin child.range other.given) (parts_of others)
apart_from child [] lawful apart are = tt
apart_from child (other ∷ others) lawful apart are = (
  (none_of_range child.range other.range child.batches apart.0.0 lawful.each, none_of_range other.range child.range other.batches apart.0.1 are.0.each),
  apart_from child others lawful apart.1 are.2,
)

pub children_apart : (children : List Child) → AreChildren children → AreApart (parts_of children)
children_apart [] are = tt
children_apart (child ∷ children) are = (apart_from child children are.0 are.1 are.2, children_apart children are.2)

-- ---- several levels

-- what is handed up by all has its calls in order, where all that they were given has
pub left_calls : (before : List Entry) (parts : List Part) → AllByRecursion (λ part. NoneWithin part.range before) parts → AreApart parts → waves.Orderly (calls (before ++ all_given parts)) → waves.Orderly (calls (before ++ all_left parts))
left_calls before [] none apart o = o
left_calls before (part ∷ parts) none apart o =
    let next = before ++ outer false part.range part.given in
    let kept : waves.Orderly (calls (next ++ all_given parts)) =
    subst (λ (l : List Entry). waves.Orderly (calls l)) (left_there before part parts none.0 apart.0) (calls_outer false part.range (before ++ (part.given ++ all_given parts)) o) in
    subst (λ (l : List Entry). waves.Orderly (calls l)) (append_assoc before (outer false part.range part.given) (all_left parts)) (left_calls next parts (none_later before part parts none.1 apart.0) apart.1 kept)

-- the rows of all entries are those that the nodes of all levels close with, and those of what is handed up last
pub levels_rows : (given : List Entry) (levels : List (List Part)) (left : List Entry) (f : Finding) → waves.Orderly (calls given) → AreLevels given levels left → IsRow given f ↔ (IsRowOfLevels levels f ⊎ IsRow left f)
levels_rows given [] left f o are = (λ h. inr (row_alike given left f are.1 are.0 h), λ h. elim h [ inl n ↦ absurd n | inr r ↦ row_alike left given f o (back are.0) r ])
levels_rows given (parts ∷ levels) left f o are =
    let there = are.1.0 in
    let level = level_rows parts f are.1.1.0 in
    let rest = levels_rows (all_left parts) levels left f (left_calls [] parts (all_none parts) are.1.1.0 there) are.1.1.1 in (
      λ h. elim (level.0 (row_alike given (all_given parts) f there are.0 h)) [ inl one ↦ inl (inl one) | inr more ↦ elim (rest.0 more) [ inl later ↦ inl (inr later) | inr end ↦ inr end ] ],
      λ h. row_alike (all_given parts) given f o (back are.0) (level.1 (elim h [ inl below ↦ elim below [ inl one ↦ inl one | inr later ↦ inr (rest.1 (inl later)) ] | inr end ↦ inr (rest.1 (inr end)) ])),
    )

-- and so are their facts
pub levels_facts : (given : List Entry) (levels : List (List Part)) (left : List Entry) → AreLevels given levels left → Rearranges (facts_of given) (facts_of_levels levels ++ facts_of left)
levels_facts given [] left are = facts_alike given left are.0
levels_facts given (parts ∷ levels) left are =
    through (facts_alike given (all_given parts) are.0)
    (through (level_facts parts are.1.1.0) (through (ahead (all_facts parts) (levels_facts (all_left parts) levels left are.1.1.1))
    (from_equal (all_facts parts ++ (facts_of_levels levels ++ facts_of left)) ((all_facts parts ++ facts_of_levels levels) ++ facts_of left) (sym (append_assoc (all_facts parts) (facts_of_levels levels) (facts_of left))))))

-- ---- one node a class and a communicator

has_at : {X : Type 0} (xs : List X) (n : ℕ) (y : X) → slice_get xs n ≡ Some y → Has xs y
has_at [] n y e = cc
has_at (x ∷ xs) zero y e = let same : x ≡ y = let s : Some x ≡ Some y = e in cc in inl (sym same)
has_at (x ∷ xs) (suc n) y e = inr (has_at xs n y e)

none_there : (range : RankRange) (given : List Entry) (e : Entry) → NoneWithin range given → Has given e → within range e ≡ false
none_there range given e none h = all_has (λ w. within range w ≡ false) given e none h

some_part : (p q : Part) → Some p ≡ Some q → p ≡ q
some_part p q e = cc

-- what is given to another node isn't inner here
apart_at : (parts : List Part) (i j : ℕ) (p q : Part) (e : Entry) → AreApart parts → slice_get parts i ≡ Some p → slice_get parts j ≡ Some q → Has q.given e → within p.range e ≡ true → i ≡ j
apart_at [] i j p q e apart at_i at_j h inside = cc
apart_at (part ∷ parts) zero zero p q e apart at_i at_j h inside = refl
apart_at (part ∷ parts) zero (suc j) p q e apart at_i at_j h inside =
    let other = all_has (λ (other : Part). NoneWithin other.range part.given × NoneWithin part.range other.given) parts q apart.0 (has_at parts j q at_j) in
    absurd (clash (within p.range e) inside (subst (λ (w : Part). within w.range e ≡ false) (some_part part p at_i) (none_there part.range q.given e other.1 h)))
apart_at (part ∷ parts) (suc i) zero p q e apart at_i at_j h inside =
    let other = all_has (λ (other : Part). NoneWithin other.range part.given × NoneWithin part.range other.given) parts p apart.0 (has_at parts i p at_i) in
    absurd (clash (within p.range e) inside (none_there p.range part.given e other.0 (subst (λ (w : Part). Has w.given e) (sym (some_part part q at_j)) h)))
apart_at (part ∷ parts) (suc i) (suc j) p q e apart at_i at_j h inside = ap suc (apart_at parts i j p q e apart.1 at_i at_j h inside)

-- all items of a class that the nodes of a level are given come to one node, if it settles one of them
pub one_node_of_class : (parts : List Part) (i j : ℕ) (p q : Part) (x y : MsgItem) → AreApart parts → slice_get parts i ≡ Some p → slice_get parts j ≡ Some q → Has p.given (Message x) → Has q.given (Message y) → class_of x ≡ class_of y
    → within p.range (Message x) ≡ true → (i ≡ j) × (within p.range (Message y) ≡ true)
one_node_of_class parts i j p q x y apart at_i at_j hx hy same inside =
    let also : within p.range (Message y) ≡ true = sym (inner_keeps false p.range x y same) ∙ inside in
    (apart_at parts i j p q (Message y) apart at_i at_j hy also, also)

-- and so all calls of a communicator
pub one_node_of_name : (parts : List Part) (i j : ℕ) (p q : Part) (x y : WaveItem) → AreApart parts → slice_get parts i ≡ Some p → slice_get parts j ≡ Some q → Has p.given (Wave x) → Has q.given (Wave y) → x.name ≡ y.name
    → within p.range (Wave x) ≡ true → (i ≡ j) × (within p.range (Wave y) ≡ true)
one_node_of_name parts i j p q x y apart at_i at_j hx hy same inside =
    let also : within p.range (Wave y) ≡ true = ap (λ (n : Name). all_in p.range n.members) (sym same) ∙ inside in
    (apart_at parts i j p q (Wave y) apart at_i at_j hy also, also)

-- ---- a node above others

all_inside : (part range : RankRange) (ranks : List ℕ) → IsInside part range → all_in part ranks ≡ true → all_in range ranks ≡ true
all_inside part range [] inside h = refl
all_inside part range (rank ∷ ranks) inside h =
    let p = and_parts (in_range part rank) (all_in part ranks) h in
    and_from (in_range range rank) (all_in range ranks) (inside rank p.0) (all_inside part range ranks inside p.1)

abbrev narrowed : RankRange → List Part → List Part
narrowed range [] = []
narrowed range (part ∷ parts) = record { range = part.range; given = inner false range part.given } ∷ narrowed range parts

within_inside : (part range : RankRange) (e : Entry) → IsInside part range → within part e ≡ true → within range e ≡ true
within_inside part range (Row f) inside h = inside f.rank h
within_inside part range (Message x) inside h =
    let p = and_parts (in_range part x.source) (in_range part x.dest) h in
    and_from (in_range range x.source) (in_range range x.dest) (inside x.source p.0) (inside x.dest p.1)
within_inside part range (Wave x) inside h = all_inside part range x.name.members inside h
within_inside part range (Need q ways) inside h = h

narrowed_given : (range : RankRange) (parts : List Part) → all_given (narrowed range parts) ≡ inner false range (all_given parts)
narrowed_given range [] = refl
narrowed_given range (part ∷ parts) = ap (λ (l : List Entry). inner false range part.given ++ l) (narrowed_given range parts) ∙ sym (filter-append (is_inner false range) part.given (all_given parts))

narrowed_left : (range : RankRange) (parts : List Part) → all_left (narrowed range parts) ≡ inner false range (all_left parts)
narrowed_left range [] = refl
narrowed_left range (part ∷ parts) =
    ap (λ (l : List Entry). outer false part.range (inner false range part.given) ++ l) (narrowed_left range parts)
    ∙ ap (λ (l : List Entry). l ++ inner false range (all_left parts)) (filter_swap (is_inner false range) (λ e. not (is_inner false part.range e)) part.given)
    ∙ sym (filter-append (is_inner false range) (outer false part.range part.given) (all_left parts))

inner_again : (part range : RankRange) (given : List Entry) → IsInside part range → inner false part (inner false range given) ≡ inner false part given
inner_again part range given inside = filter_in (is_inner false range) (is_inner false part) given (λ e h. within_inside part range e inside h)

narrowed_rows : (range : RankRange) (parts : List Part) (f : Finding) → AllByRecursion (λ (part : Part). IsInside part.range range) parts → IsRowOfOne (narrowed range parts) f ↔ IsRowOfOne parts f
narrowed_rows range [] f all = (λ h. h, λ h. h)
narrowed_rows range (part ∷ parts) f all =
    let e = inner_again part.range range part.given all.0 in
    let rest = narrowed_rows range parts f all.1 in (
      λ h. elim h [ inl r ↦ inl (subst (λ (l : List Entry). IsRow l f) e r) | inr r ↦ inr (rest.0 r) ],
      λ h. elim h [ inl r ↦ inl (subst (λ (l : List Entry). IsRow l f) (sym e) r) | inr r ↦ inr (rest.1 r) ],
    )

narrowed_facts : (range : RankRange) (parts : List Part) → AllByRecursion (λ (part : Part). IsInside part.range range) parts → all_facts (narrowed range parts) ≡ all_facts parts
narrowed_facts range [] all = refl
narrowed_facts range (part ∷ parts) all =
    ap (λ (l : List Entry). facts_of l ++ all_facts (narrowed range parts)) (inner_again part.range range part.given all.0)
    ∙ ap (λ (l : List Fact). facts_of (inner false part.range part.given) ++ l) (narrowed_facts range parts all.1)

narrowed_apart_from : (range : RankRange) (part : Part) (parts : List Part) → AllByRecursion (λ (other : Part). NoneWithin other.range part.given × NoneWithin part.range other.given) parts
    → AllByRecursion (λ (other : Part). NoneWithin other.range (inner false range part.given) × NoneWithin part.range other.given) (narrowed range parts)
narrowed_apart_from range part [] apart = tt
narrowed_apart_from range part (other ∷ others) apart = (
  (all_filter (λ e. within other.range e ≡ false) (is_inner false range) part.given apart.0.0, all_filter (λ e. within part.range e ≡ false) (is_inner false range) other.given apart.0.1),
  narrowed_apart_from range part others apart.1,
)

narrowed_apart : (range : RankRange) (parts : List Part) → AreApart parts → AreApart (narrowed range parts)
narrowed_apart range [] apart = tt
narrowed_apart range (part ∷ parts) apart = (narrowed_apart_from range part parts apart.0, narrowed_apart range parts apart.1)

-- what is inner to a node's range is settled by the nodes below and by the node itself
pub node_rows : (range : RankRange) (parts : List Part) (f : Finding) → AreApart parts → AllByRecursion (λ (part : Part). IsInside part.range range) parts
    → IsRow (inner false range (all_given parts)) f ↔ (IsRowOfOne parts f ⊎ IsRow (inner false range (all_left parts)) f)
node_rows range parts f apart inside =
    let level = level_rows (narrowed range parts) f (narrowed_apart range parts apart) in
    let rows = narrowed_rows range parts f inside in
    let given = narrowed_given range parts in
    let left = narrowed_left range parts in (
      λ h. elim (level.0 (subst (λ (l : List Entry). IsRow l f) (sym given) h)) [ inl one ↦ inl (rows.0 one) | inr r ↦ inr (subst (λ (l : List Entry). IsRow l f) left r) ],
      λ h. subst (λ (l : List Entry). IsRow l f) given (level.1 (elim h [ inl one ↦ inl (rows.1 one) | inr r ↦ inr (subst (λ (l : List Entry). IsRow l f) (sym left) r) ])),
    )

pub node_facts : (range : RankRange) (parts : List Part) → AreApart parts → AllByRecursion (λ (part : Part). IsInside part.range range) parts
    → Rearranges (facts_of (inner false range (all_given parts))) (all_facts parts ++ facts_of (inner false range (all_left parts)))
node_facts range parts apart inside =
    through (from_equal (facts_of (inner false range (all_given parts))) (facts_of (all_given (narrowed range parts))) (ap facts_of (sym (narrowed_given range parts))))
    (through (level_facts (narrowed range parts) (narrowed_apart range parts apart))
    (from_equal (all_facts (narrowed range parts) ++ facts_of (all_left (narrowed range parts))) (all_facts parts ++ facts_of (inner false range (all_left parts)))
    (ap (λ (l : List Fact). l ++ facts_of (all_left (narrowed range parts))) (narrowed_facts range parts inside) ∙ ap (λ (l : List Entry). all_facts parts ++ facts_of l) (narrowed_left range parts))))
