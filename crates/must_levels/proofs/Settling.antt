-- What a node and all below it settle, from what its children handed up.
use Rattle.std.proofs.Common.{◌≡◌, ℕ, zero, suc, ◌+◌, ◌≤◌, Bool, true, false, not, List, [], ◌∷◌, ◌++◌, length, map, min, Option, refl, sym, ap, ◌∙◌, subst, inl, inr, arith}
use Rattle.std.specs.Prelude.{filter, ◌⊎◌, ◌↔◌}
use Rattle.std.specs.List.{AllByRecursion, flat_map}
use Rattle.std.specs.declared.alloc.Global.{Global}
use Rattle.std.proofs.lemmas.Bool.{true≢false, and_parts, and_from, cases_Bool}
use Rattle.std.proofs.lemmas.List.Elements.{filter-append}
use Rattle.crossbeam_queue.specs.SegTies.{SegId}
use Rattle.must_find.specs.declared.finding.Finding.{Finding}
use Rattle.must_find.specs.Rearranged.{Rearranges, as_long, back, through, from_equal, joined, filtered, flat_mapped}
use Rattle.must_coll.specs.Waves as waves
use Rattle.must_entry.specs.declared.entry.Entry.{Entry}
use Rattle.must_entry.specs.declared.entry.Entry.TheVariants.{Row, Message, Wave, Need}
use Rattle.must_entry.specs.declared.batch.Batch.{Batch}
use Rattle.must_entry.specs.declared.range.RankRange.{RankRange}
use Rattle.must_entry.specs.Entries.{Waits, needs, entries_of, calls}
use Rattle.must_entry.specs.Lawful.{in_range, Rise}
use Rattle.must_inbox.specs.States.{PortState}
use Rattle.must_node.specs.declared.closed.Closed.{Closed}
use Rattle.must_node.specs.declared.fact.Fact.{Fact}
use Rattle.must_node.specs.EntryRows.{IsRow}
use Rattle.must_node.specs.Facts.{facts_of}
use Rattle.must_node.specs.Inner.{all_in, within, is_inner, inner, outer}
use Rattle.must_node.specs.HandingLaws.{handed_entries, needs_cut}
use Rattle.must_node.specs.Partners.{need_of}
use Rattle.must_node.specs.Partners.{needs as fact_needs}
use Rattle.must_node.specs.LevelLaws.{row_alike, facts_alike, all_none, level_rows, level_facts}
use Rattle.must_node.specs.Levels.{Part, all_given, all_left, IsRowOfOne, all_facts, AreApart, IsInside}
use Rattle.must_node.specs.ListLaws.{flat_append, filter_in, all_pass}
use Rattle.must_node.specs.NeedLaws.{needs_told, none_below}
use Rattle.must_node.specs.Nodes.{all_up}
use Rattle.must_node.specs.OrderLaws.{calls_inner}
use Rattle.must_node.specs.TreeLaws.{Child, AreDisjoint, AreChildren, children_apart, left_calls, node_rows, node_facts}
use Rattle.must_levels.specs.Readers.{batches_in, AreRankLists}
use Rattle.must_levels.specs.Sending.{ArePorts, AreMoved}
use Rattle.must_levels.specs.Telling.{HasRow, facts_in, Adds, AllHandUp, Tells, left_at, nodes_at, part_with, parts_with, children_with}
use Rattle.must_levels.proofs.Rises.{rise_kept}
use Rattle.must_levels.proofs.PortLists.{in_from, in_to, is_in}
use Rattle.must_levels.proofs.RankLists.{batches_both, entries_both, ranks_both, lists_lawful}

abbrev pub Lists : Type 0
Lists = List (List Batch)

abbrev pub all_lists : List Lists → Lists
all_lists groups = flat_map (λ g. g) groups

-- ---- what a root does

root_inner : (range : RankRange) (es : List Entry) → inner true range es ≡ es
root_inner range es = all_pass es

root_outer : (range : RankRange) (es : List Entry) → outer true range es ≡ []
root_outer range [] = refl
root_outer range (e ∷ es) = root_outer range es

root_up : (range : RankRange) (bs : List Batch) → all_up true range bs ≡ []
root_up range [] = refl
root_up range (b ∷ bs) = root_up range bs

pub up_entries : (root : Bool) (range : RankRange) (bs : List Batch) → entries_of (all_up root range bs) ≡ outer root range (entries_of bs)
up_entries true range bs = ap entries_of (root_up range bs) ∙ sym (root_outer range (entries_of bs))
up_entries false range bs = handed_entries range bs

-- ---- a range inside another

all_inside : (part range : RankRange) (ranks : List ℕ) → IsInside part range → all_in part ranks ≡ true → all_in range ranks ≡ true
all_inside part range [] inside h = refl
all_inside part range (rank ∷ ranks) inside h =
    let p = and_parts (in_range part rank) (all_in part ranks) h in
    and_from (in_range range rank) (all_in range ranks) (inside rank p.0) (all_inside part range ranks inside p.1)

within_inside : (part range : RankRange) (e : Entry) → IsInside part range → within part e ≡ true → within range e ≡ true
within_inside part range (Row f) inside h = inside f.rank h
within_inside part range (Message x) inside h =
    let p = and_parts (in_range part x.source) (in_range part x.dest) h in
    and_from (in_range range x.source) (in_range range x.dest) (inside x.source p.0) (inside x.dest p.1)
within_inside part range (Wave x) inside h = all_inside part range x.name.members inside h
within_inside part range (Need q ways) inside h = h

not_inside : (a b : Bool) → (a ≡ true → b ≡ true) → not b ≡ true → not a ≡ true
not_inside false b f h = refl
not_inside true false f h = absurd (true≢false (sym (f refl)))
not_inside true true f h = h

outer_again : (part range : RankRange) (given : List Entry) → IsInside part range → outer false range (outer false part given) ≡ outer false range given
outer_again part range given inside = filter_in (λ e. not (is_inner false part e)) (λ e. not (is_inner false range e)) given (λ e h. not_inside (within part e) (within range e) (within_inside part range e inside) h)

outer_left : (range : RankRange) (parts : List Part) → AllByRecursion (λ (part : Part). IsInside part.range range) parts → outer false range (all_left parts) ≡ outer false range (all_given parts)
outer_left range [] a = refl
outer_left range (part ∷ parts) a =
    let n = λ (e : Entry). not (is_inner false range e) in
    filter-append n (outer false part.range part.given) (all_left parts)
    ∙ ap (λ (l : List Entry). l ++ outer false range (all_left parts)) (outer_again part.range range part.given a.0)
    ∙ ap (λ (l : List Entry). outer false range part.given ++ l) (outer_left range parts a.1)
    ∙ sym (filter-append n part.given (all_given parts))

outer_left_at : (root : Bool) (range : RankRange) (parts : List Part) → AllByRecursion (λ (part : Part). IsInside part.range range) parts → outer root range (all_left parts) ≡ outer root range (all_given parts)
outer_left_at true range parts a = root_outer range (all_left parts) ∙ sym (root_outer range (all_given parts))
outer_left_at false range parts a = outer_left range parts a

-- ---- children as parts

abbrev pub lefts : ℕ → List Part → List Entry
lefts zero parts = all_given parts
lefts (suc level) parts = all_left parts

lefts_more : (level : ℕ) (range : RankRange) (lists : Lists) (parts : List Part) → left_at level range (entries_of (batches_in lists)) ++ lefts level parts ≡ lefts level (part_with range lists ∷ parts)
lefts_more zero range lists parts = refl
lefts_more (suc level) range lists parts = refl

lefts_none : (level : ℕ) → lefts level [] ≡ []
lefts_none zero = refl
lefts_none (suc level) = refl

pub given_all : (level : ℕ) (qs : List PortState) (groups : List Lists) → AllHandUp level qs groups → all_given (parts_with qs groups) ≡ entries_of (batches_in (all_lists groups))
given_all level [] [] h = refl
given_all level [] (g ∷ gs) h = absurd h
given_all level (q ∷ qs) [] h = absurd h
given_all level (q ∷ qs) (g ∷ gs) h =
    ap (λ (l : List Entry). entries_of (batches_in g) ++ l) (given_all level qs gs h.1)
    ∙ sym (entries_both (batches_in g) (batches_in (all_lists gs))) ∙ ap entries_of (sym (batches_both g (all_lists gs)))

pub sent_all : (level : ℕ) (qs : List PortState) (groups : List Lists) → AllHandUp level qs groups → Rearranges (entries_of (flat_map (λ (q : PortState). q.sent) qs)) (lefts level (parts_with qs groups))
sent_all level [] [] h = from_equal [] (lefts level []) (sym (lefts_none level))
sent_all level [] (g ∷ gs) h = absurd h
sent_all level (q ∷ qs) [] h = absurd h
sent_all level (q ∷ qs) (g ∷ gs) h =
    let rest = flat_map (λ (p : PortState). p.sent) qs in
    through (from_equal (entries_of (q.sent ++ rest)) (entries_of q.sent ++ entries_of rest) (entries_both q.sent rest))
    (through (joined h.0.left (sent_all level qs gs h.1)) (from_equal (left_at level q.range (entries_of (batches_in g)) ++ lefts level (parts_with qs gs)) (lefts level (parts_with (q ∷ qs) (g ∷ gs))) (lefts_more level q.range g (parts_with qs gs))))

-- ---- ranges of children

q_range : (i : SegId Global) (width to at from : ℕ) (p q : PortState) (ps qs : List PortState) → ArePorts i width to at from (p ∷ ps) → AreMoved (p ∷ ps) (q ∷ qs) → q.range ≡ record { from = from; to = min (from + width) to }
q_range i width to at from p q ps qs are m = ap (λ (s : PortState). s.range) m.0.0 ∙ are.3

pub ranks_of_all : (level : ℕ) (i : SegId Global) (width to at from : ℕ) (ps qs : List PortState) (groups : List Lists) → ArePorts i width to at from ps → AreMoved ps qs → AllHandUp level qs groups → AreRankLists from (all_lists groups)
ranks_of_all level i width to at from [] [] [] are m h = tt
ranks_of_all level i width to at from [] [] (g ∷ gs) are m h = absurd h
ranks_of_all level i width to at from [] (q ∷ qs) groups are m h = absurd m
ranks_of_all level i width to at from (p ∷ ps) [] groups are m h = absurd m
ranks_of_all level i width to at from (p ∷ ps) (q ∷ qs) [] are m h = absurd h
ranks_of_all level i width to at from (p ∷ ps) (q ∷ qs) (g ∷ gs) are m h =
    let range = q_range i width to at from p q ps qs are m in
    let low : q.range.from ≡ from = ap (λ (r : RankRange). r.from) range in
    let high : q.range.to ≡ min (from + width) to = ap (λ (r : RankRange). r.to) range in
    let count = h.0.count in
    let next : min (from + width) to ≡ from + length g = sym high ∙ count ∙ ap (λ n. n + length g) low in
    ranks_both from (min (from + width) to) g (all_lists gs) next (subst (λ n. AreRankLists n g) low h.0.lawful) (ranks_of_all level i width to at (min (from + width) to) ps qs gs are.4 m.1 h.1)

none_in : (a b : RankRange) (n : ℕ) → a.to ≤ b.from → in_range a n ≡ true → in_range b n ≡ false
none_in a b n le h = elim (cases_Bool (in_range b n)) [
  | inl t ↦ let high = in_to a n h in let low = in_from b n t in absurd (omega (arith, le, high, low))
  | inr f ↦ f
]

none_back : (a b : RankRange) (n : ℕ) → a.to ≤ b.from → in_range b n ≡ true → in_range a n ≡ false
none_back a b n le h = elim (cases_Bool (in_range a n)) [
  | inl t ↦ let high = in_to a n t in let low = in_from b n h in absurd (omega (arith, le, high, low))
  | inr f ↦ f
]

later_apart : (level : ℕ) (a : RankRange) (batches : List Batch) (i : SegId Global) (width to at from : ℕ) (ps qs : List PortState) (groups : List Lists) → a.to ≤ from → ArePorts i width to at from ps → AreMoved ps qs → AllHandUp level qs groups
    → AllByRecursion (λ (other : Child). AreDisjoint a other.range × AreDisjoint other.range a) (children_with qs groups)
later_apart level a batches i width to at from [] [] [] le are m h = tt
later_apart level a batches i width to at from [] [] (g ∷ gs) le are m h = absurd h
later_apart level a batches i width to at from [] (q ∷ qs) groups le are m h = absurd m
later_apart level a batches i width to at from (p ∷ ps) [] groups le are m h = absurd m
later_apart level a batches i width to at from (p ∷ ps) (q ∷ qs) [] le are m h = absurd h
later_apart level a batches i width to at from (p ∷ ps) (q ∷ qs) (g ∷ gs) le are m h =
    let low : q.range.from ≡ from = ap (λ (r : RankRange). r.from) (q_range i width to at from p q ps qs are m) in
    let le' : a.to ≤ q.range.from = omega (arith, le, low) in
    let lt = are.0 in
    (((λ n. none_in a q.range n le'), (λ n. none_back a q.range n le')), later_apart level a batches i width to at (min (from + width) to) ps qs gs (omega (arith, le, lt)) are.4 m.1 h.1)

children_are : (level : ℕ) (i : SegId Global) (width to at from : ℕ) (ps qs : List PortState) (groups : List Lists) → ArePorts i width to at from ps → AreMoved ps qs → AllHandUp level qs groups → AreChildren (children_with qs groups)
children_are level i width to at from [] [] [] are m h = tt
children_are level i width to at from [] [] (g ∷ gs) are m h = absurd h
children_are level i width to at from [] (q ∷ qs) groups are m h = absurd m
children_are level i width to at from (p ∷ ps) [] groups are m h = absurd m
children_are level i width to at from (p ∷ ps) (q ∷ qs) [] are m h = absurd h
children_are level i width to at from (p ∷ ps) (q ∷ qs) (g ∷ gs) are m h =
    let high : q.range.to ≡ min (from + width) to = ap (λ (r : RankRange). r.to) (q_range i width to at from p q ps qs are m) in
    let count = h.0.count in (
      lists_lawful q.range q.range.from g (omega arith) (omega (arith, count)) h.0.lawful,
      later_apart level q.range (batches_in g) i width to at (min (from + width) to) ps qs gs (omega (arith, high)) are.4 m.1 h.1,
      children_are level i width to at (min (from + width) to) ps qs gs are.4 m.1 h.1,
    )

pub parts_inside : (level : ℕ) (i : SegId Global) (width to at from low : ℕ) (ps qs : List PortState) (groups : List Lists) → low ≤ from → ArePorts i width to at from ps → AreMoved ps qs → AllHandUp level qs groups
    → AllByRecursion (λ (part : Part). IsInside part.range (record { from = low; to = to })) (parts_with qs groups)
parts_inside level i width to at from low [] [] [] le are m h = tt
parts_inside level i width to at from low [] [] (g ∷ gs) le are m h = absurd h
parts_inside level i width to at from low [] (q ∷ qs) groups le are m h = absurd m
parts_inside level i width to at from low (p ∷ ps) [] groups le are m h = absurd m
parts_inside level i width to at from low (p ∷ ps) (q ∷ qs) [] le are m h = absurd h
parts_inside level i width to at from low (p ∷ ps) (q ∷ qs) (g ∷ gs) le are m h =
    let range = q_range i width to at from p q ps qs are m in
    let a : q.range.from ≡ from = ap (λ (r : RankRange). r.from) range in
    let b : q.range.to ≡ min (from + width) to = ap (λ (r : RankRange). r.to) range in
    let lt = are.0 in (
      (λ n here. let x = in_from q.range n here in let y = in_to q.range n here in is_in (record { from = low; to = to }) n (omega (arith, x, a, le)) (omega (arith, y, b))),
      parts_inside level i width to at (min (from + width) to) low ps qs gs (omega (arith, le, lt)) are.4 m.1 h.1,
    )

-- ---- rows and facts

-- a node settles what the nodes among its children settle, and the rest of what these hand up
settle_rows : (root : Bool) (range : RankRange) (parts : List Part) (f : Finding) → AreApart parts → AllByRecursion (λ (part : Part). IsInside part.range range) parts → IsRow (inner root range (all_given parts)) f ↔ (IsRowOfOne parts f ⊎ IsRow (inner root range (all_left parts)) f)
settle_rows true range parts f apart inside =
    let w = level_rows parts f apart in
    let a = root_inner range (all_given parts) in
    let b = root_inner range (all_left parts) in (
      (λ h. elim (w.0 (subst (λ (l : List Entry). IsRow l f) a h)) [ inl one ↦ inl one | inr r ↦ inr (subst (λ (l : List Entry). IsRow l f) (sym b) r) ]),
      (λ h. subst (λ (l : List Entry). IsRow l f) (sym a) (w.1 (elim h [ inl one ↦ inl one | inr r ↦ inr (subst (λ (l : List Entry). IsRow l f) b r) ]))),
    )
settle_rows false range parts f apart inside = node_rows range parts f apart inside

settle_facts : (root : Bool) (range : RankRange) (parts : List Part) → AreApart parts → AllByRecursion (λ (part : Part). IsInside part.range range) parts → Rearranges (facts_of (inner root range (all_given parts))) (all_facts parts ++ facts_of (inner root range (all_left parts)))
settle_facts true range parts apart inside =
    through (from_equal (facts_of (inner true range (all_given parts))) (facts_of (all_given parts)) (ap facts_of (root_inner range (all_given parts))))
    (through (level_facts parts apart) (from_equal (all_facts parts ++ facts_of (all_left parts)) (all_facts parts ++ facts_of (inner true range (all_left parts))) (ap (λ (l : List Entry). all_facts parts ++ facts_of l) (sym (root_inner range (all_left parts))))))
settle_facts false range parts apart inside = node_facts range parts apart inside

module _ (root : Bool) (range : RankRange) (parts : List Part) (taken : List Entry) (below all : Option Closed) (apart : AreApart parts) (inside : AllByRecursion (λ (part : Part). IsInside part.range range) parts)
    (order : waves.Orderly (calls taken)) (whole : waves.Orderly (calls (all_given parts))) (adds : Adds below (inner root range taken) all) where
  pub settled_rows : (level : ℕ) → Tells below (nodes_at level parts) → Rearranges taken (lefts level parts) → (f : Finding) → HasRow all f ↔ IsRow (inner root range (all_given parts)) f
  settled_rows zero tells moved f =
      let there = filtered (is_inner root range) moved in (
        (λ h. elim ((adds.rows f).0 h) [ inl x ↦ absurd ((tells.rows f).0 x) | inr r ↦ row_alike (inner root range taken) (inner root range (all_given parts)) f (calls_inner root range (all_given parts) whole) there r ]),
        (λ r. (adds.rows f).1 (inr (row_alike (inner root range (all_given parts)) (inner root range taken) f (calls_inner root range taken order) (back there) r))),
      )
  settled_rows (suc level) tells moved f =
      let there = filtered (is_inner root range) moved in
      let left : waves.Orderly (calls (all_left parts)) = left_calls [] parts (all_none parts) apart whole in
      let s = settle_rows root range parts f apart inside in (
        (λ h. s.1 (elim ((adds.rows f).0 h) [
          | inl x ↦ inl ((tells.rows f).0 x)
          | inr r ↦ inr (row_alike (inner root range taken) (inner root range (all_left parts)) f (calls_inner root range (all_left parts) left) there r)
        ])),
        (λ r. (adds.rows f).1 (elim (s.0 r) [
          | inl one ↦ inl ((tells.rows f).1 one)
          | inr more ↦ inr (row_alike (inner root range (all_left parts)) (inner root range taken) f (calls_inner root range taken order) (back there) more)
        ])),
      )

  pub settled_facts : (level : ℕ) → Tells below (nodes_at level parts) → Rearranges taken (lefts level parts) → Rearranges (facts_in all) (facts_of (inner root range (all_given parts)))
  settled_facts zero tells moved =
      let there = facts_alike (inner root range taken) (inner root range (all_given parts)) (filtered (is_inner root range) moved) in
      through (from_equal (facts_in all) (facts_in below ++ facts_of (inner root range taken)) adds.facts) (joined tells.facts there)
  settled_facts (suc level) tells moved =
      let there = facts_alike (inner root range taken) (inner root range (all_left parts)) (filtered (is_inner root range) moved) in
      through (from_equal (facts_in all) (facts_in below ++ facts_of (inner root range taken)) adds.facts) (through (joined tells.facts there) (back (settle_facts root range parts apart inside)))

  pub settled_left : (level : ℕ) → Rearranges taken (lefts level parts) → Rearranges (outer root range taken) (outer root range (all_given parts))
  settled_left zero moved = filtered (λ e. not (is_inner root range e)) moved
  settled_left (suc level) moved = through (filtered (λ e. not (is_inner root range e)) moved) (from_equal (outer root range (all_left parts)) (outer root range (all_given parts)) (outer_left_at root range parts inside))

-- ---- needs

none_long : (xs : List Waits) → length xs ≡ 0 → xs ≡ []
none_long [] e = refl
none_long (x ∷ xs) e = absurd (omega (arith, e))

needs_both : (xs ys : List Fact) → fact_needs (xs ++ ys) ≡ fact_needs xs ++ fact_needs ys
needs_both xs ys = flat_append need_of xs ys

no_needs : (parts : List Part) → fact_needs (all_facts parts) ≡ []
no_needs [] = refl
no_needs (part ∷ parts) = needs_both (facts_of (inner false part.range part.given)) (all_facts parts) ∙ ap (λ (l : List Waits). l ++ fact_needs (all_facts parts)) (none_below part.range part.given) ∙ no_needs parts

no_nodes_needs : (level : ℕ) (parts : List Part) → fact_needs (all_facts (nodes_at level parts)) ≡ []
no_nodes_needs zero parts = refl
no_nodes_needs (suc level) parts = no_needs parts

-- the needs of what a node and all below it close with are those that it took, in order
pub settled_needs : (root : Bool) (range : RankRange) (parts : List Part) (taken : List Batch) (below all : Option Closed) (level : ℕ) → Adds below (inner root range (entries_of taken)) all → Tells below (nodes_at level parts) → Rise (map (λ (n : Waits). n.place) (needs (entries_of taken)))
    → Rise (map (λ (n : Waits). n.place) (fact_needs (facts_in all)))
settled_needs root range parts taken below all level adds tells rise =
    let es = entries_of taken in
    let none : fact_needs (facts_in below) ≡ [] = none_long (fact_needs (facts_in below)) (as_long (flat_mapped need_of tells.facts) ∙ ap length (no_nodes_needs level parts)) in
    let same : fact_needs (facts_in all) ≡ filter (λ (n : Waits). is_inner root range (Need n.place n.ways)) (needs es) =
    ap fact_needs adds.facts ∙ needs_both (facts_in below) (facts_of (inner root range es)) ∙ ap (λ (l : List Waits). l ++ fact_needs (facts_of (inner root range es))) none ∙ needs_told (inner root range es) ∙ needs_cut (is_inner root range) es in
    subst (λ (l : List Waits). Rise (map (λ (n : Waits). n.place) l)) (sym same) (rise_kept (λ (n : Waits). n.place) (λ (n : Waits). is_inner root range (Need n.place n.ways)) (needs es) rise)

-- ---- from children

pub parts_apart : (level : ℕ) (i : SegId Global) (width to at from : ℕ) (ps qs : List PortState) (groups : List Lists) → ArePorts i width to at from ps → AreMoved ps qs → AllHandUp level qs groups → AreApart (parts_with qs groups)
parts_apart level i width to at from ps qs groups are m h = children_apart (children_with qs groups) (children_are level i width to at from ps qs groups are m h)
