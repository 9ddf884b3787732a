-- The first child beside the others.
use Rattle.std.proofs.Common.{◌≡◌, ℕ, zero, suc, ◌+◌, ◌≤◌, false, List, [], ◌∷◌, ◌++◌, length, min, Option, Some, None, Result, Ok, Err, refl, sym, ap, ◌∙◌, subst, inl, inr, arith}
use Rattle.std.specs.Prelude.{◌↔◌}
use Rattle.std.specs.List.{AllByRecursion, flat_map}
use Rattle.std.specs.declared.alloc.Global.{Global}
use Rattle.std.proofs.lemmas.List.{append-nil, length-append}
use Rattle.crossbeam_queue.specs.SegTies.{SegId}
use Rattle.must_find.specs.declared.finding.Finding.{Finding}
use Rattle.must_find.specs.Rearranged.{Rearranges, same, through, from_equal, joined}
use Rattle.must_format.specs.declared.fault.StreamFault.{StreamFault}
use Rattle.must_entry.specs.declared.batch.Batch.{Batch}
use Rattle.must_entry.specs.declared.range.RankRange.{RankRange}
use Rattle.must_inbox.specs.States.{PortState}
use Rattle.must_node.specs.declared.closed.Closed.{Closed}
use Rattle.must_node.specs.EntryRows.{IsRow}
use Rattle.must_node.specs.Facts.{facts_of}
use Rattle.must_node.specs.Inner.{inner}
use Rattle.must_node.specs.Levels.{Part, all_facts}
use Rattle.must_levels.specs.declared.fault.RunFault.{RunFault}
use Rattle.must_levels.specs.declared.fault.RunFault.TheVariants as fault
use Rattle.must_levels.specs.Sending.{ArePorts}
use Rattle.must_levels.specs.Telling.{HasRow, facts_in, AreBoth, Together, as_child, Tells, nodes_at, part_with, parts_with}
use Rattle.must_levels.specs.Running.{CanRun, CanRunAll, IsAnswer, Ran, IsAnswerOfAll, RanAll, RanNode, IsNodeAnswer}
use Rattle.must_levels.proofs.RankLists.{all_front, all_rest, since_both, whole_both, fault_front, fault_rest}

-- ---- what is told

pub tells_both : (level : ℕ) (part : Part) (parts : List Part) (a b c : Option Closed) → Tells a (nodes_at level (part ∷ [])) → Tells b (nodes_at level parts) → AreBoth a b c → Tells c (nodes_at level (part ∷ parts))
tells_both zero part parts a b c s t both = record {
  rows = λ f. ((λ h. elim ((both.rows f).0 h) [ inl x ↦ (s.rows f).0 x | inr y ↦ (t.rows f).0 y ]), (λ h. absurd h));
  facts = through (from_equal (facts_in c) (facts_in a ++ facts_in b) both.facts) (joined s.facts t.facts);
}
tells_both (suc level) part parts a b c s t both = record {
  rows = λ f. (
    (λ h. elim ((both.rows f).0 h) [ inl x ↦ elim ((s.rows f).0 x) [ inl r ↦ inl r | inr n ↦ absurd n ] | inr y ↦ inr ((t.rows f).0 y) ]),
    (λ h. (both.rows f).1 (elim h [ inl r ↦ inl ((s.rows f).1 (inl r)) | inr y ↦ inr ((t.rows f).1 y) ])),
  );
  facts = through (from_equal (facts_in c) (facts_in a ++ facts_in b) both.facts) (joined (through s.facts (from_equal (all_facts (part ∷ [])) (facts_of (inner false part.range part.given)) (append-nil (facts_of (inner false part.range part.given))))) t.facts);
}

pub no_nodes : (level : ℕ) → nodes_at level [] ≡ []
no_nodes zero = refl
no_nodes (suc level) = refl

tells_none : (parts : List Part) → parts ≡ [] → Tells None parts
tells_none parts e = subst (Tells None) (sym e) (record { rows = λ f. ((λ h. absurd h), (λ h. absurd h)); facts = same [] })

-- ---- what both answer

module _ {S : Type 0} (whole : ℕ → S → S → List Batch → Type 0) (failed : ℕ → S → S → StreamFault → Type 0) (since : S → S → Type 0) (level from next : ℕ) (xs xs' ys ys' : List S) (p q : PortState) (ps qs : List PortState) (next_is : next ≡ from + length xs) where
  abbrev All : Result (Option Closed) RunFault → Type 0
  All r = IsAnswerOfAll whole failed level from (xs ++ ys) (xs' ++ ys') (q ∷ qs) r

  both_answer : (first second r : Result (Option Closed) RunFault) → IsAnswer whole failed level from xs xs' q first → IsAnswerOfAll whole failed level next ys ys' qs second → Together first second r → All r
  both_answer (Err (fault.Stream rank f)) second r a b e = subst All (sym e) (fault_front whole failed from xs xs' ys ys' rank f a)
  both_answer (Err fault.NoMemory) second r a b e = subst All (sym e) tt
  both_answer (Ok mine) (Err (fault.Stream rank f)) r a b e = subst All (sym e) (fault_rest whole failed from next xs xs' a.lists ys ys' rank f next_is a.all b)
  both_answer (Ok mine) (Err fault.NoMemory) r a b e = subst All (sym e) tt
  both_answer (Ok mine) (Ok others) (Err e) a b is = subst (λ (w : RunFault). All (Err w)) (sym is) tt
  both_answer (Ok mine) (Ok others) (Ok closed) a b both = record {
    groups = a.lists ∷ b.groups;
    all = whole_both whole from next xs xs' a.lists ys ys' (flat_map (λ g. g) b.groups) next_is a.all b.all;
    hand = (a.hands, b.hand);
    tells = tells_both level (part_with q.range a.lists) (parts_with qs b.groups) mine others closed a.tells b.tells both;
  }

  pub both_ran : (first second r : Result (Option Closed) RunFault) → Ran whole failed since level from xs xs' p q first → RanAll whole failed since level next ys ys' ps qs second → Together first second r
      → RanAll whole failed since level from (xs ++ ys) (xs' ++ ys') (p ∷ ps) (q ∷ qs) r
  both_ran first second r a b t = record { answer = both_answer first second r a.answer b.answer t; parts = since_both since xs xs' ys ys' a.parts b.parts; ports = (a.port, b.ports) }

-- no children
pub none_ran : {S : Type 0} (whole : ℕ → S → S → List Batch → Type 0) (failed : ℕ → S → S → StreamFault → Type 0) (since : S → S → Type 0) (level from width : ℕ) (i : SegId Global) (xs : List S) (ps : List PortState) → length ps ≡ 0 → ArePorts i width (from + length xs) (from + length xs) from ps → RanAll whole failed since level from xs xs ps ps (Ok None)
none_ran whole failed since level from width i [] [] e are = record { answer = record { groups = []; all = tt; hand = tt; tells = tells_none (nodes_at level []) (no_nodes level) }; parts = tt; ports = tt }
none_ran whole failed since level from width i (x ∷ xs) [] e are = absurd (omega (arith, are))
none_ran whole failed since level from width i xs (p ∷ ps) e are = absurd (omega (arith, e))

-- ---- what each may be run on

module _ {S : Type 0} (ready : S → Type 0) (size : ℕ) (i : SegId Global) (from width level fan_in : ℕ) (xs front back : List S) (p : PortState) (all ps : List PortState) (can : CanRunAll ready size i from xs width level fan_in all) (ports : p ∷ ps ≡ all) (parts : xs ≡ front ++ back) (count : length front ≡ min width (length xs)) where
  are : ArePorts i width (from + length xs) (from + length xs) from (p ∷ ps)
  are = subst (ArePorts i width (from + length xs) (from + length xs) from) (sym ports) can.ports

  unread : AllByRecursion ready (front ++ back)
  unread = subst (AllByRecursion ready) parts can.unread

  long : length xs ≡ length front + length back
  long = ap length parts ∙ length-append front back

  pub can_first : CanRun ready size i from front level fan_in p
  can_first =
      let lt = are.0 in
      let some = can.some_width in
      let small = can.small in
      let at : min (from + width) (from + length xs) ≡ from + length front = omega (arith, count) in
      record {
        shape = record { some = omega (arith, count, lt, some); fits = subst (λ n. length front ≤ n) can.width_is (omega (arith, count)); small = omega (arith, count, small); limit = can.limit; power = subst (λ n. n ≤ 65536) can.width_is can.power; least = can.least; most = can.most };
        unread = all_front ready front back unread;
        inbox_is = are.1;
        fresh = are.2;
        range = are.3 ∙ ap (λ (n : ℕ). record { from = from; to = n }) at;
      }

  pub can_rest : (next : ℕ) → next ≡ from + length front → CanRunAll ready size i next back width level fan_in ps
  can_rest next next_is =
      let at : min (from + width) (from + length xs) ≡ next = omega (arith, count, next_is) in
      let end : from + length xs ≡ next + length back = omega (arith, long, next_is) in
      let small = can.small in
      let few = can.few in
      let counts : suc (length ps) ≡ length all = ap length ports in
      record {
        unread = all_rest ready front back unread;
        ports = subst (λ (x : ℕ × ℕ). ArePorts i width x.0 x.0 x.1 ps) (λ j. (end j, at j)) are.4;
        width_is = can.width_is;
        power = can.power;
        some_width = can.some_width;
        small = omega (arith, end, small);
        limit = can.limit;
        least = can.least;
        most = can.most;
        few = omega (arith, counts, few);
      }

-- ---- a child that is a node

node_tells : (range : RankRange) (lists : List (List Batch)) (closed : Option Closed) → ((f : Finding) → HasRow closed f ↔ IsRow (inner false range (part_with range lists).given) f) → Rearranges (facts_in closed) (facts_of (inner false range (part_with range lists).given)) → Tells closed (part_with range lists ∷ [])
node_tells range lists closed rows facts = record {
  rows = λ f. ((λ h. inl ((rows f).0 h)), (λ h. (rows f).1 (elim h [ inl r ↦ r | inr n ↦ absurd n ])));
  facts = through facts (from_equal (facts_of (inner false range (part_with range lists).given)) (all_facts (part_with range lists ∷ [])) (sym (append-nil (facts_of (inner false range (part_with range lists).given)))));
}

child_answer : {S : Type 0} (whole : ℕ → S → S → List Batch → Type 0) (failed : ℕ → S → S → StreamFault → Type 0) (level from : ℕ) (xs xs' : List S) (q : PortState) (r : Result Closed RunFault) → IsNodeAnswer false whole failed from xs xs' q r → IsAnswer whole failed (suc level) from xs xs' q (as_child r)
child_answer whole failed level from xs xs' q (Ok closed) a = record {
  lists = a.lists;
  all = a.all;
  hands = record { count = a.count; lawful = a.lawful; left = a.left };
  tells = node_tells q.range a.lists (Some closed) a.rows a.facts;
}
child_answer whole failed level from xs xs' q (Err (fault.Stream rank f)) a = a
child_answer whole failed level from xs xs' q (Err fault.NoMemory) a = tt

pub child_ran : {S : Type 0} (whole : ℕ → S → S → List Batch → Type 0) (failed : ℕ → S → S → StreamFault → Type 0) (since : S → S → Type 0) (level from : ℕ) (xs xs' : List S) (p q : PortState) (r : Result Closed RunFault) → (level ≡ 0 → ⊥) → RanNode false whole failed since from xs xs' p q r → Ran whole failed since level from xs xs' p q (as_child r)
child_ran whole failed since zero from xs xs' p q r other ran = absurd (other refl)
child_ran whole failed since (suc level) from xs xs' p q r other ran = record { answer = child_answer whole failed level from xs xs' q r ran.answer; parts = ran.parts; port = ran.port }
