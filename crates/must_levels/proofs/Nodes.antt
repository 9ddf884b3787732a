-- A node and all below it.
use Rattle.std.proofs.Common.{◌≡◌, ℕ, ◌+◌, ◌^◌, ◌≤◌, Bool, List, [], length, map, Option, Some, Result, Ok, Err, IfOk, refl, sym, ap, ◌∙◌, subst, arith}
use Rattle.std.specs.Prelude.{◌↔◌}
use Rattle.std.specs.List.{AllByRecursion, flat_map}
use Rattle.std.specs.declared.alloc.Global.{Global}
use Rattle.crossbeam_queue.specs.SegTies.{SegId}
use Rattle.must_find.specs.Rearranged.{Rearranges, through, from_equal, flat_mapped}
use Rattle.must_format.specs.declared.fault.StreamFault.{StreamFault}
use Rattle.must_entry.specs.declared.entry.Entry.{Entry}
use Rattle.must_entry.specs.declared.batch.Batch.{Batch}
use Rattle.must_entry.specs.declared.range.RankRange.{RankRange}
use Rattle.must_coll.specs.Waves as waves
use Rattle.must_entry.specs.Entries.{entries_of, calls}
use Rattle.must_entry.specs.Lawful.{IsLawful}
use Rattle.must_inbox.specs.Children.{batches_of, AreCovered}
use Rattle.must_inbox.specs.ChildLaws.{together}
use Rattle.must_inbox.specs.RankLaws.{lawful_none}
use Rattle.must_inbox.specs.States.{TakerState, PortState}
use Rattle.must_node.specs.declared.node.Node.{Node}
use Rattle.must_node.specs.declared.closed.Closed.{Closed}
use Rattle.must_node.specs.EntryRows.{IsRow}
use Rattle.must_node.specs.Facts.{facts_of}
use Rattle.must_node.specs.Inner.{inner, outer}
use Rattle.must_node.specs.Levels.{Part, IsInside, all_given}
use Rattle.must_node.specs.Nodes.{StandsFor, all_up}
use Rattle.must_levels.specs.declared.fault.RunFault.{RunFault}
use Rattle.must_levels.specs.declared.fault.RunFault.TheVariants as fault
use Rattle.must_levels.specs.Readers.{AreSince, AreRankLists, batches_in}
use Rattle.must_levels.specs.Sending.{ArePorts, ArePlaced, IsMoved, AreMoved, range_of_port, closing_of}
use Rattle.must_levels.specs.Telling.{HasRow, facts_in, IsNoMemory, parts_with}
use Rattle.must_levels.specs.Running.{CanRun, CanRunAll, CanTake, Finished, AllSettled, IsAnswerOfAll, RanAll, NodeSettled, RanNode}
use Rattle.must_levels.proofs.PortLists.{moved_length, moved_placed, ranges_length, covered_ports}
use Rattle.must_levels.proofs.RankLists.{whole_length, lists_lawful}
use Rattle.must_levels.proofs.Shapes.{power_pos, power_more}
use Rattle.must_levels.proofs.Gathered.{gathered}
use Rattle.must_levels.proofs.Settling.{all_lists, lefts, up_entries, given_all, sent_all, ranks_of_all, parts_inside, parts_apart, settled_rows, settled_facts, settled_left, settled_needs}

-- ---- the children of a node

pub can_children : {S : Type 0} (ready : S → Type 0) (size : ℕ) (upper i : SegId Global) (from : ℕ) (xs : List S) (width to level fan_in : ℕ) (p : PortState) (ps : List PortState) → CanRun ready size upper from xs (level + 1) fan_in p → to ≡ from + length xs → width ≡ fan_in ^ level → ArePorts i width to to from ps → length ps ≤ 64
    → CanRunAll ready size i from xs width level fan_in ps
can_children ready size upper i from xs width to level fan_in p ps can to_is width_is are few =
    let more = power_more fan_in level can.shape.least in
    let pos = power_pos fan_in level can.shape.least in
    let power = can.shape.power in record {
      unread = can.unread;
      ports = subst (λ n. ArePorts i width n n from ps) to_is are;
      width_is = width_is;
      power = omega (arith, more, power, width_is);
      some_width = omega (arith, pos, width_is);
      small = can.shape.small;
      limit = can.shape.limit;
      least = can.shape.least;
      most = can.shape.most;
      few = few;
    }

-- a port that sent nothing
pub new_port : (p : PortState) → p.sent ≡ [] → IsMoved p p
new_port p e = (refl, subst (IsLawful p.range) (sym e) (lawful_none p.range))

pub no_memory : {S : Type 0} (root : Bool) (whole : ℕ → S → S → List Batch → Type 0) (failed : ℕ → S → S → StreamFault → Type 0) (since : S → S → Type 0) (from : ℕ) (xs xs' : List S) (p q : PortState) (r : Result Closed RunFault) → r ≡ Err fault.NoMemory → AreSince since xs xs' → IsMoved p q → RanNode root whole failed since from xs xs' p q r
no_memory root whole failed since from xs xs' p q r e after moved = subst (λ w. RanNode root whole failed since from xs xs' p q w) (sym e) (record { answer = tt; parts = after; port = moved })

pub can_take : (root : Bool) (i upper : SegId Global) (width to from : ℕ) (t : TakerState) (n : Node) (p : PortState) (ps : List PortState) → t ≡ record { inbox = i; ranges = map range_of_port ps; joined = []; got = [] } → p.inbox ≡ upper → p.sent ≡ [] → p.range ≡ record { from = from; to = to } → ArePorts i width to to from ps
    → StandsFor n (record { from = from; to = to }) root [] [] → CanTake root i upper t n p
can_take root i upper width to from t n p ps made inbox fresh range are stands =
    let got : batches_of t.got ≡ [] = ap (λ (s : TakerState). batches_of s.got) made in record {
      taker_is = ap (λ (s : TakerState). s.inbox) made;
      port_is = inbox;
      covered = subst (λ (x : List RankRange × RankRange). AreCovered x.0 x.1) (λ j. (sym (ap (λ (s : TakerState). s.ranges) made) j, sym range j)) (covered_ports i width to to from from ps (omega arith) are);
      passed = record {
        stands = subst (λ (x : RankRange × List Batch × List Batch). StandsFor n x.0 root x.1 x.2) (λ j. (sym range j, sym got j, sym fresh j)) stands;
        all = fresh ∙ sym (ap (all_up root p.range) got);
        lawful = subst (IsLawful p.range) (sym got) (lawful_none p.range);
      };
    }

-- ---- what a node answers

module _ {S : Type 0} (root : Bool) (whole : ℕ → S → S → List Batch → Type 0) (failed : ℕ → S → S → StreamFault → Type 0) (since : S → S → Type 0) (level from to width : ℕ) (i : SegId Global) (xs xs' : List S) (ps qs : List PortState) (q : PortState) (are : ArePorts i width to to from ps) (placed : ArePlaced 0 ps) (moved : AreMoved ps qs) (range : q.range ≡ record { from = from; to = to }) (to_is : to ≡ from + length xs) where
  node_settled : (below closed : Option Closed) → AllSettled whole level from xs xs' qs below → Finished root (map range_of_port ps) (map closing_of qs) below q closed → NodeSettled root whole from xs xs' q closed
  node_settled below closed s f =
      let lists = all_lists s.groups in
      let parts = parts_with qs s.groups in
      let taken = entries_of (batches_of f.got) in
      let long : length lists ≡ length xs = whole_length whole from xs xs' lists s.all in
      let low : q.range.from ≡ from = ap (λ (r : RankRange). r.from) range in
      let high : q.range.to ≡ to = ap (λ (r : RankRange). r.to) range in
      let ranks : AreRankLists q.range.from lists = subst (λ n. AreRankLists n lists) (sym low) (ranks_of_all level i width to to from ps qs s.groups are moved s.hand) in
      let count : q.range.to ≡ q.range.from + length lists = omega (arith, long, low, high, to_is) in
      let given : all_given parts ≡ entries_of (batches_in lists) = given_all level qs s.groups s.hand in
      let apart = parts_apart level i width to to from ps qs s.groups are moved s.hand in
      let inside = subst (λ (r : RankRange). AllByRecursion (λ (part : Part). IsInside part.range r) parts) (sym range) (parts_inside level i width to to from from ps qs s.groups (omega arith) are moved s.hand) in
      let numbers : length (map range_of_port ps) ≡ length qs = ranges_length ps ∙ sym (moved_length ps qs moved) in
      let mixed : Rearranges (batches_of f.got) (flat_map (λ (p : PortState). p.sent) qs) = gathered qs f.got (length (map range_of_port ps)) numbers (moved_placed 0 ps qs moved placed) f.orderly.numbered f.all in
      let there : Rearranges taken (lefts level parts) = through (flat_mapped (λ (b : Batch). b.entries) mixed) (sent_all level qs s.groups s.hand) in
      let law : IsLawful q.range (batches_of f.got) = together q.range (map range_of_port ps) f.got f.orderly (subst (AreCovered (map range_of_port ps)) (sym range) (covered_ports i width to to from from ps (omega arith) are)) in
      let all_law : IsLawful q.range (batches_in lists) = lists_lawful q.range q.range.from lists (omega arith) (omega (arith, count)) ranks in
      let order = subst (λ (l : List Entry). waves.Orderly (calls l)) (sym given) all_law.numbered in
      record {
        lists = lists;
        all = s.all;
        count = count;
        lawful = ranks;
        left = through (from_equal (entries_of q.sent) (outer root q.range taken) (ap entries_of f.sent ∙ up_entries root q.range (batches_of f.got))) (through (settled_left root q.range parts taken below closed apart inside law.numbered order f.adds level there) (from_equal (outer root q.range (all_given parts)) (outer root q.range (entries_of (batches_in lists))) (ap (outer root q.range) given)));
        rows = λ g. subst (λ (l : List Entry). HasRow closed g ↔ IsRow (inner root q.range l) g) given (settled_rows root q.range parts taken below closed apart inside law.numbered order f.adds level s.tells there g);
        facts = subst (λ (l : List Entry). Rearranges (facts_in closed) (facts_of (inner root q.range l))) given (settled_facts root q.range parts taken below closed apart inside law.numbered order f.adds level s.tells there);
        needs = settled_needs root q.range parts (batches_of f.got) below closed level f.adds s.tells law.needs;
      }

  pub ended : (p : PortState) (below : Option Closed) (ran : Result (Option Closed) RunFault) (r : Result Closed RunFault) → ran ≡ Ok below → IsMoved p q → RanAll whole failed since level from xs xs' ps qs ran → IfOk r (λ closed. Finished root (map range_of_port ps) (map closing_of qs) below q (Some closed)) → IsNoMemory r → RanNode root whole failed since from xs xs' p q r
  ended p below ran (Ok closed) is port_moved all f none = record { answer = node_settled below (Some closed) (subst (IsAnswerOfAll whole failed level from xs xs' qs) is all.answer) f; parts = all.parts; port = port_moved }
  ended p below ran (Err e) is port_moved all f none = no_memory root whole failed since from xs xs' p q (Err e) (ap (λ (w : RunFault). Err w) none) all.parts port_moved
