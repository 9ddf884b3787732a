-- The tree over all ranks.
use Rattle.std.proofs.Common.{◌≡◌, ℕ, ◌+◌, ◌-◌, ◌^◌, ◌<◌, ◌≤◌, true, List, [], ◌∷◌, length, map, Some, Result, Ok, Err, refl, sym, ap, ◌∙◌, subst, inl, inr, arith}
use Rattle.std.specs.Prelude.{filter, ◌↔◌, ◌==◌}
use Rattle.std.specs.List.{AllByRecursion}
use Rattle.std.specs.declared.alloc.Global.{Global}
use Rattle.std.proofs.lemmas.Bool.{eqb-true}
use Rattle.crossbeam_queue.specs.SegTies.{SegId}
use Rattle.must_base.specs.Listing.{Has}
use Rattle.must_base.specs.ListingLaws.{all_has}
use Rattle.must_call.specs.declared.place.Place.{Place}
use Rattle.must_format.specs.declared.fault.StreamFault.{StreamFault}
use Rattle.must_find.specs.Rearranged.{Rearranges, back, filtered, flat_mapped, still_has}
use Rattle.must_p2p.specs.SetLaws.{has_filter}
use Rattle.must_entry.specs.declared.entry.Entry.{Entry}
use Rattle.must_entry.specs.declared.batch.Batch.{Batch}
use Rattle.must_entry.specs.declared.range.RankRange.{RankRange}
use Rattle.must_entry.specs.Entries.{Waits, entries_of}
use Rattle.must_entry.specs.Lawful.{IsLawful, Rise}
use Rattle.must_inbox.specs.States.{PortState}
use Rattle.must_node.specs.declared.closed.Closed.{Closed}
use Rattle.must_node.specs.EntryRows.{IsRow}
use Rattle.must_node.specs.Facts.{facts_of}
use Rattle.must_node.specs.Inner.{inner}
use Rattle.must_node.specs.ListLaws.{all_pass}
use Rattle.must_node.specs.NeedLaws.{needs_told}
use Rattle.must_node.specs.Partners.{need_of}
use Rattle.must_node.specs.Partners.{needs as fact_needs}
use Rattle.must_levels.specs.declared.fault.RunFault.{RunFault}
use Rattle.must_levels.specs.declared.fault.RunFault.TheVariants as fault
use Rattle.must_levels.specs.Readers.{AreRankLists, batches_in}
use Rattle.must_levels.specs.Shape.{IsTree, IsLevels}
use Rattle.must_levels.specs.Running.{CanRun, NodeSettled, IsNodeAnswer, RanNode, TreeSettled, IsTreeAnswer}
use Rattle.must_levels.proofs.Moves.{range_stays}
use Rattle.must_levels.proofs.RankLists.{whole_length, lists_lawful}
use Rattle.must_levels.proofs.Rises.{rise_kept}
use Rattle.must_levels.proofs.Shapes.{power_of_levels}

-- ---- lists of one rank that rise and have the same needs are one

abbrev place_of_need : Waits → Place
place_of_need n = n.place

abbrev Later : Place → Place → Type 0
Later p q = p.rank ≡ q.rank → p.call < q.call

abbrev OfRank : ℕ → Waits → Type 0
OfRank rank n = n.place.rank ≡ rank

after_all : (x z : Waits) (xs : List Waits) → AllByRecursion (Later x.place) (map place_of_need xs) → Has xs z → Later x.place z.place
after_all x z [] a h = absurd h
after_all x z (y ∷ ys) a (inl e) = subst (λ (w : Waits). Later x.place w.place) (sym e) a.0
after_all x z (y ∷ ys) a (inr h) = after_all x z ys a.1 h

rank_has : (rank : ℕ) (xs : List Waits) (z : Waits) → AllByRecursion (OfRank rank) xs → Has xs z → z.place.rank ≡ rank
rank_has rank xs z a h = all_has (OfRank rank) xs z a h

not_both : (rank : ℕ) (x y : Waits) → x.place.rank ≡ rank → y.place.rank ≡ rank → Later x.place y.place → Later y.place x.place → ⊥
not_both rank x y rx ry a b = let p = a (rx ∙ sym ry) in let q = b (ry ∙ sym rx) in omega (arith, p, q)

not_self : (x : Waits) → Later x.place x.place → ⊥
not_self x a = let p = a refl in omega (arith, p)

head_same : (rank : ℕ) (x y : Waits) (xs ys : List Waits) → AllByRecursion (OfRank rank) (x ∷ xs) → AllByRecursion (OfRank rank) (y ∷ ys) → Rise (map place_of_need (x ∷ xs)) → Rise (map place_of_need (y ∷ ys)) → Has (y ∷ ys) x → Has (x ∷ xs) y → x ≡ y
head_same rank x y xs ys a b r s (inl e) k = e
head_same rank x y xs ys a b r s (inr h) (inl e) = sym e
head_same rank x y xs ys a b r s (inr h) (inr k) = absurd (not_both rank x y a.0 b.0 (after_all x y xs r.0 k) (after_all y x ys s.0 h))

tail_has : (x y z : Waits) (xs ys : List Waits) → x ≡ y → Rise (map place_of_need (x ∷ xs)) → Has xs z → Has (y ∷ ys) z → Has ys z
tail_has x y z xs ys e r h (inr k) = k
tail_has x y z xs ys e r h (inl is) = absurd (not_self x (subst (λ (w : Waits). Later x.place w.place) (is ∙ sym e) (after_all x z xs r.0 h)))

risen_same : (rank : ℕ) (xs ys : List Waits) → AllByRecursion (OfRank rank) xs → AllByRecursion (OfRank rank) ys → Rise (map place_of_need xs) → Rise (map place_of_need ys) → ((z : Waits) → Has xs z → Has ys z) → ((z : Waits) → Has ys z → Has xs z) → xs ≡ ys
risen_same rank [] [] a b r s there back_there = refl
risen_same rank [] (y ∷ ys) a b r s there back_there = absurd (back_there y (inl refl))
risen_same rank (x ∷ xs) [] a b r s there back_there = absurd (there x (inl refl))
risen_same rank (x ∷ xs) (y ∷ ys) a b r s there back_there =
    let e = head_same rank x y xs ys a b r s (there x (inl refl)) (back_there y (inl refl)) in
    let rest = risen_same rank xs ys a.1 b.1 r.1 s.1 (λ z h. tail_has x y z xs ys e r h (there z (inr h))) (λ z h. tail_has y x z ys xs (sym e) s h (back_there z (inr h))) in
    λ i. e i ∷ rest i

all_of : (P : Waits → Type 0) (xs : List Waits) → ((z : Waits) → Has xs z → P z) → AllByRecursion P xs
all_of P [] f = tt
all_of P (x ∷ xs) f = (f x (inl refl), all_of P xs (λ z h. f z (inr h)))

of_rank_all : (rank : ℕ) (xs : List Waits) → AllByRecursion (OfRank rank) (filter (λ (w : Waits). w.place.rank == rank) xs)
of_rank_all rank xs = all_of (OfRank rank) (filter (λ (w : Waits). w.place.rank == rank) xs) (λ z h. eqb-true z.place.rank rank ((has_filter (λ (w : Waits). w.place.rank == rank) xs z).0 h).1)

needs_same : (rank : ℕ) (xs ys : List Waits) → Rearranges xs ys → Rise (map place_of_need xs) → Rise (map place_of_need ys) → filter (λ (w : Waits). w.place.rank == rank) xs ≡ filter (λ (w : Waits). w.place.rank == rank) ys
needs_same rank xs ys moved r s =
    let p = λ (w : Waits). w.place.rank == rank in
    risen_same rank (filter p xs) (filter p ys) (of_rank_all rank xs) (of_rank_all rank ys) (rise_kept place_of_need p xs r) (rise_kept place_of_need p ys s)
    (λ z. still_has z (filtered p moved)) (λ z. still_has z (filtered p (back moved)))

-- ---- the answer

tree_settled : {S : Type 0} (whole : ℕ → S → S → List Batch → Type 0) (olds news : List S) (q : PortState) (closed : Closed) → q.range ≡ record { from = 0; to = length olds } → NodeSettled true whole 0 olds news q (Some closed) → TreeSettled whole olds news closed
tree_settled whole olds news q closed range s =
    let es = entries_of (batches_in s.lists) in
    let whole_range : RankRange = record { from = 0; to = length olds } in
    let all : inner true q.range es ≡ es = all_pass es in
    let long = whole_length whole 0 olds news s.lists s.all in
    let ranks : AreRankLists 0 s.lists = subst (λ n. AreRankLists n s.lists) (ap (λ (r : RankRange). r.from) range) s.lawful in
    let law : IsLawful whole_range (batches_in s.lists) = lists_lawful whole_range 0 s.lists (omega arith) (omega (arith, long)) ranks in
    let facts : Rearranges closed.facts (facts_of es) = subst (λ (l : List Entry). Rearranges closed.facts (facts_of l)) all s.facts in
    record {
      lists = s.lists;
      all = s.all;
      lawful = law;
      rows = λ f. subst (λ (l : List Entry). Has closed.findings f ↔ IsRow l f) all (s.rows f);
      facts = facts;
      needs = λ rank. needs_same rank (fact_needs closed.facts) (fact_needs (facts_of es)) (flat_mapped need_of facts) s.needs (subst (λ (l : List Waits). Rise (map (λ (n : Waits). n.place) l)) (sym (needs_told es)) law.needs);
    }

tree_of_node : {S : Type 0} (whole : ℕ → S → S → List Batch → Type 0) (failed : ℕ → S → S → StreamFault → Type 0) (olds news : List S) (q : PortState) (r : Result Closed RunFault) → q.range ≡ record { from = 0; to = length olds } → IsNodeAnswer true whole failed 0 olds news q r → IsTreeAnswer whole failed olds news r
tree_of_node whole failed olds news q (Ok closed) range a = tree_settled whole olds news q closed range a
tree_of_node whole failed olds news q (Err (fault.Stream rank f)) range a = a
tree_of_node whole failed olds news q (Err fault.NoMemory) range a = tt

pub tree_ran : {S : Type 0} (whole : ℕ → S → S → List Batch → Type 0) (failed : ℕ → S → S → StreamFault → Type 0) (since : S → S → Type 0) (olds news : List S) (p q : PortState) (r : Result Closed RunFault) → p.range ≡ record { from = 0; to = length olds } → RanNode true whole failed since 0 olds news p q r → IsTreeAnswer whole failed olds news r
tree_ran whole failed since olds news p q r range ran = tree_of_node whole failed olds news q r (range_stays p q ran.port.0 ∙ range) ran.answer

-- the root is on all parts, and its port is new
pub can_root : {S : Type 0} (ready : S → Type 0) (i : SegId Global) (xs : List S) (levels fan_in : ℕ) (p : PortState) → IsTree (length xs) fan_in → IsLevels (length xs) fan_in levels → AllByRecursion ready xs → p.inbox ≡ i → p.sent ≡ [] → p.range ≡ record { from = 0; to = length xs } → CanRun ready (length xs) i 0 xs (levels - 1 + 1) fan_in p
can_root ready i xs levels fan_in p tree is unread inbox fresh range =
    let some = is.some in
    let same : levels ≡ levels - 1 + 1 = omega (arith, some) in
    record {
      shape = record {
        some = tree.0;
        fits = subst (λ n. length xs ≤ fan_in ^ n) same is.covers;
        small = omega arith;
        limit = tree.1;
        power = subst (λ n. fan_in ^ n ≤ 65536) same (power_of_levels (length xs) fan_in levels tree is);
        least = tree.2;
        most = tree.3;
      };
      unread = unread;
      inbox_is = inbox;
      fresh = fresh;
      range = range ∙ ap (λ (n : ℕ). record { from = 0; to = n }) (let e : length xs ≡ 0 + length xs = omega arith in e);
    }
