-- The ports of a node's children, one by one.
use native.Mathlib.Decide.{dec_le}
use Rattle.std.proofs.Common.{◌≡◌, ◌⊎◌, inl, inr, suc-mul, add-one, lt_of_not-le, ℕ, zero, suc, ◌+◌, ◌*◌, ◌<◌, ◌≤◌, true, List, [], ◌∷◌, ◌++◌, length, map, min, take, drop, Some, None, refl, sym, ap, ◌∙◌, subst, arith}
use Rattle.std.specs.Prelude.{nat_le, nat_lt}
use Rattle.std.proofs.lemmas.Bool.{and_parts, and_from, leb-true, ltb-true, le-leb, lt-ltb}
use Rattle.std.specs.List.{AllByRecursion}
use Rattle.std.specs.declared.alloc.Global.{Global}
use Rattle.crossbeam_queue.specs.SegTies.{SegId}
use Rattle.must_entry.specs.declared.range.RankRange.{RankRange}
use Rattle.must_entry.specs.Lawful.{in_range}
use Rattle.must_inbox.specs.Children.{IsApartFrom, AreCovered}
use Rattle.must_inbox.specs.ListLaws.{all_join}
use Rattle.must_inbox.specs.States.{PortState}
use Rattle.must_levels.specs.Sending.{ArePorts, ArePlaced, AreOfInbox, AreMoved, range_of_port}

-- ---- ranges

pub in_from : (range : RankRange) (rank : ℕ) → in_range range rank ≡ true → range.from ≤ rank
in_from range rank e = leb-true range.from rank (and_parts (nat_le range.from rank) (nat_lt rank range.to) e).0

pub in_to : (range : RankRange) (rank : ℕ) → in_range range rank ≡ true → rank < range.to
in_to range rank e = ltb-true rank range.to (and_parts (nat_le range.from rank) (nat_lt rank range.to) e).1

pub is_in : (range : RankRange) (rank : ℕ) → range.from ≤ rank → rank < range.to → in_range range rank ≡ true
is_in range rank low high = and_from (nat_le range.from rank) (nat_lt rank range.to) (le-leb range.from rank low) (lt-ltb rank range.to high)

-- ---- new ports

pub ports_snoc : (q : SegId Global) (width to at from : ℕ) (ps : List PortState) (p : PortState) → at < to → p.inbox ≡ q → p.sent ≡ [] → p.range ≡ record { from = at; to = min (at + width) to } → ArePorts q width to at from ps → ArePorts q width to (min (at + width) to) from (ps ++ p ∷ [])
ports_snoc q width to at from [] p lt inbox sent range are =
    (subst (λ n. n < to) (sym are) lt, inbox, sent, range ∙ ap (λ (n : ℕ). record { from = n; to = min (n + width) to }) (sym are), ap (λ n. min (n + width) to) are)
ports_snoc q width to at from (x ∷ xs) p lt inbox sent range are = (are.0, are.1, are.2, are.3, ports_snoc q width to at (min (from + width) to) xs p lt inbox sent range are.4)

pub placed_snoc : (k : ℕ) (ps : List PortState) (p : PortState) → p.number ≡ k + length ps → ArePlaced k ps → ArePlaced k (ps ++ p ∷ [])
placed_snoc k [] p is are = (omega arith, tt)
placed_snoc k (x ∷ xs) p is are = (are.0, placed_snoc (k + 1) xs p (omega arith) are.1)

pub ranges_snoc : (ps : List PortState) (p : PortState) → map range_of_port (ps ++ p ∷ []) ≡ map range_of_port ps ++ p.range ∷ []
ranges_snoc [] p = refl
ranges_snoc (x ∷ xs) p = ap (λ l. x.range ∷ l) (ranges_snoc xs p)

pub ranges_length : (ps : List PortState) → length (map range_of_port ps) ≡ length ps
ranges_length [] = refl
ranges_length (x ∷ xs) = ap suc (ranges_length xs)

-- ranges that end before a place
abbrev pub EndBy : ℕ → List RankRange → Type 0
EndBy at ranges = AllByRecursion (λ r. r.to ≤ at) ranges

pub end_apart : (ranges : List RankRange) (at end : ℕ) → EndBy at ranges → IsApartFrom ranges (record { from = at; to = end })
end_apart [] at end e k rank other is in_other in_new = absurd (let clash : None ≡ Some other = is in cc)
end_apart (r ∷ rs) at end e zero rank other is in_other in_new =
    let same : r ≡ other = cc in
    let below : other.to ≤ at = subst (λ (x : RankRange). x.to ≤ at) same e.0 in
    let low = in_from (record { from = at; to = end }) rank in_new in
    let high = in_to other rank in_other in
    absurd (omega arith)
end_apart (r ∷ rs) at end e (suc k) rank other is in_other in_new = end_apart rs at end e.1 k rank other is in_other in_new

end_later : (ranges : List RankRange) (at end : ℕ) → at ≤ end → EndBy at ranges → EndBy end ranges
end_later [] at end le e = tt
end_later (r ∷ rs) at end le e = let p = e.0 in (omega arith, end_later rs at end le e.1)

pub end_snoc : (ranges : List RankRange) (at end : ℕ) → at ≤ end → EndBy at ranges → EndBy end (ranges ++ record { from = at; to = end } ∷ [])
end_snoc ranges at end le e = all_join (λ (r : RankRange). r.to ≤ end) ranges (record { from = at; to = end } ∷ []) (end_later ranges at end le e) (omega arith, tt)

pub of_inbox : (q : SegId Global) (width to at from : ℕ) (ps : List PortState) → ArePorts q width to at from ps → AreOfInbox q ps
of_inbox q width to at from [] are = tt
of_inbox q width to at from (p ∷ ps) are = (are.1, of_inbox q width to at (min (from + width) to) ps are.4)

place_by : (at to from width i e : ℕ) → e ≡ min (at + width) to → at ≡ from + i * width → Dec (to ≤ at + width) → (e ≡ to) ⊎ (e ≡ from + (i + 1) * width)
place_by at to from width i e is here (yes le) = inl (omega arith)
place_by at to from width i e is here (no gt) = inr (let more : (i + 1) * width ≡ i * width + width = rw add-one (suc-mul i width) in let m = lt_of_not-le gt in omega arith)

pub place_next : (at to from width i e : ℕ) → e ≡ min (at + width) to → at < to → (at ≡ to) ⊎ (at ≡ from + i * width) → (e ≡ to) ⊎ (e ≡ from + (i + 1) * width)
place_next at to from width i e is lt (inl done) = absurd (omega arith)
place_next at to from width i e is lt (inr here) = place_by at to from width i e is here (dec_le to (at + width))

-- ---- ports before and after children ran

pub moved_length : (ps qs : List PortState) → AreMoved ps qs → length qs ≡ length ps
moved_length [] [] m = refl
moved_length [] (q ∷ qs) m = absurd m
moved_length (p ∷ ps) [] m = absurd m
moved_length (p ∷ ps) (q ∷ qs) m = ap suc (moved_length ps qs m.1)

pub moved_inbox : (i : SegId Global) (ps qs : List PortState) → AreMoved ps qs → AreOfInbox i ps → AreOfInbox i qs
moved_inbox i [] [] m a = tt
moved_inbox i [] (q ∷ qs) m a = absurd m
moved_inbox i (p ∷ ps) [] m a = absurd m
moved_inbox i (p ∷ ps) (q ∷ qs) m a = (ap (λ (s : PortState). s.inbox) m.0.0 ∙ a.0, moved_inbox i ps qs m.1 a.1)

pub moved_placed : (k : ℕ) (ps qs : List PortState) → AreMoved ps qs → ArePlaced k ps → ArePlaced k qs
moved_placed k [] [] m a = tt
moved_placed k [] (q ∷ qs) m a = absurd m
moved_placed k (p ∷ ps) [] m a = absurd m
moved_placed k (p ∷ ps) (q ∷ qs) m a = (ap (λ (s : PortState). s.number) m.0.0 ∙ a.0, moved_placed (k + 1) ps qs m.1 a.1)

pub moved_ranges : (ps qs : List PortState) → AreMoved ps qs → map range_of_port qs ≡ map range_of_port ps
moved_ranges [] [] m = refl
moved_ranges [] (q ∷ qs) m = absurd m
moved_ranges (p ∷ ps) [] m = absurd m
moved_ranges (p ∷ ps) (q ∷ qs) m = λ i. ap (λ (s : PortState). s.range) m.0.0 i ∷ moved_ranges ps qs m.1 i

take_front : {X : Type 0} (n : ℕ) (xs ys : List X) → length xs ≡ n → take n (xs ++ ys) ≡ xs
take_front zero [] ys e = refl
take_front (suc n) [] ys e = absurd (omega arith)
take_front zero (x ∷ xs) ys e = absurd (omega arith)
take_front (suc n) (x ∷ xs) ys e = ap (λ l. x ∷ l) (take_front n xs ys (omega arith))

pub lent : (len : ℕ) (old new : List PortState) → length new ≡ length old → len ≡ length old → take len (new ++ drop (length new) old) ≡ new
lent len old new e f = take_front len new (drop (length new) old) (e ∙ sym f)

pub covered_ports : (q : SegId Global) (width to at from low : ℕ) (ps : List PortState) → low ≤ from → ArePorts q width to at from ps → AreCovered (map range_of_port ps) (record { from = low; to = to })
covered_ports q width to at from low [] le are k rank range e here = absurd (let clash : None ≡ Some range = e in cc)
covered_ports q width to at from low (p ∷ ps) le are zero rank range e here =
    let same : record { from = from; to = min (from + width) to } ≡ range = sym are.3 ∙ (let s : p.range ≡ range = cc in s) in
    let there : in_range (record { from = from; to = min (from + width) to }) rank ≡ true = subst (λ (r : RankRange). in_range r rank ≡ true) (sym same) here in
    let a = in_from (record { from = from; to = min (from + width) to }) rank there in
    let b = in_to (record { from = from; to = min (from + width) to }) rank there in
    is_in (record { from = low; to = to }) rank (omega arith) (omega arith)
covered_ports q width to at from low (p ∷ ps) le are (suc k) rank range e here = let lt = are.0 in covered_ports q width to at (min (from + width) to) low ps (omega arith) are.4 k rank range e here

-- the port that comes next is of the inbox
pub inbox_of : (i : SegId Global) (xs : List PortState) (p : PortState) (ys all : List PortState) → xs ++ p ∷ ys ≡ all → AreOfInbox i all → p.inbox ≡ i
inbox_of i xs p ys all e a = at xs (subst (AreOfInbox i) (sym e) a)
  where
    at : (xs : List PortState) → AreOfInbox i (xs ++ p ∷ ys) → p.inbox ≡ i
    at [] a = a.0
    at (x ∷ xs) a = at xs a.1
