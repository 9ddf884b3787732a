-- Each step of an inbox keeps its rule.
use Rattle.std.proofs.Common.{◌≡◌, ◌≢◌, ℕ, zero, suc, ◌+◌, ◌<◌, ◌≤◌, ◌==◌, ◌⊎◌, Bool, true, false, cond, List, [], ◌∷◌, ◌++◌, length, set, Option, Some, None, slice_get, MatchOption, refl, sym, ap, ◌∙◌, subst, inl, inr, ⊎_elim, arith, append_assoc, add-one}
use Rattle.std.proofs.lemmas.Bool.{cases_eq, eqb-true, eq-eqb, ne_eqb}
use Rattle.std.proofs.lemmas.List.{append-nil, length-append}
use Rattle.std.proofs.lemmas.Option.{slice_get_within}
use Rattle.std.specs.List.{AllByRecursion}
use mathlib.Core.Option.{some, some-injective, some-ne-none}
use lib.ListN.{get_elem?}
use Rattle.crossbeam_queue.specs.Fifo.{Pushes, Pops, Forks, Merges, Learns}
use Rattle.crossbeam_queue.proofs.Lists.{at_set}
use Rattle.must_entry.specs.declared.batch.Batch.{Batch}
use Rattle.must_entry.specs.declared.range.RankRange.{RankRange}
use Rattle.must_entry.specs.Lawful.{in_range, IsLawful}
use Rattle.must_inbox.specs.Children.{of_child, AreNumbered, IsApartFrom, AreApart, AreLawful, IsOrderly, HasFronts, HasAll}
use Rattle.must_inbox.specs.ListLaws.{all_front, all_join, all_weaker}
use Rattle.must_inbox.specs.RankLaws.{lawful_front, lawful_none}
use Rattle.must_inbox.specs.ChildLaws.{of_child-append}
use Rattle.must_inbox.specs.declared.view.View.{View}
use Rattle.must_inbox.specs.declared.view.View.TheVariants.{Taking, Sending, Spent}
use Rattle.must_inbox.specs.Rule.{ranges_of, joined_of, got_of, number_of, sent_of, range_of, Fits, IsClosed, Kept, opened, grown, started, with_joined, Sends, Takes, Empties, IsTaking, IsSending}

-- ---- lists

child_none : (count k : ℕ) (ms : List (ℕ × Batch)) → AreNumbered count ms → count ≤ k → of_child k ms ≡ []
child_none count k [] numbered le = refl
child_none count k (m ∷ ms) numbered le = subst (λ (t : Bool). cond t (m.1 ∷ of_child k ms) (of_child k ms) ≡ []) (sym (ne_eqb m.0 k (λ (e : m.0 ≡ k). let below = numbered.0 in absurd (omega arith)))) (child_none count k ms numbered.1 le)

snoc_same : (k : ℕ) (ms : List (ℕ × Batch)) (m : ℕ × Batch) → m.0 ≡ k → of_child k (ms ++ m ∷ []) ≡ of_child k ms ++ m.1 ∷ []
snoc_same k ms m e = of_child-append k ms (m ∷ []) ∙ ap (λ (t : Bool). of_child k ms ++ cond t (m.1 ∷ []) []) (eq-eqb m.0 k e)

snoc_other : (k : ℕ) (ms : List (ℕ × Batch)) (m : ℕ × Batch) → m.0 ≢ k → of_child k (ms ++ m ∷ []) ≡ of_child k ms
snoc_other k ms m ne = of_child-append k ms (m ∷ []) ∙ (ap (λ (t : Bool). of_child k ms ++ cond t (m.1 ∷ []) []) (ne_eqb m.0 k ne) ∙ append-nil (of_child k ms))

get_snoc : {X : Type 0} (xs : List X) (x y : X) (k : ℕ) → slice_get (xs ++ x ∷ []) k ≡ Some y → (slice_get xs k ≡ Some y) ⊎ ((k ≡ length xs) × (x ≡ y))
get_snoc [] x y zero e = inr (refl, cc)
get_snoc [] x y (suc k) e = inl e
get_snoc (z ∷ zs) x y zero e = inl e
get_snoc (z ∷ zs) x y (suc k) e = ⊎_elim (λ h. inl h) (λ (h : (k ≡ length zs) × (x ≡ y)). inr (ap suc h.0, h.1)) (get_snoc zs x y k e)

get_last : {X : Type 0} (xs : List X) (x : X) → slice_get (xs ++ x ∷ []) (length xs) ≡ Some x
get_last [] x = refl
get_last (z ∷ zs) x = get_last zs x

get_longer : {X : Type 0} (xs ys : List X) (y : X) (k : ℕ) → slice_get xs k ≡ Some y → slice_get (xs ++ ys) k ≡ Some y
get_longer [] ys y k e = absurd (let n : None ≡ Some y = e in cc)
get_longer (z ∷ zs) ys y zero e = e
get_longer (z ∷ zs) ys y (suc k) e = get_longer zs ys y k e

at_last_or : (l : List View) (a b : View) (j : ℕ) → get_elem? (l ++ a ∷ []) j ≡ some b → (get_elem? l j ≡ some b) ⊎ ((j ≡ length l) × (a ≡ b))
at_last_or [] a b zero e = inr (refl, some-injective a b e)
at_last_or [] a b (suc j) e = absurd (some-ne-none b (sym e))
at_last_or (x ∷ xs) a b zero e = inl e
at_last_or (x ∷ xs) a b (suc j) e = ⊎_elim (λ h. inl h) (λ (h : (j ≡ length xs) × (a ≡ b)). inr (ap suc h.0, h.1)) (at_last_or xs a b j e)

abbrev All : (ℕ → View → Type 0) → List View → Type 0
All F views = (pass : ℕ) (v : View) → get_elem? views pass ≡ some v → F pass v

all_set : (F : ℕ → View → Type 0) (views : List View) (pass : ℕ) (w : View) → F pass w → ((j : ℕ) (u : View) → j ≢ pass → get_elem? views j ≡ some u → F j u) → All F (set views pass w)
all_set F views pass w mine others j u e = ⊎_elim (λ (x : (j ≡ pass) × (w ≡ u)). subst (λ (y : ℕ × View). F y.0 y.1) (λ i. (sym x.0 i, x.1 i)) mine)
    (λ (x : (j ≢ pass) × (get_elem? views j ≡ some u)). others j u x.0 x.1) (at_set views pass j w u e)

-- ---- open

opens_fits : (pass : ℕ) (v : View) → get_elem? (Taking [] [] [] ∷ []) pass ≡ some v → Fits 0 [] [] [] [] (λ _. None) pass v
opens_fits zero v e = subst (λ (u : View). Fits 0 [] [] [] [] (λ _. None) 0 u) (some-injective (Taking [] [] []) v e) (refl, refl, refl, refl)
opens_fits (suc pass) v e = absurd (some-ne-none v (sym e))

pub opens : Kept [] (Taking [] [] [] ∷ [])
opens = record {
  seat = 0;
  ranges = [];
  joined = [];
  got = [];
  all = [];
  place = λ _. None;
  fits = opens_fits;
  is = refl;
  numbered = tt;
  lawful = λ k range e. lawful_none range;
  apart = λ j k rank a b e f. absurd (let n : None ≡ Some a = e in cc);
  closed = tt;
}

-- ---- push

other_place : (place : ℕ → Option ℕ) (m n j pass : ℕ) → place m ≡ Some j → place n ≡ Some pass → j ≢ pass → n ≢ m
other_place place m n j pass e f ne same = ne (let g : Some j ≡ Some pass = sym e ∙ (ap place (sym same) ∙ f) in cc)

fits_pushed : (seat : ℕ) (ranges : List RankRange) (joined : List (ℕ × List Batch)) (got all : List (ℕ × Batch)) (place : ℕ → Option ℕ) (pass : ℕ) (x : ℕ × Batch) → place x.0 ≡ Some pass → (j : ℕ) (u : View) → j ≢ pass → Fits seat ranges joined got all place j u → Fits seat ranges joined got (all ++ x ∷ []) place j u
fits_pushed seat ranges joined got all place pass x at j (Taking rs js g) ne f = f
fits_pushed seat ranges joined got all place pass x at j (Sending m r s) ne f = (f.0, snoc_other m all x (other_place place m x.0 j pass f.2 at ne) ∙ f.1, f.2)
fits_pushed seat ranges joined got all place pass x at j Spent ne f = tt

closed_pushed : (count : ℕ) (all : List (ℕ × Batch)) (place : ℕ → Option ℕ) (pass : ℕ) (x : ℕ × Batch) → place x.0 ≡ Some pass → (j : ℕ × List Batch) → IsClosed count all place j → IsClosed count (all ++ x ∷ []) place j
closed_pushed count all place pass x at j c = (c.0, snoc_other j.0 all x (λ (same : x.0 ≡ j.0). let g : None ≡ Some pass = sym c.2 ∙ (ap place (sym same) ∙ at) in absurd cc) ∙ c.1, c.2)

lawful_pushed : (ranges : List RankRange) (all : List (ℕ × Batch)) (x : ℕ × Batch) (r : RankRange) (s : List Batch) → slice_get ranges x.0 ≡ Some r → of_child x.0 all ≡ s → IsLawful r (s ++ x.1 ∷ []) → AreLawful ranges all → AreLawful ranges (all ++ x ∷ [])
lawful_pushed ranges all x r s at is law old k range e = elim (cases_eq x.0 k) [
  | inl same ↦
      let is_r : r ≡ range = (let g : Some r ≡ Some range = sym at ∙ (ap (λ i. slice_get ranges i) same ∙ e) in cc) in
      let is_s : s ++ x.1 ∷ [] ≡ of_child k (all ++ x ∷ []) = ap (λ l. l ++ x.1 ∷ []) (sym is ∙ ap (λ i. of_child i all) same) ∙ sym (snoc_same k all x same) in
      subst (λ (p : RankRange × List Batch). IsLawful p.0 p.1) (λ i. (is_r i, is_s i)) law
  | inr other ↦ subst (IsLawful range) (sym (snoc_other k all x other)) (old k range e)
]

pub sends : (v : View) (x : ℕ × Batch) → IsSending v → x.0 ≡ number_of v → IsLawful (range_of v) (sent_of v ++ x.1 ∷ []) → (m pass : ℕ) → Pushes Kept m pass v x (Sends v x)
sends (Taking rs js g) x is n law m pass items views _ h at = absurd is
sends Spent x is n law m pass items views _ h at = absurd is
sends (Sending n r s) x is same law m pass items views _ h at =
    let w : View = Sending n r (s ++ x.1 ∷ []) in
    let mine = h.fits pass (Sending n r s) at in
    let placed : h.place x.0 ≡ Some pass = ap h.place same ∙ mine.2 in
    let ranged : slice_get h.ranges x.0 ≡ Some r = ap (λ i. slice_get h.ranges i) same ∙ mine.0 in
    let was : of_child x.0 h.all ≡ s = ap (λ i. of_child i h.all) same ∙ mine.1 in
    let all = h.all ++ x ∷ [] in (
      w,
      record {
        seat = h.seat;
        ranges = h.ranges;
        joined = h.joined;
        got = h.got;
        all = all;
        place = h.place;
        fits = all_set (Fits h.seat h.ranges h.joined h.got all h.place) views pass w (mine.0, snoc_same n h.all x same ∙ ap (λ l. l ++ x.1 ∷ []) mine.1, mine.2)
            (λ j u ne e. fits_pushed h.seat h.ranges h.joined h.got h.all h.place pass x placed j u ne (h.fits j u e));
        is = ap (λ l. l ++ x ∷ []) h.is ∙ append_assoc h.got items (x ∷ []);
        numbered = all_join (λ (y : ℕ × Batch). y.0 < length h.ranges) h.all (x ∷ []) h.numbered (slice_get_within h.ranges x.0 r ranged, tt);
        lawful = lawful_pushed h.ranges h.all x r s ranged was law h.lawful;
        apart = h.apart;
        closed = all_weaker (IsClosed (length h.ranges) h.all h.place) (IsClosed (length h.ranges) all h.place) h.joined (closed_pushed (length h.ranges) h.all h.place pass x placed) h.closed;
      },
      refl,
    )

-- ---- pop of an entry

fits_taken : (seat : ℕ) (ranges : List RankRange) (joined : List (ℕ × List Batch)) (got more all : List (ℕ × Batch)) (place : ℕ → Option ℕ) (pass : ℕ) → pass ≡ seat → (j : ℕ) (u : View) → j ≢ pass → Fits seat ranges joined got all place j u → Fits seat ranges joined more all place j u
fits_taken seat ranges joined got more all place pass me j (Taking rs js g) ne f = absurd (ne (f.0 ∙ sym me))
fits_taken seat ranges joined got more all place pass me j (Sending m r s) ne f = f
fits_taken seat ranges joined got more all place pass me j Spent ne f = tt

front_of_child : (k : ℕ) (all front rest : List (ℕ × Batch)) → all ≡ front ++ rest → of_child k all ≡ of_child k front ++ of_child k rest
front_of_child k all front rest e = ap (of_child k) e ∙ of_child-append k front rest

lawful_taken : (ranges : List RankRange) (all front rest : List (ℕ × Batch)) → all ≡ front ++ rest → AreLawful ranges all → AreLawful ranges front
lawful_taken ranges all front rest e law k range at = lawful_front range (of_child k front) (of_child k rest) (subst (IsLawful range) (front_of_child k all front rest e) (law k range at))

fronts_taken : (count : ℕ) (all front rest : List (ℕ × Batch)) (place : ℕ → Option ℕ) (joined : List (ℕ × List Batch)) → all ≡ front ++ rest → AllByRecursion (IsClosed count all place) joined → HasFronts joined front
fronts_taken count all front rest place joined e closed = all_weaker (IsClosed count all place) (λ (j : ℕ × List Batch). (more : List Batch) × (j.1 ≡ of_child j.0 front ++ more)) joined (λ j c. (of_child j.0 rest, sym c.1 ∙ front_of_child j.0 all front rest e)) closed

pub takes : (v : View) → IsTaking v → (pass : ℕ) → Pops Kept pass v (Takes v)
takes (Sending n r s) is pass x items views h at = absurd is
takes Spent is pass x items views h at = absurd is
takes (Taking rs js g) is pass x items views h at =
    let mine = h.fits pass (Taking rs js g) at in
    let front = g ++ x ∷ [] in
    let w : View = Taking rs js front in
    let whole : h.all ≡ front ++ items = h.is ∙ (ap (λ l. l ++ x ∷ items) (sym mine.3) ∙ sym (append_assoc g (x ∷ []) items)) in
    let numbered : AreNumbered (length rs) front = all_front (λ (y : ℕ × Batch). y.0 < length rs) front items (subst (λ (p : List RankRange × List (ℕ × Batch)). AreNumbered (length p.0) p.1) (λ i. (sym mine.1 i, whole i)) h.numbered) in
    let lawful : AreLawful rs front = subst (λ l. AreLawful l front) (sym mine.1) (lawful_taken h.ranges h.all front items whole h.lawful) in (
      w,
      record {
        seat = h.seat;
        ranges = h.ranges;
        joined = h.joined;
        got = front;
        all = h.all;
        place = h.place;
        fits = all_set (Fits h.seat h.ranges h.joined front h.all h.place) views pass w (mine.0, mine.1, mine.2, refl)
            (λ j u ne e. fits_taken h.seat h.ranges h.joined h.got front h.all h.place pass mine.0 j u ne (h.fits j u e));
        is = whole;
        numbered = h.numbered;
        lawful = h.lawful;
        apart = h.apart;
        closed = h.closed;
      },
      record {
        is = refl;
        orderly = record { numbered = numbered; apart = subst AreApart (sym mine.1) h.apart; lawful = lawful };
        fronts = subst (λ l. HasFronts l front) (sym mine.2) (fronts_taken (length h.ranges) h.all front items h.place h.joined whole h.closed);
      },
    )

-- ---- pop that finds nothing

pub empties : (v : View) → IsTaking v → (pass : ℕ) → Learns Kept pass v (Empties v)
empties (Sending n r s) is pass items views h at none = absurd is
empties Spent is pass items views h at none = absurd is
empties (Taking rs js g) is pass items views h at none =
    let mine = h.fits pass (Taking rs js g) at in
    let whole : h.all ≡ g = h.is ∙ (ap (λ l. h.got ++ l) none ∙ (append-nil h.got ∙ sym mine.3)) in
    subst (λ l. HasAll l g) (sym mine.2) (all_weaker (IsClosed (length h.ranges) h.all h.place) (λ (j : ℕ × List Batch). of_child j.0 g ≡ j.1) h.joined (λ j c. ap (of_child j.0) (sym whole) ∙ c.1) h.closed)

-- ---- split off a port

placed_here : (place : ℕ → Option ℕ) (n : ℕ) (to : Option ℕ) (k : ℕ) → k ≡ n → cond (k == n) to (place k) ≡ to
placed_here place n to k e = ap (λ (t : Bool). cond t to (place k)) (eq-eqb k n e)

placed_else : (place : ℕ → Option ℕ) (n : ℕ) (to : Option ℕ) (k : ℕ) → k ≢ n → cond (k == n) to (place k) ≡ place k
placed_else place n to k e = ap (λ (t : Bool). cond t to (place k)) (ne_eqb k n e)

fits_grown : (seat : ℕ) (ranges : List RankRange) (range : RankRange) (joined : List (ℕ × List Batch)) (got all : List (ℕ × Batch)) (place : ℕ → Option ℕ) (to : Option ℕ) (pass : ℕ) → pass ≡ seat → (j : ℕ) (u : View) → j ≢ pass → Fits seat ranges joined got all place j u → Fits seat (ranges ++ range ∷ []) joined got all (λ k. cond (k == length ranges) to (place k)) j u
fits_grown seat ranges range joined got all place to pass me j (Taking rs js g) ne f = absurd (ne (f.0 ∙ sym me))
fits_grown seat ranges range joined got all place to pass me j (Sending m r s) ne f =
    let below = slice_get_within ranges m r f.0 in
    (get_longer ranges (range ∷ []) r m f.0, f.1, placed_else place (length ranges) to m (λ (e : m ≡ length ranges). absurd (omega arith)) ∙ f.2)
fits_grown seat ranges range joined got all place to pass me j Spent ne f = tt

longer : {X : Type 0} (xs : List X) (x : X) → length (xs ++ x ∷ []) ≡ length xs + 1
longer xs x = length-append xs (x ∷ [])

pub lawful_grown : (ranges : List RankRange) (range : RankRange) (all : List (ℕ × Batch)) → AreNumbered (length ranges) all → AreLawful ranges all → AreLawful (ranges ++ range ∷ []) all
lawful_grown ranges range all numbered law k other e = ⊎_elim (λ h. law k other h)
    (λ (h : (k ≡ length ranges) × (range ≡ other)). subst (IsLawful other) (sym (child_none (length ranges) k all numbered (let p = h.0 in omega arith))) (lawful_none other)) (get_snoc ranges range other k e)

pub apart_grown : (ranges : List RankRange) (range : RankRange) → AreApart ranges → IsApartFrom ranges range → AreApart (ranges ++ range ∷ [])
apart_grown ranges range apart new j k rank a b e f in_a in_b = elim (get_snoc ranges range a j e) [
  | inl g ↦ elim (get_snoc ranges range b k f) [
    | inl h ↦ apart j k rank a b g h in_a in_b
    | inr h ↦ absurd (new j rank a g in_a (subst (λ (r : RankRange). in_range r rank ≡ true) (sym h.1) in_b))
  ]
  | inr g ↦ elim (get_snoc ranges range b k f) [
    | inl h ↦ absurd (new k rank b h in_b (subst (λ (r : RankRange). in_range r rank ≡ true) (sym g.1) in_a))
    | inr h ↦ g.0 ∙ sym h.0
  ]
]

closed_grown : (ranges : List RankRange) (range : RankRange) (all : List (ℕ × Batch)) (place : ℕ → Option ℕ) (to : Option ℕ) (j : ℕ × List Batch) → IsClosed (length ranges) all place j → IsClosed (length (ranges ++ range ∷ [])) all (λ k. cond (k == length ranges) to (place k)) j
closed_grown ranges range all place to j c =
    let below = c.0 in
    let more = longer ranges range in
    (omega arith, c.1, placed_else place (length ranges) to j.0 (λ (e : j.0 ≡ length ranges). absurd (omega arith)) ∙ c.2)

pub forks : (v : View) (range : RankRange) → IsTaking v → IsApartFrom (ranges_of v) range → (pass : ℕ) → Forks Kept pass v (grown range v) (started range v)
forks (Sending n r s) range is new pass items views h at = absurd is
forks Spent range is new pass items views h at = absurd is
forks (Taking rs js g) range is new pass items views h at =
    let mine = h.fits pass (Taking rs js g) at in
    let left : View = Taking (rs ++ range ∷ []) js g in
    let right : View = Sending (length rs) range [] in
    let vs : List View = set views pass left in
    let place : ℕ → Option ℕ = λ k. cond (k == length h.ranges) (Some (length vs)) (h.place k) in
    let ranges = h.ranges ++ range ∷ [] in
    let same : rs ≡ h.ranges = mine.1 in
    let New : ℕ → View → Type 0 = Fits h.seat ranges h.joined h.got h.all place in
    let old : All New vs = all_set New views pass left (mine.0, ap (λ l. l ++ range ∷ []) same, mine.2, mine.3)
    (λ j u ne e. fits_grown h.seat h.ranges range h.joined h.got h.all h.place (Some (length vs)) pass mine.0 j u ne (h.fits j u e)) in
    let fresh : New (length vs) right = (
      subst (λ l. slice_get ranges (length l) ≡ Some range) (sym same) (get_last h.ranges range),
      child_none (length h.ranges) (length rs) h.all h.numbered (let n = ap length same in omega arith),
      placed_here h.place (length h.ranges) (Some (length vs)) (length rs) (ap length same),
    ) in
    record {
      seat = h.seat;
      ranges = ranges;
      joined = h.joined;
      got = h.got;
      all = h.all;
      place = place;
      fits = λ j u e. ⊎_elim (λ x. old j u x) (λ (last : (j ≡ length vs) × (right ≡ u)). subst (λ (y : ℕ × View). New y.0 y.1) (λ i. (sym last.0 i, last.1 i)) fresh) (at_last_or vs right u j e);
      is = h.is;
      numbered = all_weaker (λ (y : ℕ × Batch). y.0 < length h.ranges) (λ (y : ℕ × Batch). y.0 < length ranges) h.all (λ y b. let more = longer h.ranges range in omega arith) h.numbered;
      lawful = lawful_grown h.ranges range h.all h.numbered h.lawful;
      apart = apart_grown h.ranges range h.apart (subst (λ l. IsApartFrom l range) same new);
      closed = all_weaker (IsClosed (length h.ranges) h.all h.place) (IsClosed (length ranges) h.all place) h.joined (closed_grown h.ranges range h.all h.place (Some (length vs))) h.closed;
    }

-- ---- join a port

fits_joined : (seat : ℕ) (ranges : List RankRange) (joined more : List (ℕ × List Batch)) (got all : List (ℕ × Batch)) (place : ℕ → Option ℕ) (pass other n : ℕ) → pass ≡ seat → place n ≡ Some other → (j : ℕ) (u : View) → j ≢ pass → j ≢ other → Fits seat ranges joined got all place j u → Fits seat ranges more got all (λ k. cond (k == n) None (place k)) j u
fits_joined seat ranges joined more got all place pass other n me at j (Taking rs js g) ne nor f = absurd (ne (f.0 ∙ sym me))
fits_joined seat ranges joined more got all place pass other n me at j (Sending m r s) ne nor f = (f.0, f.1, placed_else place n None m (λ (e : m ≡ n). other_place place m n j other f.2 at nor (sym e)) ∙ f.2)
fits_joined seat ranges joined more got all place pass other n me at j Spent ne nor f = tt

closed_joined : (count : ℕ) (all : List (ℕ × Batch)) (place : ℕ → Option ℕ) (n : ℕ) (j : ℕ × List Batch) → IsClosed count all place j → IsClosed count all (λ k. cond (k == n) None (place k)) j
closed_joined count all place n j c = (c.0, c.1, elim (cases_eq j.0 n) [ inl e ↦ placed_here place n None j.0 e | inr e ↦ placed_else place n None j.0 e ∙ c.2 ])

pub merges : (v w : View) → IsTaking v → IsSending w → (pass other : ℕ) → Merges Kept pass v other w (with_joined v w) Spent
merges (Taking rs js g) (Taking rs' js' g') is and pass other items views h at two at' = absurd and
merges (Taking rs js g) Spent is and pass other items views h at two at' = absurd and
merges (Sending n r s) w is and pass other items views h at two at' = absurd is
merges Spent w is and pass other items views h at two at' = absurd is
merges (Taking rs js g) (Sending n r s) is and pass other items views h at two at' =
    let mine = h.fits pass (Taking rs js g) at in
    let both : View = Taking rs (js ++ (n, s) ∷ []) g in
    let vs : List View = set views pass both in
    let was : get_elem? views other ≡ some (Sending n r s) = ⊎_elim (λ (x : (other ≡ pass) × (both ≡ Sending n r s)). absurd (two x.0)) (λ x. x.1) (at_set views pass other both (Sending n r s) at') in
    let theirs = h.fits other (Sending n r s) was in
    let joined = h.joined ++ (n, s) ∷ [] in
    let place : ℕ → Option ℕ = λ k. cond (k == n) None (h.place k) in
    let New : ℕ → View → Type 0 = Fits h.seat h.ranges joined h.got h.all place in
    let Now : ℕ → View → Type 0 = λ j y. j ≢ other → New j y in
    let now : All Now vs = all_set Now views pass both (λ _. (mine.0, mine.1, ap (λ l. l ++ (n, s) ∷ []) mine.2, mine.3))
    (λ j u ne e nor. fits_joined h.seat h.ranges h.joined joined h.got h.all h.place pass other n mine.0 theirs.2 j u ne nor (h.fits j u e)) in
    record {
      seat = h.seat;
      ranges = h.ranges;
      joined = joined;
      got = h.got;
      all = h.all;
      place = place;
      fits = all_set New vs other Spent tt (λ j u ne e. now j u e ne);
      is = h.is;
      numbered = h.numbered;
      lawful = h.lawful;
      apart = h.apart;
      closed = all_join (IsClosed (length h.ranges) h.all place) h.joined ((n, s) ∷ [])
          (all_weaker (IsClosed (length h.ranges) h.all h.place) (IsClosed (length h.ranges) h.all place) h.joined (closed_joined (length h.ranges) h.all h.place n) h.closed)
          ((slice_get_within h.ranges n r theirs.0, theirs.1, placed_here h.place n None n refl), tt);
    }

pub named_grown : (ranges : List RankRange) (range : RankRange) (all : List (ℕ × Batch)) → AreNumbered (length ranges) all → AreNumbered (length (ranges ++ range ∷ [])) all
named_grown ranges range all numbered = all_weaker (λ (y : ℕ × Batch). y.0 < length ranges) (λ (y : ℕ × Batch). y.0 < length (ranges ++ range ∷ [])) all (λ y b. let more = longer ranges range in omega arith) numbered

pub no_orderly : IsOrderly [] []
no_orderly = record { numbered = tt; apart = λ j k rank a b e f. absurd (let n : None ≡ Some a = e in cc); lawful = λ k range e. lawful_none range }

-- ---- what stays of a taker's view

-- it is a taker's, with these ranges, and what it got is orderly
abbrev pub IsTakerView : View → List RankRange → Type 0
IsTakerView v ranges = IsTaking v × (ranges_of v ≡ ranges) × IsOrderly ranges (got_of v)

of_view : (v : View) (ranges : List RankRange) → IsTakerView v ranges → (v' : View) → v ≡ v' → IsTakerView v' ranges
of_view v ranges is v' e = subst (λ (u : View). IsTakerView u ranges) e is

pub view_joined : (v w v' : View) → v' ≡ with_joined v w → IsTaking v → IsOrderly (ranges_of v) (got_of v) → IsTakerView v' (ranges_of v)
view_joined (Taking rs js g) w v' e is o = of_view (with_joined (Taking rs js g) w) rs (tt, refl, o) v' (sym e)
view_joined (Sending n r s) w v' e is o = absurd is
view_joined Spent w v' e is o = absurd is

pub view_grown : (range : RankRange) (v v' : View) → v' ≡ grown range v → IsTaking v → IsApartFrom (ranges_of v) range → IsOrderly (ranges_of v) (got_of v) → IsTakerView v' (ranges_of v ++ range ∷ [])
view_grown range (Taking rs js g) v' e is new o = of_view (grown range (Taking rs js g)) (rs ++ range ∷ [])
    (tt, refl, record { numbered = named_grown rs range g o.numbered; apart = apart_grown rs range o.apart new; lawful = lawful_grown rs range g o.numbered o.lawful }) v' (sym e)
view_grown range (Sending n r s) v' e is new o = absurd is
view_grown range Spent v' e is new o = absurd is

pub view_taken : (v : View) (x : ℕ × Batch) (v' : View) → Takes v x v' → IsTakerView v' (ranges_of v)
view_taken v x v' t = of_view (Taking (ranges_of v) (joined_of v) (got_of v ++ x ∷ [])) (ranges_of v) (tt, refl, t.orderly) v' (sym t.is)

pub view_popped : (P : Type 0) (Q : ℕ × Batch → Type 0) (v v' : View) (o : Option (ℕ × Batch)) → MatchOption o ((v' ≡ v) × P) (λ x. Takes v x v' × Q x) → IsTaking v → IsOrderly (ranges_of v) (got_of v) → IsTakerView v' (ranges_of v)
view_popped P Q v v' None e is o = of_view v (ranges_of v) (is, refl, o) v' (sym e.0)
view_popped P Q v v' (Some x) e is o = view_taken v x v' e.0
