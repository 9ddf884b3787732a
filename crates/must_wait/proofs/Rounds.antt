-- The rounds of the replay only grow, and what is passed step by step is what the rounds pass.
use Rattle.std.proofs.Common.{◌≡◌, ℕ, zero, suc, ◌+◌, ◌-◌, ◌<◌, ◌≤◌, ◌⊎◌, Bool, true, false, ◌&&◌, ◌||◌, List, [], ◌∷◌, length, get_or, set, sum, Option, Some, None, is_some, refl, sym, ap, subst, ◌∙◌, inl, inr, arith, slice_index, slice_get, nat_lt}
use Rattle.std.specs.List.{list_all, list_any}
use Rattle.std.proofs.lemmas.Bool.{cases_order, ltb-true, lt-ltb, true≢false, false_from_ne_true}
use Rattle.std.proofs.lemmas.List.{get_or-set_same, get_or-set_other, length-set}
use Rattle.std.proofs.lemmas.List.Sums.{sum_by-set, sum_by-cons}
use Rattle.must_call.specs.declared.place.Place.{Place}
use Rattle.must_wait.specs.Needs.{Needs, Rows, calls_of, needs_of, call_count}
use Rattle.must_wait.specs.Replay.{Marks, follows, reached, some_way, next_round, passed_in, passed, IsBlocked}
use Rattle.must_wait.specs.Counted.{counted, Within, IsSound, IsClosed, IsNext}

pub and_left : (a b : Bool) → (a && b) ≡ true → a ≡ true
and_left true b e = refl
and_left false b e = absurd (true≢false (sym e))

pub and_right : (a b : Bool) → (a && b) ≡ true → b ≡ true
and_right true b e = e
and_right false b e = absurd (true≢false (sym e))

pub and_both : (a b : Bool) → a ≡ true → b ≡ true → (a && b) ≡ true
and_both true b e f = f
and_both false b e f = absurd (true≢false (sym e))

-- tests that hold more often
pub all_more : {X : Type 0} (p q : X → Bool) (xs : List X) → ((x : X) → p x ≡ true → q x ≡ true) → list_all p xs ≡ true → list_all q xs ≡ true
all_more p q [] more e = refl
all_more p q (x ∷ xs) more e = and_both (q x) (list_all q xs) (more x (and_left (p x) (list_all p xs) e)) (all_more p q xs more (and_right (p x) (list_all p xs) e))

or_more : (a b c d : Bool) → (a ≡ true → c ≡ true) → (b ≡ true → d ≡ true) → (a || b) ≡ true → (c || d) ≡ true
or_more true b true d f g e = refl
or_more true b false d f g e = absurd (true≢false (sym (f refl)))
or_more false b true d f g e = refl
or_more false b false d f g e = g e

pub any_more : {X : Type 0} (p q : X → Bool) (xs : List X) → ((x : X) → p x ≡ true → q x ≡ true) → list_any p xs ≡ true → list_any q xs ≡ true
any_more p q [] more e = e
any_more p q (x ∷ xs) more e = or_more (p x) (list_any p xs) (q x) (list_any q xs) (more x) (any_more p q xs more) e

-- more passed calls, more reached calls
follows_more : (m n : Marks) → Within m n → (rank call : ℕ) → follows m rank call ≡ true → follows n rank call ≡ true
follows_more m n more rank zero e = refl
follows_more m n more rank (suc call) e = more rank call e

pub reached_more : (rows : Rows) (m n : Marks) → Within m n → Within (reached rows m) (reached rows n)
reached_more rows m n more rank call e =
    let here = is_some (needs_of rows rank call) in
    and_both here (follows n rank call) (and_left here (follows m rank call) e) (follows_more m n more rank call (and_right here (follows m rank call) e))

pub way_more : (rows : Rows) (m n : Marks) → Within m n → (needs : Option Needs) → some_way rows m needs ≡ true → some_way rows n needs ≡ true
way_more rows m n more None e = e
way_more rows m n more (Some ways) e =
    any_more (list_all (λ (p : Place). reached rows m p.rank p.call)) (list_all (λ (p : Place). reached rows n p.rank p.call)) ways
    (λ way. all_more (λ (p : Place). reached rows m p.rank p.call) (λ (p : Place). reached rows n p.rank p.call) way (λ p. reached_more rows m n more p.rank p.call)) e

pub next_more : (rows : Rows) (m n : Marks) → Within m n → Within (next_round rows m) (next_round rows n)
next_more rows m n more rank call e =
    let r = reached rows m rank call in
    let w = some_way rows m (needs_of rows rank call) in
    and_both (reached rows n rank call) (some_way rows n (needs_of rows rank call)) (reached_more rows m n more rank call (and_left r w e)) (way_more rows m n more (needs_of rows rank call) (and_right r w e))

pub one_later : (rows : Rows) (round : ℕ) → Within (passed_in rows round) (passed_in rows (suc round))
one_later rows zero rank call e = absurd (true≢false (sym e))
one_later rows (suc round) rank call e = next_more rows (passed_in rows round) (passed_in rows (suc round)) (one_later rows round) rank call e

pub much_later : (rows : Rows) (more round late : ℕ) → late ≡ more + round → Within (passed_in rows round) (passed_in rows late)
much_later rows zero round late e rank call p =
    let same : late ≡ round = omega arith in
    subst (λ r. passed_in rows r rank call ≡ true) (sym same) p
much_later rows (suc more) round zero e rank call p = absurd (omega arith)
much_later rows (suc more) round (suc late) e rank call p = one_later rows late rank call (much_later rows more round late (omega arith) rank call p)

-- of each rank the reached calls are those up to the next one
pub follows_to : (done : List ℕ) (rank call : ℕ) → follows (counted done) rank call ≡ true → call ≤ slice_index done rank
follows_to done rank zero e = omega arith
follows_to done rank (suc call) e = omega (arith, ltb-true call (slice_index done rank) e)

pub follows_from : (done : List ℕ) (rank call : ℕ) → call ≤ slice_index done rank → follows (counted done) rank call ≡ true
follows_from done rank zero h = refl
follows_from done rank (suc call) h = lt-ltb call (slice_index done rank) (omega arith)

-- where one more call of a rank is passed
mark_more : (done : List ℕ) (at rank call : ℕ) → at < length done → counted (set done at (slice_index done at + 1)) rank call ≡ true
    → (counted done rank call ≡ true) ⊎ ((rank ≡ at) × (call ≡ slice_index done at))
mark_more done at rank call h e = elim (cases_order rank at) [
  | inl same ↦
      let there : get_or (set done at (get_or done at 0 + 1)) rank 0 ≡ get_or done at 0 + 1 = ap (λ r. get_or (set done at (get_or done at 0 + 1)) r 0) same ∙ get_or-set_same done at (get_or done at 0 + 1) 0 h in
      let below = ltb-true call (get_or (set done at (get_or done at 0 + 1)) rank 0) e in
      elim (cases_order call (get_or done at 0)) [
        | inl equal ↦ inr (same, equal)
        | inr (inl less) ↦ inl (subst (λ r. counted done r call ≡ true) (sym same) (lt-ltb call (get_or done at 0) less))
        | inr (inr more) ↦ absurd (omega arith)
      ]
  | inr (inl less) ↦ inl (subst (λ n. nat_lt call n ≡ true) (get_or-set_other done at rank (get_or done at 0 + 1) 0 (λ q. omega arith)) e)
  | inr (inr more) ↦ inl (subst (λ n. nat_lt call n ≡ true) (get_or-set_other done at rank (get_or done at 0 + 1) 0 (λ q. omega arith)) e)
]

pub sum_more : (done : List ℕ) (at : ℕ) → at < length done → sum (set done at (slice_index done at + 1)) ≡ suc (sum done)
sum_more done at h = omega (arith, sum_by-set (λ (n : ℕ). n) done at (get_or done at 0 + 1) 0 h)

way_is_call : (rows : Rows) (m : Marks) (rank call : ℕ) (needs : Option Needs) → needs_of rows rank call ≡ needs → some_way rows m needs ≡ true → is_some needs ≡ true
way_is_call rows m rank call None e w = absurd (true≢false (sym w))
way_is_call rows m rank call (Some ways) e w = refl

pub some_get : {X : Type 0} (xs : List X) (k : ℕ) → is_some (slice_get xs k) ≡ true → k < length xs
some_get [] k e = absurd (true≢false (sym e))
some_get (x ∷ xs) zero e = omega arith
some_get (x ∷ xs) (suc k) e = omega (arith, some_get xs k e)

-- a reached call that has a way passes in the next round
pub pass_sound : (rows : Rows) (done : List ℕ) (at : ℕ) → IsSound rows done → at < length rows
    → some_way rows (counted done) (needs_of rows at (slice_index done at)) ≡ true → IsSound rows (set done at (slice_index done at + 1))
pass_sound rows done at s h w =
    let here = slice_index done at in
    let in_done : at < length done = omega (arith, s.ranks) in
    let call = way_is_call rows (counted done) at here (needs_of rows at here) refl w in
    let within : here < length (calls_of rows at) = some_get (calls_of rows at) here call in
    let is_next : next_round rows (passed_in rows (sum done)) at here ≡ true =
    and_both (reached rows (passed_in rows (sum done)) at here) (some_way rows (passed_in rows (sum done)) (needs_of rows at here))
    (and_both (is_some (needs_of rows at here)) (follows (passed_in rows (sum done)) at here) call (follows_more (counted done) (passed_in rows (sum done)) s.sound at here (follows_from done at here (omega arith))))
    (way_more rows (counted done) (passed_in rows (sum done)) s.sound (needs_of rows at here) w) in
    record {
      ranks = length-set done at (here + 1) ∙ s.ranks;
      calls = λ rank. elim (cases_order rank at) [
        | inl same ↦ subst (λ r. get_or (set done at (here + 1)) r 0 ≤ length (calls_of rows r)) (sym same) (omega (arith, get_or-set_same done at (here + 1) 0 in_done))
        | inr (inl less) ↦ omega (arith, get_or-set_other done at rank (here + 1) 0 (λ q. omega arith), s.calls rank)
        | inr (inr more) ↦ omega (arith, get_or-set_other done at rank (here + 1) 0 (λ q. omega arith), s.calls rank)
      ];
      sound = λ rank call e. subst (λ n. passed_in rows n rank call ≡ true) (sym (sum_more done at in_done)) (elim (mark_more done at rank call in_done e) [
        | inl old ↦ one_later rows (sum done) rank call (s.sound rank call old)
        | inr (r, c) ↦ subst (λ k. passed_in rows (suc (sum done)) k call ≡ true) (sym r) (subst (λ k. passed_in rows (suc (sum done)) at k ≡ true) (sym c) is_next)
      ]);
    }

-- where no next call can pass, no round passes more
closed_round : (rows : Rows) (done : List ℕ) → IsClosed rows done → (round : ℕ) → Within (passed_in rows round) (counted done)
closed_round rows done closed zero rank call e = absurd (true≢false (sym e))
closed_round rows done closed (suc round) rank call e =
    let m = passed_in rows round in
    let more = closed_round rows done closed round in
    let r = and_left (reached rows m rank call) (some_way rows m (needs_of rows rank call)) e in
    let w = way_more rows m (counted done) more (needs_of rows rank call) (and_right (reached rows m rank call) (some_way rows m (needs_of rows rank call)) e) in
    let f = follows_to done rank call (follows_more m (counted done) more rank call (and_right (is_some (needs_of rows rank call)) (follows m rank call) r)) in
    elim (cases_order call (slice_index done rank)) [
      | inl same ↦ absurd (true≢false (sym w ∙ ap (λ k. some_way rows (counted done) (needs_of rows rank k)) same ∙ closed rank))
      | inr (inl less) ↦ lt-ltb call (slice_index done rank) less
      | inr (inr more) ↦ absurd (omega arith)
    ]

pub sum_fits : (done : List ℕ) (rows : Rows) → length done ≡ length rows → ((rank : ℕ) → slice_index done rank ≤ length (calls_of rows rank)) → sum done ≤ call_count rows
sum_fits [] [] e h = omega arith
sum_fits (d ∷ done) [] e h = absurd (omega arith)
sum_fits [] (calls ∷ rows) e h = absurd (omega arith)
sum_fits (d ∷ done) (calls ∷ rows) e h =
    omega (arith, sum_by-cons (λ (n : ℕ). n) d done, sum_by-cons {X = List Needs} length calls rows, h 0, sum_fits done rows (omega arith) (λ rank. h (suc rank)))

-- the calls that are passed are those that a closed replay has passed
pub passed_to : (rows : Rows) (done : List ℕ) → IsClosed rows done → Within (passed rows) (counted done)
passed_to rows done closed = closed_round rows done closed (call_count rows)

some_more : (a b : ℕ) → a ≤ b → (k : ℕ) × (b ≡ k + a)
some_more a b h = (b - a, omega arith)

pub passed_from : (rows : Rows) (done : List ℕ) → IsSound rows done → Within (counted done) (passed rows)
passed_from rows done s rank call e =
    let few = sum_fits done rows s.ranks s.calls in
    let k = some_more (sum done) (call_count rows) few in
    much_later rows k.0 (sum done) (call_count rows) k.1 rank call (s.sound rank call e)

pub get_some : {X : Type 0} (xs : List X) (k : ℕ) → k < length xs → is_some (slice_get xs k) ≡ true
get_some [] k h = absurd (omega arith)
get_some (x ∷ xs) zero h = refl
get_some (x ∷ xs) (suc k) h = get_some xs k (omega arith)

-- the blocked calls are the next ones
pub blocked_next : (rows : Rows) (done : List ℕ) → IsSound rows done → IsClosed rows done → (place : Place) → IsBlocked rows place → IsNext rows done place
blocked_next rows done s closed place b =
    let call = is_some (needs_of rows place.rank place.call) in
    let f = follows_to done place.rank place.call (follows_more (passed rows) (counted done) (passed_to rows done closed) place.rank place.call (and_right call (follows (passed rows) place.rank place.call) b.is_reached)) in
    record {
      next = elim (cases_order place.call (slice_index done place.rank)) [
        | inl same ↦ same
        | inr (inl less) ↦ absurd (true≢false (sym (passed_from rows done s place.rank place.call (lt-ltb place.call (slice_index done place.rank) less)) ∙ b.not_passed))
        | inr (inr more) ↦ absurd (omega arith)
      ];
      is_call = and_left call (follows (passed rows) place.rank place.call) b.is_reached;
    }

pub next_blocked : (rows : Rows) (done : List ℕ) → IsSound rows done → IsClosed rows done → (place : Place) → IsNext rows done place → IsBlocked rows place
next_blocked rows done s closed place n = record {
  is_reached = and_both (is_some (needs_of rows place.rank place.call)) (follows (passed rows) place.rank place.call) n.is_call
      (follows_more (counted done) (passed rows) (passed_from rows done s) place.rank place.call (follows_from done place.rank place.call (omega (arith, n.next))));
  not_passed = false_from_ne_true (passed rows place.rank place.call) (λ e. let less = ltb-true place.call (slice_index done place.rank) (passed_to rows done closed place.rank place.call e) in absurd (omega (arith, n.next)));
}

-- what is passed is passed up to a call
one_before : (rows : Rows) (round rank call : ℕ) → passed_in rows round rank (suc call) ≡ true → passed_in rows round rank call ≡ true
one_before rows zero rank call e = absurd (true≢false (sym e))
one_before rows (suc round) rank call e =
    let m = passed_in rows round in
    let r = and_left (reached rows m rank (suc call)) (some_way rows m (needs_of rows rank (suc call))) e in
    one_later rows round rank call (and_right (is_some (needs_of rows rank (suc call))) (m rank call) r)

all_before : (rows : Rows) (round rank early late : ℕ) → early ≤ late → passed_in rows round rank late ≡ true → passed_in rows round rank early ≡ true
all_before rows round rank early zero h e = subst (λ k. passed_in rows round rank k ≡ true) (let same : zero ≡ early = omega arith in same) e
all_before rows round rank early (suc late) h e = elim (cases_order early (suc late)) [
  | inl same ↦ subst (λ k. passed_in rows round rank k ≡ true) (sym same) e
  | inr (inl less) ↦ all_before rows round rank early late (omega arith) (one_before rows round rank late e)
  | inr (inr more) ↦ absurd (omega arith)
]

-- of a blocked rank the calls up to the blocked one are reached, and no others
pub reached_to : (rows : Rows) (rank at call : ℕ) → IsBlocked rows (record { rank = rank; call = at }) → reached rows (passed rows) rank call ≡ true → call ≤ at
reached_to rows rank at zero b e = omega arith
reached_to rows rank at (suc call) b e = elim (cases_order call at) [
  | inl same ↦ absurd (true≢false (sym (subst (λ k. passed rows rank k ≡ true) same (and_right (is_some (needs_of rows rank (suc call))) (passed rows rank call) e)) ∙ b.not_passed))
  | inr (inl less) ↦ omega arith
  | inr (inr more) ↦ absurd (true≢false (sym (all_before rows (call_count rows) rank at call (omega arith) (and_right (is_some (needs_of rows rank (suc call))) (passed rows rank call) e)) ∙ b.not_passed))
]

follows_before : (rows : Rows) (rank at call : ℕ) → call ≤ at → follows (passed rows) rank at ≡ true → follows (passed rows) rank call ≡ true
follows_before rows rank at zero h e = refl
follows_before rows rank zero (suc call) h e = absurd (omega arith)
follows_before rows rank (suc at) (suc call) h e = all_before rows (call_count rows) rank call at (omega arith) e

pub reached_from : (rows : Rows) (rank at call : ℕ) → IsBlocked rows (record { rank = rank; call = at }) → call ≤ at → reached rows (passed rows) rank call ≡ true
reached_from rows rank at call b h =
    let is_call = some_get (calls_of rows rank) at (and_left (is_some (needs_of rows rank at)) (follows (passed rows) rank at) b.is_reached) in
    and_both (is_some (needs_of rows rank call)) (follows (passed rows) rank call) (get_some (calls_of rows rank) call (omega arith))
    (follows_before rows rank at call h (and_right (is_some (needs_of rows rank at)) (follows (passed rows) rank at) b.is_reached))
