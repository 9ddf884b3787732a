-- The passed calls are the least closed set of calls.
use Rattle.std.proofs.Common.{◌≡◌, ℕ, zero, suc, ◌+◌, ◌<◌, ◌≤◌, ◌⊎◌, true, false, List, length, set, sum, replicate, refl, sym, ap, subst, ◌∙◌, inl, inr, arith, slice_index}
use Rattle.std.specs.Option.{is_some}
use Rattle.std.proofs.lemmas.Bool.{cases_order, cases_Bool, lt-ltb, true≢false, false_from_ne_true}
use Rattle.must_wait.specs.Counted.{counted, Within, IsSound, IsClosed}
use Rattle.must_wait.specs.Needs.{Rows, needs_of, call_count}
use Rattle.must_wait.specs.Replay.{Marks, follows, reached, some_way, next_round, passed_in, passed}
use Rattle.must_wait.proofs.Rounds.{and_left, and_right, next_more, follows_to, pass_sound, sum_more, sum_fits, passed_to, passed_from}
use Rattle.must_wait.proofs.Watched.{start_sound, call_with_way, rank_of_call}

-- either some rank's next call can pass, or none of the first ranks' can
some_opens : (rows : Rows) (done : List ℕ) (n : ℕ) → ((at : ℕ) × (some_way rows (counted done) (needs_of rows at (slice_index done at)) ≡ true)) ⊎ ((rank : ℕ) → rank < n → some_way rows (counted done) (needs_of rows rank (slice_index done rank)) ≡ false)
some_opens rows done zero = inr (λ rank h. absurd (omega arith))
some_opens rows done (suc n) = elim (cases_Bool (some_way rows (counted done) (needs_of rows n (slice_index done n)))) [
  | inl opens ↦ inl (n, opens)
  | inr stays ↦ elim (some_opens rows done n) [
    | inl o ↦ inl o
    | inr all ↦ inr (λ rank h. elim (cases_order rank n) [
      | inl same ↦ subst (λ r. some_way rows (counted done) (needs_of rows r (slice_index done r)) ≡ false) (sym same) stays
      | inr (inl below) ↦ all rank below
      | inr (inr above) ↦ absurd (omega arith)
    ])
  ]
]

rank_opens : (rows : Rows) (done : List ℕ) (at : ℕ) → some_way rows (counted done) (needs_of rows at (slice_index done at)) ≡ true → at < length rows
rank_opens rows done at w = rank_of_call rows at (slice_index done at) (call_with_way rows (counted done) (needs_of rows at (slice_index done at)) w)

closed_if : (rows : Rows) (done : List ℕ) → ((rank : ℕ) → rank < length rows → some_way rows (counted done) (needs_of rows rank (slice_index done rank)) ≡ false) → IsClosed rows done
closed_if rows done all rank = false_from_ne_true (some_way rows (counted done) (needs_of rows rank (slice_index done rank))) (λ w. true≢false (sym w ∙ all rank (rank_opens rows done rank w)))

-- passing one call after the other ends where none can pass
one_more : (rows : Rows) (done : List ℕ) (at : ℕ) → IsSound rows done → some_way rows (counted done) (needs_of rows at (slice_index done at)) ≡ true
    → IsSound rows (set done at (slice_index done at + 1)) × (sum (set done at (slice_index done at + 1)) ≡ suc (sum done)) × (suc (sum done) ≤ call_count rows)
one_more rows done at s w =
    let inside = rank_opens rows done at w in
    let more = pass_sound rows done at s inside w in
    let in_done : at < length done = omega (arith, s.ranks) in
    let grown = sum_more done at in_done in
    (more, grown, omega (arith, grown, sum_fits (set done at (slice_index done at + 1)) rows more.ranks more.calls))

ends : (left : ℕ) (rows : Rows) (done : List ℕ) → IsSound rows done → call_count rows ≤ left + sum done → (last : List ℕ) × IsSound rows last × IsClosed rows last
ends zero rows done s h = elim (some_opens rows done (length rows)) [
  | inr all ↦ (done, s, closed_if rows done all)
  | inl (at, w) ↦ (let more = one_more rows done at s w in absurd (omega (arith, more.2)))
]
ends (suc left) rows done s h = elim (some_opens rows done (length rows)) [
  | inr all ↦ (done, s, closed_if rows done all)
  | inl (at, w) ↦ (let more = one_more rows done at s w in ends left rows (set done at (slice_index done at + 1)) more.0 (omega (arith, more.1)))
]

-- a replay that has ended
pub ended : (rows : Rows) → (done : List ℕ) × IsSound rows done × IsClosed rows done
ended rows = ends (call_count rows) rows (replicate (length rows) 0) (start_sound rows (replicate (length rows) 0) refl) (omega arith)

-- a closed set has each passed call
pub least : (rows : Rows) (m : Marks) → Within (next_round rows m) m → (round : ℕ) → Within (passed_in rows round) m
least rows m closed zero rank call e = absurd (true≢false (sym e))
least rows m closed (suc round) rank call e = closed rank call (next_more rows (passed_in rows round) m (least rows m closed round) rank call e)

-- and the passed calls are closed
pub closed : (rows : Rows) → Within (next_round rows (passed rows)) (passed rows)
closed rows rank call e =
    let l = ended rows in
    let done = l.0 in
    let n = next_more rows (passed rows) (counted done) (passed_to rows done l.2) rank call e in
    let r = and_left (reached rows (counted done) rank call) (some_way rows (counted done) (needs_of rows rank call)) n in
    let w = and_right (reached rows (counted done) rank call) (some_way rows (counted done) (needs_of rows rank call)) n in
    let f = follows_to done rank call (and_right (is_some (needs_of rows rank call)) (follows (counted done) rank call) r) in
    elim (cases_order call (slice_index done rank)) [
      | inl same ↦ absurd (true≢false (sym w ∙ ap (λ k. some_way rows (counted done) (needs_of rows rank k)) same ∙ l.2 rank))
      | inr (inl less) ↦ passed_from rows done l.1 rank call (lt-ltb call (slice_index done rank) less)
      | inr (inr more) ↦ absurd (omega arith)
    ]
