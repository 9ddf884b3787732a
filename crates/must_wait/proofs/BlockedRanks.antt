-- Which ranks are blocked, and which places are reached.
use Rattle.std.proofs.Common.{◌≡◌, ℕ, zero, suc, ◌<◌, ◌≤◌, true, false, List, [], ◌∷◌, length, get_or, Less, Equal, Greater, refl, sym, subst, ◌∙◌, inl, inr, arith, slice_index}
use lib.Dec.{leb}
use Rattle.std.specs.Cmp.{nat_cmp_is}
use Rattle.std.specs.List.{AllByRecursion}
use Rattle.std.specs.Option.{is_some}
use Rattle.std.specs.Ordering.{nat_cmp, ordering_then}
use Rattle.std.proofs.lemmas.Cmp.{ranked}
use Rattle.std.proofs.lemmas.Bool.{cases_order, cases_Bool, lt-ltb, leb-true, le-leb, true≢false, false_from_ne_true}
use Rattle.must_call.specs.declared.place.Place.{Place}
use Rattle.must_base.specs.Listing.{Rises}
use Rattle.must_base.specs.ListingLaws.{rises_head, rises_tail}
use Rattle.must_find.specs.Order.{by_spot}
use Rattle.must_wait.specs.Needs.{Rows, calls_of, needs_of}
use Rattle.must_wait.specs.Replay.{follows, reached, passed, IsBlocked}
use Rattle.must_wait.proofs.Kept.{same_call}
use Rattle.must_wait.proofs.Least.{ended}
use Rattle.must_wait.proofs.Listed.{same_place}
use Rattle.must_wait.proofs.Rounds.{and_left, and_both, some_get, get_some, passed_from, next_blocked, reached_to, reached_from}

pub one_blocked : (rows : Rows) (place other : Place) → IsBlocked rows place → IsBlocked rows other → place.rank ≡ other.rank → place ≡ other
one_blocked rows place other b c e =
    let moved : record { rank = place.rank; call = other.call } ≡ other = same_place (record { rank = place.rank; call = other.call }) other e refl in
    same_place place other e (same_call rows place.rank place.call other.call b (subst (IsBlocked rows) (sym moved) c))

-- a rank with a call that isn't passed is blocked
pub blocked_of : (rows : Rows) (rank call : ℕ) → is_some (needs_of rows rank call) ≡ true → passed rows rank call ≡ false → (at : ℕ) × IsBlocked rows (record { rank = rank; call = at })
blocked_of rows rank call e stays =
    let l = ended rows in
    let next = slice_index l.0 rank in
    let late : next ≤ call = elim (cases_order call next) [
      | inl same ↦ omega arith
      | inr (inl less) ↦ absurd (true≢false (sym (passed_from rows l.0 l.1 rank call (lt-ltb call next less)) ∙ stays))
      | inr (inr more) ↦ omega arith
    ] in
    let here = get_some (calls_of rows rank) next (omega (arith, some_get (calls_of rows rank) call e)) in
    (next, next_blocked rows l.0 l.1 l.2 (record { rank = rank; call = next }) (record { next = refl; is_call = here }))

pub is_unpassed : (rows : Rows) (rank call : ℕ) → IsBlocked rows (record { rank = rank; call = call }) → is_some (needs_of rows rank call) ≡ true
is_unpassed rows rank call b = and_left (is_some (needs_of rows rank call)) (follows (passed rows) rank call) b.is_reached

-- of a rank that isn't blocked all calls are reached
all_passed : (rows : Rows) (rank : ℕ) → ((at : ℕ) → IsBlocked rows (record { rank = rank; call = at }) → ⊥) → (call : ℕ) → is_some (needs_of rows rank call) ≡ true → passed rows rank call ≡ true
all_passed rows rank none call e = elim (cases_Bool (passed rows rank call)) [
  | inl is ↦ is
  | inr stays ↦ (let b = blocked_of rows rank call e stays in absurd (none b.0 b.1))
]

all_follow : (rows : Rows) (rank : ℕ) → ((at : ℕ) → IsBlocked rows (record { rank = rank; call = at }) → ⊥) → (call : ℕ) → is_some (needs_of rows rank call) ≡ true → follows (passed rows) rank call ≡ true
all_follow rows rank none zero e = refl
all_follow rows rank none (suc call) e = all_passed rows rank none call (get_some (calls_of rows rank) call (omega (arith, some_get (calls_of rows rank) (suc call) e)))

pub all_reached : (rows : Rows) (rank : ℕ) → ((at : ℕ) → IsBlocked rows (record { rank = rank; call = at }) → ⊥) → (call : ℕ) → is_some (needs_of rows rank call) ≡ reached rows (passed rows) rank call
all_reached rows rank none call = elim (cases_Bool (is_some (needs_of rows rank call))) [
  | inl here ↦ here ∙ sym (and_both (is_some (needs_of rows rank call)) (follows (passed rows) rank call) here (all_follow rows rank none call here))
  | inr not_there ↦ rw not_there refl
]

-- by spot the ranks never fall
rank_order : (s t : Place) → by_spot s t ≡ Less → s.rank ≤ t.rank
rank_order s t e = elim (cases_order s.rank t.rank) [
  | inl same ↦ omega arith
  | inr (inl less) ↦ omega arith
  | inr (inr more) ↦ (let greater : Greater ≡ nat_cmp s.rank t.rank = nat_cmp_is s.rank t.rank Greater more in
      let clash : Greater ≡ Less = subst (λ o. ordering_then o (nat_cmp s.call t.call) ≡ Less) (sym greater) e in cc)
]

all_get : (P : Place → Type 0) (xs : List Place) (k : ℕ) (d : Place) → AllByRecursion P xs → k < length xs → P (get_or xs k d)
all_get P [] k d all h = absurd (omega arith)
all_get P (x ∷ xs) zero d all h = all.0
all_get P (x ∷ xs) (suc k) d all h = all_get P xs k d all.1 (omega arith)

pub ranks_rise : (xs : List Place) (j k : ℕ) (d e : Place) → Rises by_spot xs → j ≤ k → k < length xs → (get_or xs j d).rank ≤ (get_or xs k e).rank
ranks_rise [] j k d e r h less = absurd (omega arith)
ranks_rise (x ∷ xs) zero zero d e r h less = omega arith
ranks_rise (x ∷ xs) zero (suc k) d e r h less = rank_order x (get_or xs k e) (all_get (λ y. by_spot x y ≡ Less) xs k e (rises_head by_spot x xs r) (omega arith))
ranks_rise (x ∷ xs) (suc j) zero d e r h less = absurd (omega arith)
ranks_rise (x ∷ xs) (suc j) (suc k) d e r h less = ranks_rise xs j k d e (rises_tail by_spot x xs r) (omega arith) (omega arith)

-- a rank that is not below nor equal, by its answer
pub less_by : (a b : ℕ) → Less ≡ nat_cmp a b → a < b
less_by a b e = ranked a b Less e

pub above_by : (a b : ℕ) → Greater ≡ nat_cmp a b → b < a
above_by a b e = ranked a b Greater e

pub equal_by : (a b : ℕ) → Equal ≡ nat_cmp a b → a ≡ b
equal_by a b e = ranked a b Equal e

-- the calls of a blocked rank that are reached
pub reached_at : (rows : Rows) (rank at call : ℕ) → IsBlocked rows (record { rank = rank; call = at }) → leb call at ≡ reached rows (passed rows) rank call
reached_at rows rank at call b = elim (cases_Bool (leb call at)) [
  | inl below ↦ below ∙ sym (reached_from rows rank at call b (leb-true call at below))
  | inr above ↦ above ∙ sym (false_from_ne_true (reached rows (passed rows) rank call) (λ e. true≢false (sym (le-leb call at (reached_to rows rank at call b e)) ∙ above)))
]
