-- The core is the greatest set of blocked ranks that holds itself.
use Rattle.std.proofs.Common.{◌≡◌, ℕ, zero, suc, ◌+◌, ◌<◌, ◌≤◌, ◌⊎◌, Bool, true, false, not, List, [], ◌∷◌, length, set, Option, Some, None, refl, sym, ap, subst, ◌∙◌, inl, inr, arith, nat_eq}
use Rattle.std.specs.Prelude.{find}
use Rattle.std.specs.Option.{is_some}
use Rattle.std.proofs.lemmas.Bool.{cases_order, cases_Bool, eqb-true, true≢false}
use Rattle.must_call.specs.declared.place.Place.{Place}
use Rattle.must_base.specs.Listing.{Has}
use Rattle.must_wait.specs.Core.{blocked_at, holds, is_held, needs_at, kept_in}
use Rattle.must_wait.specs.CoreLaws.{in_core, HoldsItself}
use Rattle.must_wait.specs.Keeping.{kept_call, holds_yet, kept_count, IsKept, AllHeld}
use Rattle.must_wait.specs.Needs.{Rows, needs_of}
use Rattle.must_wait.specs.Replay.{reached, passed, IsBlocked, IsBlockedList}
use Rattle.must_wait.proofs.BlockedRanks.{is_unpassed}
use Rattle.must_wait.proofs.Kept.{held_more, holds_from, find_has, found, in_kept, one_less, drop_kept, kept_core, core_kept, start_kept}
use Rattle.must_wait.proofs.Listed.{same_place}
use Rattle.must_wait.proofs.Rounds.{and_left, and_right, and_both}
use Rattle.must_wait.proofs.Watched.{rank_of_call}

-- a set that holds itself stays in each round
holds_more : (rows : Rows) (p q : ℕ → Bool) → ((rank : ℕ) → p rank ≡ true → q rank ≡ true) → (place : Place) → holds rows p place ≡ true → holds rows q place ≡ true
holds_more rows p q more place e =
    let unreached = not (reached rows (passed rows) place.rank place.call) in
    and_both unreached (q place.rank) (and_left unreached (p place.rank) e) (more place.rank (and_right unreached (p place.rank) e))

stays_in : (rows : Rows) (blocked : List Place) (set : ℕ → Bool) → HoldsItself rows blocked set → (round rank : ℕ) → set rank ≡ true → kept_in rows blocked round rank ≡ true
stays_in rows blocked set all zero rank e = (all rank e).is_blocked
stays_in rows blocked set all (suc round) rank e =
    and_both (kept_in rows blocked round rank) (is_held (holds rows (kept_in rows blocked round)) (needs_at rows (blocked_at blocked rank))) (stays_in rows blocked set all round rank e)
    (held_more (holds rows set) (holds rows (kept_in rows blocked round)) (holds_more rows set (kept_in rows blocked round) (stays_in rows blocked set all round)) (needs_at rows (blocked_at blocked rank)) (all rank e).is_held)

pub greatest : (rows : Rows) (blocked : List Place) (set : ℕ → Bool) → HoldsItself rows blocked set → (rank : ℕ) → set rank ≡ true → in_core rows blocked rank ≡ true
greatest rows blocked set all = stays_in rows blocked set all (length rows)

-- all blocked ranks from a rank on
abbrev call_in : Option Place → Option ℕ
call_in None = None
call_in (Some place) = Some place.call

abbrev blocked_from : List Place → ℕ → ℕ → List (Option ℕ)
blocked_from blocked at zero = []
blocked_from blocked at (suc n) = call_in (blocked_at blocked at) ∷ blocked_from blocked (at + 1) n

length_from : (blocked : List Place) (at n : ℕ) → length (blocked_from blocked at n) ≡ n
length_from blocked at zero = refl
length_from blocked at (suc n) = omega (arith, length_from blocked (at + 1) n)

call_from : (blocked : List Place) (at n k rank : ℕ) → k < n → rank ≡ at + k → kept_call (blocked_from blocked at n) k ≡ call_in (blocked_at blocked rank)
call_from blocked at zero k rank h e = absurd (omega arith)
call_from blocked at (suc n) zero rank h e = ap (λ r. call_in (blocked_at blocked r)) (let same : at ≡ rank = omega arith in same)
call_from blocked at (suc n) (suc k) rank h e = call_from blocked (at + 1) n k rank (omega arith) (omega arith)

call_found : (o : Option Place) (call : ℕ) → call_in o ≡ Some call → (place : Place) × (o ≡ Some place) × (place.call ≡ call)
call_found None call e = cc
call_found (Some place) call e = (place, refl, (let same : place.call ≡ call = cc in same))

find_gives : (xs : List Place) (rank : ℕ) (p : Place) → find (λ (p : Place). nat_eq p.rank rank) xs ≡ Some p → Has xs p × (p.rank ≡ rank)
find_gives [] rank p e = cc
find_gives (y ∷ ys) rank p e = elim (cases_Bool (nat_eq y.rank rank)) [
  | inl same ↦
      let both : Some y ≡ Some p = rw same at e in
      let is : p ≡ y = cc in
      (inl is, ap (λ (q : Place). q.rank) is ∙ eqb-true y.rank rank same)
  | inr differ ↦ (let r = find_gives ys rank p (rw differ at e) in (inr r.0, r.1))
]

start : (rows : Rows) (blocked : List Place) → IsBlockedList rows blocked → IsKept rows blocked 0 (blocked_from blocked 0 (length rows))
start rows blocked list =
    let n = length rows in
    let kept = blocked_from blocked 0 n in
    start_kept rows blocked kept (length_from blocked 0 n)
    (λ rank call e.
    let f = call_found (blocked_at blocked rank) call (sym (call_from blocked 0 n rank rank (omega (arith, in_kept kept rank call e, length_from blocked 0 n)) (omega arith)) ∙ e) in
    let g = find_gives blocked rank f.0 f.1 in
    subst (IsBlocked rows) (same_place f.0 (record { rank = rank; call = call }) g.1 f.2) ((list.exact f.0).0 g.0))
    (λ p h.
    let inside = rank_of_call rows p.rank p.call (is_unpassed rows p.rank p.call ((list.exact p).0 h)) in
    let f = find_has blocked p.rank p h refl in
    ap is_some (call_from blocked 0 n p.rank p.rank inside (omega arith) ∙ ap call_in f.1))

-- dropping one rank after the other ends where each kept rank is held
abbrev IsFree : Rows → List (Option ℕ) → Type 0
IsFree rows kept = (at : ℕ) × (call : ℕ) × (kept_call kept at ≡ Some call) × (is_held (holds_yet kept) (needs_of rows at call) ≡ false)

abbrev HeldBelow : Rows → List (Option ℕ) → ℕ → Type 0
HeldBelow rows kept n = (rank call : ℕ) → rank < n → kept_call kept rank ≡ Some call → is_held (holds_yet kept) (needs_of rows rank call) ≡ true

free_at : (rows : Rows) (kept : List (Option ℕ)) (n : ℕ) (o : Option ℕ) → kept_call kept n ≡ o → HeldBelow rows kept n → IsFree rows kept ⊎ HeldBelow rows kept (suc n)
free_at rows kept n None e all = inr (λ rank call h k. elim (cases_order rank n) [
  | inl same ↦ (let clash : None ≡ Some call = sym (ap (kept_call kept) same ∙ e) ∙ k in cc)
  | inr (inl below) ↦ all rank call below k
  | inr (inr above) ↦ absurd (omega arith)
])
free_at rows kept n (Some at) e all = elim (cases_Bool (is_held (holds_yet kept) (needs_of rows n at))) [
  | inr free ↦ inl (n, at, e, free)
  | inl held ↦ inr (λ rank call h k. elim (cases_order rank n) [
    | inl same ↦
        let both : Some at ≡ Some call = sym (ap (kept_call kept) same ∙ e) ∙ k in
        let is : at ≡ call = cc in
        subst (λ r. is_held (holds_yet kept) (needs_of rows r call) ≡ true) (sym same) (subst (λ c. is_held (holds_yet kept) (needs_of rows n c) ≡ true) is held)
    | inr (inl below) ↦ all rank call below k
    | inr (inr above) ↦ absurd (omega arith)
  ])
]

some_free : (rows : Rows) (kept : List (Option ℕ)) (n : ℕ) → IsFree rows kept ⊎ HeldBelow rows kept n
some_free rows kept zero = inr (λ rank call h k. absurd (omega arith))
some_free rows kept (suc n) = elim (some_free rows kept n) [
  | inl free ↦ inl free
  | inr all ↦ free_at rows kept n (kept_call kept n) refl all
]

drops : (left : ℕ) (rows : Rows) (blocked : List Place) (n : ℕ) (kept : List (Option ℕ)) → IsBlockedList rows blocked → IsKept rows blocked n kept → kept_count kept ≤ left → (m : ℕ) × (last : List (Option ℕ)) × IsKept rows blocked m last × AllHeld rows last
drops zero rows blocked n kept list k h = elim (some_free rows kept (length kept)) [
  | inr all ↦ (n, kept, k, λ rank call e. all rank call (in_kept kept rank call e) e)
  | inl (at, call, e, free) ↦ absurd (omega (arith, one_less kept at call e))
]
drops (suc left) rows blocked n kept list k h = elim (some_free rows kept (length kept)) [
  | inr all ↦ (n, kept, k, λ rank call e. all rank call (in_kept kept rank call e) e)
  | inl (at, call, e, free) ↦ drops left rows blocked (suc n) (set kept at None) list (drop_kept rows blocked n kept at call list k e free) (omega (arith, one_less kept at call e))
]

pub some_is : (o : Option ℕ) → is_some o ≡ true → (call : ℕ) × (o ≡ Some call)
some_is None e = absurd (true≢false (sym e))
some_is (Some call) e = (call, refl)

pub core_holds : (rows : Rows) (blocked : List Place) → IsBlockedList rows blocked → HoldsItself rows blocked (in_core rows blocked)
core_holds rows blocked list rank e =
    let first = start rows blocked list in
    let l = drops (length rows) rows blocked 0 (blocked_from blocked 0 (length rows)) list first (omega (arith, first.count)) in
    let kept = l.1 in
    let k = l.2 in
    let held = l.3 in
    let c = some_is (kept_call kept rank) (core_kept rows blocked l.0 kept k rank e) in
    let f = found rows blocked rank c.0 list (k.calls rank c.0 c.1) in
    record {
      is_blocked = f.kept;
      is_held = subst (λ o. is_held (holds rows (in_core rows blocked)) o ≡ true) (sym f.needs)
          (held_more (holds_yet kept) (holds rows (in_core rows blocked)) (holds_from rows kept (in_core rows blocked) k.calls (kept_core rows blocked l.0 kept list k held)) (needs_of rows rank c.0) (held rank c.0 c.1));
    }
