-- Ranks that are dropped one by one leave what the rounds leave.
use Rattle.std.proofs.Common.{◌≡◌, ℕ, zero, suc, ◌+◌, ◌-◌, ◌<◌, ◌≤◌, ◌⊎◌, Bool, true, false, not, cond, List, [], ◌∷◌, ◌++◌, length, get_or, set, Option, Some, None, refl, sym, ap, subst, ◌∙◌, inl, inr, arith, nat_eq, eq-eqb}
use Rattle.std.specs.Prelude.{find}
use Rattle.std.specs.List.{list_all, list_any}
use Rattle.std.specs.Option.{is_some}
use Rattle.std.specs.Ordering.{nat_cmp}
use Rattle.std.proofs.lemmas.Bool.{cases_order, cases_eq, cases_Bool, ltb-true, lt-ltb, eqb-true, true≢false, false_from_ne_true}
use Rattle.std.proofs.lemmas.List.{get_or-set_same, get_or-set_other, length-set}
use Rattle.std.proofs.lemmas.List.Sums.{sum_by-set, sum_by-cons}
use Rattle.must_call.specs.declared.place.Place.{Place}
use Rattle.must_base.specs.Listing.{Has, Lists}
use Rattle.must_base.specs.ListingLaws.{rises_nil}
use Rattle.must_wait.specs.Core.{blocked_at, holds, is_held, needs_at, kept_in}
use Rattle.must_wait.specs.Keeping.{kept_call, behind, holds_yet, kept_count, IsKept, AllHeld}
use Rattle.must_wait.specs.Needs.{Needs, Rows, needs_of}
use Rattle.must_wait.specs.Replay.{reached, passed, IsBlocked, IsBlockedList}
use Rattle.must_wait.proofs.Listed.{rises_last, has_more, has_last, has_or, less_is, same_place}
use Rattle.must_wait.proofs.Rounds.{and_left, and_right, and_both, all_more, any_more, reached_to, reached_from}

pub held_more : (p q : Place → Bool) → ((place : Place) → p place ≡ true → q place ≡ true) → (needs : Option Needs) → is_held p needs ≡ true → is_held q needs ≡ true
held_more p q more None e = e
held_more p q more (Some ways) e =
    let some = not (nat_eq (length ways) 0) in
    and_both some (list_all (list_any q) ways) (and_left some (list_all (list_any p) ways) e)
    (all_more (list_any p) (list_any q) ways (λ way. any_more p q way more) (and_right some (list_all (list_any p) ways) e))

kept_before : (rows : Rows) (blocked : List Place) (more round late : ℕ) → late ≡ more + round → (rank : ℕ) → kept_in rows blocked late rank ≡ true → kept_in rows blocked round rank ≡ true
kept_before rows blocked zero round late e rank k = subst (λ r. kept_in rows blocked r rank ≡ true) (let same : late ≡ round = omega arith in same) k
kept_before rows blocked (suc more) round zero e rank k = absurd (omega arith)
kept_before rows blocked (suc more) round (suc late) e rank k =
    kept_before rows blocked more round late (omega arith) rank (and_left (kept_in rows blocked late rank) (is_held (holds rows (kept_in rows blocked late)) (needs_at rows (blocked_at blocked rank))) k)

pub not_true : (b : Bool) → b ≡ false → not b ≡ true
not_true true e = absurd (true≢false e)
not_true false e = refl

pub not_false : (b : Bool) → not b ≡ true → b ≡ false
not_false true e = absurd (true≢false (sym e))
not_false false e = refl

-- a place holds, in terms of the blocked call of its rank
behind_kept : (rows : Rows) (rank at : ℕ) (o : Option ℕ) → is_some o ≡ true → ((call : ℕ) → o ≡ Some call → IsBlocked rows (record { rank = rank; call = call })) → reached rows (passed rows) rank at ≡ false → behind o at ≡ true
behind_kept rows rank at None e b unreached = absurd (true≢false (sym e))
behind_kept rows rank at (Some call) e b unreached = elim (cases_order call at) [
  | inl same ↦ absurd (true≢false (sym (reached_from rows rank call at (b call refl) (omega arith)) ∙ unreached))
  | inr (inl less) ↦ lt-ltb call at less
  | inr (inr more) ↦ absurd (true≢false (sym (reached_from rows rank call at (b call refl) (omega arith)) ∙ unreached))
]

kept_behind : (rows : Rows) (rank at : ℕ) (o : Option ℕ) → ((call : ℕ) → o ≡ Some call → IsBlocked rows (record { rank = rank; call = call })) → behind o at ≡ true → (reached rows (passed rows) rank at ≡ false) × (is_some o ≡ true)
kept_behind rows rank at None b e = absurd (true≢false (sym e))
kept_behind rows rank at (Some call) b e =
    let less = ltb-true call at e in
    (false_from_ne_true (reached rows (passed rows) rank at) (λ r. absurd (let low = reached_to rows rank call at (b call refl) r in omega arith)), refl)

holds_to : (rows : Rows) (blocked : List Place) (n : ℕ) (kept : List (Option ℕ)) → IsKept rows blocked n kept → (q : Place) → holds rows (kept_in rows blocked n) q ≡ true → holds_yet kept q ≡ true
holds_to rows blocked n kept k q e =
    let unreached = not (reached rows (passed rows) q.rank q.call) in
    behind_kept rows q.rank q.call (kept_call kept q.rank) (k.all q.rank (and_right unreached (kept_in rows blocked n q.rank) e)) (k.calls q.rank) (not_false (reached rows (passed rows) q.rank q.call) (and_left unreached (kept_in rows blocked n q.rank) e))

pub holds_from : (rows : Rows) (kept : List (Option ℕ)) (keeps : ℕ → Bool) → ((rank call : ℕ) → kept_call kept rank ≡ Some call → IsBlocked rows (record { rank = rank; call = call }))
    → ((rank : ℕ) → is_some (kept_call kept rank) ≡ true → keeps rank ≡ true) → (q : Place) → holds_yet kept q ≡ true → holds rows keeps q ≡ true
holds_from rows kept keeps calls all q e =
    let b = kept_behind rows q.rank q.call (kept_call kept q.rank) (calls q.rank) e in
    and_both (not (reached rows (passed rows) q.rank q.call)) (keeps q.rank) (not_true (reached rows (passed rows) q.rank q.call) b.0) (all q.rank b.1)

-- the blocked call that is found for a rank
pub find_has : (xs : List Place) (rank : ℕ) (x : Place) → Has xs x → x.rank ≡ rank → (p : Place) × (find (λ (p : Place). nat_eq p.rank rank) xs ≡ Some p) × Has xs p × (p.rank ≡ rank)
find_has [] rank x h e = absurd h
find_has (y ∷ ys) rank x h e = elim (cases_Bool (nat_eq y.rank rank)) [
  | inl same ↦ (y, (rw same refl), inl refl, eqb-true y.rank rank same)
  | inr differ ↦ elim h [
    | inl here ↦ absurd (true≢false (sym (eq-eqb y.rank rank (ap (λ (p : Place). p.rank) (sym here) ∙ e)) ∙ differ))
    | inr there ↦ (let r = find_has ys rank x there e in (r.0, (rw differ r.1), inr r.2, r.3))
  ]
]

pub same_call : (rows : Rows) (rank a b : ℕ) → IsBlocked rows (record { rank = rank; call = a }) → IsBlocked rows (record { rank = rank; call = b }) → a ≡ b
same_call rows rank a b one two = let low = reached_to rows rank a b one two.is_reached in let high = reached_to rows rank b a two one.is_reached in omega arith

pub record Found (rows : Rows) (blocked : List Place) (rank call : ℕ) : Type 0 where
  pub kept : is_some (blocked_at blocked rank) ≡ true
  pub needs : needs_at rows (blocked_at blocked rank) ≡ needs_of rows rank call

pub found : (rows : Rows) (blocked : List Place) (rank call : ℕ) → IsBlockedList rows blocked → IsBlocked rows (record { rank = rank; call = call }) → Found rows blocked rank call
found rows blocked rank call list b =
    let f = find_has blocked rank (record { rank = rank; call = call }) ((list.exact (record { rank = rank; call = call })).1 b) refl in
    let p = f.0 in
    let here : IsBlocked rows p = (list.exact p).0 f.2 in
    let same : record { rank = rank; call = p.call } ≡ p = same_place (record { rank = rank; call = p.call }) p (sym f.3) refl in
    let is : p.call ≡ call = same_call rows rank p.call call (subst (IsBlocked rows) (sym same) here) b in
    record {
      kept = ap is_some f.1;
      needs = ap (needs_at rows) f.1 ∙ ap (λ r. needs_of rows r p.call) f.3 ∙ ap (needs_of rows rank) is;
    }

-- one more rank is dropped
pub in_kept : (kept : List (Option ℕ)) (at call : ℕ) → kept_call kept at ≡ Some call → at < length kept
in_kept [] at call e = cc
in_kept (o ∷ kept) zero call e = omega arith
in_kept (o ∷ kept) (suc at) call e = omega (arith, in_kept kept at call e)

pub one_less : (kept : List (Option ℕ)) (at call : ℕ) → kept_call kept at ≡ Some call → kept_count (set kept at None) + 1 ≡ kept_count kept
one_less kept at call e =
    let f : Option ℕ → ℕ = λ o. cond (is_some o) 1 0 in
    omega (arith, sum_by-set f kept at None None (in_kept kept at call e), ap f e)

pub drop_kept : (rows : Rows) (blocked : List Place) (n : ℕ) (kept : List (Option ℕ)) (at call : ℕ) → IsBlockedList rows blocked → IsKept rows blocked n kept → kept_call kept at ≡ Some call
    → is_held (holds_yet kept) (needs_of rows at call) ≡ false → IsKept rows blocked (suc n) (set kept at None)
drop_kept rows blocked n kept at call list k e free =
    let inside = in_kept kept at call e in
    record {
      ranks = length-set kept at None ∙ k.ranks;
      calls = λ rank other h. elim (cases_eq rank at) [
        | inl same ↦ absurd (let none : kept_call (set kept at None) rank ≡ None = ap (λ r. get_or (set kept at None) r None) same ∙ get_or-set_same kept at None None inside in let clash : None ≡ Some other = sym none ∙ h in cc)
        | inr ne ↦ k.calls rank other (sym (get_or-set_other kept at rank None None ne) ∙ h)
      ];
      all = λ rank h. (let was = and_left (kept_in rows blocked n rank) (is_held (holds rows (kept_in rows blocked n)) (needs_at rows (blocked_at blocked rank))) h in
          let held = and_right (kept_in rows blocked n rank) (is_held (holds rows (kept_in rows blocked n)) (needs_at rows (blocked_at blocked rank))) h in
          elim (cases_eq rank at) [
            | inl same ↦ absurd (let f = found rows blocked at call list (k.calls at call e) in
                let yet = held_more (holds rows (kept_in rows blocked n)) (holds_yet kept) (holds_to rows blocked n kept k) (needs_at rows (blocked_at blocked rank)) held in
                true≢false (sym yet ∙ ap (λ r. is_held (holds_yet kept) (needs_at rows (blocked_at blocked r))) same ∙ ap (is_held (holds_yet kept)) f.needs ∙ free))
            | inr ne ↦ ap is_some (get_or-set_other kept at rank None None ne) ∙ k.all rank was
          ]);
      count = omega (arith, one_less kept at call e, k.count);
    }

-- where each kept rank is held, every round keeps it
kept_always : (rows : Rows) (blocked : List Place) (n : ℕ) (kept : List (Option ℕ)) → IsBlockedList rows blocked → IsKept rows blocked n kept → AllHeld rows kept → (round rank : ℕ) (o : Option ℕ) → kept_call kept rank ≡ o → is_some o ≡ true → kept_in rows blocked round rank ≡ true
kept_always rows blocked n kept list k held round rank None e s = absurd (true≢false (sym s))
kept_always rows blocked n kept list k held zero rank (Some call) e s = (found rows blocked rank call list (k.calls rank call e)).kept
kept_always rows blocked n kept list k held (suc round) rank (Some call) e s =
    let f = found rows blocked rank call list (k.calls rank call e) in
    and_both (kept_in rows blocked round rank) (is_held (holds rows (kept_in rows blocked round)) (needs_at rows (blocked_at blocked rank)))
    (kept_always rows blocked n kept list k held round rank (Some call) e s)
    (subst (λ o. is_held (holds rows (kept_in rows blocked round)) o ≡ true) (sym f.needs)
    (held_more (holds_yet kept) (holds rows (kept_in rows blocked round)) (holds_from rows kept (kept_in rows blocked round) k.calls (λ r t. kept_always rows blocked n kept list k held round r (kept_call kept r) refl t)) (needs_of rows rank call) (held rank call e)))

some_more : (a b : ℕ) → a ≤ b → (k : ℕ) × (b ≡ k + a)
some_more a b h = (b - a, omega arith)

pub kept_core : (rows : Rows) (blocked : List Place) (n : ℕ) (kept : List (Option ℕ)) → IsBlockedList rows blocked → IsKept rows blocked n kept → AllHeld rows kept → (rank : ℕ) → is_some (kept_call kept rank) ≡ true → kept_in rows blocked (length rows) rank ≡ true
kept_core rows blocked n kept list k held rank s = kept_always rows blocked n kept list k held (length rows) rank (kept_call kept rank) refl s

pub core_kept : (rows : Rows) (blocked : List Place) (n : ℕ) (kept : List (Option ℕ)) → IsKept rows blocked n kept → (rank : ℕ) → kept_in rows blocked (length rows) rank ≡ true → is_some (kept_call kept rank) ≡ true
core_kept rows blocked n kept k rank e =
    let m = some_more n (length rows) (omega (arith, k.count)) in
    k.all rank (kept_before rows blocked m.0 n (length rows) m.1 rank e)

-- the start: all blocked ranks
count_few : (kept : List (Option ℕ)) → kept_count kept ≤ length kept
count_few [] = omega arith
count_few (None ∷ kept) = omega (arith, sum_by-cons (λ (o : Option ℕ). cond (is_some o) 1 0) None kept, count_few kept)
count_few (Some call ∷ kept) = omega (arith, sum_by-cons (λ (o : Option ℕ). cond (is_some o) 1 0) (Some call) kept, count_few kept)

pub find_is : (xs : List Place) (rank : ℕ) → is_some (find (λ (p : Place). nat_eq p.rank rank) xs) ≡ true → (p : Place) × Has xs p × (p.rank ≡ rank)
find_is [] rank e = absurd (true≢false (sym e))
find_is (y ∷ ys) rank e = elim (cases_Bool (nat_eq y.rank rank)) [
  | inl same ↦ (y, inl refl, eqb-true y.rank rank same)
  | inr differ ↦ (let r = find_is ys rank (rw differ at e) in (r.0, inr r.1, r.2))
]

pub start_kept : (rows : Rows) (blocked : List Place) (kept : List (Option ℕ)) → length kept ≡ length rows → ((rank call : ℕ) → kept_call kept rank ≡ Some call → IsBlocked rows (record { rank = rank; call = call }))
    → ((p : Place) → Has blocked p → is_some (kept_call kept p.rank) ≡ true) → IsKept rows blocked 0 kept
start_kept rows blocked kept len calls all = record {
  ranks = len;
  calls = calls;
  all = λ rank e. (let f = find_is blocked rank e in subst (λ r. is_some (kept_call kept r) ≡ true) f.2 (all f.0 f.1));
  count = omega (arith, count_few kept);
}

-- the list of kept ranks
abbrev pub KeptBelow : List (Option ℕ) → ℕ → ℕ → Type 0
KeptBelow kept at rank = (rank < at) × (is_some (kept_call kept rank) ≡ true)

pub none_kept : (kept : List (Option ℕ)) → Lists nat_cmp (KeptBelow kept 0) []
none_kept kept = record { rises = rises_nil nat_cmp; exact = λ x. (λ h. absurd h, λ h. absurd (omega (arith, h.0))) }

pub kept_push : (kept : List (Option ℕ)) (at : ℕ) (ranks : List ℕ) → is_some (kept_call kept at) ≡ true → Lists nat_cmp (KeptBelow kept at) ranks → Lists nat_cmp (KeptBelow kept (at + 1)) (ranks ++ at ∷ [])
kept_push kept at ranks e l = record {
  rises = rises_last nat_cmp ranks at l.rises (λ y h. less_is y at ((l.exact y).0 h).0);
  exact = λ x. (
    λ h. elim (has_or ranks at x h) [
      | inl old ↦ (let k = (l.exact x).0 old in (omega (arith, k.0), k.1))
      | inr same ↦ subst (KeptBelow kept (at + 1)) (sym same) (omega arith, e)
    ],
    λ h. elim (cases_order x at) [
      | inl same ↦ subst (λ z. Has (ranks ++ at ∷ []) z) (sym same) (has_last ranks at)
      | inr (inl below) ↦ has_more ranks at x ((l.exact x).1 (below, h.1))
      | inr (inr above) ↦ absurd (omega (arith, h.0))
    ],
  );
}

pub kept_skip : (kept : List (Option ℕ)) (at : ℕ) (ranks : List ℕ) → is_some (kept_call kept at) ≡ false → Lists nat_cmp (KeptBelow kept at) ranks → Lists nat_cmp (KeptBelow kept (at + 1)) ranks
kept_skip kept at ranks e l = record {
  rises = l.rises;
  exact = λ x. (
    λ h. (let k = (l.exact x).0 h in (omega (arith, k.0), k.1)),
    λ h. elim (cases_order x at) [
      | inl same ↦ absurd (true≢false (sym h.1 ∙ ap (λ r. is_some (kept_call kept r)) same ∙ e))
      | inr (inl below) ↦ (l.exact x).1 (below, h.1)
      | inr (inr above) ↦ absurd (omega (arith, h.0))
    ],
  );
}

-- the blocked calls, each at its rank
pub set_calls : (blocked : List Place) (calls : List (Option ℕ)) (p : Place) → Has blocked p → p.rank < length calls
    → ((rank call : ℕ) → kept_call calls rank ≡ Some call → Has blocked (record { rank = rank; call = call }))
    → (rank call : ℕ) → kept_call (set calls p.rank (Some p.call)) rank ≡ Some call → Has blocked (record { rank = rank; call = call })
set_calls blocked calls p h inside all rank call e = elim (cases_eq rank p.rank) [
  | inl same ↦
      let there : kept_call (set calls p.rank (Some p.call)) rank ≡ Some p.call = ap (λ r. get_or (set calls p.rank (Some p.call)) r None) same ∙ get_or-set_same calls p.rank (Some p.call) None inside in
      let is : p.call ≡ call = cc in
      subst (Has blocked) (same_place p (record { rank = rank; call = call }) (sym same) is) h
  | inr ne ↦ all rank call (sym (get_or-set_other calls p.rank rank (Some p.call) None ne) ∙ e)
]

pub set_some : (calls : List (Option ℕ)) (at call rank : ℕ) → at < length calls → is_some (kept_call calls rank) ≡ true ⊎ (rank ≡ at) → is_some (kept_call (set calls at (Some call)) rank) ≡ true
set_some calls at call rank inside h = elim (cases_eq rank at) [
  | inl same ↦ ap is_some (ap (λ r. get_or (set calls at (Some call)) r None) same ∙ get_or-set_same calls at (Some call) None inside)
  | inr ne ↦ elim h [
    | inl was ↦ ap is_some (get_or-set_other calls at rank (Some call) None ne) ∙ was
    | inr same ↦ absurd (ne same)
  ]
]
