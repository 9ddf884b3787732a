-- Rows in which shared lists stand as ranks pass the calls that the rows pass.
use Rattle.std.proofs.Common.{◌≡◌, ℕ, zero, suc, ◌+◌, ◌-◌, ◌<◌, ◌≤◌, ◌⊎◌, Bool, true, false, cond, ◌&&◌, List, [], ◌∷◌, length, map, Option, Some, None, is_some, refl, sym, ap, subst, ◌∙◌, inl, inr, arith, slice_get, nat_lt, nat_eq, slice_index_or}
use Rattle.std.specs.List.{list_all}
use Rattle.std.proofs.lemmas.Bool.{cases_Bool, ltb-true, lt-ltb, true≢false, false_from_ne_true}
use Rattle.must_call.specs.declared.place.Place.{Place}
use Rattle.must_wait.specs.Counted.{Within}
use Rattle.must_wait.specs.Needs.{Needs, Rows, needs_of, call_count}
use Rattle.must_wait.specs.Replay.{Marks, follows, reached, some_way, next_round, passed_in, passed, IsBlocked}
use Rattle.must_wait.specs.Shared.{gate, inner}
use Rattle.must_wait.specs.Watching.{way_at, ways_in}
use Rattle.must_wait.proofs.Least.{least, closed}
use Rattle.must_wait.proofs.Rounds.{and_left, and_right, and_both, way_more, one_later}
use Rattle.must_wait.proofs.Watched.{any_at, some_open, rank_of_call}

-- an alternative e stands for w: place by place, or as the gate of a list
abbrev pub IsWayCode : ℕ → List (List Place) → List Place → List Place → Type 0
IsWayCode ranks lists w e = (e ≡ map (inner ranks) w) ⊎ ((number : ℕ) × (slice_get lists number ≡ Some w) × (e ≡ gate ranks number ∷ []))

pub record IsGateWay (ranks : ℕ) (lists : List (List Place)) (rank call : ℕ) (e : List Place) : Type 0 where
  pub number : ℕ
  pub places : List Place
  pub first : call ≡ 0
  pub at : rank ≡ ranks + number
  pub list : slice_get lists number ≡ Some places
  pub is : e ≡ map (inner ranks) places

pub record Codes (rows code : Rows) (lists : List (List Place)) : Type 0 where
  pub calls : (rank call : ℕ) → rank < length rows → is_some (needs_of code rank call) ≡ is_some (needs_of rows rank call)
  pub to : (rank call way : ℕ) (e : List Place) → rank < length rows → way_at code rank call way ≡ Some e → (w : List Place) × (way_at rows rank call way ≡ Some w) × IsWayCode (length rows) lists w e
  pub from : (rank call way : ℕ) (w : List Place) → rank < length rows → way_at rows rank call way ≡ Some w → (e : List Place) × (way_at code rank call way ≡ Some e) × IsWayCode (length rows) lists w e
  pub gates : (number : ℕ) (places : List Place) → slice_get lists number ≡ Some places → needs_of code (length rows + number) 0 ≡ Some (map (inner (length rows)) places ∷ [])
  pub ends : (number : ℕ) (places : List Place) → slice_get lists number ≡ Some places → needs_of code (length rows + number) 1 ≡ Some []
  pub gate_way : (rank call way : ℕ) (e : List Place) → length rows ≤ rank → way_at code rank call way ≡ Some e → IsGateWay (length rows) lists rank call e
  pub nothing : is_some (needs_of code 4294967295 0) ≡ false

pub bool_same : (a b : Bool) → (a ≡ true → b ≡ true) → (b ≡ true → a ≡ true) → a ≡ b
bool_same true b f g = sym (f refl)
bool_same false true f g = g refl
bool_same false false f g = refl

pub all_unmap : {X Y : Type 0} (f : X → Y) (q : Y → Bool) (r : X → Bool) (xs : List X) → ((x : X) → q (f x) ≡ true → r x ≡ true) → list_all q (map f xs) ≡ true → list_all r xs ≡ true
all_unmap f q r [] more e = refl
all_unmap f q r (x ∷ xs) more e = and_both (r x) (list_all r xs) (more x (and_left (q (f x)) (list_all q (map f xs)) e)) (all_unmap f q r xs more (and_right (q (f x)) (list_all q (map f xs)) e))

pub all_map : {X Y : Type 0} (f : X → Y) (q : Y → Bool) (r : X → Bool) (xs : List X) → ((x : X) → r x ≡ true → q (f x) ≡ true) → list_all r xs ≡ true → list_all q (map f xs) ≡ true
all_map f q r [] more e = refl
all_map f q r (x ∷ xs) more e = and_both (q (f x)) (list_all q (map f xs)) (more x (and_left (r x) (list_all r xs) e)) (all_map f q r xs more (and_right (r x) (list_all r xs) e))

pub get_is : {X : Type 0} (xs : List X) (k : ℕ) (x d : X) → slice_get xs k ≡ Some x → slice_index_or xs k d ≡ x
get_is [] k x d e = cc
get_is (y ∷ ys) zero x d e = cc
get_is (y ∷ ys) (suc k) x d e = get_is ys k x d e

pub not_below : (a b : ℕ) → b ≤ a → nat_lt a b ≡ false
not_below a b h = false_from_ne_true (nat_lt a b) (λ e. absurd (omega (arith, ltb-true a b e)))

pub at_least : (a b : ℕ) → nat_lt a b ≡ false → b ≤ a
at_least a b e = omega (arith, λ (h : a < b). true≢false (sym (lt-ltb a b h) ∙ e))

pub inner_in : (ranks : ℕ) (p : Place) → p.rank < ranks → inner ranks p ≡ p
inner_in ranks p h = rw (lt-ltb p.rank ranks h) refl

pub inner_out : (ranks : ℕ) (p : Place) → nat_lt p.rank ranks ≡ false → inner ranks p ≡ record { rank = 4294967295; call = 0 }
inner_out ranks p h = rw h refl

pub way_open : (rows : Rows) (m : Marks) (needs : Option Needs) (way : ℕ) (places : List Place) → slice_get (ways_in needs) way ≡ Some places → list_all (λ (p : Place). reached rows m p.rank p.call) places ≡ true → some_way rows m needs ≡ true
way_open rows m None way places e h = cc
way_open rows m (Some ways) way places e h = any_at (list_all (λ (p : Place). reached rows m p.rank p.call)) ways way places e h

-- whether all places of a list are reached
abbrev pub is_open : Rows → List Place → Bool
is_open rows = list_all (λ (p : Place). reached rows (passed rows) p.rank p.call)

-- what is passed where the lists stand as ranks
abbrev mark : Rows → List (List Place) → Marks
mark rows lists rank call = cond (nat_lt rank (length rows)) (passed rows rank call) (nat_eq call 0 && is_open rows (slice_index_or lists (rank - length rows) []))

mark_in : (rows : Rows) (lists : List (List Place)) (rank call : ℕ) → rank < length rows → mark rows lists rank call ≡ passed rows rank call
mark_in rows lists rank call h = rw (lt-ltb rank (length rows) h) refl

mark_out : (rows : Rows) (lists : List (List Place)) (rank number : ℕ) (places : List Place) → rank ≡ length rows + number → slice_get lists number ≡ Some places → mark rows lists rank 0 ≡ is_open rows places
mark_out rows lists rank number places e list =
    let same : rank - length rows ≡ number = omega arith in
    rw (not_below rank (length rows) (omega arith)) (ap (λ k. is_open rows (slice_index_or lists k [])) same ∙ ap (is_open rows) (get_is lists number places [] list))

follows_in : (rows : Rows) (lists : List (List Place)) (rank call : ℕ) → rank < length rows → follows (mark rows lists) rank call ≡ true → follows (passed rows) rank call ≡ true
follows_in rows lists rank zero h e = refl
follows_in rows lists rank (suc call) h e = sym (mark_in rows lists rank call h) ∙ e

reach_in : (rows code : Rows) (lists : List (List Place)) → Codes rows code lists → (p : Place) → p.rank < length rows → reached code (mark rows lists) p.rank p.call ≡ true → reached rows (passed rows) p.rank p.call ≡ true
reach_in rows code lists c p h e =
    let here = is_some (needs_of code p.rank p.call) in
    let before = follows (mark rows lists) p.rank p.call in
    and_both (is_some (needs_of rows p.rank p.call)) (follows (passed rows) p.rank p.call) (sym (c.calls p.rank p.call h) ∙ and_left here before e) (follows_in rows lists p.rank p.call h (and_right here before e))

inner_reach : (rows code : Rows) (lists : List (List Place)) → Codes rows code lists → (p : Place) → reached code (mark rows lists) (inner (length rows) p).rank (inner (length rows) p).call ≡ true → reached rows (passed rows) p.rank p.call ≡ true
inner_reach rows code lists c p e = elim (cases_Bool (nat_lt p.rank (length rows))) [
  | inl below ↦ (let h = ltb-true p.rank (length rows) below in
      reach_in rows code lists c p h (subst (λ (q : Place). reached code (mark rows lists) q.rank q.call ≡ true) (inner_in (length rows) p h) e))
  | inr above ↦ (let there = subst (λ (q : Place). reached code (mark rows lists) q.rank q.call ≡ true) (inner_out (length rows) p above) e in
      absurd (true≢false (sym (and_left (is_some (needs_of code 4294967295 0)) true there) ∙ c.nothing)))
]

open_in : (rows code : Rows) (lists : List (List Place)) → Codes rows code lists → (w e : List Place) → IsWayCode (length rows) lists w e → list_all (λ (p : Place). reached code (mark rows lists) p.rank p.call) e ≡ true → is_open rows w ≡ true
open_in rows code lists c w e (inl is) h =
    let q : Place → Bool = λ p. reached code (mark rows lists) p.rank p.call in
    all_unmap (inner (length rows)) q (λ (p : Place). reached rows (passed rows) p.rank p.call) w (inner_reach rows code lists c) (subst (λ l. list_all q l ≡ true) is h)
open_in rows code lists c w e (inr (number, list, is)) h =
    let q : Place → Bool = λ p. reached code (mark rows lists) p.rank p.call in
    let there = and_left (q (gate (length rows) number)) true (subst (λ l. list_all q l ≡ true) is h) in
    sym (mark_out rows lists (length rows + number) number w refl list) ∙ and_right (is_some (needs_of code (length rows + number) 1)) (mark rows lists (length rows + number) 0) there

mark_closed : (rows code : Rows) (lists : List (List Place)) → Codes rows code lists → Within (next_round code (mark rows lists)) (mark rows lists)
mark_closed rows code lists c rank call e =
    let m = mark rows lists in
    let r = and_left (reached code m rank call) (some_way code m (needs_of code rank call)) e in
    let o = some_open code m (needs_of code rank call) (and_right (reached code m rank call) (some_way code m (needs_of code rank call)) e) in
    elim (cases_Bool (nat_lt rank (length rows))) [
      | inl below ↦
          let h = ltb-true rank (length rows) below in
          let t = c.to rank call o.0 o.1 h o.2 in
          mark_in rows lists rank call h ∙ closed rows rank call (and_both (reached rows (passed rows) rank call) (some_way rows (passed rows) (needs_of rows rank call))
          (reach_in rows code lists c (record { rank = rank; call = call }) h r) (way_open rows (passed rows) (needs_of rows rank call) o.0 t.0 t.1 (open_in rows code lists c t.0 o.1 t.2 o.3)))
      | inr above ↦
          let g = c.gate_way rank call o.0 o.1 (at_least rank (length rows) above) o.2 in
          ap (m rank) g.first ∙ mark_out rows lists rank g.number g.places g.at g.list ∙ open_in rows code lists c g.places o.1 (inl g.is) o.3
    ]

passed_in_mark : (rows code : Rows) (lists : List (List Place)) → Codes rows code lists → Within (passed code) (mark rows lists)
passed_in_mark rows code lists c = least code (mark rows lists) (mark_closed rows code lists c) (call_count code)

-- the other way
gate_opens : (rows code : Rows) (lists : List (List Place)) → Codes rows code lists → (number : ℕ) (w : List Place) → slice_get lists number ≡ Some w
    → list_all (λ (p : Place). reached code (passed code) p.rank p.call) (map (inner (length rows)) w) ≡ true → passed code (length rows + number) 0 ≡ true
gate_opens rows code lists c number w list h =
    let rank = length rows + number in
    let q : Place → Bool = λ p. reached code (passed code) p.rank p.call in
    let needs = c.gates number w list in
    closed code rank 0 (and_both (reached code (passed code) rank 0) (some_way code (passed code) (needs_of code rank 0)) (and_both (is_some (needs_of code rank 0)) true (ap is_some needs) refl)
    (way_open code (passed code) (needs_of code rank 0) 0 (map (inner (length rows)) w) (ap (λ o. slice_get (ways_in o) 0) needs) h))

inner_code : (rows code : Rows) (lists : List (List Place)) (m : Marks) → Codes rows code lists → (p : Place) → reached rows m p.rank p.call ≡ true → reached code m (inner (length rows) p).rank (inner (length rows) p).call ≡ true
inner_code rows code lists m c p e =
    let here = and_left (is_some (needs_of rows p.rank p.call)) (follows m p.rank p.call) e in
    let h = rank_of_call rows p.rank p.call here in
    subst (λ (q : Place). reached code m q.rank q.call ≡ true) (sym (inner_in (length rows) p h))
    (and_both (is_some (needs_of code p.rank p.call)) (follows m p.rank p.call) (c.calls p.rank p.call h ∙ here) (and_right (is_some (needs_of rows p.rank p.call)) (follows m p.rank p.call) e))

gate_reaches : (rows code : Rows) (lists : List (List Place)) → Codes rows code lists → (number : ℕ) (w : List Place) → slice_get lists number ≡ Some w → passed code (length rows + number) 0 ≡ true → reached code (passed code) (length rows + number) 1 ≡ true
gate_reaches rows code lists c number w list h = and_both (is_some (needs_of code (length rows + number) 1)) (passed code (length rows + number) 0) (ap is_some (c.ends number w list)) h

open_out : (rows code : Rows) (lists : List (List Place)) → Codes rows code lists → (w e : List Place) → IsWayCode (length rows) lists w e → list_all (λ (p : Place). reached rows (passed code) p.rank p.call) w ≡ true → list_all (λ (p : Place). reached code (passed code) p.rank p.call) e ≡ true
open_out rows code lists c w e (inl is) h =
    let q : Place → Bool = λ p. reached code (passed code) p.rank p.call in
    subst (λ l. list_all q l ≡ true) (sym is) (all_map (inner (length rows)) q (λ (p : Place). reached rows (passed code) p.rank p.call) w (inner_code rows code lists (passed code) c) h)
open_out rows code lists c w e (inr (number, list, is)) h =
    let q : Place → Bool = λ p. reached code (passed code) p.rank p.call in
    let opens = gate_opens rows code lists c number w list (all_map (inner (length rows)) q (λ (p : Place). reached rows (passed code) p.rank p.call) w (inner_code rows code lists (passed code) c) h) in
    subst (λ l. list_all q l ≡ true) (sym is) (and_both (q (gate (length rows) number)) true (gate_reaches rows code lists c number w list opens) refl)

code_closed : (rows code : Rows) (lists : List (List Place)) → Codes rows code lists → Within (next_round rows (passed code)) (passed code)
code_closed rows code lists c rank call e =
    let m = passed code in
    let r = and_left (reached rows m rank call) (some_way rows m (needs_of rows rank call)) e in
    let o = some_open rows m (needs_of rows rank call) (and_right (reached rows m rank call) (some_way rows m (needs_of rows rank call)) e) in
    let here = and_left (is_some (needs_of rows rank call)) (follows m rank call) r in
    let h = rank_of_call rows rank call here in
    let f = c.from rank call o.0 o.1 h o.2 in
    closed code rank call (and_both (reached code m rank call) (some_way code m (needs_of code rank call))
    (and_both (is_some (needs_of code rank call)) (follows m rank call) (c.calls rank call h ∙ here) (and_right (is_some (needs_of rows rank call)) (follows m rank call) r))
    (way_open code m (needs_of code rank call) o.0 f.0 f.1 (open_out rows code lists c o.1 f.0 f.2 o.3)))

-- the same calls are passed and reached
pub same_passed : (rows code : Rows) (lists : List (List Place)) → Codes rows code lists → (rank call : ℕ) → rank < length rows → passed code rank call ≡ passed rows rank call
same_passed rows code lists c rank call h = bool_same (passed code rank call) (passed rows rank call)
    (λ e. sym (mark_in rows lists rank call h) ∙ passed_in_mark rows code lists c rank call e)
    (λ e. least rows (passed code) (code_closed rows code lists c) (call_count rows) rank call e)

same_follows : (rows code : Rows) (lists : List (List Place)) → Codes rows code lists → (rank call : ℕ) → rank < length rows → follows (passed code) rank call ≡ follows (passed rows) rank call
same_follows rows code lists c rank zero h = refl
same_follows rows code lists c rank (suc call) h = same_passed rows code lists c rank call h

pub same_reached : (rows code : Rows) (lists : List (List Place)) → Codes rows code lists → (rank call : ℕ) → rank < length rows → reached code (passed code) rank call ≡ reached rows (passed rows) rank call
same_reached rows code lists c rank call h = ap (λ b. b && follows (passed code) rank call) (c.calls rank call h) ∙ ap (λ b. is_some (needs_of rows rank call) && b) (same_follows rows code lists c rank call h)

pub gate_passed : (rows code : Rows) (lists : List (List Place)) → Codes rows code lists → (number : ℕ) (w : List Place) → slice_get lists number ≡ Some w → passed code (length rows + number) 0 ≡ is_open rows w
gate_passed rows code lists c number w list = bool_same (passed code (length rows + number) 0) (is_open rows w)
    (λ e. sym (mark_out rows lists (length rows + number) number w refl list) ∙ passed_in_mark rows code lists c (length rows + number) 0 e)
    (λ e. gate_opens rows code lists c number w list (all_map (inner (length rows)) (λ (p : Place). reached code (passed code) p.rank p.call) (λ (p : Place). reached rows (passed rows) p.rank p.call) w (to_code rows code lists c) e)) where
      to_code : (rows code : Rows) (lists : List (List Place)) → Codes rows code lists → (p : Place) → reached rows (passed rows) p.rank p.call ≡ true → reached code (passed code) (inner (length rows) p).rank (inner (length rows) p).call ≡ true
      to_code rows code lists c p e =
          let h = rank_of_call rows p.rank p.call (and_left (is_some (needs_of rows p.rank p.call)) (follows (passed rows) p.rank p.call) e) in
          subst (λ (q : Place). reached code (passed code) q.rank q.call ≡ true) (sym (inner_in (length rows) p h)) (same_reached rows code lists c p.rank p.call h ∙ e)

pub gate_reached : (rows code : Rows) (lists : List (List Place)) → Codes rows code lists → (number : ℕ) (w : List Place) → slice_get lists number ≡ Some w → reached code (passed code) (length rows + number) 1 ≡ is_open rows w
gate_reached rows code lists c number w list = ap (λ b. b && passed code (length rows + number) 0) (ap is_some (c.ends number w list)) ∙ gate_passed rows code lists c number w list

pub blocked_to : (rows code : Rows) (lists : List (List Place)) → Codes rows code lists → (p : Place) → p.rank < length rows → IsBlocked code p → IsBlocked rows p
blocked_to rows code lists c p h b = record {
  is_reached = sym (same_reached rows code lists c p.rank p.call h) ∙ b.is_reached;
  not_passed = sym (same_passed rows code lists c p.rank p.call h) ∙ b.not_passed;
}

pub blocked_from : (rows code : Rows) (lists : List (List Place)) → Codes rows code lists → (p : Place) → IsBlocked rows p → IsBlocked code p
blocked_from rows code lists c p b =
    let h = rank_of_call rows p.rank p.call (and_left (is_some (needs_of rows p.rank p.call)) (follows (passed rows) p.rank p.call) b.is_reached) in
    record {
      is_reached = same_reached rows code lists c p.rank p.call h ∙ b.is_reached;
      not_passed = same_passed rows code lists c p.rank p.call h ∙ b.not_passed;
    }

closed_back : (rows : Rows) (round rank call : ℕ) → passed_in rows round rank call ≡ true → some_way rows (passed_in rows round) (needs_of rows rank call) ≡ true
closed_back rows zero rank call e = absurd (true≢false (sym e))
closed_back rows (suc round) rank call e =
    let m = passed_in rows round in
    way_more rows m (passed_in rows (suc round)) (one_later rows round) (needs_of rows rank call) (and_right (reached rows m rank call) (some_way rows m (needs_of rows rank call)) e)

-- a list whose places are not all reached is blocked at its first call, and one whose places are at the gate
pub closed_blocked : (rows code : Rows) (lists : List (List Place)) → Codes rows code lists → (number : ℕ) (w : List Place) → slice_get lists number ≡ Some w → is_open rows w ≡ false → IsBlocked code (record { rank = length rows + number; call = 0 })
closed_blocked rows code lists c number w list e = record {
  is_reached = and_both (is_some (needs_of code (length rows + number) 0)) true (ap is_some (c.gates number w list)) refl;
  not_passed = gate_passed rows code lists c number w list ∙ e;
}

pub open_blocked : (rows code : Rows) (lists : List (List Place)) → Codes rows code lists → (number : ℕ) (w : List Place) → slice_get lists number ≡ Some w → is_open rows w ≡ true → IsBlocked code (record { rank = length rows + number; call = 1 })
open_blocked rows code lists c number w list e = record {
  is_reached = gate_reached rows code lists c number w list ∙ e;
  not_passed = false_from_ne_true (passed code (length rows + number) 1) (λ p.
      let n = closed_back code (call_count code) (length rows + number) 1 p in
      let o = some_open code (passed code) (needs_of code (length rows + number) 1) n in
      let none : slice_get {X = List Place} [] o.0 ≡ Some o.1 = sym (ap (λ needs. slice_get (ways_in needs) o.0) (c.ends number w list)) ∙ o.2 in
      cc);
}
