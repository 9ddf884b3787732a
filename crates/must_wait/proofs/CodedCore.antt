-- Rows in which shared lists stand as ranks have the core of the rows.
use Rattle.std.proofs.Common.{◌≡◌, ℕ, zero, suc, ◌+◌, ◌-◌, ◌<◌, Bool, true, false, not, cond, ◌&&◌, ◌||◌, List, [], ◌∷◌, length, map, Option, Some, None, is_some, refl, sym, ap, subst, ◌∙◌, inl, inr, arith, slice_get, nat_lt, slice_index_or}
use Rattle.std.specs.List.{list_all, list_any}
use Rattle.std.specs.Ordering.{nat_cmp}
use Rattle.std.proofs.lemmas.Bool.{cases_Bool, ltb-true, lt-ltb, true≢false, false_from_ne_true}
use Rattle.std.proofs.lemmas.Option.{slice_get_within}
use Rattle.must_call.specs.declared.place.Place.{Place}
use Rattle.must_base.specs.Listing.{Lists}
use Rattle.must_wait.specs.Core.{holds, is_held, IsCore}
use Rattle.must_wait.specs.CoreLaws.{in_core, IsHeldBy, HoldsItself}
use Rattle.must_wait.specs.Keeping.{kept_call, IsKept, AllHeld}
use Rattle.must_wait.specs.Needs.{Needs, Rows, calls_of, needs_of}
use Rattle.must_wait.specs.Replay.{reached, passed, IsBlocked, IsBlockedList}
use Rattle.must_wait.specs.Shared.{gate, inner}
use Rattle.must_wait.specs.Watching.{ways_in}
use Rattle.must_wait.proofs.BlockedRanks.{is_unpassed}
use Rattle.must_wait.proofs.Codes.{IsWayCode, Codes, bool_same, get_is, at_least, inner_in, inner_out, is_open, same_reached, gate_reached, blocked_to, blocked_from, closed_blocked, not_below}
use Rattle.must_wait.proofs.Dropped.{held_needs}
use Rattle.must_wait.proofs.Greatest.{core_holds, greatest}
use Rattle.must_wait.proofs.Kept.{find_is, found, not_true, not_false, kept_core, core_kept}
use Rattle.must_wait.proofs.Listed.{same_place, listed_as}
use Rattle.must_wait.proofs.Rounds.{and_left, and_right, and_both, some_get, get_some}
use Rattle.must_wait.proofs.Watched.{any_where, rank_of_call}

-- a held rank by its blocked call
record IsHeldCall (rows : Rows) (set : ℕ → Bool) (rank : ℕ) : Type 0 where
  call : ℕ
  blocked : IsBlocked rows (record { rank = rank; call = call })
  held : is_held (holds rows set) (needs_of rows rank call) ≡ true

call_held : (rows : Rows) (blocked : List Place) (set : ℕ → Bool) (rank : ℕ) → IsBlockedList rows blocked → IsHeldBy rows blocked set rank → IsHeldCall rows set rank
call_held rows blocked set rank list h =
    let p = find_is blocked rank h.is_blocked in
    let same : p.0 ≡ record { rank = rank; call = p.0.call } = same_place p.0 (record { rank = rank; call = p.0.call }) p.2 refl in
    let b = subst (IsBlocked rows) same ((list.exact p.0).0 p.1) in
    let f = found rows blocked rank p.0.call list b in
    record { call = p.0.call; blocked = b; held = subst (λ o. is_held (holds rows set) o ≡ true) f.needs h.is_held }

held_call : (rows : Rows) (blocked : List Place) (set : ℕ → Bool) (rank : ℕ) → IsBlockedList rows blocked → IsHeldCall rows set rank → IsHeldBy rows blocked set rank
held_call rows blocked set rank list h =
    let f = found rows blocked rank h.call list h.blocked in
    record { is_blocked = f.kept; is_held = subst (λ o. is_held (holds rows set) o ≡ true) (sym f.needs) h.held }

pub core_blocked : (rows : Rows) (blocked : List Place) (rank : ℕ) → IsBlockedList rows blocked → in_core rows blocked rank ≡ true → rank < length rows
core_blocked rows blocked rank list e =
    let h = call_held rows blocked (in_core rows blocked) rank list (core_holds rows blocked list rank e) in
    rank_of_call rows rank h.call (is_unpassed rows rank h.call h.blocked)

-- each alternative of a held call has a place that holds it
all_where : {X : Type 0} (p : X → Bool) (xs : List X) (k : ℕ) (x : X) → slice_get xs k ≡ Some x → list_all p xs ≡ true → p x ≡ true
all_where p [] k x e h = cc
all_where p (y ∷ ys) zero x e h = let same : y ≡ x = cc in subst (λ z. p z ≡ true) same (and_left (p y) (list_all p ys) h)
all_where p (y ∷ ys) (suc k) x e h = all_where p ys k x e (and_right (p y) (list_all p ys) h)

held_way : (held : Place → Bool) (needs : Option Needs) (way : ℕ) (places : List Place) → is_held held needs ≡ true → slice_get (ways_in needs) way ≡ Some places → list_any held places ≡ true
held_way held None way places h e = absurd (true≢false (sym h))
held_way held (Some ways) way places h e = all_where (list_any held) ways way places e (and_right _ (list_all (list_any held) ways) h)

first_way : (held : Place → Bool) (needs : Option Needs) → is_held held needs ≡ true → (places : List Place) × (slice_get (ways_in needs) 0 ≡ Some places)
first_way held None h = absurd (true≢false (sym h))
first_way held (Some []) h = absurd (true≢false (sym h))
first_way held (Some (way ∷ ways)) h = (way, refl)

held_as : (p q : Place → Bool) (a b : Option Needs) → is_held p a ≡ true
    → ((way : ℕ) (e : List Place) → slice_get (ways_in b) way ≡ Some e → (w : List Place) × (slice_get (ways_in a) way ≡ Some w) × (list_any p w ≡ true → list_any q e ≡ true))
    → ((way : ℕ) (w : List Place) → slice_get (ways_in a) way ≡ Some w → (e : List Place) × (slice_get (ways_in b) way ≡ Some e)) → is_held q b ≡ true
held_as p q a b h to back =
    let first = first_way p a h in
    let there = back 0 first.0 first.1 in
    held_needs q b (slice_get_within (ways_in b) 0 there.0 there.1) (λ way e g. let t = to way e g in t.2 (held_way p a way t.0 h t.1))

or_left : (a b c d : Bool) → (a ≡ true → c ≡ true) → (b ≡ true → d ≡ true) → (a || b) ≡ true → (c || d) ≡ true
or_left true b true d f g e = refl
or_left true b false d f g e = absurd (true≢false (sym (f refl)))
or_left false b true d f g e = refl
or_left false b false d f g e = g e

any_unmap : {X Y : Type 0} (f : X → Y) (q : Y → Bool) (r : X → Bool) (xs : List X) → ((x : X) → q (f x) ≡ true → r x ≡ true) → list_any q (map f xs) ≡ true → list_any r xs ≡ true
any_unmap f q r [] more e = e
any_unmap f q r (x ∷ xs) more e = or_left (q (f x)) (list_any q (map f xs)) (r x) (list_any r xs) (more x) (any_unmap f q r xs more) e

any_map : {X Y : Type 0} (f : X → Y) (q : Y → Bool) (r : X → Bool) (xs : List X) → ((x : X) → r x ≡ true → q (f x) ≡ true) → list_any r xs ≡ true → list_any q (map f xs) ≡ true
any_map f q r [] more e = e
any_map f q r (x ∷ xs) more e = or_left (r x) (list_any r xs) (q (f x)) (list_any q (map f xs)) (more x) (any_map f q r xs more) e

one_any : (b : Bool) → (b || false) ≡ true → b ≡ true
one_any true e = refl
one_any false e = e

-- the ranks of a core of the coded rows hold each other in the rows
abbrev real : ℕ → (ℕ → Bool) → ℕ → Bool
real ranks set rank = nat_lt rank ranks && set rank

none_there : (rows code : Rows) (lists : List (List Place)) (behind : List Place) → Codes rows code lists → IsBlockedList code behind → in_core code behind 4294967295 ≡ true → ⊥
none_there rows code lists behind c list e =
    let h = call_held code behind (in_core code behind) 4294967295 list (core_holds code behind list 4294967295 e) in
    let some = some_get (calls_of code 4294967295) h.call (is_unpassed code 4294967295 h.call h.blocked) in
    true≢false (sym (get_some (calls_of code 4294967295) 0 (omega (arith, some))) ∙ c.nothing)

inner_holds : (rows code : Rows) (lists : List (List Place)) (behind : List Place) → Codes rows code lists → IsBlockedList code behind → (p : Place) → holds code (in_core code behind) (inner (length rows) p) ≡ true → holds rows (real (length rows) (in_core code behind)) p ≡ true
inner_holds rows code lists behind c list p e = elim (cases_Bool (nat_lt p.rank (length rows))) [
  | inl below ↦
      let h = ltb-true p.rank (length rows) below in
      let there = subst (λ (q : Place). holds code (in_core code behind) q ≡ true) (inner_in (length rows) p h) e in
      let unreached = not (reached code (passed code) p.rank p.call) in
      and_both (not (reached rows (passed rows) p.rank p.call)) (real (length rows) (in_core code behind) p.rank)
      (sym (ap not (same_reached rows code lists c p.rank p.call h)) ∙ and_left unreached (in_core code behind p.rank) there)
      (and_both (nat_lt p.rank (length rows)) (in_core code behind p.rank) below (and_right unreached (in_core code behind p.rank) there))
  | inr above ↦
      let there = subst (λ (q : Place). holds code (in_core code behind) q ≡ true) (inner_out (length rows) p above) e in
      absurd (none_there rows code lists behind c list (and_right (not (reached code (passed code) 4294967295 0)) (in_core code behind 4294967295) there))
]

any_in : (rows code : Rows) (lists : List (List Place)) (behind : List Place) → Codes rows code lists → IsBlockedList code behind → (w e : List Place) → IsWayCode (length rows) lists w e → list_any (holds code (in_core code behind)) e ≡ true → list_any (holds rows (real (length rows) (in_core code behind))) w ≡ true
any_in rows code lists behind c list w e (inl is) h =
    let q = holds code (in_core code behind) in
    any_unmap (inner (length rows)) q (holds rows (real (length rows) (in_core code behind))) w (inner_holds rows code lists behind c list) (subst (λ l. list_any q l ≡ true) is h)
any_in rows code lists behind c list w e (inr (number, at, is)) h =
    let q = holds code (in_core code behind) in
    let here = one_any (q (gate (length rows) number)) (subst (λ l. list_any q l ≡ true) is h) in
    let kept = and_right (not (reached code (passed code) (length rows + number) 1)) (in_core code behind (length rows + number)) here in
    let x = call_held code behind (in_core code behind) (length rows + number) list (core_holds code behind list (length rows + number) kept) in
    let first = first_way q (needs_of code (length rows + number) x.call) x.held in
    let g = c.gate_way (length rows + number) x.call 0 first.0 (omega arith) first.1 in
    let same : g.number ≡ number = omega (arith, g.at) in
    let places : g.places ≡ w = (let both : Some g.places ≡ Some w = sym g.list ∙ ap (slice_get lists) same ∙ at in cc) in
    let any = held_way q (needs_of code (length rows + number) x.call) 0 first.0 x.held first.1 in
    any_unmap (inner (length rows)) q (holds rows (real (length rows) (in_core code behind))) w (inner_holds rows code lists behind c list) (subst (λ l. list_any q l ≡ true) (g.is ∙ ap (map (inner (length rows))) places) any)

core_in : (rows code : Rows) (lists : List (List Place)) (blocked behind : List Place) → Codes rows code lists → IsBlockedList rows blocked → IsBlockedList code behind → HoldsItself rows blocked (real (length rows) (in_core code behind))
core_in rows code lists blocked behind c list late rank e =
    let set = in_core code behind in
    let h = ltb-true rank (length rows) (and_left (nat_lt rank (length rows)) (set rank) e) in
    let x = call_held code behind set rank late (core_holds code behind late rank (and_right (nat_lt rank (length rows)) (set rank) e)) in
    held_call rows blocked (real (length rows) set) rank list (record {
      call = x.call;
      blocked = blocked_to rows code lists c (record { rank = rank; call = x.call }) h x.blocked;
      held = held_as (holds code set) (holds rows (real (length rows) set)) (needs_of code rank x.call) (needs_of rows rank x.call) x.held
          (λ way w g. let f = c.from rank x.call way w h g in (f.0, f.1, any_in rows code lists behind c late w f.0 f.2))
          (λ way e g. let t = c.to rank x.call way e h g in (t.0, t.1));
    })

-- and a core of the rows, with the lists that its ranks hold, in the coded rows
abbrev with_lists : Rows → List (List Place) → (ℕ → Bool) → ℕ → Bool
with_lists rows lists set rank = cond (nat_lt rank (length rows)) (set rank) (list_any (holds rows set) (slice_index_or lists (rank - length rows) []))

with_in : (rows : Rows) (lists : List (List Place)) (set : ℕ → Bool) (rank : ℕ) → rank < length rows → with_lists rows lists set rank ≡ set rank
with_in rows lists set rank h = rw (lt-ltb rank (length rows) h) refl

with_out : (rows : Rows) (lists : List (List Place)) (set : ℕ → Bool) (number : ℕ) (w : List Place) → slice_get lists number ≡ Some w → with_lists rows lists set (length rows + number) ≡ list_any (holds rows set) w
with_out rows lists set number w list =
    let same : length rows + number - length rows ≡ number = omega arith in
    rw (not_below (length rows + number) (length rows) (omega arith)) (ap (λ k. list_any (holds rows set) (slice_index_or lists k [])) same ∙ ap (list_any (holds rows set)) (get_is lists number w [] list))

any_list : (p : Place → Bool) (lists : List (List Place)) (k : ℕ) → list_any p (slice_index_or lists k []) ≡ true → (w : List Place) × (slice_get lists k ≡ Some w) × (list_any p w ≡ true)
any_list p [] k e = absurd (true≢false (sym e))
any_list p (w ∷ ws) zero e = (w, refl, e)
any_list p (w ∷ ws) (suc k) e = any_list p ws k e

any_closed : (rows : Rows) (set : ℕ → Bool) (w : List Place) → list_any (holds rows set) w ≡ true → is_open rows w ≡ false
any_closed rows set w e =
    let o = any_where (holds rows set) w e in
    let p = o.1 in
    let unreached = not_false (reached rows (passed rows) p.rank p.call) (and_left (not (reached rows (passed rows) p.rank p.call)) (set p.rank) o.3) in
    false_from_ne_true (is_open rows w) (λ h. true≢false (sym (all_where (λ (q : Place). reached rows (passed rows) q.rank q.call) w o.0 p o.2 h) ∙ unreached))

holds_inner : (rows code : Rows) (lists : List (List Place)) (blocked : List Place) → Codes rows code lists → IsBlockedList rows blocked → (p : Place) → holds rows (in_core rows blocked) p ≡ true → holds code (with_lists rows lists (in_core rows blocked)) (inner (length rows) p) ≡ true
holds_inner rows code lists blocked c list p e =
    let set = in_core rows blocked in
    let unreached = not (reached rows (passed rows) p.rank p.call) in
    let kept = and_right unreached (set p.rank) e in
    let h = core_blocked rows blocked p.rank list kept in
    subst (λ (q : Place). holds code (with_lists rows lists set) q ≡ true) (sym (inner_in (length rows) p h))
    (and_both (not (reached code (passed code) p.rank p.call)) (with_lists rows lists set p.rank) (ap not (same_reached rows code lists c p.rank p.call h) ∙ and_left unreached (set p.rank) e) (with_in rows lists set p.rank h ∙ kept))

any_out : (rows code : Rows) (lists : List (List Place)) (blocked : List Place) → Codes rows code lists → IsBlockedList rows blocked → (w e : List Place) → IsWayCode (length rows) lists w e → list_any (holds rows (in_core rows blocked)) w ≡ true → list_any (holds code (with_lists rows lists (in_core rows blocked))) e ≡ true
any_out rows code lists blocked c list w e (inl is) h =
    let q = holds code (with_lists rows lists (in_core rows blocked)) in
    subst (λ l. list_any q l ≡ true) (sym is) (any_map (inner (length rows)) q (holds rows (in_core rows blocked)) w (holds_inner rows code lists blocked c list) h)
any_out rows code lists blocked c list w e (inr (number, at, is)) h =
    let set = in_core rows blocked in
    let q = holds code (with_lists rows lists set) in
    let here : q (gate (length rows) number) ≡ true =
    and_both (not (reached code (passed code) (length rows + number) 1)) (with_lists rows lists set (length rows + number))
    (not_true (reached code (passed code) (length rows + number) 1) (gate_reached rows code lists c number w at ∙ any_closed rows set w h)) (with_out rows lists set number w at ∙ h) in
    subst (λ l. list_any q l ≡ true) (sym is) (rw here refl)

one_way : (held : Place → Bool) (e : List Place) → list_any held e ≡ true → is_held held (Some (e ∷ [])) ≡ true
one_way held e h = rw h refl

core_out : (rows code : Rows) (lists : List (List Place)) (blocked behind : List Place) → Codes rows code lists → IsBlockedList rows blocked → IsBlockedList code behind → HoldsItself code behind (with_lists rows lists (in_core rows blocked))
core_out rows code lists blocked behind c list late rank e = elim (cases_Bool (nat_lt rank (length rows))) [
  | inl below ↦
      let set = in_core rows blocked in
      let h = ltb-true rank (length rows) below in
      let x = call_held rows blocked set rank list (core_holds rows blocked list rank (sym (with_in rows lists set rank h) ∙ e)) in
      held_call code behind (with_lists rows lists set) rank late (record {
        call = x.call;
        blocked = blocked_from rows code lists c (record { rank = rank; call = x.call }) x.blocked;
        held = held_as (holds rows set) (holds code (with_lists rows lists set)) (needs_of rows rank x.call) (needs_of code rank x.call) x.held
            (λ way e g. let t = c.to rank x.call way e h g in (t.0, t.1, any_out rows code lists blocked c list t.0 e t.2))
            (λ way w g. let f = c.from rank x.call way w h g in (f.0, f.1));
      })
  | inr above ↦
      let set = in_core rows blocked in
      let there : list_any (holds rows set) (slice_index_or lists (rank - length rows) []) ≡ true = rw above at e in
      let w = any_list (holds rows set) lists (rank - length rows) there in
      let at : rank ≡ length rows + (rank - length rows) = omega (arith, at_least rank (length rows) above) in
      let number = rank - length rows in
      subst (IsHeldBy code behind (with_lists rows lists set)) (sym at) (held_call code behind (with_lists rows lists set) (length rows + number) late (record {
        call = 0;
        blocked = closed_blocked rows code lists c number w.0 w.1 (any_closed rows set w.0 w.2);
        held = subst (λ o. is_held (holds code (with_lists rows lists set)) o ≡ true) (sym (c.gates number w.0 w.1))
            (one_way (holds code (with_lists rows lists set)) (map (inner (length rows)) w.0) (any_map (inner (length rows)) (holds code (with_lists rows lists set)) (holds rows set) w.0 (holds_inner rows code lists blocked c list) w.2));
      }))
]

pub same_core : (rows code : Rows) (lists : List (List Place)) (blocked behind : List Place) → Codes rows code lists → IsBlockedList rows blocked → IsBlockedList code behind → (rank : ℕ) → rank < length rows → in_core code behind rank ≡ in_core rows blocked rank
same_core rows code lists blocked behind c list late rank h = bool_same (in_core code behind rank) (in_core rows blocked rank)
    (λ e. greatest rows blocked (real (length rows) (in_core code behind)) (core_in rows code lists blocked behind c list late) rank (and_both (nat_lt rank (length rows)) (in_core code behind rank) (lt-ltb rank (length rows) h) e))
    (λ e. greatest code behind (with_lists rows lists (in_core rows blocked)) (core_out rows code lists blocked behind c list late) rank (with_in rows lists (in_core rows blocked) rank h ∙ e))

-- the list of the ranks of the core
pub coded_listed : (rows code : Rows) (lists : List (List Place)) (blocked behind : List Place) (n : ℕ) (kept : List (Option ℕ)) (ranks : List ℕ) → Codes rows code lists → IsBlockedList rows blocked → IsBlockedList code behind → IsKept code behind n kept → AllHeld code kept
    → Lists nat_cmp (λ rank. (rank < length rows) × (is_some (kept_call kept rank) ≡ true)) ranks → IsCore rows blocked ranks
coded_listed rows code lists blocked behind n kept ranks c list late k held =
    listed_as nat_cmp (λ rank. (rank < length rows) × (is_some (kept_call kept rank) ≡ true)) (λ rank. in_core rows blocked rank ≡ true) ranks
    (λ rank h. sym (same_core rows code lists blocked behind c list late rank h.0) ∙ kept_core code behind n kept late k held rank h.1)
    (λ rank e. let h = core_blocked rows blocked rank list e in (h, core_kept code behind n kept k rank (same_core rows code lists blocked behind c list late rank h ∙ e)))
