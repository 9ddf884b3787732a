-- Steps of the worklist keep each alternative watched.
use Rattle.std.proofs.Common.{◌≡◌, ℕ, zero, suc, ◌+◌, ◌<◌, ◌≤◌, ◌⊎◌, Bor, Result, Ok, Err, Bool, true, false, ◌||◌, List, [], ◌∷◌, ◌++◌, length, get_or, set, Option, Some, None, is_some, refl, sym, ap, subst, ◌∙◌, inl, inr, arith, slice_index, slice_get, slice_index_or, replicate}
use Rattle.std.specs.List.{list_all, list_any}
use Rattle.std.specs.Option.{option_copied, option_map}
use Rattle.std.specs.Result.{OnOk}
use Rattle.std.proofs.lemmas.Bool.{cases_order, cases_eq, cases_Bool, ltb-true, true≢false, false_from_ne_true}
use Rattle.std.proofs.lemmas.List.{get_or-set_same, get_or-set_other, length-set, length-append, length-replicate, get_or_default}
use Rattle.std.proofs.Math.ListN.{get_or-append}
use Rattle.std.proofs.Math.Seq.{get_or-append_seam}
use Rattle.std.proofs.lemmas.Option.{slice_get_within, slice_get-get_or}
use Rattle.must_call.specs.declared.place.Place.{Place}
use Rattle.must_base.specs.Listing.{Has}
use Rattle.must_wait.specs.declared.worklist.Watch.{Watch}
use Rattle.must_wait.specs.Needs.{Needs, Rows, calls_in, calls_of, needs_of}
use Rattle.must_wait.specs.Replay.{Marks, follows, reached, some_way}
use Rattle.must_wait.specs.Counted.{counted, IsSound, IsClosed}
use Rattle.must_wait.specs.Watching.{State, ways_in, way_at, HasPlace, HasWatch, slot, watches_at, Pends, WaitsAt, IsWatched, AllWatched, IsSettled, Keeps, IsReady, Steps, taken, with_fresh}
use Rattle.must_wait.proofs.Rounds.{and_left, and_right, and_both, follows_to, follows_from, pass_sound, sum_more}

pub place_more : (ps : List Place) (p : Place) (rank call : ℕ) → HasPlace ps rank call → HasPlace (ps ++ p ∷ []) rank call
place_more [] p rank call h = absurd h
place_more (q ∷ ps) p rank call (inl e) = inl e
place_more (q ∷ ps) p rank call (inr h) = inr (place_more ps p rank call h)

pub place_last : (ps : List Place) (p : Place) → HasPlace (ps ++ p ∷ []) p.rank p.call
place_last [] p = inl (refl, refl)
place_last (q ∷ ps) p = inr (place_last ps p)

pub place_or : (ps : List Place) (p : Place) (rank call : ℕ) → HasPlace (ps ++ p ∷ []) rank call → HasPlace ps rank call ⊎ ((p.rank ≡ rank) × (p.call ≡ call))
place_or [] p rank call (inl e) = inr e
place_or [] p rank call (inr h) = absurd h
place_or (q ∷ ps) p rank call (inl e) = inl (inl e)
place_or (q ∷ ps) p rank call (inr h) = elim (place_or ps p rank call h) [ inl k ↦ inl (inr k) | inr e ↦ inr e ]

pub watch_more : (ws : List Watch) (w : Watch) (rank call way : ℕ) → HasWatch ws rank call way → HasWatch (ws ++ w ∷ []) rank call way
watch_more [] w rank call way h = absurd h
watch_more (v ∷ ws) w rank call way (inl e) = inl e
watch_more (v ∷ ws) w rank call way (inr h) = inr (watch_more ws w rank call way h)

pub watch_last : (ws : List Watch) (w : Watch) → HasWatch (ws ++ w ∷ []) w.rank w.call w.way
watch_last [] w = inl (refl, refl, refl)
watch_last (v ∷ ws) w = inr (watch_last ws w)

pub keeps_both : (rows : Rows) (s t u : State) → Keeps rows s t → Keeps rows t u → Keeps rows s u
keeps_both rows s t u a b rank way = elim (b rank way) [
  | inl w ↦ inl w
  | inr (e, f) ↦ elim (a rank way) [
    | inl w ↦ inl (f w)
    | inr (d, g) ↦ inr (e ∙ d, λ w. f (g w))
  ]
]

pub both_steps : (rows : Rows) (s t u : State) → Steps rows s t → Steps rows t u → Steps rows s u
both_steps rows s t u a b = record { ready = b.ready; keeps = keeps_both rows s t u a.keeps b.keeps; fresh = omega (arith, a.fresh, b.fresh) }

pub still_settled : (rows : Rows) (s t : State) (rank call way : ℕ) → Keeps rows s t → IsSettled rows s rank call way → IsSettled rows t rank call way
still_settled rows s t rank call way keeps settled e = elim (keeps rank way) [
  | inl w ↦ w
  | inr (d, f) ↦ f (settled (e ∙ d))
]

way_in_call : (needs : Option Needs) (way : ℕ) (places : List Place) → slice_get (ways_in needs) way ≡ Some places → is_some needs ≡ true
way_in_call None way places e = cc
way_in_call (Some ways) way places e = refl

-- a call passes: the call behind it is reached, and nothing else
newly_reached : (rows : Rows) (done : List ℕ) (at rank call : ℕ) → at < length done → reached rows (counted done) rank call ≡ false → reached rows (counted (set done at (slice_index done at + 1))) rank call ≡ true
    → (rank ≡ at) × (call ≡ slice_index done at + 1) × (is_some (needs_of rows rank call) ≡ true)
newly_reached rows done at rank call h unreached after =
    let more = set done at (slice_index done at + 1) in
    let is_call = and_left (is_some (needs_of rows rank call)) (follows (counted more) rank call) after in
    let to = follows_to more rank call (and_right (is_some (needs_of rows rank call)) (follows (counted more) rank call) after) in
    let past : slice_index done rank < call = elim (cases_order call (slice_index done rank)) [
      | inl e ↦ absurd (true≢false (sym (and_both (is_some (needs_of rows rank call)) (follows (counted done) rank call) is_call (follows_from done rank call (omega arith))) ∙ unreached))
      | inr (inl e) ↦ absurd (true≢false (sym (and_both (is_some (needs_of rows rank call)) (follows (counted done) rank call) is_call (follows_from done rank call (omega arith))) ∙ unreached))
      | inr (inr e) ↦ e
    ] in
    elim (cases_order rank at) [
      | inl same ↦ (let there : slice_index more rank ≡ slice_index done at + 1 = ap (λ r. get_or more r 0) same ∙ get_or-set_same done at (slice_index done at + 1) 0 h in
          let here : slice_index done rank ≡ slice_index done at = ap (λ r. get_or done r 0) same in (same, omega arith, is_call))
      | inr (inl less) ↦ absurd (omega (arith, get_or-set_other done at rank (slice_index done at + 1) 0 (λ q. omega arith)))
      | inr (inr less) ↦ absurd (omega (arith, get_or-set_other done at rank (slice_index done at + 1) 0 (λ q. omega arith)))
    ]

record Passes (rows : Rows) (s t : State) (at : ℕ) : Type 0 where
  in_done : at < length s.done
  done : t.done ≡ set s.done at (slice_index s.done at + 1)
  first : t.first ≡ s.first
  watches : t.watches ≡ s.watches
  old : (rank call : ℕ) → HasPlace s.fresh rank call → HasPlace t.fresh rank call
  new : is_some (needs_of rows at (slice_index s.done at + 1)) ≡ true → HasPlace t.fresh at (slice_index s.done at + 1)

still_pends : (rows : Rows) (s t : State) (at rank call : ℕ) → Passes rows s t at → Pends rows s rank call → Pends rows t rank call
still_pends rows s t at rank call p (inr h) = inr (p.old rank call h)
still_pends rows s t at rank call p (inl unreached) = elim (cases_Bool (reached rows (counted t.done) rank call)) [
  | inr still ↦ inl still
  | inl after ↦
      let n = newly_reached rows s.done at rank call p.in_done unreached (subst (λ d. reached rows (counted d) rank call ≡ true) p.done after) in
      let here = p.new (subst (λ c. is_some (needs_of rows at c) ≡ true) n.1 (subst (λ r. is_some (needs_of rows r call) ≡ true) n.0 n.2)) in
      inr (subst (λ r. HasPlace t.fresh r call) (sym n.0) (subst (λ c. HasPlace t.fresh at c) (sym n.1) here))
]

other_done : (rows : Rows) (s t : State) (at rank : ℕ) → Passes rows s t at → (rank ≡ at → ⊥) → slice_index t.done rank ≡ slice_index s.done rank
other_done rows s t at rank p ne = ap (λ d. get_or d rank 0) p.done ∙ get_or-set_other s.done at rank (slice_index s.done at + 1) 0 ne

still_waits : (rows : Rows) (s t : State) (at rank way : ℕ) (places : List Place) (q : Place) → Passes rows s t at → slice_index t.done rank ≡ slice_index s.done rank → WaitsAt rows s rank way places q → WaitsAt rows t rank way places q
still_waits rows s t at rank way places q p e x =
    let same : watches_at t (slot t q.rank q.call) ≡ watches_at s (slot s q.rank q.call) = cc (p.first, p.watches) in
    record {
      among = x.among;
      pends = still_pends rows s t at q.rank q.call p x.pends;
      watch = λ c. subst (λ k. HasWatch (watches_at t (slot t q.rank q.call)) rank k way) (sym e) (subst (λ l. HasWatch l rank (slice_index s.done rank) way) (sym same) (x.watch c));
    }

pass_keeps : (rows : Rows) (s t : State) (at : ℕ) → Passes rows s t at → Keeps rows s t
pass_keeps rows s t at p rank way = elim (cases_eq rank at) [
  | inl same ↦ inl (λ places e.
      let there : slice_index t.done rank ≡ slice_index s.done at + 1 = ap (λ d. get_or d rank 0) p.done ∙ ap (λ r. get_or (set s.done at (slice_index s.done at + 1)) r 0) same ∙ get_or-set_same s.done at (slice_index s.done at + 1) 0 p.in_done in
      let call = way_in_call (needs_of rows rank (slice_index t.done rank)) way places e in
      let here = p.new (subst (λ c. is_some (needs_of rows at c) ≡ true) there (subst (λ r. is_some (needs_of rows r (slice_index t.done rank)) ≡ true) same call)) in
      inl (subst (λ r. HasPlace t.fresh r (slice_index t.done rank)) (sym same) (subst (λ c. HasPlace t.fresh at c) (sym there) here)))
  | inr ne ↦
      let same = other_done rows s t at rank p ne in
      inr (
        same,
        λ w places e. elim (w places (subst (λ k. way_at rows rank k way ≡ Some places) same e)) [
          | inl h ↦ inl (subst (λ k. HasPlace t.fresh rank k) (sym same) (p.old rank (slice_index s.done rank) h))
          | inr (q, x) ↦ inr (q, still_waits rows s t at rank way places q p same x)
        ],
      )
]

abbrev pub passed_state : State → ℕ → List Place → State
passed_state s at fresh = record { done = set s.done at (slice_index s.done at + 1); first = s.first; watches = s.watches; fresh = fresh }

-- what a pass does
pub pass_steps : (rows : Rows) (s : State) (at : ℕ) (fresh : List Place) → IsReady rows s → at < length rows → some_way rows (counted s.done) (needs_of rows at (slice_index s.done at)) ≡ true
    → ((rank call : ℕ) → HasPlace s.fresh rank call → HasPlace fresh rank call)
    → (is_some (needs_of rows at (slice_index s.done at + 1)) ≡ true → HasPlace fresh at (slice_index s.done at + 1))
    → ((rank call : ℕ) → HasPlace fresh rank call → is_some (needs_of rows rank call) ≡ true)
    → length fresh ≤ length s.fresh + 1 → Steps rows s (passed_state s at fresh)
pass_steps rows s at fresh r h w old new calls few =
    let in_done : at < length s.done = omega (arith, r.sound.ranks) in
    record {
      ready = record { sound = pass_sound rows s.done at r.sound h w; firsts = r.firsts; slots = r.slots; few = r.few; calls = calls };
      keeps = pass_keeps rows s (passed_state s at fresh) at (record { in_done = in_done; done = refl; first = refl; watches = refl; old = old; new = new });
      fresh = omega (arith, sum_more s.done at in_done);
    }

abbrev pub waiting_state : State → List (List Watch) → State
waiting_state s watches = record { done = s.done; first = s.first; watches = watches; fresh = s.fresh }

-- what a wait does
pub wait_steps : (rows : Rows) (s : State) (watches : List (List Watch)) → IsReady rows s → length watches ≡ length s.watches
    → ((at rank call way : ℕ) → HasWatch (slice_index_or s.watches at []) rank call way → HasWatch (slice_index_or watches at []) rank call way) → Steps rows s (waiting_state s watches)
wait_steps rows s watches r len more = record {
  ready = record { sound = r.sound; firsts = r.firsts; slots = λ rank call e. omega (arith, r.slots rank call e); few = r.few; calls = r.calls };
  keeps = λ rank way. inr (
    refl,
    λ w places e. elim (w places e) [
      | inl h ↦ inl h
      | inr (q, x) ↦ inr (q, record { among = x.among; pends = x.pends; watch = λ c. more (slot s q.rank q.call) rank (slice_index s.done rank) way (x.watch c) })
    ],
  );
  fresh = omega arith;
}

pub set_more : (watches : List (List Watch)) (i : ℕ) (w : Watch) → i < length watches → (at rank call way : ℕ) → HasWatch (get_or watches at []) rank call way → HasWatch (get_or (set watches i (get_or watches i [] ++ w ∷ [])) at []) rank call way
set_more watches i w h at rank call way x = elim (cases_eq at i) [
  | inl same ↦ subst (λ l. HasWatch l rank call way) (sym (ap (λ a. get_or (set watches i (get_or watches i [] ++ w ∷ [])) a []) same ∙ get_or-set_same watches i (get_or watches i [] ++ w ∷ []) [] h))
      (watch_more (get_or watches i []) w rank call way (subst (λ a. HasWatch (get_or watches a []) rank call way) same x))
  | inr ne ↦ subst (λ l. HasWatch l rank call way) (sym (get_or-set_other watches i at (get_or watches i [] ++ w ∷ []) [] ne)) x
]

-- a way all of whose places are reached
pub all_at : {X : Type 0} (p : X → Bool) (xs : List X) → ((k : ℕ) (d : X) → k < length xs → p (get_or xs k d) ≡ true) → list_all p xs ≡ true
all_at p [] h = refl
all_at p (x ∷ xs) h = and_both (p x) (list_all p xs) (h 0 x (omega arith)) (all_at p xs (λ k d less. h (suc k) d (omega arith)))

or_here : (a b : Bool) → a ≡ true → (a || b) ≡ true
or_here true b e = refl
or_here false b e = absurd (true≢false (sym e))

or_there : (a b : Bool) → b ≡ true → (a || b) ≡ true
or_there true b e = refl
or_there false b e = e

pub any_at : {X : Type 0} (p : X → Bool) (xs : List X) (k : ℕ) (x : X) → slice_get xs k ≡ Some x → p x ≡ true → list_any p xs ≡ true
any_at p [] k x e h = cc
any_at p (y ∷ ys) zero x e h = let same : y ≡ x = cc in or_here (p y) (list_any p ys) (subst (λ z. p z ≡ true) (sym same) h)
any_at p (y ∷ ys) (suc k) x e h = or_there (p y) (list_any p ys) (any_at p ys k x e h)

pub open_way : (rows : Rows) (m : Marks) (needs : Option Needs) (way : ℕ) (places : List Place) → slice_get (ways_in needs) way ≡ Some places
    → ((k : ℕ) (d : Place) → k < length places → reached rows m (get_or places k d).rank (get_or places k d).call ≡ true) → some_way rows m needs ≡ true
open_way rows m None way places e h = cc
open_way rows m (Some ways) way places e h = any_at (list_all (λ (p : Place). reached rows m p.rank p.call)) ways way places e (all_at (λ (p : Place). reached rows m p.rank p.call) places h)

-- an alternative that waits at one of its places
pub has_at : {X : Type 0} (xs : List X) (k : ℕ) (d : X) → k < length xs → Has xs (get_or xs k d)
has_at [] k d h = absurd (omega arith)
has_at (x ∷ xs) zero d h = inl refl
has_at (x ∷ xs) (suc k) d h = inr (has_at xs k d (omega arith))

pub wait_settles : (rows : Rows) (s : State) (rank call way : ℕ) (places : List Place) (q : Place) → way_at rows rank call way ≡ Some places → Has places q → reached rows (counted s.done) q.rank q.call ≡ false
    → (is_some (needs_of rows q.rank q.call) ≡ true → HasWatch (watches_at s (slot s q.rank q.call)) rank call way) → IsSettled rows s rank call way
wait_settles rows s rank call way places q is among unreached watch e others f =
    let same : places ≡ others = cc (is, subst (λ k. way_at rows rank k way ≡ Some others) (sym e) f) in
    inr (q, record { among = subst (λ l. Has l q) same among; pends = inl unreached; watch = λ c. subst (λ k. HasWatch (watches_at s (slot s q.rank q.call)) rank k way) e (watch c) })

-- what an index reads
pub index_is : {X : Type 0} (xs : List X) (i : ℕ) (x d : X) → i < length xs → x ≡ get_or xs i x → x ≡ get_or xs i d
index_is xs i x d h e = e ∙ get_or_default xs i x d h

rank_in : (rows : Rows) (rank call : ℕ) → is_some (needs_of rows rank call) ≡ true → rank < length rows
rank_in [] rank call e = absurd (true≢false (sym e))
rank_in (calls ∷ rows) zero call e = omega arith
rank_in (calls ∷ rows) (suc rank) call e = omega (arith, rank_in rows rank call e)

pub rank_of_call : (rows : Rows) (rank call : ℕ) → is_some (needs_of rows rank call) ≡ true → rank < length rows
rank_of_call rows rank call e = rank_in rows rank call e

pub call_with_way : (rows : Rows) (m : Marks) (needs : Option Needs) → some_way rows m needs ≡ true → is_some needs ≡ true
call_with_way rows m None e = absurd (true≢false (sym e))
call_with_way rows m (Some ways) e = refl

abbrev pub counted_state : State → ℕ → ℕ → List Place → State
counted_state s at count fresh = record { done = set s.done at count; first = s.first; watches = s.watches; fresh = fresh }

pub pass_push : (rows : Rows) (s : State) (at n : ℕ) (p : Place) (fresh : List Place) → IsReady rows s → n ≡ slice_index s.done at → some_way rows (counted s.done) (needs_of rows at (slice_index s.done at)) ≡ true
    → p.rank ≡ at → p.call ≡ n + 1 → is_some (needs_of rows p.rank p.call) ≡ true → fresh ≡ s.fresh ++ p ∷ [] → Steps rows s (counted_state s at (n + 1) fresh)
pass_push rows s at n p fresh r is way pr pc call e =
    let inside = rank_in rows at (slice_index s.done at) (call_with_way rows (counted s.done) (needs_of rows at (slice_index s.done at)) way) in
    let next : p.call ≡ slice_index s.done at + 1 = omega arith in
    subst (λ k. Steps rows s (counted_state s at (k + 1) fresh)) (sym is) (subst (λ f. Steps rows s (passed_state s at f)) (sym e) (pass_steps rows s at (s.fresh ++ p ∷ []) r inside way
    (λ rank call h. place_more s.fresh p rank call h)
    (λ c. subst (λ k. HasPlace (s.fresh ++ p ∷ []) at k) next (subst (λ k. HasPlace (s.fresh ++ p ∷ []) k p.call) pr (place_last s.fresh p)))
    (λ rank here h. elim (place_or s.fresh p rank here h) [
      | inl old ↦ r.calls rank here old
      | inr (a, b) ↦ subst (λ k. is_some (needs_of rows k here) ≡ true) a (subst (λ k. is_some (needs_of rows p.rank k) ≡ true) b call)
    ])
    (omega (arith, length-append s.fresh (p ∷ [])))))

pub pass_last : (rows : Rows) (s : State) (at n : ℕ) → IsReady rows s → n ≡ slice_index s.done at → some_way rows (counted s.done) (needs_of rows at (slice_index s.done at)) ≡ true
    → is_some (needs_of rows at (n + 1)) ≡ false → Steps rows s (counted_state s at (n + 1) s.fresh)
pass_last rows s at n r is way none =
    let inside = rank_in rows at (slice_index s.done at) (call_with_way rows (counted s.done) (needs_of rows at (slice_index s.done at)) way) in
    subst (λ k. Steps rows s (counted_state s at (k + 1) s.fresh)) (sym is) (pass_steps rows s at s.fresh r inside way
    (λ rank call h. h)
    (λ c. absurd (true≢false (sym c ∙ subst (λ k. is_some (needs_of rows at (k + 1)) ≡ false) is none)))
    r.calls
    (omega arith))

pub wait_push : (rows : Rows) (s : State) (i : ℕ) (old new : List Watch) (w : Watch) → IsReady rows s → i < length s.watches → old ≡ get_or s.watches i old → new ≡ old ++ w ∷ [] → Steps rows s (waiting_state s (set s.watches i new))
wait_push rows s i old new w r h is e =
    let same : new ≡ get_or s.watches i [] ++ w ∷ [] = e ∙ ap (λ l. l ++ w ∷ []) (index_is s.watches i old [] h is) in
    subst (λ l. Steps rows s (waiting_state s (set s.watches i l))) (sym same) (wait_steps rows s (set s.watches i (get_or s.watches i [] ++ w ∷ [])) r (length-set s.watches i (get_or s.watches i [] ++ w ∷ [])) (set_more s.watches i w h))

pub wait_has : (watches : List (List Watch)) (i at : ℕ) (old new : List Watch) (w : Watch) → i < length watches → i ≡ at → new ≡ old ++ w ∷ [] → HasWatch (get_or (set watches i new) at []) w.rank w.call w.way
wait_has watches i at old new w h same e =
    subst (λ a. HasWatch (get_or (set watches i new) a []) w.rank w.call w.way) same (subst (λ l. HasWatch l w.rank w.call w.way) (sym (get_or-set_same watches i new [] h)) (subst (λ l. HasWatch l w.rank w.call w.way) (sym e) (watch_last old w)))

pub on_ok : {T E A B : Type 0} (r : Result T E) → (A → B) → OnOk r A → OnOk r B
on_ok (Ok x) f a = f a
on_ok (Err e) f a = a

pub on_both : {T E A B C : Type 0} (r : Result T E) → (A → B → C) → OnOk r A → OnOk r B → OnOk r C
on_both (Ok x) f a b = f a b
on_both (Err e) f a b = a

pub mapped_is : {X Y : Type 0} (f : X → Y) (r : Option X) (x : X) (o : Option Y) → option_map f r ≡ o → r ≡ Some x → o ≡ Some (f x)
mapped_is f r x o e is = sym e ∙ ap (option_map f) is

pub copied_some : {X : Type 0} (r : Option (Bor X)) → is_some (option_copied r) ≡ is_some r
copied_some None = refl
copied_some (Some p) = refl

pub rank_of_way : (rows : Rows) (rank call way : ℕ) (places : List Place) → way_at rows rank call way ≡ Some places → rank < length rows
rank_of_way rows rank call way places e = rank_in rows rank call (way_in_call (needs_of rows rank call) way places e)

-- looking at a call: its own alternatives, and those that were watched at it
own_or_taken : (rows : Rows) (s : State) (p : Place) (rank way : ℕ) (places : List Place) → is_some (needs_of rows p.rank p.call) ≡ true → way_at rows rank (slice_index s.done rank) way ≡ Some places → IsWatched rows (with_fresh s p) rank way
    → IsWatched rows (taken s (slot s p.rank p.call)) rank way
    ⊎ (((p.rank ≡ rank) × (p.call ≡ slice_index s.done rank)) ⊎ HasWatch (watches_at s (slot s p.rank p.call)) rank (slice_index s.done rank) way)
own_or_taken rows s p rank way places call is w = elim (w places is) [
  | inl h ↦ elim (place_or s.fresh p rank (slice_index s.done rank) h) [
    | inl old ↦ inl (λ others e. inl old)
    | inr e ↦ inr (inl e)
  ]
  | inr (q, x) ↦ elim (cases_Bool (is_some (needs_of rows q.rank q.call))) [
    | inr none ↦ inl (λ others e. inr (
      q,
      record {
        among = subst (λ l. Has l q) (let same : places ≡ others = cc in same) x.among;
        pends = inl (rw none refl);
        watch = λ c. absurd (true≢false (sym c ∙ none));
      },
    ))
    | inl some ↦ elim (cases_eq (slot s q.rank q.call) (slot s p.rank p.call)) [
      | inl same ↦ inr (inr (subst (λ a. HasWatch (watches_at s a) rank (slice_index s.done rank) way) same (x.watch some)))
      | inr ne ↦ inl (λ others e. inr (
        q,
        record {
          among = subst (λ l. Has l q) (let same : places ≡ others = cc in same) x.among;
          pends = elim x.pends [
            | inl unreached ↦ inl unreached
            | inr h ↦ elim (place_or s.fresh p q.rank q.call h) [
              | inl old ↦ inr old
              | inr (a, b) ↦ absurd (ne (ap (λ r. slot s r q.call) (sym a) ∙ ap (λ k. slot s p.rank k) (sym b)))
            ]
          ];
          watch = λ c. subst (λ l. HasWatch l rank (slice_index s.done rank) way) (sym (get_or-set_other s.watches (slot s p.rank p.call) (slot s q.rank q.call) [] [] ne)) (x.watch c);
        },
      ))
    ]
  ]
]

pub looked_at : (rows : Rows) (s t : State) (p : Place) → is_some (needs_of rows p.rank p.call) ≡ true → AllWatched rows (with_fresh s p) → Keeps rows (taken s (slot s p.rank p.call)) t
    → ((way : ℕ) → way < length (ways_in (needs_of rows p.rank p.call)) → IsSettled rows t p.rank p.call way)
    → ((rank call way : ℕ) → HasWatch (watches_at s (slot s p.rank p.call)) rank call way → IsSettled rows t rank call way) → AllWatched rows t
looked_at rows s t p call all keeps own woken rank way = elim (keeps rank way) [
  | inl w ↦ w
  | inr (same, f) ↦ (λ places e.
      let is = subst (λ k. way_at rows rank k way ≡ Some places) same e in
      elim (own_or_taken rows s p rank way places call is (all rank way)) [
        | inl w ↦ f w places e
        | inr (inl (a, b)) ↦
            let here : way < length (ways_in (needs_of rows p.rank p.call)) = slice_get_within (ways_in (needs_of rows p.rank p.call)) way places (subst (λ r. way_at rows r p.call way ≡ Some places) (sym a) (subst (λ k. way_at rows rank k way ≡ Some places) (sym b) is)) in
            subst (λ r. IsSettled rows t r p.call way) a (own way here) (b ∙ sym same) places e
        | inr (inr h) ↦ woken rank (slice_index s.done rank) way h (sym same) places e
      ])
]

pub each_watch : (ws : List Watch) (P : ℕ → ℕ → ℕ → Type 0) → ((k : ℕ) (d : Watch) → k < length ws → P (get_or ws k d).rank (get_or ws k d).call (get_or ws k d).way) → (rank call way : ℕ) → HasWatch ws rank call way → P rank call way
each_watch [] P all rank call way h = absurd h
each_watch (w ∷ ws) P all rank call way (inl (a, b, e)) = subst (λ k. P k call way) a (subst (λ k. P w.rank k way) b (subst (λ k. P w.rank w.call k) e (all 0 w (omega arith))))
each_watch (w ∷ ws) P all rank call way (inr h) = each_watch ws P (λ k d less. all (suc k) d (omega arith)) rank call way h

-- at the end no alternative is left that could let a call pass
pub any_where : {X : Type 0} (p : X → Bool) (xs : List X) → list_any p xs ≡ true → (k : ℕ) × (x : X) × (slice_get xs k ≡ Some x) × (p x ≡ true)
any_where p [] e = absurd (true≢false (sym e))
any_where p (x ∷ xs) e = elim (cases_Bool (p x)) [
  | inl h ↦ (0, x, refl, h)
  | inr h ↦ (let r = any_where p xs (rw h at e) in (suc r.0, r.1, r.2, r.3))
]

all_has : {X : Type 0} (p : X → Bool) (xs : List X) (x : X) → list_all p xs ≡ true → Has xs x → p x ≡ true
all_has p [] x e h = absurd h
all_has p (y ∷ ys) x e (inl same) = subst (λ z. p z ≡ true) (sym same) (and_left (p y) (list_all p ys) e)
all_has p (y ∷ ys) x e (inr h) = all_has p ys x (and_right (p y) (list_all p ys) e) h

pub some_open : (rows : Rows) (m : Marks) (needs : Option Needs) → some_way rows m needs ≡ true → (way : ℕ) × (places : List Place) × (slice_get (ways_in needs) way ≡ Some places) × (list_all (λ (p : Place). reached rows m p.rank p.call) places ≡ true)
some_open rows m None e = absurd (true≢false (sym e))
some_open rows m (Some ways) e = any_where (list_all (λ (p : Place). reached rows m p.rank p.call)) ways e

pub all_closed : (rows : Rows) (s : State) → AllWatched rows s → s.fresh ≡ [] → IsClosed rows s.done
all_closed rows s all empty rank = false_from_ne_true (some_way rows (counted s.done) (needs_of rows rank (slice_index s.done rank))) (λ e.
    let o = some_open rows (counted s.done) (needs_of rows rank (slice_index s.done rank)) e in
    elim (all rank o.0 o.1 o.2) [
      | inl h ↦ subst (λ l. HasPlace l rank (slice_index s.done rank)) empty h
      | inr (q, x) ↦ elim x.pends [
        | inl unreached ↦ true≢false (sym (all_has (λ (p : Place). reached rows (counted s.done) p.rank p.call) o.1 q o.3 x.among) ∙ unreached)
        | inr h ↦ subst (λ l. HasPlace l q.rank q.call) empty h
      ]
    ])

-- at the start
zero_at : (n k : ℕ) → slice_index (replicate n 0) k ≡ 0
zero_at zero k = refl
zero_at (suc n) zero = refl
zero_at (suc n) (suc k) = zero_at n k

pub start_sound : (rows : Rows) (done : List ℕ) → done ≡ replicate (length rows) 0 → IsSound rows done
start_sound rows done e = subst (IsSound rows) (sym e) (record {
  ranks = length-replicate (length rows) 0;
  calls = λ rank. omega (arith, zero_at (length rows) rank);
  sound = λ rank call h. absurd (omega (arith, ltb-true call (get_or (replicate (length rows) 0) rank 0) h, zero_at (length rows) rank));
})

pub first_push : (rows : Rows) (calls more : List Place) (at : ℕ) (p : Place) → p.rank ≡ at → p.call ≡ 0 → is_some (needs_of rows at 0) ≡ true → more ≡ calls ++ p ∷ []
    → ((rank : ℕ) → rank < at → is_some (needs_of rows rank 0) ≡ true → HasPlace calls rank 0)
    → (rank : ℕ) → rank < at + 1 → is_some (needs_of rows rank 0) ≡ true → HasPlace more rank 0
first_push rows calls more at p a b call e all rank less here = subst (λ l. HasPlace l rank 0) (sym e) (elim (cases_order rank at) [
  | inl same ↦ subst (λ k. HasPlace (calls ++ p ∷ []) k 0) (a ∙ sym same) (subst (λ k. HasPlace (calls ++ p ∷ []) p.rank k) b (place_last calls p))
  | inr (inl before) ↦ place_more calls p rank 0 (all rank before here)
  | inr (inr behind) ↦ absurd (omega arith)
])

pub first_calls_push : (rows : Rows) (calls more : List Place) (at : ℕ) (p : Place) → p.rank ≡ at → p.call ≡ 0 → is_some (needs_of rows at 0) ≡ true → more ≡ calls ++ p ∷ []
    → ((rank call : ℕ) → HasPlace calls rank call → (call ≡ 0) × (is_some (needs_of rows rank call) ≡ true))
    → (rank call : ℕ) → HasPlace more rank call → (call ≡ 0) × (is_some (needs_of rows rank call) ≡ true)
first_calls_push rows calls more at p a b call e all rank number h = elim (place_or calls p rank number (subst (λ l. HasPlace l rank number) e h)) [
  | inl old ↦ all rank number old
  | inr (c, d) ↦ (sym d ∙ b, subst (λ k. is_some (needs_of rows k number) ≡ true) (sym a ∙ c) (subst (λ k. is_some (needs_of rows at k) ≡ true) (sym b ∙ d) call))
]

pub first_skip : (rows : Rows) (calls more : List Place) (at : ℕ) → is_some (needs_of rows at 0) ≡ false → more ≡ calls
    → ((rank : ℕ) → rank < at → is_some (needs_of rows rank 0) ≡ true → HasPlace calls rank 0)
    → (rank : ℕ) → rank < at + 1 → is_some (needs_of rows rank 0) ≡ true → HasPlace more rank 0
first_skip rows calls more at none e all rank less here = subst (λ l. HasPlace l rank 0) (sym e) (elim (cases_order rank at) [
  | inl same ↦ absurd (true≢false (sym here ∙ ap (λ k. is_some (needs_of rows k 0)) same ∙ none))
  | inr (inl before) ↦ all rank before here
  | inr (inr behind) ↦ absurd (omega arith)
])

-- a call was taken from those to look at
pub popped_ready : (rows : Rows) (s : State) (p : Place) → IsReady rows (with_fresh s p) → IsReady rows s
popped_ready rows s p r = record { sound = r.sound; firsts = r.firsts; slots = r.slots; few = r.few; calls = λ rank call h. r.calls rank call (place_more s.fresh p rank call h) }

pub popped_call : (rows : Rows) (s : State) (p : Place) → IsReady rows (with_fresh s p) → is_some (needs_of rows p.rank p.call) ≡ true
popped_call rows s p r = r.calls p.rank p.call (place_last s.fresh p)

-- the slots of one more rank
pub more_slots : (rows : Rows) (first : List ℕ) (at before after : ℕ) → length first ≡ at → before + length (calls_of rows at) ≡ after
    → ((rank : ℕ) → rank < at → slice_index first rank + length (calls_of rows rank) ≤ before)
    → (rank : ℕ) → rank < at + 1 → slice_index (first ++ before ∷ []) rank + length (calls_of rows rank) ≤ after
more_slots rows first at before after len grown all rank less = elim (cases_order rank at) [
  | inl same ↦
      let last : slice_index (first ++ before ∷ []) rank ≡ before = ap (λ r. get_or (first ++ before ∷ []) r 0) (same ∙ sym len) ∙ get_or-append_seam first before [] 0 in
      let calls : length (calls_of rows rank) ≡ length (calls_of rows at) = ap (λ r. length (calls_of rows r)) same in
      omega (arith, last, calls, grown)
  | inr (inl below) ↦ omega (arith, get_or-append first (before ∷ []) 0 rank (omega arith), all rank below)
  | inr (inr above) ↦ absurd (omega arith)
]

pub calls_at : (rows : Rows) (at : ℕ) (row : List Needs) → at < length rows → row ≡ get_or rows at row → calls_of rows at ≡ row
calls_at rows at row h e = ap calls_in (slice_get-get_or rows at row h) ∙ sym e
