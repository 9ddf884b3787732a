-- Steps of the core's worklist keep each alternative of a kept rank watched.
use Rattle.std.proofs.Common.{◌≡◌, ℕ, zero, suc, ◌<◌, ◌⊎◌, Bool, true, false, not, ◌&&◌, ◌||◌, List, [], ◌∷◌, ◌++◌, length, get_or, set, Option, Some, None, refl, sym, ap, subst, ◌∙◌, inl, inr, arith, slice_get, nat_eq, slice_index_or}
use Rattle.std.specs.List.{list_all, list_any}
use Rattle.std.proofs.lemmas.Bool.{cases_eq, eqb-true, eq-eqb, true≢false, false_from_ne_true}
use Rattle.std.proofs.lemmas.List.{get_or-set_same, get_or-set_other, length-set, length-append}
use Rattle.std.proofs.lemmas.Option.{slice_get-get_or}
use Rattle.must_call.specs.declared.place.Place.{Place}
use Rattle.must_base.specs.Listing.{Has}
use Rattle.must_wait.specs.declared.worklist.Watch.{Watch}
use Rattle.must_wait.specs.Core.{is_held}
use Rattle.must_wait.specs.Dropping.{CoreState, is_call_at, HeldAt, IsHeldWay, AllWaysHeld, WasLooked, HasWays, IsCoreReady, CoreSteps, with_dropped, core_taken}
use Rattle.must_wait.specs.Keeping.{kept_call, behind, holds_yet, AllHeld}
use Rattle.must_wait.specs.Needs.{Needs, Rows, needs_of}
use Rattle.must_wait.specs.Watching.{HasWatch, way_at, ways_in}
use Rattle.must_wait.proofs.Kept.{in_kept, one_less, drop_kept, not_true}
use Rattle.must_wait.proofs.Listed.{has_more, has_last, has_or}
use Rattle.must_wait.proofs.Rounds.{and_both}
use Rattle.must_wait.proofs.Watched.{set_more, index_is, all_at}

pub both_core_steps : (rows : Rows) (s t u : CoreState) → CoreSteps rows s t → CoreSteps rows t u → CoreSteps rows s u
both_core_steps rows s t u a b = record {
  ready = b.ready;
  keeps = λ rank way. elim (b.keeps rank way) [
    | inl w ↦ inl w
    | inr (e, f) ↦ elim (a.keeps rank way) [
      | inl w ↦ inl (f w)
      | inr (d, g) ↦ inr (e ∙ d, λ w. f (g w))
    ]
  ];
  less = λ rank call e. a.less rank call (b.less rank call e);
  rounds = λ blocked list k. b.rounds blocked list (a.rounds blocked list k);
  count = omega (arith, a.count, b.count);
}

pub still_looked : (rows : Rows) (s t : CoreState) (rank call way : ℕ) → CoreSteps rows s t → WasLooked rows s rank call way → WasLooked rows t rank call way
still_looked rows s t rank call way steps looked e = elim (steps.keeps rank way) [
  | inl w ↦ w
  | inr (d, f) ↦ f (looked (sym d ∙ e))
]

-- a rank is dropped
abbrev pub dropped_state : CoreState → ℕ → CoreState
dropped_state s rank = record { kept = set s.kept rank None; watches = s.watches; dropped = s.dropped ++ rank ∷ [] }

none_kept_at : (kept : List (Option ℕ)) (at call : ℕ) → at < length kept → kept_call (set kept at None) at ≡ Some call → ⊥
none_kept_at kept at call h e = let clash : None ≡ Some call = sym (get_or-set_same kept at None None h) ∙ e in cc

still_holds : (s : CoreState) (at : ℕ) (q : Place) → (holds_yet s.kept q ≡ true) ⊎ Has s.dropped q.rank → (holds_yet (set s.kept at None) q ≡ true) ⊎ Has (s.dropped ++ at ∷ []) q.rank
still_holds s at q (inr h) = inr (has_more s.dropped at q.rank h)
still_holds s at q (inl h) = elim (cases_eq q.rank at) [
  | inl same ↦ inr (subst (λ r. Has (s.dropped ++ at ∷ []) r) (sym same) (has_last s.dropped at))
  | inr ne ↦ inl (ap (λ o. behind o q.call) (get_or-set_other s.kept at q.rank None None ne) ∙ h)
]

pub drop_steps : (rows : Rows) (s : CoreState) (at call : ℕ) → IsCoreReady rows s → kept_call s.kept at ≡ Some call → is_held (holds_yet s.kept) (needs_of rows at call) ≡ false → CoreSteps rows s (dropped_state s at)
drop_steps rows s at call r e free =
    let inside = in_kept s.kept at call e in
    record {
      ready = record {
        kept = length-set s.kept at None ∙ r.kept;
        watches = r.watches;
        dropped = λ rank h. elim (has_or s.dropped at rank h) [ inl old ↦ r.dropped rank old | inr same ↦ omega (arith, r.kept) ];
      };
      keeps = λ rank way. elim (cases_eq rank at) [
        | inl same ↦ inl (λ other places k w. absurd (none_kept_at s.kept at other inside (subst (λ i. kept_call (set s.kept at None) i ≡ Some other) same k)))
        | inr ne ↦ (let is = get_or-set_other s.kept at rank None None ne in
            inr (
              is,
              λ held other places k w.
                  let h = held other places (sym is ∙ k) w in
                  (h.0, record { among = h.1.among; holds = still_holds s at h.0 h.1.holds; watch = h.1.watch }),
            ))
      ];
      less = λ rank other k. elim (cases_eq rank at) [
        | inl same ↦ absurd (none_kept_at s.kept at other inside (subst (λ i. kept_call (set s.kept at None) i ≡ Some other) same k))
        | inr ne ↦ sym (get_or-set_other s.kept at rank None None ne) ∙ k
      ];
      rounds = λ blocked list k. (suc k.0, drop_kept rows blocked k.0 s.kept at call list k.1 e free);
      count = omega (arith, one_less s.kept at call e, length-append s.dropped (at ∷ []));
    }

-- an alternative waits at a place that holds it
abbrev pub watched_state : CoreState → List (List Watch) → CoreState
watched_state s watches = record { kept = s.kept; watches = watches; dropped = s.dropped }

pub watch_steps : (rows : Rows) (s : CoreState) (watches : List (List Watch)) → IsCoreReady rows s → length watches ≡ length s.watches
    → ((at rank call way : ℕ) → HasWatch (slice_index_or s.watches at []) rank call way → HasWatch (slice_index_or watches at []) rank call way) → CoreSteps rows s (watched_state s watches)
watch_steps rows s watches r len more = record {
  ready = record { kept = r.kept; watches = len ∙ r.watches; dropped = r.dropped };
  keeps = λ rank way. inr (refl, λ held call places k w. let h = held call places k w in (h.0, record { among = h.1.among; holds = h.1.holds; watch = more h.0.rank rank call way h.1.watch }));
  less = λ rank call e. e;
  rounds = λ blocked list k. k;
  count = omega arith;
}

pub watch_push : (rows : Rows) (s : CoreState) (i : ℕ) (old new : List Watch) (w : Watch) → IsCoreReady rows s → i < length s.watches → old ≡ get_or s.watches i old → new ≡ old ++ w ∷ [] → CoreSteps rows s (watched_state s (set s.watches i new))
watch_push rows s i old new w r h is e =
    let same : new ≡ get_or s.watches i [] ++ w ∷ [] = e ∙ ap (λ l. l ++ w ∷ []) (index_is s.watches i old [] h is) in
    subst (λ l. CoreSteps rows s (watched_state s (set s.watches i l))) (sym same) (watch_steps rows s (set s.watches i (get_or s.watches i [] ++ w ∷ [])) r (length-set s.watches i (get_or s.watches i [] ++ w ∷ [])) (set_more s.watches i w h))

pub watch_looks : (rows : Rows) (s : CoreState) (rank call way : ℕ) (places : List Place) (q : Place) → way_at rows rank call way ≡ Some places → Has places q → holds_yet s.kept q ≡ true → HasWatch (slice_index_or s.watches q.rank []) rank call way → WasLooked rows s rank call way
watch_looks rows s rank call way places q is among holds watch e other others k f =
    let same_call : call ≡ other = let both : Some call ≡ Some other = sym e ∙ k in cc in
    let same : places ≡ others = (let both : Some places ≡ Some others = sym is ∙ subst (λ c. way_at rows rank c way ≡ Some others) (sym same_call) f in cc) in
    (q, record { among = subst (λ l. Has l q) same among; holds = inl holds; watch = subst (λ c. HasWatch (slice_index_or s.watches q.rank []) rank c way) same_call watch })

-- an alternative that no place holds
none_any : {X : Type 0} (p : X → Bool) (xs : List X) → ((k : ℕ) (d : X) → k < length xs → p (get_or xs k d) ≡ false) → list_any p xs ≡ false
none_any p [] h = refl
none_any p (x ∷ xs) h = rw (h 0 x (omega arith)) (none_any p xs (λ k d less. h (suc k) d (omega arith)))

pub one_fails : {X : Type 0} (p : X → Bool) (xs : List X) (k : ℕ) (x : X) → slice_get xs k ≡ Some x → p x ≡ false → list_all p xs ≡ false
one_fails p [] k x e h = absurd (cc)
one_fails p (y ∷ ys) zero x e h = let same : x ≡ y = cc in rw (ap p (sym same) ∙ h) refl
one_fails p (y ∷ ys) (suc k) x e h = false_and (p y) (list_all p ys) (one_fails p ys k x e h) where
  false_and : (a b : Bool) → b ≡ false → (a && b) ≡ false
  false_and true b e = e
  false_and false b e = refl

pub free_way : (held : Place → Bool) (needs : Option Needs) (way : ℕ) (places : List Place) → slice_get (ways_in needs) way ≡ Some places → ((k : ℕ) (d : Place) → k < length places → held (get_or places k d) ≡ false) → is_held held needs ≡ false
free_way held None way places e h = absurd (cc)
free_way held (Some ways) way places e h = false_both (not (nat_eq (length ways) 0)) (list_all (list_any held) ways) (one_fails (list_any held) ways way places e (none_any held places h)) where
  false_both : (a b : Bool) → b ≡ false → (a && b) ≡ false
  false_both true b e = e
  false_both false b e = refl

-- looking at the watches of a dropped rank
own_or_taken : (rows : Rows) (s : CoreState) (at rank way : ℕ) → IsHeldWay rows (with_dropped s at) rank way → (call : ℕ) (places : List Place) → kept_call s.kept rank ≡ Some call → way_at rows rank call way ≡ Some places
    → ((q : Place) × HeldAt (core_taken s at) rank call way places q) ⊎ HasWatch (slice_index_or s.watches at []) rank call way
own_or_taken rows s at rank way held call places k w =
    let h = held call places k w in
    let q = h.0 in
    elim (cases_eq q.rank at) [
      | inl same ↦ inr (subst (λ i. HasWatch (slice_index_or s.watches i []) rank call way) same h.1.watch)
      | inr ne ↦ inl (
        q,
        record {
          among = h.1.among;
          holds = elim h.1.holds [
            | inl yet ↦ inl yet
            | inr d ↦ elim (has_or s.dropped at q.rank d) [ inl old ↦ inr old | inr same ↦ absurd (ne same) ]
          ];
          watch = subst (λ l. HasWatch l rank call way) (sym (get_or-set_other s.watches at q.rank [] [] ne)) h.1.watch;
        },
      )
    ]

pub all_looked : (rows : Rows) (s t : CoreState) (at : ℕ) → AllWaysHeld rows (with_dropped s at) → CoreSteps rows (core_taken s at) t
    → ((rank call way : ℕ) → HasWatch (slice_index_or s.watches at []) rank call way → WasLooked rows t rank call way) → AllWaysHeld rows t
all_looked rows s t at all steps woken rank way = elim (steps.keeps rank way) [
  | inl w ↦ w
  | inr (same, f) ↦ (λ call places k w. elim (own_or_taken rows s at rank way (all rank way) call places (sym same ∙ k) w) [
    | inl h ↦ f (one_way rows s at rank way call places (sym same ∙ k) w h) call places k w
    | inr h ↦ woken rank call way h k call places k w
  ])
] where
  one_way : (rows : Rows) (s : CoreState) (at rank way call : ℕ) (places : List Place) → kept_call s.kept rank ≡ Some call → way_at rows rank call way ≡ Some places → (q : Place) × HeldAt (core_taken s at) rank call way places q → IsHeldWay rows (core_taken s at) rank way
  one_way rows s at rank way call places k w h other others l v =
      let same_call : call ≡ other = let both : Some call ≡ Some other = sym k ∙ l in cc in
      let same : places ≡ others = (let both : Some places ≡ Some others = sym w ∙ subst (λ c. way_at rows rank c way ≡ Some others) (sym same_call) v in cc) in
      subst (λ c. (q : Place) × HeldAt (core_taken s at) rank c way others q) same_call (subst (λ ps. (q : Place) × HeldAt (core_taken s at) rank call way ps q) same h)

-- at the end each kept rank is held
pub has_any : {X : Type 0} (p : X → Bool) (xs : List X) (x : X) → Has xs x → p x ≡ true → list_any p xs ≡ true
has_any p [] x h e = absurd h
has_any p (y ∷ ys) x (inl same) e = rw (ap p (sym same) ∙ e) refl
has_any p (y ∷ ys) x (inr h) e = or_true (p y) (list_any p ys) (has_any p ys x h e) where
  or_true : (a b : Bool) → b ≡ true → (a || b) ≡ true
  or_true true b e = refl
  or_true false b e = e

pub held_needs : (held : Place → Bool) (needs : Option Needs) → 0 < length (ways_in needs) → ((way : ℕ) (places : List Place) → slice_get (ways_in needs) way ≡ Some places → list_any held places ≡ true) → is_held held needs ≡ true
held_needs held None some all = absurd (omega arith)
held_needs held (Some []) some all = absurd (omega arith)
held_needs held (Some (way ∷ ways)) some all =
    and_both (not (nat_eq (length (way ∷ ways)) 0)) (list_all (list_any held) (way ∷ ways))
    (not_true (nat_eq (length (way ∷ ways)) 0) (false_from_ne_true (nat_eq (length (way ∷ ways)) 0) (λ e. let none = eqb-true (length (way ∷ ways)) 0 e in absurd (omega arith))))
    (all_at (list_any held) (way ∷ ways) (λ k d h. all k (get_or (way ∷ ways) k d) (slice_get-get_or (way ∷ ways) k d h)))

pub all_ways_held : (rows : Rows) (s : CoreState) → AllWaysHeld rows s → HasWays rows s.kept → s.dropped ≡ [] → AllHeld rows s.kept
all_ways_held rows s all ways empty rank call e = held_needs (holds_yet s.kept) (needs_of rows rank call) (ways rank call e) (λ way places w.
    let h = all rank way call places e w in
    has_any (holds_yet s.kept) places h.0 h.1.among (elim h.1.holds [
      | inl yet ↦ yet
      | inr d ↦ absurd (subst (λ l. Has l h.0.rank) empty d)
    ]))

behind_some : (o : Option ℕ) (call : ℕ) → behind o call ≡ true → (c : ℕ) × (o ≡ Some c)
behind_some None call e = absurd (true≢false (sym e))
behind_some (Some c) call e = (c, refl)

pub holder_in : (kept : List (Option ℕ)) (q : Place) → holds_yet kept q ≡ true → q.rank < length kept
holder_in kept q e = let b = behind_some (kept_call kept q.rank) q.call e in in_kept kept q.rank b.0 b.1

pub is_at : (o : Option ℕ) (call : ℕ) → o ≡ Some call → is_call_at o call ≡ true
is_at o call e = ap (λ p. is_call_at p call) e ∙ eq-eqb call call refl

pub popped_core : (rows : Rows) (s : CoreState) (at : ℕ) → IsCoreReady rows (with_dropped s at) → IsCoreReady rows s × (at < length rows)
popped_core rows s at r = (record { kept = r.kept; watches = r.watches; dropped = λ rank h. r.dropped rank (has_more s.dropped at rank h) }, r.dropped at (has_last s.dropped at))
