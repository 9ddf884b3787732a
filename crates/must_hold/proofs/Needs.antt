-- The needs of a rank's operations, over a call and at the end.
use Rattle.std.proofs.Common.{◌≡◌, ◌⊎◌, inl, inr, ℕ, zero, suc, ◌<◌, ◌≤◌, ◌==◌, Bool, true, false, cond, ◌&&◌, ◌||◌, List, [], ◌∷◌, ◌++◌, length, take, get_or, ◌+◌, Option, Some, None, refl, ap, sym, subst, ◌∙◌, arith, eqb-true, append_assoc}
use Rattle.std.proofs.lemmas.Bool.{eqb-false, eq-eqb}
use Rattle.std.specs.Prelude.{◌↔◌, map, option_and_then, slice_get, slice_set, pos, reverse}
use Rattle.std.specs.List.{AllByRecursion}
use Rattle.std.specs.Ordering.{nat_cmp}
use Rattle.std.specs.BTreeMap.{get}
use Rattle.std.proofs.lemmas.List.{reverse-append, append-nil}
use Rattle.must_base.specs.Listing.{Has}
use Rattle.must_call.specs.declared.class.Class.TheVariants.{Request}
use Rattle.must_call.specs.declared.call.Call.{Call}
use Rattle.must_call.specs.declared.place.Place.{Place}
use Rattle.must_find.specs.declared.rule.Rule.TheVariants.{N1}
use Rattle.must_find.specs.declared.finding.Finding.{Finding}
use Rattle.must_find.specs.Adds.{Adds}
use Rattle.must_rules.specs.Rank.{Rank}
use Rattle.must_rules.specs.Answer.{Answer, alone}
use Rattle.std.proofs.lemmas.List.Folds.{list_any_more}
use Rattle.must_rules.specs.Making.{is_in}
use Rattle.must_rules.specs.Lives.{ends}
use Rattle.must_rules.specs.Operations.{Operation, operations_at, operations_of}
use Rattle.must_rules.specs.Fates.{Fate, Open as StillOpen, Freed, Done, fate_of}
use Rattle.must_rules.specs.Statuses.{is_open_wildcard, open_wildcard}
use Rattle.must_messages.specs.declared.asked.Begun.{Begun}
use Rattle.must_messages.specs.Asking.{IsBegun, AreBegun}
use Rattle.must_messages.specs.PlainLaws.{no_some, same_some}
use Rattle.must_messages.specs.OperationLaws.{IsBegunBelow, operations_more}
use Rattle.must_messages.specs.CallNeeds.{Need as Alternative, operation_need}
use Rattle.must_messages.specs.WildLaws.{HasRow, wild_rows, wild_only}
use Rattle.must_messages.specs.Holding.{is_settled}
use Rattle.must_hold.specs.declared.held.Need.{Need}
use Rattle.must_hold.specs.declared.held.Settling.{Settling}
use Rattle.must_hold.specs.declared.table.Table.{Table}
use Rattle.must_hold.specs.Ended.{IsPending, need_ended, need_seen, unmet_at}
use Rattle.must_hold.specs.Queue.{IsOpenAt, Holds, ShowsWhile, HoldsWhile}
use Rattle.must_hold.specs.Changes.{Ends, Finishes, Closes, ClosesOthers, not_done, is_either}
use Rattle.must_hold.specs.declared.held.Pending.{Pending}
use Rattle.must_hold.specs.declared.held.End.{End}
use Rattle.must_hold.specs.declared.held.Held.{Held}
use Rattle.must_hold.specs.declared.held.Held.TheVariants.{Open, Settled}
use Rattle.must_hold.specs.Needing.{Tells, unmet_of, HaveNeeds, with_need, is_still, is_among, ended_now, HaveNeedsWhile, BeginsNeeds, IsUnmetIn, AreUnmetIn}
use Rattle.must_rules.specs.Numbered.{AreNumbered}
use Rattle.must_rules.specs.Statuses.{under_way}
use Rattle.must_messages.specs.ActiveLaws.{IsActive, open_is_active}
use Rattle.must_hold.specs.ActiveLaws.{all_get, get_has, get_within, get_either, is_under_way}
use Rattle.must_hold.specs.Keeping.{IsOpenWildcard}
use Rattle.must_hold.proofs.Ending.{IsMore, still_open, in_at}
use Rattle.must_hold.proofs.Needing.{told_stays, told_open}

-- ---- lists

set_length : {X : Type 0} (xs : List X) (i : ℕ) (x : X) → length (slice_set xs i x) ≡ length xs
set_length [] i x = refl
set_length (y ∷ xs) zero x = refl
set_length (y ∷ xs) (suc i) x = ap suc (set_length xs i x)

set_same : {X : Type 0} (xs : List X) (i : ℕ) (x y : X) → slice_get (slice_set xs i x) i ≡ Some y → x ≡ y
set_same [] i x y e = no_some y e
set_same (z ∷ xs) zero x y e = same_some x y e
set_same (z ∷ xs) (suc i) x y e = set_same xs i x y e

set_other : {X : Type 0} (xs : List X) (i j : ℕ) (x : X) → (j ≡ i → ⊥) → slice_get (slice_set xs i x) j ≡ slice_get xs j
set_other [] i j x apart = refl
set_other (z ∷ xs) zero zero x apart = absurd (apart refl)
set_other (z ∷ xs) zero (suc j) x apart = refl
set_other (z ∷ xs) (suc i) zero x apart = refl
set_other (z ∷ xs) (suc i) (suc j) x apart = set_other xs i j x (λ e. apart (ap suc e))

there : {X : Type 0} (xs : List X) (n : ℕ) → n < length xs → (x : X) × (slice_get xs n ≡ Some x)
there [] n h = absurd (omega arith)
there (x ∷ xs) zero h = (x, refl)
there (x ∷ xs) (suc n) h = there xs n (omega arith)

long : {X : Type 0} (xs : List X) (x : X) → length (xs ++ x ∷ []) ≡ suc (length xs)
long [] x = refl
long (y ∷ xs) x = ap suc (long xs x)

-- ---- while a call ends operations

none_among : (b : Bool) (o : Option ℕ) → (b && is_among (λ q. false) o) ≡ false
none_among true None = refl
none_among true (Some q) = refl
none_among false o = refl

same_among : (b : Bool) (done other_done : ℕ → Bool) → ((q : ℕ) → other_done q ≡ done q) → (o : Option ℕ) → (b && is_among other_done o) ≡ (b && is_among done o)
same_among b done other_done same None = refl
same_among b done other_done same (Some q) = ap (λ (x : Bool). b && x) (same q)

module _ (r : Rank) (calls : List Call) (call : Call) (ops : List Operation) where
  abbrev after : Bool → List Call
  after b = cond b (calls ++ call ∷ []) calls

  pub while_none_yet : (needs : List Need) → HaveNeeds r calls ops needs → HaveNeedsWhile r calls call (λ q. false) ops needs
  while_none_yet needs h = record {
    count = h.count;
    each = λ n need op a b. subst (λ (x : Bool). Tells r (after x) need op) (sym (none_among (is_still (fate_of calls op)) op.request)) (h.each n need op a b);
  }

  pub while_alike : (done other_done : ℕ → Bool) (needs : List Need) → ((q : ℕ) → other_done q ≡ done q) → HaveNeedsWhile r calls call done ops needs → HaveNeedsWhile r calls call other_done ops needs
  while_alike done other_done needs same h = record {
    count = h.count;
    each = λ n need op a b. subst (λ (x : Bool). Tells r (after x) need op) (sym (same_among (is_still (fate_of calls op)) done other_done same op.request)) (h.each n need op a b);
  }

  module _ (done new_done : ℕ → Bool) (q : ℕ) (more : IsMore q done new_done) (old : Table) (w : HoldsWhile r calls call done ops old) where
    -- the request isn't that of the operation, or nothing is open for it
    still_same : (n : ℕ) (op : Operation) → slice_get ops n ≡ Some op → (get nat_cmp old.numbers q ≡ Some n → ⊥) → ended_now calls new_done op ≡ ended_now calls done op
    still_same n op at apart = by (fate_of calls op) refl op.request refl
      where
        key : (x : ℕ) → op.request ≡ Some x → fate_of calls op ≡ StillOpen → (b d : Bool) → (q == x) ≡ b → done x ≡ d → (d || b) ≡ d
        key x e f b true g h = refl
        key x e f false false g h = refl
        key x e f true false g h =
            let same : x ≡ q = sym (eqb-true q x g) in
            absurd (apart (w.whole q n (record { op = op; there = at; request_is = e ∙ ap Some same; is_open = f }) (ap done (sym same) ∙ h)))

        by : (f : Fate) → fate_of calls op ≡ f → (o : Option ℕ) → op.request ≡ o → (is_still f && is_among new_done o) ≡ (is_still f && is_among done o)
        by StillOpen f None e = refl
        by StillOpen f (Some x) e = more x ∙ key x e f (q == x) (done x) refl refl
        by Freed f o e = refl
        by (Done k statuses) f o e = refl

    pub needs_none : (settling : Option Settling) (needs : List Need) → get nat_cmp old.numbers q ≡ None → settling ≡ None → HaveNeedsWhile r calls call done ops needs → HaveNeedsWhile r calls call new_done ops (with_need needs settling)
    needs_none settling needs none nothing h =
        subst (λ (s : Option Settling). HaveNeedsWhile r calls call new_done ops (with_need needs s)) (sym nothing) (record {
          count = h.count;
          each = λ n need op a b. subst (λ (x : Bool). Tells r (after x) need op) (sym (still_same n op b (λ e. no_some n (sym none ∙ e)))) (h.each n need op a b);
        })

    pub needs_some : (settling : Option Settling) (needs : List Need) (n : ℕ) (told : Need) → get nat_cmp old.numbers q ≡ Some n → settling ≡ Some (record { number = n; need = told })
        → ((op : Operation) → slice_get ops n ≡ Some op → Tells r (calls ++ call ∷ []) told op) → HaveNeedsWhile r calls call done ops needs → HaveNeedsWhile r calls call new_done ops (with_need needs settling)
    needs_some settling needs n told found is tells h =
        subst (λ (s : Option Settling). HaveNeedsWhile r calls call new_done ops (with_need needs s)) (sym is) (record {
          count = set_length needs n told ∙ h.count;
          each = λ m need op a b. at m need op a b (m == n) refl;
        })
      where
        here : IsOpenAt calls ops q n
        here = (w.sound q n found).0

        now_ended : (op : Operation) → op ≡ here.op → ended_now calls new_done op ≡ true
        now_ended op same =
            ap (λ (f : Fate). is_still f && is_among new_done op.request) (ap (fate_of calls) same ∙ here.is_open)
            ∙ ap (is_among new_done) (ap (λ (o : Operation). o.request) same ∙ here.request_is)
            ∙ more q ∙ ap (λ (b : Bool). done q || b) (eq-eqb q q refl) ∙ or_true (done q)
          where
            or_true : (b : Bool) → (b || true) ≡ true
            or_true true = refl
            or_true false = refl

        at : (m : ℕ) (need : Need) (op : Operation) → slice_get (slice_set needs n told) m ≡ Some need → slice_get ops m ≡ Some op → (b : Bool) → (m == n) ≡ b → Tells r (after (ended_now calls new_done op)) need op
        at m need op a o true same =
            let eq : m ≡ n = eqb-true m n same in
            let op_here : slice_get ops n ≡ Some op = ap (slice_get ops) (sym eq) ∙ o in
            let is_op : op ≡ here.op = same_some op here.op (sym op_here ∙ here.there) in
            let need_is : told ≡ need = set_same needs n told need (ap (slice_get (slice_set needs n told)) (sym eq) ∙ a) in
            subst (λ (x : Bool). Tells r (after x) need op) (sym (now_ended op is_op)) (subst (λ (x : Need). Tells r (calls ++ call ∷ []) x op) need_is (tells op op_here))
        at m need op a o false apart =
            let far = eqb-false m n apart in
            subst (λ (x : Bool). Tells r (after x) need op) (sym (still_same m op o (λ e. far (same_some m n (sym e ∙ found)))))
            (h.each m need op (sym (set_other needs n m told far) ∙ a) o)

  -- behind the last
  pub needs_ended : (done : ℕ → Bool) (needs : List Need) → AllByRecursion (IsBegunBelow (length calls)) ops → ((q : ℕ) → ends false Request q call ≡ done q) → HaveNeedsWhile r calls call done ops needs → HaveNeeds r (calls ++ call ∷ []) ops needs
  needs_ended done needs below exact h = record { count = h.count; each = λ n need op a b. by need op (all_get (IsBegunBelow (length calls)) ops below n op b) (fate_of calls op) refl (is_among done op.request) refl (h.each n need op a b) }
    where
      not_among : (o : Option ℕ) → is_among done o ≡ false → (q : ℕ) → o ≡ Some q → ends false Request q call ≡ false
      not_among None e q f = no_some q f
      not_among (Some x) e q f = ap (λ (k : ℕ). ends false Request k call) (sym (same_some x q f)) ∙ exact x ∙ e

      by : (need : Need) (op : Operation) → op.call < length calls → (f : Fate) → fate_of calls op ≡ f → (b : Bool) → is_among done op.request ≡ b → Tells r (after (ended_now calls done op)) need op → Tells r (calls ++ call ∷ []) need op
      by need op under StillOpen f true e t =
          subst (λ (x : Bool). Tells r (after x) need op) (ap (λ (g : Fate). is_still g && is_among done op.request) f ∙ e) t
      by need op under StillOpen f false e t =
          let before : Tells r calls need op = subst (λ (x : Bool). Tells r (after x) need op) (ap (λ (g : Fate). is_still g && is_among done op.request) f ∙ e) t in
          told_open r calls call need op f (still_open r calls call op under f (λ q g. not_among op.request e q g)) before
      by need op under Freed f b e t =
          let before : Tells r calls need op = subst (λ (x : Bool). Tells r (after x) need op) (ap (λ (g : Fate). is_still g && is_among done op.request) f) t in
          told_stays r calls call need op under (ap is_settled f) before
      by need op under (Done k statuses) f b e t =
          let before : Tells r calls need op = subst (λ (x : Bool). Tells r (after x) need op) (ap (λ (g : Fate). is_still g && is_among done op.request) f) t in
          told_stays r calls call need op under (ap is_settled f) before

-- ---- one request of those that a call ends

-- the open operation of a request, as it is held
record IsOpenHeld (calls : List Call) (ops : List Operation) (done : ℕ → Bool) (table : Table) (q n : ℕ) : Type 0 where
  is_open : IsOpenAt calls ops q n
  not_yet : done q ≡ false
  pending : Pending
  held : get nat_cmp table.held n ≡ Some (Open pending)
  shown : IsPending pending is_open.op

open_held : (r : Rank) (calls : List Call) (call : Call) (done : ℕ → Bool) (ops : List Operation) (old : Table) → HoldsWhile r calls call done ops old → (q n : ℕ) → get nat_cmp old.numbers q ≡ Some n → IsOpenHeld calls ops done old q n
open_held r calls call done ops old w q n found =
    let o = w.sound q n found in
    let one = w.each n o.0.op o.0.there (below o.0 (Rattle.std.specs.Prelude.nat_lt n old.given) refl) in
    at o.0 o.1 one.one one.there one.shows
  where
    below : IsOpenAt calls ops q n → (b : Bool) → Rattle.std.specs.Prelude.nat_lt n old.given ≡ b → old.given ≤ n
    below o true e =
        let known = w.before n o.op o.there (Rattle.std.proofs.lemmas.Bool.ltb-true n old.given e) in
        absurd (let no : false ≡ true = sym (ap is_settled o.is_open) ∙ known in cc)
    below o false e = Rattle.std.proofs.lemmas.Bool.ltb-false n old.given e

    at : (o : IsOpenAt calls ops q n) → done q ≡ false → (one : Held) → get nat_cmp old.held n ≡ Some one → ShowsWhile r calls call done one o.op → IsOpenHeld calls ops done old q n
    at o not_yet (Open p) there s = record { is_open = o; not_yet = not_yet; pending = p; held = there; shown = s.0.0 }
    at o not_yet (Settled item) there s = absurd (let no : false ≡ true = sym (ap is_settled o.is_open) ∙ s.1 q o.request_is not_yet in cc)

needs_step : (r : Rank) (calls : List Call) (call : Call) (ops : List Operation) (done new_done : ℕ → Bool) (q rank : ℕ) (old new : Table) (end : End) (settling : Option Settling) (needs : List Need) → IsMore q done new_done → HoldsWhile r calls call done ops old
    → (get nat_cmp old.numbers q ≡ None → settling ≡ None)
    → ((n : ℕ) (p : Pending) → get nat_cmp old.numbers q ≡ Some n → get nat_cmp old.held n ≡ Some (Open p) → Ends rank q n p end settling old new)
    → (done q ≡ false → (n : ℕ) (p : Pending) (op : Operation) → slice_get ops n ≡ Some op → op.request ≡ Some q → fate_of calls op ≡ StillOpen → IsPending p op → Finishes r (calls ++ call ∷ []) rank p end op)
    → HaveNeedsWhile r calls call done ops needs → HaveNeedsWhile r calls call new_done ops (with_need needs settling)
needs_step r calls call ops done new_done q rank old new end settling needs more w none some closes h = at (get nat_cmp old.numbers q) refl
  where
    at : (o : Option ℕ) → get nat_cmp old.numbers q ≡ o → HaveNeedsWhile r calls call new_done ops (with_need needs settling)
    at None e = needs_none r calls call ops done new_done q more old w settling needs e (none e) h
    at (Some n) e =
        let held = open_held r calls call done ops old w q n e in
        let p = held.pending in
        needs_some r calls call ops done new_done q more old w settling needs n (need_ended rank p end) e (some n p e held.held).settling_is
        (λ op here.
        let same : held.is_open.op ≡ op = same_some held.is_open.op op (sym held.is_open.there ∙ here) in
        (closes held.not_yet n p op here (ap (λ (x : Operation). x.request) (sym same) ∙ held.is_open.request_is) (ap (fate_of calls) (sym same) ∙ held.is_open.is_open) (subst (IsPending p) same held.shown)).need)
        h

-- one request of several that the call completes
pub complete_needs : (r : Rank) (calls : List Call) (call : Call) (ops : List Operation) (rank : ℕ) (requests : List ℕ) (end : ℕ → End) (i : ℕ) (old new : Table) (ended : End) (settling : Option Settling) (needs : List Need) → i < length requests
    → ended ≡ end (get_or requests i 0)
    → (get nat_cmp old.numbers (get_or requests i 0) ≡ None → settling ≡ None)
    → ((n : ℕ) (p : Pending) → get nat_cmp old.numbers (get_or requests i 0) ≡ Some n → get nat_cmp old.held n ≡ Some (Open p) → Ends rank (get_or requests i 0) n p ended settling old new)
    → Closes r calls call ops rank requests end → HoldsWhile r calls call (is_in (take i requests)) ops old → HaveNeedsWhile r calls call (is_in (take i requests)) ops needs → HaveNeedsWhile r calls call (is_in (take (i + 1) requests)) ops (with_need needs settling)
complete_needs r calls call ops rank requests end i old new ended settling needs within is none some closes w h =
    let q = get_or requests i 0 in
    needs_step r calls call ops (is_in (take i requests)) (is_in (take (i + 1) requests)) q rank old new ended settling needs (λ x. list_any_more (λ n. n == x) requests i 0 within) w none some
    (λ not_yet n p op there request is_open pending.
    subst (λ (e : End). Finishes r (calls ++ call ∷ []) rank p e op) (sym is) (closes q n p op (in_at requests i 0 within) there request is_open pending)) h

-- the request that the call frees
pub freed_needs : (r : Rank) (calls : List Call) (call : Call) (ops : List Operation) (rank q : ℕ) (done requests : List ℕ) (old new : Table) (ended : End) (settling : Option Settling) (needs : List Need) → requests ≡ q ∷ [] → ended ≡ not_done
    → (get nat_cmp old.numbers q ≡ None → settling ≡ None)
    → ((n : ℕ) (p : Pending) → get nat_cmp old.numbers q ≡ Some n → get nat_cmp old.held n ≡ Some (Open p) → Ends rank q n p ended settling old new)
    → ClosesOthers r calls call ops rank done requests not_done → HoldsWhile r calls call (is_in done) ops old → HaveNeedsWhile r calls call (is_in done) ops needs → HaveNeedsWhile r calls call (is_either done requests) ops (with_need needs settling)
freed_needs r calls call ops rank q done requests old new ended settling needs one is none some closes w h =
    needs_step r calls call ops (is_in done) (is_either done requests) q rank old new ended settling needs (λ x. ap (λ (rs : List ℕ). is_in done x || is_in rs x) one ∙ ap (λ (b : Bool). is_in done x || b) (last (q == x))) w none some
    (λ not_yet n p op there request is_open pending.
    subst (λ (e : End). Finishes r (calls ++ call ∷ []) rank p e op) (sym is) (closes q n p op not_yet (ap (λ (rs : List ℕ). is_in rs q) one ∙ ap (λ (b : Bool). b || false) (eq-eqb q q refl)) there request is_open pending)) h
  where
    last : (b : Bool) → (b || false) ≡ b
    last true = refl
    last false = refl

pub freed_no_needs : (r : Rank) (calls : List Call) (call : Call) (ops : List Operation) (done requests : List ℕ) (needs : List Need) → requests ≡ [] → HaveNeedsWhile r calls call (is_in done) ops needs → HaveNeedsWhile r calls call (is_either done requests) ops needs
freed_no_needs r calls call ops done requests needs none h =
    while_alike r calls call ops (is_in done) (is_either done requests) needs (λ q. ap (λ (rs : List ℕ). is_in done q || is_in rs q) none ∙ last (is_in done q)) h
  where
    last : (b : Bool) → (b || false) ≡ b
    last true = refl
    last false = refl

-- ---- what a call begins

pub needs_push : (r : Rank) (now : List Call) (ops : List Operation) (op : Operation) (needs : List Need) (need : Need) → HaveNeeds r now ops needs → Tells r now need op → HaveNeeds r now (ops ++ op ∷ []) (needs ++ need ∷ [])
needs_push r now ops op needs need h tells = record {
  count = long needs need ∙ ap suc h.count ∙ sym (long ops op);
  each = λ n x o a b. at n x o (get_either needs need n x a) (get_either ops op n o b);
}
  where
    at : (n : ℕ) (x : Need) (o : Operation) → (slice_get needs n ≡ Some x) ⊎ ((n ≡ length needs) × (x ≡ need)) → (slice_get ops n ≡ Some o) ⊎ ((n ≡ length ops) × (o ≡ op)) → Tells r now x o
    at n x o (inl a) (inl b) = h.each n x o a b
    at n x o (inr a) (inr b) = subst (λ (y : Need). Tells r now y o) (sym a.1) (subst (λ (z : Operation). Tells r now need z) (sym b.1) tells)
    at n x o (inl a) (inr b) = let inside = get_within needs n x a in let end = b.0 in absurd (omega (arith, inside, end, h.count))
    at n x o (inr a) (inl b) = let inside = get_within ops n o b in let end = a.0 in absurd (omega (arith, inside, end, h.count))

module _ (r : Rank) (calls : List Call) (call : Call) (k : ℕ) where
  pub begin_needs_first : (begun reversed : List Begun) (needs : List Need) → reversed ≡ reverse begun → AreBegun k begun (operations_at r calls call) → HaveNeeds r (calls ++ call ∷ []) (operations_of r calls) needs → BeginsNeeds r (calls ++ call ∷ []) k needs reversed
  begin_needs_first begun reversed needs e are have = record {
    ops = operations_of r calls;
    rest = operations_at r calls call;
    whole = sym (operations_more r calls call);
    are = subst (λ (bs : List Begun). AreBegun k bs (operations_at r calls call)) (sym (ap reverse e ∙ Rattle.std.proofs.lemmas.List.reverse-reverse begun)) are;
    have = have;
  }

  pub begin_needs_next : (front : List Begun) (one : Begun) (old new : List Need) → BeginsNeeds r (calls ++ call ∷ []) k old (front ++ one ∷ [])
      → ((op : Operation) (ops : List Operation) → IsBegun k one op → HaveNeeds r (calls ++ call ∷ []) ops old → HaveNeeds r (calls ++ call ∷ []) (ops ++ op ∷ []) new) → BeginsNeeds r (calls ++ call ∷ []) k new front
  begin_needs_next front one old new b more = at b.rest b.whole (subst (λ (bs : List Begun). AreBegun k bs b.rest) (reverse-append front (one ∷ [])) b.are)
    where
      at : (rest : List Operation) → b.ops ++ rest ≡ operations_of r (calls ++ call ∷ []) → AreBegun k (one ∷ reverse front) rest → BeginsNeeds r (calls ++ call ∷ []) k new front
      at [] whole are = absurd are
      at (op ∷ rest) whole are = record { ops = b.ops ++ op ∷ []; rest = rest; whole = append_assoc b.ops (op ∷ []) rest ∙ whole; are = are.1; have = more op b.ops are.0 b.have }

  pub begin_needs_last : (needs : List Need) → BeginsNeeds r (calls ++ call ∷ []) k needs [] → HaveNeeds r (calls ++ call ∷ []) (operations_of r (calls ++ call ∷ [])) needs
  begin_needs_last needs b = at b.rest b.whole b.are
    where
      at : (rest : List Operation) → b.ops ++ rest ≡ operations_of r (calls ++ call ∷ []) → AreBegun k [] rest → HaveNeeds r (calls ++ call ∷ []) (operations_of r (calls ++ call ∷ [])) needs
      at [] whole are = subst (λ (ops : List Operation). HaveNeeds r (calls ++ call ∷ []) ops needs) (sym (append-nil b.ops) ∙ whole) b.have
      at (op ∷ rest) whole are = absurd are

-- ---- at the end

list_from : (r : Rank) (calls : List Call) (ops : List Operation) (needs : List Need) → length needs ≡ length ops → ((n : ℕ) (need : Need) (op : Operation) → slice_get needs n ≡ Some need → slice_get ops n ≡ Some op → Tells r calls need op)
    → map (need_seen r.rank) needs ≡ map (operation_need r calls) ops
list_from r calls [] [] count each = refl
list_from r calls (op ∷ ops) [] count each = absurd (omega (arith, count))
list_from r calls [] (need ∷ needs) count each = absurd (omega (arith, count))
list_from r calls (op ∷ ops) (need ∷ needs) count each =
    ap (λ (n : Alternative). n ∷ map (need_seen r.rank) needs) (each 0 need op refl refl).wants
    ∙ ap (λ (ns : List Alternative). operation_need r calls op ∷ ns) (list_from r calls ops needs (omega (arith, count)) (λ n x o a b. each (suc n) x o a b))

pub needs_listed : (r : Rank) (calls : List Call) (ops : List Operation) (needs : List Need) → HaveNeeds r calls ops needs → map (need_seen r.rank) needs ≡ map (operation_need r calls) ops
needs_listed r calls ops needs h = list_from r calls ops needs h.count h.each

record IsUnmetAt (rank : ℕ) (needs : List Need) (f : Finding) : Type 0 where
  n : ℕ
  need : Need
  at : slice_get needs n ≡ Some need
  is : IsUnmetIn rank need f

unmet_found : (rank : ℕ) (needs : List Need) (f : Finding) → AreUnmetIn rank needs f → IsUnmetAt rank needs f
unmet_found rank [] f h = absurd h
unmet_found rank (need ∷ needs) f (inl is) = record { n = 0; need = need; at = refl; is = is }
unmet_found rank (need ∷ needs) f (inr h) = let more = unmet_found rank needs f h in record { n = suc more.n; need = more.need; at = more.at; is = more.is }

found_unmet : (rank : ℕ) (needs : List Need) (f : Finding) (n : ℕ) (need : Need) → slice_get needs n ≡ Some need → IsUnmetIn rank need f → AreUnmetIn rank needs f
found_unmet rank [] f n need e is = no_some need e
found_unmet rank (x ∷ needs) f zero need e is = inl (subst (λ (y : Need). IsUnmetIn rank y f) (sym (same_some x need e)) is)
found_unmet rank (x ∷ needs) f (suc n) need e is = inr (found_unmet rank needs f n need e is)

open_then : (b : Bool) (a c : ℕ × ℕ) → cond b (Some a) None ≡ Some c → (b ≡ true) × (a ≡ c)
open_then true a c e = (refl, same_some a c e)
open_then false a c e = no_some c e

pub wildcards : (r : Rank) (calls : List Call) (rank : ℕ) (needs : List Need) (f : Finding) → r.rank ≡ rank → HaveNeeds r calls (operations_of r calls) needs → AreUnmetIn rank needs f ↔ IsOpenWildcard r calls f
wildcards r calls rank needs f same h = (
  λ are.
      let u = unmet_found rank needs f are in
      let o = there (operations_of r calls) u.n (let inside = get_within needs u.n u.need u.at in omega (arith, inside, h.count)) in
      let tells = h.each u.n u.need o.0 u.at o.1 in
      let p = open_then (is_open_wildcard calls o.0) (o.0.call, o.0.part) (f.call, f.part) (sym tells.unmet ∙ u.is.place) in
      let row = all_get (HasRow r calls) (operations_of r calls) (wild_rows r calls) u.n o.0 o.1 p.0 in
      record {
        rank_is = u.is.rank_is ∙ sym same;
        rule_is = u.is.rule_is;
        gives = ap (λ (x : ℕ × ℕ). open_wildcard r calls x.0 x.1) (sym p.1) ∙ row ∙ ap Some (sym u.is.answer);
      },
  λ is.
      let w = wild_only r calls f.call f.part (f.see, f.value) is.gives in
      let o = get_has (operations_of r calls) w.op w.there in
      let n = there needs o.0 (let inside = get_within (operations_of r calls) o.0 w.op o.1 in omega (arith, inside, h.count)) in
      let tells = h.each o.0 n.0 w.op n.1 o.1 in
      found_unmet rank needs f o.0 n.0 n.1 (record {
        rank_is = is.rank_is ∙ same;
        rule_is = is.rule_is;
        place = tells.unmet ∙ ap (λ (b : Bool). cond b (Some (w.op.call, w.op.part)) None) w.is_open ∙ ap (λ (k : ℕ). Some (k, w.op.part)) w.call_is ∙ ap (λ (k : ℕ). Some (f.call, k)) w.part_is;
        answer = w.answer_is;
      }),
)

pub wildcard_rows : (r : Rank) (calls : List Call) (rank : ℕ) (needs : List Need) (old new : List Finding) → r.rank ≡ rank → HaveNeeds r calls (operations_of r calls) needs → Adds old new (AreUnmetIn rank needs) → Adds old new (IsOpenWildcard r calls)
wildcard_rows r calls rank needs old new same h adds = λ f. (
  λ has. elim ((adds f).0 has) [ inl was ↦ inl was | inr are ↦ inr ((wildcards r calls rank needs f same h).0 are) ],
  λ is. elim is [ inl was ↦ (adds f).1 (inl was) | inr wild ↦ (adds f).1 (inr ((wildcards r calls rank needs f same h).1 wild)) ],
)

-- ---- the operation that is under way

pub number_is : (r : Rank) (calls : List Call) (t : Table) (q : ℕ) (o : Option ℕ) → AreNumbered 64 calls → Holds r calls (operations_of r calls) t → get nat_cmp t.numbers q ≡ o → option_and_then (λ n. slice_get (operations_of r calls) n) o ≡ under_way r calls q
number_is r calls t q (Some n) numbered h e =
    let o = h.sound q n e in
    let active = all_get (IsActive r calls) (operations_of r calls) (open_is_active r calls numbered) n o.op o.there in
    o.there ∙ sym (active q o.request_is o.is_open)
number_is r calls t q None numbered h e = none (under_way r calls q) refl
  where
    none : (u : Option Operation) → under_way r calls q ≡ u → None ≡ under_way r calls q
    none None f = sym f
    none (Some op) f =
        let is = is_under_way r calls q op f in
        let at = get_has (operations_of r calls) op is.there in
        no_some at.0 (sym e ∙ h.whole q at.0 (record { op = op; there = at.1; request_is = is.request_is; is_open = is.is_open }))

-- ---- before the first call

pub nothing_needed : (r : Rank) (needs : List Need) → needs ≡ [] → HaveNeeds r [] [] needs
nothing_needed r needs e = record { count = ap length e; each = λ n need op a b. no_some op b }
