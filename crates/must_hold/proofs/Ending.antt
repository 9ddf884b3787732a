-- What a table holds while a call ends operations.
use Rattle.std.proofs.Common.{◌≡◌, ◌≢◌, ℕ, zero, suc, ◌<◌, ◌≤◌, ◌==◌, Bool, true, false, cond, ◌&&◌, ◌||◌, List, [], ◌∷◌, ◌++◌, length, take, get_or, ◌+◌, Option, Some, None, refl, ap, sym, subst, ◌∙◌, ◌⊎◌, inl, inr, arith, eqb-true}
use Rattle.std.proofs.lemmas.Bool.{eqb-false}
use Rattle.std.specs.Prelude.{not, slice_get, option_map}
use Rattle.std.specs.List.{AllByRecursion}
use Rattle.std.specs.Ordering.{nat_cmp}
use Rattle.std.specs.BTreeMap.{BTreeMap, get}
use Rattle.must_call.specs.declared.class.Class.TheVariants.{Request}
use Rattle.must_call.specs.declared.call.Call.{Call}
use Rattle.must_rules.specs.Rank.{Rank}
use Rattle.std.specs.Option.{option_to_list}
use Rattle.std.proofs.lemmas.List.Folds.{list_any_more}
use Rattle.must_rules.specs.Making.{is_in, completes, cancelled_of}
use Rattle.must_rules.specs.Lives.{ends}
use Rattle.must_messages.specs.PlainLaws.{no_some, same_some}
use Rattle.must_rules.specs.Operations.{Operation}
use Rattle.must_messages.specs.OperationLaws.{IsBegunBelow}
use Rattle.must_rules.specs.Fates.{Fate, Open as StillOpen, Freed, Done, fate_by, fate_of, statuses_for}
use Rattle.must_messages.specs.FateLaws.{next_fate, fate_more, fate_stays}
use Rattle.must_messages.specs.ItemLaws.{item_stays}
use Rattle.must_messages.specs.TableLaws.{asked_more}
use Rattle.must_rules.specs.Statuses.{is_cancel_of, asked_to_cancel}
use Rattle.must_messages.specs.MessageItems.{item_seen, item_of}
use Rattle.must_messages.specs.Holding.{is_settled, is_known}
use Rattle.must_hold.specs.declared.held.Pending.{Pending}
use Rattle.must_hold.specs.declared.held.End.{End}
use Rattle.must_hold.specs.declared.held.Held.{Held}
use Rattle.must_hold.specs.declared.held.Held.TheVariants.{Open, Settled}
use Rattle.must_hold.specs.declared.held.Settling.{Settling}
use Rattle.must_hold.specs.declared.table.Table.{Table}
use Rattle.must_hold.specs.Ended.{IsPending, item_ended}
use Rattle.must_hold.specs.Queue.{Shows, IsOpenAt, IsHeldAt, Holds, ShowsWhile, IsHeldWhile, HoldsWhile}
use Rattle.must_hold.specs.Changes.{IsPut, AreSame, IsAlike, Ends, Cancels, cancelled, Finishes, Closes, ClosesOthers, not_done, is_either}
use Rattle.must_hold.specs.ActiveLaws.{all_get}

-- a request more is done
abbrev pub IsMore : (q : ℕ) → (old new : ℕ → Bool) → Type 0
IsMore q old new = (x : ℕ) → new x ≡ (old x || (q == x))

or_false : (a b : Bool) → (a || b) ≡ false → (a ≡ false) × (b ≡ false)
or_false true b e = let no : true ≡ false = e in absurd cc
or_false false b e = (refl, e)

both_false : (a b : Bool) → a ≡ false → b ≡ false → (a || b) ≡ false
both_false true b e f = let no : true ≡ false = e in absurd cc
both_false false b e f = f

pub other : (q x : ℕ) → (x ≡ q → ⊥) → (q == x) ≡ false
other q x apart = at (q == x) refl
  where
    at : (b : Bool) → (q == x) ≡ b → b ≡ false
    at true e = absurd (apart (sym (eqb-true q x e)))
    at false e = refl

module _ (r : Rank) (calls : List Call) (call : Call) where
  -- ---- before the first

  shown : (op : Operation) → op.call < length calls → (done : ℕ → Bool) → ((q : ℕ) → done q ≡ false) → (h : Held) → Shows r calls h op → ShowsWhile r calls call done h op
  shown op below done none (Open p) s = (s, λ q e. none q)
  shown op below done none (Settled item) s = ((ap is_settled (fate_stays calls call op below s.0) ∙ s.0, s.1 ∙ sym (item_stays r calls call op below s.0)), λ q e f. s.0)

  pub while_first : (done : ℕ → Bool) → ((q : ℕ) → done q ≡ false) → (ops : List Operation) (table : Table) → AllByRecursion (IsBegunBelow (length calls)) ops → Holds r calls ops table → HoldsWhile r calls call done ops table
  while_first done none ops table below h = record {
    count = h.count;
    few = h.few;
    each = λ n op there given. let one = h.each n op there given in record {
      one = one.one;
      there = one.there;
      shows = shown op (all_get (IsBegunBelow (length calls)) ops below n op there) done none one.one one.shows;
    };
    past = h.past;
    before = h.before;
    sound = λ q n e. (h.sound q n e, none q);
    whole = λ q n is_open e. h.whole q n is_open;
  }

  -- ---- one request more

  module _ (done new_done : ℕ → Bool) (q : ℕ) (more : IsMore q done new_done) (ops : List Operation) (old new : Table) (w : HoldsWhile r calls call done ops old) where
    not_yet : (x : ℕ) → new_done x ≡ false → done x ≡ false
    not_yet x e = (or_false (done x) (q == x) (sym (more x) ∙ e)).0

    not_now : (x : ℕ) → done x ≡ false → (x ≡ q → ⊥) → new_done x ≡ false
    not_now x e apart = more x ∙ both_false (done x) (q == x) e (other q x apart)

    -- what is held of an operation that isn't the request's open one
    still_shows : (n : ℕ) (op : Operation) → slice_get ops n ≡ Some op → ((is : get nat_cmp old.numbers q ≡ Some n) → ⊥) → (h : Held) → ShowsWhile r calls call done h op → ShowsWhile r calls call new_done h op
    still_shows n op there apart (Open p) s = (
      s.0,
      λ x e. not_now x (s.1 x e) (λ same.
          let e' : op.request ≡ Some q = e ∙ ap Some same in
          apart (w.whole q n (record { op = op; there = there; request_is = e'; is_open = s.0.2 }) (s.1 q e'))),
    )
    still_shows n op there apart (Settled item) s = (s.0, λ x e f. s.1 x e (not_yet x f))

    pub while_none : get nat_cmp old.numbers q ≡ None → IsAlike old new → HoldsWhile r calls call new_done ops new
    while_none none alike = record {
      count = alike.count ∙ w.count;
      few = subst (λ (g : ℕ). g ≤ length ops) (sym alike.given) w.few;
      each = λ n op there given. let one = w.each n op there (subst (λ (g : ℕ). g ≤ n) alike.given given) in record {
        one = one.one;
        there = alike.held n ∙ one.there;
        shows = still_shows n op there (λ e. no_some n (sym none ∙ e)) one.one one.shows;
      };
      past = λ n h. alike.held n ∙ w.past n h;
      before = λ n op there h. w.before n op there (subst (λ (g : ℕ). n < g) alike.given h);
      sound = λ x n e.
          let was = w.sound x n (sym (alike.numbers x) ∙ e) in
          (was.0, not_now x was.1 (λ same. no_some n (sym none ∙ ap (get nat_cmp old.numbers) (sym same) ∙ sym (alike.numbers x) ∙ e)));
      whole = λ x n is_open e. alike.numbers x ∙ w.whole x n is_open (not_yet x e);
    }

    pub while_some : (rank n : ℕ) (p : Pending) (end : End) (settling : Option Settling) → get nat_cmp old.numbers q ≡ Some n → Ends rank q n p end settling old new
        → ((op : Operation) → slice_get ops n ≡ Some op → Finishes r (calls ++ call ∷ []) rank p end op) → HoldsWhile r calls call new_done ops new
    while_some rank n p end settling found e settles = record {
      count = e.count ∙ w.count;
      few = subst (λ (g : ℕ). g ≤ length ops) (sym e.given) w.few;
      each = λ m op there given. held_at m op there (subst (λ (g : ℕ). g ≤ m) e.given given) (m == n) refl;
      past = λ m h. e.held.others m (λ same. none_here m h same) ∙ w.past m h;
      before = λ m op there h. w.before m op there (subst (λ (g : ℕ). m < g) e.given h);
      sound = λ x m there. was x m there (x == q) refl;
      whole = λ x m is_open not_done. e.numbers.others x (λ same. done_now x not_done same) ∙ w.whole x m is_open (not_yet x not_done);
    }
      where
        here : IsOpenAt calls ops q n
        here = (w.sound q n found).0

        request_here : (m : ℕ) (op : Operation) (x : ℕ) → m ≡ n → slice_get ops m ≡ Some op → op.request ≡ Some x → x ≡ q
        request_here m op x is there f =
            let same : op ≡ here.op = same_some op here.op (sym there ∙ ap (slice_get ops) is ∙ here.there) in
            same_some x q (sym f ∙ ap (λ (o : Operation). o.request) same ∙ here.request_is)

        done_now : (x : ℕ) → new_done x ≡ false → x ≡ q → ⊥
        done_now x not_done same = eqb-false q x (or_false (done x) (q == x) (sym (more x) ∙ not_done)).1 (sym same)

        held_at : (m : ℕ) (op : Operation) → slice_get ops m ≡ Some op → old.given ≤ m → (b : Bool) → (m == n) ≡ b → IsHeldWhile r calls call new_done new.held m op
        held_at m op there given true same =
            let is : m ≡ n = eqb-true m n same in
            let known = settles op (ap (slice_get ops) (sym is) ∙ there) in
            record { one = Settled e.item; there = ap (get nat_cmp new.held) is ∙ e.held.here; shows = ((known.known, e.item_is ∙ known.item), λ x f g. absurd (done_now x g (request_here m op x is there f))) }
        held_at m op there given false other =
            let one = w.each m op there given in
            record {
              one = one.one;
              there = e.held.others m (eqb-false m n other) ∙ one.there;
              shows = still_shows m op there (λ is. eqb-false m n other (sym (same_some n m (sym found ∙ is)))) one.one one.shows;
            }

        none_here : (m : ℕ) → length ops ≤ m → m ≡ n → ⊥
        none_here m h same = let below = Rattle.must_hold.specs.ActiveLaws.get_within ops n here.op here.there in omega (arith, h, same, below)

        was : (x m : ℕ) → get nat_cmp new.numbers x ≡ Some m → (b : Bool) → (x == q) ≡ b → IsOpenAt calls ops x m × (new_done x ≡ false)
        was x m there true same = no_some m (sym (ap (get nat_cmp new.numbers) (eqb-true x q same) ∙ e.numbers.here) ∙ there)
        was x m there false apart =
            let before = w.sound x m (sym (e.numbers.others x (eqb-false x q apart)) ∙ there) in
            (before.0, not_now x before.1 (eqb-false x q apart))

    -- the request's open operation, if there is one, ended so
    pub while_step : (rank : ℕ) (end : End) (settling : Option Settling)
        → (get nat_cmp old.numbers q ≡ None → IsAlike old new)
        → ((n : ℕ) (p : Pending) → get nat_cmp old.numbers q ≡ Some n → get nat_cmp old.held n ≡ Some (Open p) → Ends rank q n p end settling old new)
        → (done q ≡ false → (n : ℕ) (p : Pending) (op : Operation) → slice_get ops n ≡ Some op → op.request ≡ Some q → fate_of calls op ≡ StillOpen → IsPending p op
        → Finishes r (calls ++ call ∷ []) rank p end op) → HoldsWhile r calls call new_done ops new
    while_step rank end settling none some closes = at (get nat_cmp old.numbers q) refl
      where
        given_below : (n : ℕ) → IsOpenAt calls ops q n → old.given ≤ n
        given_below n o = below (Rattle.std.specs.Prelude.nat_lt n old.given) refl
          where
            below : (b : Bool) → Rattle.std.specs.Prelude.nat_lt n old.given ≡ b → old.given ≤ n
            below true e =
                let known = w.before n o.op o.there (Rattle.std.proofs.lemmas.Bool.ltb-true n old.given e) in
                absurd (let no : false ≡ true = sym (ap is_settled o.is_open) ∙ known in cc)
            below false e = Rattle.std.proofs.lemmas.Bool.ltb-false n old.given e

        by_held : (n : ℕ) → get nat_cmp old.numbers q ≡ Some n → (o : IsOpenAt calls ops q n) → done q ≡ false → (one : Held) → get nat_cmp old.held n ≡ Some one → ShowsWhile r calls call done one o.op → HoldsWhile r calls call new_done ops new
        by_held n found o not_done (Open p) there s =
            while_some rank n p end settling found (some n p found there) (λ op here.
            let same : o.op ≡ op = same_some o.op op (sym o.there ∙ here) in
            closes not_done n p op here (ap (λ (x : Operation). x.request) (sym same) ∙ o.request_is) (ap (fate_of calls) (sym same) ∙ o.is_open) (subst (IsPending p) same s.0.0))
        by_held n found o not_done (Settled item) there s = absurd (let no : false ≡ true = sym (ap is_settled o.is_open) ∙ s.1 q o.request_is not_done in cc)

        at : (x : Option ℕ) → get nat_cmp old.numbers q ≡ x → HoldsWhile r calls call new_done ops new
        at None e = while_none e (none e)
        at (Some n) e =
            let o = w.sound q n e in
            let one = w.each n o.0.op o.0.there (given_below n o.0) in
            by_held n e o.0 o.1 one.one one.there one.shows

  -- ---- behind the last

  open_by : (k q : ℕ) (fate : Fate) → next_fate k (Some q) call fate ≡ StillOpen → (fate ≡ StillOpen) × (ends false Request q call ≡ false)
  open_by k q StillOpen e = at (ends false Request q call) e
    where
      done_or : (c : Bool) → cond c (Done k (statuses_for q call)) Freed ≡ StillOpen → ⊥
      done_or true f = let no : Done k (statuses_for q call) ≡ StillOpen = f in absurd cc
      done_or false f = let no : Freed ≡ StillOpen = f in absurd cc

      at : (b : Bool) → cond b (fate_by q k (Some call)) StillOpen ≡ StillOpen → (StillOpen ≡ StillOpen) × (b ≡ false)
      at true f = absurd (done_or (completes Request q call) f)
      at false f = (refl, refl)
  open_by k q Freed e = let no : Freed ≡ StillOpen = e in absurd cc
  open_by k q (Done j statuses) e = let no : Done j statuses ≡ StillOpen = e in absurd cc

  pub still_open : (op : Operation) → op.call < length calls → fate_of calls op ≡ StillOpen → ((q : ℕ) → op.request ≡ Some q → ends false Request q call ≡ false) → fate_of (calls ++ call ∷ []) op ≡ StillOpen
  still_open op below is_open not_ended = fate_more calls call op below ∙ ap (next_fate (length calls) op.request call) is_open ∙ at op.request refl
    where
      at : (o : Option ℕ) → op.request ≡ o → next_fate (length calls) o call StillOpen ≡ StillOpen
      at None e = refl
      at (Some q) e = ap (λ (b : Bool). cond b (fate_by q (length calls) (Some call)) StillOpen) (not_ended q e)

  was_open : (op : Operation) (q : ℕ) → op.call < length calls → op.request ≡ Some q → fate_of (calls ++ call ∷ []) op ≡ StillOpen → (fate_of calls op ≡ StillOpen) × (ends false Request q call ≡ false)
  was_open op q below request is_open =
      open_by (length calls) q (fate_of calls op) (ap (λ (o : Option ℕ). next_fate (length calls) o call (fate_of calls op)) (sym request) ∙ sym (fate_more calls call op below) ∙ is_open)

  -- what is kept of an operation that stays open
  open_still : (op : Operation) (p new : Pending) → op.call < length calls → Shows r calls (Open p) op → ((q : ℕ) → op.request ≡ Some q → ends false Request q call ≡ false)
      → IsPending new op → new.cancel ≡ (p.cancel || is_cancel_of op.request call) → Shows r (calls ++ call ∷ []) (Open new) op
  open_still op p new below s not_ended pending cancel =
      (pending, cancel ∙ ap (λ (b : Bool). b || is_cancel_of op.request call) s.1 ∙ sym (asked_more calls call op below), still_open op below s.2 not_ended)

  or_none : (b : Bool) → b ≡ (b || false)
  or_none true = refl
  or_none false = refl

  or_one : (b : Bool) → true ≡ (b || true)
  or_one true = refl
  or_one false = refl

  module _ (done : ℕ → Bool) (ops : List Operation) (old new : Table) (below : AllByRecursion (IsBegunBelow (length calls)) ops) (exact : (q : ℕ) → ends false Request q call ≡ done q)
      (w : HoldsWhile r calls call done ops old) (given : new.given ≡ old.given) (count : new.count ≡ old.count) (numbers : AreSame old.numbers new.numbers)
      (held : (n : ℕ) (op : Operation) → slice_get ops n ≡ Some op → (h : Held) → get nat_cmp old.held n ≡ Some h → ShowsWhile r calls call done h op → IsHeldAt r (calls ++ call ∷ []) new.held n op)
      (past : (n : ℕ) → length ops ≤ n → get nat_cmp new.held n ≡ None) where
    -- the table after the call, but for what it begins
    while_last : Holds r (calls ++ call ∷ []) ops new
    while_last = record {
      count = count ∙ w.count;
      few = subst (λ (g : ℕ). g ≤ length ops) (sym given) w.few;
      each = λ n op there g. let one = w.each n op there (subst (λ (k : ℕ). k ≤ n) given g) in held n op there one.one one.there one.shows;
      past = past;
      before = λ n op there h.
          let known = w.before n op there (subst (λ (g : ℕ). n < g) given h) in
          ap is_settled (fate_stays calls call op (all_get (IsBegunBelow (length calls)) ops below n op there) known) ∙ known;
      sound = λ q n e.
          let was = w.sound q n (sym (numbers q) ∙ e) in
          let o = was.0 in
          record {
            op = o.op;
            there = o.there;
            request_is = o.request_is;
            is_open = still_open o.op (all_get (IsBegunBelow (length calls)) ops below n o.op o.there) o.is_open (λ x f. exact x ∙ ap done (same_some x q (sym f ∙ o.request_is)) ∙ was.1);
          };
      whole = λ q n o.
          let was = was_open o.op q (all_get (IsBegunBelow (length calls)) ops below n o.op o.there) o.request_is o.is_open in
          numbers q ∙ w.whole q n (record { op = o.op; there = o.there; request_is = o.request_is; is_open = was.0 }) (sym (exact q) ∙ was.1);
    }

  module _ (done : ℕ → Bool) (ops : List Operation) (old new : Table) (below : AllByRecursion (IsBegunBelow (length calls)) ops) (exact : (q : ℕ) → ends false Request q call ≡ done q)
      (w : HoldsWhile r calls call done ops old) where
    not_ended : (op : Operation) → ((q : ℕ) → op.request ≡ Some q → done q ≡ false) → (q : ℕ) → op.request ≡ Some q → ends false Request q call ≡ false
    not_ended op not_done q e = exact q ∙ not_done q e

    -- an operation that the call doesn't ask to cancel
    kept_at : (n : ℕ) (op : Operation) → slice_get ops n ≡ Some op → (h : Held) → get nat_cmp new.held n ≡ Some h → (is_cancel_of op.request call ≡ false ⊎ (item : Option Rattle.must_p2p.specs.declared.item.MsgItem.MsgItem) × (h ≡ Settled item))
        → ShowsWhile r calls call done h op → IsHeldAt r (calls ++ call ∷ []) new.held n op
    kept_at n op there (Open p) here (inl none) s = record {
      one = Open p;
      there = here;
      shows = open_still op p p (all_get (IsBegunBelow (length calls)) ops below n op there) s.0 (not_ended op s.1) s.0.0 (or_none p.cancel ∙ ap (λ (b : Bool). p.cancel || b) (sym none));
    }
    kept_at n op there (Open p) here (inr other) s = let no : Open p ≡ Settled other.0 = other.1 in absurd cc
    kept_at n op there (Settled item) here cases s = record { one = Settled item; there = here; shows = s.0 }

    -- nothing was cancelled
    pub last_alike : ((n : ℕ) (op : Operation) (q : ℕ) → IsOpenAt calls ops q n → done q ≡ false → is_cancel_of (Some q) call ≡ false) → IsAlike old new → Holds r (calls ++ call ∷ []) ops new
    last_alike none alike =
        while_last done ops old new below exact w alike.given alike.count alike.numbers
        (λ n op there h here s. kept_at n op there h (alike.held n ∙ here) (cases n op there h s) s)
        (λ n h. alike.held n ∙ w.past n h)
      where
        without : (n : ℕ) (op : Operation) → slice_get ops n ≡ Some op → (p : Pending) → ShowsWhile r calls call done (Open p) op → (o : Option ℕ) → op.request ≡ o → is_cancel_of o call ≡ false
        without n op there p s None e = refl
        without n op there p s (Some q) e = none n op q (record { op = op; there = there; request_is = e; is_open = s.0.2 }) (s.1 q e)

        cases : (n : ℕ) (op : Operation) → slice_get ops n ≡ Some op → (h : Held) → ShowsWhile r calls call done h op → (is_cancel_of op.request call ≡ false) ⊎ ((item : Option Rattle.must_p2p.specs.declared.item.MsgItem.MsgItem) × (h ≡ Settled item))
        cases n op there (Open p) s = inl (without n op there p s op.request refl)
        cases n op there (Settled item) s = inr (item, refl)

    -- the open operation n of request q was cancelled
    pub last_cancelled : (q n : ℕ) (p : Pending) → ((x : ℕ) → is_cancel_of (Some x) call ≡ (q == x)) → get nat_cmp old.numbers q ≡ Some n → get nat_cmp old.held n ≡ Some (Open p) → Cancels n p old new → Holds r (calls ++ call ∷ []) ops new
    last_cancelled q n p names found here c =
        while_last done ops old new below exact w c.given c.count c.numbers
        (λ m op there h is s. at m op there h is s (m == n) refl)
        (λ m h. c.held.others m (λ same. outside m h same) ∙ w.past m h)
      where
        first : IsOpenAt calls ops q n
        first = (w.sound q n found).0

        outside : (m : ℕ) → length ops ≤ m → m ≡ n → ⊥
        outside m h same = let inside = Rattle.must_hold.specs.ActiveLaws.get_within ops n first.op first.there in omega (arith, h, same, inside)

        itself : (q == q) ≡ true
        itself = Rattle.std.proofs.lemmas.Bool.eq-eqb q q refl

        cancels_it : (op : Operation) → slice_get ops n ≡ Some op → is_cancel_of op.request call ≡ true
        cancels_it op there =
            let same : first.op ≡ op = same_some first.op op (sym first.there ∙ there) in
            ap (λ (o : Option ℕ). is_cancel_of o call) (ap (λ (o : Operation). o.request) (sym same) ∙ first.request_is) ∙ names q ∙ itself

        it : (op : Operation) → slice_get ops n ≡ Some op → (h : Held) → h ≡ Open p → ShowsWhile r calls call done h op → IsHeldAt r (calls ++ call ∷ []) new.held n op
        it op there (Open o) e s =
            let same : o ≡ p = cc in
            let pending : IsPending (cancelled p) op = subst (λ (x : Pending). IsPending (cancelled x) op) same (record { call_is = s.0.0.call_is; part_is = s.0.0.part_is; request_is = s.0.0.request_is; asked_is = s.0.0.asked_is }) in
            record {
              one = Open (cancelled p);
              there = c.held.here;
              shows = open_still op o (cancelled p) (all_get (IsBegunBelow (length calls)) ops below n op there) s.0 (not_ended op s.1) pending (or_one o.cancel ∙ ap (λ (b : Bool). o.cancel || b) (sym (cancels_it op there)));
            }
        it op there (Settled item) e s = let no : Settled item ≡ Open p = e in absurd cc

        apart : (m : ℕ) (op : Operation) → slice_get ops m ≡ Some op → (m == n) ≡ false → (h : Held) → ShowsWhile r calls call done h op → (is_cancel_of op.request call ≡ false) ⊎ ((item : Option Rattle.must_p2p.specs.declared.item.MsgItem.MsgItem) × (h ≡ Settled item))
        apart m op there other (Settled item) s = inr (item, refl)
        apart m op there other (Open o) s = inl (by op.request refl)
          where
            name : (x : ℕ) → op.request ≡ Some x → (b : Bool) → (q == x) ≡ b → b ≡ false
            name x e true same =
                let is : q ≡ x = eqb-true q x same in
                let e' : op.request ≡ Some q = e ∙ ap Some (sym is) in
                absurd (eqb-false m n other (sym (same_some n m (sym found ∙ w.whole q m (record { op = op; there = there; request_is = e'; is_open = s.0.2 }) (s.1 q e')))))
            name x e false same = refl

            by : (request : Option ℕ) → op.request ≡ request → is_cancel_of request call ≡ false
            by None e = refl
            by (Some x) e = names x ∙ name x e (q == x) refl

        at : (m : ℕ) (op : Operation) → slice_get ops m ≡ Some op → (h : Held) → get nat_cmp old.held m ≡ Some h → ShowsWhile r calls call done h op → (b : Bool) → (m == n) ≡ b → IsHeldAt r (calls ++ call ∷ []) new.held m op
        at m op there h is s true same =
            let eq : m ≡ n = eqb-true m n same in
            subst (λ (k : ℕ). IsHeldAt r (calls ++ call ∷ []) new.held k op) (sym eq)
            (it op (ap (slice_get ops) (sym eq) ∙ there) h (same_some h (Open p) (sym is ∙ ap (get nat_cmp old.held) eq ∙ here)) s)
        at m op there h is s false other =
            kept_at m op there h (c.held.others m (eqb-false m n other) ∙ is) (apart m op there other h s) s

    named : (request : Option ℕ) → request ≡ cancelled_of call.body → (x : ℕ) → is_cancel_of (Some x) call ≡ is_in (option_to_list request) x
    named request e x = ap (λ (o : Option ℕ). is_in (option_to_list o) x) (sym e)

    -- the call asks to cancel nothing
    pub last_none : cancelled_of call.body ≡ None → IsAlike old new → Holds r (calls ++ call ∷ []) ops new
    last_none none alike = last_alike (λ n op q o e. named None (sym none) q) alike

    -- the call asks to cancel the open operation of a request, if there is one
    pub last_named : (q : ℕ) → Some q ≡ cancelled_of call.body → (get nat_cmp old.numbers q ≡ None → IsAlike old new)
        → ((n : ℕ) (p : Pending) → get nat_cmp old.numbers q ≡ Some n → get nat_cmp old.held n ≡ Some (Open p) → Cancels n p old new) → Holds r (calls ++ call ∷ []) ops new
    last_named q e none some = at (get nat_cmp old.numbers q) refl
      where
        names : (x : ℕ) → is_cancel_of (Some x) call ≡ (q == x)
        names x = named (Some q) e x ∙ sym (or_none (q == x))

        by_held : (n : ℕ) → get nat_cmp old.numbers q ≡ Some n → (o : IsOpenAt calls ops q n) → done q ≡ false → (one : Held) → get nat_cmp old.held n ≡ Some one → ShowsWhile r calls call done one o.op → Holds r (calls ++ call ∷ []) ops new
        by_held n found o not_done (Open p) there s = last_cancelled q n p names found there (some n p found there)
        by_held n found o not_done (Settled item) there s = absurd (let no : false ≡ true = sym (ap is_settled o.is_open) ∙ s.1 q o.request_is not_done in cc)

        given_below : (n : ℕ) → IsOpenAt calls ops q n → old.given ≤ n
        given_below n o = test (Rattle.std.specs.Prelude.nat_lt n old.given) refl
          where
            test : (b : Bool) → Rattle.std.specs.Prelude.nat_lt n old.given ≡ b → old.given ≤ n
            test true f =
                let known = w.before n o.op o.there (Rattle.std.proofs.lemmas.Bool.ltb-true n old.given f) in
                absurd (let no : false ≡ true = sym (ap is_settled o.is_open) ∙ known in cc)
            test false f = Rattle.std.proofs.lemmas.Bool.ltb-false n old.given f

        not_it : get nat_cmp old.numbers q ≡ None → (n : ℕ) (op : Operation) (x : ℕ) → IsOpenAt calls ops x n → done x ≡ false → (b : Bool) → (q == x) ≡ b → b ≡ false
        not_it empty n op x o not_done true same = no_some n (sym empty ∙ ap (get nat_cmp old.numbers) (eqb-true q x same) ∙ w.whole x n o not_done)
        not_it empty n op x o not_done false same = refl

        at : (y : Option ℕ) → get nat_cmp old.numbers q ≡ y → Holds r (calls ++ call ∷ []) ops new
        at None f = last_alike (λ n op x o not_done. names x ∙ not_it f n op x o not_done (q == x) refl) (none f)
        at (Some n) f =
            let o = w.sound q n f in
            let one = w.each n o.0.op o.0.there (given_below n o.0) in
            by_held n f o.0 o.1 one.one one.there one.shows

-- ---- many

-- the same requests, told otherwise
pub while_same : (r : Rank) (calls : List Call) (call : Call) (done other_done : ℕ → Bool) (ops : List Operation) (table : Table) → ((q : ℕ) → other_done q ≡ done q) → HoldsWhile r calls call done ops table → HoldsWhile r calls call other_done ops table
while_same r calls call done other_done ops table same w = record {
  count = w.count;
  few = w.few;
  each = λ n op there given. let one = w.each n op there given in record { one = one.one; there = one.there; shows = shows op one.one one.shows };
  past = w.past;
  before = w.before;
  sound = λ q n e. let was = w.sound q n e in (was.0, same q ∙ was.1);
  whole = λ q n o not_done. w.whole q n o (sym (same q) ∙ not_done);
}
  where
    shows : (op : Operation) (h : Held) → ShowsWhile r calls call done h op → ShowsWhile r calls call other_done h op
    shows op (Open p) s = (s.0, λ q e. same q ∙ s.1 q e)
    shows op (Settled item) s = (s.0, λ q e f. s.1 q e (sym (same q) ∙ f))

pub in_at : (xs : List ℕ) (i d : ℕ) → i < length xs → is_in xs (get_or xs i d) ≡ true
in_at [] i d h = absurd (omega arith)
in_at (x ∷ xs) zero d h = ap (λ (b : Bool). b || is_in xs x) (Rattle.std.proofs.lemmas.Bool.eq-eqb x x refl)
in_at (x ∷ xs) (suc i) d h = or_true (x == get_or xs i d) (is_in xs (get_or xs i d)) (in_at xs i d (omega arith))
  where
    or_true : (a b : Bool) → b ≡ true → (a || b) ≡ true
    or_true true b e = refl
    or_true false b e = e

-- one request of several that the call completes
pub complete_step : (r : Rank) (calls : List Call) (call : Call) (ops : List Operation) (rank : ℕ) (requests : List ℕ) (end : ℕ → End) (i : ℕ) (old new : Table) (ended : End) (settling : Option Settling) → i < length requests
    → ended ≡ end (get_or requests i 0)
    → (get nat_cmp old.numbers (get_or requests i 0) ≡ None → IsAlike old new)
    → ((n : ℕ) (p : Pending) → get nat_cmp old.numbers (get_or requests i 0) ≡ Some n → get nat_cmp old.held n ≡ Some (Open p) → Ends rank (get_or requests i 0) n p ended settling old new)
    → Closes r calls call ops rank requests end → HoldsWhile r calls call (is_in (take i requests)) ops old → HoldsWhile r calls call (is_in (take (i + 1) requests)) ops new
complete_step r calls call ops rank requests end i old new ended settling within is none some closes w =
    let q = get_or requests i 0 in
    while_step r calls call (is_in (take i requests)) (is_in (take (i + 1) requests)) q (λ x. list_any_more (λ n. n == x) requests i 0 within) ops old new w rank ended settling none some
    (λ not_done n p op there request is_open pending.
    let c = closes q n p op (in_at requests i 0 within) there request is_open pending in
    subst (λ (e : End). Finishes r (calls ++ call ∷ []) rank p e op) (sym is) c)

-- the request that the call frees
pub freed_step : (r : Rank) (calls : List Call) (call : Call) (ops : List Operation) (rank q : ℕ) (done requests : List ℕ) (old new : Table) (ended : End) (settling : Option Settling) → requests ≡ q ∷ [] → ended ≡ not_done
    → (get nat_cmp old.numbers q ≡ None → IsAlike old new)
    → ((n : ℕ) (p : Pending) → get nat_cmp old.numbers q ≡ Some n → get nat_cmp old.held n ≡ Some (Open p) → Ends rank q n p ended settling old new)
    → ClosesOthers r calls call ops rank done requests not_done → HoldsWhile r calls call (is_in done) ops old → HoldsWhile r calls call (is_either done requests) ops new
freed_step r calls call ops rank q done requests old new ended settling one is none some closes w =
    while_step r calls call (is_in done) (is_either done requests) q (λ x. ap (λ (rs : List ℕ). is_in done x || is_in rs x) one ∙ ap (λ (b : Bool). is_in done x || b) (last (q == x))) ops old new w rank ended settling none some
    (λ not_yet n p op there request is_open pending.
    let c = closes q n p op not_yet (ap (λ (rs : List ℕ). is_in rs q) one ∙ ap (λ (b : Bool). b || false) (Rattle.std.proofs.lemmas.Bool.eq-eqb q q refl)) there request is_open pending in
    subst (λ (e : End). Finishes r (calls ++ call ∷ []) rank p e op) (sym is) c)
  where
    last : (b : Bool) → (b || false) ≡ b
    last true = refl
    last false = refl

pub freed_none : (r : Rank) (calls : List Call) (call : Call) (ops : List Operation) (done requests : List ℕ) (table : Table) → requests ≡ [] → HoldsWhile r calls call (is_in done) ops table → HoldsWhile r calls call (is_either done requests) ops table
freed_none r calls call ops done requests table none w =
    while_same r calls call (is_in done) (is_either done requests) ops table (λ q. ap (λ (rs : List ℕ). is_in done q || is_in rs q) none ∙ last (is_in done q)) w
  where
    last : (b : Bool) → (b || false) ≡ b
    last true = refl
    last false = refl
