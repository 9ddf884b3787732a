-- Completions are judged by the open operations of their requests.
use Rattle.std.proofs.Common.{◌≡◌, ◌⊎◌, inl, inr, ℕ, ℤ, zero, suc, ◌+◌, ◌<◌, ◌≤◌, ◌==◌, Bool, true, false, cond, ◌||◌, List, [], ◌∷◌, ◌++◌, length, take, drop, Option, Some, None, refl, ap, sym, subst, ◌∙◌, arith, eqb-true, eq-eqb, ltb-true}
use Rattle.std.proofs.lemmas.Bool.{eqb-false}
use Rattle.std.specs.Prelude.{map, find, filter, nat_lt, option_map, option_and_then, is_some, slice_get}
use Rattle.std.specs.List.{list_any}
use Rattle.std.specs.Ordering.{nat_cmp}
use Rattle.std.specs.BTreeMap.{get}
use Rattle.must_base.specs.Listing.{Has}
use Rattle.must_call.specs.declared.place.Place.{Place}
use Rattle.must_call.specs.declared.status.Status3.{Status3}
use Rattle.must_call.specs.declared.call.Call.{Call}
use Rattle.must_find.specs.declared.rule.Rule.{Rule}
use Rattle.must_find.specs.declared.finding.Finding.{Finding}
use Rattle.must_find.specs.Adds.{Adds}
use Rattle.must_rules.specs.Rank.{Rank, seen}
use Rattle.must_rules.specs.Answer.{Answer, IsAnswer}
use Rattle.must_rules.specs.Numbered.{AreNumbered}
use Rattle.must_messages.specs.PlainLaws.{no_some, same_some}
use Rattle.must_messages.specs.Asking.{IsAsked}
use Rattle.must_rules.specs.Operations.{Message, Operation, operations_of}
use Rattle.must_rules.specs.Fates.{Completed, Open as StillOpen, fate_of, first_of}
use Rattle.must_rules.specs.Statuses.{contradiction, contradiction_of, completed_wrongly, asked_to_cancel, under_way}
use Rattle.must_messages.specs.StatusLaws.{judged_by}
use Rattle.must_messages.specs.Holding.{is_settled, is_known}
use Rattle.must_hold.specs.declared.held.Pending.{Pending}
use Rattle.must_hold.specs.declared.held.Held.{Held}
use Rattle.must_hold.specs.declared.held.Held.TheVariants.{Open, Settled}
use Rattle.must_hold.specs.declared.judge.Told.{Told}
use Rattle.must_hold.specs.declared.table.Table.{Table}
use Rattle.must_hold.specs.Queue.{Shows, IsOpenAt, Holds, pending_in, found, IsOfRule}
use Rattle.must_hold.specs.Told.{Wrong, told_more, told_next, told_by}
use Rattle.must_hold.specs.ActiveLaws.{has_get, get_has, is_under_way}

-- ---- the open operation of a request

-- this is what is found of a request
pub record IsFound (r : Rank) (calls : List Call) (ops : List Operation) (q : ℕ) (p : Pending) : Type 0 where
  pub n : ℕ
  pub open_at : IsOpenAt calls ops q n
  pub shows : Shows r calls (Open p) open_at.op

abbrev pub Found : Rank → List Call → List Operation → ℕ → Option Pending → Type 0
Found r calls ops q None = (n : ℕ) → IsOpenAt calls ops q n → ⊥
Found r calls ops q (Some p) = IsFound r calls ops q p

open_known : {P : Type 0} (calls : List Call) (op : Operation) → fate_of calls op ≡ StillOpen → is_known calls op ≡ true → P
open_known calls op is_open known = absurd (let no : false ≡ true = sym (ap is_settled is_open) ∙ known in cc)

module _ (r : Rank) (calls : List Call) (ops : List Operation) (t : Table) (h : Holds r calls ops t) where
  -- an open operation isn't given
  pub not_given : (q n : ℕ) → IsOpenAt calls ops q n → t.given ≤ n
  not_given q n o = at (nat_lt n t.given) refl
    where
      at : (b : Bool) → nat_lt n t.given ≡ b → t.given ≤ n
      at true e = open_known calls o.op o.is_open (h.before n o.op o.there (ltb-true n t.given e))
      at false e = Rattle.std.proofs.lemmas.Bool.ltb-false n t.given e

  pub found_is : (q : ℕ) (o : Option Pending) → found t q ≡ o → Found r calls ops q o
  found_is q o e = at (get nat_cmp t.numbers q) refl e
    where
      held : (n : ℕ) → get nat_cmp t.numbers q ≡ Some n → (is : IsOpenAt calls ops q n) → (one : Held) → get nat_cmp t.held n ≡ Some one → Shows r calls one is.op → pending_in (get nat_cmp t.held n) ≡ o → Found r calls ops q o
      held n number is (Open p) there s f =
          subst (Found r calls ops q) (sym (ap pending_in there) ∙ f) (record { n = n; open_at = is; shows = s })
      held n number is (Settled item) there s f = open_known calls is.op is.is_open s.0

      at : (x : Option ℕ) → get nat_cmp t.numbers q ≡ x → option_and_then (λ n. pending_in (get nat_cmp t.held n)) x ≡ o → Found r calls ops q o
      at None number f = subst (Found r calls ops q) f (λ n is. no_some n (sym number ∙ h.whole q n is))
      at (Some n) number f =
          let is = h.sound q n number in
          let one = h.each n is.op is.there (not_given q n is) in
          held n number is one.one one.there one.shows f

module _ (r : Rank) (calls : List Call) (t : Table) (numbered : AreNumbered 64 calls) (h : Holds r calls (operations_of r calls) t) (c : Completed) where
  pub judged_none : found t c.request ≡ None → None ≡ completed_wrongly r calls (Some c)
  judged_none e = at (under_way r calls c.request) refl
    where
      at : (o : Option Operation) → under_way r calls c.request ≡ o → None ≡ contradiction_of r calls o c.status
      at None u = refl
      at (Some op) u =
          let is = is_under_way r calls c.request op u in
          let place = get_has (operations_of r calls) op is.there in
          absurd (found_is r calls (operations_of r calls) t h c.request None e place.0 (record { op = op; there = place.1; request_is = is.request_is; is_open = is.is_open }))

  pub judged_some : (p : Pending) (v : Option ℤ) → found t c.request ≡ Some p → ((m : Message) → IsAsked p.asked m → v ≡ contradiction r.tag_ub m p.cancel c.status)
      → option_map (λ value. (seen r.rank p.call, value)) v ≡ completed_wrongly r calls (Some c)
  judged_some p v e told =
      let is = found_is r calls (operations_of r calls) t h c.request (Some p) e in
      let op = is.open_at.op in
      ap (option_map (λ (value : ℤ). (seen r.rank p.call, value))) (told op.message is.shows.0.asked_is ∙ ap (λ (b : Bool). contradiction r.tag_ub op.message b c.status) is.shows.1)
      ∙ ap (λ (k : ℕ). option_map (λ (value : ℤ). (seen r.rank k, value)) (contradiction r.tag_ub op.message (asked_to_cancel calls op) c.status)) (sym is.shows.0.call_is)
      ∙ sym (judged_by r calls op c numbered (has_get (operations_of r calls) is.n op is.open_at.there) is.open_at.request_is is.open_at.is_open)

-- ---- rows of many

abbrev or_last : Option Completed → Bool → Completed → Option Completed
or_last None b x = cond b (Some x) None
or_last (Some c) b x = Some c

find_last : (test : Completed → Bool) (xs : List Completed) (x : Completed) → find test (xs ++ x ∷ []) ≡ or_last (find test xs) (test x) x
find_last test [] x = refl
find_last test (y ∷ xs) x = at (test y) (find_last test xs x)
  where
    at : (b : Bool) → find test (xs ++ x ∷ []) ≡ or_last (find test xs) (test x) x → cond b (Some y) (find test (xs ++ x ∷ [])) ≡ or_last (cond b (Some y) (find test xs)) (test x) x
    at true e = refl
    at false e = e

abbrev pub at_index : List Completed → ℕ → Option Completed
at_index xs part = find (λ c. c.index == part) xs

abbrev pub S1At : ℕ → ℕ → Rule → Wrong → List Completed → Finding → Type 0
S1At rank call rule wrong xs f = IsOfRule rank call rule (λ part. option_and_then wrong (at_index xs part)) f

module _ (rank call : ℕ) (rule : Rule) (wrong : Wrong) (xs : List Completed) (x : Completed) where
  answer_last : (part : ℕ) → option_and_then wrong (at_index (xs ++ x ∷ []) part) ≡ option_and_then wrong (or_last (at_index xs part) (x.index == part) x)
  answer_last part = ap (option_and_then wrong) (find_last (λ c. c.index == part) xs x)

  -- a row of the longer list is one of the shorter, or the last one's
  row_cases : (f : Finding) (o : Option Completed) (b : Bool) → at_index xs f.part ≡ o → (x.index == f.part) ≡ b → option_and_then wrong (or_last o b x) ≡ Some (f.see, f.value)
      → (option_and_then wrong (at_index xs f.part) ≡ Some (f.see, f.value)) ⊎ ((f.part ≡ x.index) × (at_index xs x.index ≡ None) × (wrong x ≡ Some (f.see, f.value)))
  row_cases f (Some c) b e t a = inl (ap (option_and_then wrong) e ∙ a)
  row_cases f None true e t a = let same : x.index ≡ f.part = eqb-true x.index f.part t in inr (sym same, ap (at_index xs) same ∙ e, a)
  row_cases f None false e t a = no_some (f.see, f.value) a

  row_before : (f : Finding) (o : Option Completed) (b : Bool) → at_index xs f.part ≡ o → option_and_then wrong o ≡ Some (f.see, f.value) → option_and_then wrong (or_last o b x) ≡ Some (f.see, f.value)
  row_before f None b e a = no_some (f.see, f.value) a
  row_before f (Some c) b e a = a

  pub row_more : (old middle new : List Finding) (again : Bool) → again ≡ is_some (at_index xs x.index) → Adds old middle (S1At rank call rule wrong xs) → Adds middle new (IsAnswer rank call rule x.index (cond again None (wrong x)))
      → Adds old new (S1At rank call rule wrong (xs ++ x ∷ []))
  row_more old middle new again seen_is first second f = (to, from)
    where
      there : (b : Bool) → again ≡ b → at_index xs x.index ≡ None → b ≡ false
      there b e none = sym e ∙ seen_is ∙ ap is_some none

      is_last : (b : Bool) → again ≡ b → b ≡ false → wrong x ≡ Some (f.see, f.value) → cond b None (wrong x) ≡ Some (f.see, f.value)
      is_last true e g a = absurd (let bad : true ≡ false = g in cc)
      is_last false e g a = a

      to_new : Has middle f ⊎ IsAnswer rank call rule x.index (cond again None (wrong x)) f → Has new f
      to_new = (second f).1

      to : Has new f → Has old f ⊎ S1At rank call rule wrong (xs ++ x ∷ []) f
      to has = by ((second f).0 has)
        where
          old_row : Has old f ⊎ S1At rank call rule wrong xs f → Has old f ⊎ S1At rank call rule wrong (xs ++ x ∷ []) f
          old_row (inl h) = inl h
          old_row (inr s) = inr (record { rank_is = s.rank_is; call_is = s.call_is; rule_is = s.rule_is; gives = answer_last f.part ∙ row_before f (at_index xs f.part) (x.index == f.part) refl s.gives })

          fresh : (b : Bool) → again ≡ b → cond b None (wrong x) ≡ Some (f.see, f.value) → (b ≡ false) × (wrong x ≡ Some (f.see, f.value))
          fresh true e a = no_some (f.see, f.value) a
          fresh false e a = (refl, a)

          none : (o : Option Completed) → at_index xs x.index ≡ o → is_some o ≡ false → at_index xs x.index ≡ None
          none None e s = e
          none (Some c) e s = let bad : true ≡ false = s in absurd cc

          by : Has middle f ⊎ IsAnswer rank call rule x.index (cond again None (wrong x)) f → Has old f ⊎ S1At rank call rule wrong (xs ++ x ∷ []) f
          by (inl h) = old_row ((first f).0 h)
          by (inr a) =
              let g = fresh again refl a.gives in
              let empty = none (at_index xs x.index) refl (sym seen_is ∙ g.0) in
              inr (record {
                rank_is = a.rank_is;
                call_is = a.call_is;
                rule_is = a.rule_is;
                gives = answer_last f.part ∙ ap (λ (o : Option Completed). option_and_then wrong (or_last o (x.index == f.part) x)) (ap (at_index xs) a.part_is ∙ empty)
                    ∙ ap (λ (b : Bool). option_and_then wrong (cond b (Some x) None)) (eq-eqb x.index f.part (sym a.part_is)) ∙ g.1;
              })

      from : Has old f ⊎ S1At rank call rule wrong (xs ++ x ∷ []) f → Has new f
      from (inl h) = to_new (inl ((first f).1 (inl h)))
      from (inr s) = by (row_cases f (at_index xs f.part) (x.index == f.part) refl refl (sym (answer_last f.part) ∙ s.gives))
        where
          by : (option_and_then wrong (at_index xs f.part) ≡ Some (f.see, f.value)) ⊎ ((f.part ≡ x.index) × (at_index xs x.index ≡ None) × (wrong x ≡ Some (f.see, f.value))) → Has new f
          by (inl a) = to_new (inl ((first f).1 (inr (record { rank_is = s.rank_is; call_is = s.call_is; rule_is = s.rule_is; gives = a }))))
          by (inr a) = to_new (inr (record { rank_is = s.rank_is; call_is = s.call_is; rule_is = s.rule_is; part_is = a.0; gives = is_last again refl (there again refl a.1) a.2 }))

  pub seen_next : (h : ℕ) → (is_some (at_index xs h) || Rattle.std.specs.Prelude.nat_eq h x.index) ≡ is_some (at_index (xs ++ x ∷ []) h)
  seen_next h = at (at_index xs h) (Rattle.std.specs.Prelude.nat_eq h x.index) (x.index == h) (same h x.index) ∙ sym (ap is_some (find_last (λ c. c.index == h) xs x))
    where
      same : (a b : ℕ) → Rattle.std.specs.Prelude.nat_eq a b ≡ (b == a)
      same a b = by (Rattle.std.specs.Prelude.nat_eq a b) (b == a) refl refl
        where
          by : (s t : Bool) → Rattle.std.specs.Prelude.nat_eq a b ≡ s → (b == a) ≡ t → s ≡ t
          by true true p q = refl
          by false false p q = refl
          by true false p q = grind arith
          by false true p q = grind arith

      at : (o : Option Completed) (a b : Bool) → a ≡ b → (is_some o || a) ≡ is_some (or_last o b x)
      at (Some c) a b e = refl
      at None true true e = refl
      at None false false e = refl
      at None true false e = let bad : true ≡ false = e in absurd cc
      at None false true e = let bad : false ≡ true = e in absurd cc

-- ---- what is told of a request

abbrev pub first_told : Option Told → Option Status3
first_told None = None
first_told (Some t) = Some t.first

abbrev pub breaks_told : Option Told → Bool
breaks_told None = false
breaks_told (Some t) = t.breaks

abbrev status_first : Option Status3 → Option Status3 → Option Status3
status_first None other = other
status_first (Some s) other = Some s

abbrev of_request : ℕ → Completed → Bool
of_request q c = c.request == q

abbrev firsts : ℕ → List Completed → Option Status3
firsts q cs = first_of (map (λ c. c.status) (filter (of_request q) cs))

first_step : (wrong : Wrong) (q : ℕ) (c : Completed) (cs : List Completed) → ((t : Option Told) → first_told (told_by wrong q t cs) ≡ status_first (first_told t) (firsts q cs)) → (b : Bool) (t : Option Told)
    → first_told (told_by wrong q (cond b (Some (told_more t c.status (is_some (wrong c)))) t) cs) ≡ status_first (first_told t) (first_of (map (λ (d : Completed). d.status) (cond b (c ∷ filter (of_request q) cs) (filter (of_request q) cs))))
first_step wrong q c cs more true None = more (Some (told_more None c.status (is_some (wrong c))))
first_step wrong q c cs more true (Some u) = more (Some (told_more (Some u) c.status (is_some (wrong c))))
first_step wrong q c cs more false u = more u

first_by : (wrong : Wrong) (q : ℕ) (t : Option Told) (cs : List Completed) → first_told (told_by wrong q t cs) ≡ status_first (first_told t) (firsts q cs)
first_by wrong q None [] = refl
first_by wrong q (Some t) [] = refl
first_by wrong q t (c ∷ cs) = first_step wrong q c cs (λ u. first_by wrong q u cs) (of_request q c) t

abbrev any_wrong : Wrong → ℕ → List Completed → Bool
any_wrong wrong q cs = list_any (λ c. is_some (wrong c)) (filter (of_request q) cs)

or_assoc : (a b d : Bool) → ((a || b) || d) ≡ (a || (b || d))
or_assoc true b d = refl
or_assoc false b d = refl

breaks_step : (wrong : Wrong) (q : ℕ) (c : Completed) (cs : List Completed) → ((t : Option Told) → breaks_told (told_by wrong q t cs) ≡ (breaks_told t || any_wrong wrong q cs)) → (b : Bool) (t : Option Told)
    → breaks_told (told_by wrong q (cond b (Some (told_more t c.status (is_some (wrong c)))) t) cs) ≡ (breaks_told t || list_any (λ (d : Completed). is_some (wrong d)) (cond b (c ∷ filter (of_request q) cs) (filter (of_request q) cs)))
breaks_step wrong q c cs more true None = more (Some (told_more None c.status (is_some (wrong c))))
breaks_step wrong q c cs more true (Some u) = more (Some (told_more (Some u) c.status (is_some (wrong c)))) ∙ or_assoc u.breaks (is_some (wrong c)) (any_wrong wrong q cs)
breaks_step wrong q c cs more false u = more u

breaks_by : (wrong : Wrong) (q : ℕ) (t : Option Told) (cs : List Completed) → breaks_told (told_by wrong q t cs) ≡ (breaks_told t || any_wrong wrong q cs)
breaks_by wrong q t [] = none (breaks_told t)
  where
    none : (b : Bool) → b ≡ (b || false)
    none true = refl
    none false = refl
breaks_by wrong q t (c ∷ cs) = breaks_step wrong q c cs (λ u. breaks_by wrong q u cs) (of_request q c) t

pub first_is : (wrong : Wrong) (q : ℕ) (cs : List Completed) → first_told (told_by wrong q None cs) ≡ first_of (map (λ c. c.status) (filter (of_request q) cs))
first_is wrong q cs = first_by wrong q None cs

any_step : (wrong : Wrong) (q : ℕ) (judge : Status3 → Bool) (c : Completed) (xs : List Completed) → ((d : Completed) → d.request ≡ q → is_some (wrong d) ≡ judge d.status)
    → any_wrong wrong q xs ≡ list_any judge (map (λ d. d.status) (filter (of_request q) xs)) → (b : Bool) → of_request q c ≡ b
    → list_any (λ (d : Completed). is_some (wrong d)) (cond b (c ∷ filter (of_request q) xs) (filter (of_request q) xs)) ≡ list_any judge (map (λ (d : Completed). d.status) (cond b (c ∷ filter (of_request q) xs) (filter (of_request q) xs)))
any_step wrong q judge c xs same more true e = ap (λ (b : Bool). b || any_wrong wrong q xs) (same c (eqb-true c.request q e)) ∙ ap (λ (b : Bool). judge c.status || b) more
any_step wrong q judge c xs same more false e = more

any_is : (wrong : Wrong) (q : ℕ) (judge : Status3 → Bool) (cs : List Completed) → ((c : Completed) → c.request ≡ q → is_some (wrong c) ≡ judge c.status)
    → any_wrong wrong q cs ≡ list_any judge (map (λ c. c.status) (filter (of_request q) cs))
any_is wrong q judge [] same = refl
any_is wrong q judge (c ∷ cs) same = any_step wrong q judge c cs same (any_is wrong q judge cs same) (of_request q c) refl

-- judged by the operation of the request
pub breaks_is : (wrong : Wrong) (q : ℕ) (judge : Status3 → Bool) (cs : List Completed) → ((c : Completed) → c.request ≡ q → is_some (wrong c) ≡ judge c.status)
    → breaks_told (told_by wrong q None cs) ≡ list_any judge (map (λ c. c.status) (filter (of_request q) cs))
breaks_is wrong q judge cs same = breaks_by wrong q None cs ∙ any_is wrong q judge cs same
