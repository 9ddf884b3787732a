-- A call, step by step.
use Rattle.std.proofs.Common.{◌≡◌, ◌⊎◌, inl, inr, ℕ, ℤ, zero, suc, ◌+◌, ◌<◌, ◌≤◌, ◌==◌, Bool, true, false, cond, ◌||◌, List, [], ◌∷◌, ◌++◌, length, drop, take, Option, Some, None, refl, ap, sym, subst, ◌∙◌, arith, append_assoc}
use Rattle.std.specs.Prelude.{map, filter_map, find, option_map, option_and_then}
use Rattle.std.specs.List.{flat_map}
use Rattle.std.specs.Option.{option_to_list}
use Rattle.std.specs.Ordering.{nat_cmp}
use Rattle.std.specs.BTreeMap.{BTreeMap, get}
use Rattle.std.proofs.lemmas.List.{length-append}
use Rattle.must_call.specs.declared.class.Class.TheVariants.{Request}
use Rattle.must_call.specs.declared.call.Call.{Call}
use Rattle.must_find.specs.declared.rule.Rule.TheVariants.{S1}
use Rattle.must_find.specs.declared.finding.Finding.{Finding}
use Rattle.must_find.specs.Adds.{Adds}
use Rattle.must_p2p.specs.declared.item.MsgItem.{MsgItem}
use Rattle.must_entry.specs.declared.entry.Entry.{Entry}
use Rattle.must_entry.specs.declared.entry.Entry.TheVariants.{Message}
use Rattle.must_entry.specs.Entries.{rows_of, messages, calls as wave_calls, needs}
use Rattle.must_rules.specs.Rank.{Rank}
use Rattle.must_rules.specs.Making.{made_by, is_in, cancelled_of}
use Rattle.must_rules.specs.LifeLaws.{made_now}
use Rattle.must_rules.specs.Numbered.{AreNumbered}
use Rattle.must_rules.specs.Operations.{Operation, operations_at, operations_of}
use Rattle.must_messages.specs.OperationLaws.{begun_below, operations_more}
use Rattle.must_rules.specs.Fates.{Completed, completions_in}
use Rattle.must_rules.specs.Statuses.{completed_wrongly}
use Rattle.must_messages.specs.MessageItems.{Item, item_seen, item_of}
use Rattle.must_messages.specs.Holding.{front, back, is_known, given, held, items_given}
use Rattle.must_messages.specs.HoldingLaws.{given_more, items_given_more}
use Rattle.must_hold.specs.declared.judge.Told.{Told}
use Rattle.must_hold.specs.declared.table.Table.{Table}
use Rattle.must_hold.specs.Named.{completed_in, freed_in}
use Rattle.must_hold.specs.Queue.{Holds, HoldsWhile, IsOfRule}
use Rattle.must_hold.specs.Changes.{Closes, ClosesOthers, not_done, is_either, GivesFront}
use Rattle.must_hold.specs.Told.{Wrong, told_by, end_told}
use Rattle.must_hold.specs.Judging.{Judges}
use Rattle.must_hold.specs.Taking.{Takes, IsCompletedWrongly}
use Rattle.must_hold.specs.Keeping.{Gives, GivesMore}
use Rattle.must_hold.proofs.Ending.{while_first}
use Rattle.must_hold.proofs.Closing.{closes_completed, closes_freed, ends_is}

numbered_front : (next : ℕ) (calls others : List Call) → AreNumbered next (calls ++ others) → AreNumbered next calls
numbered_front next [] others n = tt
numbered_front next (c ∷ calls) others n = (n.0, numbered_front (next + made_now (made_by c)) calls others n.1)

abbrev pub wrong_at : Rank → List Call → Wrong
wrong_at r calls c = completed_wrongly r calls (Some c)

module _ (r : Rank) (calls : List Call) (call : Call) (numbered : AreNumbered 64 (calls ++ call ∷ [])) where
  pub before : AreNumbered 64 calls
  before = numbered_front 64 calls (call ∷ []) numbered

  pub judges : (t : Table) (rank : ℕ) (tag_ub : ℤ) → r.rank ≡ rank → r.tag_ub ≡ tag_ub → Holds r calls (operations_of r calls) t → Judges (wrong_at r calls) t rank tag_ub
  judges t rank tag_ub same tag h = record { r = r; calls = calls; rank_is = same; tag_is = tag; numbered = before; holds = h; wrong_is = λ c. refl }

  pub begins : (t : Table) → Holds r calls (operations_of r calls) t → HoldsWhile r calls call (λ q. false) (operations_of r calls) t
  begins t h = while_first r calls call (λ q. false) (λ q. refl) (operations_of r calls) t (begun_below r calls) h

  pub completes_all : (rank k : ℕ) (requests : List ℕ) (told : BTreeMap ℕ Told) → r.rank ≡ rank → length calls ≡ k → requests ≡ completed_in call → ((q : ℕ) → get nat_cmp told q ≡ told_by (wrong_at r calls) q None (completions_in call))
      → Closes r calls call (operations_of r calls) rank requests (λ q. end_told k (get nat_cmp told q))
  completes_all rank k requests told same here is told_is =
      subst (λ (n : ℕ). Closes r calls call (operations_of r calls) n requests (λ q. end_told k (get nat_cmp told q))) same
      (subst (λ (n : ℕ). Closes r calls call (operations_of r calls) r.rank requests (λ q. end_told n (get nat_cmp told q))) here
      (subst (λ (rs : List ℕ). Closes r calls call (operations_of r calls) r.rank rs (λ q. end_told (length calls) (get nat_cmp told q))) (sym is)
      (closes_completed r calls call before (wrong_at r calls) (get nat_cmp told) (λ c. refl) told_is)))

  pub frees_all : (rank : ℕ) (done requests : List ℕ) → r.rank ≡ rank → done ≡ completed_in call → requests ≡ freed_in call → ClosesOthers r calls call (operations_of r calls) rank done requests not_done
  frees_all rank done requests same is freed_is =
      subst (λ (n : ℕ). ClosesOthers r calls call (operations_of r calls) n done requests not_done) same
      (subst (λ (ds : List ℕ). ClosesOthers r calls call (operations_of r calls) r.rank ds requests not_done) (sym is)
      (subst (λ (rs : List ℕ). ClosesOthers r calls call (operations_of r calls) r.rank (completed_in call) rs not_done) (sym freed_is) (closes_freed r calls call before)))

  pub all_ended : (done requests : List ℕ) → done ≡ completed_in call → requests ≡ freed_in call → (q : ℕ) → Rattle.must_rules.specs.Lives.ends false Request q call ≡ is_either done requests q
  all_ended done requests is freed_is q = ends_is call q ∙ ap (λ (ds : List ℕ). is_either ds (freed_in call) q) (sym is) ∙ ap (λ (rs : List ℕ). is_either done rs q) (sym freed_is)

  wrong_option : (o : Option Completed) → option_and_then (wrong_at r calls) o ≡ completed_wrongly r calls o
  wrong_option None = refl
  wrong_option (Some c) = refl

  -- the rows of S1
  pub rows_are : (rank k : ℕ) (cs : List Completed) (old new : List Finding) → r.rank ≡ rank → length calls ≡ k → cs ≡ completions_in call
      → Adds old new (IsOfRule rank k S1 (λ part. option_and_then (wrong_at r calls) (find (λ c. c.index == part) cs))) → Adds old new (IsCompletedWrongly r calls call)
  rows_are rank k cs old new same here is adds f = (
    λ h. to ((adds f).0 h),
    λ h. (adds f).1 (from h),
  )
    where
      answers : option_and_then (wrong_at r calls) (find (λ c. c.index == f.part) cs) ≡ completed_wrongly r calls (find (λ c. c.index == f.part) (completions_in call))
      answers = wrong_option (find (λ c. c.index == f.part) cs) ∙ ap (λ (xs : List Completed). completed_wrongly r calls (find (λ c. c.index == f.part) xs)) is

      to : (Rattle.must_base.specs.Listing.Has old f ⊎ IsOfRule rank k S1 (λ part. option_and_then (wrong_at r calls) (find (λ c. c.index == part) cs)) f) → (Rattle.must_base.specs.Listing.Has old f ⊎ IsCompletedWrongly r calls call f)
      to (inl h) = inl h
      to (inr s) = inr (record { rank_is = s.rank_is ∙ sym same; call_is = s.call_is ∙ sym here; rule_is = s.rule_is; gives = sym answers ∙ s.gives })

      from : (Rattle.must_base.specs.Listing.Has old f ⊎ IsCompletedWrongly r calls call f) → (Rattle.must_base.specs.Listing.Has old f ⊎ IsOfRule rank k S1 (λ part. option_and_then (wrong_at r calls) (find (λ c. c.index == part) cs)) f)
      from (inl h) = inl h
      from (inr s) = inr (record { rank_is = s.rank_is ∙ same; call_is = s.call_is ∙ here; rule_is = s.rule_is; gives = answers ∙ s.gives })

-- ---- what is given

pub no_rows : (items : List MsgItem) → rows_of (map Message items) ≡ []
no_rows [] = refl
no_rows (item ∷ items) = no_rows items

pub no_waves : (items : List MsgItem) → wave_calls (map Message items) ≡ []
no_waves [] = refl
no_waves (item ∷ items) = no_waves items

pub no_needs : (items : List MsgItem) → needs (map Message items) ≡ []
no_needs [] = refl
no_needs (item ∷ items) = no_needs items

pub the_items : (items : List MsgItem) → messages (map Message items) ≡ items
the_items [] = refl
the_items (item ∷ items) = ap (λ (xs : List MsgItem). item ∷ xs) (the_items items)

pub back_drop : {X : Type 0} (test : X → Bool) (xs : List X) → drop (length (front test xs)) xs ≡ back test xs
back_drop test [] = refl
back_drop {X} test (x ∷ xs) = at (back_drop test xs) (test x)
  where
    at : drop (length (front test xs)) xs ≡ back test xs → (b : Bool) → drop (length (cond b (x ∷ front test xs) [])) (x ∷ xs) ≡ cond b (back test xs) (x ∷ xs)
    at more true = more
    at more false = refl

front_short : {X : Type 0} (test : X → Bool) (xs : List X) → length (front test xs) ≤ length xs
front_short test [] = omega arith
front_short {X} test (x ∷ xs) = at (test x) (front_short test xs)
  where
    at : (b : Bool) → length (front test xs) ≤ length xs → length (cond b (x ∷ front test xs) []) ≤ suc (length xs)
    at true h = omega (arith, h)
    at false h = omega arith

drop_within : {X : Type 0} (n : ℕ) (xs ys : List X) → n ≤ length xs → drop n (xs ++ ys) ≡ drop n xs ++ ys
drop_within zero xs ys h = refl
drop_within (suc n) [] ys h = absurd (omega (arith, h))
drop_within (suc n) (x ∷ xs) ys h = drop_within n xs ys (omega (arith, h))

module _ (r : Rank) (calls : List Call) (call : Call) where
  left_over : drop (length (given r calls)) (operations_of r (calls ++ call ∷ [])) ≡ held r calls ++ operations_at r calls call
  left_over =
      ap (drop (length (given r calls))) (operations_more r calls call)
      ∙ drop_within (length (given r calls)) (operations_of r calls) (operations_at r calls call) (front_short (is_known calls) (operations_of r calls))
      ∙ ap (λ (ops : List Operation). ops ++ operations_at r calls call) (back_drop (is_known calls) (operations_of r calls))

  pub gives_more : (old new : Table) (before after : List Entry) → old.given ≡ length (given r calls) → GivesFront r (calls ++ call ∷ []) (operations_of r (calls ++ call ∷ [])) old new before after → GivesMore r calls (calls ++ call ∷ []) before after
  gives_more old new before after same g = record {
    more = map Message g.items;
    entries = g.entries;
    gives = record {
      rows = no_rows g.items;
      waves = no_waves g.items;
      wants = no_needs g.items;
      items = items_given_more r calls call
          ∙ ap (λ (is : List Item). items_given r calls ++ is)
          (sym (g.items_are ∙ ap (λ (n : ℕ). filter_map (item_of r (calls ++ call ∷ [])) (front (is_known (calls ++ call ∷ [])) (drop n (operations_of r (calls ++ call ∷ []))))) same
          ∙ ap (λ (ops : List Operation). filter_map (item_of r (calls ++ call ∷ [])) (front (is_known (calls ++ call ∷ [])) ops)) left_over)
          ∙ ap (map item_seen) (sym (the_items g.items)));
    };
  }

  pub given_next : (old new : Table) (before after : List Entry) → old.given ≡ length (given r calls) → GivesFront r (calls ++ call ∷ []) (operations_of r (calls ++ call ∷ [])) old new before after → new.given ≡ length (given r (calls ++ call ∷ []))
  given_next old new before after same g =
      g.given
      ∙ ap (λ (n : ℕ). n + length (front (is_known (calls ++ call ∷ [])) (drop n (operations_of r (calls ++ call ∷ []))))) same
      ∙ ap (λ (ops : List Operation). length (given r calls) + length (front (is_known (calls ++ call ∷ [])) ops)) left_over
      ∙ sym (ap length (given_more r calls call) ∙ length-append (given r calls) (front (is_known (calls ++ call ∷ [])) (held r calls ++ operations_at r calls call)))
