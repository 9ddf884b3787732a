-- The values of S1, and completions judged one by one.
use Rattle.std.proofs.Common.{◌≡◌, ◌⊎◌, inl, inr, ℕ, ℤ, pos, zero, suc, ◌+◌, ◌<◌, ◌≤◌, ◌==◌, Bool, true, false, cond, ◌||◌, nat_eq, List, [], ◌∷◌, ◌++◌, length, take, drop, Option, Some, None, refl, ap, sym, subst, ◌∙◌, arith, w32, to_z, of_z}
use Rattle.std.specs.Int.{w128}
use Rattle.std.specs.Prelude.{map, option_and_then, is_some, slice_get}
use Rattle.std.specs.Ordering.{nat_cmp}
use Rattle.std.specs.BTreeMap.{BTreeMap, get, IsEmpty}
use Rattle.std.specs.BTreeSet.{BTreeSet, contains}
use Rattle.std.proofs.lemmas.List.{take_all}
use Rattle.must_call.specs.declared.status.Status3.{Status3}
use Rattle.must_find.specs.declared.rule.Rule.TheVariants.{S1}
use Rattle.must_find.specs.declared.finding.Finding.{Finding}
use Rattle.must_find.specs.Adds.{Adds}
use Rattle.must_rules.specs.Answer.{Answer, IsAnswer}
use Rattle.must_rules.specs.ArgumentRules.{unless}
use Rattle.must_messages.specs.declared.asked.Asked.{Asked}
use Rattle.must_messages.specs.PlainLaws.{no_some, same_some}
use Rattle.must_messages.specs.Asking.{IsAsked, action_seen, envelope_seen}
use Rattle.must_rules.specs.Operations.{Action, Sends, Receives, Probes, Envelope, Message}
use Rattle.must_rules.specs.Fates.{Completed}
use Rattle.must_rules.specs.Statuses.{admits_source, admits_tag, wrong_envelope, contradiction}
use Rattle.must_messages.proofs.Contradicting.{wrong_as, cancelled_is, wrong_is}
use Rattle.must_hold.specs.declared.judge.Told.{Told}
use Rattle.must_hold.specs.Told.{Wrong, told_next, told_by}
use Rattle.must_hold.proofs.Giving.{drop_at, drop_none}
use Rattle.must_hold.proofs.Recording.{take_at}
use Rattle.must_hold.proofs.Judging.{at_index, S1At, row_more, seen_next}
use Rattle.must_hold.proofs.Putting.{empty}

-- ---- values are small

abbrev pub IsSmall : ℤ → Type 0
IsSmall v = (to_z w32 (of_z w32 v) ≡ v) × (to_z w128 (of_z w128 v) ≡ v)

small_unless : (b : Bool) (z v : ℤ) → IsSmall z → unless b z ≡ Some v → IsSmall v
small_unless true z v s e = no_some v e
small_unless false z v s e = subst IsSmall (same_some z v e) s

small_envelope : (source tag : Bool) (v : ℤ) → cond source (unless tag (pos 2)) (Some (pos 1)) ≡ Some v → IsSmall v
small_envelope true tag v e = small_unless tag (pos 2) v (refl, refl) e
small_envelope false tag v e = subst IsSmall (same_some (pos 1) v e) (refl, refl)

small_as : (tag_ub : ℤ) (a : Action) (e : Envelope) (status : Status3) (v : ℤ) → wrong_as tag_ub a e status ≡ Some v → IsSmall v
small_as tag_ub (Sends mode) e status v f = no_some v f
small_as tag_ub Receives e status v f = small_envelope (admits_source e status.source) (admits_tag tag_ub e status.tag) v f
small_as tag_ub Probes e status v f = small_envelope (admits_source e status.source) (admits_tag tag_ub e status.tag) v f

pub small : (tag_ub : ℤ) (asked : Asked) (m : Message) (b : Bool) (status : Status3) (v : ℤ) → IsAsked asked m → contradiction tag_ub m b status ≡ Some v → IsSmall v
small tag_ub asked m b status v is e = at status.cancelled refl
  where
    at : (c : Bool) → status.cancelled ≡ c → IsSmall v
    at true f = small_unless b (pos 3) v (refl, refl) (cancelled_is tag_ub m b status f ∙ e)
    at false f = small_as tag_ub (action_seen asked.deed) (envelope_seen asked) status v (wrong_is tag_ub asked m b status is f ∙ e)

-- ---- one by one

pub record Gathers (wrong : Wrong) (rank call : ℕ) (cs : List Completed) (i : ℕ) (old : List Finding) (told : BTreeMap ℕ Told) (seen : BTreeSet ℕ) (rows : List Finding) : Type 0 where
  pub tells : (q : ℕ) → told_by wrong q (get nat_cmp told q) (drop i cs) ≡ told_by wrong q None cs
  pub adds : Adds old rows (S1At rank call S1 wrong (take i cs))
  pub sees : (h : ℕ) → contains nat_cmp seen h ≡ is_some (at_index (take i cs) h)

module _ (wrong : Wrong) (rank call : ℕ) (cs : List Completed) (old : List Finding) where
  pub gather_first : (told : BTreeMap ℕ Told) (seen : BTreeSet ℕ) → IsEmpty told → ((h : ℕ) → contains nat_cmp seen h ≡ false) → Gathers wrong rank call cs 0 old told seen old
  gather_first told seen none unseen = record {
    tells = λ q. ap (λ (t : Option Told). told_by wrong q t cs) (empty told q none);
    adds = λ f. ((λ h. inl h), (λ h. at f h));
    sees = unseen;
  }
    where
      at : (f : Finding) → (Rattle.must_base.specs.Listing.Has old f ⊎ S1At rank call S1 wrong [] f) → Rattle.must_base.specs.Listing.Has old f
      at f (inl h) = h
      at f (inr s) = no_some (f.see, f.value) s.gives

  pub gather_next : (i j : ℕ) (x : Completed) (told new_told : BTreeMap ℕ Told) (seen new_seen : BTreeSet ℕ) (rows new_rows : List Finding) (again : Bool) (answer : Option Answer)
      → j ≡ suc i → slice_get cs i ≡ Some x → answer ≡ wrong x → again ≡ contains nat_cmp seen x.index → ((h : ℕ) → contains nat_cmp new_seen h ≡ (contains nat_cmp seen h || nat_eq h x.index))
      → Adds rows new_rows (IsAnswer rank call S1 x.index (cond again None answer)) → ((w : Wrong) → is_some (w x) ≡ is_some answer → (q : ℕ) → get nat_cmp new_told q ≡ told_next w q (get nat_cmp told q) x)
      → Gathers wrong rank call cs i old told seen rows → Gathers wrong rank call cs j old new_told new_seen new_rows
  gather_next i j x told new_told seen new_seen rows new_rows again answer more there answers was sees adds noted g =
      subst (λ (k : ℕ). Gathers wrong rank call cs k old new_told new_seen new_rows) (sym more) (record {
        tells = λ q. ap (λ (t : Option Told). told_by wrong q t (drop (suc i) cs)) (noted wrong (ap is_some (sym answers)) q) ∙ ap (told_by wrong q (get nat_cmp told q)) (sym (drop_at cs i x there)) ∙ g.tells q;
        adds = subst (λ (xs : List Completed). Adds old new_rows (S1At rank call S1 wrong xs)) (sym (take_at cs i x there))
            (row_more rank call S1 wrong (take i cs) x old rows new_rows again (was ∙ g.sees x.index) g.adds (subst (λ (o : Option Answer). Adds rows new_rows (IsAnswer rank call S1 x.index (cond again None o))) answers adds));
        sees = λ h. sees h ∙ ap (λ (b : Bool). b || nat_eq h x.index) (g.sees h) ∙ seen_next rank call S1 wrong (take i cs) x h ∙ ap (λ (xs : List Completed). is_some (at_index xs h)) (sym (take_at cs i x there));
      })

  none_left : (xs : List Completed) (i : ℕ) → length xs ≤ i → drop i xs ≡ []
  none_left [] i h = drop_none [] i refl
  none_left (x ∷ xs) zero h = absurd (omega (arith, h))
  none_left (x ∷ xs) (suc i) h = none_left xs i (omega (arith, h))

  pub gather_last : (i : ℕ) (told : BTreeMap ℕ Told) (seen : BTreeSet ℕ) (rows : List Finding) → length cs ≤ i → Gathers wrong rank call cs i old told seen rows
      → ((q : ℕ) → get nat_cmp told q ≡ told_by wrong q None cs) × Adds old rows (S1At rank call S1 wrong cs)
  gather_last i told seen rows past g =
      ((λ q. sym (ap (told_by wrong q (get nat_cmp told q)) (none_left cs i past)) ∙ g.tells q), subst (λ (xs : List Completed). Adds old rows (S1At rank call S1 wrong xs)) (take_all i cs past) g.adds)

abbrev pub answer_at : (rank call : ℕ) → ℤ → Option Answer
answer_at rank call value = Some (Some (record { rank = rank; call = call }), value)
