-- Rows in entries, and what several adders add.
use Rattle.std.proofs.Common.{◌≡◌, ℕ, zero, suc, ◌+◌, ◌<◌, ◌≤◌, List, [], ◌∷◌, ◌++◌, length, take, map, get_or, Option, Some, None, refl, sym, ap, ap₂, subst, ◌∙◌, inl, inr, arith, append_assoc}
use Rattle.std.specs.Prelude.{◌⊎◌, slice_get}
use Rattle.std.proofs.lemmas.List.{take_more, append-nil, map-append}
use Rattle.std.proofs.lemmas.List.Concat.{flat_map-append}
use Rattle.std.specs.Option.{option_to_list}
use Rattle.std.proofs.lemmas.Bool.{cases_eq}
use Rattle.std.proofs.lemmas.Option.{slice_get_past}
use Rattle.must_call.specs.declared.class.Class.{Class}
use Rattle.must_call.specs.declared.life.Life.{Life}
use Rattle.must_call.specs.declared.life.Life.TheVariants.{Never, Live, Freed, Predefined}
use Rattle.must_call.specs.declared.call.Call.{Call}
use Rattle.must_find.specs.declared.finding.Finding.{Finding}
use Rattle.must_find.specs.declared.rule.Rule.{Rule}
use Rattle.must_rules.specs.Answer.{Answer, IsAnswer}
use Rattle.must_find.specs.Adds.{Adds}
use Rattle.must_rules.specs.Lives.{life, with_live, live_among, made_count, open_handles}
use Rattle.must_rules.specs.LiveLaws.{live_more, live_count, live_now}
use Rattle.must_rules.specs.Leaks.{leak}
use Rattle.must_local.specs.Adding.{IsOfRule, ClassRows, open_one}
use Rattle.must_entry.specs.declared.entry.Entry.{Entry}
use Rattle.must_entry.specs.declared.entry.Entry.TheVariants.{Row, Wave}
use Rattle.must_coll.specs.declared.item.WaveItem.{WaveItem}
use Rattle.must_p2p.specs.declared.item.MsgItem.{MsgItem}
use Rattle.must_entry.specs.Entries.{Waits, row_of, rows_of, message_of, messages, call_of, calls, need_of, needs}

-- ---- rows and calls of waves behind other entries

-- entries that have these rows, calls, messages and needs
pub record HasParts (es : List Entry) (rows : List Finding) (items : List WaveItem) (ms : List MsgItem) (ws : List Waits) : Type 0 where
  pub rows_are : rows_of es ≡ rows
  pub calls_are : calls es ≡ items
  pub messages_are : messages es ≡ ms
  pub needs_are : needs es ≡ ws

joined : (xs ys : List Entry) (f g : List Finding) (a b : List WaveItem) (m n : List MsgItem) (v w : List Waits) → HasParts xs f a m v → HasParts ys g b n w → HasParts (xs ++ ys) (f ++ g) (a ++ b) (m ++ n) (v ++ w)
joined xs ys f g a b m n v w p q = record {
  rows_are = flat_map-append row_of xs ys ∙ ap₂ (λ (k l : List Finding). k ++ l) p.rows_are q.rows_are;
  calls_are = flat_map-append call_of xs ys ∙ ap₂ (λ (k l : List WaveItem). k ++ l) p.calls_are q.calls_are;
  messages_are = flat_map-append message_of xs ys ∙ ap₂ (λ (k l : List MsgItem). k ++ l) p.messages_are q.messages_are;
  needs_are = flat_map-append need_of xs ys ∙ ap₂ (λ (k l : List Waits). k ++ l) p.needs_are q.needs_are;
}

rows_alone : (fs : List Finding) → HasParts (map Row fs) fs [] [] []
rows_alone [] = record { rows_are = refl; calls_are = refl; messages_are = refl; needs_are = refl }
rows_alone (f ∷ fs) = let rest = rows_alone fs in record { rows_are = ap (λ (l : List Finding). f ∷ l) rest.rows_are; calls_are = rest.calls_are; messages_are = rest.messages_are; needs_are = rest.needs_are }

waves_alone : (items : List WaveItem) → HasParts (map Wave items) [] items [] []
waves_alone [] = record { rows_are = refl; calls_are = refl; messages_are = refl; needs_are = refl }
waves_alone (x ∷ xs) = let rest = waves_alone xs in record { rows_are = rest.rows_are; calls_are = ap (λ (l : List WaveItem). x ∷ l) rest.calls_are; messages_are = rest.messages_are; needs_are = rest.needs_are }

-- messages and needs, behind them rows, and behind these calls of waves
pub behind_others : (more : List Entry) (rows : List Finding) (items : List WaveItem) → rows_of more ≡ [] → calls more ≡ [] → HasParts ((more ++ map Row rows) ++ map Wave items) rows items (messages more) (needs more)
behind_others more rows items no_rows no_calls =
    let first : HasParts more [] [] (messages more) (needs more) = record { rows_are = no_rows; calls_are = no_calls; messages_are = refl; needs_are = refl } in
    let with_rows = joined more (map Row rows) [] rows [] [] (messages more) [] (needs more) [] first (rows_alone rows) in
    let all = joined (more ++ map Row rows) (map Wave items) rows [] [] items (messages more ++ []) [] (needs more ++ []) [] with_rows (waves_alone items) in
    record {
      rows_are = all.rows_are ∙ append-nil rows;
      calls_are = all.calls_are;
      messages_are = all.messages_are ∙ append-nil (messages more ++ []) ∙ append-nil (messages more);
      needs_are = all.needs_are ∙ append-nil (needs more ++ []) ∙ append-nil (needs more);
    }

-- one row more
pub row_next : (old : List Entry) (fs : List Finding) (i : ℕ) (d : Finding) → i < length fs → (old ++ map Row (take i fs)) ++ Row (get_or fs i d) ∷ [] ≡ old ++ map Row (take (i + 1) fs)
row_next old fs i d within =
    append_assoc old (map Row (take i fs)) (Row (get_or fs i d) ∷ [])
    ∙ ap (λ (l : List Entry). old ++ l) (sym (ap (map Row) (take_more fs i d within) ∙ map-append Row (take i fs) (get_or fs i d ∷ [])))

pub row_behind : (old mid new : List Entry) (fs : List Finding) (i : ℕ) (d : Finding) → i < length fs → new ≡ mid ++ Row (get_or fs i d) ∷ [] → mid ≡ old ++ map Row (take i fs) → new ≡ old ++ map Row (take (i + 1) fs)
row_behind old mid new fs i d within put so_far = put ∙ ap (λ (l : List Entry). l ++ Row (get_or fs i d) ∷ []) so_far ∙ row_next old fs i d within

-- what was put behind nothing
pub put_behind : (old more new : List Entry) (fs rows : List Finding) (items : List WaveItem) → old ≡ [] → new ≡ old ++ more → fs ≡ rows → (new ++ map Row fs) ++ map Wave items ≡ (more ++ map Row rows) ++ map Wave items
put_behind old more new fs rows items none put same =
    ap₂ (λ (l : List Entry) (gs : List Finding). (l ++ map Row gs) ++ map Wave items) (put ∙ ap (λ (l : List Entry). l ++ more) none) same

-- ---- adding

pub adds_nothing : (P : Finding → Type 0) (xs : List Finding) → ((f : Finding) → P f → ⊥) → Adds xs xs P
adds_nothing P xs none = λ f. (λ h. inl h, λ h. elim h [ inl there ↦ there | inr p ↦ absurd (none f p) ])

-- first this is added and then that, and both together are that which is told
pub adds_both : (P Q R : Finding → Type 0) (a b c : List Finding) → Adds a b P → Adds b c Q → ((f : Finding) → P f → R f) → ((f : Finding) → Q f → R f) → ((f : Finding) → R f → P f ⊎ Q f) → Adds a c R
adds_both P Q R a b c first then p q r = λ f. (
  λ h. elim ((then f).0 h) [
    | inl there ↦ elim ((first f).0 there) [ inl old ↦ inl old | inr x ↦ inr (p f x) ]
    | inr y ↦ inr (q f y)
  ],
  λ h. elim h [
    | inl old ↦ (then f).1 (inl ((first f).1 (inl old)))
    | inr x ↦ elim (r f x) [ inl y ↦ (then f).1 (inl ((first f).1 (inr y))) | inr z ↦ (then f).1 (inr z) ]
  ],
)

pub adds_then : (P Q : Finding → Type 0) (a b c : List Finding) → Adds a b P → Adds b c Q → Adds a c (λ f. P f ⊎ Q f)
adds_then P Q a b c first then = adds_both P Q (λ f. P f ⊎ Q f) a b c first then (λ f h. inl h) (λ f h. inr h) (λ f h. h)

pub adds_five : (P Q R S T : Finding → Type 0) (a b c d e g : List Finding) → Adds a b P → Adds b c Q → Adds c d R → Adds d e S → Adds e g T → Adds a g (λ f. P f ⊎ (Q f ⊎ (R f ⊎ (S f ⊎ T f))))
adds_five P Q R S T a b c d e g p q r s t =
    adds_then P (λ f. Q f ⊎ (R f ⊎ (S f ⊎ T f))) a b g p
    (adds_then Q (λ f. R f ⊎ (S f ⊎ T f)) b c g q (adds_then R (λ f. S f ⊎ T f) c d g r (adds_then S T d e g s t)))

-- ---- open handles

leak_none : (rank : ℕ) (a : Answer) → leak rank None ≡ Some a → ⊥
leak_none rank a e = cc

push_same : (xs : List (ℕ × ℕ)) (o : Option (ℕ × ℕ)) → slice_get (xs ++ option_to_list o) (length xs) ≡ o
push_same [] None = refl
push_same [] (Some x) = refl
push_same (y ∷ ys) o = push_same ys o

push_other : (xs : List (ℕ × ℕ)) (o : Option (ℕ × ℕ)) (i : ℕ) → (i ≡ length xs → ⊥) → slice_get (xs ++ option_to_list o) i ≡ slice_get xs i
push_other [] None i other = refl
push_other [] (Some x) zero other = absurd (other refl)
push_other [] (Some x) (suc i) other = refl
push_other (y ∷ ys) o zero other = refl
push_other (y ∷ ys) o (suc i) other = push_other ys o i (λ e. other (ap suc e))

with_one : (number : ℕ) (l : Life) → with_live number l [] ≡ option_to_list (open_one number l)
with_one number (Live made) = refl
with_one number Never = refl
with_one number (Freed made freed) = refl
with_one number Predefined = refl

-- the rows of a class as far as the numbers below count go
pub record OpenSoFar (rank k : ℕ) (rule : Rule) (calls : List Call) (class : Class) (count part : ℕ) (old new : List Finding) : Type 0 where
  pub part_is : part ≡ length (live_among calls class count 64)
  pub adds : Adds old new (IsOfRule rank k rule (λ p. leak rank (slice_get (live_among calls class count 64) p)))

handles_more : (rank k : ℕ) (rule : Rule) (xs : List (ℕ × ℕ)) (o : Option (ℕ × ℕ)) (old mid new : List Finding) → Adds old mid (IsOfRule rank k rule (λ p. leak rank (slice_get xs p)))
    → Adds mid new (IsAnswer rank k rule (length xs) (leak rank o)) → Adds old new (IsOfRule rank k rule (λ p. leak rank (slice_get (xs ++ option_to_list o) p)))
handles_more rank k rule xs o old mid new first then =
    adds_both
    (IsOfRule rank k rule (λ p. leak rank (slice_get xs p)))
    (IsAnswer rank k rule (length xs) (leak rank o))
    (IsOfRule rank k rule (λ p. leak rank (slice_get (xs ++ option_to_list o) p)))
    old
    mid
    new
    first
    then
    (λ f is. record {
      rank_is = is.rank_is;
      call_is = is.call_is;
      rule_is = is.rule_is;
      gives = ap (leak rank) (push_other xs o f.part (λ e. leak_none rank (f.see, f.value) (ap (leak rank) (sym (slice_get_past xs f.part (omega arith))) ∙ is.gives))) ∙ is.gives;
    })
    (λ f is. record {
      rank_is = is.rank_is;
      call_is = is.call_is;
      rule_is = is.rule_is;
      gives = ap (λ n. leak rank (slice_get (xs ++ option_to_list o) n)) is.part_is ∙ ap (leak rank) (push_same xs o) ∙ is.gives;
    })
    (λ f is. elim (cases_eq f.part (length xs)) [
      | inl same ↦ inr (record {
        rank_is = is.rank_is;
        call_is = is.call_is;
        rule_is = is.rule_is;
        part_is = same;
        gives = ap (leak rank) (sym (push_same xs o)) ∙ ap (λ n. leak rank (slice_get (xs ++ option_to_list o) n)) (sym same) ∙ is.gives;
      })
      | inr other ↦ inl (record { rank_is = is.rank_is; call_is = is.call_is; rule_is = is.rule_is; gives = ap (leak rank) (sym (push_other xs o f.part other)) ∙ is.gives })
    ])

pub open_more : (rank k : ℕ) (rule : Rule) (calls : List Call) (class : Class) (count part next : ℕ) (l : Life) (old mid new : List Finding) → l ≡ life calls class (64 + count) → next ≡ part + live_now l
    → OpenSoFar rank k rule calls class count part old mid → Adds mid new (IsAnswer rank k rule part (leak rank (open_one (64 + count) l))) → OpenSoFar rank k rule calls class (count + 1) next old new
open_more rank k rule calls class count part next l old mid new is next_is first then =
    let xs = live_among calls class count 64 in
    let o = open_one (64 + count) l in
    let all : live_among calls class (count + 1) 64 ≡ xs ++ option_to_list o =
    ap (λ n. live_among calls class n 64) (let e : count + 1 ≡ suc count = omega arith in e) ∙ live_more calls class count 64 ∙ ap (λ (x : Life). xs ++ with_live (64 + count) x []) (sym is) ∙ ap (λ (ys : List (ℕ × ℕ)). xs ++ ys) (with_one (64 + count) l) in
    record {
      part_is = next_is ∙ ap (λ n. n + live_now l) first.part_is ∙ ap (λ (x : Life). length xs + live_now x) is ∙ sym (live_count calls class count 64);
      adds = subst (λ (ys : List (ℕ × ℕ)). Adds old new (IsOfRule rank k rule (λ p. leak rank (slice_get ys p)))) (sym all)
          (handles_more rank k rule xs o old mid new first.adds (subst (λ n. Adds mid new (IsAnswer rank k rule n (leak rank o))) first.part_is then));
    }

pub open_last : (rank k : ℕ) (rule : Rule) (calls : List Call) (class : Class) (count part : ℕ) (old new : List Finding) → made_count calls ≡ count → OpenSoFar rank k rule calls class count part old new → Adds old new (ClassRows rank k class rule calls)
unfolding open_handles
open_last rank k rule calls class count part old new e so_far = subst (λ n. Adds old new (IsOfRule rank k rule (λ p. leak rank (slice_get (live_among calls class n 64) p)))) (sym e) so_far.adds

pub few_live : (l : Life) → live_now l ≤ 1
few_live (Live made) = omega arith
few_live Never = omega arith
few_live (Freed made freed) = omega arith
few_live Predefined = omega arith
