-- A table stands for one call more.
use Rattle.std.proofs.Common.{◌≡◌, ℕ, zero, suc, ◌+◌, ◌-◌, ◌<◌, ◌≤◌, ◌==◌, Bool, true, false, cond, ◌&&◌, ◌||◌, List, [], ◌∷◌, ◌++◌, length, take, get_or, Option, Some, None, refl, sym, ap, subst, ◌∙◌, inl, inr, arith, length-append}
use Rattle.std.specs.Prelude.{not, is_none, slice_get, nat_le}
use Rattle.std.specs.Option.{option_map}
use Rattle.std.proofs.lemmas.Bool.{cases_eq, cases_lt, le-leb, lt-leb, ne_eqb, eq-eqb, eqb-true}
use Rattle.std.proofs.lemmas.List.{take_at}
use Rattle.std.proofs.lemmas.Option.{slice_get_past, slice_get-get_or, none-some}
use Rattle.must_call.specs.declared.class.Class.{Class}
use Rattle.must_call.specs.declared.class.Class.TheVariants.{Datatype, Request}
use Rattle.must_call.specs.declared.life.Life.{Life}
use Rattle.must_call.specs.declared.life.Life.TheVariants.{Never, Live, Freed, Predefined}
use Rattle.must_call.specs.declared.call.Call.{Call}
use Rattle.must_call.specs.Handles.{ClassedHandle}
use Rattle.must_rules.specs.Search.{or_then, only_if}
use Rattle.must_rules.specs.Making.{is_in, same_class, is_handle, made_by, makes, persists, frees, completes, commits, copies, copied_of, started_of}
use Rattle.must_rules.specs.MakingLaws.{same_class_is, made_ends, made_commits, made_completes}
use Rattle.must_rules.specs.Lives.{ends, is_predefined, life, life_from, is_kept, committed, commits_live, copies_committed}
use Rattle.must_rules.specs.Starts.{Clearness, TellsClear, names_to_start, start_of}
use Rattle.must_rules.specs.LifeLaws.{next_life, next_kept, life_more, life_first, kept_more, kept_first, kept_same, committed_more, committed_first, made_count_more, made_count_first, made_now}
use Rattle.must_rules.specs.StartLaws.{next_start, start_more, start_first, start_same, names_told, made_names}
use Rattle.must_handle.specs.declared.slot.Slot.{Slot}
use Rattle.must_handle.specs.Slots.{slot_of, life_in, state_in, kept_slot, kept_in, start_slot, start_in, is_committed, committed_in, Stands}
use Rattle.must_handle.specs.Changes.{Changes, IsNext, next_by, committed_when, start_if, started_slot, free_if, freed_slot, complete_if, completed_slot, passed_slot, fresh}

slot_none : (number : ℕ) → slot_of [] number ≡ None
slot_none number = at (nat_le 64 number)
  where
    at : (b : Bool) → cond {A = Option Slot} b None None ≡ None
    at true = refl
    at false = refl

or_false : (b : Bool) → b || false ≡ b
or_false true = refl
or_false false = refl

never_kept : (b : Bool) → cond {A = Bool} b false false ≡ false
never_kept true = refl
never_kept false = refl

-- before the first call
pub stands_first : (is_clear : Clearness) → Stands is_clear [] []
stands_first is_clear = record {
  count = sym made_count_first;
  lives = λ class number. ap (λ (o : Option Slot). cond (is_predefined class number) Predefined (life_in class o)) (slot_none number) ∙ sym (life_first class number);
  keeps = λ class number. ap (λ (o : Option Slot). cond (is_predefined class number) false (kept_slot class o)) (slot_none number) ∙ never_kept (is_predefined class number) ∙ sym (kept_first class number);
  starts = λ number. ap start_slot (slot_none number) ∙ sym (start_first is_clear number);
  commits = λ number. ap (λ (o : Option Slot). is_predefined Datatype number || is_committed o) (slot_none number) ∙ or_false (is_predefined Datatype number) ∙ sym (committed_first number);
}

-- ---- a call that makes no handle

no_one : (class : Class) (number : ℕ) (call : Call) → made_by call ≡ None → makes class number call ≡ false
no_one class number call e = ap (λ (o : Option ClassedHandle). is_handle class number o) e

-- ---- what a slot tells after a call, by whether it is of the class that is looked up; a call frees it, or completes it

abbrev freed_by : Bool → Bool → Bool → ℕ → Option ℕ → Option ℕ
freed_by f c p k o = or_then (or_then o (only_if f k)) (only_if (c && not p) k)

life_step : (same f c p : Bool) (k made : ℕ) (o : Option ℕ) (g d : Bool) → (same ≡ true → f ≡ g) → (same ≡ true → c ≡ d)
    → cond same (life_from made (freed_by f c p k o)) Never ≡ next_life k false (g || (not ((same && is_none o) && p) && d)) (cond same (life_from made o) Never)
life_step false f c p k made o g d s t = refl
life_step true f c p k made (Some freed) g d s t = refl
life_step true f c p k made None g d s t = ap (λ (x : Bool). life_from made (freed_by x c p k None)) (s refl) ∙ ap (λ (x : Bool). life_from made (freed_by g x p k None)) (t refl) ∙ at g d p
  where
    at : (g d p : Bool) → life_from made (freed_by g d p k None) ≡ next_life k false (g || (not p && d)) (Live made)
    at true d p = refl
    at false true true = refl
    at false true false = refl
    at false false true = refl
    at false false false = refl

kept_step : (same f c p : Bool) (k made : ℕ) (o : Option ℕ) (more g d : Bool) → (same ≡ true → f ≡ g) → (same ≡ true → c ≡ d)
    → (same && is_none (freed_by f c p k o)) && p ≡ next_kept false more (g || (not ((same && is_none o) && p) && d)) (cond same (life_from made o) Never) ((same && is_none o) && p)
kept_step false f c p k made o more g d s t = refl
kept_step true f c p k made (Some freed) more g d s t = refl
kept_step true f c p k made None more g d s t = ap (λ (x : Bool). is_none (freed_by x c p k None) && p) (s refl) ∙ ap (λ (x : Bool). is_none (freed_by g x p k None) && p) (t refl) ∙ at g d p
  where
    at : (g d p : Bool) → is_none (freed_by g d p k None) && p ≡ not (g || (not p && d)) && p
    at true d p = refl
    at false true true = refl
    at false true false = refl
    at false false true = refl
    at false false false = refl

start_step : (same f c p : Bool) (k made : ℕ) (o start : Option ℕ) (more g d named : Bool) → (same ≡ true → f ≡ g) → (same ≡ true → c ≡ d)
    → cond (same && is_none (freed_by f c p k o)) (cond (c && is_none (or_then o (only_if f k))) None (or_then start (only_if (same && named) k))) None
    ≡ next_start k false more (g || (not ((same && is_none o) && p) && d)) d named (cond same (life_from made o) Never) (cond (same && is_none o) start None)
start_step false f c p k made o start more g d named s t = refl
start_step true f c p k made (Some freed) start more g d named s t = refl
start_step true f c p k made None start more g d named s t =
    ap (λ (x : Bool). cond (is_none (freed_by x c p k None)) (cond (c && is_none (or_then None (only_if x k))) None (or_then start (only_if named k))) None) (s refl)
    ∙ ap (λ (x : Bool). cond (is_none (freed_by g x p k None)) (cond (x && is_none (or_then None (only_if g k))) None (or_then start (only_if named k))) None) (t refl) ∙ at g d p
  where
    at : (g d p : Bool) → cond (is_none (freed_by g d p k None)) (cond (d && is_none (or_then None (only_if g k))) None (or_then start (only_if named k))) None ≡ cond ((g || (not p && d)) || d) None (or_then start (only_if named k))
    at true d p = refl
    at false true true = refl
    at false true false = refl
    at false false true = refl
    at false false false = refl

by_class : (own class : Class) (number : ℕ) (f : Class → ℕ → Call → Bool) (call : Call) → same_class own class ≡ true → f own number call ≡ f class number call
by_class own class number f call e = ap (λ (c : Class). f c number call) (same_class_is own class e)

-- ---- a slot after a call, field by field

abbrev slot_with : Slot → Option ℕ → Bool → Option ℕ → Slot
slot_with slot freed committed start = record { class = slot.class; made = slot.made; freed = freed; committed = committed; persistent = slot.persistent; start = start }

commit_flat : (b : Bool) (class : Class) (made : ℕ) (o : Option ℕ) (committed p : Bool) (s : Option ℕ)
    → committed_when b (record { class = class; made = made; freed = o; committed = committed; persistent = p; start = s }) ≡ record { class = class; made = made; freed = o; committed = committed || b; persistent = p; start = s }
commit_flat true class made o true p s = refl
commit_flat true class made o false p s = refl
commit_flat false class made o true p s = refl
commit_flat false class made o false p s = refl

start_flat : (b : Bool) (k : ℕ) (class : Class) (made : ℕ) (o : Option ℕ) (committed p : Bool) (s : Option ℕ)
    → start_if b k (record { class = class; made = made; freed = o; committed = committed; persistent = p; start = s }) ≡ record { class = class; made = made; freed = o; committed = committed; persistent = p; start = or_then s (only_if b k) }
start_flat true k class made o committed p None = refl
start_flat true k class made o committed p (Some s) = refl
start_flat false k class made o committed p None = refl
start_flat false k class made o committed p (Some s) = refl

free_flat : (b : Bool) (k : ℕ) (class : Class) (made : ℕ) (o : Option ℕ) (committed p : Bool) (s : Option ℕ)
    → free_if b k (record { class = class; made = made; freed = o; committed = committed; persistent = p; start = s }) ≡ record { class = class; made = made; freed = or_then o (only_if b k); committed = committed; persistent = p; start = s }
free_flat true k class made None committed p s = refl
free_flat true k class made (Some f) committed p s = refl
free_flat false k class made None committed p s = refl
free_flat false k class made (Some f) committed p s = refl

complete_flat : (b : Bool) (k : ℕ) (class : Class) (made : ℕ) (o : Option ℕ) (committed p : Bool) (s : Option ℕ)
    → complete_if b k (record { class = class; made = made; freed = o; committed = committed; persistent = p; start = s })
    ≡ record { class = class; made = made; freed = or_then o (only_if (b && not p) k); committed = committed; persistent = p; start = cond (b && is_none o) None s }
complete_flat true k class made None committed p s = refl
complete_flat true k class made (Some f) committed p s = refl
complete_flat false k class made None committed p s = refl
complete_flat false k class made (Some f) committed p s = refl

abbrev flat : Bool → Call → ℕ → ℕ → Slot → Slot
flat clear call k n slot = slot_with slot
    (freed_by (frees slot.class n call) (completes slot.class n call) slot.persistent k slot.freed)
    (slot.committed || commits_live (commits n call) (life_in Datatype (Some slot)))
    (cond (completes slot.class n call && is_none (or_then slot.freed (only_if (frees slot.class n call) k))) None (or_then slot.start (only_if (same_class slot.class Request && (clear && is_in (started_of call.body) n)) k)))

passed_flat : (clear : Bool) (call : Call) (k n : ℕ) (slot : Slot) → passed_slot clear call k n slot ≡ flat clear call k n slot
passed_flat clear call k n slot =
    let m = slot.committed || commits_live (commits n call) (life_in Datatype (Some slot)) in
    let named = same_class slot.class Request && (clear && is_in (started_of call.body) n) in
    let s = or_then slot.start (only_if named k) in
    let f = frees slot.class n call in
    ap (λ (x : Slot). completed_slot call k n (freed_slot call k n (started_slot clear call k n x))) (commit_flat (commits_live (commits n call) (life_in Datatype (Some slot))) slot.class slot.made slot.freed slot.committed slot.persistent slot.start)
    ∙ ap (λ (x : Slot). completed_slot call k n (freed_slot call k n x)) (start_flat named k slot.class slot.made slot.freed m slot.persistent slot.start)
    ∙ ap (λ (x : Slot). completed_slot call k n x) (free_flat f k slot.class slot.made slot.freed m slot.persistent s)
    ∙ complete_flat (completes slot.class n call) k slot.class slot.made (or_then slot.freed (only_if f k)) m slot.persistent s

-- what a slot tells of a class
abbrev ends_now : Call → ℕ → Class → Option Slot → Bool
ends_now call n class o = ends (kept_slot class o) class n call

kept_life : (clear : Bool) (call : Call) (k n : ℕ) (class : Class) (o : Option Slot) → life_in class (option_map (passed_slot clear call k n) o) ≡ next_life k false (ends_now call n class o) (life_in class o)
kept_life clear call k n class None = refl
kept_life clear call k n class (Some slot) =
    ap (λ (s : Slot). life_in class (Some s)) (passed_flat clear call k n slot)
    ∙ life_step (same_class slot.class class) (frees slot.class n call) (completes slot.class n call) slot.persistent k slot.made slot.freed (frees class n call) (completes class n call)
    (by_class slot.class class n frees call) (by_class slot.class class n completes call)

kept_keeps : (clear : Bool) (call : Call) (k n : ℕ) (class : Class) (o : Option Slot) → kept_slot class (option_map (passed_slot clear call k n) o) ≡ next_kept false (persists call) (ends_now call n class o) (life_in class o) (kept_slot class o)
kept_keeps clear call k n class None = refl
kept_keeps clear call k n class (Some slot) =
    ap (λ (s : Slot). kept_slot class (Some s)) (passed_flat clear call k n slot)
    ∙ kept_step (same_class slot.class class) (frees slot.class n call) (completes slot.class n call) slot.persistent k slot.made slot.freed (persists call) (frees class n call) (completes class n call)
    (by_class slot.class class n frees call) (by_class slot.class class n completes call)

kept_starts : (clear : Bool) (call : Call) (k n : ℕ) (o : Option Slot)
    → start_slot (option_map (passed_slot clear call k n) o) ≡ next_start k false (persists call) (ends_now call n Request o) (completes Request n call) (clear && is_in (started_of call.body) n) (life_in Request o) (start_slot o)
kept_starts clear call k n None = refl
kept_starts clear call k n (Some slot) =
    ap (λ (s : Slot). start_slot (Some s)) (passed_flat clear call k n slot)
    ∙ start_step (same_class slot.class Request) (frees slot.class n call) (completes slot.class n call) slot.persistent k slot.made slot.freed slot.start (persists call) (frees Request n call) (completes Request n call)
    (clear && is_in (started_of call.body) n) (by_class slot.class Request n frees call) (by_class slot.class Request n completes call)

and_never : (b : Bool) → false ≡ b && false
and_never true = refl
and_never false = refl

kept_committed : (clear : Bool) (call : Call) (k n : ℕ) (o : Option Slot) → is_committed (option_map (passed_slot clear call k n) o) ≡ is_committed o || commits_live (commits n call) (life_in Datatype o)
kept_committed clear call k n None = and_never (commits n call)
kept_committed clear call k n (Some slot) = ap (λ (s : Slot). s.committed) (passed_flat clear call k n slot)

-- ---- the table after a call that makes no handle

changes_at : (f : ℕ → Slot → Slot) (old new : List Slot) → Changes f old new → (i : ℕ) (o : Option Slot) → slice_get old i ≡ o → slice_get new i ≡ option_map (f (64 + i)) o
changes_at f old new changes i (Some slot) e = changes.each i slot e
changes_at f old new changes i None e =
    elim (cases_lt i (length old)) [
      | inl within ↦ absurd (none-some (get_or old i any) (sym e ∙ slice_get-get_or old i any within))
      | inr past ↦ slice_get_past new i (omega (arith, changes.size))
    ]
  where
    any : Slot
    any = record { class = Datatype; made = 0; freed = None; committed = false; persistent = false; start = None }

slot_after : (f : ℕ → Slot → Slot) (old new : List Slot) → Changes f old new → (number : ℕ) → slot_of new number ≡ option_map (f number) (slot_of old number)
slot_after f old new changes number =
    elim (cases_lt number 64) [
      | inl low ↦ ap (λ b. cond {A = Option Slot} b (slice_get new (number - 64)) None) (lt-leb 64 number low) ∙ ap (λ b. option_map (f number) (cond {A = Option Slot} b (slice_get old (number - 64)) None)) (sym (lt-leb 64 number low))
      | inr high ↦
          let i = number - 64 in
          let n : 64 + i ≡ number = omega arith in
          ap (λ b. cond {A = Option Slot} b (slice_get new i) None) (le-leb 64 number high)
          ∙ changes_at f old new changes i (slice_get old i) refl
          ∙ ap (λ m. option_map (f m) (slice_get old i)) n
          ∙ ap (λ b. option_map (f number) (cond {A = Option Slot} b (slice_get old i) None)) (sym (le-leb 64 number high))
    ]

state_after : (k : ℕ) (q e f : Bool) (b : Bool) (l : Life) → cond b Predefined (next_life k false (e || (not q && f)) l) ≡ next_life k false (e || (not (cond b false q) && f)) (cond b Predefined l)
state_after k q e f true l = refl
state_after k q e f false l = refl

kept_after : (q e f p : Bool) (b : Bool) (l : Life) → cond b false (next_kept false p (e || (not q && f)) l q) ≡ next_kept false p (e || (not (cond b false q) && f)) (cond b Predefined l) (cond b false q)
kept_after q e f p true l = refl
kept_after q e f p false l = refl

no_copy : (number : ℕ) (call : Call) → makes Datatype number call ≡ false → copies number call ≡ None
unfolding copies
no_copy number call e = ap (λ (b : Bool). cond {A = Option ℕ} b (copied_of call.body) None) e

regroup : (pre c m : Bool) (l : Life) → pre || (c || commits_live m l) ≡ (pre || c) || (commits_live m (cond pre Predefined l) || false)
regroup true c m l = refl
regroup false true m l = refl
regroup false false m l = sym (or_false (commits_live m l))

-- MPI names no request
none_named : (number : ℕ) → is_predefined Request number ≡ false
unfolding is_predefined
none_named zero = refl
none_named (suc n) = ap (λ (b : Bool). nat_le 1 (suc n) && b) (lt-leb (suc n) 0 (omega arith)) ∙ sym (and_never (nat_le 1 (suc n)))

-- what the table tells of requests, without asking what MPI names
request_state : (slots : List Slot) (number : ℕ) → state_in slots Request number ≡ life_in Request (slot_of slots number)
request_state slots number = ap (λ (b : Bool). cond b Predefined (life_in Request (slot_of slots number))) (none_named number)

request_kept : (slots : List Slot) (number : ℕ) → kept_in slots Request number ≡ kept_slot Request (slot_of slots number)
request_kept slots number = ap (λ (b : Bool). cond b false (kept_slot Request (slot_of slots number))) (none_named number)

pub stands_passed : (is_clear : Clearness) (clear : Bool) (call : Call) (k : ℕ) (calls : List Call) (old new : List Slot) → length calls ≡ k → TellsClear is_clear calls call clear → made_by call ≡ None → Changes (passed_slot clear call k) old new
    → Stands is_clear old calls → Stands is_clear new (calls ++ call ∷ [])
stands_passed is_clear clear call k calls old new is told none changes stands = record {
  count = changes.size ∙ stands.count ∙ omega (arith, made_count_more calls call, ap made_now none);
  lives = λ class number.
      let o = slot_of old number in
      let pre = is_predefined class number in
      ap (λ (p : Option Slot). cond pre Predefined (life_in class p)) (slot_after (passed_slot clear call k) old new changes number)
      ∙ ap (λ (l : Life). cond pre Predefined l) (kept_life clear call k number class o)
      ∙ state_after k (kept_slot class o) (frees class number call) (completes class number call) pre (life_in class o)
      ∙ ap (λ (q : Bool). next_life k false (ends q class number call) (state_in old class number)) (stands.keeps class number)
      ∙ ap (λ (l : Life). next_life k false (ends (is_kept calls class number) class number call) l) (stands.lives class number)
      ∙ ap (λ (b : Bool). next_life k b (ends (is_kept calls class number) class number call) (life calls class number)) (sym (no_one class number call none))
      ∙ ap (λ n. next_life n (makes class number call) (ends (is_kept calls class number) class number call) (life calls class number)) (sym is)
      ∙ sym (life_more calls call class number);
  keeps = λ class number.
      let o = slot_of old number in
      let pre = is_predefined class number in
      ap (λ (p : Option Slot). cond pre false (kept_slot class p)) (slot_after (passed_slot clear call k) old new changes number)
      ∙ ap (λ (b : Bool). cond pre false b) (kept_keeps clear call k number class o)
      ∙ kept_after (kept_slot class o) (frees class number call) (completes class number call) (persists call) pre (life_in class o)
      ∙ ap (λ (q : Bool). next_kept false (persists call) (ends q class number call) (state_in old class number) q) (stands.keeps class number)
      ∙ ap (λ (l : Life). next_kept false (persists call) (ends (is_kept calls class number) class number call) l (is_kept calls class number)) (stands.lives class number)
      ∙ ap (λ (b : Bool). next_kept b (persists call) (ends (is_kept calls class number) class number call) (life calls class number) (is_kept calls class number)) (sym (no_one class number call none))
      ∙ sym (kept_more calls call class number);
  starts = λ number.
      let o = slot_of old number in
      let q = is_kept calls Request number in
      let l = life calls Request number in
      let named = clear && is_in (started_of call.body) number in
      ap start_slot (slot_after (passed_slot clear call k) old new changes number)
      ∙ kept_starts clear call k number o
      ∙ ap (λ (b : Bool). next_start k false (persists call) (ends b Request number call) (completes Request number call) named (life_in Request o) (start_slot o)) (sym (request_kept old number) ∙ stands.keeps Request number)
      ∙ ap (λ (x : Life). next_start k false (persists call) (ends q Request number call) (completes Request number call) named x (start_slot o)) (sym (request_state old number) ∙ stands.lives Request number)
      ∙ ap (λ (s : Option ℕ). next_start k false (persists call) (ends q Request number call) (completes Request number call) named l s) (stands.starts number)
      ∙ ap (λ (b : Bool). next_start k false (persists call) (ends q Request number call) (completes Request number call) b l (start_of is_clear calls number)) (names_told is_clear calls call clear number told)
      ∙ ap (λ (b : Bool). next_start k b (persists call) (ends q Request number call) (completes Request number call) (names_to_start is_clear calls call number) l (start_of is_clear calls number)) (sym (no_one Request number call none))
      ∙ ap (λ n. next_start n (makes Request number call) (persists call) (ends q Request number call) (completes Request number call) (names_to_start is_clear calls call number) l (start_of is_clear calls number)) (sym is)
      ∙ sym (start_more is_clear calls call number);
  commits = λ number.
      let o = slot_of old number in
      ap (λ (p : Option Slot). is_predefined Datatype number || is_committed p) (slot_after (passed_slot clear call k) old new changes number)
      ∙ ap (λ (b : Bool). is_predefined Datatype number || b) (kept_committed clear call k number o)
      ∙ regroup (is_predefined Datatype number) (is_committed o) (commits number call) (life_in Datatype o)
      ∙ ap (λ (b : Bool). b || (commits_live (commits number call) (state_in old Datatype number) || false)) (stands.commits number)
      ∙ ap (λ (l : Life). committed calls number || (commits_live (commits number call) l || false)) (stands.lives Datatype number)
      ∙ ap (λ (p : Option ℕ). committed calls number || (commits_live (commits number call) (life calls Datatype number) || copies_committed (committed calls) p)) (sym (no_copy number call (no_one Datatype number call none)))
      ∙ sym (committed_more calls call number);
}

-- ---- the table after a call that makes a handle

push_same : (xs : List Slot) (x : Slot) → slice_get (xs ++ x ∷ []) (length xs) ≡ Some x
push_same [] x = refl
push_same (y ∷ ys) x = push_same ys x

push_other : (xs : List Slot) (x : Slot) (i : ℕ) → (i ≡ length xs → ⊥) → slice_get (xs ++ x ∷ []) i ≡ slice_get xs i
push_other [] x zero other = absurd (other refl)
push_other [] x (suc i) other = refl
push_other (y ∷ ys) x zero other = refl
push_other (y ∷ ys) x (suc i) other = push_other ys x i (λ e. other (ap suc e))

slot_high : (slots : List Slot) (number : ℕ) → 64 ≤ number → slot_of slots number ≡ slice_get slots (number - 64)
slot_high slots number high = ap (λ b. cond {A = Option Slot} b (slice_get slots (number - 64)) None) (le-leb 64 number high)

slot_low : (slots : List Slot) (number : ℕ) → number < 64 → slot_of slots number ≡ None
slot_low slots number low = ap (λ b. cond {A = Option Slot} b (slice_get slots (number - 64)) None) (lt-leb 64 number low)

slot_new : (slots : List Slot) (s : Slot) (number : ℕ) → number ≡ 64 + length slots → slot_of (slots ++ s ∷ []) number ≡ Some s
slot_new slots s number e = slot_high (slots ++ s ∷ []) number (omega arith) ∙ ap (λ i. slice_get (slots ++ s ∷ []) i) (let i : number - 64 ≡ length slots = omega arith in i) ∙ push_same slots s

slot_past : (slots : List Slot) (number : ℕ) → number ≡ 64 + length slots → slot_of slots number ≡ None
slot_past slots number e = slot_high slots number (omega arith) ∙ slice_get_past slots (number - 64) (omega arith)

slot_other : (slots : List Slot) (s : Slot) (number : ℕ) → (number ≡ 64 + length slots → ⊥) → slot_of (slots ++ s ∷ []) number ≡ slot_of slots number
slot_other slots s number other =
    elim (cases_lt number 64) [
      | inl low ↦ slot_low (slots ++ s ∷ []) number low ∙ sym (slot_low slots number low)
      | inr high ↦ slot_high (slots ++ s ∷ []) number high ∙ push_other slots s (number - 64) (λ e. other (omega arith)) ∙ sym (slot_high slots number high)
    ]

nothing : (k : ℕ) (l : Life) → l ≡ next_life k false false l
nothing k Never = refl
nothing k (Live made) = refl
nothing k (Freed made freed) = refl
nothing k Predefined = refl

made_life : (k : ℕ) (pre same : Bool) (e : Bool) → cond pre Predefined (cond same (Live k) Never) ≡ next_life k (same && true) e (cond pre Predefined Never)
made_life k true same e = refl
made_life k false true e = refl
made_life k false false e = refl

fresh_commits : (pre x : Bool) → pre || x ≡ (pre || false) || (false || x)
fresh_commits true x = refl
fresh_commits false x = refl

same_copies : (p q : ℕ → Bool) (o : Option ℕ) → ((n : ℕ) → p n ≡ q n) → copies_committed p o ≡ copies_committed q o
same_copies p q None f = refl
same_copies p q (Some n) f = f n

-- that a call makes this handle, by the handle that it makes
makes_by : (call : Call) (class own : Class) (number n : ℕ) (b : Bool) → made_by call ≡ Some (own, n) → (n == number) ≡ b → makes class number call ≡ same_class own class && b
makes_by call class own number n b e f = ap (λ (o : Option ClassedHandle). is_handle class number o) e ∙ ap (λ (x : Bool). same_class own class && x) f

made_kept : (pre same p e q : Bool) → cond pre false ((same && true) && p) ≡ next_kept (same && true) p e (cond pre Predefined Never) q
made_kept true same p e q = refl
made_kept false same p e q = refl

made_start : (k : ℕ) (same p : Bool) → cond (same && true) (only_if (not p) k) None ≡ only_if ((same && true) && not p) k
made_start k true p = refl
made_start k false p = refl

makes_new : (call : Call) (own class : Class) (slots : List Slot) (number : ℕ) → made_by call ≡ Some (own, 64 + length slots) → number ≡ 64 + length slots → same_class own class && true ≡ makes class number call
makes_new call own class slots number e is = sym (makes_by call class own number (64 + length slots) true e (eq-eqb (64 + length slots) number (sym is)))

makes_other : (call : Call) (own class : Class) (slots : List Slot) (number : ℕ) → made_by call ≡ Some (own, 64 + length slots) → (number ≡ 64 + length slots → ⊥) → false ≡ makes class number call
makes_other call own class slots number e other = sym (makes_by call class own number (64 + length slots) false e (ne_eqb (64 + length slots) number (λ x. other (sym x))) ∙ sym (and_never (same_class own class)))

-- nothing stands yet at the next number
past_state : (slots : List Slot) (class : Class) (number : ℕ) → number ≡ 64 + length slots → cond (is_predefined class number) Predefined Never ≡ state_in slots class number
past_state slots class number is = ap (λ (o : Option Slot). cond (is_predefined class number) Predefined (life_in class o)) (sym (slot_past slots number is))

lives_new : (is_clear : Clearness) (call : Call) (k : ℕ) (calls : List Call) (slots : List Slot) (own : Class) → made_by call ≡ Some (own, 64 + length slots) → Stands is_clear slots calls
    → (class : Class) (number : ℕ) → number ≡ 64 + length slots
    → state_in (slots ++ fresh slots k call own ∷ []) class number ≡ next_life k (makes class number call) (ends (is_kept calls class number) class number call) (life calls class number)
lives_new is_clear call k calls slots own e stands class number is =
    let d = ends (is_kept calls class number) class number call in
    ap (λ (o : Option Slot). cond (is_predefined class number) Predefined (life_in class o)) (slot_new slots (fresh slots k call own) number is)
    ∙ made_life k (is_predefined class number) (same_class own class) d
    ∙ ap (λ (b : Bool). next_life k b d (cond (is_predefined class number) Predefined Never)) (makes_new call own class slots number e is)
    ∙ ap (λ (l : Life). next_life k (makes class number call) d l) (past_state slots class number is ∙ stands.lives class number)

lives_other : (is_clear : Clearness) (call : Call) (k : ℕ) (calls : List Call) (slots : List Slot) (own : Class) (s : Slot) → made_by call ≡ Some (own, 64 + length slots) → Stands is_clear slots calls
    → (class : Class) (number : ℕ) → (number ≡ 64 + length slots → ⊥)
    → state_in (slots ++ s ∷ []) class number ≡ next_life k (makes class number call) (ends (is_kept calls class number) class number call) (life calls class number)
lives_other is_clear call k calls slots own s e stands class number other =
    ap (λ (o : Option Slot). cond (is_predefined class number) Predefined (life_in class o)) (slot_other slots s number other)
    ∙ stands.lives class number
    ∙ nothing k (life calls class number)
    ∙ ap (λ (b : Bool). next_life k b false (life calls class number)) (makes_other call own class slots number e other)
    ∙ ap (λ (b : Bool). next_life k (makes class number call) b (life calls class number)) (sym (made_ends call (own, 64 + length slots) (is_kept calls class number) class number e))

keeps_new : (is_clear : Clearness) (call : Call) (k : ℕ) (calls : List Call) (slots : List Slot) (own : Class) → made_by call ≡ Some (own, 64 + length slots) → Stands is_clear slots calls
    → (class : Class) (number : ℕ) → number ≡ 64 + length slots → kept_in (slots ++ fresh slots k call own ∷ []) class number ≡ is_kept (calls ++ call ∷ []) class number
keeps_new is_clear call k calls slots own e stands class number is =
    let q = is_kept calls class number in
    let d = ends q class number call in
    ap (λ (o : Option Slot). cond (is_predefined class number) false (kept_slot class o)) (slot_new slots (fresh slots k call own) number is)
    ∙ made_kept (is_predefined class number) (same_class own class) (persists call) d q
    ∙ ap (λ (b : Bool). next_kept b (persists call) d (cond (is_predefined class number) Predefined Never) q) (makes_new call own class slots number e is)
    ∙ ap (λ (l : Life). next_kept (makes class number call) (persists call) d l q) (past_state slots class number is ∙ stands.lives class number)
    ∙ sym (kept_more calls call class number)

keeps_other : (is_clear : Clearness) (call : Call) (calls : List Call) (slots : List Slot) (own : Class) (s : Slot) → made_by call ≡ Some (own, 64 + length slots) → Stands is_clear slots calls
    → (class : Class) (number : ℕ) → (number ≡ 64 + length slots → ⊥) → kept_in (slots ++ s ∷ []) class number ≡ is_kept (calls ++ call ∷ []) class number
keeps_other is_clear call calls slots own s e stands class number other =
    let q = is_kept calls class number in
    ap (λ (o : Option Slot). cond (is_predefined class number) false (kept_slot class o)) (slot_other slots s number other)
    ∙ stands.keeps class number
    ∙ kept_same calls class number (persists call)
    ∙ ap (λ (b : Bool). next_kept b (persists call) false (life calls class number) q) (makes_other call own class slots number e other)
    ∙ ap (λ (b : Bool). next_kept (makes class number call) (persists call) b (life calls class number) q) (sym (made_ends call (own, 64 + length slots) q class number e))
    ∙ sym (kept_more calls call class number)

starts_new : (is_clear : Clearness) (call : Call) (k : ℕ) (calls : List Call) (slots : List Slot) (own : Class) → length calls ≡ k → made_by call ≡ Some (own, 64 + length slots) → Stands is_clear slots calls
    → (number : ℕ) → number ≡ 64 + length slots → start_in (slots ++ fresh slots k call own ∷ []) number ≡ start_of is_clear (calls ++ call ∷ []) number
starts_new is_clear call k calls slots own at e stands number is =
    let d = ends (is_kept calls Request number) Request number call in
    let c = completes Request number call in
    let named = names_to_start is_clear calls call number in
    let start = start_of is_clear calls number in
    ap start_slot (slot_new slots (fresh slots k call own) number is)
    ∙ made_start k (same_class own Request) (persists call)
    ∙ ap (λ (b : Bool). next_start k b (persists call) d c named Never start) (makes_new call own Request slots number e is)
    ∙ ap (λ (l : Life). next_start k (makes Request number call) (persists call) d c named l start) (ap (life_in Request) (sym (slot_past slots number is)) ∙ sym (request_state slots number) ∙ stands.lives Request number)
    ∙ ap (λ n. next_start n (makes Request number call) (persists call) d c named (life calls Request number) start) (sym at)
    ∙ sym (start_more is_clear calls call number)

starts_other : (is_clear : Clearness) (call : Call) (calls : List Call) (slots : List Slot) (own : Class) (s : Slot) → made_by call ≡ Some (own, 64 + length slots) → Stands is_clear slots calls
    → (number : ℕ) → (number ≡ 64 + length slots → ⊥) → start_in (slots ++ s ∷ []) number ≡ start_of is_clear (calls ++ call ∷ []) number
starts_other is_clear call calls slots own s e stands number other =
    let k = length calls in
    let q = is_kept calls Request number in
    let l = life calls Request number in
    let start = start_of is_clear calls number in
    let h : ClassedHandle = (own, 64 + length slots) in
    ap start_slot (slot_other slots s number other)
    ∙ stands.starts number
    ∙ start_same is_clear calls number k (persists call)
    ∙ ap (λ (b : Bool). next_start k b (persists call) false false false l start) (makes_other call own Request slots number e other)
    ∙ ap (λ (b : Bool). next_start k (makes Request number call) (persists call) b false false l start) (sym (made_ends call h q Request number e))
    ∙ ap (λ (b : Bool). next_start k (makes Request number call) (persists call) (ends q Request number call) b false l start) (sym (made_completes call h Request number e))
    ∙ ap (λ (b : Bool). next_start k (makes Request number call) (persists call) (ends q Request number call) (completes Request number call) b l start) (sym (made_names is_clear calls call h number e))
    ∙ sym (start_more is_clear calls call number)

commits_new : (is_clear : Clearness) (call : Call) (k : ℕ) (calls : List Call) (slots : List Slot) (own : Class) → made_by call ≡ Some (own, 64 + length slots) → Stands is_clear slots calls
    → (number : ℕ) → number ≡ 64 + length slots → committed_in (slots ++ fresh slots k call own ∷ []) number ≡ committed (calls ++ call ∷ []) number
commits_new is_clear call k calls slots own e stands number is =
    let pre = is_predefined Datatype number in
    ap (λ (o : Option Slot). pre || is_committed o) (slot_new slots (fresh slots k call own) number is)
    ∙ ap (λ n. pre || copies_committed (committed_in slots) (copies n call)) (sym is)
    ∙ ap (λ (b : Bool). pre || b) (same_copies (committed_in slots) (committed calls) (copies number call) stands.commits)
    ∙ fresh_commits pre (copies_committed (committed calls) (copies number call))
    ∙ ap (λ (o : Option Slot). (pre || is_committed o) || (false || copies_committed (committed calls) (copies number call))) (sym (slot_past slots number is))
    ∙ ap (λ (b : Bool). b || (false || copies_committed (committed calls) (copies number call))) (stands.commits number)
    ∙ ap (λ (b : Bool). committed calls number || (commits_live b (life calls Datatype number) || copies_committed (committed calls) (copies number call))) (sym (made_commits call (own, 64 + length slots) number e))
    ∙ sym (committed_more calls call number)

commits_other : (is_clear : Clearness) (call : Call) (calls : List Call) (slots : List Slot) (own : Class) (s : Slot) → made_by call ≡ Some (own, 64 + length slots) → Stands is_clear slots calls
    → (number : ℕ) → (number ≡ 64 + length slots → ⊥) → committed_in (slots ++ s ∷ []) number ≡ committed (calls ++ call ∷ []) number
commits_other is_clear call calls slots own s e stands number other =
    ap (λ (o : Option Slot). is_predefined Datatype number || is_committed o) (slot_other slots s number other)
    ∙ stands.commits number
    ∙ sym (or_false (committed calls number))
    ∙ ap (λ (p : Option ℕ). committed calls number || (false || copies_committed (committed calls) p)) (sym (no_copy number call (sym (makes_other call own Datatype slots number e other))))
    ∙ ap (λ (b : Bool). committed calls number || (commits_live b (life calls Datatype number) || copies_committed (committed calls) (copies number call))) (sym (made_commits call (own, 64 + length slots) number e))
    ∙ sym (committed_more calls call number)

pub stands_made : (is_clear : Clearness) (call : Call) (k : ℕ) (calls : List Call) (slots : List Slot) (own : Class) → length calls ≡ k → made_by call ≡ Some (own, 64 + length slots) → Stands is_clear slots calls
    → Stands is_clear (slots ++ fresh slots k call own ∷ []) (calls ++ call ∷ [])
stands_made is_clear call k calls slots own is e stands =
    let s = fresh slots k call own in
    record {
      count = length-append slots (s ∷ []) ∙ omega (arith, stands.count, made_count_more calls call, ap made_now e);
      lives = λ class number. elim (cases_eq number (64 + length slots)) [
        | inl same ↦ lives_new is_clear call k calls slots own e stands class number same
        | inr other ↦ lives_other is_clear call k calls slots own s e stands class number other
      ] ∙ ap (λ n. next_life n (makes class number call) (ends (is_kept calls class number) class number call) (life calls class number)) (sym is) ∙ sym (life_more calls call class number);
      keeps = λ class number. elim (cases_eq number (64 + length slots)) [
        | inl same ↦ keeps_new is_clear call k calls slots own e stands class number same
        | inr other ↦ keeps_other is_clear call calls slots own s e stands class number other
      ];
      starts = λ number. elim (cases_eq number (64 + length slots)) [
        | inl same ↦ starts_new is_clear call k calls slots own is e stands number same
        | inr other ↦ starts_other is_clear call calls slots own s e stands number other
      ];
      commits = λ number. elim (cases_eq number (64 + length slots)) [
        | inl same ↦ commits_new is_clear call k calls slots own e stands number same
        | inr other ↦ commits_other is_clear call calls slots own s e stands number other
      ];
    }

-- the type that a call copies, by the class of the handle that it makes
pub copies_by : (call : Call) (own : Class) (number : ℕ) → made_by call ≡ Some (own, number) → copies number call ≡ cond (same_class own Datatype) (copied_of call.body) None
unfolding copies
copies_by call own number e =
    ap (λ (b : Bool). cond {A = Option ℕ} b (copied_of call.body) None) (makes_by call Datatype own number number true e (eq-eqb number number refl)) ∙ at (same_class own Datatype)
  where
    at : (b : Bool) → cond {A = Option ℕ} (b && true) (copied_of call.body) None ≡ cond b (copied_of call.body) None
    at true = refl
    at false = refl

pub fresh_by : (call : Call) (k : ℕ) (slots : List Slot) (own : Class) (o start : Option ℕ) (b p : Bool) → o ≡ cond (same_class own Datatype) (copied_of call.body) None → b ≡ copies_committed (committed_in slots) o → p ≡ persists call → start ≡ only_if (not p) k
    → made_by call ≡ Some (own, 64 + length slots) → record { class = own; made = k; freed = None; committed = b; persistent = p; start = start } ≡ fresh slots k call own
fresh_by call k slots own o start b p is c q s e =
    ap (λ (x : Bool). slot_with x p start) (c ∙ ap (copies_committed (committed_in slots)) (is ∙ sym (copies_by call own (64 + length slots) e)))
    ∙ ap (slot_with committed p) s
    ∙ ap (λ (x : Bool). slot_with committed x (only_if (not x) k)) q
  where
    committed : Bool
    committed = copies_committed (committed_in slots) (copies (64 + length slots) call)

    slot_with : Bool → Bool → Option ℕ → Slot
    slot_with committed persistent start = record { class = own; made = k; freed = None; committed = committed; persistent = persistent; start = start }

-- a step of the table, as the code takes it
pub applied_made : (is_clear : Clearness) (call : Call) (k : ℕ) (calls : List Call) (self items seen new : List Slot) (own : Class) (number : ℕ) (s : Slot) → items ≡ self → seen ≡ items → new ≡ items ++ s ∷ []
    → Some (own, number) ≡ made_by call → IsNext self call → (made_by call ≡ Some (own, 64 + length seen) → s ≡ fresh seen k call own) → length calls ≡ k → Stands is_clear self calls → Stands is_clear new (calls ++ call ∷ [])
applied_made is_clear call k calls self items seen new own number s i e n made next fresh_is is stands =
    let here : seen ≡ self = e ∙ i in
    let m : made_by call ≡ Some (own, 64 + length self) = sym made ∙ ap (λ x. Some (own, x)) (next own number (sym made)) in
    let f : s ≡ fresh self k call own = fresh_is (m ∙ ap (λ (t : List Slot). Some (own, 64 + length t)) (sym here)) ∙ ap (λ (t : List Slot). fresh t k call own) here in
    let all : new ≡ self ++ fresh self k call own ∷ [] = n ∙ ap (λ (t : List Slot). t ++ s ∷ []) i ∙ ap (λ (x : Slot). self ++ x ∷ []) f in
    subst (λ (t : List Slot). Stands is_clear t (calls ++ call ∷ [])) (sym all) (stands_made is_clear call k calls self own is m stands)

pub applied_passed : (is_clear : Clearness) (clear : Bool) (call : Call) (k len : ℕ) (calls : List Call) (self items seen new rest : List Slot) → items ≡ self → seen ≡ items → length new ≡ len → None ≡ made_by call
    → Changes (passed_slot clear call k) seen new → length calls ≡ k → TellsClear is_clear calls call clear
    → Stands is_clear self calls → Stands is_clear (take len (new ++ rest)) (calls ++ call ∷ [])
applied_passed is_clear clear call k len calls self items seen new rest i e n none changes is told stands =
    subst (λ (t : List Slot). Stands is_clear t (calls ++ call ∷ [])) (sym (take_at new rest len n))
    (stands_passed is_clear clear call k calls seen new is told (sym none) changes (subst (λ (t : List Slot). Stands is_clear t calls) (sym (e ∙ i)) stands))

-- ---- the condition of a step

next_told : (slots : List Slot) (call : Call) (o : Option ClassedHandle) → o ≡ made_by call → next_by o (64 + length slots) ≡ true → IsNext slots call
next_told slots call None e h = λ class number is. absurd (none-some (class, number) (e ∙ is))
next_told slots call (Some (own, n)) e h = λ class number is. sym (same (own, n) (class, number) (e ∙ is)) ∙ eqb-true n (64 + length slots) h
  where
    same : (a b : ClassedHandle) → Some a ≡ Some b → a.1 ≡ b.1
    same a b f = let g : a ≡ b = cc in ap (λ (x : ClassedHandle). x.1) g

pub next_seen : (slots : List Slot) (call : Call) (o : Option ClassedHandle) (n : ℕ) (b : Bool) → o ≡ made_by call → n ≡ 64 + length slots → b ≡ next_by o n → b ≡ true → IsNext slots call
next_seen slots call o n b e m is h = next_told slots call o e (ap (next_by o) (sym m) ∙ sym is ∙ h)
