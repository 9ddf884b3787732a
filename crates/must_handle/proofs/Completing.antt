-- Requests of a list, completed or started one after the other.
use Rattle.std.proofs.Common.{◌≡◌, ℕ, ◌+◌, ◌<◌, ◌==◌, Bool, true, false, ◌&&◌, ◌||◌, List, [], ◌∷◌, ◌++◌, length, take, get_or, Option, Some, None, refl, sym, ap, subst, ◌∙◌}
use Rattle.std.specs.Prelude.{slice_get}
use Rattle.std.specs.List.{cons_option}
use Rattle.std.specs.Option.{option_to_list}
use Rattle.std.proofs.lemmas.List.{take_more}
use Rattle.std.proofs.lemmas.List.Elements.{filter_map-append}
use Rattle.std.proofs.lemmas.List.Folds.{list_any-append}
use Rattle.must_call.specs.declared.items.Completion.{Completion}
use Rattle.must_call.specs.declared.class.Class.{Class}
use Rattle.must_call.specs.declared.class.Class.TheVariants.{Request}
use Rattle.must_rules.specs.Making.{is_in, same_class, picked}
use Rattle.must_handle.specs.declared.slot.Slot.{Slot}
use Rattle.must_handle.specs.Changes.{Changes, completed, complete_if, complete_one, complete_requests, started, start_if, start_one, start_requests}

-- one change after another
changes_both : (f g h : ℕ → Slot → Slot) (slots mid new : List Slot) → ((n : ℕ) (slot : Slot) → g n (f n slot) ≡ h n slot) → Changes f slots mid → Changes g mid new → Changes h slots new
changes_both f g h slots mid new same first then = record {
  size = then.size ∙ first.size;
  each = λ i slot e. then.each i (f (64 + i) slot) (first.each i slot e) ∙ ap Some (same (64 + i) slot);
}

-- ---- completing

complete_class : (b : Bool) (o : Option ℕ) (k : ℕ) (slot : Slot) → (completed b o k slot).class ≡ slot.class
complete_class true None k slot = refl
complete_class true (Some freed) k slot = refl
complete_class false o k slot = refl

complete_append : (a b c : Bool) (k : ℕ) (class : Class) (made : ℕ) (o : Option ℕ) (committed p : Bool) (s : Option ℕ)
    → complete_if (a && c) k (complete_if (a && b) k (record { class = class; made = made; freed = o; committed = committed; persistent = p; start = s }))
    ≡ complete_if (a && (b || c)) k (record { class = class; made = made; freed = o; committed = committed; persistent = p; start = s })
complete_append false b c k class made o committed p s = refl
complete_append true false c k class made o committed p s = refl
complete_append true true false k class made None committed p s = refl
complete_append true true false k class made (Some f) committed p s = refl
complete_append true true true k class made None committed true s = refl
complete_append true true true k class made None committed false s = refl
complete_append true true true k class made (Some f) committed p s = refl

completes_both : (xs ys : List ℕ) (k n : ℕ) (slot : Slot) → complete_requests ys k n (complete_requests xs k n slot) ≡ complete_requests (xs ++ ys) k n slot
completes_both xs ys k n slot =
    let first = complete_requests xs k n slot in
    ap (λ (c : Class). complete_if (same_class c Request && is_in ys n) k first) (complete_class (same_class slot.class Request && is_in xs n) slot.freed k slot)
    ∙ complete_append (same_class slot.class Request) (is_in xs n) (is_in ys n) k slot.class slot.made slot.freed slot.committed slot.persistent slot.start
    ∙ ap (λ (b : Bool). complete_if (same_class slot.class Request && b) k slot) (sym (list_any-append (λ m. m == n) xs ys))

or_false : (b : Bool) → b ≡ b || false
or_false true = refl
or_false false = refl

-- one request
completed_one : (x k : ℕ) (slots new : List Slot) → Changes (complete_one x k) slots new → Changes (complete_requests (x ∷ []) k) slots new
completed_one x k slots new changes = record {
  size = changes.size;
  each = λ i slot e. changes.each i slot e ∙ ap (λ (b : Bool). Some (complete_if (same_class slot.class Request && b) k slot)) (or_false (x == 64 + i));
}

-- requests more
completed_both : (xs ys : List ℕ) (k : ℕ) (slots mid new : List Slot) → Changes (complete_requests xs k) slots mid → Changes (complete_requests ys k) mid new → Changes (complete_requests (xs ++ ys) k) slots new
completed_both xs ys k slots mid new first then = changes_both (complete_requests xs k) (complete_requests ys k) (complete_requests (xs ++ ys) k) slots mid new (completes_both xs ys k) first then

pub completed_next : (requests : List ℕ) (j k : ℕ) (slots mid new : List Slot) → j < length requests → Changes (complete_requests (take j requests) k) slots mid → Changes (complete_one (get_or requests j 0) k) mid new
    → Changes (complete_requests (take (j + 1) requests) k) slots new
completed_next requests j k slots mid new within first then =
    subst (λ (rs : List ℕ). Changes (complete_requests rs k) slots new) (sym (take_more requests j 0 within)) (completed_both (take j requests) (get_or requests j 0 ∷ []) k slots mid new first (completed_one (get_or requests j 0) k mid new then))

picked_next : (requests : List ℕ) (completions : List Completion) (j : ℕ) (d : Completion) → j < length completions
    → picked requests (take (j + 1) completions) ≡ picked requests (take j completions) ++ option_to_list (slice_get requests (get_or completions j d).index)
picked_next requests completions j d within =
    ap (picked requests) (take_more completions j d within) ∙ filter_map-append (λ c. slice_get requests c.index) (take j completions) (get_or completions j d ∷ [])
    ∙ ap (λ (xs : List ℕ). picked requests (take j completions) ++ xs) (same (slice_get requests (get_or completions j d).index))
  where
    same : (o : Option ℕ) → cons_option o [] ≡ option_to_list o
    same None = refl
    same (Some x) = refl

-- an index more
pub picked_more : (requests : List ℕ) (completions : List Completion) (j k : ℕ) (d : Completion) (slots mid new : List Slot) → j < length completions → Changes (complete_requests (picked requests (take j completions)) k) slots mid
    → Changes (complete_requests (option_to_list (slice_get requests (get_or completions j d).index)) k) mid new → Changes (complete_requests (picked requests (take (j + 1) completions)) k) slots new
picked_more requests completions j k d slots mid new within first then =
    subst (λ (rs : List ℕ). Changes (complete_requests rs k) slots new) (sym (picked_next requests completions j d within))
    (completed_both (picked requests (take j completions)) (option_to_list (slice_get requests (get_or completions j d).index)) k slots mid new first then)

-- ---- starting

start_class : (b : Bool) (o : Option ℕ) (k : ℕ) (slot : Slot) → (started b o k slot).class ≡ slot.class
start_class true None k slot = refl
start_class true (Some start) k slot = refl
start_class false o k slot = refl

start_append : (a b c : Bool) (k : ℕ) (class : Class) (made : ℕ) (o : Option ℕ) (committed p : Bool) (s : Option ℕ)
    → start_if (a && c) k (start_if (a && b) k (record { class = class; made = made; freed = o; committed = committed; persistent = p; start = s }))
    ≡ start_if (a && (b || c)) k (record { class = class; made = made; freed = o; committed = committed; persistent = p; start = s })
start_append false b c k class made o committed p s = refl
start_append true false c k class made o committed p s = refl
start_append true true false k class made o committed p None = refl
start_append true true false k class made o committed p (Some f) = refl
start_append true true true k class made o committed p None = refl
start_append true true true k class made o committed p (Some f) = refl

starts_both : (xs ys : List ℕ) (k n : ℕ) (slot : Slot) → start_requests ys k n (start_requests xs k n slot) ≡ start_requests (xs ++ ys) k n slot
starts_both xs ys k n slot =
    let first = start_requests xs k n slot in
    ap (λ (c : Class). start_if (same_class c Request && is_in ys n) k first) (start_class (same_class slot.class Request && is_in xs n) slot.start k slot)
    ∙ start_append (same_class slot.class Request) (is_in xs n) (is_in ys n) k slot.class slot.made slot.freed slot.committed slot.persistent slot.start
    ∙ ap (λ (b : Bool). start_if (same_class slot.class Request && b) k slot) (sym (list_any-append (λ m. m == n) xs ys))

started_one : (x k : ℕ) (slots new : List Slot) → Changes (start_one x k) slots new → Changes (start_requests (x ∷ []) k) slots new
started_one x k slots new changes = record {
  size = changes.size;
  each = λ i slot e. changes.each i slot e ∙ ap (λ (b : Bool). Some (start_if (same_class slot.class Request && b) k slot)) (or_false (x == 64 + i));
}

pub started_next : (requests : List ℕ) (j k : ℕ) (slots mid new : List Slot) → j < length requests → Changes (start_requests (take j requests) k) slots mid → Changes (start_one (get_or requests j 0) k) mid new
    → Changes (start_requests (take (j + 1) requests) k) slots new
started_next requests j k slots mid new within first then =
    subst (λ (rs : List ℕ). Changes (start_requests rs k) slots new) (sym (take_more requests j 0 within))
    (changes_both (start_requests (take j requests) k) (start_requests (get_or requests j 0 ∷ []) k) (start_requests (take j requests ++ get_or requests j 0 ∷ []) k) slots mid new (starts_both (take j requests) (get_or requests j 0 ∷ []) k) first (started_one (get_or requests j 0) k mid new then))
