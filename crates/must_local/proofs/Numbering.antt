-- The numbers of made handles, after one call more.
use Rattle.std.proofs.Common.{◌≡◌, ℕ, ◌+◌, List, [], ◌∷◌, ◌++◌, length, Option, Some, None, subst, ap, ◌∙◌, arith}
use Rattle.std.specs.List.{filter_map, cons_option}
use Rattle.must_call.specs.declared.call.Call.{Call}
use Rattle.must_call.specs.Handles.{ClassedHandle}
use Rattle.must_rules.specs.Making.{made_by}
use Rattle.must_rules.specs.Lives.{made_count}
use Rattle.must_rules.specs.LifeLaws.{made_now}
use Rattle.must_rules.specs.Numbered.{IsNumbered, AreNumbered}
use Rattle.must_rules.specs.Starts.{Clearness}
use Rattle.must_handle.specs.Changes.{IsNext}
use Rattle.must_handle.specs.declared.slot.Slot.{Slot}
use Rattle.must_handle.specs.Slots.{Stands}

count_cons : (o : Option ClassedHandle) (hs : List ClassedHandle) → length (cons_option o hs) ≡ made_now o + length hs
count_cons None hs = omega arith
count_cons (Some h) hs = omega arith

numbered_behind : (next : ℕ) (calls : List Call) (call : Call) → AreNumbered next calls → IsNumbered (next + made_count calls) call → AreNumbered next (calls ++ call ∷ [])
unfolding made_count
numbered_behind next [] call all new = (subst (λ (n : ℕ). IsNumbered n call) (let s : next + 0 ≡ next = omega arith in s) new, tt)
numbered_behind next (c ∷ calls) call all new = (
  all.0,
  numbered_behind (next + made_now (made_by c)) calls call all.1
      (subst (λ (n : ℕ). IsNumbered n call)
      (let s : next + length (cons_option (made_by c) (filter_map made_by calls)) ≡ (next + made_now (made_by c)) + length (filter_map made_by calls) = omega (arith, count_cons (made_by c) (filter_map made_by calls)) in s) new),
)

-- a call that makes the next handle of the table
pub numbered_more : (is_clear : Clearness) (slots : List Slot) (calls : List Call) (call : Call) → Stands is_clear slots calls → IsNext slots call → AreNumbered 64 calls → AreNumbered 64 (calls ++ call ∷ [])
numbered_more is_clear slots calls call stands next all = numbered_behind 64 calls call all (λ class number made. next class number made ∙ ap (λ n. 64 + n) stands.count)
