-- What the operations of a rank need, as it is kept, and rule N1.
use Rattle.std.specs.Prelude.{◌≡◌, ◌⊎◌, ◌&&◌, ℕ, Bool, true, false, pos, if◌then◌else◌, List, [], ◌∷◌, ◌++◌, length, Option, Some, None, slice_get, slice_set, reverse}
use Rattle.must_call.specs.declared.call.Call.{Call}
use Rattle.must_find.specs.declared.rule.Rule.TheVariants.{N1}
use Rattle.must_find.specs.declared.finding.Finding.{Finding}
use Rattle.must_rules.specs.Rank.{Rank}
use Rattle.must_rules.specs.Answer.{Answer, alone}
use Rattle.must_rules.specs.Operations.{Operation, operations_of}
use Rattle.must_rules.specs.Fates.{Fate, Open, fate_of}
use Rattle.must_rules.specs.Statuses.{is_open_wildcard}
use Rattle.must_messages.specs.declared.asked.Begun.{Begun}
use Rattle.must_messages.specs.Asking.{AreBegun}
use Rattle.must_messages.specs.CallNeeds.{operation_need}
use Rattle.must_hold.specs.declared.held.Need.{Need}
use Rattle.must_hold.specs.declared.held.Settling.{Settling}
use Rattle.must_hold.specs.Ended.{need_seen, unmet_at}

abbrev pub unmet_of : List Call → Operation → Option (ℕ × ℕ)
unmet_of calls op = if is_open_wildcard calls op then Some (op.call, op.part) else None

-- this is what an operation needs after these calls
pub record Tells (r : Rank) (calls : List Call) (need : Need) (op : Operation) : Type 0 where
  pub wants : need_seen r.rank need ≡ operation_need r calls op
  pub unmet : unmet_at need ≡ unmet_of calls op

-- this is what these operations need, one by one
pub record HaveNeeds (r : Rank) (calls : List Call) (ops : List Operation) (needs : List Need) : Type 0 where
  pub count : length needs ≡ length ops
  pub each : (n : ℕ) (need : Need) (op : Operation) → slice_get needs n ≡ Some need → slice_get ops n ≡ Some op → Tells r calls need op

abbrev pub with_need : List Need → Option Settling → List Need
with_need needs None = needs
with_need needs (Some s) = slice_set needs s.number s.need

-- ---- while a call ends operations

abbrev pub is_still : Fate → Bool
is_still Open = true
is_still _ = false

abbrev pub is_among : (done : ℕ → Bool) → Option ℕ → Bool
is_among done None = false
is_among done (Some q) = done q

-- it was open, and its request is one of those that were ended by now
abbrev pub ended_now : List Call → (done : ℕ → Bool) → Operation → Bool
ended_now calls done op = is_still (fate_of calls op) && is_among done op.request

-- the same while a call ends the operations of these requests
pub record HaveNeedsWhile (r : Rank) (calls : List Call) (call : Call) (done : ℕ → Bool) (ops : List Operation) (needs : List Need) : Type 0 where
  pub count : length needs ≡ length ops
  pub each : (n : ℕ) (need : Need) (op : Operation) → slice_get needs n ≡ Some need → slice_get ops n ≡ Some op → Tells r (if ended_now calls done op then calls ++ call ∷ [] else calls) need op

-- ---- what a call begins

-- what some of the operations that call k begins need is kept, and these are left, the first of them last
pub record BeginsNeeds (r : Rank) (now : List Call) (k : ℕ) (needs : List Need) (begun : List Begun) : Type 0 where
  pub ops : List Operation
  pub rest : List Operation
  pub whole : ops ++ rest ≡ operations_of r now
  pub are : AreBegun k (reverse begun) rest
  pub have : HaveNeeds r now ops needs

-- ---- rule N1

-- the row of an open wildcard
pub record IsUnmetIn (rank : ℕ) (need : Need) (f : Finding) : Type 0 where
  pub rank_is : f.rank ≡ rank
  pub rule_is : f.rule ≡ N1
  pub place : unmet_at need ≡ Some (f.call, f.part)
  pub answer : (f.see, f.value) ≡ alone (pos 0)

abbrev pub AreUnmetIn : (rank : ℕ) → List Need → Finding → Type 0
AreUnmetIn rank [] f = ⊥
AreUnmetIn rank (need ∷ needs) f = IsUnmetIn rank need f ⊎ AreUnmetIn rank needs f
