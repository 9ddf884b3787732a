-- What a table of operations holds of those of a rank.
use Rattle.std.specs.Prelude.{◌≡◌, ◌≤◌, ◌<◌, ℕ, ℤ, Bool, true, false, ◌||◌, nat_eq, if◌then◌else◌, List, [], ◌∷◌, ◌++◌, length, find, Option, Some, None, option_map, option_and_then, is_some, slice_get}
use Rattle.std.specs.Ordering.{nat_cmp}
use Rattle.std.specs.BTreeMap.{BTreeMap, get}
use Rattle.must_call.specs.declared.status.Status3.{Status3}
use Rattle.must_call.specs.declared.call.Call.{Call}
use Rattle.must_find.specs.declared.rule.Rule.{Rule}
use Rattle.must_find.specs.declared.finding.Finding.{Finding}
use Rattle.must_rules.specs.Rank.{Rank}
use Rattle.must_rules.specs.Answer.{Answer}
use Rattle.std.specs.List.{list_any}
use Rattle.must_rules.specs.Operations.{Message, Operation}
use Rattle.must_rules.specs.Fates.{Completed, Open as StillOpen, fate_of, first_of, own_statuses}
use Rattle.must_rules.specs.Statuses.{asked_to_cancel, contradiction}
use Rattle.must_messages.specs.MessageItems.{item_seen, item_of}
use Rattle.must_messages.specs.Holding.{is_known}
use Rattle.must_hold.specs.declared.held.Pending.{Pending}
use Rattle.must_hold.specs.declared.held.End.{End}
use Rattle.must_hold.specs.declared.held.Held.{Held}
use Rattle.must_hold.specs.declared.held.Held.TheVariants.{Open, Settled}
use Rattle.must_hold.specs.declared.table.Table.{Table}
use Rattle.must_hold.specs.Ended.{IsPending}

-- this is what is held of an operation after these calls
abbrev pub Shows : Rank → List Call → Held → Operation → Type 0
Shows r calls (Open p) op = IsPending p op × (p.cancel ≡ asked_to_cancel calls op) × (fate_of calls op ≡ StillOpen)
Shows r calls (Settled item) op = (is_known calls op ≡ true) × (option_map item_seen item ≡ item_of r calls op)

-- operation n of these is open and done with this request
pub record IsOpenAt (calls : List Call) (ops : List Operation) (request n : ℕ) : Type 0 where
  pub op : Operation
  pub there : slice_get ops n ≡ Some op
  pub request_is : op.request ≡ Some request
  pub is_open : fate_of calls op ≡ StillOpen

-- this is held for number n
pub record IsHeldAt (r : Rank) (calls : List Call) (held : BTreeMap ℕ Held) (n : ℕ) (op : Operation) : Type 0 where
  pub one : Held
  pub there : get nat_cmp held n ≡ Some one
  pub shows : Shows r calls one op

-- these operations are held from number `given` on, and the open ones are found by their requests
pub record Holds (r : Rank) (calls : List Call) (ops : List Operation) (table : Table) : Type 0 where
  pub count : table.count ≡ length ops
  pub few : table.given ≤ length ops
  pub each : (n : ℕ) (op : Operation) → slice_get ops n ≡ Some op → table.given ≤ n → IsHeldAt r calls table.held n op
  pub past : (n : ℕ) → length ops ≤ n → get nat_cmp table.held n ≡ None
  pub before : (n : ℕ) (op : Operation) → slice_get ops n ≡ Some op → n < table.given → is_known calls op ≡ true
  pub sound : (q n : ℕ) → get nat_cmp table.numbers q ≡ Some n → IsOpenAt calls ops q n
  pub whole : (q n : ℕ) → IsOpenAt calls ops q n → get nat_cmp table.numbers q ≡ Some n

-- ---- looked up

abbrev pub pending_in : Option Held → Option Pending
pending_in (Some (Open p)) = Some p
pending_in _ = None

-- what is kept of the open operation of a request
abbrev pub found : Table → (request : ℕ) → Option Pending
found table request = option_and_then (λ n. pending_in (get nat_cmp table.held n)) (get nat_cmp table.numbers request)

-- ---- rows

-- the finding stands at this call and rule, and its part's answer is this
pub record IsOfRule (rank call : ℕ) (rule : Rule) (answers : ℕ → Option Answer) (f : Finding) : Type 0 where
  pub rank_is : f.rank ≡ rank
  pub call_is : f.call ≡ call
  pub rule_is : f.rule ≡ rule
  pub gives : answers f.part ≡ Some (f.see, f.value)

-- ---- while a call ends operations

-- the same of an operation while a call ends those of these requests
abbrev pub ShowsWhile : Rank → List Call → Call → (done : ℕ → Bool) → Held → Operation → Type 0
ShowsWhile r calls call done (Open p) op = Shows r calls (Open p) op × ((q : ℕ) → op.request ≡ Some q → done q ≡ false)
ShowsWhile r calls call done (Settled item) op = Shows r (calls ++ call ∷ []) (Settled item) op × ((q : ℕ) → op.request ≡ Some q → done q ≡ false → is_known calls op ≡ true)

pub record IsHeldWhile (r : Rank) (calls : List Call) (call : Call) (done : ℕ → Bool) (held : BTreeMap ℕ Held) (n : ℕ) (op : Operation) : Type 0 where
  pub one : Held
  pub there : get nat_cmp held n ≡ Some one
  pub shows : ShowsWhile r calls call done one op

pub record HoldsWhile (r : Rank) (calls : List Call) (call : Call) (done : ℕ → Bool) (ops : List Operation) (table : Table) : Type 0 where
  pub count : table.count ≡ length ops
  pub few : table.given ≤ length ops
  pub each : (n : ℕ) (op : Operation) → slice_get ops n ≡ Some op → table.given ≤ n → IsHeldWhile r calls call done table.held n op
  pub past : (n : ℕ) → length ops ≤ n → get nat_cmp table.held n ≡ None
  pub before : (n : ℕ) (op : Operation) → slice_get ops n ≡ Some op → n < table.given → is_known calls op ≡ true
  pub sound : (q n : ℕ) → get nat_cmp table.numbers q ≡ Some n → IsOpenAt calls ops q n × (done q ≡ false)
  pub whole : (q n : ℕ) → IsOpenAt calls ops q n → done q ≡ false → get nat_cmp table.numbers q ≡ Some n

-- ---- what a call begins

-- an operation that is done in call k ended so
pub record EndsHere (tag_ub : ℤ) (k : ℕ) (m : Message) (call : Call) (end : End) : Type 0 where
  pub status : end.status ≡ first_of (own_statuses m.action call)
  pub done : end.done ≡ Some k
  pub breaks : end.breaks ≡ list_any (λ status. is_some (contradiction tag_ub m false status)) (own_statuses m.action call)

-- no open operation of these has its request
abbrev pub IsNew : List Call → List Operation → Operation → Type 0
IsNew calls ops op = (q m : ℕ) → op.request ≡ Some q → IsOpenAt calls ops q m → ⊥

-- an operation with this request is done in its call
abbrev pub is_done : Option ℕ → (returned : Bool) → Bool
is_done None returned = returned
is_done (Some request) returned = false
