-- How calls of a table change it.
use Rattle.std.specs.Prelude.{◌≡◌, ◌≤◌, ◌<◌, ◌+◌, ℕ, suc, Bool, true, false, ◌||◌, ◌&&◌, nat_lt, List, [], ◌∷◌, ◌++◌, map, filter_map, length, drop, Option, Some, None, option_map, option_to_list, is_some, slice_get, reverse}
use Rattle.std.specs.Ordering.{nat_cmp}
use Rattle.std.specs.BTreeMap.{BTreeMap, get}
use Rattle.must_call.specs.declared.call.Call.{Call}
use Rattle.must_p2p.specs.declared.item.MsgItem.{MsgItem}
use Rattle.must_entry.specs.declared.entry.Entry.{Entry}
use Rattle.must_entry.specs.declared.entry.Entry.TheVariants.{Message}
use Rattle.must_rules.specs.Rank.{Rank}
use Rattle.must_messages.specs.declared.asked.Begun.{Begun}
use Rattle.must_messages.specs.Asking.{AreBegun}
use Rattle.must_rules.specs.Operations.{Operation, operations_of}
use Rattle.must_messages.specs.MessageItems.{Item, item_seen, item_of}
use Rattle.must_messages.specs.Holding.{front, is_known}
use Rattle.must_hold.specs.declared.held.Pending.{Pending}
use Rattle.must_hold.specs.declared.held.End.{End}
use Rattle.must_hold.specs.declared.held.Held.{Held}
use Rattle.must_hold.specs.declared.held.Held.TheVariants.{Open, Settled}
use Rattle.must_hold.specs.declared.held.Settling.{Settling}
use Rattle.must_hold.specs.declared.table.Table.{Table}
use Rattle.must_rules.specs.Making.{is_in}
use Rattle.must_rules.specs.Fates.{Open as StillOpen, fate_of}
use Rattle.must_hold.specs.Ended.{IsPending, item_ended, need_ended}
use Rattle.must_hold.specs.Needing.{Tells}
use Rattle.must_hold.specs.Queue.{Holds, IsHeldAt}

-- the later map has this at a key, and at all others what the earlier one has
pub record IsPut {X : Type 0} (key : ℕ) (x : Option X) (old new : BTreeMap ℕ X) : Type 0 where
  pub here : get nat_cmp new key ≡ x
  pub others : (k : ℕ) → (k ≡ key → ⊥) → get nat_cmp new k ≡ get nat_cmp old k

abbrev pub AreSame : {X : Type 0} → (old new : BTreeMap ℕ X) → Type 0
AreSame old new = (k : ℕ) → get nat_cmp new k ≡ get nat_cmp old k

-- no look-up tells a difference
pub record IsAlike (old new : Table) : Type 0 where
  pub count : new.count ≡ old.count
  pub given : new.given ≡ old.given
  pub held : AreSame old.held new.held
  pub numbers : AreSame old.numbers new.numbers

-- the open operation n of a request ended so
pub record Ends (rank request n : ℕ) (p : Pending) (end : End) (settling : Option Settling) (old new : Table) : Type 0 where
  pub item : Option MsgItem
  pub item_is : option_map item_seen item ≡ item_ended rank p end p.asked.deed
  pub settling_is : settling ≡ Some (record { number = n; need = need_ended rank p end })
  pub count : new.count ≡ old.count
  pub given : new.given ≡ old.given
  pub held : IsPut n (Some (Settled item)) old.held new.held
  pub numbers : IsPut request None old.numbers new.numbers

abbrev pub cancelled : Pending → Pending
cancelled p = record { call = p.call; part = p.part; request = p.request; asked = p.asked; cancel = true }

-- a call asks to cancel the open operation n
pub record Cancels (n : ℕ) (p : Pending) (old new : Table) : Type 0 where
  pub count : new.count ≡ old.count
  pub given : new.given ≡ old.given
  pub held : IsPut n (Some (Open (cancelled p))) old.held new.held
  pub numbers : AreSame old.numbers new.numbers

-- what finds it by its request, where it has one
abbrev pub IsNoted : (n : ℕ) → Option ℕ → (old new : BTreeMap ℕ ℕ) → Type 0
IsNoted n None old new = AreSame old new
IsNoted n (Some request) old new = IsPut request (Some n) old new

-- one more operation
pub record Pushes (n : ℕ) (one : Held) (request : Option ℕ) (old new : Table) : Type 0 where
  pub number_is : n ≡ old.count
  pub count : new.count ≡ suc old.count
  pub given : new.given ≡ old.given
  pub held : IsPut old.count (Some one) old.held new.held
  pub numbers : IsNoted old.count request old.numbers new.numbers

-- ---- giving

abbrev pub is_over : Option Held → Bool
is_over (Some (Settled item)) = true
is_over _ = false

-- the next operation is settled
abbrev pub may_give : Table → Bool
may_give t = nat_lt t.given t.count && is_over (get nat_cmp t.held t.given)

pub record GivesOne (item : Option MsgItem) (old new : Table) (before after : List Entry) : Type 0 where
  pub count : new.count ≡ old.count
  pub given : new.given ≡ suc old.given
  pub held : IsPut old.given None old.held new.held
  pub numbers : AreSame old.numbers new.numbers
  pub entries : after ≡ before ++ map Message (option_to_list item)

-- the settled ones up to the first open one are given, and the others held as before
pub record GivesFront (r : Rank) (calls : List Call) (ops : List Operation) (old new : Table) (before after : List Entry) : Type 0 where
  pub items : List MsgItem
  pub entries : after ≡ before ++ map Message items
  pub items_are : map item_seen items ≡ filter_map (item_of r calls) (front (is_known calls) (drop old.given ops))
  pub given : new.given ≡ old.given + length (front (is_known calls) (drop old.given ops))
  pub holds : Holds r calls ops new

-- some of them are given, in order
pub record Giving (r : Rank) (calls : List Call) (ops : List Operation) (old new : Table) (before after : List Entry) : Type 0 where
  pub items : List MsgItem
  pub entries_are : after ≡ before ++ map Message items
  pub items_are : map item_seen items ++ filter_map (item_of r calls) (front (is_known calls) (drop new.given ops)) ≡ filter_map (item_of r calls) (front (is_known calls) (drop old.given ops))
  pub given : new.given + length (front (is_known calls) (drop new.given ops)) ≡ old.given + length (front (is_known calls) (drop old.given ops))
  pub holds : Holds r calls ops new

-- this is how an operation ended: what it gives and needs after these calls
pub record Finishes (r : Rank) (now : List Call) (rank : ℕ) (p : Pending) (end : End) (op : Operation) : Type 0 where
  pub known : is_known now op ≡ true
  pub item : item_ended rank p end p.asked.deed ≡ item_of r now op
  pub need : Tells r now (need_ended rank p end) op

-- the open operations of these requests, which a call ends, ended so
abbrev pub Closes : Rank → List Call → Call → List Operation → (rank : ℕ) → List ℕ → (ℕ → End) → Type 0
Closes r calls call ops rank requests end =
    (q n : ℕ) (p : Pending) (op : Operation) → is_in requests q ≡ true → slice_get ops n ≡ Some op → op.request ≡ Some q → fate_of calls op ≡ StillOpen → IsPending p op
    → Finishes r (calls ++ call ∷ []) rank p (end q) op

-- the same of those that aren't among these
abbrev pub ClosesOthers : Rank → List Call → Call → List Operation → (rank : ℕ) → (done requests : List ℕ) → End → Type 0
ClosesOthers r calls call ops rank done requests end =
    (q n : ℕ) (p : Pending) (op : Operation) → is_in done q ≡ false → is_in requests q ≡ true → slice_get ops n ≡ Some op → op.request ≡ Some q → fate_of calls op ≡ StillOpen → IsPending p op
    → Finishes r (calls ++ call ∷ []) rank p end op

-- how an operation ends that nothing completes
abbrev pub not_done : End
not_done = record { status = None; done = None; breaks = false }

abbrev pub is_either : (first second : List ℕ) → ℕ → Bool
is_either first second q = is_in first q || is_in second q

-- some of the operations that call k begins are held, and these are left, the first of them last
pub record Begins (r : Rank) (now : List Call) (k : ℕ) (given : ℕ) (table : Table) (begun : List Begun) : Type 0 where
  pub ops : List Operation
  pub rest : List Operation
  pub whole : ops ++ rest ≡ operations_of r now
  pub are : AreBegun k (reverse begun) rest
  pub holds : Holds r now ops table
  pub same : table.given ≡ given
  pub few : given ≤ length ops

-- ---- when the calls end

-- the item of an operation as it stands then
abbrev pub item_left : (rank : ℕ) → Option Held → Option Item
item_left rank None = None
item_left rank (Some (Open p)) = item_ended rank p not_done p.asked.deed
item_left rank (Some (Settled item)) = option_map item_seen item

pub record GivesAny (rank : ℕ) (old new : Table) (before after : List Entry) : Type 0 where
  pub item : Option MsgItem
  pub item_is : option_map item_seen item ≡ item_left rank (get nat_cmp old.held old.given)
  pub gives : GivesOne item old new before after

-- some of those that are held are given, and the others held as before
pub record GivingRest (r : Rank) (calls : List Call) (ops : List Operation) (old new : Table) (before after : List Entry) : Type 0 where
  pub items : List MsgItem
  pub entries_are : after ≡ before ++ map Message items
  pub items_are : map item_seen items ++ filter_map (item_of r calls) (drop new.given ops) ≡ filter_map (item_of r calls) (drop old.given ops)
  pub count : new.count ≡ length ops
  pub each : (n : ℕ) (op : Operation) → slice_get ops n ≡ Some op → new.given ≤ n → IsHeldAt r calls new.held n op

-- all are given
pub record GivesAll (r : Rank) (calls : List Call) (ops : List Operation) (old : Table) (before after : List Entry) : Type 0 where
  pub items : List MsgItem
  pub entries_are : after ≡ before ++ map Message items
  pub items_are : map item_seen items ≡ filter_map (item_of r calls) (drop old.given ops)
