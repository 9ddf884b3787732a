-- What the tables of a rank tell of its messages.
use Rattle.std.proofs.Common.{◌≡◌, ℕ, suc, List, [], ◌∷◌, ◌++◌, length, map, Option, Some, None, refl, sym, ap, ap₂, ◌∙◌, append_assoc}
use Rattle.std.proofs.lemmas.List.{append-nil}
use Rattle.std.proofs.lemmas.List.Concat.{flat_map-append}
use Rattle.std.specs.Option.{option_map}
use Rattle.must_call.specs.declared.body.Body.{Body}
use Rattle.must_call.specs.declared.call.Call.{Call}
use Rattle.must_group.specs.Names.{Name}
use Rattle.must_rules.specs.Rank.{Rank}
use Rattle.must_rules.specs.Communicators.{comm_named, usable_name}
use Rattle.must_find.specs.declared.finding.Finding.{Finding}
use Rattle.must_p2p.specs.declared.item.MsgItem.{MsgItem}
use Rattle.must_coll.specs.declared.item.WaveItem.{WaveItem}
use Rattle.must_entry.specs.declared.entry.Entry.{Entry}
use Rattle.must_entry.specs.Entries.{Waits, row_of, message_of, messages, call_of, need_of}
use Rattle.must_rules.specs.Operations.{Operation}
use Rattle.must_messages.specs.declared.asked.Begun.{Begun}
use Rattle.must_messages.specs.Asking.{AreBegun}
use Rattle.must_messages.specs.MessageItems.{item_seen}
use Rattle.must_messages.specs.Holding.{items_given}
use Rattle.must_hold.specs.Keeping.{GivesLast}
use Rattle.must_needs.specs.Naming.{GivesNeeds}
use Rattle.must_begin.specs.Telling.{IsOn}
use Rattle.must_begin.specs.declared.named.Named.{Named}
use Rattle.must_local.specs.declared.handles.Handles.{Handles}
use Rattle.must_local.specs.Counted.{Counted, name_counted}
use Rattle.must_local.specs.TrafficStands.{GivesEnd}
use Rattle.must_local.specs.HandlesKnown.{name_told, named_as, usable_comm, HandlesStand}
use Rattle.must_local.proofs.Facing.{named_is}

same_number : (a b : ℕ) → Some a ≡ Some b → a ≡ b
same_number a b e = cc

first_of : (a b : ℕ × Name) → Some a ≡ Some b → a.0 ≡ b.0
first_of a b e = ap (λ (p : ℕ × Name). p.0) (let s : a ≡ b = cc in s)

second_of : (a b : ℕ × Name) → Some a ≡ Some b → a.1 ≡ b.1
second_of a b e = ap (λ (p : ℕ × Name). p.1) (let s : a ≡ b = cc in s)

no_pair : (a : ℕ × Name) {P : Type 0} → None ≡ Some a → P
no_pair a e = absurd cc

on_named : (r : Rank) (calls : List Call) (b : Body) (comm : ℕ) (on : Option Named) (known : Option Counted) → option_map name_counted known ≡ usable_name r calls comm → Some comm ≡ comm_named b → name_told on ≡ named_as comm known → IsOn r calls b on
on_named r calls b comm None None named is told = λ other e. ap (usable_name r calls) (same_number other comm (sym e ∙ sym is)) ∙ sym named
on_named r calls b comm None (Some c) named is told = no_pair (comm, c.name) told
on_named r calls b comm (Some on) None named is told = no_pair (on.comm, on.name.now) (sym told)
on_named r calls b comm (Some on) (Some c) named is told =
    let number = first_of (on.comm, on.name.now) (comm, c.name) told in
    let name = second_of (on.comm, on.name.now) (comm, c.name) told in (
      sym is ∙ ap Some (sym number),
      ap (usable_name r calls) number ∙ sym named ∙ ap Some (sym name),
    )

-- the communicator that a call names, by the tables
pub on_told : (r : Rank) (h : Handles) (calls : List Call) (b : Body) (comm : ℕ) (on : Option Named) → HandlesStand r h calls → Some comm ≡ comm_named b → name_told on ≡ named_as comm (usable_comm h comm) → IsOn r calls b on
on_told r h calls b comm on s is told = on_named r calls b comm on (usable_comm h comm) (named_is r h calls comm s) is told

no_number : (a : ℕ) {P : Type 0} → None ≡ Some a → P
no_number a e = absurd cc

pub on_none : (r : Rank) (calls : List Call) (b : Body) → None ≡ comm_named b → IsOn r calls b None
on_none r calls b is = λ comm e. no_number comm (is ∙ e)

-- ---- needs

-- as many are begun as there are operations
pub as_many : (call : ℕ) (begun : List Begun) (ops : List Operation) → AreBegun call begun ops → length begun ≡ length ops
as_many call [] [] are = refl
as_many call (b ∷ begun) (op ∷ ops) are = ap suc (as_many call begun ops are.1)
as_many call [] (op ∷ ops) are = absurd are
as_many call (b ∷ begun) [] are = absurd are

-- what is given when the calls end: messages, and needs behind them
pub end_given : (r : Rank) (calls : List Call) (a b c : List Entry) → GivesLast r calls a b → GivesNeeds r calls b c → GivesEnd r calls a c
end_given r calls a b c last wants =
    let sent : messages (last.more ++ wants.more) ≡ messages last.more =
    flat_map-append message_of last.more wants.more ∙ ap (λ (l : List MsgItem). messages last.more ++ l) wants.items ∙ append-nil (messages last.more) in
    record {
      more = last.more ++ wants.more;
      entries = wants.entries ∙ ap (λ (l : List Entry). l ++ wants.more) last.entries ∙ append_assoc a last.more wants.more;
      gives = record {
        rows = flat_map-append row_of last.more wants.more ∙ ap₂ (λ (k l : List Finding). k ++ l) last.gives.rows wants.rows;
        waves = flat_map-append call_of last.more wants.more ∙ ap₂ (λ (k l : List WaveItem). k ++ l) last.gives.waves wants.waves;
        items = last.gives.items ∙ ap (λ (l : List MsgItem). items_given r calls ++ map item_seen l) (sym sent);
        needs_are = flat_map-append need_of last.more wants.more ∙ ap₂ (λ (k l : List Waits). k ++ l) last.gives.wants wants.needs_are;
      };
    }
