-- Matches, and the rows of a list of items: no order of arrival stands in them (docs/MATCHING.md; MPI 3.1, 3.5).
use Rattle.std.specs.Prelude.{◌≡◌, ◌⊎◌, ◌↔◌, List, Option, Some, None}
use Rattle.must_find.specs.declared.finding.Finding.{Finding}
use Rattle.must_base.specs.Listing.{Has}
use Rattle.must_p2p.specs.declared.side.Side.TheVariants.{Send, Receive}
use Rattle.must_p2p.specs.declared.item.MsgItem.{MsgItem}
use Rattle.must_p2p.specs.declared.matched.Matched.{Matched}
use Rattle.must_p2p.specs.Items.{class_of, number}
use Rattle.must_p2p.specs.MessageRules.{match_finding, lone_finding, matched}

-- among these items the send and the receive match: they are of one class and of one number
pub record IsMatch (items : List MsgItem) (s r : MsgItem) : Type 0 where
  pub send_there : Has items s
  pub receive_there : Has items r
  pub sends : s.side ≡ Send
  pub receives : r.side ≡ Receive
  pub one_class : class_of s ≡ class_of r
  pub one_number : number items s ≡ number items r

-- the item is one of the two
abbrev pub IsOneOf : MsgItem → MsgItem → MsgItem → Type 0
IsOneOf x s r = (x ≡ s) ⊎ (x ≡ r)

-- the match that has this item
abbrev pub IsMatchOf : List MsgItem → MsgItem → Option Matched → Type 0
IsMatchOf items x None = (s r : MsgItem) → IsMatch items s r → IsOneOf x s r → ⊥
IsMatchOf items x (Some m) = (s : MsgItem) × (r : MsgItem) × IsMatch items s r × IsOneOf x s r × (m ≡ matched s r)

-- M1 or M2 of the match that has this item
pub record IsRowOf (items : List MsgItem) (x : MsgItem) (f : Finding) : Type 0 where
  pub send : MsgItem
  pub receive : MsgItem
  pub is_match : IsMatch items send receive
  pub is_one : IsOneOf x send receive
  pub gives : match_finding send receive ≡ Some f

-- M1 or M2 of a match
pub record IsMatchRow (items : List MsgItem) (f : Finding) : Type 0 where
  pub send : MsgItem
  pub receive : MsgItem
  pub is_match : IsMatch items send receive
  pub gives : match_finding send receive ≡ Some f

-- no match has this item
abbrev pub IsLone : List MsgItem → MsgItem → Type 0
IsLone items x = (s r : MsgItem) → IsMatch items s r → IsOneOf x s r → ⊥

-- M3 or M4
pub record IsLoneRow (items : List MsgItem) (f : Finding) : Type 0 where
  pub item : MsgItem
  pub there : Has items item
  pub is_lone : IsLone items item
  pub gives : lone_finding item ≡ Some f

-- the rows M1 to M4 of these items
abbrev pub IsMessageRow : List MsgItem → Finding → Type 0
IsMessageRow items f = IsMatchRow items f ⊎ IsLoneRow items f

-- the later list has what the earlier has, and what P tells
abbrev pub Adds : List Finding → List Finding → (Finding → Type 0) → Type 0
Adds old new P = (f : Finding) → Has new f ↔ (Has old f ⊎ P f)
