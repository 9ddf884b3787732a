-- What the code tells of a message that is asked for and of an operation, and what these stand for (docs/MESSAGES.md, "Operations").
use Rattle.std.specs.Prelude.{◌≡◌, ℕ, List, [], ◌∷◌}
use Rattle.must_sig.specs.Signatures.{expansion}
use Rattle.must_messages.specs.declared.asked.Mode.{Mode}
use Rattle.must_messages.specs.declared.asked.Mode.TheVariants as mode
use Rattle.must_messages.specs.declared.asked.Deed.{Deed}
use Rattle.must_messages.specs.declared.asked.Deed.TheVariants as deed
use Rattle.must_messages.specs.declared.asked.Asked.{Asked}
use Rattle.must_messages.specs.declared.asked.Begun.{Begun}
use Rattle.must_rules.specs.Operations.{SendMode, Standard, Buffered, Synchronous, Ready, Action, Sends, Receives, Probes, Envelope, Message, Operation}
use Rattle.must_messages.specs.MessageItems.{signature_in}

abbrev pub mode_seen : Mode → SendMode
mode_seen mode.Standard = Standard
mode_seen mode.Buffered = Buffered
mode_seen mode.Synchronous = Synchronous
mode_seen mode.Ready = Ready

abbrev pub action_seen : Deed → Action
action_seen (deed.Send mode) = Sends (mode_seen mode)
action_seen deed.Receive = Receives
action_seen deed.Probe = Probes

abbrev pub envelope_seen : Asked → Envelope
envelope_seen asked = record { comm = asked.comm; name = asked.name; peer = asked.peer; tag = asked.tag }

-- this is what is asked for, its signature in whatever form
pub record IsAsked (asked : Asked) (m : Message) : Type 0 where
  pub action_is : m.action ≡ action_seen asked.deed
  pub envelope_is : m.envelope ≡ envelope_seen asked
  pub signature_is : signature_in m.buffer ≡ expansion asked.sig

-- this is an operation that a call begins
pub record IsBegun (call : ℕ) (begun : Begun) (op : Operation) : Type 0 where
  pub call_is : op.call ≡ call
  pub part_is : op.part ≡ begun.part
  pub request_is : op.request ≡ begun.request
  pub asked_is : IsAsked begun.asked op.message

-- these are the operations that a call begins, one by one
abbrev pub AreBegun : (call : ℕ) → List Begun → List Operation → Type 0
AreBegun call [] [] = Unit {0}
AreBegun call (begun ∷ beguns) (op ∷ ops) = IsBegun call begun op × AreBegun call beguns ops
AreBegun call _ _ = ⊥
