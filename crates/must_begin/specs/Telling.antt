-- What the code tells at a call, and what this stands for.
use Rattle.std.specs.Prelude.{◌≡◌, ℕ, List, Option, Some, None}
use Rattle.must_call.specs.declared.call.Call.{Call}
use Rattle.must_call.specs.declared.body.Body.{Body}
use Rattle.must_type.specs.Tree.{TypeTree}
use Rattle.must_type.specs.Constructs.{natural}
use Rattle.must_group.specs.Names.{Name}
use Rattle.must_sig.specs.Signatures.{signature, expansion}
use Rattle.must_rules.specs.Rank.{Rank}
use Rattle.must_rules.specs.Communicators.{comm_named, usable_name}
use Rattle.must_parts.specs.Matching.{MatchedOption}
use Rattle.must_messages.specs.declared.asked.Asked.{Asked}
use Rattle.must_messages.specs.declared.asked.Begun.{Begun}
use Rattle.must_messages.specs.declared.asked.Deed.{Deed}
use Rattle.must_rules.specs.Operations.{Message, Operation}
use Rattle.must_messages.specs.Asking.{IsAsked, IsBegun}
use Rattle.must_begin.specs.declared.named.Named.{Named}
use Rattle.must_begin.specs.declared.terms.Terms.{Terms}

-- this is the communicator that a call names behind these calls, where that is live and sound
abbrev pub IsOn : Rank → List Call → Body → Option Named → Type 0
IsOn r calls b None = (comm : ℕ) → comm_named b ≡ Some comm → usable_name r calls comm ≡ None
IsOn r calls b (Some on) = (comm_named b ≡ Some on.comm) × (usable_name r calls on.comm ≡ Some on.name.now)

-- one is asked for exactly where there is one
abbrev pub IsAskedOf : Option Asked → Option Message → Type 0
IsAskedOf asked m = MatchedOption IsAsked asked m

abbrev pub IsBegunOf : (call : ℕ) → Option Begun → Option Operation → Type 0
IsBegunOf call begun op = MatchedOption (IsBegun call) begun op

-- this is asked for on a communicator, of elements of a type
pub record HasTerms (deed : Deed) (comm : ℕ) (name : Name) (terms : Terms) (asked : Asked) (t : TypeTree) : Type 0 where
  pub deed_is : asked.deed ≡ deed
  pub comm_is : asked.comm ≡ comm
  pub name_is : asked.name ≡ name
  pub peer_is : asked.peer ≡ terms.peer
  pub tag_is : asked.tag ≡ terms.tag
  pub signature_is : expansion asked.sig ≡ signature t (natural terms.count)
