use Rattle.std.proofs.Common.{ap, sym, subst, ◌∷◌, ◌++◌, []}
use Rattle.must_entry.specs.Lawful.{IsLawful}
use Rattle.must_inbox.specs.States.{PortState}
use Rattle.must_inbox.proofs.Steps.{sends}
use Rattle.must_inbox.proofs.inbox.Inbox.push.Goals as goal

pub push_as-requires-clause-rule : goal.push_as-requires-clause-rule
push_as-requires-clause-rule g c = λ n. sends _ _ c.port.invariant.sending c.port.invariant.number (subst (λ (s : PortState). IsLawful s.range (s.sent ++ c.args.batch ∷ [])) (sym c.port.view_is) c.requires.lawful) n _
