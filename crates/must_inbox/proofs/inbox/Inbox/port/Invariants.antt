use Rattle.must_inbox.proofs.inbox.Inbox.port.Given as goal

abbrev pub ghosts-port_at : goal.ghosts-port_at
ghosts-port_at a = record { range = a.range }
