use Rattle.must_p2p.proofs.judge.fit.Given as goal

abbrev pub ghosts-fit_on : goal.ghosts-fit_on
ghosts-fit_on a = record { name = a.blank.name; parts = a.blank.parts }
