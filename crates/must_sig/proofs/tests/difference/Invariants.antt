use Rattle.must_sig.proofs.tests.difference.Given as goal

abbrev pub ghosts-differing : goal.ghosts-differing
ghosts-differing a = record { name = a.blank.name; parts = a.blank.parts }
