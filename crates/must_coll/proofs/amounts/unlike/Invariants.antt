use Rattle.must_coll.proofs.amounts.unlike.Given as goal

abbrev pub ghosts-counted_difference : goal.ghosts-counted_difference
ghosts-counted_difference a = record { name = a.blank.name; parts = a.blank.parts }
