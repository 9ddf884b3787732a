use Rattle.must_words.proofs.command.+check_behind.Given as goal

abbrev pub decreases-check_behind : goal.decreases-check_behind
decreases-check_behind l = l.most
