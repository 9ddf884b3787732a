use Rattle.clap.specs.Words.{found_of}
use Rattle.must_words.proofs.Got.{got_flag}
use Rattle.must_words.proofs.matches.has_flag.Goals as goal

pub returns : goal.returns
returns c = got_flag (found_of c.args.matches.now) c.args.name.now c.get_flag.result c.get_flag.ensures.value c.get_flag.ensures.other
