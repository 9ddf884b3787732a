use Rattle.clap.specs.Words.{found_of}
use Rattle.must_words.proofs.Got.{got_files, got_no_files}
use Rattle.must_words.proofs.matches.count_files.Goals as goal

pub returns-in-Some : goal.returns-in-Some
returns-in-Some c = got_files (found_of c.args.matches.now) c.in-Some.files c.get_raw.result c.get_raw.ensures c.in-Some.is

pub returns-in-None : goal.returns-in-None
returns-in-None c = got_no_files (found_of c.args.matches.now) c.get_raw.result c.get_raw.ensures c.in-None.is
