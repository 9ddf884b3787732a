use Rattle.std.proofs.Common.{◌≡◌, rules, drop, is_some, true}
use Rattle.must_words.specs.Command.{dump_words}
use Rattle.must_words.proofs.Got.{dump_read}
use Rattle.must_words.proofs.command.dump_words.Goals as goal

pub returns-then-is_dump-clause-dump : goal.returns-then-is_dump-clause-dump
returns-then-is_dump-clause-dump c =
    let canonical : is_some (dump_words (drop 1 c.args.words.now)) ≡ true = search rules in
    dump_read c.read_dump.result c.args.words.now c.in-len1-up.len_at_least canonical c.read_dump.ensures
