use Rattle.std.proofs.Common.{◌≡◌, drop, is_some, sym, true}
use Rattle.must_words.specs.Command.{check_words, no_options}
use Rattle.must_words.proofs.Got.{behind_first, check_count, check_read}
use Rattle.must_words.proofs.command.check_words.Goals as goal

pub returns-then-is_check-clause-check : goal.returns-then-is_check-clause-check
returns-then-is_check-clause-check c =
    let canonical : is_some (check_words 5 no_options (drop 1 c.args.words.now)) ≡ true =
    sym (rw (behind_first c.args.words.now c.in-len1-up.len_at_least) at c.if-is_check.ensures) in
    check_read c.read_check.result c.args.words.now c.in-len1-up.len_at_least canonical c.read_check.ensures.check

pub returns-then-is_check-clause-count : goal.returns-then-is_check-clause-count
returns-then-is_check-clause-count c =
    let canonical : is_some (check_words 5 no_options (drop 1 c.args.words.now)) ≡ true =
    sym (rw (behind_first c.args.words.now c.in-len1-up.len_at_least) at c.if-is_check.ensures) in
    check_count c.read_check.result c.args.words.now c.in-len1-up.len_at_least canonical c.read_check.ensures.check
