use Rattle.std.proofs.Common.{◌∙◌, ap, ap₂, is_some, subst, sym, true≢false}
use Rattle.std.specs.Prelude.{IfSome}
use Rattle.clap.specs.Words.{HasMatchesOf, app_of, takes}
use Rattle.must_words.proofs.Dumped.{dump_takes}
use Rattle.must_words.proofs.Got.{dumped}
use Rattle.must_words.proofs.command.read_dump.Goals as goal

pub returns-in-Some : goal.returns-in-Some
returns-in-Some c = λ first file is f.
    let app = app_of c.in_ok-command.command in
    let matches = subst (λ o. IfSome o (HasMatchesOf app c.args.words.now)) c.in-Some.is c.in_ok-matches.ensures.matches in
    c.get_str.ensures ∙ dumped app c.args.words.now first file c.in-Some.matches c.in_ok-command.ensures is f matches

pub returns-in-None : goal.returns-in-None
returns-in-None c = λ first file is f.
    absurd (true≢false (sym (c.in_ok-matches.ensures.takes (ap₂ takes c.in_ok-command.ensures is ∙ dump_takes first file f)) ∙ ap is_some c.in-None.is))
