use Rattle.std.proofs.Common.{◌∙◌, ap₂}
use Rattle.std.proofs.lemmas.Result.{IfOk-weaker}
use Rattle.clap.specs.Words.{app_of, takes}
use Rattle.must_words.proofs.Got.{told}
use Rattle.must_words.proofs.Parsed.{check_takes}
use Rattle.must_words.proofs.command.check_matches.Goals as goal

pub returns-clause-takes : goal.returns-clause-takes
returns-clause-takes c = λ first rest k is e. c.parse.ensures.takes (ap₂ takes c.in_ok-command.ensures is ∙ check_takes first rest k e)

pub returns-clause-tells : goal.returns-clause-tells
returns-clause-tells c = λ first rest k is e.
    IfOk-weaker c.parse.result _ _ (told (app_of c.in_ok-command.command) c.args.words.now first rest k c.in_ok-command.ensures is e) c.parse.ensures.matches
