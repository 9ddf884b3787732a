use Rattle.std.proofs.Common.{◌∙◌, ap, subst, Some}
use Rattle.std.specs.Prelude.{IfSome}
use Rattle.clap.specs.Words.{found_of, rows_of}
use Rattle.clap.specs.declared.parser.matches.ArgMatches.{ArgMatches}
use Rattle.must_words.specs.Readers.{Tells}
use Rattle.must_words.proofs.Got.{files_last, same_check}
use Rattle.must_words.proofs.command.read_check.Goals as goal

pub returns-in-Some : goal.returns-in-Some
returns-in-Some c = record {
  check = λ first rest k is e.
      let tells : Tells k.options k.files (rows_of (found_of c.in-Some.matches)) =
      subst (λ o. IfSome o (λ (m : ArgMatches). Tells k.options k.files (rows_of (found_of m)))) c.in-Some.is (c.in_ok-matches.ensures.tells first rest k is e) in
      ap Some (same_check _ k (c.options_of.ensures k.options k.files tells) (c.files_of.ensures k.files tells.files ∙ files_last c.args.words.now first rest k is e));
}
