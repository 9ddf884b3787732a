use Rattle.std.proofs.Common.{◌≡◌, ◌-◌, suc, sym, ◌∙◌, arith}
use Rattle.must_words.specs.Asked.{options_asked, taken_asked}
use Rattle.must_words.proofs.Steps.{one_more}
use Rattle.must_words.proofs.command.+check_behind.Goals as goal

pub returns-in-Some : goal.returns-in-Some
returns-in-Some _ c =
    let here : c.args.most ≡ suc (c.args.most - 1) = omega (arith, c.if-most-eq0.false) in
    record {
      check = c.check_behind.ensures.check
          ∙ sym (one_more c.args.most (c.args.most - 1) (options_asked c.args.options) c.args.words.now (taken_asked c.in-Some.more) here
          (sym (rw c.in-Some.is at c.take_option.ensures)));
    }
