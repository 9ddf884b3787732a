use Rattle.std.proofs.Common.{◌∙◌, codes, sym}
use Rattle.clap.specs.Words.{found_of}
use Rattle.must_words.proofs.Got.{got_text, same_options}
use Rattle.must_words.proofs.matches.options_of.Goals as goal

pub returns : goal.returns
returns c = λ o fs k.
    let rules = sym (got_text (found_of c.args.matches.now) (codes "rules") c.get_str.result c.get_str.ensures) in
    same_options _ o (c.fan_in.ensures ∙ k.fan_in) (c.sends.ensures ∙ k.sends) (rules ∙ k.rules) (c.has_flag.ensures o.csv k.csv) (c.has_flag-2.ensures o.serial k.serial)
