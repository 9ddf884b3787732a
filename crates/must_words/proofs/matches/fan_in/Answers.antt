use Rattle.std.proofs.Common.{◌∙◌, ap, codes, option_map, sym}
use Rattle.std.specs.Prelude.{option_and_then}
use Rattle.clap.specs.Words.{found_of}
use Rattle.must_words.specs.Command.{fan_in_named}
use Rattle.must_words.proofs.Got.{got_text}
use Rattle.must_words.proofs.matches.fan_in.Goals as goal

pub returns-in-Some : goal.returns-in-Some
returns-in-Some c =
    let text = got_text (found_of c.args.matches.now) (codes "fan-in") c.get_str.result c.get_str.ensures in
    c.fan_in_of.ensures ∙ sym (ap (option_and_then fan_in_named) (text ∙ ap (option_map (λ s. s.now)) c.in-Some.is))

pub returns-in-None : goal.returns-in-None
returns-in-None c =
    let text = got_text (found_of c.args.matches.now) (codes "fan-in") c.get_str.result c.get_str.ensures in
    sym (ap (option_and_then fan_in_named) (text ∙ ap (option_map (λ s. s.now)) c.in-None.is))
