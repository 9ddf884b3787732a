use Rattle.std.proofs.Common.{◌∙◌, ap, codes, option_map, sym}
use Rattle.std.specs.Prelude.{option_and_then}
use Rattle.clap.specs.Words.{found_of}
use Rattle.must_settings.specs.RulesFile.{sends_by_name}
use Rattle.must_words.proofs.Got.{got_text}
use Rattle.must_words.proofs.matches.sends.Goals as goal

pub returns-in-Some : goal.returns-in-Some
returns-in-Some c =
    let text = got_text (found_of c.args.matches.now) (codes "sends") c.get_str.result c.get_str.ensures in
    c.sends_named.ensures ∙ sym (ap (option_and_then sends_by_name) (text ∙ ap (option_map (λ s. s.now)) c.in-Some.is))

pub returns-in-None : goal.returns-in-None
returns-in-None c =
    let text = got_text (found_of c.args.matches.now) (codes "sends") c.get_str.result c.get_str.ensures in
    sym (ap (option_and_then sends_by_name) (text ∙ ap (option_map (λ s. s.now)) c.in-None.is))
