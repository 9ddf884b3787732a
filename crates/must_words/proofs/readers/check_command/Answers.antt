use Rattle.std.proofs.Common.{◌∙◌, ap₂}
use Rattle.clap.specs.Words.{with_rule}
use Rattle.must_words.proofs.readers.check_command.Goals as goal

pub returns : goal.returns
returns c =
    let one = c.in_ok-arg.ensures.shape c.valued.ensures.local ∙ ap₂ with_rule c.bare.ensures c.valued.ensures.rule in
    let two = c.in_ok-arg-2.ensures.shape c.valued-2.ensures.local ∙ ap₂ with_rule one c.valued-2.ensures.rule in
    let three = c.in_ok-arg-3.ensures.shape c.valued-3.ensures.local ∙ ap₂ with_rule two c.valued-3.ensures.rule in
    let four = c.in_ok-arg-4.ensures.shape c.flag.ensures.local ∙ ap₂ with_rule three c.flag.ensures.rule in
    let five = c.in_ok-arg-5.ensures.shape c.flag-2.ensures.local ∙ ap₂ with_rule four c.flag-2.ensures.rule in
    c.in_ok-command.ensures.shape c.files.ensures.local ∙ ap₂ with_rule five c.files.ensures.rule
