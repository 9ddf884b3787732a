use Rattle.std.proofs.Common.{rules, ℤ, ◌++◌, string_bytes, sym, ap, ◌∙◌}
use Rattle.std.specs.Int.{w128}
use Rattle.std.specs.Prelude.{FitsSigned}
use Rattle.std.proofs.lemmas.Int.{to_z-of_z}
use Rattle.must_tools.specs.Dump.{number_text}
use Rattle.must_call.specs.Numbers.{numbers_of}
use Rattle.must_tools.proofs.Lines.{numbers_more, numbers_all}
use Rattle.must_tools.proofs.text.push_numbers.Goals as goal

pub loop-i-preserved : goal.loop-i-preserved
loop-i-preserved c =
    let fits : FitsSigned w128 c.in-Some.number = search rules in
    numbers_more (numbers_of c.args.call.now.body) c.loop-i.i c.in-Some.number (string_bytes c.args.text.now) (string_bytes c.loop-i.text) (string_bytes c.push_number.new.text) (sym c.number.ensures ∙ c.in-Some.is) c.loop-i.invariant
    (c.in_ok-push_number-in-Some.ensures ∙ ap (λ (z : ℤ). string_bytes c.loop-i.text ++ number_text z) (to_z-of_z w128 c.in-Some.number fits))

pub returns-in-None : goal.returns-in-None
returns-in-None c = numbers_all (numbers_of c.args.call.now.body) c.loop-i.i (string_bytes c.args.text.now) (string_bytes c.loop-i.text) (sym c.number.ensures ∙ c.in-None.is) c.loop-i.invariant
