use Rattle.std.proofs.Common.{◌≡◌, refl, sym, ◌∙◌, arith, length, ◌-◌, ◌<◌, get_or}
use Rattle.std.proofs.lemmas.Bool.Decides.{nat_tests}
use Rattle.must_call.specs.declared.basic.Basic.TheVariants.{Char}
use Rattle.must_sig.specs.declared.run.Run.{Run}
use Rattle.must_sig.proofs.Merged.{ends_is, no_end}
use Rattle.must_sig.proofs.runs.ends_with.Goals as goal

abbrev default : Run
default = record { basic = Char; length = 0 }

pub returns-then-is_empty : goal.returns-then-is_empty
returns-then-is_empty c =
    let none : length c.args.runs.now ≡ 0 = grind (arith, nat_tests, c.is_empty.ensures, c.if-is_empty.true) in
    (λ no. cc no, λ ends. absurd (no_end c.args.runs.now c.args.basic none ends))

pub returns : goal.returns
returns c =
    let some : 0 < length c.args.runs.now = grind (arith, nat_tests, c.is_empty.ensures, c.if-is_empty.false) in
    let k = length c.args.runs.now - 1 in
    let is = ends_is c.args.runs.now k c.args.basic default (get_or c.args.runs.now k default) refl (omega (arith, some)) in (
      λ yes. is.0 (sym c.number.ensures ∙ grind (arith, nat_tests, yes) ∙ c.number-2.ensures),
      λ ends. let same : c.number.result ≡ c.number-2.result = c.number.ensures ∙ is.1 ends ∙ sym c.number-2.ensures in grind (arith, nat_tests, same),
    )
