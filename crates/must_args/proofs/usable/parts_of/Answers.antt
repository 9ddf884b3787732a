use Rattle.std.proofs.Common.{ℕ, ◌+◌, List, sym, ap, ◌∙◌}
use Rattle.std.specs.Prelude.{is_some, if◌then◌else◌}
use Rattle.must_call.specs.Values.{Typed}
use Rattle.must_args.specs.Settings.{usable_from}
use Rattle.must_args.proofs.Settled.{usable_there}
use Rattle.must_args.proofs.usable.parts_of.Goals as goal

pub returns-in-Some : goal.returns-in-Some
returns-in-Some g c =
    let facts = g.V.View.facts c.args.view.now in
    let sound = g.V.View.sound c.args.view.now in
    let s = c.args.setting.now in
    let parts : List Typed → ℕ = λ ts. (if usable_from sound s ts 0 ts then 1 else 0) + (if usable_from sound s ts 1 ts then 2 else 0) in
    c.usable_sides.ensures ∙ ap parts c.requires.fields ∙ usable_there facts sound c.args.body.now s c.requires.setting (sym c.requires.clear ∙ c.if-not-clear.false) (ap is_some c.in-Some.is)
