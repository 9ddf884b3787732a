use Rattle.std.proofs.Common.{◌≡◌, ℤ, Option, subst}
use Rattle.std.specs.Prelude.{◌⊎◌, ◌↔◌}
use Rattle.std.proofs.lemmas.Int.{to_z-of_z}
use mir.Syntax.{w128}
use Rattle.must_call.specs.declared.place.Place.{Place}
use Rattle.must_find.specs.declared.finding.Finding.{Finding}
use Rattle.must_base.specs.Listing.{Has}
use Rattle.must_args.proofs.Added.{adds_one}
use Rattle.must_args.proofs.adding.add.Goals as goal

pub returns : goal.returns
returns c =
    let found : Option Place → ℤ → Finding = λ s v. record { rank = c.args.at.rank; call = c.args.at.call; rule = c.args.rule; part = c.args.part; see = s; value = v } in
    let added = subst (λ (v : ℤ). (x : Finding) → Has c.add.new.self x ↔ ((x ≡ found c.see_at-see.result v) ⊎ Has c.args.rows.now x)) (to_z-of_z w128 c.args.value c.ranges.value) (c.in_ok-add.ensures.ok) in
    adds_one c.args.at c.args.rows.now c.add.new.self (record { rule = c.args.rule; part = c.args.part; see = c.args.see; value = c.args.value })
    (subst (λ (s : Option Place). (x : Finding) → Has c.add.new.self x ↔ ((x ≡ found s c.args.value) ⊎ Has c.args.rows.now x)) c.see_at-see.ensures added)
