use Rattle.std.proofs.Common.{◌∙◌, ℕ, Some, map, sym, ap}
use Rattle.std.specs.Option.{option_copied}
use Rattle.must_wait.specs.Shared.{inner}
use Rattle.must_wait.proofs.CodedRows.{list_place, list_none}
use Rattle.must_wait.proofs.coded.list_way.Goals as goal

pub returns-in-Some : goal.returns-in-Some
returns-in-Some c = ap (λ (r : ℕ). Some (map (inner r) c.in-Some.places.now)) c.ranks.ensures ∙ sym (list_place c.args.rows.now c.args.number c.in-Some.places.now (sym c.list.ensures ∙ ap option_copied c.in-Some.is))

pub returns-in-None : goal.returns-in-None
returns-in-None c = sym (list_none c.args.rows.now c.args.number 0 0 (sym c.list.ensures ∙ ap option_copied c.in-None.is))
