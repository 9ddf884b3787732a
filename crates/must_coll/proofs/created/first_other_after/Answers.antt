use Rattle.std.proofs.Common.{List, ℕ, sym, ap, ◌∙◌}
use Rattle.must_coll.specs.Created.{first_other}
use Rattle.must_coll.proofs.Others.{same_lists, none_from_test}
use Rattle.must_coll.proofs.created.first_other_after.Goals as goal

pub returns : goal.returns
returns c = λ told.
    let none = none_from_test c.first_unlike.result (sym c.is_some.ensures ∙ c.if-is_some.false) in
    let same = same_lists 0 c.args.last.now c.args.own.now (sym c.first_unlike.ensures ∙ none) in
    told ∙ ap (λ (g : List ℕ). first_other c.args.members.now c.args.calls.now g g) same
