use Rattle.std.proofs.Common.{◌≡◌, ap, ◌∙◌, ℕ, List, nat_eq}
use Rattle.std.specs.List.{IsDistinct}
use Rattle.std.proofs.lemmas.Result.{IfOk-weaker}
use Rattle.must_group.specs.Groups.{difference, excl}
use Rattle.must_group.proofs.Listed.{excl_is}
use Rattle.must_group.proofs.group.Group.excl.Goals as goal

pub returns : goal.returns
returns c =
    let distinct : IsDistinct nat_eq c.args.self.now = rw (← c.self.view_is) c.self.invariant.0 in
    let same = excl_is c.args.self.now c.args.ranks.now distinct c.requires in
    let P : List ℕ → Type 0 = λ g. g ≡ difference c.args.self.now c.in_ok-listed.listed in
    IfOk-weaker c.difference.result P (λ g. g ≡ excl c.args.self.now c.args.ranks.now) (λ g h. h ∙ ap (difference c.args.self.now) c.in_ok-listed.ensures ∙ same) c.difference.ensures
