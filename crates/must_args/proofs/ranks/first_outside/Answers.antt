use Rattle.std.proofs.Common.{◌≡◌, ℕ, Bool, not, List, Some, None, slice_get, sym, ap, ◌∙◌, nat_eq}
use Rattle.std.specs.Prelude.{filter}
use Rattle.std.specs.Set.{is_member}
use Rattle.must_args.proofs.Firsts.{first_position, first_nowhere}
use Rattle.must_args.proofs.ranks.first_outside.Goals as goal

pub returns-in-Some : goal.returns-in-Some
returns-in-Some c =
    let out : ℕ → Bool = λ member. not (is_member nat_eq c.args.comm.now member) in
    let first : slice_get (filter out c.args.group.now) 0 ≡ Some c.in-Some.rank.now =
    sym (c.in-Some.ensures.value ∙ ap (λ (xs : List ℕ). slice_get xs 0) (c.ranks.ensures.ranks ∙ c.in_ok-outside.ensures)) in
    c.position.ensures ∙ first_position out c.args.group.now c.in-Some.rank.now first

pub returns : goal.returns
returns c =
    let out : ℕ → Bool = λ member. not (is_member nat_eq c.args.comm.now member) in
    let none : slice_get (filter out c.args.group.now) 0 ≡ None =
    sym (c.in-None.ensures.value ∙ ap (λ (xs : List ℕ). slice_get xs 0) (c.ranks.ensures.ranks ∙ c.in_ok-outside.ensures)) in
    first_nowhere out c.args.group.now none
