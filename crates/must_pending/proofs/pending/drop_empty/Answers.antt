use Rattle.std.proofs.Common.{◌≡◌, ◌∙◌, ap, rules, List, length, not, nat_eq}
use Rattle.std.specs.Prelude.{filter}
use Rattle.std.proofs.lemmas.Fn.{filter_same}
use Rattle.must_pending.specs.declared.held.Held.{Held}
use Rattle.must_pending.specs.Groups.{joined}
use Rattle.must_pending.proofs.GroupLaws.{joined_some, not_some}
use Rattle.must_pending.proofs.pending.drop_empty.Goals as goal

pub returns : goal.returns
returns c =
    let kept : c.retain.new.self.items ≡ filter (λ (g : List Held). not (nat_eq (length g) 0)) c.args.groups.now.items = filter_same _ _ _ (λ x b f' k. search rules) _ _ c.retain.ensures.filtered in
    ap joined kept ∙ joined_some (λ (g : List Held). not (nat_eq (length g) 0)) c.args.groups.now.items not_some
