use Rattle.std.proofs.Common.{refl, sym, subst, ◌∙◌, w32, FitsSigned}
use Rattle.std.proofs.lemmas.Int.{to_z-of_z}
use Rattle.must_hold.proofs.Needs.{nothing_needed}
use Rattle.must_hold.proofs.messages.Messages.new.Goals as goal

pub returns : goal.returns
returns c = λ r rank tag. record { rank_is = rank; tag_is = tag ∙ sym (to_z-of_z w32 c.args.tag_ub c.ranges.tag_ub); tag_fits = subst (FitsSigned w32) (sym (to_z-of_z w32 c.args.tag_ub c.ranges.tag_ub)) c.ranges.tag_ub; number = refl; given_is = c.new-table.ensures.given; holds = c.new-table.ensures.holds r; needs = nothing_needed r c.new.result.items c.new.ensures.items }
