use Rattle.std.proofs.Common.{ℕ, ◌%◌, ◌==◌, cond, List, [], ◌∷◌, ◌++◌, sym, ap, ◌∙◌}
use Rattle.must_drill.proofs.Ranges.{mates_more}
use Rattle.must_drill.proofs.calls.mates.Goals as goal

pub loop-mate-preserved : goal.loop-mate-preserved
loop-mate-preserved c = c.in_ok-push_where.ensures ∙ ap (λ (xs : List ℕ). xs ++ cond (c.loop-mate.mate % 2 == c.args.rank % 2) (c.loop-mate.mate ∷ []) []) c.loop-mate.invariant ∙ sym (mates_more c.loop-mate.mate c.args.rank)
