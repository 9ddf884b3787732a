use Rattle.std.proofs.Common.{ℕ, List, None, set, sym, subst, arith}
use Rattle.std.proofs.lemmas.List.{get_or-set_same}
use Rattle.must_wait.specs.Dropping.{CoreSteps, core_state}
use Rattle.must_wait.specs.Shared.{coded}
use Rattle.must_wait.proofs.Dropped.{drop_steps}
use Rattle.must_wait.proofs.Kept.{in_kept}
use Rattle.must_wait.proofs.dropping.Dropping.drop_rank.Goals as goal

pub index_mut-requires : goal.index_mut-requires
index_mut-requires c = omega (arith, in_kept c.args.self.now.kept.items c.args.rank c.args.call c.requires.kept)

pub returns-clause-steps : goal.returns-clause-steps
returns-clause-steps c =
    let s = core_state c.args.self.now in
    subst (λ (l : List ℕ). CoreSteps (coded c.args.rows.now) s (record { kept = set s.kept c.args.rank None; watches = s.watches; dropped = l })) (sym c.in_ok-push.ensures.items)
    (drop_steps (coded c.args.rows.now) s c.args.rank c.args.call c.requires.ready c.requires.kept c.requires.free)

pub returns-clause-dropped : goal.returns-clause-dropped
returns-clause-dropped c = get_or-set_same c.args.self.now.kept.items c.args.rank None None (in_kept c.args.self.now.kept.items c.args.rank c.args.call c.requires.kept)
