use Rattle.std.proofs.Common.{◌++◌, ◌∷◌, [], ◌<◌, length, refl, ap, ◌∙◌, arith}
use Rattle.must_wait.specs.Dropping.{core_state}
use Rattle.must_wait.specs.Shared.{coded}
use Rattle.must_wait.proofs.Dropped.{watch_push, holder_in}
use Rattle.must_wait.proofs.Watched.{wait_has}
use Rattle.must_wait.proofs.dropping.Dropping.wait.Goals as goal

pub index_mut-requires : goal.index_mut-requires
index_mut-requires c = omega (arith, holder_in c.args.self.now.kept.items c.args.place c.requires.holds, c.requires.ready.kept, c.requires.ready.watches)

pub returns-clause-steps : goal.returns-clause-steps
returns-clause-steps c =
    let inside : c.args.place.rank < length c.args.self.now.watches.items = omega (arith, holder_in c.args.self.now.kept.items c.args.place c.requires.holds, c.requires.ready.kept, c.requires.ready.watches) in
    watch_push (coded c.args.rows.now) (core_state c.args.self.now) c.args.place.rank c.index_mut.result.now _ c.args.watch c.requires.ready inside c.index_mut.ensures.value (c.in_ok-push.ensures.items ∙ ap (λ l. l ++ c.args.watch ∷ []) c.behind-self.view_is)

pub returns-clause-waits : goal.returns-clause-waits
returns-clause-waits c =
    let inside : c.args.place.rank < length c.args.self.now.watches.items = omega (arith, holder_in c.args.self.now.kept.items c.args.place c.requires.holds, c.requires.ready.kept, c.requires.ready.watches) in
    wait_has c.args.self.now.watches.items c.args.place.rank c.args.place.rank _ _ c.args.watch inside refl c.in_ok-push.ensures.items
