use Rattle.std.proofs.Common.{refl, sym, ap, subst, ◌∙◌}
use Rattle.std.specs.Option.{option_to_list}
use Rattle.must_items.specs.CollectiveLists.{IsGivenBy}
use Rattle.must_local.specs.Walks.{WalkState}
use Rattle.std.proofs.Common.{ℕ, List, length}
use Rattle.std.proofs.lemmas.Result.{err_from_is_err_and}
use Rattle.must_call.specs.declared.call.Call.{Call}
use Rattle.must_rules.specs.Limits.{limit_at}
use Rattle.must_entry.specs.declared.batch.Batch.{Batch}
use Rattle.must_local.specs.HandlesKnown.{IsLimitAt}
use Rattle.must_local.specs.Walks.{rank_by, Walks}
use Rattle.must_local.proofs.Facing.{handed_on}
use Rattle.must_local.proofs.Gathered.{put_behind}
use Rattle.must_local.proofs.Walked.{walks_more, entries_with, wave_seen, rows_behind}
use Rattle.must_local.proofs.walk.RankWalk.step.Goals as goal

pub returns-clause-walks : goal.returns-clause-walks
returns-clause-walks c = λ version calls given walks.
    let r = rank_by version c.args.self.now.rank in
    let gives = c.in_ok-take.ensures.gives version calls walks.knows in
    walks_more version c.args.self.now c.take.new.self calls c.args.call.now given _ c.take.new.rows (c.in_ok-take.ensures.knows version calls walks.knows) (c.in_ok-take.ensures.within version calls walks.knows) c.in_ok-take.ensures.rank
    (rows_behind r calls c.args.call.now _ c.take.new.rows (c.in_ok-rows.ensures.rows version calls walks.knows) (c.in_ok-take.ensures.rows version calls walks.knows) c.as_slice.ensures.rises)
    (entries_with r calls c.args.call.now gives.more _ c.take.new.rows (option_to_list c.in_ok-wave.wave) gives.gives (c.in_ok-entries.ensures ∙ put_behind c.new-entries.result.items gives.more _ c.as_slice.result.now c.take.new.rows (option_to_list c.in_ok-wave.wave) c.new-entries.ensures.items gives.entries c.as_slice.ensures.items)
    (wave_seen version _ c.args.self.now c.self.view_is calls c.args.call.now (option_to_list c.in_ok-wave.wave) walks.knows (λ r cs s n. c.in_ok-wave.ensures r cs s refl n)))
    (ap (λ (w : WalkState). w.rank.rank) c.self.view_is) refl c.requires.members walks

pub returns-in_err-take-clause-over : goal.returns-in_err-take-clause-over
returns-in_err-take-clause-over c =
    let p = err_from_is_err_and c.from_residual-in_err-take.result c.from_residual-in_err-take.ensures.1 in
    let f = c.in_err-take.field-0.0 in
    let call = c.args.call.now in
    handed_on c.from_residual-in_err-take.result p.0 f (λ fault. (version : ℕ) (calls : List Call) (given : List Batch) → Walks version c.args.self.now calls given → IsLimitAt (length calls) (limit_at (rank_by version c.args.self.now.rank) calls call) fault) p.1 p.2
    (λ version calls given walks. c.in_err-take.ensures.over version calls walks.knows)
