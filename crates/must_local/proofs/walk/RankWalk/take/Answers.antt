use Rattle.std.proofs.Common.{refl, ap, sym, subst, ◌∙◌}
use Rattle.std.proofs.Common.{ℕ, List, length}
use Rattle.std.proofs.lemmas.Result.{err_from_is_err_and}
use Rattle.must_call.specs.declared.call.Call.{Call}
use Rattle.must_rules.specs.Limits.{limit_at}
use Rattle.must_local.specs.HandlesKnown.{IsLimitAt}
use Rattle.must_handle.specs.Changes.{IsNext}
use Rattle.must_local.specs.Walks.{WalkState, rank_by, Knows}
use Rattle.must_local.proofs.Facing.{handed_on}
use Rattle.must_local.proofs.Walked.{knows_seen, limit_seen, late_seen, gives_seen, within_seen, handle_over}
use Rattle.must_local.proofs.walk.RankWalk.take.Goals as goal

pub returns-clause-knows : goal.returns-clause-knows
returns-clause-knows c = λ version calls knows.
    knows_seen version _ c.args.self.now _ _ c.self.view_is calls c.args.call.now c.is_init_call.result c.is_finalize_call.result knows c.is_init_call.ensures c.is_finalize_call.ensures
    refl c.first_of-self-inside.ensures c.first_of-self-inside-2.ensures refl (λ r. c.in_ok-take.ensures.stands r calls) (λ r. c.in_ok-take_buffers.ensures.stands r calls)
    c.in_ok-step.ensures.stands refl refl (subst (λ (w : WalkState). IsNext w.handles.lives c.args.call.now) (sym c.self.view_is) c.requires.next)
    (λ i. record { rank = c.in_ok-take.ensures.told.0 i; size = c.self.inside.size; tag_ub = c.in_ok-take.ensures.told.1 i })

pub returns-clause-rank : goal.returns-clause-rank
returns-clause-rank c = (λ i. record { rank = c.in_ok-take.ensures.told.0 i; size = c.self.inside.size; tag_ub = c.in_ok-take.ensures.told.1 i }) ∙ ap (λ w. w.rank) c.self.view_is

pub returns-clause-rows : goal.returns-clause-rows
returns-clause-rows c = λ version calls knows.
    late_seen version _ c.args.self.now c.self.view_is calls c.args.call.now _ c.args.rows.now c.step.new.rows c.take_buffers.new.rows knows refl refl (subst (λ (w : WalkState). IsNext w.handles.lives c.args.call.now) (sym c.self.view_is) c.requires.next) c.in_ok-step.ensures.rows (λ r. c.in_ok-take_buffers.ensures.rows r calls)

pub returns-clause-gives : goal.returns-clause-gives
returns-clause-gives c = λ version calls knows.
    gives_seen version _ c.args.self.now c.self.view_is calls c.args.call.now _ c.args.entries.now.items _ knows refl refl (subst (λ (w : WalkState). IsNext w.handles.lives c.args.call.now) (sym c.self.view_is) c.requires.next) c.in_ok-step.ensures.gives

pub returns-clause-within : goal.returns-clause-within
returns-clause-within c = λ version calls knows.
    within_seen version _ c.args.self.now c.self.view_is calls c.args.call.now knows (c.in_ok-take_buffers.ensures.within (rank_by version _) calls refl) (c.in_ok-take.ensures.within (rank_by version _) calls)

pub returns-in_err-take-clause-over : goal.returns-in_err-take-clause-over
returns-in_err-take-clause-over c =
    let p = err_from_is_err_and c.from_residual-in_err-take.result c.from_residual-in_err-take.ensures.1 in
    let f = c.in_err-take.field-0.0 in
    let call = c.args.call.now in
    handed_on c.from_residual-in_err-take.result p.0 f (λ fault. (version : ℕ) (calls : List Call) → Knows version c.args.self.now calls → IsLimitAt (length calls) (limit_at (rank_by version c.args.self.now.rank) calls call) fault) p.1 p.2
    (λ version calls knows. limit_seen version _ c.args.self.now c.self.view_is calls call f knows (λ n s b.
    handle_over (rank_by version _) calls call _ f (c.in_ok-take_buffers.ensures.within (rank_by version _) calls refl n s b) (c.in_err-take.ensures.over (rank_by version _) calls s)))

pub returns-in_err-take_buffers-clause-over : goal.returns-in_err-take_buffers-clause-over
returns-in_err-take_buffers-clause-over c =
    let p = err_from_is_err_and c.from_residual-in_err-take_buffers.result c.from_residual-in_err-take_buffers.ensures.1 in
    let f = c.in_err-take_buffers.field-0.0 in
    let call = c.args.call.now in
    handed_on c.from_residual-in_err-take_buffers.result p.0 f (λ fault. (version : ℕ) (calls : List Call) → Knows version c.args.self.now calls → IsLimitAt (length calls) (limit_at (rank_by version c.args.self.now.rank) calls call) fault) p.1 p.2
    (λ version calls knows. limit_seen version _ c.args.self.now c.self.view_is calls call f knows (c.in_err-take_buffers.ensures.over (rank_by version _) calls refl))
