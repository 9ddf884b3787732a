use Rattle.std.proofs.Common.{◌≡◌, List, length}
use Rattle.std.proofs.lemmas.Result.{err_from_is_err_and}
use Rattle.must_call.specs.declared.call.Call.{Call}
use Rattle.must_rules.specs.Rank.{Rank}
use Rattle.must_rules.specs.PendingOperations.{pending, pending_limit_at}
use Rattle.must_parts.specs.Holding.{AreHeld}
use Rattle.must_parts.specs.Keeping.{part_kept, AreKept}
use Rattle.must_parts.specs.Rows.{IsPendingLimit}
use Rattle.must_parts.specs.Telling.{SeesStarts}
use Rattle.must_parts.proofs.Handing.{handed_on}
use Rattle.must_parts.proofs.Starting.{starting_is, start_rows, start_stands, start_limit, start_over}
use Rattle.must_parts.proofs.start.take_start.Goals as goal

pub returns-clause-rows : goal.returns-clause-rows
returns-clause-rows g c = λ r calls rank len sees kept held.
    start_rows r calls c.args.call.now c.args.at _ c.requires.start len (starting_is r calls c.args.call.now _ _ c.args.clear _ sees c.requires.clear c.started_by.ensures) _ _ rank (c.in_ok-start_requests.ensures.rows (part_kept r calls) (pending r calls) kept held)

pub returns-clause-stands : goal.returns-clause-stands
returns-clause-stands g c = λ r calls len sees kept held.
    start_stands r calls c.args.call.now c.args.at _ c.requires.start len (starting_is r calls c.args.call.now _ _ c.args.clear _ sees c.requires.clear c.started_by.ensures) _ (c.in_ok-start_requests.ensures.stands (part_kept r calls) (pending r calls) kept held)

pub returns-clause-within : goal.returns-clause-within
returns-clause-within g c = λ r calls size len sees kept held.
    start_limit r calls c.args.call.now c.args.at _ c.requires.start len (starting_is r calls c.args.call.now _ _ c.args.clear _ sees c.requires.clear c.started_by.ensures) c.args.size _ size (c.in_ok-start_requests.ensures.within (part_kept r calls) (pending r calls) kept held)

pub returns-in_err-start_requests-clause-over : goal.returns-in_err-start_requests-clause-over
returns-in_err-start_requests-clause-over g c =
    let p = err_from_is_err_and c.from_residual.result c.from_residual.ensures.1 in
    let f = c.in_err-start_requests.field-0.0 in
    handed_on c.from_residual.result p.0 f (λ fault. (r : Rank) (calls : List Call) → r.size ≡ c.args.size → length calls ≡ c.args.at.call → SeesStarts r calls (g.V.View.facts c.args.view.now) (g.V.View.starts c.args.view.now) → AreKept c.args.kept.now r calls → AreHeld c.args.pending.now (pending r calls) → IsPendingLimit (pending_limit_at r calls c.args.call.now) fault) p.1 p.2
    (λ r calls size len sees kept held.
    start_over r calls c.args.call.now c.args.at _ c.requires.start len (starting_is r calls c.args.call.now _ _ c.args.clear _ sees c.requires.clear c.started_by.ensures) c.args.size f size (c.in_err-start_requests.ensures.over (part_kept r calls) (pending r calls) kept held))
