use Rattle.std.proofs.Common.{◌≡◌, List, length}
use Rattle.std.proofs.lemmas.Result.{err_from_is_err_and}
use Rattle.must_call.specs.declared.call.Call.{Call}
use Rattle.must_rules.specs.Rank.{Rank}
use Rattle.must_rules.specs.PendingOperations.{pending_limit_at}
use Rattle.must_parts.specs.Rows.{IsPendingLimit}
use Rattle.must_parts.specs.Telling.{Sees}
use Rattle.must_parts.specs.Standing.{Stands}
use Rattle.must_parts.proofs.Keeping.{start_step}
use Rattle.must_parts.proofs.Handing.{handed_on}
use Rattle.must_parts.proofs.buffers.Buffers.take_start.Goals as goal

pub returns-clause-rows : goal.returns-clause-rows
returns-clause-rows g c = λ r calls rank len sees s. c.in_ok-take_start.ensures.rows r calls rank len (record { facts_are = sees.facts_are; starts_are = sees.starts_are }) s.kept s.held

pub returns-clause-stands : goal.returns-clause-stands
returns-clause-stands g c = λ r calls len sees s. record { held = c.in_ok-take_start.ensures.stands r calls len (record { facts_are = sees.facts_are; starts_are = sees.starts_are }) s.kept s.held; kept = start_step r calls c.args.call.now _ c.requires.start s.kept }

pub returns-clause-within : goal.returns-clause-within
returns-clause-within g c = λ r calls size len sees s. c.in_ok-take_start.ensures.within r calls size len (record { facts_are = sees.facts_are; starts_are = sees.starts_are }) s.kept s.held

pub returns-in_err-take_start-clause-over : goal.returns-in_err-take_start-clause-over
returns-in_err-take_start-clause-over g c =
    let p = err_from_is_err_and c.from_residual.result c.from_residual.ensures.1 in
    let f = c.in_err-take_start.field-0.0 in
    handed_on c.from_residual.result p.0 f (λ fault. (r : Rank) (calls : List Call) → r.size ≡ c.args.size → length calls ≡ c.args.at.call → Sees r calls (g.V.View.facts c.args.view.now) (g.V.View.sound c.args.view.now) (g.V.View.starts c.args.view.now) c.args.types.now → Stands r calls c.args.self.now → IsPendingLimit (pending_limit_at r calls c.args.call.now) fault) p.1 p.2
    (λ r calls size len sees s. c.in_err-take_start.ensures.over r calls size len (record { facts_are = sees.facts_are; starts_are = sees.starts_are }) s.kept s.held)
