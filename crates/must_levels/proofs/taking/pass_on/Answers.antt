use Rattle.std.proofs.Common.{ap, sym, subst, ◌++◌, ◌∷◌, []}
use Rattle.must_entry.specs.declared.range.RankRange.{RankRange}
use Rattle.must_entry.specs.Lawful.{IsLawful}
use Rattle.must_inbox.specs.States.{PortState}
use Rattle.must_levels.proofs.Moves.{moves, handed_so_far, range_stays, stays_same, same_more}
use Rattle.must_levels.proofs.taking.pass_on.Goals as goal

pub returns-in-None-hand_up-clause-port : goal.returns-in-None-hand_up-clause-port
returns-in-None-hand_up-clause-port g c =
    let p = c.requires.passes in
    moves c.args.port.now c.loop.port c.loop.invariant.port (handed_so_far c.args.root c.args.port.now.range c.loop.node p.taken c.loop.port.sent (c.loop.invariant.stands p.taken p.stands) p.lawful)

pub push_batch-requires-clause-lawful : goal.push_batch-requires-clause-lawful
push_batch-requires-clause-lawful g c =
    let p = c.requires.passes in
    subst (λ (r : RankRange). IsLawful r (c.loop.port.sent ++ c.in-Some-hand_up.batch ∷ [])) (sym (range_stays c.args.port.now c.loop.port c.loop.invariant.port))
    (handed_so_far c.args.root c.args.port.now.range c.hand_up.new.self p.taken (c.loop.port.sent ++ c.in-Some-hand_up.batch ∷ []) (c.in-Some-hand_up.ensures c.args.port.now.range c.args.root p.taken c.loop.port.sent (c.loop.invariant.stands p.taken p.stands)) p.lawful)

pub returns-in_err-push_batch-in-Some-hand_up-clause-port : goal.returns-in_err-push_batch-in-Some-hand_up-clause-port
returns-in_err-push_batch-in-Some-hand_up-clause-port g c =
    let p = c.requires.passes in
    let q = c.push_batch.new.port in
    let e = c.in_err-push_batch-in-Some-hand_up.ensures.err in
    let same = same_more c.args.port.now c.loop.port q c.loop.invariant.port (stays_same c.loop.port q e) in
    moves c.args.port.now q same (subst (IsLawful c.args.port.now.range) (sym (ap (λ (s : PortState). s.sent) e)) (handed_so_far c.args.root c.args.port.now.range c.loop.node p.taken c.loop.port.sent (c.loop.invariant.stands p.taken p.stands) p.lawful))
