-- What a match breaks, and what an item without a match does: rules M1 to M4 (docs/MATCHING.md; MPI 3.1, 3.2.4, 3.3.1 and 3.5).
use Rattle.std.specs.Prelude.{ℕ, pos, Option, Some, None}
use Rattle.must_call.specs.declared.place.Place.{Place}
use Rattle.must_find.specs.declared.rule.Rule.TheVariants.{M1, M2, M3, M4}
use Rattle.must_find.specs.declared.finding.Finding.{Finding}
use Rattle.must_sig.specs.Signatures.{Periods, expansion, fit}
use Rattle.must_sig.specs.declared.fit.Fit.{Fit}
use Rattle.must_sig.specs.declared.fit.Fit.TheVariants.{Fits, Differs, TooLong}
use Rattle.must_p2p.specs.declared.side.Side.{Side}
use Rattle.must_p2p.specs.declared.side.Side.TheVariants.{Send, Receive, Probe}
use Rattle.must_p2p.specs.declared.item.MsgItem.{MsgItem}
use Rattle.must_p2p.specs.declared.matched.Matched.{Matched}

-- how what is sent fits what is received
unfoldable pub fit_of : Periods → Periods → Fit
fit_of sent received = fit (expansion sent) (expansion received)

-- M1 and M2 stand at the receive and its part, see the send, and have the first element that is wrong
abbrev pub broken : Fit → (send receive : Place) → (part : ℕ) → Option Finding
broken Fits send receive part = None
broken (Differs at) send receive part = Some (record { rank = receive.rank; call = receive.call; rule = M1; part = part; see = Some send; value = pos at })
broken (TooLong at) send receive part = Some (record { rank = receive.rank; call = receive.call; rule = M2; part = part; see = Some send; value = pos at })

-- what a send and its receive break
abbrev pub match_finding : MsgItem → MsgItem → Option Finding
match_finding s r = broken (fit_of s.sig r.sig) s.place r.place r.part

-- M3 and M4 stand at the item and its part
abbrev pub lone : Side → Place → (part : ℕ) → Option Finding
lone Send place part = Some (record { rank = place.rank; call = place.call; rule = M3; part = part; see = None; value = pos 0 })
lone Receive place part = Some (record { rank = place.rank; call = place.call; rule = M4; part = part; see = None; value = pos 0 })
lone Probe place part = None

-- what an item without a match breaks
abbrev pub lone_finding : MsgItem → Option Finding
lone_finding x = lone x.side x.place x.part

abbrev pub matched : MsgItem → MsgItem → Matched
matched s r = record { send = s.place; send_part = s.part; recv = r.place; recv_part = r.part }

-- the same of a send with its receive
abbrev pub pair_matched : MsgItem × MsgItem → Matched
pair_matched p = matched p.0 p.1

abbrev pub pair_finding : MsgItem × MsgItem → Option Finding
pair_finding p = match_finding p.0 p.1
