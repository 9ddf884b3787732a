-- A worked round of a rank that exchanges with a neighbour and then meets its communicator.
use Rattle.std.specs.Prelude.{pos, true, false, List, [], ◌∷◌, Some, refl}
use Rattle.must_type.specs.Maps.{block}
use Rattle.must_call.specs.declared.basic.Basic.TheVariants.{Int, Char}
use Rattle.must_call.specs.declared.frame.Frame.TheVariants.{Init, Finalize}
use Rattle.must_call.specs.declared.point.Point.TheVariants as point
use Rattle.must_call.specs.declared.finish.Finish.TheVariants as finish
use Rattle.must_call.specs.declared.collective.Collective.TheVariants as collective
use Rattle.must_call.specs.declared.derive.Derive.TheVariants as derive
use Rattle.must_call.specs.declared.object.Object.TheVariants as object
use Rattle.must_call.specs.declared.body.Body.TheVariants.{Frame, Point, Finish, Collective, Derive, Object}
use Rattle.must_call.specs.declared.call.Call.{Call}
use Rattle.must_sig.specs.Signatures.{repeated}
use Rattle.must_p2p.specs.declared.side.Side.TheVariants.{Send, Receive}
use Rattle.must_rules.specs.Making.{made_by, persists, frees, completes, commits, copies}
use Rattle.must_rules.specs.Lives.{is_predefined, life, is_kept, committed}
use Rattle.must_rules.specs.Starts.{names_to_start, start_of}
use Rattle.must_rules.specs.Communicators.{collectives, name_of}
use Rattle.must_rules.specs.Known.{group_of, clear_behind}
use Rattle.must_rules.specs.Types.{type_of}
use Rattle.must_rules.specs.Parts.{parts_of}
use Rattle.must_rules.specs.PendingOperations.{parts_behind}
use Rattle.must_rules.specs.Operations.{message_of, message_started, message_probed, operations_at}
use Rattle.must_rules.specs.Fates.{fate_of}
use Rattle.must_rules.specs.Statuses.{contradiction, breaks_status}
use Rattle.must_messages.specs.MessageItems.{no_wild, item_of}
use Rattle.must_messages.specs.CallNeeds.{at_once, operation_need, waits_for_wave, ways_by}
use Rattle.must_messages.proofs.WorkedCalls.{rank_of, done, status, empty, on_world, want_of, wave_of, Give}

abbrev exchange : List Call
exchange = done (Frame Init) ∷ done (Object (object.CommSplit 1 (pos 0) (pos 0) (Some (record { made = 64; members = 0 ∷ [] })))) ∷ done (Derive (derive.TypeStruct (record { block = pos 1; disp = pos 0; old = 7 } ∷ record { block = pos 1; disp = pos 4; old = 1 } ∷ []) (Some 65))) ∷ done (Derive (derive.TypeCommit 65)) ∷ done (Point (point.Irecv 65536 (pos 2) 65 (pos 1) (pos 1) 1 (Some 66))) ∷ done (Point (point.Irecv 131072 (pos 2) 65 (pos 1) (pos 2) 1 (Some 67))) ∷ done (Point (point.Isend 196608 (pos 2) 65 (pos 1) (pos 2) 1 (Some 68))) ∷ done (Point (point.Isend 262144 (pos 2) 65 (pos 1) (pos 1) 1 (Some 69))) ∷ done (Finish (finish.Waitall (66 ∷ 67 ∷ 68 ∷ 69 ∷ []) (Some (status (pos 1) (pos 1) ∷ status (pos 1) (pos 2) ∷ empty ∷ empty ∷ [])))) ∷ done (Collective (collective.Allreduce false 327680 393216 (pos 2) 7 3 64)) ∷ done (Derive (derive.TypeFree 65)) ∷ done (Object (object.CommFree 64)) ∷ done (Frame Finalize) ∷ []

exchange_gives : Give (rank_of 0 2) exchange (on_world Receive 4 0 (0 ∷ 1 ∷ []) 0 1 0 (pos 1) (Int ∷ Char ∷ Int ∷ Char ∷ []) no_wild ∷ on_world Receive 5 0 (0 ∷ 1 ∷ []) 0 1 0 (pos 2) (Int ∷ Char ∷ Int ∷ Char ∷ []) no_wild ∷ on_world Send 6 0 (0 ∷ 1 ∷ []) 0 0 1 (pos 2) (Int ∷ Char ∷ Int ∷ Char ∷ []) no_wild ∷ on_world Send 7 0 (0 ∷ 1 ∷ []) 0 0 1 (pos 1) (Int ∷ Char ∷ Int ∷ Char ∷ []) no_wild ∷ []) (at_once ∷ ((wave_of 0 1 ∷ []) ∷ []) ∷ at_once ∷ at_once ∷ at_once ∷ at_once ∷ at_once ∷ at_once ∷ ((want_of 0 4 0 false ∷ want_of 0 5 0 false ∷ want_of 0 6 0 true ∷ want_of 0 7 0 true ∷ []) ∷ []) ∷ ((wave_of 0 9 ∷ []) ∷ []) ∷ at_once ∷ ((wave_of 0 11 ∷ []) ∷ []) ∷ at_once ∷ [])
unfolding collectives name_of group_of clear_behind is_predefined life is_kept committed made_by persists frees completes commits copies parts_of parts_behind names_to_start start_of type_of block repeated operation_need waits_for_wave ways_by fate_of item_of message_of message_started message_probed operations_at contradiction breaks_status
exchange_gives = (refl, refl)
