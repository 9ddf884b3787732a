-- Worked calls of a rank: calls that did not return, what alternatives there are, and what takes no part.
use Rattle.std.specs.Prelude.{◌≡◌, pos, negsuc, true, false, List, [], ◌∷◌, Some, None, refl}
use Rattle.must_call.specs.declared.basic.Basic.TheVariants.{Int}
use Rattle.must_call.specs.declared.frame.Frame.TheVariants.{Init, Finalize}
use Rattle.must_call.specs.declared.point.Point.TheVariants as point
use Rattle.must_call.specs.declared.finish.Finish.TheVariants as finish
use Rattle.must_call.specs.declared.persist.Persist.TheVariants as persist
use Rattle.must_call.specs.declared.collective.Collective.TheVariants as collective
use Rattle.must_call.specs.declared.started.Started.TheVariants as started
use Rattle.must_call.specs.declared.derive.Derive.TheVariants as derive
use Rattle.must_call.specs.declared.object.Object.TheVariants as object
use Rattle.must_call.specs.declared.body.Body.TheVariants.{Frame, Point, Finish, Persist, Collective, Started, Derive, Object}
use Rattle.must_call.specs.declared.call.Call.{Call}
use Rattle.must_sig.specs.Signatures.{repeated}
use Rattle.must_p2p.specs.declared.side.Side.TheVariants.{Send, Receive, Probe}
use Rattle.must_rules.specs.Making.{made_by, persists, frees, completes, commits, copies}
use Rattle.must_rules.specs.Lives.{is_predefined, life, is_kept, committed}
use Rattle.must_rules.specs.Starts.{names_to_start, start_of}
use Rattle.must_rules.specs.Communicators.{collectives, name_of}
use Rattle.must_rules.specs.Known.{group_of, clear_behind}
use Rattle.must_rules.specs.Types.{type_of}
use Rattle.must_rules.specs.Parts.{parts_of}
use Rattle.must_rules.specs.PendingOperations.{parts_behind}
use Rattle.must_rules.specs.Operations.{message_of, message_started, message_probed, operations_at}
use Rattle.must_rules.specs.Fates.{fate_of}
use Rattle.must_rules.specs.Statuses.{contradiction, status_contradicts, breaks_status, open_wildcard}
use Rattle.must_messages.specs.MessageItems.{no_wild, item_of}
use Rattle.must_messages.specs.CallNeeds.{at_once, operation_need, waits_for_wave, ways_by}
use Rattle.must_messages.proofs.WorkedCalls.{rank_of, done, stuck, status, empty, on_world, wild_at, want_of, wave_of, on_duplicate, Give}

-- a receive that did not return
abbrev stuck_receive : List Call
stuck_receive = done (Frame Init) ∷ stuck (Point (point.Recv 8192 (pos 1) 7 (pos 0) (pos 0) 1 None)) ∷ []

stuck_receive_gives : Give (rank_of 0 1) stuck_receive (on_world Receive 1 0 (0 ∷ []) 0 0 0 (pos 0) (Int ∷ []) no_wild ∷ []) (at_once ∷ ((want_of 0 1 0 false ∷ []) ∷ []) ∷ [])
unfolding collectives name_of group_of clear_behind is_predefined life is_kept committed made_by persists frees completes commits copies parts_of parts_behind names_to_start start_of type_of repeated operation_need waits_for_wave ways_by fate_of item_of message_of message_started message_probed operations_at contradiction status_contradicts breaks_status open_wildcard
stuck_receive_gives = (refl, refl)

-- a receive from any source that did not return
abbrev stuck_wildcard : List Call
stuck_wildcard = done (Frame Init) ∷ stuck (Point (point.Recv 8192 (pos 1) 7 (negsuc 1) (pos 0) 1 None)) ∷ []

stuck_wildcard_gives : Give (rank_of 0 1) stuck_wildcard ([]) (at_once ∷ [] ∷ []) × (open_wildcard (rank_of 0 1) stuck_wildcard 1 0 ≡ Some (None, pos 0))
unfolding collectives name_of group_of clear_behind is_predefined life is_kept committed made_by persists frees completes commits copies parts_of parts_behind names_to_start start_of type_of repeated operation_need waits_for_wave ways_by fate_of item_of message_of message_started message_probed operations_at contradiction status_contradicts breaks_status open_wildcard
stuck_wildcard_gives = ((refl, refl), refl)

-- a start of a send that did not return
abbrev stuck_start : List Call
stuck_start = done (Frame Init) ∷ stuck (Point (point.Isend 4096 (pos 1) 7 (pos 0) (pos 0) 1 None)) ∷ []

stuck_start_gives : Give (rank_of 0 1) stuck_start (on_world Send 1 0 (0 ∷ []) 0 0 0 (pos 0) (Int ∷ []) no_wild ∷ []) (at_once ∷ at_once ∷ [])
unfolding collectives name_of group_of clear_behind is_predefined life is_kept committed made_by persists frees completes commits copies parts_of parts_behind names_to_start start_of type_of repeated operation_need waits_for_wave ways_by fate_of item_of message_of message_started message_probed operations_at contradiction status_contradicts breaks_status open_wildcard
stuck_start_gives = (refl, refl)

-- probes that did not return
abbrev stuck_probe : List Call
stuck_probe = done (Frame Init) ∷ stuck (Point (point.Probe (pos 0) (pos 3) 1 None)) ∷ []

stuck_probe_gives : Give (rank_of 0 1) stuck_probe (on_world Probe 1 0 (0 ∷ []) 0 0 0 (pos 3) [] no_wild ∷ []) (at_once ∷ ((want_of 0 1 0 false ∷ []) ∷ []) ∷ [])
unfolding collectives name_of group_of clear_behind is_predefined life is_kept committed made_by persists frees completes commits copies parts_of parts_behind names_to_start start_of type_of repeated operation_need waits_for_wave ways_by fate_of item_of message_of message_started message_probed operations_at contradiction status_contradicts breaks_status open_wildcard
stuck_probe_gives = (refl, refl)

-- a probe of any tag that did not return
abbrev stuck_open_probe : List Call
stuck_open_probe = done (Frame Init) ∷ stuck (Point (point.Probe (pos 0) (negsuc 0) 1 None)) ∷ []

stuck_open_probe_gives : Give (rank_of 0 1) stuck_open_probe ([]) (at_once ∷ [] ∷ [])
unfolding collectives name_of group_of clear_behind is_predefined life is_kept committed made_by persists frees completes commits copies parts_of parts_behind names_to_start start_of type_of repeated operation_need waits_for_wave ways_by fate_of item_of message_of message_started message_probed operations_at contradiction status_contradicts breaks_status open_wildcard
stuck_open_probe_gives = (refl, refl)

-- what sends and receives waits for both
abbrev both_ways : List Call
both_ways = done (Frame Init) ∷ done (Point (point.Sendrecv 4096 (pos 1) 7 (pos 0) (pos 0) 8192 (pos 1) 7 (pos 0) (pos 0) 1 (Some (status (pos 0) (pos 0))))) ∷ done (Point (point.Sendrecv 4096 (pos 1) 7 (negsuc 0) (pos 0) 8192 (pos 1) 7 (pos 0) (pos 0) 1 (Some (status (pos 0) (pos 0))))) ∷ done (Point (point.Sendrecv 4096 (pos 1) 7 (pos 0) (pos 0) 8192 (pos 1) 7 (negsuc 0) (pos 0) 1 (Some (status (negsuc 0) (negsuc 0))))) ∷ done (Frame Finalize) ∷ []

both_ways_gives : Give (rank_of 0 1) both_ways (on_world Send 1 0 (0 ∷ []) 0 0 0 (pos 0) (Int ∷ []) no_wild ∷ on_world Receive 1 1 (0 ∷ []) 0 0 0 (pos 0) (Int ∷ []) no_wild ∷ on_world Receive 2 1 (0 ∷ []) 0 0 0 (pos 0) (Int ∷ []) no_wild ∷ on_world Send 3 0 (0 ∷ []) 0 0 0 (pos 0) (Int ∷ []) no_wild ∷ []) (at_once ∷ ((want_of 0 1 0 true ∷ want_of 0 1 1 false ∷ []) ∷ []) ∷ ((want_of 0 2 1 false ∷ []) ∷ []) ∷ ((want_of 0 3 0 true ∷ []) ∷ []) ∷ at_once ∷ [])
unfolding collectives name_of group_of clear_behind is_predefined life is_kept committed made_by persists frees completes commits copies parts_of parts_behind names_to_start start_of type_of repeated operation_need waits_for_wave ways_by fate_of item_of message_of message_started message_probed operations_at contradiction status_contradicts breaks_status open_wildcard
both_ways_gives = (refl, refl)

-- sends wait by their mode
abbrev modes : List Call
modes = done (Frame Init) ∷ done (Point (point.Isend 4096 (pos 0) 7 (pos 0) (pos 0) 1 (Some 64))) ∷ done (Point (point.Issend 4096 (pos 0) 7 (pos 0) (pos 0) 1 (Some 65))) ∷ done (Point (point.Ibsend 4096 (pos 0) 7 (pos 0) (pos 0) 1 (Some 66))) ∷ done (Point (point.Irsend 4096 (pos 0) 7 (pos 0) (pos 0) 1 (Some 67))) ∷ done (Finish (finish.Waitall (64 ∷ 65 ∷ 66 ∷ 67 ∷ []) (Some (empty ∷ empty ∷ empty ∷ empty ∷ [])))) ∷ done (Frame Finalize) ∷ []

modes_gives : Give (rank_of 0 1) modes (on_world Send 1 0 (0 ∷ []) 0 0 0 (pos 0) [] no_wild ∷ on_world Send 2 0 (0 ∷ []) 0 0 0 (pos 0) [] no_wild ∷ on_world Send 3 0 (0 ∷ []) 0 0 0 (pos 0) [] no_wild ∷ on_world Send 4 0 (0 ∷ []) 0 0 0 (pos 0) [] no_wild ∷ []) (at_once ∷ at_once ∷ at_once ∷ at_once ∷ at_once ∷ ((want_of 0 1 0 true ∷ want_of 0 2 0 false ∷ want_of 0 4 0 true ∷ []) ∷ []) ∷ at_once ∷ [])
unfolding collectives name_of group_of clear_behind is_predefined life is_kept committed made_by persists frees completes commits copies parts_of parts_behind names_to_start start_of type_of repeated operation_need waits_for_wave ways_by fate_of item_of message_of message_started message_probed operations_at contradiction status_contradicts breaks_status open_wildcard
modes_gives = (refl, refl)

-- an alternative for each active request, and one that is empty where none is
abbrev any_of : List Call
any_of = done (Frame Init) ∷ done (Point (point.Irecv 4096 (pos 1) 7 (pos 0) (pos 0) 1 (Some 64))) ∷ done (Point (point.Ibsend 4096 (pos 1) 7 (pos 0) (pos 0) 1 (Some 65))) ∷ done (Finish (finish.Waitany (0 ∷ 64 ∷ 65 ∷ []) (Some (record { index = pos 2; status = empty })))) ∷ done (Finish (finish.Waitany (0 ∷ 65 ∷ []) (Some (record { index = negsuc 0; status = empty })))) ∷ done (Finish (finish.Wait 64 (Some (status (pos 0) (pos 0))))) ∷ done (Frame Finalize) ∷ []

any_of_gives : Give (rank_of 0 1) any_of (on_world Receive 1 0 (0 ∷ []) 0 0 0 (pos 0) (Int ∷ []) no_wild ∷ on_world Send 2 0 (0 ∷ []) 0 0 0 (pos 0) (Int ∷ []) no_wild ∷ []) (at_once ∷ at_once ∷ at_once ∷ ((want_of 0 1 0 false ∷ []) ∷ ([]) ∷ []) ∷ at_once ∷ ((want_of 0 1 0 false ∷ []) ∷ []) ∷ at_once ∷ [])
unfolding collectives name_of group_of clear_behind is_predefined life is_kept committed made_by persists frees completes commits copies parts_of parts_behind names_to_start start_of type_of repeated operation_need waits_for_wave ways_by fate_of item_of message_of message_started message_probed operations_at contradiction status_contradicts breaks_status open_wildcard
any_of_gives = (refl, refl)

-- requests of collective calls wait for the wave
abbrev started_collectives : List Call
started_collectives = done (Frame Init) ∷ done (Started (started.Ibarrier 1 (Some 64))) ∷ done (Point (point.Isend 4096 (pos 1) 7 (pos 0) (pos 0) 1 (Some 65))) ∷ done (Finish (finish.Waitall (64 ∷ 65 ∷ []) (Some (empty ∷ empty ∷ [])))) ∷ done (Started (started.Ibarrier 70 (Some 66))) ∷ done (Finish (finish.Wait 66 (Some empty))) ∷ done (Frame Finalize) ∷ []

started_collectives_gives : Give (rank_of 0 1) started_collectives (on_world Send 2 0 (0 ∷ []) 0 0 0 (pos 0) (Int ∷ []) no_wild ∷ []) (at_once ∷ at_once ∷ at_once ∷ ((wave_of 0 1 ∷ want_of 0 2 0 true ∷ []) ∷ []) ∷ at_once ∷ at_once ∷ at_once ∷ [])
unfolding collectives name_of group_of clear_behind is_predefined life is_kept committed made_by persists frees completes commits copies parts_of parts_behind names_to_start start_of type_of repeated operation_need waits_for_wave ways_by fate_of item_of message_of message_started message_probed operations_at contradiction status_contradicts breaks_status open_wildcard
started_collectives_gives = (refl, refl)

-- what is of a type that no clear call made needs nothing, and is no item
abbrev unsound : List Call
unsound = done (Frame Init) ∷ done (Derive (derive.TypeContiguous (negsuc 0) 7 (Some 64))) ∷ done (Derive (derive.TypeCommit 64)) ∷ done (Point (point.Send 4096 (pos 1) 64 (pos 0) (pos 0) 1)) ∷ done (Collective (collective.Bcast 4096 (pos 1) 64 (pos 0) 1)) ∷ done (Started (started.Ibcast 4096 (pos 1) 64 (pos 0) 1 (Some 65))) ∷ done (Point (point.Irecv 4096 (pos 1) 64 (negsuc 1) (pos 0) 1 (Some 66))) ∷ done (Finish (finish.Waitall (65 ∷ 66 ∷ []) (Some (empty ∷ empty ∷ [])))) ∷ done (Frame Finalize) ∷ []

unsound_gives : Give (rank_of 0 1) unsound ([]) (at_once ∷ at_once ∷ at_once ∷ at_once ∷ at_once ∷ at_once ∷ at_once ∷ at_once ∷ at_once ∷ []) × (open_wildcard (rank_of 0 1) unsound 6 0 ≡ None)
unfolding collectives name_of group_of clear_behind is_predefined life is_kept committed made_by persists frees completes commits copies parts_of parts_behind names_to_start start_of type_of repeated operation_need waits_for_wave ways_by fate_of item_of message_of message_started message_probed operations_at contradiction status_contradicts breaks_status open_wildcard
unsound_gives = ((refl, refl), refl)

-- a wait that names no request never waits, and completes the others
abbrev unclear_wait : List Call
unclear_wait = done (Frame Init) ∷ done (Point (point.Irecv 4096 (pos 1) 7 (negsuc 1) (pos 0) 1 (Some 64))) ∷ done (Finish (finish.Waitall (64 ∷ 99 ∷ []) (Some (status (pos 0) (pos 0) ∷ empty ∷ [])))) ∷ done (Frame Finalize) ∷ []

unclear_wait_gives : Give (rank_of 0 1) unclear_wait (on_world Receive 1 0 (0 ∷ []) 0 0 0 (pos 0) (Int ∷ []) (wild_at true false 2) ∷ []) (at_once ∷ at_once ∷ at_once ∷ at_once ∷ [])
unfolding collectives name_of group_of clear_behind is_predefined life is_kept committed made_by persists frees completes commits copies parts_of parts_behind names_to_start start_of type_of repeated operation_need waits_for_wave ways_by fate_of item_of message_of message_started message_probed operations_at contradiction status_contradicts breaks_status open_wildcard
unclear_wait_gives = (refl, refl)

-- a persistent request that was made with a negative count starts nothing that takes part
abbrev unusable_start : List Call
unusable_start = done (Frame Init) ∷ done (Persist (persist.RecvInit 4096 (negsuc 0) 7 (negsuc 1) (pos 0) 1 (Some 64))) ∷ done (Persist (persist.Start 64)) ∷ done (Finish (finish.Waitany (64 ∷ []) (Some (record { index = pos 0; status = status (pos 0) (pos 0) })))) ∷ done (Frame Finalize) ∷ []

unusable_start_gives : Give (rank_of 0 1) unusable_start ([]) (at_once ∷ at_once ∷ at_once ∷ at_once ∷ at_once ∷ []) × (open_wildcard (rank_of 0 1) unusable_start 2 0 ≡ None)
unfolding collectives name_of group_of clear_behind is_predefined life is_kept committed made_by persists frees completes commits copies parts_of parts_behind names_to_start start_of type_of repeated operation_need waits_for_wave ways_by fate_of item_of message_of message_started message_probed operations_at contradiction status_contradicts breaks_status open_wildcard
unusable_start_gives = ((refl, refl), refl)

-- a persistent request that is not active needs nothing
abbrev idle : List Call
idle = done (Frame Init) ∷ done (Persist (persist.SendInit 4096 (pos 1) 7 (pos 0) (pos 0) 1 (Some 64))) ∷ done (Finish (finish.Wait 64 (Some empty))) ∷ done (Finish (finish.Waitany (64 ∷ []) (Some (record { index = negsuc 0; status = empty })))) ∷ done (Frame Finalize) ∷ []

idle_gives : Give (rank_of 0 1) idle ([]) (at_once ∷ at_once ∷ at_once ∷ at_once ∷ at_once ∷ [])
unfolding collectives name_of group_of clear_behind is_predefined life is_kept committed made_by persists frees completes commits copies parts_of parts_behind names_to_start start_of type_of repeated operation_need waits_for_wave ways_by fate_of item_of message_of message_started message_probed operations_at contradiction status_contradicts breaks_status open_wildcard
idle_gives = (refl, refl)

-- a wait for any of no request returns at once
abbrev null_request : List Call
null_request = done (Frame Init) ∷ done (Finish (finish.Waitany (0 ∷ []) (Some (record { index = negsuc 0; status = empty })))) ∷ done (Frame Finalize) ∷ []

null_request_gives : Give (rank_of 0 1) null_request ([]) (at_once ∷ at_once ∷ at_once ∷ [])
unfolding collectives name_of group_of clear_behind is_predefined life is_kept committed made_by persists frees completes commits copies parts_of parts_behind names_to_start start_of type_of repeated operation_need waits_for_wave ways_by fate_of item_of message_of message_started message_probed operations_at contradiction status_contradicts breaks_status open_wildcard
null_request_gives = (refl, refl)

-- a persistent request keeps the communicator that it was made for
abbrev freed_communicator : List Call
freed_communicator = done (Frame Init) ∷ done (Object (object.CommDup 1 (Some (record { made = 64; members = 0 ∷ [] })))) ∷ done (Persist (persist.SendInit 4096 (pos 1) 7 (pos 0) (pos 0) 64 (Some 65))) ∷ done (Object (object.CommFree 64)) ∷ done (Persist (persist.Start 65)) ∷ done (Finish (finish.Wait 65 (Some empty))) ∷ done (Point (point.Send 4096 (pos 1) 7 (pos 0) (pos 0) 64)) ∷ done (Frame Finalize) ∷ []

freed_communicator_gives : Give (rank_of 0 1) freed_communicator (on_duplicate (on_world Send 4 0 (0 ∷ []) 0 0 0 (pos 0) (Int ∷ []) no_wild) ∷ []) (at_once ∷ ((wave_of 0 1 ∷ []) ∷ []) ∷ at_once ∷ ((wave_of 0 3 ∷ []) ∷ []) ∷ at_once ∷ ((want_of 0 4 0 true ∷ []) ∷ []) ∷ at_once ∷ at_once ∷ [])
unfolding collectives name_of group_of clear_behind is_predefined life is_kept committed made_by persists frees completes commits copies parts_of parts_behind names_to_start start_of type_of repeated operation_need waits_for_wave ways_by fate_of item_of message_of message_started message_probed operations_at contradiction status_contradicts breaks_status open_wildcard
freed_communicator_gives = (refl, refl)
