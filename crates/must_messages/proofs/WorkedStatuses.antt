-- Worked calls of a rank: cancelled operations, statuses that contradict, freed requests, and probes.
use Rattle.std.specs.Prelude.{◌≡◌, pos, negsuc, true, false, List, [], ◌∷◌, Some, None, refl}
use Rattle.must_call.specs.declared.basic.Basic.TheVariants.{Int}
use Rattle.must_call.specs.declared.frame.Frame.TheVariants.{Init, Finalize}
use Rattle.must_call.specs.declared.point.Point.TheVariants as point
use Rattle.must_call.specs.declared.finish.Finish.TheVariants as finish
use Rattle.must_call.specs.declared.persist.Persist.TheVariants as persist
use Rattle.must_call.specs.declared.body.Body.TheVariants.{Frame, Point, Finish, Persist}
use Rattle.must_call.specs.declared.call.Call.{Call}
use Rattle.must_sig.specs.Signatures.{repeated}
use Rattle.must_p2p.specs.declared.side.Side.TheVariants.{Send, Receive, Probe}
use Rattle.must_rules.specs.Making.{made_by, persists, frees, completes, commits, copies}
use Rattle.must_rules.specs.Lives.{is_predefined, life, is_kept, committed}
use Rattle.must_rules.specs.Starts.{names_to_start, start_of}
use Rattle.must_rules.specs.Communicators.{collectives, name_of}
use Rattle.must_rules.specs.Known.{group_of, clear_behind}
use Rattle.must_rules.specs.Types.{type_of}
use Rattle.must_rules.specs.Parts.{parts_of}
use Rattle.must_rules.specs.PendingOperations.{parts_behind}
use Rattle.must_rules.specs.Operations.{message_of, message_started, message_probed, operations_at}
use Rattle.must_rules.specs.Fates.{fate_of}
use Rattle.must_rules.specs.Statuses.{contradiction, status_contradicts, breaks_status, open_wildcard}
use Rattle.must_messages.specs.MessageItems.{no_wild, item_of}
use Rattle.must_messages.specs.CallNeeds.{at_once, operation_need, waits_for_wave, ways_by}
use Rattle.must_messages.proofs.WorkedCalls.{rank_of, done, status, cancelled, on_world, wild_at, want_of, sees, Give, status_at}

-- a send that is cancelled as it was asked to
abbrev cancelled_send : List Call
cancelled_send = done (Frame Init) ∷ done (Point (point.Isend 4096 (pos 1) 7 (pos 0) (pos 0) 1 (Some 64))) ∷ done (Finish (finish.Cancel 64)) ∷ done (Finish (finish.Wait 64 (Some cancelled))) ∷ done (Frame Finalize) ∷ []

cancelled_send_gives : Give (rank_of 0 1) cancelled_send ([]) (at_once ∷ at_once ∷ at_once ∷ at_once ∷ at_once ∷ []) × (status_at (rank_of 0 1) cancelled_send 3 0 ≡ None)
unfolding collectives name_of group_of clear_behind is_predefined life is_kept committed made_by persists frees completes commits copies parts_of parts_behind names_to_start start_of type_of repeated operation_need waits_for_wave ways_by fate_of item_of message_of message_started message_probed operations_at contradiction status_contradicts breaks_status open_wildcard
cancelled_send_gives = ((refl, refl), refl)

-- a send that is cancelled and nobody asked
abbrev cancelled_unasked : List Call
cancelled_unasked = done (Frame Init) ∷ done (Point (point.Isend 4096 (pos 1) 7 (pos 0) (pos 0) 1 (Some 64))) ∷ done (Finish (finish.Wait 64 (Some cancelled))) ∷ done (Frame Finalize) ∷ []

cancelled_unasked_gives : Give (rank_of 0 1) cancelled_unasked ([]) (at_once ∷ at_once ∷ at_once ∷ at_once ∷ []) × (status_at (rank_of 0 1) cancelled_unasked 2 0 ≡ sees 1 3)
unfolding collectives name_of group_of clear_behind is_predefined life is_kept committed made_by persists frees completes commits copies parts_of parts_behind names_to_start start_of type_of repeated operation_need waits_for_wave ways_by fate_of item_of message_of message_started message_probed operations_at contradiction status_contradicts breaks_status open_wildcard
cancelled_unasked_gives = ((refl, refl), refl)

-- a cancel of an earlier start says nothing
abbrev cancelled_too_early : List Call
cancelled_too_early = done (Frame Init) ∷ done (Persist (persist.SendInit 4096 (pos 1) 7 (pos 0) (pos 0) 1 (Some 64))) ∷ done (Persist (persist.Start 64)) ∷ done (Finish (finish.Cancel 64)) ∷ done (Finish (finish.Wait 64 (Some cancelled))) ∷ done (Persist (persist.Start 64)) ∷ done (Finish (finish.Wait 64 (Some cancelled))) ∷ done (Frame Finalize) ∷ []

cancelled_too_early_gives : Give (rank_of 0 1) cancelled_too_early ([]) (at_once ∷ at_once ∷ at_once ∷ at_once ∷ at_once ∷ at_once ∷ at_once ∷ at_once ∷ []) × (status_at (rank_of 0 1) cancelled_too_early 4 0 ≡ None) × (status_at (rank_of 0 1) cancelled_too_early 6 0 ≡ sees 5 3)
unfolding collectives name_of group_of clear_behind is_predefined life is_kept committed made_by persists frees completes commits copies parts_of parts_behind names_to_start start_of type_of repeated operation_need waits_for_wave ways_by fate_of item_of message_of message_started message_probed operations_at contradiction status_contradicts breaks_status open_wildcard
cancelled_too_early_gives = ((refl, refl), refl, refl)

-- a receive that is done in its call and says cancelled
abbrev cancelled_receive : List Call
cancelled_receive = done (Frame Init) ∷ done (Point (point.Recv 8192 (pos 1) 7 (pos 0) (pos 0) 1 (Some cancelled))) ∷ done (Frame Finalize) ∷ []

cancelled_receive_gives : Give (rank_of 0 1) cancelled_receive ([]) (at_once ∷ at_once ∷ at_once ∷ []) × (status_at (rank_of 0 1) cancelled_receive 1 0 ≡ Some (None, pos 3))
unfolding collectives name_of group_of clear_behind is_predefined life is_kept committed made_by persists frees completes commits copies parts_of parts_behind names_to_start start_of type_of repeated operation_need waits_for_wave ways_by fate_of item_of message_of message_started message_probed operations_at contradiction status_contradicts breaks_status open_wildcard
cancelled_receive_gives = ((refl, refl), refl)

-- a receive whose status has another tag is never met
abbrev wrong_tag : List Call
wrong_tag = done (Frame Init) ∷ done (Point (point.Irecv 4096 (pos 1) 7 (pos 0) (pos 0) 1 (Some 64))) ∷ done (Finish (finish.Wait 64 (Some (status (pos 0) (pos 7))))) ∷ done (Frame Finalize) ∷ []

wrong_tag_gives : Give (rank_of 0 1) wrong_tag ([]) (at_once ∷ at_once ∷ [] ∷ at_once ∷ []) × (status_at (rank_of 0 1) wrong_tag 2 0 ≡ sees 1 2)
unfolding collectives name_of group_of clear_behind is_predefined life is_kept committed made_by persists frees completes commits copies parts_of parts_behind names_to_start start_of type_of repeated operation_need waits_for_wave ways_by fate_of item_of message_of message_started message_probed operations_at contradiction status_contradicts breaks_status open_wildcard
wrong_tag_gives = ((refl, refl), refl)

-- a receive whose status has no rank as its source
abbrev wrong_source : List Call
wrong_source = done (Frame Init) ∷ done (Point (point.Recv 8192 (pos 1) 7 (negsuc 1) (pos 0) 1 (Some (status (pos 1) (pos 0))))) ∷ done (Frame Finalize) ∷ []

wrong_source_gives : Give (rank_of 0 1) wrong_source ([]) (at_once ∷ [] ∷ at_once ∷ []) × (status_at (rank_of 0 1) wrong_source 1 0 ≡ Some (None, pos 1))
unfolding collectives name_of group_of clear_behind is_predefined life is_kept committed made_by persists frees completes commits copies parts_of parts_behind names_to_start start_of type_of repeated operation_need waits_for_wave ways_by fate_of item_of message_of message_started message_probed operations_at contradiction status_contradicts breaks_status open_wildcard
wrong_source_gives = ((refl, refl), refl)

-- what a call receives that sends too has part 1
abbrev wrong_own_part : List Call
wrong_own_part = done (Frame Init) ∷ done (Point (point.Sendrecv 4096 (pos 1) 7 (pos 0) (pos 0) 8192 (pos 1) 7 (pos 0) (pos 0) 1 (Some (status (pos 0) (pos 1))))) ∷ done (Frame Finalize) ∷ []

wrong_own_part_gives : Give (rank_of 0 1) wrong_own_part (on_world Send 1 0 (0 ∷ []) 0 0 0 (pos 0) (Int ∷ []) no_wild ∷ []) (at_once ∷ [] ∷ at_once ∷ []) × (status_at (rank_of 0 1) wrong_own_part 1 1 ≡ Some (None, pos 2)) × (status_at (rank_of 0 1) wrong_own_part 1 0 ≡ None)
unfolding collectives name_of group_of clear_behind is_predefined life is_kept committed made_by persists frees completes commits copies parts_of parts_behind names_to_start start_of type_of repeated operation_need waits_for_wave ways_by fate_of item_of message_of message_started message_probed operations_at contradiction status_contradicts breaks_status open_wildcard
wrong_own_part_gives = ((refl, refl), refl, refl)

-- a request that is named twice: the first status is its own, and the second may break S1
abbrev named_twice : List Call
named_twice = done (Frame Init) ∷ done (Point (point.Irecv 4096 (pos 1) 7 (pos 0) (negsuc 0) 1 (Some 64))) ∷ done (Finish (finish.Waitall (64 ∷ 64 ∷ []) (Some (status (pos 0) (pos 2) ∷ status (pos 1) (pos 2) ∷ [])))) ∷ done (Frame Finalize) ∷ []

named_twice_gives : Give (rank_of 0 1) named_twice ([]) (at_once ∷ at_once ∷ [] ∷ at_once ∷ []) × (status_at (rank_of 0 1) named_twice 2 0 ≡ None) × (status_at (rank_of 0 1) named_twice 2 1 ≡ sees 1 1)
unfolding collectives name_of group_of clear_behind is_predefined life is_kept committed made_by persists frees completes commits copies parts_of parts_behind names_to_start start_of type_of repeated operation_need waits_for_wave ways_by fate_of item_of message_of message_started message_probed operations_at contradiction status_contradicts breaks_status open_wildcard
named_twice_gives = ((refl, refl), refl, refl)

-- the statuses of a test of some requests stand at their indices
abbrev completed_by_some : List Call
completed_by_some = done (Frame Init) ∷ done (Point (point.Irecv 4096 (pos 1) 7 (negsuc 1) (pos 0) 1 (Some 64))) ∷ done (Point (point.Irecv 4096 (pos 1) 7 (pos 0) (negsuc 0) 1 (Some 65))) ∷ done (Finish (finish.Waitsome (64 ∷ 65 ∷ []) (Some (Some (record { index = 1; status = status (pos 0) (pos 9) } ∷ []))))) ∷ done (Finish (finish.Testall (64 ∷ []) (Some (Some (status (pos 0) (pos 0) ∷ []))))) ∷ done (Frame Finalize) ∷ []

completed_by_some_gives : Give (rank_of 0 1) completed_by_some (on_world Receive 1 0 (0 ∷ []) 0 0 0 (pos 0) (Int ∷ []) (wild_at true false 4) ∷ on_world Receive 2 0 (0 ∷ []) 0 0 0 (pos 9) (Int ∷ []) (wild_at false true 3) ∷ []) (at_once ∷ at_once ∷ at_once ∷ ((want_of 0 1 0 false ∷ []) ∷ (want_of 0 2 0 false ∷ []) ∷ []) ∷ at_once ∷ at_once ∷ []) × (status_at (rank_of 0 1) completed_by_some 3 1 ≡ None) × (status_at (rank_of 0 1) completed_by_some 3 0 ≡ None)
unfolding collectives name_of group_of clear_behind is_predefined life is_kept committed made_by persists frees completes commits copies parts_of parts_behind names_to_start start_of type_of repeated operation_need waits_for_wave ways_by fate_of item_of message_of message_started message_probed operations_at contradiction status_contradicts breaks_status open_wildcard
completed_by_some_gives = ((refl, refl), refl, refl)

-- a receive whose request is freed takes part where it named all, and stays open else
abbrev freed : List Call
freed = done (Frame Init) ∷ done (Point (point.Irecv 4096 (pos 1) 7 (pos 0) (pos 0) 1 (Some 64))) ∷ done (Point (point.Irecv 4096 (pos 1) 7 (negsuc 1) (pos 0) 1 (Some 65))) ∷ done (Finish (finish.RequestFree 64)) ∷ done (Finish (finish.RequestFree 65)) ∷ done (Frame Finalize) ∷ []

freed_gives : Give (rank_of 0 1) freed (on_world Receive 1 0 (0 ∷ []) 0 0 0 (pos 0) (Int ∷ []) no_wild ∷ []) (at_once ∷ at_once ∷ at_once ∷ at_once ∷ at_once ∷ at_once ∷ []) × (open_wildcard (rank_of 0 1) freed 2 0 ≡ Some (None, pos 0)) × (open_wildcard (rank_of 0 1) freed 1 0 ≡ None)
unfolding collectives name_of group_of clear_behind is_predefined life is_kept committed made_by persists frees completes commits copies parts_of parts_behind names_to_start start_of type_of repeated operation_need waits_for_wave ways_by fate_of item_of message_of message_started message_probed operations_at contradiction status_contradicts breaks_status open_wildcard
freed_gives = ((refl, refl), refl, refl)

-- probes that returned: one of another tag than it named, and one of no rank
abbrev probes : List Call
probes = done (Frame Init) ∷ done (Point (point.Probe (pos 0) (pos 3) 1 (Some (status (pos 0) (pos 4))))) ∷ done (Point (point.Probe (negsuc 1) (negsuc 0) 1 (Some (status (pos 2) (pos 0))))) ∷ done (Point (point.Probe (negsuc 0) (pos 0) 1 (Some (status (negsuc 0) (negsuc 0))))) ∷ done (Frame Finalize) ∷ []

probes_gives : Give (rank_of 0 1) probes (on_world Probe 1 0 (0 ∷ []) 0 0 0 (pos 4) [] no_wild ∷ []) (at_once ∷ ((want_of 0 1 0 false ∷ []) ∷ []) ∷ [] ∷ at_once ∷ at_once ∷ []) × (status_at (rank_of 0 1) probes 1 0 ≡ Some (None, pos 2)) × (status_at (rank_of 0 1) probes 2 0 ≡ Some (None, pos 1)) × (status_at (rank_of 0 1) probes 3 0 ≡ None)
unfolding collectives name_of group_of clear_behind is_predefined life is_kept committed made_by persists frees completes commits copies parts_of parts_behind names_to_start start_of type_of repeated operation_need waits_for_wave ways_by fate_of item_of message_of message_started message_probed operations_at contradiction status_contradicts breaks_status open_wildcard
probes_gives = ((refl, refl), refl, refl, refl)
