-- Worked calls of a rank: their items, what they wait for, and the rules S1 and N1.
use Rattle.std.specs.Prelude.{◌≡◌, pos, negsuc, true, false, List, [], ◌∷◌, Some, None, refl}
use Rattle.must_call.specs.declared.basic.Basic.TheVariants.{Int, Byte}
use Rattle.must_call.specs.declared.frame.Frame.TheVariants.{Init, Finalize}
use Rattle.must_call.specs.declared.point.Point.TheVariants as point
use Rattle.must_call.specs.declared.finish.Finish.TheVariants as finish
use Rattle.must_call.specs.declared.persist.Persist.TheVariants as persist
use Rattle.must_call.specs.declared.collective.Collective.TheVariants as collective
use Rattle.must_call.specs.declared.body.Body.TheVariants.{Frame, Point, Finish, Persist, Collective}
use Rattle.must_call.specs.declared.call.Call.{Call}
use Rattle.must_sig.specs.Signatures.{repeated}
use Rattle.must_p2p.specs.declared.side.Side.TheVariants.{Send, Receive}
use Rattle.must_rules.specs.Making.{made_by, persists, frees, completes, commits, copies}
use Rattle.must_rules.specs.Lives.{is_predefined, life, is_kept, committed}
use Rattle.must_rules.specs.Starts.{names_to_start, start_of}
use Rattle.must_rules.specs.Communicators.{collectives, name_of}
use Rattle.must_rules.specs.Known.{group_of, clear_behind}
use Rattle.must_rules.specs.Types.{type_of}
use Rattle.must_rules.specs.Parts.{parts_of}
use Rattle.must_rules.specs.PendingOperations.{parts_behind}
use Rattle.must_rules.specs.Operations.{message_of, message_started, message_probed, operations_at}
use Rattle.must_rules.specs.Fates.{fate_of}
use Rattle.must_rules.specs.Statuses.{contradiction, status_contradicts, breaks_status, open_wildcard}
use Rattle.must_messages.specs.MessageItems.{no_wild, item_of}
use Rattle.must_messages.specs.CallNeeds.{at_once, operation_need, waits_for_wave, ways_by}
use Rattle.must_messages.proofs.WorkedCalls.{rank_of, done, status, on_world, wild_at, want_of, wave_of, Give, status_at}

-- a receive of anything that nothing completes: N1
abbrev open_receive : List Call
open_receive = done (Frame Init) ∷ done (Point (point.Irecv 4096 (pos 1) 7 (negsuc 1) (negsuc 0) 1 (Some 64))) ∷ done (Frame Finalize) ∷ []

open_receive_gives : Give (rank_of 0 1) open_receive ([]) (at_once ∷ at_once ∷ at_once ∷ []) × (open_wildcard (rank_of 0 1) open_receive 1 0 ≡ Some (None, pos 0))
unfolding collectives name_of group_of clear_behind is_predefined life is_kept committed made_by persists frees completes commits copies parts_of parts_behind names_to_start start_of type_of repeated operation_need waits_for_wave ways_by fate_of item_of message_of message_started message_probed operations_at contradiction status_contradicts breaks_status open_wildcard
open_receive_gives = ((refl, refl), refl)

-- a probe whose status has another tag than the one it named: S1
abbrev wrong_probe : List Call
wrong_probe = done (Frame Init) ∷ done (Point (point.Bsend 4096 (pos 1) 7 (pos 0) (pos 3) 1)) ∷ done (Point (point.Iprobe (pos 0) (pos 3) 1 (Some (Some (status (pos 0) (pos 4)))))) ∷ done (Point (point.Recv 8192 (pos 1) 7 (pos 0) (pos 3) 1 (Some (status (pos 0) (pos 3))))) ∷ done (Frame Finalize) ∷ []

wrong_probe_gives : Give (rank_of 0 1) wrong_probe (on_world Send 1 0 (0 ∷ []) 0 0 0 (pos 3) (Int ∷ []) no_wild ∷ on_world Receive 3 0 (0 ∷ []) 0 0 0 (pos 3) (Int ∷ []) no_wild ∷ []) (at_once ∷ at_once ∷ at_once ∷ ((want_of 0 3 0 false ∷ []) ∷ []) ∷ at_once ∷ []) × (status_at (rank_of 0 1) wrong_probe 2 0 ≡ Some (None, pos 2)) × (status_at (rank_of 0 1) wrong_probe 3 0 ≡ None)
unfolding collectives name_of group_of clear_behind is_predefined life is_kept committed made_by persists frees completes commits copies parts_of parts_behind names_to_start start_of type_of repeated operation_need waits_for_wave ways_by fate_of item_of message_of message_started message_probed operations_at contradiction status_contradicts breaks_status open_wildcard
wrong_probe_gives = ((refl, refl), refl, refl)

-- a reduction whose operation does not take its type has its wave all the same
abbrev refused_reduction : List Call
refused_reduction = done (Frame Init) ∷ done (Collective (collective.Reduce false 4096 8192 (pos 1) 1 3 (pos 0) 1)) ∷ done (Frame Finalize) ∷ []

refused_reduction_gives : Give (rank_of 0 1) refused_reduction ([]) (at_once ∷ ((wave_of 0 1 ∷ []) ∷ []) ∷ at_once ∷ [])
unfolding collectives name_of group_of clear_behind is_predefined life is_kept committed made_by persists frees completes commits copies parts_of parts_behind names_to_start start_of type_of repeated operation_need waits_for_wave ways_by fate_of item_of message_of message_started message_probed operations_at contradiction status_contradicts breaks_status open_wildcard
refused_reduction_gives = (refl, refl)

-- sends to another rank, to none, and to a rank that is not there
abbrev sent_away : List Call
sent_away = done (Frame Init) ∷ done (Point (point.Send 4096 (pos 2) 7 (pos 1) (pos 0) 1)) ∷ done (Point (point.Ssend 4096 (pos 0) 7 (pos 1) (pos 5) 1)) ∷ done (Point (point.Send 4096 (pos 1) 7 (negsuc 0) (pos 0) 1)) ∷ done (Point (point.Send 4096 (pos 1) 7 (pos 2) (pos 0) 1)) ∷ done (Frame Finalize) ∷ []

sent_away_gives : Give (rank_of 0 2) sent_away (on_world Send 1 0 (0 ∷ 1 ∷ []) 0 0 1 (pos 0) (Int ∷ Int ∷ []) no_wild ∷ on_world Send 2 0 (0 ∷ 1 ∷ []) 0 0 1 (pos 5) [] no_wild ∷ []) (at_once ∷ ((want_of 0 1 0 true ∷ []) ∷ []) ∷ ((want_of 0 2 0 false ∷ []) ∷ []) ∷ at_once ∷ at_once ∷ at_once ∷ [])
unfolding collectives name_of group_of clear_behind is_predefined life is_kept committed made_by persists frees completes commits copies parts_of parts_behind names_to_start start_of type_of repeated operation_need waits_for_wave ways_by fate_of item_of message_of message_started message_probed operations_at contradiction status_contradicts breaks_status open_wildcard
sent_away_gives = (refl, refl)

-- two receives, of which the first takes any tag
abbrev received : List Call
received = done (Frame Init) ∷ done (Point (point.Recv 8192 (pos 1) 7 (pos 0) (negsuc 0) 1 (Some (status (pos 0) (pos 5))))) ∷ done (Point (point.Recv 8192 (pos 2) 4 (pos 0) (pos 5) 1 (Some (status (pos 0) (pos 5))))) ∷ done (Frame Finalize) ∷ []

received_gives : Give (rank_of 1 2) received (on_world Receive 1 0 (0 ∷ 1 ∷ []) 1 0 1 (pos 5) (Int ∷ []) (wild_at false true 1) ∷ on_world Receive 2 0 (0 ∷ 1 ∷ []) 1 0 1 (pos 5) (Byte ∷ Byte ∷ []) no_wild ∷ []) (at_once ∷ ((want_of 1 1 0 false ∷ []) ∷ []) ∷ ((want_of 1 2 0 false ∷ []) ∷ []) ∷ at_once ∷ [])
unfolding collectives name_of group_of clear_behind is_predefined life is_kept committed made_by persists frees completes commits copies parts_of parts_behind names_to_start start_of type_of repeated operation_need waits_for_wave ways_by fate_of item_of message_of message_started message_probed operations_at contradiction status_contradicts breaks_status open_wildcard
received_gives = (refl, refl)

-- a persistent request that is started while it is active
abbrev started_twice : List Call
started_twice = done (Frame Init) ∷ done (Persist (persist.RecvInit 4096 (pos 1) 7 (pos 0) (pos 0) 1 (Some 64))) ∷ done (Persist (persist.Start 64)) ∷ done (Persist (persist.Start 64)) ∷ done (Point (point.Bsend 8192 (pos 1) 7 (pos 0) (pos 0) 1)) ∷ done (Finish (finish.Wait 64 (Some (status (pos 0) (pos 0))))) ∷ done (Finish (finish.RequestFree 64)) ∷ done (Frame Finalize) ∷ []

started_twice_gives : Give (rank_of 0 1) started_twice (on_world Receive 2 0 (0 ∷ []) 0 0 0 (pos 0) (Int ∷ []) no_wild ∷ on_world Send 4 0 (0 ∷ []) 0 0 0 (pos 0) (Int ∷ []) no_wild ∷ []) (at_once ∷ at_once ∷ at_once ∷ at_once ∷ at_once ∷ ((want_of 0 2 0 false ∷ []) ∷ []) ∷ at_once ∷ at_once ∷ [])
unfolding collectives name_of group_of clear_behind is_predefined life is_kept committed made_by persists frees completes commits copies parts_of parts_behind names_to_start start_of type_of repeated operation_need waits_for_wave ways_by fate_of item_of message_of message_started message_probed operations_at contradiction status_contradicts breaks_status open_wildcard
started_twice_gives = (refl, refl)

-- a persistent request that is never freed
abbrev kept_open : List Call
kept_open = done (Frame Init) ∷ done (Persist (persist.RecvInit 4096 (pos 1) 7 (pos 0) (pos 0) 1 (Some 64))) ∷ done (Persist (persist.Start 64)) ∷ done (Point (point.Bsend 8192 (pos 1) 7 (pos 0) (pos 0) 1)) ∷ done (Finish (finish.Wait 64 (Some (status (pos 0) (pos 0))))) ∷ done (Frame Finalize) ∷ []

kept_open_gives : Give (rank_of 0 1) kept_open (on_world Receive 2 0 (0 ∷ []) 0 0 0 (pos 0) (Int ∷ []) no_wild ∷ on_world Send 3 0 (0 ∷ []) 0 0 0 (pos 0) (Int ∷ []) no_wild ∷ []) (at_once ∷ at_once ∷ at_once ∷ at_once ∷ ((want_of 0 2 0 false ∷ []) ∷ []) ∷ at_once ∷ [])
unfolding collectives name_of group_of clear_behind is_predefined life is_kept committed made_by persists frees completes commits copies parts_of parts_behind names_to_start start_of type_of repeated operation_need waits_for_wave ways_by fate_of item_of message_of message_started message_probed operations_at contradiction status_contradicts breaks_status open_wildcard
kept_open_gives = (refl, refl)

-- persistent requests that are started and completed together
abbrev started_together : List Call
started_together = done (Frame Init) ∷ done (Persist (persist.RecvInit 4096 (pos 2) 7 (pos 0) (pos 0) 1 (Some 64))) ∷ done (Persist (persist.RecvInit 4100 (pos 2) 7 (pos 0) (pos 1) 1 (Some 65))) ∷ done (Persist (persist.Startall (64 ∷ 65 ∷ []))) ∷ done (Point (point.Bsend 8192 (pos 2) 7 (pos 0) (pos 0) 1)) ∷ done (Point (point.Bsend 8192 (pos 2) 7 (pos 0) (pos 1) 1)) ∷ done (Finish (finish.Waitall (64 ∷ 65 ∷ []) (Some (status (pos 0) (pos 0) ∷ status (pos 0) (pos 1) ∷ [])))) ∷ done (Finish (finish.RequestFree 64)) ∷ done (Finish (finish.RequestFree 65)) ∷ done (Frame Finalize) ∷ []

started_together_gives : Give (rank_of 0 1) started_together (on_world Receive 3 0 (0 ∷ []) 0 0 0 (pos 0) (Int ∷ Int ∷ []) no_wild ∷ on_world Receive 3 1 (0 ∷ []) 0 0 0 (pos 1) (Int ∷ Int ∷ []) no_wild ∷ on_world Send 4 0 (0 ∷ []) 0 0 0 (pos 0) (Int ∷ Int ∷ []) no_wild ∷ on_world Send 5 0 (0 ∷ []) 0 0 0 (pos 1) (Int ∷ Int ∷ []) no_wild ∷ []) (at_once ∷ at_once ∷ at_once ∷ at_once ∷ at_once ∷ at_once ∷ ((want_of 0 3 0 false ∷ want_of 0 3 1 false ∷ []) ∷ []) ∷ at_once ∷ at_once ∷ at_once ∷ [])
unfolding collectives name_of group_of clear_behind is_predefined life is_kept committed made_by persists frees completes commits copies parts_of parts_behind names_to_start start_of type_of repeated operation_need waits_for_wave ways_by fate_of item_of message_of message_started message_probed operations_at contradiction status_contradicts breaks_status open_wildcard
started_together_gives = (refl, refl)

-- three sends of one class
abbrev three_sends : List Call
three_sends = done (Frame Init) ∷ done (Point (point.Send 4096 (pos 4) 7 (pos 1) (pos 0) 1)) ∷ done (Point (point.Send 4096 (pos 8) 7 (pos 1) (pos 0) 1)) ∷ done (Point (point.Send 4096 (pos 1) 7 (pos 1) (pos 0) 1)) ∷ done (Frame Finalize) ∷ []

three_sends_gives : Give (rank_of 0 2) three_sends (on_world Send 1 0 (0 ∷ 1 ∷ []) 0 0 1 (pos 0) (Int ∷ Int ∷ Int ∷ Int ∷ []) no_wild ∷ on_world Send 2 0 (0 ∷ 1 ∷ []) 0 0 1 (pos 0) (Int ∷ Int ∷ Int ∷ Int ∷ Int ∷ Int ∷ Int ∷ Int ∷ []) no_wild ∷ on_world Send 3 0 (0 ∷ 1 ∷ []) 0 0 1 (pos 0) (Int ∷ []) no_wild ∷ []) (at_once ∷ ((want_of 0 1 0 true ∷ []) ∷ []) ∷ ((want_of 0 2 0 true ∷ []) ∷ []) ∷ ((want_of 0 3 0 true ∷ []) ∷ []) ∷ at_once ∷ [])
unfolding collectives name_of group_of clear_behind is_predefined life is_kept committed made_by persists frees completes commits copies parts_of parts_behind names_to_start start_of type_of repeated operation_need waits_for_wave ways_by fate_of item_of message_of message_started message_probed operations_at contradiction status_contradicts breaks_status open_wildcard
three_sends_gives = (refl, refl)

-- and their receives
abbrev three_receives : List Call
three_receives = done (Frame Init) ∷ done (Point (point.Recv 8192 (pos 8) 7 (pos 0) (pos 0) 1 (Some (status (pos 0) (pos 0))))) ∷ done (Point (point.Recv 8192 (pos 4) 7 (pos 0) (pos 0) 1 (Some (status (pos 0) (pos 0))))) ∷ done (Point (point.Recv 8192 (pos 4) 4 (pos 0) (pos 0) 1 (Some (status (pos 0) (pos 0))))) ∷ done (Frame Finalize) ∷ []

three_receives_gives : Give (rank_of 1 2) three_receives (on_world Receive 1 0 (0 ∷ 1 ∷ []) 1 0 1 (pos 0) (Int ∷ Int ∷ Int ∷ Int ∷ Int ∷ Int ∷ Int ∷ Int ∷ []) no_wild ∷ on_world Receive 2 0 (0 ∷ 1 ∷ []) 1 0 1 (pos 0) (Int ∷ Int ∷ Int ∷ Int ∷ []) no_wild ∷ on_world Receive 3 0 (0 ∷ 1 ∷ []) 1 0 1 (pos 0) (Byte ∷ Byte ∷ Byte ∷ Byte ∷ []) no_wild ∷ []) (at_once ∷ ((want_of 1 1 0 false ∷ []) ∷ []) ∷ ((want_of 1 2 0 false ∷ []) ∷ []) ∷ ((want_of 1 3 0 false ∷ []) ∷ []) ∷ at_once ∷ [])
unfolding collectives name_of group_of clear_behind is_predefined life is_kept committed made_by persists frees completes commits copies parts_of parts_behind names_to_start start_of type_of repeated operation_need waits_for_wave ways_by fate_of item_of message_of message_started message_probed operations_at contradiction status_contradicts breaks_status open_wildcard
three_receives_gives = (refl, refl)

-- two sends of one tag
abbrev two_sends : List Call
two_sends = done (Frame Init) ∷ done (Point (point.Send 4096 (pos 1) 7 (pos 1) (pos 5) 1)) ∷ done (Point (point.Send 4096 (pos 2) 7 (pos 1) (pos 5) 1)) ∷ done (Frame Finalize) ∷ []

two_sends_gives : Give (rank_of 0 2) two_sends (on_world Send 1 0 (0 ∷ 1 ∷ []) 0 0 1 (pos 5) (Int ∷ []) no_wild ∷ on_world Send 2 0 (0 ∷ 1 ∷ []) 0 0 1 (pos 5) (Int ∷ Int ∷ []) no_wild ∷ []) (at_once ∷ ((want_of 0 1 0 true ∷ []) ∷ []) ∷ ((want_of 0 2 0 true ∷ []) ∷ []) ∷ at_once ∷ [])
unfolding collectives name_of group_of clear_behind is_predefined life is_kept committed made_by persists frees completes commits copies parts_of parts_behind names_to_start start_of type_of repeated operation_need waits_for_wave ways_by fate_of item_of message_of message_started message_probed operations_at contradiction status_contradicts breaks_status open_wildcard
two_sends_gives = (refl, refl)

-- a receive of any tag stands in the class of its status, before one that names the tag
abbrev any_tag_first : List Call
any_tag_first = done (Frame Init) ∷ done (Point (point.Recv 8192 (pos 1) 7 (pos 0) (negsuc 0) 1 (Some (status (pos 0) (pos 5))))) ∷ done (Point (point.Recv 8192 (pos 1) 7 (pos 0) (pos 5) 1 (Some (status (pos 0) (pos 5))))) ∷ done (Frame Finalize) ∷ []

any_tag_first_gives : Give (rank_of 1 2) any_tag_first (on_world Receive 1 0 (0 ∷ 1 ∷ []) 1 0 1 (pos 5) (Int ∷ []) (wild_at false true 1) ∷ on_world Receive 2 0 (0 ∷ 1 ∷ []) 1 0 1 (pos 5) (Int ∷ []) no_wild ∷ []) (at_once ∷ ((want_of 1 1 0 false ∷ []) ∷ []) ∷ ((want_of 1 2 0 false ∷ []) ∷ []) ∷ at_once ∷ [])
unfolding collectives name_of group_of clear_behind is_predefined life is_kept committed made_by persists frees completes commits copies parts_of parts_behind names_to_start start_of type_of repeated operation_need waits_for_wave ways_by fate_of item_of message_of message_started message_probed operations_at contradiction status_contradicts breaks_status open_wildcard
any_tag_first_gives = (refl, refl)
