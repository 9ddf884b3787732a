-- A walk stands for one call more.
use Rattle.std.proofs.Common.{◌≡◌, ℕ, ◌+◌, Bool, true, false, cond, ◌==◌, List, [], ◌∷◌, ◌++◌, length, map, Option, Some, None, refl, sym, ap, subst, ◌∙◌, inl, inr, arith, length-append, append_assoc}
use Rattle.std.specs.Prelude.{◌⊎◌, ◌↔◌, ◌&&◌, is_none, is_some, slice_get}
use mathlib.Core.Path.{fun_ext}
use Rattle.must_call.specs.declared.class.Class.TheVariants as call_class
use Rattle.must_rules.specs.Lives as lives
use Rattle.must_rules.specs.Types.{type_of, sound_type}
use Rattle.must_rules.specs.Reductions.{wrong_operation}
use Rattle.must_derived.specs.Numbers.{number_of}
use Rattle.must_derived.specs.StandingLaws.{number_sound}
use Rattle.std.specs.List.{AllByRecursion}
use Rattle.std.proofs.lemmas.List.{append-nil, map-append}
use Rattle.std.proofs.lemmas.Bool.{eqb-true, eq-eqb}
use Rattle.must_call.specs.declared.class.Class.{Class}
use Rattle.must_call.specs.declared.class.Class.TheVariants.{Comm, Group, Datatype, Operation, Request}
use Rattle.must_call.specs.declared.call.Call.{Call}
use Rattle.must_find.specs.declared.rule.Rule.{Rule}
use Rattle.must_find.specs.declared.rule.Rule.TheVariants.{I1, I2, I3, A1, A2, A3, A4, A5, A6, A7, H1, H2, H3, H4, H5, T1, T2, T3, S1, N1, C6, L1, L2, L3, L4, L5}
use Rattle.must_find.specs.declared.finding.Finding.{Finding}
use Rattle.must_base.specs.Listing.{Has, Rises}
use Rattle.must_find.specs.Order.{by_all}
use Rattle.must_find.specs.OrderLaws.{by_all_total}
use Rattle.must_rules.specs.Answer.{Answer, at_part}
use Rattle.must_rules.specs.Rank.{Rank}
use Rattle.must_rules.specs.Search.{first_where, or_then, only_if}
use Rattle.must_rules.specs.SearchLaws.{first_more}
use Rattle.must_rules.specs.Frames.{is_init, is_finalize, first_init, first_finalize, ends_returned, last_returned, init_answer, seeing, outside_init, after_finalize, missing, no_finalize}
use Rattle.must_rules.specs.Lives.{open_handles}
use Rattle.must_rules.specs.Leaks.{ends_rank, leak, leak_in, not_freed}
use Rattle.must_rules.specs.Local.{finding_behind, finding_whole, breaches_at, operation_untaken, IsBehind, IsHere, IsWhole, IsLocal}
use Rattle.must_rules.specs.LocalLaws.{here_none, here_more, here_again, here_last, here_within, here_whole, local_here, local_whole, local_cases}
use Rattle.must_local.specs.Distinct.{AreDistinct}
use Rattle.must_local.specs.DistinctLaws.{has_append, has_front, has_behind, distinct_append, rises_distinct}
use Rattle.must_find.specs.Adds.{Adds}
use Rattle.must_call.specs.declared.place.Place.{Place}
use Rattle.must_rules.specs.Starts.{Clearness}
use Rattle.must_rules.specs.Breaches.{Breach, IsBreach, AddsBreaches}
use Rattle.must_rules.specs.Clear.{argument_breaches}
use Rattle.must_rules.specs.Known.{clear_behind}
use Rattle.must_format.specs.declared.cause.Limit.{Limit}
use Rattle.must_rules.specs.Limits.{or_limit, handle_limit_at, limit_at, IsWithin}
use Rattle.must_rules.specs.Overlaps.{overlap_within, overlap_between}
use Rattle.must_rules.specs.PendingOperations.{parts_behind, pending_clash, pending_limit_at}
use Rattle.must_parts.specs.Rows.{BufferRows}
use Rattle.must_parts.specs.Rows as buffer_rows
use Rattle.must_parts.specs.Standing as parts
use Rattle.must_local.specs.declared.fault.WalkFault.TheVariants as walk_fault
use Rattle.must_rules.specs.LimitLaws.{within_none, within_more}
use Rattle.must_rules.specs.Numbered.{AreNumbered}
use Rattle.must_rules.specs.Communicators.{derived_of}
use Rattle.must_local.specs.Objects.{HasMembers}
use Rattle.must_rules.specs.WrongLaws.{place_behind, breach_found, found_breach}
use Rattle.must_handle.specs.Slots.{Stands, start_in}
use Rattle.must_local.specs.HandlesKnown.{facts_in, IsLimitAt, HandlesStand}
use Rattle.must_local.specs.declared.fault.WalkFault.{WalkFault}
use Rattle.must_local.proofs.Facing.{facts_are, breaches_are}
use Rattle.must_entry.specs.declared.batch.Batch.{Batch}
use Rattle.must_entry.specs.Entries.{Waits, rows_of}
use Rattle.must_entry.specs.Entries as entries
use Rattle.must_coll.specs.declared.item.WaveItem.{WaveItem}
use Rattle.must_items.specs.CollectiveLists.{IsGivenBy, AreItemsOf}
use Rattle.must_items.specs.ListLaws.{items_more}
use Rattle.must_local.specs.Adding.{IsOfRule, FrameRows, ArgumentRows, OperationRows, StatusRows, ClassRows, LeakRows, LeakRowsAt, LateRows, RowsBeside, HasRowsBeside, RowsAt, MissingRows, HasMissing, RowsAtEnd}
use Rattle.must_local.specs.declared.handles.Handles.{Handles}
use Rattle.must_local.specs.declared.traffic.Traffic.{Traffic}
use Rattle.must_local.specs.TrafficStands.{TrafficStands, EndGives, GivesEnd}
use Rattle.must_local.specs.Walks.{WalkState, rank_by, Knows, Walks, GivesAll, IsMiddle, all_rows, collectives, message_items, call_needs, RankTold}
use Rattle.must_local.proofs.Gathered.{behind_others, adds_then}
use Rattle.must_local.proofs.Numbering.{numbered_more}
use Rattle.must_handle.specs.Changes.{IsNext}
use Rattle.must_rules.specs.Statuses.{status_contradicts}
use Rattle.must_hold.specs.Keeping.{Gives, GivesMore, IsOpenWildcard}
use Rattle.must_messages.specs.MessageItems.{Item, item_seen, items_of}
use Rattle.must_messages.specs.Holding.{items_given}
use Rattle.must_p2p.specs.declared.item.MsgItem.{MsgItem}
use Rattle.must_entry.specs.declared.entry.Entry.{Entry}
use Rattle.must_entry.specs.declared.entry.Entry.TheVariants.{Row, Wave}

-- ---- the tables

returned_more : (b : Bool) (calls : List Call) (call : Call) → last_returned b (calls ++ call ∷ []) ≡ call.returned
returned_more b [] call = refl
returned_more b (c ∷ calls) call = returned_more c.returned calls call

first_next : (test : Call → Bool) (calls : List Call) (call : Call) (o : Option ℕ) (k : ℕ) → o ≡ first_where test calls → k ≡ length calls
    → or_then o (only_if (test call) k) ≡ first_where test (calls ++ call ∷ [])
first_next test calls call o k e n = ap (λ (x : Option ℕ). or_then x (only_if (test call) k)) e ∙ ap (λ m. or_then (first_where test calls) (only_if (test call) m)) n ∙ sym (first_more test calls call)

pub knows_next : (version : ℕ) (w v : WalkState) (calls : List Call) (call : Call) → Knows version w calls → v.number ≡ w.number + 1 → v.init ≡ or_then w.init (only_if (is_init call) w.number) → v.finalize ≡ or_then w.finalize (only_if (is_finalize call) w.number)
    → v.returned ≡ call.returned → HandlesStand (rank_by version v.rank) v.handles (calls ++ call ∷ []) → parts.Stands (rank_by version v.rank) (calls ++ call ∷ []) v.buffers
    → TrafficStands (rank_by version v.rank) (calls ++ call ∷ []) v.traffic → AreNumbered 64 (calls ++ call ∷ []) → Knows version v (calls ++ call ∷ [])
knows_next version w v calls call knows n i f r stands buffers traffic numbered = record {
  number = omega (arith, n, knows.number, length-append calls (call ∷ []));
  init = i ∙ first_next is_init calls call w.init w.number knows.init knows.number;
  finalize = f ∙ first_next is_finalize calls call w.finalize w.number knows.finalize knows.number;
  returned = r ∙ sym (returned_more true calls call);
  handles = stands;
  buffers = buffers;
  traffic = traffic;
  numbered = numbered;
}

-- ---- the rows of a call

abbrev AllRows : Rank → List Call → Call → Finding → Type 0
AllRows r calls call f = RowsBeside r calls call f ⊎ LateRows r calls call f

of_buffer : (r : Rank) (calls : List Call) (rule : Rule) (answers : ℕ → Option Answer) (f : Finding) → f.rank ≡ r.rank → f.call ≡ length calls → f.rule ≡ rule → answers f.part ≡ Some (f.see, f.value) → buffer_rows.IsOfRule (place_behind r calls) rule answers f
of_buffer r calls rule answers f a b c d = record { rank_is = a; call_is = b; rule_is = c; gives = d }

no_answer : (a : Answer) {P : Type 0} → None ≡ Some a → P
no_answer a e = absurd cc

of_rule : (r : Rank) (calls : List Call) (rule : Rule) (answers : ℕ → Option Answer) (f : Finding) → f.rank ≡ r.rank → f.call ≡ length calls → f.rule ≡ rule → answers f.part ≡ Some (f.see, f.value) → IsOfRule r.rank (length calls) rule answers f
of_rule r calls rule answers f a b c d = record { rank_is = a; call_is = b; rule_is = c; gives = d }

leaks_from : (r : Rank) (calls : List Call) (class : Class) (rule : Rule) (f : Finding) (b : Bool) → f.rank ≡ r.rank → f.call ≡ length calls → f.rule ≡ rule → leak_in r.rank b (open_handles calls class) f.part ≡ Some (f.see, f.value)
    → (ClassRows r.rank (length calls) class rule calls f → LeakRows r.rank (length calls) calls f) → LeakRowsAt r.rank (length calls) b calls f
leaks_from r calls class rule f true a n c d to = to (of_rule r calls rule (λ p. leak r.rank (slice_get (open_handles calls class) p)) f a n c d)
leaks_from r calls class rule f false a n c d to = no_answer (f.see, f.value) d

cases_by : (r : Rank) (calls : List Call) (call : Call) (f : Finding) (rule : Rule) → f.rule ≡ rule → f.rank ≡ r.rank → f.call ≡ length calls → finding_behind r calls call rule f.part ≡ Some (f.see, f.value) → AllRows r calls call f
unfolding outside_init after_finalize not_freed
cases_by r calls call f I1 e a n d = inl (inl (inl (of_rule r calls I1 (at_part 0 (init_answer r.rank (is_init call) (first_init calls))) f a n e d)))
cases_by r calls call f I2 e a n d = inl (inl (inr (of_rule r calls I2 (at_part 0 (seeing r.rank (first_finalize calls))) f a n e d)))
cases_by r calls call f A1 e a n d = inl (inr (inl (found_breach r calls call f A1 e refl a n d)))
cases_by r calls call f A2 e a n d = inl (inr (inl (found_breach r calls call f A2 e refl a n d)))
cases_by r calls call f A3 e a n d = inl (inr (inl (found_breach r calls call f A3 e refl a n d)))
cases_by r calls call f A4 e a n d = inl (inr (inl (found_breach r calls call f A4 e refl a n d)))
cases_by r calls call f A5 e a n d = inl (inr (inl (found_breach r calls call f A5 e refl a n d)))
cases_by r calls call f A6 e a n d = inl (inr (inl (found_breach r calls call f A6 e refl a n d)))
cases_by r calls call f A7 e a n d = inl (inr (inl (found_breach r calls call f A7 e refl a n d)))
cases_by r calls call f H1 e a n d = inl (inr (inl (found_breach r calls call f H1 e refl a n d)))
cases_by r calls call f H2 e a n d = inl (inr (inl (found_breach r calls call f H2 e refl a n d)))
cases_by r calls call f H3 e a n d = inl (inr (inl (found_breach r calls call f H3 e refl a n d)))
cases_by r calls call f H4 e a n d = inl (inr (inl (found_breach r calls call f H4 e refl a n d)))
cases_by r calls call f H5 e a n d = inl (inr (inl (found_breach r calls call f H5 e refl a n d)))
cases_by r calls call f T1 e a n d = inr (inr (inl (inl (of_buffer r calls T1 (overlap_within (parts_behind r calls call)) f a n e d))))
cases_by r calls call f T2 e a n d = inr (inr (inl (inr (of_buffer r calls T2 (overlap_between (parts_behind r calls call)) f a n e d))))
cases_by r calls call f T3 e a n d = inr (inr (inr (of_buffer r calls T3 (pending_clash r calls call) f a n e d)))
cases_by r calls call f S1 e a n d = inr (inl (of_rule r calls S1 (status_contradicts r calls call) f a n e d))
cases_by r calls call f C6 e a n d = inl (inr (inr (inl (of_rule r calls C6 (at_part 0 (operation_untaken r calls call)) f a n e d))))
cases_by r calls call f L1 e a n d = inl (inr (inr (inr (leaks_from r calls Datatype L1 f (ends_rank calls call) a n e d (λ x. inl x)))))
cases_by r calls call f L2 e a n d = inl (inr (inr (inr (leaks_from r calls Comm L2 f (ends_rank calls call) a n e d (λ x. inr (inl x))))))
cases_by r calls call f L3 e a n d = inl (inr (inr (inr (leaks_from r calls Group L3 f (ends_rank calls call) a n e d (λ x. inr (inr (inl x)))))))
cases_by r calls call f L4 e a n d = inl (inr (inr (inr (leaks_from r calls Operation L4 f (ends_rank calls call) a n e d (λ x. inr (inr (inr (inl x))))))))
cases_by r calls call f L5 e a n d = inl (inr (inr (inr (leaks_from r calls Request L5 f (ends_rank calls call) a n e d (λ x. inr (inr (inr (inr x))))))))
cases_by r calls call f _ e a n d = no_answer (f.see, f.value) d

-- a finding of a rule is one of the call
by_rule : (r : Rank) (calls : List Call) (call : Call) (rule : Rule) (answers : ℕ → Option Answer) (f : Finding) → IsOfRule r.rank (length calls) rule answers f → finding_behind r calls call rule f.part ≡ answers f.part → IsBehind r calls call f
by_rule r calls call rule answers f is e = record { rank_is = is.rank_is; call_is = is.call_is; gives = ap (λ (x : Rule). finding_behind r calls call x f.part) is.rule_is ∙ e ∙ is.gives }

frames_to : (r : Rank) (calls : List Call) (call : Call) (f : Finding) → FrameRows r.rank (length calls) (first_init calls) (first_finalize calls) call f → IsBehind r calls call f
unfolding outside_init after_finalize
frames_to r calls call f (inl is) = by_rule r calls call I1 (at_part 0 (init_answer r.rank (is_init call) (first_init calls))) f is refl
frames_to r calls call f (inr is) = by_rule r calls call I2 (at_part 0 (seeing r.rank (first_finalize calls))) f is refl

arguments_to : (r : Rank) (calls : List Call) (call : Call) (f : Finding) → ArgumentRows r calls call f → IsBehind r calls call f
arguments_to r calls call f is = breach_found r calls call f is

leaks_to : (r : Rank) (calls : List Call) (call : Call) (f : Finding) (b : Bool) → ends_rank calls call ≡ b → LeakRowsAt r.rank (length calls) b calls f → IsBehind r calls call f
unfolding not_freed
leaks_to r calls call f false e h = absurd h
leaks_to r calls call f true e (inl is) = by_rule r calls call L1 (λ p. leak r.rank (slice_get (open_handles calls Datatype) p)) f is (ap (λ b. leak_in r.rank b (open_handles calls Datatype) f.part) e)
leaks_to r calls call f true e (inr (inl is)) = by_rule r calls call L2 (λ p. leak r.rank (slice_get (open_handles calls Comm) p)) f is (ap (λ b. leak_in r.rank b (open_handles calls Comm) f.part) e)
leaks_to r calls call f true e (inr (inr (inl is))) = by_rule r calls call L3 (λ p. leak r.rank (slice_get (open_handles calls Group) p)) f is (ap (λ b. leak_in r.rank b (open_handles calls Group) f.part) e)
leaks_to r calls call f true e (inr (inr (inr (inl is)))) = by_rule r calls call L4 (λ p. leak r.rank (slice_get (open_handles calls Operation) p)) f is (ap (λ b. leak_in r.rank b (open_handles calls Operation) f.part) e)
leaks_to r calls call f true e (inr (inr (inr (inr is)))) = by_rule r calls call L5 (λ p. leak r.rank (slice_get (open_handles calls Request) p)) f is (ap (λ b. leak_in r.rank b (open_handles calls Request) f.part) e)

buffers_to : (r : Rank) (calls : List Call) (call : Call) (f : Finding) → BufferRows (place_behind r calls) r calls call f → IsBehind r calls call f
buffers_to r calls call f (inl (inl is)) = record { rank_is = is.rank_is; call_is = is.call_is; gives = ap (λ (x : Rule). finding_behind r calls call x f.part) is.rule_is ∙ is.gives }
buffers_to r calls call f (inl (inr is)) = record { rank_is = is.rank_is; call_is = is.call_is; gives = ap (λ (x : Rule). finding_behind r calls call x f.part) is.rule_is ∙ is.gives }
buffers_to r calls call f (inr is) = record { rank_is = is.rank_is; call_is = is.call_is; gives = ap (λ (x : Rule). finding_behind r calls call x f.part) is.rule_is ∙ is.gives }

late_to : (r : Rank) (calls : List Call) (call : Call) (f : Finding) → LateRows r calls call f → IsBehind r calls call f
late_to r calls call f (inl is) = by_rule r calls call S1 (status_contradicts r calls call) f is refl
late_to r calls call f (inr is) = buffers_to r calls call f is

beside_to : (r : Rank) (calls : List Call) (call : Call) (f : Finding) → RowsBeside r calls call f → IsBehind r calls call f
beside_to r calls call f (inl is) = frames_to r calls call f is
beside_to r calls call f (inr (inl is)) = arguments_to r calls call f is
beside_to r calls call f (inr (inr (inl is))) = by_rule r calls call C6 (at_part 0 (operation_untaken r calls call)) f is refl
beside_to r calls call f (inr (inr (inr is))) = leaks_to r calls call f (ends_rank calls call) refl is

-- what the families add but those that come late
pub rows_beside : (r : Rank) (calls : List Call) (call : Call) (a b o d : List Finding)
    → Adds [] a (FrameRows r.rank (length calls) (first_init calls) (first_finalize calls) call) → Adds a b (ArgumentRows r calls call) → Adds b o (OperationRows r calls call)
    → Adds o d (LeakRowsAt r.rank (length calls) (ends_rank calls call) calls) → HasRowsBeside r calls call d
rows_beside r calls call a b o d frames arguments operations leaks = record {
  exact = λ f. (
    λ h. elim ((leaks f).0 h) [
      | inl in_o ↦ elim ((operations f).0 in_o) [
        | inl in_b ↦ elim ((arguments f).0 in_b) [
          | inl in_a ↦ elim ((frames f).0 in_a) [ inl none ↦ absurd none | inr is ↦ inl is ]
          | inr is ↦ inr (inl is)
        ]
        | inr is ↦ inr (inr (inl is))
      ]
      | inr is ↦ inr (inr (inr is))
    ],
    λ is. elim is [
      | inl x ↦ (leaks f).1 (inl ((operations f).1 (inl ((arguments f).1 (inl ((frames f).1 (inr x)))))))
      | inr (inl x) ↦ (leaks f).1 (inl ((operations f).1 (inl ((arguments f).1 (inr x)))))
      | inr (inr (inl x)) ↦ (leaks f).1 (inl ((operations f).1 (inr x)))
      | inr (inr (inr x)) ↦ (leaks f).1 (inr x)
    ],
  );
}

-- what all families add is what stands at the call
pub rows_behind : (r : Rank) (calls : List Call) (call : Call) (d e : List Finding) → HasRowsBeside r calls call d → Adds d e (LateRows r calls call) → Rises by_all e → RowsAt r calls call e
rows_behind r calls call d e has adds rises = record {
  rises = rises;
  exact = λ f. (
    λ h. elim ((adds f).0 h) [ inl there ↦ beside_to r calls call f ((has.exact f).0 there) | inr is ↦ late_to r calls call f is ],
    λ is. elim (cases_by r calls call f f.rule refl is.rank_is is.call_is is.gives) [ inl x ↦ (adds f).1 (inl ((has.exact f).1 x)) | inr x ↦ (adds f).1 (inr x) ],
  );
}

-- the same, by what the tables tell
pub rows_known : (version : ℕ) (w : WalkState) (calls : List Call) (call : Call) (ends : Bool) (a b o d : List Finding) → Knows version w calls → ends ≡ is_finalize call && is_none w.finalize
    → Adds [] a (FrameRows (rank_by version w.rank).rank w.number w.init w.finalize call) → Adds a b (ArgumentRows (rank_by version w.rank) calls call) → Adds b o (OperationRows (rank_by version w.rank) calls call)
    → Adds o d (LeakRowsAt (rank_by version w.rank).rank w.number ends calls) → HasRowsBeside (rank_by version w.rank) calls call d
rows_known version w calls call ends a b o d knows e frames arguments operations leaks =
    let r = rank_by version w.rank in
    let n = knows.number in
    rows_beside r calls call a b o d
    (subst (λ (o : Option ℕ). Adds [] a (FrameRows r.rank (length calls) (first_init calls) o call)) knows.finalize
    (subst (λ (o : Option ℕ). Adds [] a (FrameRows r.rank (length calls) o w.finalize call)) knows.init
    (subst (λ (m : ℕ). Adds [] a (FrameRows r.rank m w.init w.finalize call)) n frames)))
    arguments operations
    (subst (λ (x : Bool). Adds o d (LeakRowsAt r.rank (length calls) x calls)) (e ∙ ap (λ (o : Option ℕ). is_finalize call && is_none o) knows.finalize)
    (subst (λ (m : ℕ). Adds o d (LeakRowsAt r.rank m ends calls)) n leaks))

-- ---- the batches

-- before the first call
pub walks_first : (version : ℕ) (w : WalkState) → w.number ≡ 0 → w.init ≡ None → w.finalize ≡ None → w.returned ≡ true → HandlesStand (rank_by version w.rank) w.handles [] → parts.Stands (rank_by version w.rank) [] w.buffers
    → TrafficStands (rank_by version w.rank) [] w.traffic → Walks version w [] []
walks_first version w n i f r stands buffers traffic = record {
  knows = record { number = n; init = i; finalize = f; returned = r; handles = stands; buffers = buffers; traffic = traffic; numbered = tt };
  once = tt;
  rows = λ g. (λ h. absurd h, λ is. absurd (here_none (rank_by version w.rank) g is));
  waves = refl;
  messages = refl;
  needs = refl;
  middle = tt;
  members = tt;
  within = within_none (rank_by version w.rank);
}

all_more : (given : List Batch) (batch : Batch) → all_rows (given ++ batch ∷ []) ≡ all_rows given ++ rows_of batch.entries
all_more [] batch = append-nil (rows_of batch.entries)
all_more (b ∷ given) batch = ap (λ (fs : List Finding). rows_of b.entries ++ fs) (all_more given batch) ∙ sym (append_assoc (rows_of b.entries) (all_rows given) (rows_of batch.entries))

collectives_more : (given : List Batch) (batch : Batch) → collectives (given ++ batch ∷ []) ≡ collectives given ++ entries.calls batch.entries
collectives_more [] batch = append-nil (entries.calls batch.entries)
collectives_more (b ∷ given) batch =
    ap (λ (l : List WaveItem). entries.calls b.entries ++ l) (collectives_more given batch) ∙ sym (append_assoc (entries.calls b.entries) (collectives given) (entries.calls batch.entries))

messages_more : (given : List Batch) (batch : Batch) → message_items (given ++ batch ∷ []) ≡ message_items given ++ entries.messages batch.entries
messages_more [] batch = append-nil (entries.messages batch.entries)
messages_more (b ∷ given) batch =
    ap (λ (l : List MsgItem). entries.messages b.entries ++ l) (messages_more given batch) ∙ sym (append_assoc (entries.messages b.entries) (message_items given) (entries.messages batch.entries))

needs_more : (given : List Batch) (batch : Batch) → call_needs (given ++ batch ∷ []) ≡ call_needs given ++ entries.needs batch.entries
needs_more [] batch = append-nil (entries.needs batch.entries)
needs_more (b ∷ given) batch =
    ap (λ (l : List Waits). entries.needs b.entries ++ l) (needs_more given batch) ∙ sym (append_assoc (entries.needs b.entries) (call_needs given) (entries.needs batch.entries))

all_push : {X : Type 0} (P : X → Type 0) (xs : List X) (x : X) → AllByRecursion P xs → P x → AllByRecursion P (xs ++ x ∷ [])
all_push P [] x all p = (p, tt)
all_push P (y ∷ ys) x all p = (all.0, all_push P ys x all.1 p)

-- rows that come behind others, with none of those
pub record Joins (P : Finding → Type 0) (fs : List Finding) : Type 0 where
  pub once : AreDistinct fs
  pub rows : (f : Finding) → Has fs f ↔ P f

joined : (P Q R : Finding → Type 0) (fs gs : List Finding) → Joins P fs → Joins Q gs → ((f : Finding) → P f → Q f → ⊥) → ((f : Finding) → P f → R f) → ((f : Finding) → Q f → R f) → ((f : Finding) → R f → P f ⊎ Q f) → Joins R (fs ++ gs)
joined P Q R fs gs old new apart p q r = record {
  once = distinct_append fs gs old.once new.once (λ f h k. apart f ((old.rows f).0 h) ((new.rows f).0 k));
  rows = λ f. (
    λ h. elim (has_append fs gs f h) [ inl there ↦ p f ((old.rows f).0 there) | inr there ↦ q f ((new.rows f).0 there) ],
    λ is. elim (r f is) [ inl x ↦ has_front fs gs f ((old.rows f).1 x) | inr x ↦ has_behind fs gs f ((new.rows f).1 x) ],
  );
}

-- what the batch of a call has: its rows, what it gives to its wave, and the messages that are given now
pub record HasEntries (r : Rank) (calls : List Call) (call : Call) (rows : List Finding) (es : List Entry) : Type 0 where
  pub rows_are : rows_of es ≡ rows
  pub wave : IsGivenBy r calls call (entries.calls es)
  pub messages : items_given r (calls ++ call ∷ []) ≡ items_given r calls ++ map item_seen (entries.messages es)
  pub needs : entries.needs es ≡ []

pub walks_more : (version : ℕ) (w v : WalkState) (calls : List Call) (call : Call) (given : List Batch) (batch : Batch) (rows : List Finding) → Knows version v (calls ++ call ∷ []) → limit_at (rank_by version w.rank) calls call ≡ None → v.rank ≡ w.rank → RowsAt (rank_by version w.rank) calls call rows
    → HasEntries (rank_by version w.rank) calls call rows batch.entries → batch.rank ≡ (rank_by version w.rank).rank → batch.last ≡ false → HasMembers (derived_of call.body) → Walks version w calls given → Walks version v (calls ++ call ∷ []) (given ++ batch ∷ [])
walks_more version w v calls call given batch rows knows none same at has rank_is goes_on members walks =
    let r = rank_by version w.rank in
    let r_is : rank_by version v.rank ≡ r = ap (rank_by version) same in
    let new : Joins (IsBehind r calls call) (rows_of batch.entries) = subst (Joins (IsBehind r calls call)) (sym has.rows_are) (record { once = rises_distinct by_all by_all_total rows at.rises; rows = at.exact }) in
    let all = joined (IsHere r calls) (IsBehind r calls call) (IsHere r (calls ++ call ∷ [])) (all_rows given) (rows_of batch.entries) (record { once = walks.once; rows = walks.rows }) new
    (λ f h k. absurd (omega (arith, here_within r calls f h, k.call_is))) (here_again r calls call) (here_last r calls call) (here_more r calls call) in
    let here : Joins (IsHere (rank_by version v.rank) (calls ++ call ∷ [])) (all_rows (given ++ batch ∷ [])) =
    subst (λ (s : Rank). Joins (IsHere s (calls ++ call ∷ [])) (all_rows (given ++ batch ∷ []))) (sym r_is) (subst (Joins (IsHere r (calls ++ call ∷ []))) (sym (all_more given batch)) all) in
    let sent : map item_seen (message_items (given ++ batch ∷ [])) ≡ items_given r (calls ++ call ∷ []) =
    ap (map item_seen) (messages_more given batch) ∙ map-append item_seen (message_items given) (entries.messages batch.entries)
    ∙ ap (λ (l : List Item). l ++ map item_seen (entries.messages batch.entries)) walks.messages ∙ sym has.messages in
    record {
      knows = knows;
      once = here.once;
      rows = here.rows;
      waves = subst (λ (s : Rank). AreItemsOf s (calls ++ call ∷ []) (collectives (given ++ batch ∷ []))) (sym r_is)
          (subst (AreItemsOf r (calls ++ call ∷ [])) (sym (collectives_more given batch)) (items_more r calls call (collectives given) (entries.calls batch.entries) walks.waves has.wave));
      messages = sent ∙ ap (λ (s : Rank). items_given s (calls ++ call ∷ [])) (sym r_is);
      needs = needs_more given batch ∙ ap (λ (l : List Waits). l ++ entries.needs batch.entries) walks.needs ∙ has.needs;
      middle = subst (λ (s : Rank). AllByRecursion (IsMiddle s.rank) (given ++ batch ∷ [])) (sym r_is) (all_push (IsMiddle r.rank) given batch walks.middle (record { rank_is = rank_is; goes_on = goes_on }));
      members = all_push (λ (c : Call). HasMembers (derived_of c.body)) calls call walks.members members;
      within = subst (λ (s : Rank). IsWithin s (calls ++ call ∷ [])) (sym r_is) (within_more r calls call walks.within none);
    }

-- the entries of a call: what is given of messages and needs, its rows, and what it gives to its wave
pub entries_with : (r : Rank) (calls : List Call) (call : Call) (more es : List Entry) (rows : List Finding) (waves : List WaveItem) → Gives r calls (calls ++ call ∷ []) more → es ≡ (more ++ map Row rows) ++ map Wave waves → IsGivenBy r calls call waves → HasEntries r calls call rows es
entries_with r calls call more es rows waves gives are wave =
    let parts = behind_others more rows waves gives.rows gives.waves in
    let all = (more ++ map Row rows) ++ map Wave waves in
    subst (HasEntries r calls call rows) (sym are) (record {
      rows_are = parts.rows_are;
      wave = subst (IsGivenBy r calls call) (sym parts.calls_are) wave;
      messages = gives.items ∙ ap (λ (l : List MsgItem). items_given r calls ++ map item_seen l) (sym parts.messages_are);
      needs = parts.needs_are ∙ gives.wants;
    })

-- ---- the same of a walk whose fields tell its state

-- what the rules of arguments add is what is known to be broken
arguments_told : (version : ℕ) (w : WalkState) (calls : List Call) (call : Call) (at : Place) (a b : List Finding) → Knows version w calls → at.rank ≡ w.handles.rank → at.call ≡ w.number
    → AddsBreaches at a b (argument_breaches (facts_in w.handles) (λ n. start_in w.handles.lives n) at.call call.body) → Adds a b (ArgumentRows (rank_by version w.rank) calls call)
arguments_told version w calls call at a b knows rank number adds =
    let r = rank_by version w.rank in
    let bs = breaches_are r w.handles calls call at.call knows.handles (number ∙ knows.number) in
    let there : at ≡ place_behind r calls = λ i. record { rank = (rank ∙ knows.handles.rank_is) i; call = (number ∙ knows.number) i } in
    subst (λ (p : Place). Adds a b (IsBreach p (breaches_at r calls call))) there (subst (λ (xs : List Breach). Adds a b (IsBreach at xs)) bs adds.exact)

-- what the rule of operations adds is what is known of them
operation_told : (version : ℕ) (w : WalkState) (calls : List Call) (call : Call) (at : Place) (b o : List Finding) → Knows version w calls → at.rank ≡ w.handles.rank → at.call ≡ w.number
    → Adds b o (IsOfRule at.rank at.call C6 (at_part 0 (wrong_operation (facts_in w.handles) (λ h. is_some (number_of w.handles.types.numbers h)) call.body))) → Adds b o (OperationRows (rank_by version w.rank) calls call)
unfolding operation_untaken
operation_told version w calls call at b o knows rank number adds =
    let r = rank_by version w.rank in
    let s = knows.handles in
    let sound : (λ h. is_some (number_of w.handles.types.numbers h)) ≡ sound_type (clear_behind r) calls = fun_ext (λ (h : ℕ). number_sound (number_of w.handles.types.numbers h) w.handles.types.table.slots (lives.life calls call_class.Datatype h) (type_of (clear_behind r) calls h) (s.types.fits h)) in
    subst (λ (x : Option Answer). Adds b o (IsOfRule r.rank (length calls) C6 (at_part 0 x))) (λ i. wrong_operation (facts_are r w.handles calls s i) (sound i) call.body)
    (subst (λ (k : ℕ). Adds b o (IsOfRule r.rank k C6 (at_part 0 (wrong_operation (facts_in w.handles) (λ h. is_some (number_of w.handles.types.numbers h)) call.body)))) (number ∙ knows.number)
    (subst (λ (k : ℕ). Adds b o (IsOfRule k at.call C6 (at_part 0 (wrong_operation (facts_in w.handles) (λ h. is_some (number_of w.handles.types.numbers h)) call.body)))) (rank ∙ s.rank_is) adds))

pub rows_seen : (version : ℕ) (w x : WalkState) → w ≡ x → (calls : List Call) (call : Call) (at : Place) (is ends : Bool) (z a b o d : List Finding) → z ≡ [] → Knows version x calls → is ≡ is_finalize call → ends ≡ is && is_none w.finalize
    → at.rank ≡ w.handles.rank → at.call ≡ w.number → w.rank.rank ≡ w.handles.rank
    → Adds z a (FrameRows at.rank at.call w.init w.finalize call) → AddsBreaches at a b (argument_breaches (facts_in w.handles) (λ n. start_in w.handles.lives n) at.call call.body)
    → Adds b o (IsOfRule at.rank at.call C6 (at_part 0 (wrong_operation (facts_in w.handles) (λ h. is_some (number_of w.handles.types.numbers h)) call.body)))
    → ((is_clear : Clearness) → Stands is_clear w.handles.lives calls → Adds o d (LeakRowsAt at.rank at.call ends calls)) → HasRowsBeside (rank_by version x.rank) calls call d
rows_seen version w x e calls call at is ends z a b o d none knows f g rank number own frames arguments operations leaks =
    let k : Knows version w calls = subst (λ (v : WalkState). Knows version v calls) (sym e) knows in
    let r = rank_by version w.rank in
    let here : at.rank ≡ r.rank = rank ∙ sym own in
    subst (λ (v : WalkState). HasRowsBeside (rank_by version v.rank) calls call d) e
    (rows_known version w calls call ends a b o d k (g ∙ ap (λ (b : Bool). b && is_none w.finalize) f)
    (subst (λ (n : ℕ). Adds [] a (FrameRows r.rank n w.init w.finalize call)) number
    (subst (λ (n : ℕ). Adds [] a (FrameRows n at.call w.init w.finalize call)) here
    (subst (λ (y : List Finding). Adds y a (FrameRows at.rank at.call w.init w.finalize call)) none frames)))
    (arguments_told version w calls call at a b k rank number arguments)
    (operation_told version w calls call at b o k rank number operations)
    (subst (λ (n : ℕ). Adds o d (LeakRowsAt r.rank n ends calls)) number
    (subst (λ (n : ℕ). Adds o d (LeakRowsAt n at.call ends calls)) here (leaks (clear_behind r) k.handles.lives))))

-- what messages promise of a call taken
abbrev pub TakesTraffic : Traffic → Traffic → Handles → Place → Call → Type 0
TakesTraffic old new handles at call = (r : Rank) (calls : List Call) → r.rank ≡ at.rank → length calls ≡ at.call → HandlesStand r handles calls → AreNumbered 64 (calls ++ call ∷ []) → TrafficStands r calls old → TrafficStands r (calls ++ call ∷ []) new

pub knows_seen : (version : ℕ) (w x v : WalkState) (at : Place) → w ≡ x → (calls : List Call) (call : Call) (i f : Bool) → Knows version x calls → i ≡ is_init call → f ≡ is_finalize call → v.number ≡ w.number + 1 → v.init ≡ or_then w.init (only_if i w.number)
    → v.finalize ≡ or_then w.finalize (only_if f w.number) → v.returned ≡ call.returned
    → ((r : Rank) → length calls ≡ w.number → HandlesStand r w.handles calls → HandlesStand r v.handles (calls ++ call ∷ []))
    → ((r : Rank) → length calls ≡ w.number → HandlesStand r w.handles calls → parts.Stands r calls w.buffers → parts.Stands r (calls ++ call ∷ []) v.buffers)
    → TakesTraffic w.traffic v.traffic w.handles at call → at.rank ≡ w.rank.rank → at.call ≡ w.number → IsNext w.handles.lives call → v.rank ≡ w.rank → Knows version v (calls ++ call ∷ [])
knows_seen version w x v at e calls call i f knows is fs n init finalize returned stands begins traffic rank number next same =
    let k : Knows version w calls = subst (λ (u : WalkState). Knows version u calls) (sym e) knows in
    let r = rank_by version w.rank in
    let handles = stands r (sym k.number) k.handles in
    let buffers = begins r (sym k.number) k.handles k.buffers in
    let numbered = numbered_more (clear_behind r) w.handles.lives calls call k.handles.lives next k.numbered in
    let messages = traffic r calls (sym rank) (sym k.number ∙ sym number) k.handles numbered k.traffic in
    knows_next version w v calls call k n (init ∙ ap (λ (b : Bool). or_then w.init (only_if b w.number)) is) (finalize ∙ ap (λ (b : Bool). or_then w.finalize (only_if b w.number)) fs) returned
    (subst (λ (t : RankTold). HandlesStand (rank_by version t) v.handles (calls ++ call ∷ [])) (sym same) handles)
    (subst (λ (t : RankTold). parts.Stands (rank_by version t) (calls ++ call ∷ []) v.buffers) (sym same) buffers)
    (subst (λ (t : RankTold). TrafficStands (rank_by version t) (calls ++ call ∷ []) v.traffic) (sym same) messages)
    numbered

pub limit_seen : (version : ℕ) (w x : WalkState) → w ≡ x → (calls : List Call) (call : Call) (f : WalkFault) → Knows version x calls
    → (length calls ≡ w.number → HandlesStand (rank_by version w.rank) w.handles calls → parts.Stands (rank_by version w.rank) calls w.buffers → IsLimitAt w.number (limit_at (rank_by version w.rank) calls call) f) → IsLimitAt (length calls) (limit_at (rank_by version x.rank) calls call) f
limit_seen version w x e calls call f knows over =
    let k : Knows version w calls = subst (λ (v : WalkState). Knows version v calls) (sym e) knows in
    subst (λ (v : WalkState). IsLimitAt (length calls) (limit_at (rank_by version v.rank) calls call) f) e
    (subst (λ (n : ℕ). IsLimitAt n (limit_at (rank_by version w.rank) calls call) f) k.number (over (sym k.number) k.handles k.buffers))

-- the rows that its statuses and its buffers give a call
pub late_seen : (version : ℕ) (w x : WalkState) → w ≡ x → (calls : List Call) (call : Call) (at : Place) (c d e : List Finding) → Knows version x calls → at.rank ≡ w.rank.rank → at.call ≡ w.number → IsNext w.handles.lives call
    → ((r : Rank) (cs : List Call) → r.rank ≡ at.rank → length cs ≡ at.call → HandlesStand r w.handles cs → AreNumbered 64 (cs ++ call ∷ []) → TrafficStands r cs w.traffic → Adds c d (IsOfRule at.rank at.call S1 (status_contradicts r cs call)))
    → ((r : Rank) → r.rank ≡ at.rank → length calls ≡ at.call → HandlesStand r w.handles calls → parts.Stands r calls w.buffers → Adds d e (BufferRows at r calls call)) → Adds c e (LateRows (rank_by version x.rank) calls call)
late_seen version w x same calls call at c d e knows rank number next statuses buffers =
    let k : Knows version w calls = subst (λ (v : WalkState). Knows version v calls) (sym same) knows in
    let r = rank_by version w.rank in
    let call_is : at.call ≡ length calls = number ∙ k.number in
    let there : at ≡ place_behind r calls = λ i. record { rank = rank i; call = call_is i } in
    let numbered = numbered_more (clear_behind r) w.handles.lives calls call k.handles.lives next k.numbered in
    let first : Adds c d (StatusRows r calls call) = subst (λ (p : Place). Adds c d (IsOfRule p.rank p.call S1 (status_contradicts r calls call))) there (statuses r calls (sym rank) (sym call_is) k.handles numbered k.traffic) in
    let then : Adds d e (BufferRows (place_behind r calls) r calls call) = subst (λ (p : Place). Adds d e (BufferRows p r calls call)) there (buffers r (sym rank) (sym call_is) k.handles k.buffers) in
    subst (λ (v : WalkState). Adds c e (LateRows (rank_by version v.rank) calls call)) same (adds_then (StatusRows r calls call) (BufferRows (place_behind r calls) r calls call) c d e first then)

-- what is given of messages and needs at a call
pub gives_seen : (version : ℕ) (w x : WalkState) → w ≡ x → (calls : List Call) (call : Call) (at : Place) (old new : List Entry) → Knows version x calls → at.rank ≡ w.rank.rank → at.call ≡ w.number → IsNext w.handles.lives call
    → ((r : Rank) (cs : List Call) → r.rank ≡ at.rank → length cs ≡ at.call → HandlesStand r w.handles cs → AreNumbered 64 (cs ++ call ∷ []) → TrafficStands r cs w.traffic → GivesMore r cs (cs ++ call ∷ []) old new)
    → GivesMore (rank_by version x.rank) calls (calls ++ call ∷ []) old new
gives_seen version w x same calls call at old new knows rank number next gives =
    let k : Knows version w calls = subst (λ (v : WalkState). Knows version v calls) (sym same) knows in
    let r = rank_by version w.rank in
    let numbered = numbered_more (clear_behind r) w.handles.lives calls call k.handles.lives next k.numbered in
    subst (λ (v : WalkState). GivesMore (rank_by version v.rank) calls (calls ++ call ∷ []) old new) same (gives r calls (sym rank) (sym k.number ∙ sym number) k.handles numbered k.traffic)

-- a call that reaches neither the limit of its buffers nor one of its handles
pub within_seen : (version : ℕ) (w x : WalkState) → w ≡ x → (calls : List Call) (call : Call) → Knows version x calls
    → (length calls ≡ w.number → HandlesStand (rank_by version w.rank) w.handles calls → parts.Stands (rank_by version w.rank) calls w.buffers → pending_limit_at (rank_by version w.rank) calls call ≡ None)
    → (HandlesStand (rank_by version w.rank) w.handles calls → handle_limit_at (rank_by version w.rank) calls call ≡ None) → limit_at (rank_by version x.rank) calls call ≡ None
within_seen version w x same calls call knows few light =
    let k : Knows version w calls = subst (λ (v : WalkState). Knows version v calls) (sym same) knows in
    let r = rank_by version w.rank in
    subst (λ (v : WalkState). limit_at (rank_by version v.rank) calls call ≡ None) same
    (ap (λ (o : Option Limit). or_limit o (handle_limit_at r calls call)) (few (sym k.number) k.handles k.buffers) ∙ light k.handles)

-- the limit of a handle is the call's, where it doesn't reach that of its buffers
pub handle_over : (r : Rank) (calls : List Call) (call : Call) (k : ℕ) (f : WalkFault) → pending_limit_at r calls call ≡ None → IsLimitAt k (handle_limit_at r calls call) f → IsLimitAt k (limit_at r calls call) f
handle_over r calls call k (walk_fault.TooWide at l) few h = (h.0, ap (λ (o : Option Limit). or_limit o (handle_limit_at r calls call)) few ∙ h.1)
handle_over r calls call k walk_fault.NoMemory few h = tt

-- ---- the end

ended : (b : Bool) (answer : Option Answer) (part : ℕ) (a : Answer) {P : Type 0} → cond b (at_part 0 answer part) None ≡ Some a → (b ≡ true → at_part 0 answer part ≡ Some a → P) → P
ended true answer part a e f = f refl e
ended false answer part a e f = no_answer a e

missing_by : (r : Rank) (calls : List Call) (f : Finding) (rule : Rule) → f.rule ≡ rule → f.rank ≡ r.rank → finding_whole r calls f.call rule f.part ≡ Some (f.see, f.value) → MissingRows r calls f ⊎ IsOpenWildcard r calls f
missing_by r calls f I3 e a d = inl (ended (f.call == length calls) (no_finalize calls) f.part (f.see, f.value) d (λ same gives. record { rank_is = a; call_is = eqb-true f.call (length calls) same; rule_is = e; gives = gives }))
missing_by r calls f N1 e a d = inr (record { rank_is = a; rule_is = e; gives = d })
missing_by r calls f _ e a d = no_answer (f.see, f.value) d

missing_whole : (r : Rank) (calls : List Call) (f : Finding) → MissingRows r calls f → IsWhole r calls f
missing_whole r calls f is = record {
  rank_is = is.rank_is;
  gives =
      ap (λ (x : Rule). finding_whole r calls f.call x f.part) is.rule_is
      ∙ ap (λ (b : Bool). cond b (at_part 0 (no_finalize calls) f.part) None) (eq-eqb f.call (length calls) is.call_is)
      ∙ is.gives;
}

wildcard_whole : (r : Rank) (calls : List Call) (f : Finding) → IsOpenWildcard r calls f → IsWhole r calls f
wildcard_whole r calls f is = record { rank_is = is.rank_is; gives = ap (λ (x : Rule). finding_whole r calls f.call x f.part) is.rule_is ∙ is.gives }

-- the rows of all calls are that of a missing Finalize and those of open wildcards
pub end_rows : (r : Rank) (calls : List Call) (a b : List Finding) → HasMissing r calls a → Adds a b (IsOpenWildcard r calls) → Rises by_all b → RowsAtEnd r calls b
end_rows r calls a b missing adds rises = record {
  rises = rises;
  exact = λ f. (
    λ h. elim ((adds f).0 h) [ inl there ↦ missing_whole r calls f ((missing.exact f).0 there) | inr is ↦ wildcard_whole r calls f is ],
    λ is. elim (missing_by r calls f f.rule refl is.rank_is is.gives) [ inl there ↦ (adds f).1 (inl ((missing.exact f).1 there)) | inr there ↦ (adds f).1 (inr there) ],
  );
}

pub end_seen : (version : ℕ) (w x : WalkState) → w ≡ x → (calls : List Call) (z a : List Finding) → z ≡ [] → Knows version x calls → Adds z a (IsOfRule (rank_by version w.rank).rank w.number I3 (at_part 0 (missing w.returned w.finalize))) → HasMissing (rank_by version x.rank) calls a
unfolding no_finalize
end_seen version w x e calls z a none knows adds =
    let k : Knows version w calls = subst (λ (v : WalkState). Knows version v calls) (sym e) knows in
    let r = rank_by version w.rank in
    let all : Adds [] a (IsOfRule r.rank (length calls) I3 (at_part 0 (missing (ends_returned calls) (first_finalize calls)))) =
    subst (λ (y : List Finding). Adds y a (IsOfRule r.rank (length calls) I3 (at_part 0 (missing (ends_returned calls) (first_finalize calls))))) none
    (subst (λ (m : ℕ). Adds z a (IsOfRule r.rank m I3 (at_part 0 (missing (ends_returned calls) (first_finalize calls))))) k.number
    (subst (λ (o : Option ℕ). Adds z a (IsOfRule r.rank w.number I3 (at_part 0 (missing (ends_returned calls) o)))) k.finalize
    (subst (λ (b : Bool). Adds z a (IsOfRule r.rank w.number I3 (at_part 0 (missing b w.finalize)))) k.returned adds))) in
    subst (λ (v : WalkState). HasMissing (rank_by version v.rank) calls a) e (record {
      exact = λ f. (
        λ h. elim ((all f).0 h) [ inl there ↦ absurd there | inr is ↦ is ],
        λ is. (all f).1 (inr is),
      );
    })

-- what is given at the end
pub rest_seen : (version : ℕ) (w x : WalkState) → w ≡ x → (calls : List Call) (rank : ℕ) (old new : List Entry) → Knows version x calls → rank ≡ w.rank.rank
    → ((r : Rank) (cs : List Call) → r.rank ≡ rank → AreNumbered 64 cs → TrafficStands r cs w.traffic → GivesEnd r cs old new) → GivesEnd (rank_by version x.rank) calls old new
rest_seen version w x e calls rank old new knows is gives =
    let k : Knows version w calls = subst (λ (v : WalkState). Knows version v calls) (sym e) knows in
    subst (λ (v : WalkState). GivesEnd (rank_by version v.rank) calls old new) e (gives (rank_by version w.rank) calls (sym is) k.numbered k.traffic)

-- the rows of open wildcards
pub wildcards_seen : (version : ℕ) (w x : WalkState) → w ≡ x → (calls : List Call) (a b : List Finding) → Knows version x calls
    → ((r : Rank) (cs : List Call) → AreNumbered 64 cs → TrafficStands r cs w.traffic → Adds a b (IsOpenWildcard r cs)) → Adds a b (IsOpenWildcard (rank_by version x.rank) calls)
wildcards_seen version w x e calls a b knows adds =
    let k : Knows version w calls = subst (λ (v : WalkState). Knows version v calls) (sym e) knows in
    subst (λ (v : WalkState). Adds a b (IsOpenWildcard (rank_by version v.rank) calls)) e (adds (rank_by version w.rank) calls k.numbered k.traffic)

pub walks_end : (version : ℕ) (w : WalkState) (calls : List Call) (given : List Batch) (batch : Batch) (rows : List Finding) (more : List Entry) → RowsAtEnd (rank_by version w.rank) calls rows → EndGives (rank_by version w.rank) calls more → batch.entries ≡ more ++ map Row rows
    → batch.rank ≡ (rank_by version w.rank).rank → batch.last ≡ true → Walks version w calls given → GivesAll (rank_by version w.rank) calls (given ++ batch ∷ [])
walks_end version w calls given batch rows more at gives entries_are rank_is ends walks =
    let r = rank_by version w.rank in
    let es = batch.entries in
    let parts = behind_others more rows [] gives.rows gives.waves in
    let all_entries : es ≡ (more ++ map Row rows) ++ map Wave [] = entries_are ∙ sym (append-nil (more ++ map Row rows)) in
    let rows_are : rows_of es ≡ rows = ap rows_of all_entries ∙ parts.rows_are in
    let none : entries.calls es ≡ [] = ap entries.calls all_entries ∙ parts.calls_are in
    let new : Joins (IsWhole r calls) (rows_of es) = subst (Joins (IsWhole r calls)) (sym rows_are) (record { once = rises_distinct by_all by_all_total rows at.rises; rows = at.exact }) in
    let all = joined (IsHere r calls) (IsWhole r calls) (IsLocal r calls) (all_rows given) (rows_of es) (record { once = walks.once; rows = walks.rows }) new
    (here_whole r calls) (local_here r calls) (local_whole r calls) (local_cases r calls) in
    let here : Joins (IsLocal r calls) (all_rows (given ++ batch ∷ [])) = subst (Joins (IsLocal r calls)) (sym (all_more given batch)) all in
    let given_are : collectives (given ++ batch ∷ []) ≡ collectives given = collectives_more given batch ∙ ap (λ (l : List WaveItem). collectives given ++ l) none ∙ append-nil (collectives given) in
    let sent : map item_seen (message_items (given ++ batch ∷ [])) ≡ items_of r calls =
    ap (map item_seen) (messages_more given batch) ∙ map-append item_seen (message_items given) (entries.messages es)
    ∙ ap (λ (l : List Item). l ++ map item_seen (entries.messages es)) walks.messages
    ∙ ap (λ (l : List MsgItem). items_given r calls ++ map item_seen l) (ap entries.messages all_entries ∙ parts.messages_are) ∙ sym gives.items in
    record {
      once = here.once;
      rows = here.rows;
      waves = subst (AreItemsOf r calls) (sym given_are) walks.waves;
      messages = sent;
      needs = needs_more given batch ∙ ap (λ (l : List Waits). l ++ entries.needs es) walks.needs ∙ ap entries.needs all_entries ∙ parts.needs_are ∙ gives.needs_are;
      middle = given;
      last = batch;
      batches_are = refl;
      go_on = walks.middle;
      rank_is = rank_is;
      ends = ends;
    }

-- what a call gives to its wave, by the tables of a walk whose fields tell its state
pub wave_seen : (version : ℕ) (w x : WalkState) → w ≡ x → (calls : List Call) (call : Call) (items : List WaveItem) → Knows version x calls
    → ((r : Rank) (cs : List Call) → HandlesStand r w.handles cs → w.number ≡ length cs → IsGivenBy r cs call items) → IsGivenBy (rank_by version x.rank) calls call items
wave_seen version w x e calls call items knows gives =
    let k : Knows version w calls = subst (λ (v : WalkState). Knows version v calls) (sym e) knows in
    subst (λ (v : WalkState). IsGivenBy (rank_by version v.rank) calls call items) e (gives (rank_by version w.rank) calls k.handles k.number)
