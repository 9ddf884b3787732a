-- One turn of the analysis, and its answers.
use Rattle.std.proofs.Common.{◌≡◌, ℕ, zero, suc, ◌+◌, ◌<◌, ◌≤◌, List, [], ◌∷◌, ◌++◌, length, map, get_or, Option, Some, Err, refl, sym, ap, subst, ◌∙◌, inl, inr, arith, zero-add}
use Rattle.std.proofs.Math.ListN.{set}
use Rattle.std.specs.Prelude.{Bool, true, ◌⊎◌, ◌↔◌, ◌==◌, filter, slice_get}
use Rattle.std.specs.Option.{option_map}
use Rattle.std.specs.List.{AllByRecursion}
use Rattle.std.proofs.lemmas.Bool.{cases_order}
use Rattle.std.proofs.lemmas.List.Concat.{flat_map-append}
use Rattle.std.proofs.lemmas.List.{length-map, length-set, get_or-set_same, get_or-set_other}
use Rattle.std.proofs.lemmas.Option.{slice_get-map, slice_get-get_or}
use Rattle.must_base.specs.Causes.{Rose}
use Rattle.must_base.specs.Listing.{Rises}
use Rattle.must_base.specs.Views.{SourceView}
use Rattle.must_call.specs.declared.call.Call.{Call}
use Rattle.must_format.specs.declared.fault.StreamFault.{StreamFault}
use Rattle.must_format.specs.declared.fault.StreamFault.TheVariants as fault
use Rattle.must_rules.specs.Streams.{Accepted}
use Rattle.must_rules.specs.LimitLaws.{accepted_is_one}
use Rattle.must_base.specs.Listing.{Has}
use Rattle.must_find.specs.declared.finding.Finding.{Finding}
use Rattle.must_find.specs.Order.{by_all}
use Rattle.must_find.specs.Adds.{Adds}
use Rattle.must_coll.specs.declared.item.WaveItem.{WaveItem}
use Rattle.must_entry.specs.declared.range.RankRange.{RankRange}
use Rattle.must_entry.specs.declared.entry.Entry.{Entry}
use Rattle.must_entry.specs.declared.batch.Batch.{Batch}
use Rattle.must_entry.specs.Entries.{rows_of, entries_of}
use Rattle.must_entry.specs.Entries as entries
use Rattle.must_entry.specs.Lawful.{Rise, IsLawful}
use Rattle.must_entry.specs.CallLaws.{calls_once}
use Rattle.must_call.specs.declared.place.Place.{Place}
use Rattle.must_coll.specs.OneRowLaws.{HaveDistinctMembers}
use Rattle.must_node.specs.declared.node.Node.{Node}
use Rattle.must_node.specs.declared.closed.Closed.{Closed}
use Rattle.must_node.specs.Nodes.{StandsFor}
use Rattle.must_node.specs.Closing.{Settles}
use Rattle.must_node.specs.EntryRows.{IsRow}
use Rattle.must_find.specs.Rearranged.{Rearranges, from_equal, back}
use Rattle.must_wait.specs.Needs.{Rows}
use Rattle.must_node.specs.declared.fact.Fact.{Fact}
use Rattle.must_node.specs.Facts.{facts_of}
use Rattle.must_node.specs.Partners as partners
use Rattle.must_node.specs.NeedLaws.{needs_told}
use Rattle.must_node.specs.FreeLaws.{same_run}
use Rattle.must_node.specs.RunNeeds.{run_needs}
use Rattle.must_node.specs.Waits.{IsWaitRow}
use Rattle.must_entry.specs.Entries.{Waits}
use Rattle.must_p2p.specs.declared.item.MsgItem.{MsgItem}
use Rattle.must_p2p.specs.Items as p2p
use Rattle.must_node.specs.Inner.{inner}
use Rattle.must_node.specs.ListLaws.{all_pass}
use Rattle.must_rules.specs.Rank.{Rank}
use Rattle.must_rules.specs.Run.{Run, Mode, size_of}
use Rattle.must_rules.specs.Local.{IsLocal}
use Rattle.must_rules.specs.RunRows.{rank_in, HasRanksBelow}
use Rattle.must_rules.specs.RunRowLaws.{below_first, below_more}
use Rattle.must_rules.specs.Streams.{recorded_of}
use Rattle.must_rules.specs.StreamRuns.{AreComplete, run_of}
use Rattle.must_run.specs.RunWaves.{AreItemsBelow}
use Rattle.must_run.specs.RunMessages.{AreMessagesBelow, needs_in}
use Rattle.must_run.specs.RunGiven.{Given, IsGivenBy}
use Rattle.must_run.specs.RunRows.{IsRunRow, AreRunRows}
use Rattle.must_run.specs.RunWaits.{facts_with, is_strict, waits_in}
use Rattle.must_run.specs.FactParts.{facts_apart, needs_with}
use Rattle.must_run.specs.MessageLists.{messages_first, messages_more, messages_all, needs_more, needs_all}
use Rattle.must_run.specs.RowPlaces.{AreOnce, row_one, rise_by_place}
use Rattle.must_run.specs.WaveLists.{items_first, items_more, items_all}
use Rattle.must_run.specs.RankLaws.{all_findings}
use Rattle.must_local.specs.DistinctLaws.{has_append, has_front, has_behind}
use Rattle.must_local.specs.Walks.{GivesAll, all_rows, collectives, message_items, call_needs}
use Rattle.must_tree.specs.Told.{flat, told_at, IsLeftOf, AreTied, ShowsNoRefusal}
use Rattle.must_tree.specs.ToldLaws.{told_within, told_of, stream_at}
use Rattle.must_tree.specs.Reading.{AreTold, AreAccepted, ReadsRun, RunRows, StopsAt, Analyses}
use Rattle.must_tree.specs.Ranks.{all_ranks, GivesRank, ReadsRank, HoldsRanks, HoldsBelow, IsFaultOf, fault_at}
use Rattle.must_tree.proofs.Lawful.{none_lower, batch_calls, batch_messages, batch_needs}
use Rattle.must_tree.proofs.Members.{distinct_both}
use Rattle.must_tree.proofs.RowParts.{row_parts, row_from}
use Rattle.must_tree.proofs.Reached.{left_unread}

-- what a node promises of its end
abbrev pub Closes : Node → Closed → Type 0
Closes node closed = (range : RankRange) (root : Bool) (taken handed : List Batch) → StandsFor node range root taken handed → IsLawful range taken → Settles closed (inner root range (entries_of taken))

-- ---- the bytes of a rank

pub told_is : {S : Type 0} (left : S → Option (List ℕ)) (ps : List S) (k : ℕ) (d : S) → k < length ps → told_at (map left ps) k ≡ left (get_or ps k d)
told_is left ps k d within = ap flat (slice_get-map left ps k ∙ ap (option_map left) (slice_get-get_or ps k d within))

-- ---- the parts

abbrev pub parts_of : {S : Type 0} → (S → Option (List ℕ)) → (S → ℕ) → List S → List SourceView
parts_of {S} left faults ps = map {B = SourceView} (λ (p : S). record { left = left p; faults = faults p }) ps

-- what the parts show, by the two that it is made of
pub parts_shown : {S : Type 0} (shows : S → SourceView) (left : S → Option (List ℕ)) (faults : S → ℕ) → ((s : S) → shows s ≡ record { left = left s; faults = faults s })
    → (ps : List S) → map shows ps ≡ parts_of left faults ps
parts_shown shows left faults is [] = refl
parts_shown shows left faults is (p ∷ ps) =
    let first = is p in
    let rest = parts_shown shows left faults is ps in
    cc

pick : {S : Type 0} (ps : List S) (k : ℕ) → k < length ps → S
pick [] k within = absurd (omega (arith, within))
pick (p ∷ ps) k within = p

pub part_at : {S : Type 0} (left : S → Option (List ℕ)) (faults : S → ℕ) (ps : List S) (k : ℕ) (d : S) → k < length ps
    → slice_get (parts_of left faults ps) k ≡ Some (record { left = left (get_or ps k d); faults = faults (get_or ps k d) })
part_at {S} left faults ps k d within =
    let seen : S → SourceView = λ p. record { left = left p; faults = faults p } in
    slice_get-map seen ps k ∙ ap (option_map seen) (slice_get-get_or ps k d within)

-- ---- the analysis so far

pub record Analysing {S : Type 0} (left : S → Option (List ℕ)) (faults : S → ℕ) (first ps : List S) (k : ℕ) (node : Node) : Type 0 where
  pub length_is : length ps ≡ length first
  pub unread : (q : ℕ) (d : S) → k ≤ q → get_or ps q d ≡ get_or first q d
  pub accepted : AreAccepted (map left first) k
  pub read : (q : ℕ) (d : S) (bytes : List ℕ) → q < k → told_at (map left first) q ≡ Some bytes → left (get_or ps q d) ≡ Some []
  pub tied : (q : ℕ) (d : S) (bytes : List ℕ) → q < k → told_at (map left first) q ≡ Some bytes → IsLeftOf bytes (left (get_or ps q d))
  pub rows : (streams : List (List ℕ)) → AreTold (map left first) streams → HoldsBelow streams k node

length_told : {S : Type 0} (left : S → Option (List ℕ)) (first : List S) (streams : List (List ℕ)) → AreTold (map left first) streams → length streams ≡ length first
length_told left first streams told = sym (length-map streams Some) ∙ sym (ap length told) ∙ length-map first left

pub at_first : {S : Type 0} (left : S → Option (List ℕ)) (faults : S → ℕ) (ps : List S) (node : Node) → StandsFor node (all_ranks (length ps)) true [] [] → Analysing left faults ps ps 0 node
at_first left faults ps node stands = record {
  length_is = refl;
  unread = λ q d h. refl;
  accepted = λ q h. absurd (omega (arith, h));
  read = λ q d bytes h e. absurd (omega (arith, h));
  tied = λ q d bytes h e. absurd (omega (arith, h));
  rows = λ streams told run mode records.
      let n : size_of run ≡ length ps = records.size ∙ length_told left ps streams told in
      record {
        batches = [];
        holds = record { lower = none_lower (size_of run); stands = subst (λ (m : ℕ). StandsFor node (all_ranks m) true [] []) (sym n) stands };
        rows = below_first run mode;
        messages = messages_first run;
        items = items_first run;
        needs = refl;
        distinct = λ x h. absurd h;
      };
}

-- what reading a rank promises
abbrev pub Reads : {S : Type 0} → (S → Option (List ℕ)) → ℕ → ℕ → S → S → Node → Node → Type 0
Reads left k n old new node more = (bytes : List ℕ) → left old ≡ Some bytes → ReadsRank k n bytes node more × (left new ≡ Some [])

abbrev pub Ties : {S : Type 0} → (S → Option (List ℕ)) → S → S → Type 0
Ties left old new = (bytes : List ℕ) → left old ≡ Some bytes → IsLeftOf bytes (left new)

-- the rows of one rank more
rows_added : (r : Rank) (calls : List Call) (before given : List Batch) → GivesAll r calls given → Adds (all_rows before) (all_rows (before ++ given)) (IsLocal r calls)
rows_added r calls before given gives =
    subst (λ (fs : List Finding). Adds (all_rows before) fs (IsLocal r calls)) (sym (flat_map-append (λ (b : Batch). rows_of b.entries) before given)) (λ f. (
      λ h. elim (has_append (all_rows before) (all_rows given) f h) [ inl there ↦ inl there | inr x ↦ inr ((gives.rows f).0 x) ],
      λ h. elim h [ inl there ↦ has_front (all_rows before) (all_rows given) f there | inr x ↦ has_behind (all_rows before) (all_rows given) f ((gives.rows f).1 x) ],
    ))

rows_more : {S : Type 0} (left : S → Option (List ℕ)) (first : List S) (k : ℕ) (old new : S) (node more : Node) (streams : List (List ℕ))
    → k < length first → told_at (map left first) k ≡ left old → Reads left k (length first) old new node more → AreTold (map left first) streams → HoldsBelow streams k node → HoldsBelow streams (k + 1) more
rows_more left first k old new node more streams within is reads told below run mode records =
    let n = length_told left first streams told in
    let s = stream_at streams k (omega (arith, n, within)) in
    let known : left old ≡ Some s.0 = sym is ∙ ap (λ (os : List (Option (List ℕ))). told_at os k) told ∙ told_of streams k s.0 s.1 in
    let r = (reads s.0 known).0 in
    let n_is : size_of run ≡ length first = records.size ∙ n in
    let here = records.each k s.0 s.1 in
    let accepted : Accepted k (length streams) s.0 r.calls = subst (λ (m : ℕ). Accepted k m s.0 r.calls) (sym n) r.accepted in
    let same : r.calls ≡ here.calls = accepted_is_one k (length streams) s.0 r.calls here.calls accepted here.accepted in
    let recorded = recorded_of s.0 here.calls in
    let rank = rank_in (size_of run) k recorded in
    let gives : GivesRank rank here.calls node more =
    subst (λ (cs : List Call). GivesRank (rank_in (size_of run) k (recorded_of s.0 cs)) cs node more) same (subst (λ (m : ℕ). GivesRank (rank_in m k (recorded_of s.0 r.calls)) r.calls node more) (sym n_is) r.gives) in
    let h = below run mode records in
    record {
      batches = h.batches ++ gives.given;
      holds = gives.takes h.batches h.holds;
      rows = below_more run mode k recorded (all_rows h.batches) (all_rows (h.batches ++ gives.given)) here.recorded_is (rows_added rank here.calls h.batches gives.given gives.gives) h.rows;
      messages = subst (λ (l : List MsgItem). AreMessagesBelow run (k + 1) l) (sym (flat_map-append (λ (b : Batch). entries.messages b.entries) h.batches gives.given))
          (messages_more run k recorded (message_items h.batches) (message_items gives.given) here.recorded_is h.messages gives.gives.messages);
      items = subst (λ (l : List WaveItem). AreItemsBelow run (k + 1) l) (sym (flat_map-append (λ (b : Batch). entries.calls b.entries) h.batches gives.given))
          (items_more run k recorded (collectives h.batches) (collectives gives.given) here.recorded_is h.items gives.gives.waves);
      needs = flat_map-append (λ (b : Batch). entries.needs b.entries) h.batches gives.given ∙ needs_more run k recorded (call_needs h.batches) (call_needs gives.given) here.recorded_is h.needs gives.gives.needs;
      distinct = subst HaveDistinctMembers (sym (flat_map-append (λ (b : Batch). entries.calls b.entries) h.batches gives.given)) (distinct_both (collectives h.batches) (collectives gives.given) h.distinct gives.distinct);
    }

tied_at : {S : Type 0} (left : S → Option (List ℕ)) (first ps : List S) (k q : ℕ) (e d new : S) (bytes : List ℕ) → k < length ps → q ≡ k → get_or ps k d ≡ get_or first k d → k < length first → Ties left (get_or ps k d) new
    → told_at (map left first) q ≡ Some bytes → IsLeftOf bytes (left (get_or (set ps k new) q e))
tied_at {S} left first ps k q e d new bytes here same unread within ties told =
    let there : get_or (set ps k new) q e ≡ new = ap (λ m. get_or (set ps k new) m e) same ∙ get_or-set_same ps k new e here in
    let was : left (get_or ps k d) ≡ Some bytes = ap left unread ∙ sym (told_is left first k d within) ∙ ap (λ m. told_at (map left first) m) (sym same) ∙ told in
    subst (λ (s : S). IsLeftOf bytes (left s)) (sym there) (ties bytes was)

pub one_more : {S : Type 0} (left : S → Option (List ℕ)) (faults : S → ℕ) (first ps : List S) (k : ℕ) (node more : Node) (d new : S)
    → k < length first → Reads left k (length first) (get_or ps k d) new node more → Ties left (get_or ps k d) new → Analysing left faults first ps k node → Analysing left faults first (set ps k new) (k + 1) more
one_more {S} left faults first ps k node more d new within reads ties w =
    let here : k < length ps = omega (arith, w.length_is, within) in
    let is = told_is left first k d within ∙ ap left (sym (w.unread k d (omega arith))) in
    record {
      length_is = length-set ps k new ∙ w.length_is;
      unread = λ q e h. get_or-set_other ps k q new e (λ same. omega (arith, same, h)) ∙ w.unread q e (omega (arith, h));
      accepted = λ q h bytes told. elim (cases_order q k) [
        | inl same ↦
            let r = (reads bytes (sym is ∙ ap (λ m. told_at (map left first) m) (sym same) ∙ told)).0 in
            (r.calls, subst (λ (m : ℕ). Accepted m (length (map left first)) bytes r.calls) (sym same) (subst (λ (m : ℕ). Accepted k m bytes r.calls) (sym (length-map first left)) r.accepted))
        | inr (inl less) ↦ w.accepted q less bytes told
        | inr (inr far) ↦ absurd (omega (arith, h))
      ];
      read = λ q e bytes h told. elim (cases_order q k) [
        | inl same ↦ ap left (ap (λ m. get_or (set ps k new) m e) same ∙ get_or-set_same ps k new e here) ∙ (reads bytes (sym is ∙ ap (λ m. told_at (map left first) m) (sym same) ∙ told)).1
        | inr (inl less) ↦ ap left (get_or-set_other ps k q new e (λ same. omega (arith, same, less))) ∙ w.read q e bytes less told
        | inr (inr far) ↦ absurd (omega (arith, h))
      ];
      tied = λ q e bytes h told. elim (cases_order q k) [
        | inl same ↦ tied_at left first ps k q e d new bytes here same (w.unread k d (omega arith)) within ties told
        | inr (inl less) ↦ subst (λ (s : S). IsLeftOf bytes (left s)) (sym (get_or-set_other ps k q new e (λ same. omega (arith, same, less)))) (w.tied q e bytes less told)
        | inr (inr far) ↦ absurd (omega (arith, h))
      ];
      rows = λ streams told. rows_more left first k (get_or ps k d) new node more streams within is reads told (w.rows streams told);
    }

-- ---- the end

complete : (told : List (Option (List ℕ))) (streams : List (List ℕ)) → AreTold told streams → AreAccepted told (length told) → AreComplete 0 (length streams) streams
complete told streams is accepted = λ at bytes e.
    let known : told_at told at ≡ Some bytes = ap (λ (os : List (Option (List ℕ))). told_at os at) is ∙ told_of streams at bytes e in
    let a = accepted at (told_within told at bytes known) bytes known in
    let n : length told ≡ length streams = ap length is ∙ length-map streams Some in
    (a.0, subst (λ (m : ℕ). Accepted m (length streams) bytes a.0) (sym (zero-add at)) (subst (λ (m : ℕ). Accepted at m bytes a.0) n a.1))

-- ---- the rows of what a root node was given

-- the node settled all entries of these batches
settled_all : (size : ℕ) (batches : List Batch) (closed : Closed) → Settles closed (inner true (all_ranks size) (entries_of batches)) → (f : Finding) → Has closed.findings f ↔ IsRow (entries_of batches) f
settled_all size batches closed settles f =
    let all = entries_of batches in
    let inner_is : inner true (all_ranks size) all ≡ all = all_pass all in
    subst (λ (es : List Entry). Has closed.findings f ↔ IsRow es f) inner_is (settles.rows f)

abbrev given_of : List Batch → Given
given_of batches = record { messages = message_items batches; calls = collectives batches }

-- the rows of the run that its messages, waves and needs don't give are those of its ranks
row_of_run : (run : Run) (mode : Mode) (rank : ℕ) (batches : List Batch) (rows : Rows) (f : Finding) → rows ≡ waits_in run mode (given_of batches) → length run.ranks ≤ rank → HasRanksBelow run mode rank (all_rows batches)
    → (IsRow (entries_of batches) f ⊎ IsWaitRow rows f) ↔ IsRunRow run mode (given_of batches) f
row_of_run run mode rank batches rows f same far own_rows = (
  λ h. elim h [
    | inl row ↦ elim (row_parts batches f row) [
      | inl plain ↦ elim plain [ inl own ↦ inl ((all_findings run mode rank (all_rows batches) f far own_rows).0 own) | inr m ↦ inr (inl m) ]
      | inr wave ↦ inr (inr (inl wave))
    ]
    | inr wait ↦ inr (inr (inr (subst (λ (r : Rows). IsWaitRow r f) same wait)))
  ],
  λ h. elim h [
    | inl own ↦ inl (row_from batches f (inl (inl ((all_findings run mode rank (all_rows batches) f far own_rows).1 own))))
    | inr other ↦ elim other [
      | inl m ↦ inl (row_from batches f (inl (inr m)))
      | inr more ↦ elim more [
        | inl wave ↦ inl (row_from batches f (inr wave))
        | inr wait ↦ inr (subst (λ (r : Rows). IsWaitRow r f) (sym same) wait)
      ]
    ]
  ],
)

once_of : (run : Run) (batches : List Batch) → IsLawful (all_ranks (size_of run)) batches → HaveDistinctMembers (collectives batches) → AreOnce (given_of batches)
once_of run batches lawful distinct = record {
  messages = subst p2p.Orderly (batch_messages batches) lawful.messages;
  placed = calls_once (collectives batches) (subst (λ (l : List WaveItem). Rise (map {B = Place} (λ (x : WaveItem). x.place) l)) (batch_calls batches) lawful.calls);
  members = distinct;
}

-- ---- what the calls of the run wait for

-- what the facts that a root closes with say of it is what the run's do
waits_told : (run : Run) (mode : Mode) (batches : List Batch) (closed : Closed) → IsLawful (all_ranks (size_of run)) batches → Settles closed (inner true (all_ranks (size_of run)) (entries_of batches)) → call_needs batches ≡ needs_in run
    → run_needs (is_strict mode) closed.facts (size_of run) ≡ waits_in run mode (given_of batches)
waits_told run mode batches closed lawful settles wants =
    let all = entries_of batches in
    let inner_is : inner true (all_ranks (size_of run)) all ≡ all = all_pass all in
    let facts : closed.facts ≡ facts_of all = settles.facts ∙ ap facts_of inner_is in
    let told : List Fact = facts_with (message_items batches) (collectives batches) (needs_in run) in
    let same : facts_with (entries.messages all) (entries.calls all) (entries.needs all) ≡ told =
    ap (λ (ms : List MsgItem). facts_with ms (entries.calls all) (entries.needs all)) (batch_messages batches)
    ∙ ap (λ (xs : List WaveItem). facts_with (message_items batches) xs (entries.needs all)) (batch_calls batches)
    ∙ ap (facts_with (message_items batches) (collectives batches)) (batch_needs batches ∙ wants) in
    let rearranged : Rearranges told (facts_of all) = subst (λ (fs : List Fact). Rearranges fs (facts_of all)) same (back (facts_apart all)) in
    let needs : partners.needs closed.facts ≡ partners.needs told =
    ap partners.needs facts ∙ needs_told all ∙ batch_needs batches ∙ wants ∙ sym (needs_with (message_items batches) (collectives batches) (needs_in run)) in
    same_run all closed.facts told (from_equal closed.facts (facts_of all) facts) rearranged lawful.messages lawful.numbered lawful.calls (λ rank. ap (λ (ws : List Waits). filter (λ (w : Waits). w.place.rank == rank) ws) needs) (is_strict mode) (size_of run)

-- what the analysis adds at the end
abbrev pub Blocks : Closed → (size : ℕ) → (strict : Bool) → List Finding → Type 0
Blocks closed size strict found = (f : Finding) → Has found f ↔ (Has closed.findings f ⊎ IsWaitRow (run_needs strict closed.facts size) f)

-- the rows of what a root node was given, and those of blocked calls
rows_settled : (run : Run) (mode : Mode) (k : ℕ) (node : Node) (closed : Closed) (found : List Finding) → length run.ranks ≤ k → Closes node closed → Blocks closed (size_of run) (is_strict mode) found → Rises by_all found → HoldsRanks run mode k node
    → AreRunRows run mode found
rows_settled run mode k node closed found far closes blocks rises h =
    let size = size_of run in
    let lawful = h.holds.lower.lawful in
    let settles = closes (all_ranks size) true h.batches [] h.holds.stands lawful in
    let all = settled_all size h.batches closed settles in
    let waits = waits_told run mode h.batches closed lawful settles (needs_all run k (call_needs h.batches) far h.needs) in
    let of_run : (f : Finding) → (IsRow (entries_of h.batches) f ⊎ IsWaitRow (run_needs (is_strict mode) closed.facts size) f) ↔ IsRunRow run mode (given_of h.batches) f =
    λ f. row_of_run run mode k h.batches (run_needs (is_strict mode) closed.facts size) f waits far h.rows in
    let exact : (f : Finding) → Has found f ↔ IsRunRow run mode (given_of h.batches) f = λ f. (
      λ has. (of_run f).0 (elim ((blocks f).0 has) [ inl there ↦ inl ((all f).0 there) | inr wait ↦ inr wait ]),
      λ is. (blocks f).1 (elim ((of_run f).1 is) [ inl row ↦ inl ((all f).1 row) | inr wait ↦ inr wait ]),
    ) in
    record {
      given = given_of h.batches;
      is_given = record { messages = messages_all run k (message_items h.batches) far h.messages; calls = items_all run k (collectives h.batches) far h.items };
      lists = record {
        rises = rise_by_place found (λ f g p q s. row_one run mode (given_of h.batches) f g (once_of run h.batches lawful h.distinct) s ((exact f).0 p) ((exact g).0 q)) rises;
        exact = exact;
      };
    }

whole_run : (mode : Mode) (told : List (Option (List ℕ))) (k size : ℕ) (node : Node) (closed : Closed) (found : List Finding) (streams : List (List ℕ)) → size ≡ length told → length told ≤ k → AreTold told streams → AreAccepted told (length told) → HoldsBelow streams k node
    → Closes node closed → Blocks closed size (is_strict mode) found → Rises by_all found → RunRows mode streams found
whole_run mode told k size node closed found streams count far is accepted below closes blocks rises =
    let r = run_of streams (complete told streams is accepted) in
    let n : length told ≡ length streams = ap length is ∙ length-map streams Some in
    let of_run : Blocks closed (size_of r.0) (is_strict mode) found = subst (λ (m : ℕ). Blocks closed m (is_strict mode) found) (count ∙ n ∙ sym r.1.size) blocks in
    record {
      run = r.0;
      records = r.1;
      are_rows = rows_settled r.0 mode k node closed found (omega (arith, r.1.size, n, far)) closes of_run rises (below r.0 mode r.1);
    }

pub at_last : {S : Type 0} (left : S → Option (List ℕ)) (faults : S → ℕ) (mode : Mode) (first ps : List S) (k size : ℕ) (strict : Bool) (node : Node) (closed : Closed) (found : List Finding)
    → size ≡ length first → strict ≡ is_strict mode → length first ≤ k → Closes node closed → Blocks closed size strict found → Rises by_all found → Analysing left faults first ps k node → ReadsRun mode (map left first) (parts_of left faults ps) found
at_last {S} left faults mode first ps k size strict node closed found count taken far closes blocks rises w =
    let n = length-map first left in
    let blocked = subst (λ (b : Bool). Blocks closed size b found) taken blocks in
    let accepted : AreAccepted (map left first) (length (map left first)) = λ q h. w.accepted q (omega (arith, n, h, far)) in
    record {
      accepted = accepted;
      read = λ q bytes told.
          let within : q < length ps = omega (arith, told_within (map left first) q bytes told, n, w.length_is) in
          let d = pick ps q within in (
            record { left = left (get_or ps q d); faults = faults (get_or ps q d) },
            part_at left faults ps q d within,
            w.read q d bytes (omega (arith, within, w.length_is, far)) told,
          );
      of_run = λ streams told. whole_run mode (map left first) k size node closed found streams (count ∙ sym n) (omega (arith, n, far)) told accepted (w.rows streams told) closes blocked rises;
    }

-- each part is that of its file
tied_from : {S : Type 0} (left : S → Option (List ℕ)) (faults : S → ℕ) (first ps : List S) → length ps ≡ length first
    → ((q : ℕ) (d : S) (bytes : List ℕ) → q < length first → told_at (map left first) q ≡ Some bytes → IsLeftOf bytes (left (get_or ps q d))) → AreTied (map left first) (parts_of left faults ps)
tied_from {S} left faults first ps len tied =
    let seen : S → SourceView = λ p. record { left = left p; faults = faults p } in
    record {
      count = length-map ps seen ∙ len ∙ sym (length-map first left);
      each = λ q bytes told.
          let within : q < length ps = omega (arith, told_within (map left first) q bytes told, length-map first left, len) in
          let d = pick ps q within in (
            record { left = left (get_or ps q d); faults = faults (get_or ps q d) },
            part_at left faults ps q d within,
            tied q d bytes (omega (arith, within, len)) told,
          );
    }

-- no part was read
pub tied_at_first : {S : Type 0} (left : S → Option (List ℕ)) (faults : S → ℕ) (ps : List S) → AreTied (map left ps) (parts_of left faults ps)
tied_at_first left faults ps = tied_from left faults ps ps refl (λ q d bytes within told. left_unread bytes (left (get_or ps q d)) (sym (told_is left ps q d within) ∙ told))

pub tied_at_last : {S : Type 0} (left : S → Option (List ℕ)) (faults : S → ℕ) (first ps : List S) (k : ℕ) (node : Node) → length first ≤ k → Analysing left faults first ps k node → AreTied (map left first) (parts_of left faults ps)
tied_at_last left faults first ps k node far w = tied_from left faults first ps w.length_is (λ q d bytes within told. w.tied q d bytes (omega (arith, within, far)) told)

pub tied_at_fault : {S : Type 0} (left : S → Option (List ℕ)) (faults : S → ℕ) (first ps : List S) (k : ℕ) (d new : S) (node : Node) → k < length first → Ties left (get_or ps k d) new → Analysing left faults first ps k node
    → AreTied (map left first) (parts_of left faults (set ps k new))
tied_at_fault {S} left faults first ps k d new node within ties w =
    let here : k < length ps = omega (arith, w.length_is, within) in
    tied_from left faults first (set ps k new) (length-set ps k new ∙ w.length_is) (λ q e bytes inside told. elim (cases_order q k) [
      | inl same ↦ tied_at left first ps k q e d new bytes here same (w.unread k d (omega arith)) within ties told
      | inr (inl less) ↦ subst (λ (s : S). IsLeftOf bytes (left s)) (sym (get_or-set_other ps k q new e (λ same. omega (arith, same, less)))) (w.tied q e bytes less told)
      | inr (inr more) ↦
          (let unread : get_or (set ps k new) q e ≡ get_or first q e = get_or-set_other ps k q new e (λ same. omega (arith, same, more)) ∙ w.unread q e (omega (arith, more)) in
          subst (λ (s : S). IsLeftOf bytes (left s)) (sym unread) (left_unread bytes (left (get_or first q e)) (sym (told_is left first q e inside) ∙ told)))
    ])

-- ---- a fault

none_risen : {S : Type 0} (faults : S → ℕ) (ps : List S) (k : ℕ) (d : S) → AllByRecursion (λ p. faults p ≡ 0) ps → k < length ps → faults (get_or ps k d) ≡ 0
none_risen faults [] k d all within = absurd (omega arith)
none_risen faults (p ∷ ps) zero d all within = all.0
none_risen faults (p ∷ ps) (suc k) d all within = none_risen faults ps k d all.1 (omega arith)

refused_at : {S : Type 0} (left : S → Option (List ℕ)) (first : List S) (k : ℕ) (old : S) (after : Option (List ℕ)) (f : StreamFault) → told_at (map left first) k ≡ left old
    → ((bytes : List ℕ) → left old ≡ Some bytes → IsFaultOf k (length first) bytes after f) → (bytes : List ℕ) → told_at (map left first) k ≡ Some bytes → IsFaultOf k (length (map left first)) bytes after f
refused_at left first k old after f is faulty bytes told = subst (λ (m : ℕ). IsFaultOf k m bytes after f) (sym (length-map first left)) (faulty bytes (sym is ∙ told))

read_at : {S : Type 0} (left : S → Option (List ℕ)) (faults : S → ℕ) (first ps : List S) (k : ℕ) (d new : S) (node : Node)
    → k < length first → AllByRecursion (λ p. faults p ≡ 0) first → Analysing left faults first ps k node → Rose (faults (get_or ps k d)) (faults new)
    → ((bytes : List ℕ) → told_at (map left first) k ≡ Some bytes → ShowsNoRefusal k (length (map left first)) bytes (left new))
    → StopsAt (map left first) (parts_of left faults (set ps k new)) k fault.Read
read_at left faults first ps k d new node within fresh w rose shows =
    let here : k < length (set ps k new) = omega (arith, length-set ps k new, w.length_is, within) in
    let same = get_or-set_same ps k new d (omega (arith, w.length_is, within)) in
    let was : faults (get_or ps k d) ≡ 0 = ap faults (w.unread k d (omega arith)) ∙ none_risen faults first k d fresh within in (
      record { left = left (get_or (set ps k new) k d); faults = faults (get_or (set ps k new) k d) },
      part_at left faults (set ps k new) k d here,
      subst (λ (m : ℕ). Rose 0 m) (ap faults (sym same)) (subst (λ (m : ℕ). Rose m (faults new)) was rose),
      λ bytes told. subst (λ (o : Option (List ℕ)). ShowsNoRefusal k (length (map left first)) bytes o) (ap left (sym same)) (shows bytes told),
    )

pub at_fault : {S : Type 0} (left : S → Option (List ℕ)) (faults : S → ℕ) (mode : Mode) (first ps : List S) (k : ℕ) (d new : S) (node : Node) (f : StreamFault)
    → k < length first → AllByRecursion (λ p. faults p ≡ 0) first → Analysing left faults first ps k node
    → ((bytes : List ℕ) → left (get_or ps k d) ≡ Some bytes → IsFaultOf k (length first) bytes (left new) f)
    → (f ≡ fault.Read → Rose (faults (get_or ps k d)) (faults new))
    → Analyses mode (map left first) (parts_of left faults (set ps k new)) (Err (fault_at k f))
at_fault left faults mode first ps k d new node (fault.Malformed at c) within fresh w faulty rose =
    record {
      within = omega (arith, length-map first left, within);
      lower = w.accepted;
      stops = refused_at left first k (get_or ps k d) (left new) (fault.Malformed at c) (told_is left first k d within ∙ ap left (sym (w.unread k d (omega arith)))) faulty;
    }
at_fault left faults mode first ps k d new node (fault.Bound at l) within fresh w faulty rose =
    record {
      within = omega (arith, length-map first left, within);
      lower = w.accepted;
      stops = refused_at left first k (get_or ps k d) (left new) (fault.Bound at l) (told_is left first k d within ∙ ap left (sym (w.unread k d (omega arith)))) faulty;
    }
at_fault left faults mode first ps k d new node fault.Read within fresh w faulty rose =
    record {
      within = omega (arith, length-map first left, within);
      lower = w.accepted;
      stops = read_at left faults first ps k d new node within fresh w (rose refl) (refused_at left first k (get_or ps k d) (left new) fault.Read (told_is left first k d within ∙ ap left (sym (w.unread k d (omega arith)))) faulty);
    }
at_fault left faults mode first ps k d new node fault.NoMemory within fresh w faulty rose = tt
