-- An inner entry settled.
use Rattle.std.proofs.Common.{◌≡◌, ℕ, List, [], ◌∷◌, ◌++◌, map, refl, sym, ap, subst, ◌∙◌, inl, inr}
use Rattle.std.specs.Prelude.{◌⊎◌, ◌↔◌}
use Rattle.std.proofs.lemmas.List.{append-nil}
use Rattle.must_call.specs.declared.place.Place.{Place}
use Rattle.must_base.specs.Listing.{Has}
use Rattle.must_base.specs.ListingLaws.{all_has}
use Rattle.must_find.specs.Adds.{Adds}
use Rattle.must_find.specs.declared.finding.Finding.{Finding}
use Rattle.must_group.specs.Names.{Name}
use Rattle.must_p2p.specs.declared.item.MsgItem.{MsgItem}
use Rattle.must_p2p.specs.Items.{number, Orderly}
use Rattle.must_p2p.specs.Matching.{IsRowOf, IsLoneRow}
use Rattle.must_p2p.specs.Standing.{StandsFor}
use Rattle.must_p2p.specs.LaneLaws.{has_last}
use Rattle.must_coll.specs.declared.item.WaveItem.{WaveItem}
use Rattle.must_coll.specs.Waves as waves
use Rattle.must_coll.specs.Waves.{present}
use Rattle.must_coll.specs.Progressing as progress
use Rattle.must_coll.specs.Rows.{IsWholeRow, IsWholeRowOf, IsGapRow}
use Rattle.must_coll.specs.GrowthLaws.{whole_rows_push, whole_or_gap, no_row}
use Rattle.must_entry.specs.declared.want.Want.{Want}
use Rattle.must_entry.specs.declared.entry.Entry.{Entry}
use Rattle.must_entry.specs.declared.entry.Entry.TheVariants.{Row, Message, Wave, Need}
use Rattle.must_entry.specs.Entries.{messages, call_of, calls}
use Rattle.must_node.specs.declared.fact.Fact.{Fact}
use Rattle.must_node.specs.declared.fact.Fact.TheVariants as fact
use Rattle.must_node.specs.declared.settled.Settled.{Settled}
use Rattle.must_node.specs.EntryRows.{IsEarlyRow, IsKnownRow, IsRow}
use Rattle.must_node.specs.Facts.{message_fact, call_fact, facts_of}
use Rattle.must_node.specs.Settling.{Knows}
use Rattle.must_node.specs.ListLaws.{has_index}
use Rattle.must_node.specs.EntryLaws.{messages_push, calls_push, facts_push, row_push, message_push, need_push, wave_push}
use Rattle.must_node.specs.OrderLaws.{calls_front}

-- calls that stay leave the rows of whole waves
known_by : (g : List Entry) (e : Entry) (f : Finding) (P : Type 0) → call_of e ≡ [] → IsEarlyRow (g ++ e ∷ []) f ↔ P → IsKnownRow (g ++ e ∷ []) f ↔ (P ⊎ IsWholeRow (calls g) f)
known_by g e f P none same =
    let c : calls (g ++ e ∷ []) ≡ calls g = calls_push g e ∙ ap (λ (l : List WaveItem). calls g ++ l) none ∙ append-nil (calls g) in (
      λ h. elim h [ inl r ↦ inl (same.0 r) | inr w ↦ inr (subst (λ (l : List WaveItem). IsWholeRow l f) c w) ],
      λ h. elim h [ inl p ↦ inl (same.1 p) | inr w ↦ inr (subst (λ (l : List WaveItem). IsWholeRow l f) (sym c) w) ],
    )

waves_still : (old new : Settled) (g : List Entry) (e : Entry) → call_of e ≡ [] → new.waves ≡ old.waves → Knows old g → progress.StandsFor new.waves (calls (g ++ e ∷ []))
waves_still old new g e none same k =
    rw (same, calls_push g e, none, append-nil (calls g)) k.waves

pub knows_row : (old new : Settled) (g : List Entry) (finding : Finding) → Knows old g → Orderly (messages (g ++ Row finding ∷ [])) → new.channels ≡ old.channels → new.waves ≡ old.waves → new.facts ≡ old.facts
    → ((f : Finding) → Has new.findings f ↔ ((f ≡ finding) ⊎ Has old.findings f)) → Knows new (g ++ Row finding ∷ [])
knows_row old new g finding k o channels waves_are facts adds = record {
  channels = rw (channels, messages_push g (Row finding), append-nil (messages g)) k.channels;
  waves = waves_still old new g (Row finding) refl waves_are k;
  findings = λ f.
      let known = known_by g (Row finding) f ((f ≡ finding) ⊎ IsEarlyRow g f) refl (row_push g finding f) in (
        λ h. known.1 (elim ((adds f).0 h) [ inl e ↦ inl (inl e) | inr t ↦ elim ((k.findings f).0 t) [ inl r ↦ inl (inr r) | inr w ↦ inr w ] ]),
        λ h. (adds f).1 (elim (known.0 h) [ inl p ↦ elim p [ inl e ↦ inl e | inr r ↦ inr ((k.findings f).1 (inl r)) ] | inr w ↦ inr ((k.findings f).1 (inr w)) ]),
      );
  facts = facts ∙ k.facts ∙ sym (facts_push g (Row finding) o ∙ append-nil (facts_of g));
}

pub knows_need : (old new : Settled) (g : List Entry) (p : Place) (ways : List (List Want)) → Knows old g → Orderly (messages (g ++ Need p ways ∷ [])) → new.channels ≡ old.channels → new.waves ≡ old.waves → new.findings ≡ old.findings
    → new.facts ≡ old.facts ++ fact.Need p ways ∷ [] → Knows new (g ++ Need p ways ∷ [])
knows_need old new g p ways k o channels waves_are findings facts = record {
  channels = rw (channels, messages_push g (Need p ways), append-nil (messages g)) k.channels;
  waves = waves_still old new g (Need p ways) refl waves_are k;
  findings = λ f.
      let known = known_by g (Need p ways) f (IsEarlyRow g f) refl (need_push g p ways f) in
      rw findings (λ h. known.1 ((k.findings f).0 h), λ h. (k.findings f).1 (known.0 h));
  facts = facts ∙ ap (λ (l : List Fact). l ++ fact.Need p ways ∷ []) k.facts ∙ sym (facts_push g (Need p ways) o);
}

pub knows_message : (old new : Settled) (g : List Entry) (x : MsgItem) (n : ℕ) → Knows old g → Orderly (messages (g ++ Message x ∷ [])) → n ≡ number (messages g ++ x ∷ []) x → new.waves ≡ old.waves
    → StandsFor new.channels (messages g ++ x ∷ []) → Adds old.findings new.findings (IsRowOf (messages g ++ x ∷ []) x) → new.facts ≡ old.facts ++ message_fact n x ∷ [] → Knows new (g ++ Message x ∷ [])
knows_message old new g x n k o is waves_are channels adds facts =
    let m = messages_push g (Message x) in
    let ordered : Orderly (messages g ++ x ∷ []) = subst Orderly m o in
    let number_is : n ≡ number (messages (g ++ Message x ∷ [])) x = is ∙ ap (λ (l : List MsgItem). number l x) (sym m) in
    record {
      channels = subst (λ (l : List MsgItem). StandsFor new.channels l) (sym m) channels;
      waves = waves_still old new g (Message x) refl waves_are k;
      findings = λ f.
          let known = known_by g (Message x) f (IsEarlyRow g f ⊎ IsRowOf (messages g ++ x ∷ []) x f) refl (message_push g x f ordered) in (
            λ h. known.1 (elim ((adds f).0 h) [ inl t ↦ elim ((k.findings f).0 t) [ inl r ↦ inl (inl r) | inr w ↦ inr w ] | inr r ↦ inl (inr r) ]),
            λ h. (adds f).1 (elim (known.0 h) [ inl p ↦ elim p [ inl r ↦ inl ((k.findings f).1 (inl r)) | inr r ↦ inr r ] | inr w ↦ inl ((k.findings f).1 (inr w)) ]),
          );
      facts = facts ∙ ap (λ (l : List Fact). l ++ message_fact n x ∷ []) k.facts ∙ ap (λ q. facts_of g ++ message_fact q x ∷ []) number_is ∙ sym (facts_push g (Message x) o);
    }

pub knows_wave : (old new : Settled) (g : List Entry) (x : WaveItem) → Knows old g → Orderly (messages (g ++ Wave x ∷ [])) → waves.Orderly (calls g ++ x ∷ []) → new.channels ≡ old.channels
    → progress.StandsFor new.waves (calls g ++ x ∷ []) → Adds old.findings new.findings (IsWholeRowOf (calls g ++ x ∷ []) x) → new.facts ≡ old.facts ++ call_fact x ∷ [] → Knows new (g ++ Wave x ∷ [])
knows_wave old new g x k o ordered channels stands adds facts =
    let c = calls_push g (Wave x) in
    let place = has_index x.name.members x.place.rank (all_has (λ (y : WaveItem). Has y.name.members y.place.rank) (calls g ++ x ∷ []) x ordered.members (has_last (calls g) x)) in
    record {
      channels = rw (channels, messages_push g (Wave x), append-nil (messages g)) k.channels;
      waves = subst (λ (l : List WaveItem). progress.StandsFor new.waves l) (sym c) stands;
      findings = λ f.
          let grow = whole_rows_push (calls g) x place.0 f ordered (calls_front (calls g) (x ∷ []) ordered) place.1 in
          let early = wave_push g x f in (
            λ h. elim ((adds f).0 h) [
              | inl t ↦ elim ((k.findings f).0 t) [ inl r ↦ inl (early.1 r) | inr w ↦ inr (subst (λ (l : List WaveItem). IsWholeRow l f) (sym c) (grow.1 (inl w))) ]
              | inr r ↦ inr (subst (λ (l : List WaveItem). IsWholeRow l f) (sym c) (grow.1 (inr r)))
            ],
            λ h. (adds f).1 (elim h [
              | inl r ↦ inl ((k.findings f).1 (inl (early.0 r)))
              | inr w ↦ elim (grow.0 (subst (λ (l : List WaveItem). IsWholeRow l f) c w)) [ inl before ↦ inl ((k.findings f).1 (inr before)) | inr own ↦ inr own ]
            ]),
          );
      facts = facts ∙ ap (λ (l : List Fact). l ++ call_fact x ∷ []) k.facts ∙ sym (facts_push g (Wave x) o);
    }

-- ---- nothing, and the end

no_calls_there : (name : Name) (k : ℕ) (ms : List ℕ) → present (map (waves.call_of [] name k) ms) ≡ []
no_calls_there name k [] = refl
no_calls_there name k (m ∷ ms) = no_calls_there name k ms

no_whole : (f : Finding) → IsWholeRow [] f → ⊥
no_whole f row = no_row row.name.members (waves.wave [] row.name row.number) f (no_calls_there row.name row.number row.name.members) row.at.row

pub none_known : (f : Finding) → IsKnownRow [] f → ⊥
none_known f (inl (inl h)) = h
none_known f (inl (inr m)) = m.is_match.send_there
none_known f (inr w) = no_whole f w

pub knows_none : (new : Settled) → StandsFor new.channels [] → progress.StandsFor new.waves [] → new.findings ≡ [] → new.facts ≡ [] → Knows new []
knows_none new channels stands findings facts = record {
  channels = channels;
  waves = stands;
  findings = λ f. rw findings (λ h. absurd h, λ h. absurd (none_known f h));
  facts = facts;
}

-- the rows of lone items and of waves with a gap come at the end
pub closes : (g : List Entry) (first mid last : List Finding) → ((f : Finding) → Has first f ↔ IsKnownRow g f) → Adds first mid (IsLoneRow (messages g)) → Adds mid last (IsGapRow (calls g)) → (f : Finding) → Has last f ↔ IsRow g f
closes g first mid last known lone gap = λ f. (
  λ h. elim ((gap f).0 h) [
    | inr w ↦ inr ((whole_or_gap (calls g) f).1 (inr w))
    | inl m ↦ elim ((lone f).0 m) [
      | inr l ↦ inl (inr (inr l))
      | inl t ↦ elim ((known f).0 t) [ inl early ↦ elim early [ inl there ↦ inl (inl there) | inr match_row ↦ inl (inr (inl match_row)) ] | inr w ↦ inr ((whole_or_gap (calls g) f).1 (inl w)) ]
    ]
  ],
  λ h. (gap f).1 (elim h [
    | inl plain ↦ inl ((lone f).1 (elim plain [
      | inl there ↦ inl ((known f).1 (inl (inl there)))
      | inr m ↦ elim m [ inl match_row ↦ inl ((known f).1 (inl (inr match_row))) | inr l ↦ inr l ]
    ]))
    | inr w ↦ elim ((whole_or_gap (calls g) f).0 w) [ inl whole ↦ inl ((lone f).1 (inl ((known f).1 (inr whole)))) | inr open_wave ↦ inr open_wave ]
  ]),
)
