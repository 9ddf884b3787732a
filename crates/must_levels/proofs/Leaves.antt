-- What a child of one rank answers.
use Rattle.std.proofs.Common.{◌≡◌, ℕ, ◌+◌, List, [], ◌∷◌, None, Ok, sym, ap, ◌∙◌, subst}
use Rattle.std.proofs.lemmas.List.{append-nil}
use Rattle.must_find.specs.Rearranged.{same, from_equal}
use Rattle.must_format.specs.declared.fault.StreamFault.{StreamFault}
use Rattle.must_entry.specs.declared.batch.Batch.{Batch}
use Rattle.must_entry.specs.declared.range.RankRange.{RankRange}
use Rattle.must_entry.specs.Entries.{entries_of}
use Rattle.must_entry.specs.Lawful.{IsLawful}
use Rattle.must_inbox.specs.States.{PortState}
use Rattle.must_levels.specs.Readers.{one_rank, batches_in}
use Rattle.must_levels.specs.Running.{Ran}
use Rattle.must_levels.proofs.Moves.{moves, range_stays}

module _ {S : Type 0} (whole : ℕ → S → S → List Batch → Type 0) (failed : ℕ → S → S → StreamFault → Type 0) (since : S → S → Type 0) (rank : ℕ) (old new : S) (after : since old new) (p q : PortState) (range : p.range ≡ one_rank rank) (same_port : q ≡ record p { sent = q.sent }) (law : IsLawful (one_rank rank) q.sent) where
  q_range : q.range ≡ one_rank rank
  q_range = range_stays p q same_port ∙ range

  port_law : IsLawful p.range q.sent
  port_law = subst (λ (r : RankRange). IsLawful r q.sent) (sym range) law

  pub leaf_done : whole rank old new q.sent → Ran whole failed since 0 rank (old ∷ []) (new ∷ []) p q (Ok None)
  leaf_done w = record {
    answer = record {
      lists = q.sent ∷ [];
      all = (w, tt);
      hands = record {
        count = ap (λ (r : RankRange). r.to) q_range ∙ ap (λ (r : RankRange). r.from + 1) (sym q_range);
        lawful = (subst (λ (r : RankRange). IsLawful (one_rank r.from) q.sent) (sym q_range) law, tt);
        left = from_equal (entries_of q.sent) (entries_of (batches_in (q.sent ∷ []))) (ap entries_of (sym (append-nil q.sent)));
      };
      tells = record { rows = λ f. ((λ h. absurd h), (λ h. absurd h)); facts = same [] };
    };
    parts = (after, tt);
    port = moves p q same_port port_law;
  }
