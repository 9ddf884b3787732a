-- The item of an operation is told by how it ended.
use Rattle.std.proofs.Common.{◌≡◌, ℕ, ℤ, Bool, true, false, cond, ◌||◌, List, [], ◌∷◌, ◌++◌, Option, Some, None, refl, ap, sym, subst, ◌∙◌}
use Rattle.std.specs.Prelude.{option_map, option_and_then, is_some}
use Rattle.must_call.specs.declared.place.Place.{Place}
use Rattle.must_call.specs.declared.status.Status3.{Status3}
use Rattle.must_call.specs.declared.call.Call.{Call}
use Rattle.must_p2p.specs.declared.side.Side.{Side}
use Rattle.must_p2p.specs.declared.side.Side.TheVariants as side
use Rattle.must_p2p.specs.declared.wild.Wild.{Wild}
use Rattle.must_rules.specs.Rank.{Rank}
use Rattle.must_rules.specs.Parts.{with_both}
use Rattle.must_messages.specs.declared.asked.Deed.{Deed}
use Rattle.must_messages.specs.declared.asked.Deed.TheVariants as deed
use Rattle.must_messages.specs.Asking.{envelope_seen, action_seen, mode_seen}
use Rattle.must_rules.specs.Operations.{Action, Sends, Receives, Probes, Envelope, Operation}
use Rattle.must_rules.specs.Fates.{Fate, status_of, done_in}
use Rattle.must_rules.specs.Statuses.{says_cancelled, is_cancelled_by, is_cancelled, names_any, names_any_source, names_any_tag}
use Rattle.must_messages.specs.MessageItems.{Item, item, no_wild, rank_at, wild_of, known_source, known_tag, probed_source, probed_tag, item_by, sent, taken}
use Rattle.must_hold.specs.declared.held.Pending.{Pending}
use Rattle.must_hold.specs.declared.held.End.{End}
use Rattle.must_hold.specs.Ended.{IsPending, envelope, item_for, item_taken, item_sent, item_received, item_probed, item_ended, wild_for}

module _ (r : Rank) (p : Pending) (op : Operation) (pending : IsPending p op) where
  same_item : (s : Side) (wild : Wild) (source dest : ℕ) (tag : ℤ) → item_for r.rank p s wild source dest tag ≡ item r op s wild source dest tag
  same_item s wild source dest tag =
      ap (λ (k : ℕ). record (item_for r.rank p s wild source dest tag) { place = record { rank = r.rank; call = k } }) (sym pending.call_is)
      ∙ ap (λ (k : ℕ). record (item r op s wild source dest tag) { part = k; name = p.asked.name; comm = p.asked.comm; signature = Rattle.must_sig.specs.Signatures.expansion p.asked.sig }) (sym pending.part_is)
      ∙ ap (λ (e : Envelope). record (item r op s wild source dest tag) { name = e.name; comm = e.comm; signature = Rattle.must_sig.specs.Signatures.expansion p.asked.sig }) (sym pending.asked_is.envelope_is)
      ∙ ap (λ sig. record (item r op s wild source dest tag) { signature = sig }) (sym pending.asked_is.signature_is)

  same_taken : (s : Side) (wild : Wild) (source : Option ℕ) (tag : Option ℤ) → item_taken r.rank p s wild source tag ≡ taken r op s wild source tag
  same_taken s wild None tag = refl
  same_taken s wild (Some source) None = refl
  same_taken s wild (Some source) (Some tag) = ap Some (same_item s wild source r.rank tag)

  same_sent : (dest : Option ℕ) → option_map (λ to. item_for r.rank p side.Send no_wild r.rank to p.asked.tag) dest ≡ sent r op dest
  same_sent None = refl
  same_sent (Some to) = ap Some (same_item side.Send no_wild r.rank to p.asked.tag ∙ ap (λ (e : Envelope). item r op side.Send no_wild r.rank to e.tag) (sym pending.asked_is.envelope_is))

  module _ (end : End) (fate : Fate) (status_is : status_of fate ≡ end.status) (done_is : done_in fate ≡ end.done) where
    same_wild : wild_for (envelope p) end.done ≡ wild_of (envelope p) fate
    same_wild = ap (wild_for (envelope p)) (sym done_is)

    by_deed : (d : Deed) → item_ended r.rank p end d ≡ item_by r (is_cancelled_by (action_seen d) fate) end.breaks fate op (action_seen d) (envelope p)
    by_deed (deed.Send mode) =
        ap (λ (s : Option Status3). cond (says_cancelled s) None (item_sent r.rank p)) (sym status_is)
        ∙ ap (λ (i : Option Item). cond (says_cancelled (status_of fate)) None i) (same_sent (rank_at (envelope p) p.asked.peer))
    by_deed deed.Receive =
        ap (λ (s : Option Status3). cond (says_cancelled s || end.breaks) None
        (item_taken r.rank p side.Receive (wild_for (envelope p) end.done) (option_and_then (rank_at (envelope p)) (known_source (envelope p) s)) (known_tag (envelope p) s))) (sym status_is)
        ∙ ap (λ (w : Wild). cond (says_cancelled (status_of fate) || end.breaks) None
        (item_taken r.rank p side.Receive w (option_and_then (rank_at (envelope p)) (known_source (envelope p) (status_of fate))) (known_tag (envelope p) (status_of fate)))) same_wild
        ∙ ap (λ (i : Option Item). cond (says_cancelled (status_of fate) || end.breaks) None i)
        (same_taken side.Receive (wild_of (envelope p) fate) (option_and_then (rank_at (envelope p)) (known_source (envelope p) (status_of fate))) (known_tag (envelope p) (status_of fate)))
    by_deed deed.Probe =
        ap (λ (s : Option Status3). item_taken r.rank p side.Probe no_wild (option_and_then (rank_at (envelope p)) (probed_source (envelope p) s)) (probed_tag (envelope p) s)) (sym status_is)
        ∙ same_taken side.Probe no_wild (option_and_then (rank_at (envelope p)) (probed_source (envelope p) (status_of fate))) (probed_tag (envelope p) (status_of fate))

    -- the item of an operation that ended so
    pub item_is : item_ended r.rank p end p.asked.deed ≡ item_by r (is_cancelled op fate) end.breaks fate op op.message.action op.message.envelope
    item_is =
        by_deed p.asked.deed
        ∙ ap (λ (a : Action). item_by r (is_cancelled_by a fate) end.breaks fate op a (envelope p)) (sym pending.asked_is.action_is)
        ∙ ap (λ (e : Envelope). item_by r (is_cancelled op fate) end.breaks fate op op.message.action e) (sym pending.asked_is.envelope_is)
