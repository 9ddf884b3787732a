-- A probe changes nothing.
use Rattle.std.proofs.Common.{◌≡◌, false, cond, List, [], ◌∷◌, ◌++◌, map, Some, None, refl, sym, ap, subst, ◌∙◌}
use Rattle.std.specs.Option.{option_map}
use Rattle.std.specs.Ordering.{is_eq}
use Rattle.std.proofs.lemmas.Bool.{and_left}
use Rattle.std.proofs.lemmas.List.{append-nil}
use Rattle.std.proofs.lemmas.List.Elements.{filter-append}
use Rattle.must_find.specs.Adds.{Adds}
use Rattle.must_find.specs.declared.finding.Finding.{Finding}
use Rattle.must_p2p.specs.declared.side.Side.{Side}
use Rattle.must_p2p.specs.declared.side.Side.TheVariants.{Send, Receive, Probe}
use Rattle.must_p2p.specs.declared.item.MsgItem.{MsgItem}
use Rattle.must_p2p.specs.declared.waiting.Waiting.{Waiting}
use Rattle.must_p2p.specs.declared.channels.Channels.{Channels}
use Rattle.must_p2p.specs.Items.{Class, class_of, class_cmp, same_side, in_lane, lane, Orderly}
use Rattle.must_p2p.specs.MessageRules.{pair_finding}
use Rattle.must_p2p.specs.Matching.{IsMatchOf, IsRowOf}
use Rattle.must_p2p.specs.MatchLaws.{IsPairOf, pair_is, match_from_pair, rows_from_pair}
use Rattle.must_p2p.specs.Queues.{waiting, pair_of, StandsAt}
use Rattle.must_p2p.specs.Standing.{queue_of, kept, StandsFor}
use Rattle.must_p2p.proofs.Named.{knows_more}
use Rattle.must_p2p.proofs.Steps.{adds_none, adds_alike}

lane_still : (c : Class) (side : Side) (items : List MsgItem) (x : MsgItem) → same_side side x.side ≡ false → lane c side (items ++ x ∷ []) ≡ lane c side items
lane_still c side items x e =
    filter-append (in_lane c side) items (x ∷ []) ∙ ap (λ b. lane c side items ++ cond b (x ∷ []) []) (and_left (same_side side x.side) (is_eq (class_cmp c (class_of x))) e) ∙ append-nil (lane c side items)

kept_still : (c : Class) (side : Side) (items : List MsgItem) (x : MsgItem) → same_side side x.side ≡ false → kept c side items ≡ kept c side (items ++ x ∷ [])
kept_still c side items x e = ap (map waiting) (sym (lane_still c side items x e))

pub probe_stands : (channels : Channels) (items : List MsgItem) (x : MsgItem) → x.side ≡ Probe → StandsFor channels items → StandsFor channels (items ++ x ∷ [])
probe_stands channels items x side st = record {
  knows = knows_more channels.names items x st.knows;
  keeps = λ c.
      subst (λ (s : List Waiting). StandsAt (queue_of channels.names channels.queues c) s (kept c Receive (items ++ x ∷ []))) (kept_still c Send items x (ap (same_side Send) side))
      (subst (λ (r : List Waiting). StandsAt (queue_of channels.names channels.queues c) (kept c Send items) r) (kept_still c Receive items x (ap (same_side Receive) side)) (st.keeps c));
  owned = st.owned;
}

no_pair : (items : List MsgItem) (x : MsgItem) → x.side ≡ Probe → Orderly (items ++ x ∷ []) → IsPairOf (items ++ x ∷ []) x None
no_pair items x side o = subst (λ t. IsPairOf (items ++ x ∷ []) x (pair_of t x (lane (class_of x) Send items) (lane (class_of x) Receive items))) side (pair_is items x o)

pub probe_found : (items : List MsgItem) (x : MsgItem) → x.side ≡ Probe → Orderly (items ++ x ∷ []) → IsMatchOf (items ++ x ∷ []) x None
probe_found items x side o = match_from_pair (items ++ x ∷ []) x None (no_pair items x side o)

pub probe_rows : (out : List Finding) (items : List MsgItem) (x : MsgItem) → x.side ≡ Probe → Orderly (items ++ x ∷ []) → Adds out out (IsRowOf (items ++ x ∷ []) x)
probe_rows out items x side o =
    adds_alike out out (λ f. option_map pair_finding None ≡ Some (Some f)) (IsRowOf (items ++ x ∷ []) x) (λ f. rows_from_pair (items ++ x ∷ []) x None f (no_pair items x side o))
    (adds_none out (option_map pair_finding None) refl)
