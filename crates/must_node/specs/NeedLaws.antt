-- The needs that facts tell are those of the entries, in their order; below the root there are none.
use Rattle.std.proofs.Common.{◌≡◌, Bool, true, false, cond, List, [], ◌∷◌, ◌++◌, refl, ap, ◌∙◌}
use Rattle.std.specs.List.{flat_map}
use Rattle.must_p2p.specs.declared.item.MsgItem.{MsgItem}
use Rattle.must_entry.specs.declared.entry.Entry.{Entry}
use Rattle.must_entry.specs.declared.entry.Entry.TheVariants.{Row, Message, Wave, Need}
use Rattle.must_entry.specs.declared.range.RankRange.{RankRange}
use Rattle.must_entry.specs.Entries as entry
use Rattle.must_entry.specs.Entries.{Waits, messages}
use Rattle.must_node.specs.Facts.{fact_among, facts_of}
use Rattle.must_node.specs.Inner.{is_inner, inner}
use Rattle.must_node.specs.Partners.{needs}

needs_among : (ms : List MsgItem) (entries : List Entry) → needs (flat_map (fact_among ms) entries) ≡ entry.needs entries
needs_among ms [] = refl
needs_among ms (Row f ∷ es) = needs_among ms es
needs_among ms (Message x ∷ es) = needs_among ms es
needs_among ms (Wave x ∷ es) = needs_among ms es
needs_among ms (Need p ways ∷ es) = ap (λ (l : List Waits). record { place = p; ways = ways } ∷ l) (needs_among ms es)

pub needs_told : (entries : List Entry) → needs (facts_of entries) ≡ entry.needs entries
needs_told entries = needs_among (messages entries) entries

none_by : (b : Bool) (e : Entry) (es : List Entry) → entry.need_of e ≡ [] → entry.needs es ≡ [] → entry.needs (cond b (e ∷ es) es) ≡ []
none_by true e es none rest = ap (λ (l : List Waits). l ++ entry.needs es) none ∙ rest
none_by false e es none rest = rest

none_inner : (range : RankRange) (entries : List Entry) → entry.needs (inner false range entries) ≡ []
none_inner range [] = refl
none_inner range (Row f ∷ es) = none_by (is_inner false range (Row f)) (Row f) (inner false range es) refl (none_inner range es)
none_inner range (Message x ∷ es) = none_by (is_inner false range (Message x)) (Message x) (inner false range es) refl (none_inner range es)
none_inner range (Wave x ∷ es) = none_by (is_inner false range (Wave x)) (Wave x) (inner false range es) refl (none_inner range es)
none_inner range (Need p ways ∷ es) = none_inner range es

pub none_below : (range : RankRange) (entries : List Entry) → needs (facts_of (inner false range entries)) ≡ []
none_below range entries = needs_told (inner false range entries) ∙ none_inner range entries
