-- The facts of entries: those of messages, of calls of waves, and of needs.
use Rattle.std.proofs.Common.{◌≡◌, ℕ, List, [], ◌∷◌, ◌++◌, map, refl, sym, ap, subst, ◌∙◌, append_assoc}
use Rattle.std.specs.List.{flat_map}
use Rattle.std.proofs.lemmas.List.Concat.{flat_map-append}
use Rattle.must_find.specs.Rearranged.{Rearranges, empty, behind, through, moved, from_equal, same}
use Rattle.must_p2p.specs.declared.item.MsgItem.{MsgItem}
use Rattle.must_p2p.specs.Items.{number}
use Rattle.must_coll.specs.declared.item.WaveItem.{WaveItem}
use Rattle.must_entry.specs.declared.entry.Entry.{Entry}
use Rattle.must_entry.specs.declared.entry.Entry.TheVariants.{Row, Message, Wave, Need}
use Rattle.must_entry.specs.Entries.{Waits, messages, calls, needs}
use Rattle.must_node.specs.declared.fact.Fact.{Fact}
use Rattle.must_node.specs.Facts.{message_fact, call_fact, fact_among, facts_of}
use Rattle.must_node.specs.Partners as partners
use Rattle.must_run.specs.RunWaits.{need_fact, facts_with}

-- facts of three kinds, where messages are numbered among these
abbrev apart : (all : List MsgItem) → List MsgItem → List WaveItem → List Waits → List Fact
apart all ms xs ws = map (λ x. message_fact (number all x) x) ms ++ (map call_fact xs ++ map need_fact ws)

facts_apart_from : (all : List MsgItem) (es : List Entry) → Rearranges (flat_map (fact_among all) es) (apart all (messages es) (calls es) (needs es))
facts_apart_from all [] = empty
facts_apart_from all (Row f ∷ es) = facts_apart_from all es
facts_apart_from all (Message x ∷ es) = behind (message_fact (number all x) x) (facts_apart_from all es)
facts_apart_from all (Wave x ∷ es) =
    through (behind (call_fact x) (facts_apart_from all es))
    (moved (call_fact x) (map (λ y. message_fact (number all y) y) (messages es)) (map call_fact (calls es) ++ map need_fact (needs es)))
facts_apart_from all (Need place ways ∷ es) =
    let w : Waits = record { place = place; ways = ways } in
    let ms = map (λ y. message_fact (number all y) y) (messages es) in
    let xs = map call_fact (calls es) in
    let ws = map need_fact (needs es) in
    through (behind (need_fact w) (facts_apart_from all es))
    (through (from_equal (need_fact w ∷ (ms ++ (xs ++ ws))) (need_fact w ∷ ((ms ++ xs) ++ ws)) (ap (λ (l : List Fact). need_fact w ∷ l) (sym (append_assoc ms xs ws))))
    (through (moved (need_fact w) (ms ++ xs) ws) (from_equal ((ms ++ xs) ++ need_fact w ∷ ws) (ms ++ (xs ++ need_fact w ∷ ws)) (append_assoc ms xs (need_fact w ∷ ws)))))

-- the facts of entries, one kind behind the other
pub facts_apart : (es : List Entry) → Rearranges (facts_of es) (facts_with (messages es) (calls es) (needs es))
facts_apart es = facts_apart_from (messages es) es

-- ---- needs

no_needs_of_messages : (all ms : List MsgItem) → partners.needs (map (λ x. message_fact (number all x) x) ms) ≡ []
no_needs_of_messages all [] = refl
no_needs_of_messages all (m ∷ ms) = no_needs_of_messages all ms

no_needs_of_calls : (xs : List WaveItem) → partners.needs (map call_fact xs) ≡ []
no_needs_of_calls [] = refl
no_needs_of_calls (x ∷ xs) = no_needs_of_calls xs

needs_told : (ws : List Waits) → partners.needs (map need_fact ws) ≡ ws
needs_told [] = refl
needs_told (w ∷ ws) = ap (λ (l : List Waits). w ∷ l) (needs_told ws)

-- the needs are told as they are
pub needs_with : (ms : List MsgItem) (xs : List WaveItem) (ws : List Waits) → partners.needs (facts_with ms xs ws) ≡ ws
needs_with ms xs ws =
    flat_map-append partners.need_of (map (λ x. message_fact (number ms x) x) ms) (map call_fact xs ++ map need_fact ws)
    ∙ ap (λ (l : List Waits). l ++ partners.needs (map call_fact xs ++ map need_fact ws)) (no_needs_of_messages ms ms)
    ∙ flat_map-append partners.need_of (map call_fact xs) (map need_fact ws)
    ∙ ap (λ (l : List Waits). l ++ partners.needs (map need_fact ws)) (no_needs_of_calls xs)
    ∙ needs_told ws
