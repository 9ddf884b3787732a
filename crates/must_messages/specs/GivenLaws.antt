-- What is given before the calls of a rank end is as orderly as what all of them give.
use Rattle.std.proofs.Common.{◌≡◌, ℕ, ◌<◌, List, [], ◌∷◌, ◌++◌, length, map, refl, sym, ap, ap₂, subst, ◌∙◌}
use Rattle.std.specs.Prelude.{filter_map}
use Rattle.std.specs.List.{AllByRecursion}
use Rattle.std.proofs.lemmas.List.{append-nil, map-append}
use Rattle.must_call.specs.declared.basic.Basic.{Basic}
use Rattle.must_call.specs.declared.place.Place.{Place}
use Rattle.must_call.specs.declared.call.Call.{Call}
use Rattle.must_sig.specs.declared.run.Run.{Run}
use Rattle.must_sig.specs.Signatures.{repeated, laid, expansion}
use Rattle.must_p2p.specs.declared.item.MsgItem.{MsgItem}
use Rattle.must_p2p.specs.Items.{Orderly}
use Rattle.must_p2p.specs.ClassLaws.{orderly_front}
use Rattle.must_entry.specs.Entries.{Waits}
use Rattle.must_entry.specs.Lawful.{Rise}
use Rattle.must_rules.specs.Rank.{Rank}
use Rattle.must_rules.specs.Numbered.{AreNumbered}
use Rattle.must_rules.specs.Turns.{Turn, turns}
use Rattle.must_messages.specs.MessageItems.{Item, item_seen, item_of, items_of, AreMessagesOf}
use Rattle.must_messages.specs.CallNeeds.{waits_of, needs_of}
use Rattle.must_messages.specs.Holding.{held, untold, told, items_given, needs_given}
use Rattle.must_messages.specs.HoldingLaws.{items_whole, needs_whole}
use Rattle.must_messages.specs.ItemOrderLaws.{IsMessageAt, messages_at_rank}
use Rattle.must_messages.specs.ItemNameLaws.{messages_orderly}
use Rattle.must_messages.specs.NeedLaws.{needs_rise}

-- ---- an item in some form

abbrev run_of : Basic → Run
run_of b = record { basic = b; length = 1 }

laid_back : (bs : List Basic) → laid (map run_of bs) ≡ bs
laid_back [] = refl
laid_back (b ∷ bs) = ap (λ (l : List Basic). b ∷ l) (laid_back bs)

one_time : (bs : List Basic) → repeated 1 bs ≡ bs
unfolding repeated
one_time bs = append-nil bs

abbrev formed : Item → MsgItem
formed i = record {
  place = i.place;
  part = i.part;
  side = i.side;
  name = i.name;
  comm = i.comm;
  source = i.source;
  dest = i.dest;
  tag = i.tag;
  sig = record { unit = map run_of i.signature; times = 1 };
  wild = i.wild;
}

abbrev with_signature : Item → List Basic → Item
with_signature i bs = record i { signature = bs }

formed_seen : (i : Item) → item_seen (formed i) ≡ i
formed_seen i = ap (with_signature i) (one_time (laid (map run_of i.signature)) ∙ laid_back i.signature)

all_formed : (is : List Item) → map item_seen (map formed is) ≡ is
all_formed [] = refl
all_formed (i ∷ is) = ap₂ (λ (j : Item) (js : List Item). j ∷ js) (formed_seen i) (all_formed is)

-- ---- messages

abbrev rest : Rank → List Call → List MsgItem
rest r calls = map formed (filter_map (item_of r calls) (held r calls))

-- with what is held back, in some form, they are all messages of the rank
with_rest : (r : Rank) (calls : List Call) (xs : List MsgItem) → map item_seen xs ≡ items_given r calls → AreMessagesOf r calls (xs ++ rest r calls)
with_rest r calls xs are =
    map-append item_seen xs (rest r calls) ∙ ap₂ (λ (is js : List Item). is ++ js) are (all_formed (filter_map (item_of r calls) (held r calls))) ∙ sym (items_whole r calls)

pub given_orderly : (r : Rank) (calls : List Call) (xs : List MsgItem) → AreNumbered 64 calls → map item_seen xs ≡ items_given r calls → Orderly xs
given_orderly r calls xs numbered are = orderly_front xs (rest r calls) (messages_orderly r calls (xs ++ rest r calls) numbered (with_rest r calls xs are))

all_front : {X : Type 0} (P : X → Type 0) (xs ys : List X) → AllByRecursion P (xs ++ ys) → AllByRecursion P xs
all_front P [] ys all = tt
all_front P (x ∷ xs) ys all = (all.0, all_front P xs ys all.1)

pub given_at_rank : (r : Rank) (calls : List Call) (xs : List MsgItem) → map item_seen xs ≡ items_given r calls → AllByRecursion (IsMessageAt r.rank) xs
given_at_rank r calls xs are = all_front (IsMessageAt r.rank) xs (rest r calls) (messages_at_rank r calls (xs ++ rest r calls) (with_rest r calls xs are))

-- ---- needs

abbrev places : List Waits → List Place
places ws = map (λ w. w.place) ws

rise_front : (ps qs : List Place) → Rise (ps ++ qs) → Rise ps
rise_front [] qs rise = tt
rise_front (p ∷ ps) qs rise = (all_front (λ q. p.rank ≡ q.rank → p.call < q.call) ps qs rise.0, rise_front ps qs rise.1)

pub given_rise : (r : Rank) (calls : List Call) → Rise (map (λ w. w.place) (needs_given r calls))
given_rise r calls =
    let back = map (waits_of r calls) (untold r calls) in
    rise_front (places (needs_given r calls)) (places back) (subst Rise (ap places (needs_whole r calls) ∙ map-append (λ w. w.place) (needs_given r calls) back) (needs_rise r calls))

at_rank : (r : Rank) (calls : List Call) (ts : List Turn) → AllByRecursion (λ w. w.place.rank ≡ r.rank) (map (waits_of r calls) ts)
at_rank r calls [] = tt
at_rank r calls (t ∷ ts) = (refl, at_rank r calls ts)

pub needs_given_at_rank : (r : Rank) (calls : List Call) → AllByRecursion (λ w. w.place.rank ≡ r.rank) (needs_given r calls)
needs_given_at_rank r calls = at_rank r calls (told r calls)

pub needs_at_rank : (r : Rank) (calls : List Call) → AllByRecursion (λ w. w.place.rank ≡ r.rank) (needs_of r calls)
needs_at_rank r calls = at_rank r calls (turns calls)
