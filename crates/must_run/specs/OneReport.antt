-- A run has one list of rows: what its ranks give is one list each up to the forms of signatures, on which no row depends.
use Rattle.std.proofs.Common.{◌≡◌, ℕ, suc, List, [], ◌∷◌, ◌++◌, map, refl, sym, ap, ap₂, subst, ◌∙◌, inl, inr}
use Rattle.std.proofs.lemmas.List.{map-append}
use Rattle.must_base.specs.Listing.{Lists}
use Rattle.must_base.specs.ListingLaws.{lists_one}
use Rattle.must_find.specs.declared.finding.Finding.{Finding}
use Rattle.must_find.specs.Order.{by_place}
use Rattle.must_find.specs.OrderLaws.{by_place_total}
use Rattle.must_p2p.specs.declared.item.MsgItem.{MsgItem}
use Rattle.must_coll.specs.declared.item.WaveItem.{WaveItem}
use Rattle.must_coll.specs.Plain.{plain}
use Rattle.must_coll.specs.PlainLaws.{rows_alike}
use Rattle.must_node.specs.declared.fact.Fact.{Fact}
use Rattle.must_node.specs.Facts.{call_fact}
use Rattle.must_wait.specs.Needs.{Rows}
use Rattle.must_node.specs.RunNeeds.{run_needs}
use Rattle.must_node.specs.Waits.{IsWaitRow}
use Rattle.must_messages.specs.MessageItems.{item_seen}
use Rattle.must_rules.specs.Run.{Run, Mode, Recorded, size_of}
use Rattle.must_rules.specs.RunRows.{rank_in}
use Rattle.must_items.specs.OneList.{rows_one}
use Rattle.must_run.specs.RunWaves.{AreItemsFrom}
use Rattle.must_run.specs.RunMessages.{needs_in}
use Rattle.must_run.specs.RunGiven.{Given, IsGivenBy}
use Rattle.must_run.specs.RunRows.{IsRunRow, AreRunRows}
use Rattle.must_run.specs.RunWaits.{need_fact, facts_with, is_strict, waits_in}
use Rattle.must_run.specs.PlainMessages.{message_rows_alike, facts_alike}

items_one : (size rank : ℕ) (ranks : List Recorded) (xs ys : List WaveItem) → AreItemsFrom size rank ranks xs → AreItemsFrom size rank ranks ys → map plain xs ≡ map plain ys
items_one size rank [] xs ys p q = ap (map plain) (p ∙ sym q)
items_one size rank (recorded ∷ ranks) xs ys p q =
    ap (map plain) p.items_are ∙ map-append plain p.front p.back
    ∙ ap (λ (l : List WaveItem). l ++ map plain p.back) (rows_one (rank_in size rank recorded) recorded.calls p.front q.front p.first q.first)
    ∙ ap (λ (l : List WaveItem). map plain q.front ++ l) (items_one size (suc rank) ranks p.back q.back p.rest q.rest)
    ∙ sym (ap (map plain) q.items_are ∙ map-append plain q.front q.back)

-- the facts of calls don't tell signatures
calls_plain : (xs : List WaveItem) → map call_fact xs ≡ map call_fact (map plain xs)
calls_plain [] = refl
calls_plain (x ∷ xs) = ap (λ (fs : List Fact). call_fact x ∷ fs) (calls_plain xs)

-- what two lists that a run gives have in common
record AreAlike (given other : Given) : Type 0 where
  messages : map item_seen given.messages ≡ map item_seen other.messages
  calls : map plain given.calls ≡ map plain other.calls

alike : (run : Run) (given other : Given) → IsGivenBy run given → IsGivenBy run other → AreAlike given other
alike run given other p q = record { messages = p.messages ∙ sym q.messages; calls = items_one (size_of run) 0 run.ranks given.calls other.calls p.calls q.calls }

turned : (given other : Given) → AreAlike given other → AreAlike other given
turned given other a = record { messages = sym a.messages; calls = sym a.calls }

waits_same : (run : Run) (mode : Mode) (given other : Given) → AreAlike given other → waits_in run mode given ≡ waits_in run mode other
waits_same run mode given other a =
    let calls : map call_fact given.calls ≡ map call_fact other.calls = calls_plain given.calls ∙ ap (map call_fact) a.calls ∙ sym (calls_plain other.calls) in
    let rest : map call_fact given.calls ++ map need_fact (needs_in run) ≡ map call_fact other.calls ++ map need_fact (needs_in run) = ap (λ (fs : List Fact). fs ++ map need_fact (needs_in run)) calls in
    let facts : facts_with given.messages given.calls (needs_in run) ≡ facts_with other.messages other.calls (needs_in run) =
    ap₂ (λ (fs gs : List Fact). fs ++ gs) (facts_alike given.messages other.messages a.messages) rest in
    ap (λ (fs : List Fact). run_needs (is_strict mode) fs (size_of run)) facts

moved : (run : Run) (mode : Mode) (given other : Given) (f : Finding) → AreAlike given other → IsRunRow run mode given f → IsRunRow run mode other f
moved run mode given other f a (inl own) = inl own
moved run mode given other f a (inr (inl row)) = inr (inl (message_rows_alike given.messages other.messages f a.messages row))
moved run mode given other f a (inr (inr (inl row))) = inr (inr (inl (rows_alike given.calls other.calls f a.calls row)))
moved run mode given other f a (inr (inr (inr row))) = inr (inr (inr (subst (λ (rows : Rows). IsWaitRow rows f) (waits_same run mode given other a) row)))

pub one_report : (run : Run) (mode : Mode) (rows others : List Finding) → AreRunRows run mode rows → AreRunRows run mode others → rows ≡ others
one_report run mode rows others one other =
    let same = alike run one.given other.given one.is_given other.is_given in
    let here : Lists by_place (IsRunRow run mode one.given) others = record {
      rises = other.lists.rises;
      exact = λ f. (
        λ h. moved run mode other.given one.given f (turned one.given other.given same) ((other.lists.exact f).0 h),
        λ is. (other.lists.exact f).1 (moved run mode one.given other.given f same is),
      );
    } in
    lists_one by_place by_place_total (IsRunRow run mode one.given) rows others one.lists here

-- and what its calls wait for is one list too
pub one_replay : (run : Run) (mode : Mode) (given other : Given) → IsGivenBy run given → IsGivenBy run other → waits_in run mode given ≡ waits_in run mode other
one_replay run mode given other p q = waits_same run mode given other (alike run given other p q)
