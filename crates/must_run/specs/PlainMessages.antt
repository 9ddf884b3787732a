-- What is found of messages, and what the replay asks of them, depends on their signatures by the expansions alone.
use Rattle.std.proofs.Common.{◌≡◌, ℕ, suc, Bool, true, false, cond, List, [], ◌∷◌, length, map, Option, Some, refl, sym, ap, ap₂, subst, ◌∙◌, inl, inr}
use Rattle.std.specs.Prelude.{◌⊎◌, ◌&&◌, filter}
use Rattle.std.specs.declared.cmp.Ordering.{Ordering}
use Rattle.std.specs.Ordering.{nat_cmp, ordering_then, is_eq, is_lt}
use Rattle.must_base.specs.Listing.{Has}
use Rattle.must_find.specs.declared.finding.Finding.{Finding}
use Rattle.must_sig.specs.Signatures.{fit}
use Rattle.must_sig.specs.declared.fit.Fit.{Fit}
use Rattle.must_p2p.specs.declared.side.Side.{Side}
use Rattle.must_p2p.specs.declared.item.MsgItem.{MsgItem}
use Rattle.must_p2p.specs.Items.{Class, class_of, class_cmp, counted, same_side, in_lane, is_earlier, number}
use Rattle.must_p2p.specs.MessageRules.{fit_of, broken, match_finding, lone, lone_finding}
use Rattle.must_p2p.specs.Matching.{IsMatch, IsOneOf, IsMatchRow, IsLone, IsLoneRow, IsMessageRow}
use Rattle.must_node.specs.declared.fact.Fact.{Fact}
use Rattle.must_node.specs.declared.fact.Fact.TheVariants as fact
use Rattle.must_node.specs.Facts.{message_fact}
use Rattle.must_messages.specs.MessageItems.{Item, item_seen}

-- ---- lists that are seen alike

abbrev seen : List MsgItem → List Item
seen xs = map item_seen xs

first_same : (i j : Item) (is js : List Item) → i ∷ is ≡ j ∷ js → i ≡ j
first_same i j is js e = cc

rest_same : (i j : Item) (is js : List Item) → i ∷ is ≡ j ∷ js → is ≡ js
rest_same i j is js e = cc

-- the item that stands at the same place of the other list
record Twin (ys : List MsgItem) (x : MsgItem) : Type 0 where
  twin : MsgItem
  there : Has ys twin
  same : item_seen x ≡ item_seen twin

twin_of : (xs ys : List MsgItem) (x : MsgItem) → seen xs ≡ seen ys → Has xs x → Twin ys x
twin_of [] ys x e h = absurd h
twin_of (z ∷ zs) [] x e h = let n : item_seen z ∷ seen zs ≡ [] = e in absurd cc
twin_of (z ∷ zs) (y ∷ ys) x e (inl is) = record { twin = y; there = inl refl; same = ap item_seen is ∙ first_same (item_seen z) (item_seen y) (seen zs) (seen ys) e }
twin_of (z ∷ zs) (y ∷ ys) x e (inr h) =
    let t = twin_of zs ys x (rest_same (item_seen z) (item_seen y) (seen zs) (seen ys) e) h in
    record { twin = t.twin; there = inr t.there; same = t.same }

-- ---- numbers

abbrev class_seen : Item → Class
class_seen i = record { source = i.source; dest = i.dest; tag = i.tag; name = i.name }

abbrev counts : Item → Item → Bool
counts i j =
    (same_side (counted i.side) j.side && is_eq (class_cmp (class_seen i) (class_seen j)))
    && is_lt (ordering_then (nat_cmp j.place.call i.place.call) (nat_cmp j.part i.part))

abbrev number_seen : List Item → Item → ℕ
number_seen is i = length (filter (counts i) is)

one_counted : (b : Bool) (x : MsgItem) (i : Item) (us : List MsgItem) (vs : List Item) → length us ≡ length vs → length (cond b (x ∷ us) us) ≡ length (cond b (i ∷ vs) vs)
one_counted true x i us vs e = ap suc e
one_counted false x i us vs e = e

counted_seen : (p : Item → Bool) (xs : List MsgItem) → length (filter (λ x. p (item_seen x)) xs) ≡ length (filter p (seen xs))
counted_seen p [] = refl
counted_seen p (x ∷ xs) = one_counted (p (item_seen x)) x (item_seen x) (filter (λ y. p (item_seen y)) xs) (filter p (seen xs)) (counted_seen p xs)

number_is : (xs : List MsgItem) (x : MsgItem) → number xs x ≡ number_seen (seen xs) (item_seen x)
number_is xs x = counted_seen (counts (item_seen x)) xs

number_same : (xs ys : List MsgItem) (x y : MsgItem) → seen xs ≡ seen ys → item_seen x ≡ item_seen y → number xs x ≡ number ys y
number_same xs ys x y e same = number_is xs x ∙ ap₂ number_seen e same ∙ sym (number_is ys y)

-- ---- matches

match_same : (xs ys : List MsgItem) (s r t u : MsgItem) → seen xs ≡ seen ys → Has ys t → Has ys u → item_seen s ≡ item_seen t → item_seen r ≡ item_seen u → IsMatch xs s r → IsMatch ys t u
match_same xs ys s r t u e ht hu st ru m = record {
  send_there = ht;
  receive_there = hu;
  sends = sym (ap (λ (i : Item). i.side) st) ∙ m.sends;
  receives = sym (ap (λ (i : Item). i.side) ru) ∙ m.receives;
  one_class = sym (ap class_seen st) ∙ m.one_class ∙ ap class_seen ru;
  one_number = sym (number_same xs ys s t e st) ∙ m.one_number ∙ number_same xs ys r u e ru;
}

abbrev match_seen : Item → Item → Option Finding
match_seen i j = broken (fit i.signature j.signature) i.place j.place j.part

abbrev lone_seen : Item → Option Finding
lone_seen i = lone i.side i.place i.part

match_finding_is : (s r : MsgItem) → match_finding s r ≡ match_seen (item_seen s) (item_seen r)
unfolding fit_of
match_finding_is s r = refl

match_rows : (xs ys : List MsgItem) (f : Finding) → seen xs ≡ seen ys → IsMatchRow xs f → IsMatchRow ys f
match_rows xs ys f e row =
    let s = twin_of xs ys row.send e row.is_match.send_there in
    let r = twin_of xs ys row.receive e row.is_match.receive_there in
    record {
      send = s.twin;
      receive = r.twin;
      is_match = match_same xs ys row.send row.receive s.twin r.twin e s.there r.there s.same r.same row.is_match;
      gives = match_finding_is s.twin r.twin ∙ sym (ap₂ match_seen s.same r.same) ∙ sym (match_finding_is row.send row.receive) ∙ row.gives;
    }

-- a match of the twin is one of the item
lone_twin : (xs ys : List MsgItem) (x y : MsgItem) → seen xs ≡ seen ys → Has xs x → item_seen x ≡ item_seen y → IsLone xs x → IsLone ys y
lone_twin xs ys x y e h same none s r m (inl is) =
    let t = twin_of ys xs r (sym e) m.receive_there in
    let st : item_seen s ≡ item_seen x = sym (ap item_seen is) ∙ sym same in
    none x t.twin (match_same ys xs s r x t.twin (sym e) h t.there st t.same m) (inl refl)
lone_twin xs ys x y e h same none s r m (inr is) =
    let t = twin_of ys xs s (sym e) m.send_there in
    let rt : item_seen r ≡ item_seen x = sym (ap item_seen is) ∙ sym same in
    none t.twin x (match_same ys xs s r t.twin x (sym e) t.there h t.same rt m) (inr refl)

lone_rows : (xs ys : List MsgItem) (f : Finding) → seen xs ≡ seen ys → IsLoneRow xs f → IsLoneRow ys f
lone_rows xs ys f e row =
    let t = twin_of xs ys row.item e row.there in
    record {
      item = t.twin;
      there = t.there;
      is_lone = lone_twin xs ys row.item t.twin e row.there t.same row.is_lone;
      gives = sym (ap lone_seen t.same) ∙ row.gives;
    }

pub message_rows_alike : (xs ys : List MsgItem) (f : Finding) → map item_seen xs ≡ map item_seen ys → IsMessageRow xs f → IsMessageRow ys f
message_rows_alike xs ys f e (inl row) = inl (match_rows xs ys f e row)
message_rows_alike xs ys f e (inr row) = inr (lone_rows xs ys f e row)

-- ---- facts

abbrev fact_seen : ℕ → Item → Fact
fact_seen n i = fact.Message i.side i.name i.comm i.source i.dest i.tag n i.place i.part i.wild

facts_seen : (all : List Item) (xs zs : List MsgItem) → seen zs ≡ all → map (λ x. message_fact (number zs x) x) xs ≡ map (λ i. fact_seen (number_seen all i) i) (seen xs)
facts_seen all [] zs e = refl
facts_seen all (x ∷ xs) zs e =
    let first : message_fact (number zs x) x ≡ fact_seen (number_seen all (item_seen x)) (item_seen x) =
    ap (λ n. message_fact n x) (number_is zs x ∙ ap (λ is. number_seen is (item_seen x)) e) in
    ap₂ (λ (f : Fact) (fs : List Fact). f ∷ fs) first (facts_seen all xs zs e)

pub facts_alike : (xs ys : List MsgItem) → map item_seen xs ≡ map item_seen ys → map (λ x. message_fact (number xs x) x) xs ≡ map (λ y. message_fact (number ys y) y) ys
facts_alike xs ys e =
    facts_seen (seen ys) xs xs e ∙ ap (map (λ i. fact_seen (number_seen (seen ys) i) i)) e ∙ sym (facts_seen (seen ys) ys ys refl)
