-- What facts tell is what entries do: the partner of a message is its match, and the calls of a wave are those of the wave.
use Rattle.std.proofs.Common.{◌≡◌, Bool, true, ◌&&◌, List, [], ◌∷◌, map, Option, Some, None, refl, sym, ap, subst, ◌∙◌, inl, inr}
use Rattle.std.specs.Prelude.{find}
use Rattle.std.specs.List.{flat_map}
use Rattle.std.specs.Option.{option_map}
use Rattle.std.specs.Ordering.{nat_cmp, int_cmp, ordering_then, is_eq}
use Rattle.std.specs.FinMap.{nat_cmp-IsAntisymmetric, int_cmp-IsAntisymmetric}
use Rattle.std.specs.Cmp.{IsTotalOrder}
use Rattle.std.proofs.lemmas.Bool.{and_parts, and_from}
use Rattle.std.proofs.lemmas.Cmp.{nat_cmp_total, int_cmp_total, on_total, then_total, tied_itself}
use Rattle.must_base.specs.Listing.{Has}
use Rattle.must_find.specs.Rearranged.{Rearranges, back, still_has, flat_mapped}
use Rattle.must_group.specs.Names.{name_cmp}
use Rattle.must_group.specs.NameOrder.{name_total, name_same}
use Rattle.must_p2p.specs.declared.side.Side.{Side}
use Rattle.must_p2p.specs.declared.side.Side.TheVariants as side
use Rattle.must_p2p.specs.declared.item.MsgItem.{MsgItem}
use Rattle.must_p2p.specs.Items.{Class, class_of, number, same_side, Orderly}
use Rattle.must_p2p.specs.Matching.{IsMatch, IsLone}
use Rattle.must_p2p.specs.ClassLaws.{then_parts, eq_equal, side_same}
use Rattle.must_p2p.specs.PlaceLaws.{send_one, receive_one}
use Rattle.must_coll.specs.ListLaws.{found, missed}
use Rattle.must_entry.specs.declared.entry.Entry.{Entry}
use Rattle.must_entry.specs.declared.entry.Entry.TheVariants.{Row, Message, Wave, Need}
use Rattle.must_entry.specs.Entries.{messages}
use Rattle.must_node.specs.declared.fact.Fact.{Fact}
use Rattle.must_node.specs.declared.keys.Item.{Item}
use Rattle.must_node.specs.declared.keys.Meeting.{Meeting}
use Rattle.must_node.specs.Facts.{fact_among, facts_of}
use Rattle.must_node.specs.Partners.{item_of, items, meeting_of, meeting_cmp, place_of}

-- an item of a message with its number among these
abbrev pub numbered : List MsgItem → MsgItem → Item
numbered ms x = record { place = x.place; part = x.part; side = x.side; source = x.source; dest = x.dest; tag = x.tag; number = number ms x; name = x.name }

items_among : (ms : List MsgItem) (entries : List Entry) → items (flat_map (fact_among ms) entries) ≡ map (numbered ms) (messages entries)
items_among ms [] = refl
items_among ms (Row f ∷ es) = items_among ms es
items_among ms (Message x ∷ es) = ap (λ (l : List Item). numbered ms x ∷ l) (items_among ms es)
items_among ms (Wave x ∷ es) = items_among ms es
items_among ms (Need p ways ∷ es) = items_among ms es

pub has_mapped : {X Y : Type 0} (f : X → Y) (xs : List X) (x : X) → Has xs x → Has (map f xs) (f x)
has_mapped f [] x h = absurd h
has_mapped f (y ∷ ys) x (inl e) = inl (ap f e)
has_mapped f (y ∷ ys) x (inr h) = inr (has_mapped f ys x h)

pub record IsMapped {X Y : Type 0} (f : X → Y) (xs : List X) (y : Y) : Type 0 where
  pub from : X
  pub there : Has xs from
  pub is : y ≡ f from

pub mapped_has : {X Y : Type 0} (f : X → Y) (xs : List X) (y : Y) → Has (map f xs) y → IsMapped f xs y
mapped_has f [] y h = absurd h
mapped_has f (x ∷ xs) y (inl e) = record { from = x; there = inl refl; is = e }
mapped_has f (x ∷ xs) y (inr h) = let m = mapped_has f xs y h in record { from = m.from; there = inr m.there; is = m.is }

side_itself : (s : Side) → same_side s s ≡ true
side_itself side.Send = refl
side_itself side.Receive = refl
side_itself side.Probe = refl

meeting_total : IsTotalOrder meeting_cmp
meeting_total =
    then_total (on_total (λ (m : Meeting). m.source) nat_cmp_total)
    (then_total (on_total (λ (m : Meeting). m.dest) nat_cmp_total)
    (then_total (on_total (λ (m : Meeting). m.tag) int_cmp_total) (then_total (on_total (λ (m : Meeting). m.number) nat_cmp_total) (on_total (λ (m : Meeting). m.name) name_total))))

pub meeting_is : (a b : Meeting) → is_eq (meeting_cmp a b) ≡ true → a ≡ b
meeting_is a b e =
    let n = ordering_then (nat_cmp a.number b.number) (name_cmp a.name b.name) in
    let p = then_parts (nat_cmp a.source b.source) (ordering_then (nat_cmp a.dest b.dest) (ordering_then (int_cmp a.tag b.tag) n)) (eq_equal (meeting_cmp a b) e) in
    let q = then_parts (nat_cmp a.dest b.dest) (ordering_then (int_cmp a.tag b.tag) n) p.1 in
    let r = then_parts (int_cmp a.tag b.tag) n q.1 in
    let s = then_parts (nat_cmp a.number b.number) (name_cmp a.name b.name) r.1 in
    let source = nat_cmp-IsAntisymmetric a.source b.source p.0 in
    let dest = nat_cmp-IsAntisymmetric a.dest b.dest q.0 in
    let tag = int_cmp-IsAntisymmetric a.tag b.tag r.0 in
    let number = nat_cmp-IsAntisymmetric a.number b.number s.0 in
    let name = name_same a.name b.name s.1 in
    λ i. record { source = source i; dest = dest i; tag = tag i; number = number i; name = name i }

pub class_from : (x y : MsgItem) (ms : List MsgItem) → meeting_of (numbered ms x) ≡ meeting_of (numbered ms y) → class_of x ≡ class_of y
class_from x y ms e = ap (λ (m : Meeting). record { source = m.source; dest = m.dest; tag = m.tag; name = m.name }) e

meeting_from : (x y : MsgItem) (ms : List MsgItem) → class_of x ≡ class_of y → number ms x ≡ number ms y → meeting_of (numbered ms x) ≡ meeting_of (numbered ms y)
meeting_from x y ms c n =
    let source = ap (λ (k : Class). k.source) c in
    let dest = ap (λ (k : Class). k.dest) c in
    let tag = ap (λ (k : Class). k.tag) c in
    let name = ap (λ (k : Class). k.name) c in
    λ i. record { source = source i; dest = dest i; tag = tag i; number = n i; name = name i }

module _ (entries : List Entry) (facts : List Fact) (moved : Rearranges facts (facts_of entries)) where
  abbrev ms : List MsgItem
  ms = messages entries

  abbrev is_met : Side → Meeting → Item → Bool
  is_met s m y = same_side s y.side && is_eq (meeting_cmp (meeting_of y) m)

  item_there : (x : MsgItem) → Has ms x → Has (items facts) (numbered ms x)
  item_there x h = still_has (numbered ms x) (back (flat_mapped item_of moved)) (subst (λ (l : List Item). Has l (numbered ms x)) (sym (items_among ms entries)) (has_mapped (numbered ms) ms x h))

  pub item_from : (y : Item) → Has (items facts) y → IsMapped (numbered ms) ms y
  item_from y h = mapped_has (numbered ms) ms y (subst (λ (l : List Item). Has l y) (items_among ms entries) (still_has y (flat_mapped item_of moved) h))

  -- what is found of a side, class and number is an item of these
  record IsMet (s : Side) (m : Meeting) (y : Item) : Type 0 where
    pub item : MsgItem
    pub there : Has ms item
    pub side : item.side ≡ s
    pub meets : meeting_of (numbered ms item) ≡ m
    pub is : y ≡ numbered ms item

  met : (s : Side) (m : Meeting) (y : Item) → find (is_met s m) (items facts) ≡ Some y → IsMet s m y
  met s m y e =
      let f = found (is_met s m) (items facts) y e in
      let i = item_from y f.0 in
      let p = and_parts (same_side s y.side) (is_eq (meeting_cmp (meeting_of y) m)) f.1 in
      record {
        item = i.from;
        there = i.there;
        side = ap (λ (z : Item). z.side) (sym i.is) ∙ side_same s y.side p.0;
        meets = ap meeting_of (sym i.is) ∙ meeting_is (meeting_of y) m p.1;
        is = i.is;
      }

  -- an item of these that has this side, class and number is met
  passes : (s : Side) (m : Meeting) (x : MsgItem) → x.side ≡ s → meeting_of (numbered ms x) ≡ m → is_met s m (numbered ms x) ≡ true
  passes s m x side_is meets =
      and_from (same_side s x.side) (is_eq (meeting_cmp (meeting_of (numbered ms x)) m)) (ap (same_side s) side_is ∙ side_itself s) (ap (λ k. is_eq (meeting_cmp k m)) meets ∙ ap is_eq (tied_itself meeting_total m))

  one_met : (s : Side) (m : Meeting) (x : MsgItem) (o : Option Item) → find (is_met s m) (items facts) ≡ o → Has ms x → x.side ≡ s → meeting_of (numbered ms x) ≡ m → ((z : MsgItem) → Has ms z → z.side ≡ s → meeting_of (numbered ms z) ≡ m → z ≡ x)
      → option_map (λ (y : Item). y.place) o ≡ Some x.place
  one_met s m x None e h side_is meets alone = absurd (missed (is_met s m) (items facts) (numbered ms x) e (item_there x h) (passes s m x side_is meets))
  one_met s m x (Some y) e h side_is meets alone =
      let t = met s m y e in
      ap (λ (z : Item). Some z.place) t.is ∙ ap (λ (z : MsgItem). Some z.place) (alone t.item t.there t.side t.meets)

  none_met : (s : Side) (m : Meeting) (o : Option Item) → find (is_met s m) (items facts) ≡ o → ((z : MsgItem) → Has ms z → z.side ≡ s → meeting_of (numbered ms z) ≡ m → ⊥) → option_map (λ (y : Item). y.place) o ≡ None
  none_met s m None e none = refl
  none_met s m (Some y) e none = let t = met s m y e in absurd (none t.item t.there t.side t.meets)

  -- the receive of a send
  pub receive_told : (s r : MsgItem) → Orderly ms → IsMatch ms s r → place_of side.Receive facts (meeting_of (numbered ms s)) ≡ Some r.place
  receive_told s r o m =
      one_met side.Receive (meeting_of (numbered ms s)) r (find (is_met side.Receive (meeting_of (numbered ms s))) (items facts)) refl m.receive_there m.receives (sym (meeting_from s r ms m.one_class m.one_number))
      (λ z h side_is meets. receive_one ms s z r o (record { send_there = m.send_there; receive_there = h; sends = m.sends; receives = side_is; one_class = sym (class_from z s ms meets); one_number = sym (ap (λ (k : Meeting). k.number) meets) }) m)

  -- the send of a receive
  pub send_told : (s r : MsgItem) → Orderly ms → IsMatch ms s r → place_of side.Send facts (meeting_of (numbered ms r)) ≡ Some s.place
  send_told s r o m =
      one_met side.Send (meeting_of (numbered ms r)) s (find (is_met side.Send (meeting_of (numbered ms r))) (items facts)) refl m.send_there m.sends (meeting_from s r ms m.one_class m.one_number)
      (λ z h side_is meets. send_one ms z s r o (record { send_there = h; receive_there = m.receive_there; sends = side_is; receives = m.receives; one_class = class_from z r ms meets; one_number = ap (λ (k : Meeting). k.number) meets }) m)

  -- a send without a receive, and a receive without a send
  pub no_receive_told : (s : MsgItem) → Has ms s → s.side ≡ side.Send → IsLone ms s → place_of side.Receive facts (meeting_of (numbered ms s)) ≡ None
  no_receive_told s h sends lone =
      none_met side.Receive (meeting_of (numbered ms s)) (find (is_met side.Receive (meeting_of (numbered ms s))) (items facts)) refl
      (λ z there side_is meets. lone s z (record { send_there = h; receive_there = there; sends = sends; receives = side_is; one_class = sym (class_from z s ms meets); one_number = sym (ap (λ (k : Meeting). k.number) meets) }) (inl refl))

  pub no_send_told : (r : MsgItem) → Has ms r → r.side ≡ side.Receive → IsLone ms r → place_of side.Send facts (meeting_of (numbered ms r)) ≡ None
  no_send_told r h receives lone =
      none_met side.Send (meeting_of (numbered ms r)) (find (is_met side.Send (meeting_of (numbered ms r))) (items facts)) refl
      (λ z there side_is meets. lone z r (record { send_there = there; receive_there = h; sends = side_is; receives = receives; one_class = class_from z r ms meets; one_number = ap (λ (k : Meeting). k.number) meets }) (inr refl))
