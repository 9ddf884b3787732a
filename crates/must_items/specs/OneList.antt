-- The items of a rank are one list, up to the forms in which their signatures are kept.
use Rattle.std.proofs.Common.{◌≡◌, Bool, true, false, List, [], ◌∷◌, ◌++◌, map, sym, ap, ◌∙◌}
use Rattle.std.proofs.lemmas.List.{map-append}
use Rattle.must_call.specs.declared.call.Call.{Call}
use Rattle.must_coll.specs.declared.item.WaveItem.{WaveItem}
use Rattle.must_coll.specs.ListLaws.{some_is}
use Rattle.must_coll.specs.Plain.{plain_alike, plain}
use Rattle.must_rules.specs.Rank.{Rank}
use Rattle.must_rules.specs.Known.{facts_of}
use Rattle.must_rules.specs.Communicators.{usable_name, collectives}
use Rattle.must_items.specs.CollectiveLists.{IsItemOf, stands_in_wave, OneWhere, IsGivenBy, AreItemsBehind, AreItemsOf}

-- two items of one call
item_one : (r : Rank) (earlier : List Call) (call : Call) (x y : WaveItem) → IsItemOf r earlier call x → IsItemOf r earlier call y → plain x ≡ plain y
item_one r earlier call x y a b =
    let s = a.tells in
    let t = b.tells in
    let comm : x.comm ≡ y.comm = some_is x.comm y.comm (sym a.comm_is ∙ b.comm_is) in
    let place : x.place ≡ y.place = a.place_is ∙ sym b.place_is in
    let name : x.name ≡ y.name = some_is x.name y.name (sym a.name_is ∙ ap (usable_name r earlier) comm ∙ b.name_is) in
    let number : x.number ≡ y.number = a.number_is ∙ ap (collectives earlier) comm ∙ sym b.number_is in
    let kind : x.kind ≡ y.kind = s.kind_is ∙ sym t.kind_is in
    let counts : x.counts ≡ y.counts = s.counts_is ∙ sym t.counts_is in
    let in_place : x.in_place ≡ y.in_place = s.in_place_is ∙ sym t.in_place_is in
    let root : x.root ≡ y.root = s.root_is ∙ sym t.root_is in
    let operation : x.operation ≡ y.operation = s.operation_is ∙ sym t.operation_is in
    let sends = plain_alike x.sends y.sends (s.sends_are ∙ sym t.sends_are) in
    let recvs = plain_alike x.recvs y.recvs (s.recvs_are ∙ sym t.recvs_are) in
    let split : x.split ≡ y.split = s.split_is ∙ sym t.split_is in
    let group : x.group ≡ y.group = s.group_is ∙ sym t.group_is in
    let members : x.members ≡ y.members = s.members_are ∙ sym t.members_are in
    λ i. record {
      place = place i;
      comm = comm i;
      name = name i;
      number = number i;
      kind = kind i;
      counts = counts i;
      in_place = in_place i;
      root = root i;
      operation = operation i;
      sends = sends i;
      recvs = recvs i;
      split = split i;
      group = group i;
      members = members i;
    }

given_one : (b : Bool) (P : WaveItem → Type 0) (xs ys : List WaveItem) → ((x y : WaveItem) → P x → P y → plain x ≡ plain y) → OneWhere b P xs → OneWhere b P ys → map plain xs ≡ map plain ys
given_one true P xs ys one p q =
    ap (map plain) p.items_are ∙ ap (λ (x : WaveItem). x ∷ []) (one p.item q.item p.is q.is) ∙ sym (ap (map plain) q.items_are)
given_one false P xs ys one p q = ap (map plain) (p ∙ sym q)

-- two lists of the items of one call
given_alike : (r : Rank) (earlier : List Call) (call : Call) (xs ys : List WaveItem) → IsGivenBy r earlier call xs → IsGivenBy r earlier call ys → map plain xs ≡ map plain ys
given_alike r earlier call xs ys p q =
    given_one (stands_in_wave (facts_of r earlier) call.body) (IsItemOf r earlier call) xs ys (item_one r earlier call) p q

behind_one : (r : Rank) (earlier calls : List Call) (xs ys : List WaveItem) → AreItemsBehind r earlier calls xs → AreItemsBehind r earlier calls ys → map plain xs ≡ map plain ys
behind_one r earlier [] xs ys p q = ap (map plain) (p ∙ sym q)
behind_one r earlier (call ∷ calls) xs ys p q =
    ap (map plain) p.items_are ∙ map-append plain p.front p.back
    ∙ ap (λ (l : List WaveItem). l ++ map plain p.back) (given_alike r earlier call p.front q.front p.first q.first)
    ∙ ap (λ (l : List WaveItem). map plain q.front ++ l) (behind_one r (earlier ++ call ∷ []) calls p.back q.back p.rest q.rest)
    ∙ sym (ap (map plain) q.items_are ∙ map-append plain q.front q.back)

-- two lists of items of the same calls differ in the forms of their signatures alone
pub rows_one : (r : Rank) (calls : List Call) (xs ys : List WaveItem) → AreItemsOf r calls xs → AreItemsOf r calls ys → map plain xs ≡ map plain ys
rows_one r calls xs ys p q = behind_one r [] calls xs ys p q
