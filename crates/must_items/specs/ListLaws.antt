-- The items of a rank, after one call more.
use Rattle.std.proofs.Common.{List, [], ◌∷◌, ◌++◌, refl, sym, ap, subst, ◌∙◌, append_assoc}
use Rattle.std.proofs.lemmas.List.{append-nil}
use Rattle.must_call.specs.declared.call.Call.{Call}
use Rattle.must_coll.specs.declared.item.WaveItem.{WaveItem}
use Rattle.must_rules.specs.Rank.{Rank}
use Rattle.must_items.specs.CollectiveLists.{IsGivenBy, AreItemsBehind, AreItemsOf}

items_behind : (r : Rank) (earlier calls : List Call) (call : Call) (xs ys : List WaveItem) → AreItemsBehind r earlier calls xs → IsGivenBy r (earlier ++ calls) call ys → AreItemsBehind r earlier (calls ++ call ∷ []) (xs ++ ys)
items_behind r earlier [] call xs ys none new = record {
  front = ys;
  back = [];
  items_are = ap (λ (l : List WaveItem). l ++ ys) none ∙ sym (append-nil ys);
  first = subst (λ (cs : List Call). IsGivenBy r cs call ys) (append-nil earlier) new;
  rest = refl;
}
items_behind r earlier (c ∷ cs) call xs ys old new = record {
  front = old.front;
  back = old.back ++ ys;
  items_are = ap (λ (l : List WaveItem). l ++ ys) old.items_are ∙ append_assoc old.front old.back ys;
  first = old.first;
  rest = items_behind r (earlier ++ c ∷ []) cs call old.back ys old.rest (subst (λ (ds : List Call). IsGivenBy r ds call ys) (sym (append_assoc earlier (c ∷ []) cs)) new);
}

pub items_more : (r : Rank) (calls : List Call) (call : Call) (xs ys : List WaveItem) → AreItemsOf r calls xs → IsGivenBy r calls call ys → AreItemsOf r (calls ++ call ∷ []) (xs ++ ys)
items_more r calls call xs ys old new = items_behind r [] calls call xs ys old new
