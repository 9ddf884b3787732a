-- The items of one rank more.
use Rattle.std.proofs.Common.{◌≡◌, ℕ, zero, suc, ◌+◌, ◌≤◌, List, [], ◌∷◌, ◌++◌, length, take, Option, Some, None, refl, sym, ap, subst, ◌∙◌, append_assoc, zero-add, arith}
use Rattle.std.specs.Prelude.{slice_get}
use Rattle.std.proofs.lemmas.List.{append-nil}
use Rattle.std.proofs.lemmas.Option.{none-some}
use Rattle.must_coll.specs.declared.item.WaveItem.{WaveItem}
use Rattle.must_rules.specs.Run.{Run, Recorded, size_of}
use Rattle.must_rules.specs.RunRows.{rank_in}
use Rattle.must_items.specs.CollectiveLists.{AreItemsOf}
use Rattle.must_run.specs.RunWaves.{AreItemsFrom, AreItemsBelow, AreRunItems}

same_recorded : (a b : Recorded) → Some a ≡ Some b → a ≡ b
same_recorded a b e = cc

items_from : (size rank k : ℕ) (ranks : List Recorded) (recorded : Recorded) (xs ys : List WaveItem) → slice_get ranks k ≡ Some recorded → AreItemsFrom size rank (take k ranks) xs → AreItemsOf (rank_in size (rank + k) recorded) recorded.calls ys
    → AreItemsFrom size rank (take (suc k) ranks) (xs ++ ys)
items_from size rank k [] recorded xs ys at old new = absurd (none-some recorded at)
items_from size rank zero (r ∷ ranks) recorded xs ys at old new = record {
  front = ys;
  back = [];
  items_are = ap (λ (l : List WaveItem). l ++ ys) old ∙ sym (append-nil ys);
  first = subst (λ (n : ℕ). AreItemsOf (rank_in size n r) r.calls ys) (let s : rank + 0 ≡ rank = omega arith in s)
      (subst (λ (x : Recorded). AreItemsOf (rank_in size (rank + 0) x) x.calls ys) (sym (same_recorded r recorded at)) new);
  rest = refl;
}
items_from size rank (suc k) (r ∷ ranks) recorded xs ys at old new = record {
  front = old.front;
  back = old.back ++ ys;
  items_are = ap (λ (l : List WaveItem). l ++ ys) old.items_are ∙ append_assoc old.front old.back ys;
  first = old.first;
  rest = items_from size (suc rank) k ranks recorded old.back ys at old.rest
      (subst (λ (n : ℕ). AreItemsOf (rank_in size n recorded) recorded.calls ys) (let s : rank + suc k ≡ suc rank + k = omega arith in s) new);
}

-- no rank
pub items_first : (run : Run) → AreItemsBelow run 0 []
items_first run = refl

-- one rank more
pub items_more : (run : Run) (k : ℕ) (recorded : Recorded) (xs ys : List WaveItem) → slice_get run.ranks k ≡ Some recorded → AreItemsBelow run k xs → AreItemsOf (rank_in (size_of run) k recorded) recorded.calls ys
    → AreItemsBelow run (k + 1) (xs ++ ys)
items_more run k recorded xs ys at old new =
    subst (λ (n : ℕ). AreItemsBelow run n (xs ++ ys)) (let s : suc k ≡ k + 1 = omega arith in s) (items_from (size_of run) 0 k run.ranks recorded xs ys at old (subst (λ (n : ℕ). AreItemsOf (rank_in (size_of run) n recorded) recorded.calls ys) (sym (zero-add k)) new))

take_all : (k : ℕ) (ranks : List Recorded) → length ranks ≤ k → take k ranks ≡ ranks
take_all zero [] far = refl
take_all zero (r ∷ ranks) far = absurd (omega (arith, far))
take_all (suc k) [] far = refl
take_all (suc k) (r ∷ ranks) far = ap (λ (l : List Recorded). r ∷ l) (take_all k ranks (omega (arith, far)))

-- all ranks
pub items_all : (run : Run) (k : ℕ) (xs : List WaveItem) → length run.ranks ≤ k → AreItemsBelow run k xs → AreRunItems run xs
items_all run k xs far below = subst (λ (l : List Recorded). AreItemsFrom (size_of run) 0 l xs) (take_all k run.ranks far) below
