-- The messages and the needs of one rank more.
use Rattle.std.proofs.Common.{◌≡◌, ℕ, zero, suc, ◌+◌, ◌≤◌, List, [], ◌∷◌, ◌++◌, length, map, take, Option, Some, refl, sym, ap, ap₂, subst, ◌∙◌, append_assoc, zero-add, arith}
use Rattle.std.specs.Prelude.{slice_get}
use Rattle.std.proofs.lemmas.List.{append-nil, map-append}
use Rattle.std.proofs.lemmas.Option.{none-some}
use Rattle.must_p2p.specs.declared.item.MsgItem.{MsgItem}
use Rattle.must_entry.specs.Entries.{Waits}
use Rattle.must_rules.specs.Rank.{Rank}
use Rattle.must_rules.specs.Run.{Run, Recorded, size_of}
use Rattle.must_rules.specs.RunRows.{rank_in}
use Rattle.must_messages.specs.MessageItems.{Item, item_seen, items_of, AreMessagesOf}
use Rattle.must_messages.specs.CallNeeds.{needs_of}
use Rattle.must_run.specs.RunMessages.{items_from, AreMessagesBelow, AreRunMessages, needs_from, needs_below, needs_in}

same_recorded : (a b : Recorded) → Some a ≡ Some b → a ≡ b
same_recorded a b e = cc

take_all : (k : ℕ) (ranks : List Recorded) → length ranks ≤ k → take k ranks ≡ ranks
take_all zero [] far = refl
take_all zero (r ∷ ranks) far = absurd (omega (arith, far))
take_all (suc k) [] far = refl
take_all (suc k) (r ∷ ranks) far = ap (λ (l : List Recorded). r ∷ l) (take_all k ranks (omega (arith, far)))

-- ---- what each rank gives, one behind the other

-- what these ranks give, where each gives so much; the first of them has this number
abbrev from : {X : Type 0} → (ℕ → Recorded → List X) → (rank : ℕ) → List Recorded → List X
from f rank [] = []
from f rank (recorded ∷ ranks) = f rank recorded ++ from f (suc rank) ranks

from_more : {X : Type 0} (f : ℕ → Recorded → List X) (rank k : ℕ) (ranks : List Recorded) (recorded : Recorded) → slice_get ranks k ≡ Some recorded → from f rank (take (suc k) ranks) ≡ from f rank (take k ranks) ++ f (rank + k) recorded
from_more f rank k [] recorded at = absurd (none-some recorded at)
from_more f rank zero (r ∷ ranks) recorded at =
    append-nil (f rank r) ∙ ap (f rank) (same_recorded r recorded at) ∙ ap (λ n. f n recorded) (let s : rank ≡ rank + 0 = omega arith in s)
from_more {X} f rank (suc k) (r ∷ ranks) recorded at =
    ap (λ (l : List X). f rank r ++ l) (from_more f (suc rank) k ranks recorded at)
    ∙ sym (append_assoc (f rank r) (from f (suc rank) (take k ranks)) (f (suc rank + k) recorded))
    ∙ ap (λ n. (f rank r ++ from f (suc rank) (take k ranks)) ++ f n recorded) (let s : suc rank + k ≡ rank + suc k = omega arith in s)

-- the same, from the first rank on
below_more : {X : Type 0} (f : ℕ → Recorded → List X) (k : ℕ) (ranks : List Recorded) (recorded : Recorded) → slice_get ranks k ≡ Some recorded → from f 0 (take (k + 1) ranks) ≡ from f 0 (take k ranks) ++ f k recorded
below_more f k ranks recorded at =
    ap (λ n. from f 0 (take n ranks)) (let s : k + 1 ≡ suc k = omega arith in s) ∙ from_more f 0 k ranks recorded at ∙ ap (λ n. from f 0 (take k ranks) ++ f n recorded) (zero-add k)

abbrev item_list : ℕ → ℕ → Recorded → List Item
item_list size rank recorded = items_of (rank_in size rank recorded) recorded.calls

abbrev need_list : ℕ → ℕ → Recorded → List Waits
need_list size rank recorded = needs_of (rank_in size rank recorded) recorded.calls

items_are : (size rank : ℕ) (ranks : List Recorded) → items_from size rank ranks ≡ from (item_list size) rank ranks
items_are size rank [] = refl
items_are size rank (recorded ∷ ranks) = ap (λ (l : List Item). item_list size rank recorded ++ l) (items_are size (suc rank) ranks)

needs_are : (size rank : ℕ) (ranks : List Recorded) → needs_from size rank ranks ≡ from (need_list size) rank ranks
needs_are size rank [] = refl
needs_are size rank (recorded ∷ ranks) = ap (λ (l : List Waits). need_list size rank recorded ++ l) (needs_are size (suc rank) ranks)

-- ---- messages

pub messages_first : (run : Run) → AreMessagesBelow run 0 []
messages_first run = refl

pub messages_more : (run : Run) (k : ℕ) (recorded : Recorded) (xs ys : List MsgItem) → slice_get run.ranks k ≡ Some recorded → AreMessagesBelow run k xs → AreMessagesOf (rank_in (size_of run) k recorded) recorded.calls ys
    → AreMessagesBelow run (k + 1) (xs ++ ys)
messages_more run k recorded xs ys at old new =
    let size = size_of run in
    map-append item_seen xs ys ∙ ap₂ (λ (l m : List Item). l ++ m) (old ∙ items_are size 0 (take k run.ranks)) new
    ∙ sym (below_more (item_list size) k run.ranks recorded at) ∙ sym (items_are size 0 (take (k + 1) run.ranks))

pub messages_all : (run : Run) (k : ℕ) (xs : List MsgItem) → length run.ranks ≤ k → AreMessagesBelow run k xs → AreRunMessages run xs
messages_all run k xs far below = below ∙ ap (items_from (size_of run) 0) (take_all k run.ranks far)

-- ---- needs

pub needs_first : (run : Run) → needs_below run 0 ≡ []
needs_first run = refl

pub needs_more : (run : Run) (k : ℕ) (recorded : Recorded) (ws vs : List Waits) → slice_get run.ranks k ≡ Some recorded → ws ≡ needs_below run k → vs ≡ needs_of (rank_in (size_of run) k recorded) recorded.calls → ws ++ vs ≡ needs_below run (k + 1)
needs_more run k recorded ws vs at old new =
    let size = size_of run in
    ap₂ (λ (l m : List Waits). l ++ m) (old ∙ needs_are size 0 (take k run.ranks)) new
    ∙ sym (below_more (need_list size) k run.ranks recorded at) ∙ sym (needs_are size 0 (take (k + 1) run.ranks))

pub needs_all : (run : Run) (k : ℕ) (ws : List Waits) → length run.ranks ≤ k → ws ≡ needs_below run k → ws ≡ needs_in run
needs_all run k ws far below = below ∙ ap (needs_from (size_of run) 0) (take_all k run.ranks far)
