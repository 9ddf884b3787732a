-- Needs of calls that share lists (docs/WAITING.md, "Shared lists").
use Rattle.std.specs.Prelude.{◌≡◌, ℕ, ◌+◌, ◌<◌, ◌≤◌, ◌^◌, ◌++◌, ◌∷◌, [], List, Option, Some, None, length, map, cond, nat_lt, slice_get}
use Rattle.std.specs.List.{slice_index_or}
use Rattle.must_call.specs.declared.place.Place.{Place}
use Rattle.must_wait.specs.Needs.{Rows, calls_of}
use Rattle.must_wait.specs.Watching.{way_at}

-- for each alternative the number of the shared list that it is, if it is one
abbrev pub Numbers : Type 0
Numbers = List (List (List (Option ℕ)))

-- the needs, which of them are shared lists, and the lists
pub record Table : Type 0 where
  pub needs : Rows
  pub numbers : Numbers
  pub lists : List (List Place)

abbrev pub number_at : Numbers → ℕ → ℕ → ℕ → Option ℕ
number_at numbers rank call way = slice_index_or (slice_index_or (slice_index_or numbers rank []) call []) way None

-- each number names the list that stands there
pub record IsTable (t : Table) : Type 0 where
  pub few : length t.needs + length t.lists < 2 ^ 32
  pub calls : (rank : ℕ) → length (calls_of t.needs rank) ≤ 2 ^ 31
  pub ranks : length t.numbers ≡ length t.needs
  pub numbers : (rank : ℕ) → length (slice_index_or t.numbers rank []) ≡ length (calls_of t.needs rank)
  pub shared : (rank call way number : ℕ) → number_at t.numbers rank call way ≡ Some number → (places : List Place) × (way_at t.needs rank call way ≡ Some places) × (slice_get t.lists number ≡ Some places)

-- A shared list stands as a rank of its own behind the others. Its first call waits for the list, so its second, the gate, is
-- reached once all places of the list are. Alternatives that share the list wait for the gate.
abbrev pub gate : ℕ → ℕ → Place
gate ranks number = record { rank = ranks + number; call = 1 }

-- a place that is no call stays none
abbrev pub inner : ℕ → Place → Place
inner ranks p = cond (nat_lt p.rank ranks) p (record { rank = 4294967295; call = 0 })

abbrev pub coded_way : ℕ → List Place → Option ℕ → List Place
coded_way ranks places None = map (inner ranks) places
coded_way ranks places (Some number) = gate ranks number ∷ []

-- f of each x and the y at its index, or n where there is none
abbrev pub paired : {X Y Z : Type 0} → (X → Y → Z) → Y → List X → List Y → List Z
paired f n [] ys = []
paired f n (x ∷ xs) [] = f x n ∷ paired f n xs []
paired f n (x ∷ xs) (y ∷ ys) = f x y ∷ paired f n xs ys

abbrev pub coded_rows : ℕ → Rows → Numbers → Rows
coded_rows ranks = paired (paired (paired (coded_way ranks) None) []) []

abbrev pub gate_calls : ℕ → List Place → List (List (List Place))
gate_calls ranks places = (map (inner ranks) places ∷ []) ∷ [] ∷ []

abbrev pub coded : Table → Rows
coded t = coded_rows (length t.needs) t.needs t.numbers ++ map (gate_calls (length t.needs)) t.lists
