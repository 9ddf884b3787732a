-- Rows in the making, whose calls share the list of a wave.
use Rattle.std.specs.Prelude.{◌≡◌, ℕ, List, [], ◌∷◌, map, slice_get, Some}
use Rattle.std.specs.declared.cmp.Ordering.{Ordering}
use Rattle.std.specs.Ordering.{nat_cmp, ordering_then}
use Rattle.std.specs.BTreeMap as tree
use Rattle.must_call.specs.declared.place.Place.{Place}
use Rattle.must_group.specs.Names.{name_cmp}
use Rattle.must_wait.specs.declared.way.Way.{Way}
use Rattle.must_wait.specs.declared.way.Way.TheVariants.{Own, Shared}
use Rattle.must_node.specs.declared.fact.Fact.{Fact}
use Rattle.must_node.specs.declared.keys.Call.{Call}
use Rattle.must_node.specs.declared.keys.WaveKey.{WaveKey}
use Rattle.must_node.specs.declared.sharing.Sharing.{Sharing}
use Rattle.must_node.specs.Partners.{past, place_or, member_call}

abbrev pub wave_of : Call → WaveKey
wave_of x = record { number = x.number; name = x.name }

abbrev pub wave_cmp : WaveKey → WaveKey → Ordering
wave_cmp a b = ordering_then (nat_cmp a.number b.number) (name_cmp a.name b.name)

-- the calls of all members in a wave
abbrev pub calls_of_wave : List Fact → WaveKey → List Place
calls_of_wave facts wave = map (λ rank. place_or (past facts rank) (member_call facts (record { number = wave.number; rank = rank; name = wave.name }))) wave.name.members

-- the list that is kept for a wave is that of its calls
abbrev pub AreShared : Sharing → List Fact → Type 0
AreShared s facts = (wave : WaveKey) (number : ℕ) → tree.get wave_cmp s.waves wave ≡ Some number → slice_get s.rows.lists number ≡ Some (calls_of_wave facts wave)

-- the calls stay, and so do the lists that there are
pub record Grows (old new : Sharing) : Type 0 where
  pub needs : new.rows.needs ≡ old.rows.needs
  pub lists : (number : ℕ) (places : List Place) → slice_get old.rows.lists number ≡ Some places → slice_get new.rows.lists number ≡ Some places

-- an alternative with these places
abbrev pub IsWay : List (List Place) → Way → List Place → Type 0
IsWay lists (Own places) wanted = places ≡ wanted
IsWay lists (Shared number) wanted = slice_get lists number ≡ Some wanted

abbrev pub AreWays : List (List Place) → List Way → List (List Place) → Type 0
AreWays lists [] [] = Unit {0}
AreWays lists [] (places ∷ wanted) = ⊥
AreWays lists (way ∷ ways) [] = ⊥
AreWays lists (way ∷ ways) (places ∷ wanted) = IsWay lists way places × AreWays lists ways wanted
