-- The places of an alternative, whoever holds them.
use Rattle.std.specs.Prelude.{List}
use Rattle.must_call.specs.declared.place.Place.{Place}
use Rattle.must_wait.specs.declared.lists.Held.{Held}
use Rattle.must_wait.specs.declared.lists.Held.TheVariants.{Own, Shared}

abbrev pub held_places : Held → List Place
held_places (Own items) = items.items
held_places (Shared items) = items.value.items
