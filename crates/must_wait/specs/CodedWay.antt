-- An alternative as the worklists see it.
use Rattle.std.specs.Prelude.{ℕ, ◌∷◌, [], List, Option, Some, None, map}
use Rattle.must_call.specs.declared.place.Place.{Place}
use Rattle.must_wait.specs.declared.coded.CodedWay.{CodedWay}
use Rattle.must_wait.specs.Shared.{inner}

abbrev pub places_or : ℕ → List Place → Option Place → List Place
places_or ranks places None = map (inner ranks) places
places_or ranks places (Some gate) = gate ∷ []

abbrev pub coded_places : CodedWay → List Place
coded_places w = places_or w.ranks w.places.now w.gate
