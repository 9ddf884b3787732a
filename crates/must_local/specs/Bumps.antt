-- One collective call more on a communicator.
use Rattle.std.specs.Prelude.{◌≡◌, ℕ, ◌==◌, if◌then◌else◌, List, [], ◌∷◌, length, option_map}
use Rattle.must_group.specs.Groups.{below}
use Rattle.must_local.specs.declared.known.Known.{Known}
use Rattle.must_local.specs.declared.known.Known.TheVariants as known
use Rattle.must_local.specs.Counted.{counted, one_more}
use Rattle.must_local.specs.Objects.{slot_of}

abbrev pub bumped : Known → Known
bumped (known.Comm comm) = known.Comm (one_more comm)
bumped slot = slot

-- the slot of this number has one call more, where it is that of a communicator
pub record Bumps (number : ℕ) (old new : List Known) : Type 0 where
  pub size : length new ≡ length old
  pub each : (h : ℕ) → slot_of new h ≡ (if h == number then option_map bumped (slot_of old h) else slot_of old h)

-- the table before the first call: the world of so many ranks, and this rank alone
abbrev pub first_objects : (rank size : ℕ) → List Known
first_objects rank size =
    known.Comm (counted 0 (record { root = 0; path = []; members = below size }))
    ∷ known.Comm (counted 0 (record { root = 1; path = []; members = rank ∷ [] }))
    ∷ []
