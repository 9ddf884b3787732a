-- What is known of a call beside the fields of its buffers: worked out once a call.
use Rattle.std.specs.Prelude.{◌≡◌, ℕ, ℤ, pos, Bool, false, Option, Some, None, option_map}
use Rattle.std.specs.Ordering.{int_eq}
use Rattle.must_call.specs.declared.body.Body.{Body}
use Rattle.must_call.specs.Kinds.{kind_of}
use Rattle.must_call.specs.Bodies.{inputs_of}
use Rattle.must_rules.specs.Facts.{Facts, Comm, size_of_comm}
use Rattle.must_rules.specs.Significant.{in_place, comm_of}
use Rattle.must_rules.specs.Breaches.{sends}
use Rattle.must_rules.specs.Parts.{is_at_root}
use Rattle.must_parts.specs.declared.scope.Seats.{Seats}
use Rattle.must_parts.specs.declared.scope.Scope.{Scope}

abbrev pub seats_of : Comm → Seats
seats_of comm = record { members = size_of_comm comm; position = comm.position }

abbrev pub both_seats : Option ℕ → Option ℕ → Option Seats
both_seats (Some members) (Some position) = Some (record { members = members; position = position })
both_seats _ _ = None

abbrev pub is_root_in : Option ℤ → Option Seats → Bool
is_root_in (Some root) (Some seats) = int_eq (pos seats.position) root
is_root_in _ _ = false

-- the scope is that of a call
pub record IsScope (facts : Facts) (b : Body) (s : Scope) : Type 0 where
  pub kind_is : s.kind ≡ kind_of b
  pub in_place_is : s.in_place ≡ in_place b
  pub sends_is : s.sends ≡ sends (inputs_of b)
  pub seats_are : s.seats ≡ option_map seats_of (comm_of facts b)
  pub root_is : s.is_root ≡ is_at_root facts b
