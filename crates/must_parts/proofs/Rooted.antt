-- Whether a rank is the root of a call.
use Rattle.std.proofs.Common.{◌≡◌, Option, Some, None, refl, ap, ◌∙◌}
use Rattle.std.specs.Prelude.{ℤ}
use Rattle.std.specs.Option.{option_map}
use Rattle.must_call.specs.declared.body.Body.{Body}
use Rattle.must_call.specs.Bodies.{inputs_of}
use Rattle.must_rules.specs.Facts.{Facts, Comm}
use Rattle.must_rules.specs.Significant.{first_told, root_in, comm_of}
use Rattle.must_rules.specs.Parts.{is_root, is_at_root}
use Rattle.must_parts.specs.declared.scope.Seats.{Seats}
use Rattle.must_parts.specs.Scopes.{seats_of, is_root_in}

by_seats : (root : Option ℤ) (comm : Option Comm) → is_root_in root (option_map seats_of comm) ≡ is_root root comm
by_seats None None = refl
by_seats None (Some c) = refl
by_seats (Some z) None = refl
by_seats (Some z) (Some c) = refl

pub root_is : (facts : Facts) (b : Body) (root : Option ℤ) (seats : Option Seats) → root ≡ first_told root_in (inputs_of b) → seats ≡ option_map seats_of (comm_of facts b) → is_root_in root seats ≡ is_at_root facts b
root_is facts b root seats r s =
    ap (λ (o : Option ℤ). is_root_in o seats) r
    ∙ ap (is_root_in (first_told root_in (inputs_of b))) s
    ∙ by_seats (first_told root_in (inputs_of b)) (comm_of facts b)
