-- Faults that are handed on.
use Rattle.std.proofs.Common.{◌≡◌, sym, subst}
use Rattle.std.specs.Prelude.{Result, Err, IfErr}
use Rattle.must_parts.specs.declared.fault.BuffersFault.{BuffersFault}

-- what holds of a fault holds of the result that hands it on
pub handed_on : {A : Type 0} (result : Result A BuffersFault) (given fault : BuffersFault) (P : BuffersFault → Type 0) → result ≡ Err given → given ≡ fault → P fault → IfErr result P
handed_on {A} result given fault P is same holds = subst (λ (x : Result A BuffersFault). IfErr x P) (sym is) (subst P (sym same) holds)
