-- What a call hands on.
use Rattle.std.proofs.Common.{◌≡◌, ◌+◌, ◌<◌, ◌≤◌, List, Option, sym, subst}
use Rattle.std.specs.Prelude.{Result, Err, IfErr}
use Rattle.must_call.specs.declared.body.Body.{Body}
use Rattle.must_type.specs.declared.construct.TypeNo.{TypeNo}
use Rattle.must_type.specs.declared.fault.TypeFault.{TypeFault}
use Rattle.must_type.specs.declared.fault.TypeFault.TheVariants as fault
use Rattle.must_type.specs.declared.fault.Limit2.TheVariants.{Weight, Reach}
use Rattle.must_type.specs.Tree.{weight, IsWithinReach}
use Rattle.must_type.specs.Table.{Types, live_weight}
use Rattle.must_derived.specs.Steps.{Builds, built, IsRefused}

-- what holds of a fault holds of the result that hands it on
pub handed_on : {A : Type 0} (result : Result A TypeFault) (given f : TypeFault) (P : TypeFault → Type 0) → result ≡ Err given → given ≡ f → P f → IfErr result P
handed_on {A} result given f P is same holds = subst (λ (x : Result A TypeFault). IfErr x P) (sym is) (subst P (sym same) holds)

-- what a table tells of a type that it doesn't make
pub refused_is : (old : Types) (numbers : List (Option TypeNo)) (b : Body) (builds : Builds old numbers b) (result : Result TypeNo TypeFault) (f : TypeFault) → result ≡ Err f
    → (result ≡ Err (fault.TooWide Weight) → old.weight_limit < live_weight old.slots + weight (built old numbers b builds))
    → (result ≡ Err (fault.TooWide Reach) → (live_weight old.slots + weight (built old numbers b builds) ≤ old.weight_limit) × (IsWithinReach (built old numbers b builds) → ⊥))
    → IsRefused old numbers b f
refused_is old numbers b builds result (fault.TooWide Weight) is heavy wide = record { builds = builds; heavy = heavy is }
refused_is old numbers b builds result (fault.TooWide Reach) is heavy wide = let w = wide is in record { builds = builds; light = w.0; wide = w.1 }
refused_is old numbers b builds result fault.NoMemory is heavy wide = tt
