-- Calls without a list of handles name few of them.
use Rattle.std.proofs.Common.{◌≡◌, true, length, refl, nat_lt}
use Rattle.must_call.specs.declared.body.Body.{Body}
use Rattle.must_call.specs.declared.body.Body.TheVariants.{Frame, Point, Finish, Derive, Object, Collective, Persist, Started}
use Rattle.must_call.specs.declared.frame.Frame.TheVariants.{Init}
use Rattle.must_call.specs.declared.point.Point.TheVariants.{Send}
use Rattle.must_call.specs.declared.object.Object.TheVariants.{OpCreate}
use Rattle.must_call.specs.declared.collective.Collective.TheVariants.{Barrier}
use Rattle.must_call.specs.declared.started.Started.TheVariants.{Ibarrier}
use Rattle.must_call.specs.Handles.{handles_of}

pub few_named : (b : Body) → ((x : _) → b ≡ Finish x → ⊥) → ((x : _) → b ≡ Derive x → ⊥) → ((x : _) → b ≡ Persist x → ⊥) → nat_lt (length (handles_of b)) 4294967296 ≡ true
few_named (Frame Init) finish derive persist = refl
few_named (Frame _) finish derive persist = refl
few_named (Point (Send buf count dtype dest tag comm)) finish derive persist = refl
few_named (Point _) finish derive persist = refl
few_named (Finish x) finish derive persist = absurd (finish x refl)
few_named (Derive x) finish derive persist = absurd (derive x refl)
few_named (Persist x) finish derive persist = absurd (persist x refl)
few_named (Object (OpCreate commute made)) finish derive persist = refl
few_named (Object _) finish derive persist = refl
few_named (Collective (Barrier comm)) finish derive persist = refl
few_named (Collective _) finish derive persist = refl
few_named (Started (Ibarrier comm request)) finish derive persist = refl
few_named (Started _) finish derive persist = refl
