-- The requests that a call completes, and those that it frees.
use Rattle.std.specs.Prelude.{ℕ, if◌then◌else◌, List, [], ◌∷◌, Option, Some}
use Rattle.must_call.specs.declared.class.Class.TheVariants.{Request}
use Rattle.must_call.specs.declared.call.Call.{Call}
use Rattle.must_call.specs.Handles.{ClassedHandle}
use Rattle.must_rules.specs.Making.{freed_of, completed_of}

abbrev pub requests_freed : Option ClassedHandle → List ℕ
requests_freed (Some (Request, request)) = request ∷ []
requests_freed _ = []

abbrev pub completed_in : Call → List ℕ
completed_in call = if call.returned then completed_of call.body else []

abbrev pub freed_in : Call → List ℕ
freed_in call = if call.returned then requests_freed (freed_of call.body) else []
