-- The requests whose operations a call ends.
use Rattle.std.specs.Prelude.{ℕ, not, filter, if◌then◌else◌, List, [], ◌∷◌, Option, Some}
use Rattle.must_call.specs.declared.class.Class.TheVariants.{Request}
use Rattle.must_call.specs.declared.call.Call.{Call}
use Rattle.must_call.specs.Handles.{ClassedHandle}
use Rattle.must_pending.specs.declared.held.Held.{Held}
use Rattle.must_rules.specs.Making.{is_in, freed_of, completed_of}

-- what is left where these requests are done
abbrev pub left : List ℕ → List Held → List Held
left requests hs = filter (λ h. not (is_in requests h.request)) hs

abbrev pub requests_freed : Option ClassedHandle → List ℕ
requests_freed (Some (Request, request)) = request ∷ []
requests_freed _ = []

-- those that a call completes, and those that it frees
abbrev pub completed_in : Call → List ℕ
completed_in call = if call.returned then completed_of call.body else []

abbrev pub freed_in : Call → List ℕ
freed_in call = if call.returned then requests_freed (freed_of call.body) else []
