-- What a call recorded of requests, gathered by request.
use Rattle.std.specs.Prelude.{ℕ, ◌==◌, Bool, true, false, ◌||◌, if◌then◌else◌, List, [], ◌∷◌, Option, Some, None, is_some}
use Rattle.must_call.specs.declared.status.Status3.{Status3}
use Rattle.must_rules.specs.Answer.{Answer}
use Rattle.must_rules.specs.Fates.{Completed}
use Rattle.must_hold.specs.declared.completed.Recorded.{Recorded}
use Rattle.must_hold.specs.declared.held.End.{End}
use Rattle.must_hold.specs.declared.judge.Told.{Told}

abbrev pub recorded_seen : Recorded → Completed
recorded_seen c = record { index = c.index; request = c.request; status = c.status }

-- what rule S1 answers at each completion
abbrev pub Wrong : Type 0
Wrong = Completed → Option Answer

abbrev pub told_more : Option Told → Status3 → (breaks : Bool) → Told
told_more None status breaks = record { first = status; breaks = breaks }
told_more (Some told) status breaks = record { first = told.first; breaks = told.breaks || breaks }

-- what is told of a request by one more completion, and by more of them
abbrev pub told_next : Wrong → (request : ℕ) → Option Told → Completed → Option Told
told_next wrong request told c = if c.request == request then Some (told_more told c.status (is_some (wrong c))) else told

abbrev pub told_by : Wrong → (request : ℕ) → Option Told → List Completed → Option Told
told_by wrong request told [] = told
told_by wrong request told (c ∷ cs) = told_by wrong request (told_next wrong request told c) cs

-- how an operation ended that this call completed
abbrev pub end_told : (call : ℕ) → Option Told → End
end_told call None = record { status = None; done = Some call; breaks = false }
end_told call (Some told) = record { status = Some told.first; done = Some call; breaks = told.breaks }
