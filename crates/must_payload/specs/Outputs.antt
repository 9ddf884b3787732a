-- The outputs of a payload.
use Rattle.std.specs.Prelude.{Bool, List, ℕ, Result}
use Rattle.must_call.specs.declared.kind.Kind.{Kind}
use Rattle.must_call.specs.Fields.{output}
use Rattle.must_format.specs.declared.cause.Cause.{Cause}
use Rattle.must_format.specs.Decoding.{requests_at}
use Rattle.must_format.specs.Judging.{◌>>=◌, past_outcome, nothing_left}

-- the outputs of a payload, which stand behind its fields, and nothing else
abbrev pub outputs_whole : Kind → Bool → List ℕ → List ℕ → Result (Unit {0}) Cause
outputs_whole k returned payload outputs = past_outcome (output k) returned (requests_at k payload) outputs >>= λ left. nothing_left left
