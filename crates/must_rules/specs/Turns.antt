-- The calls of a rank, each with those before it.
use Rattle.std.specs.Prelude.{List, [], ◌∷◌, ◌++◌}
use Rattle.must_call.specs.declared.call.Call.{Call}

pub record Turn : Type 0 where
  pub earlier : List Call
  pub call : Call

abbrev pub turn : List Call → Call → Turn
turn earlier call = record { earlier = earlier; call = call }

-- some calls behind others
abbrev pub turns_from : (earlier calls : List Call) → List Turn
turns_from earlier [] = []
turns_from earlier (call ∷ calls) = turn earlier call ∷ turns_from (earlier ++ call ∷ []) calls

abbrev pub turns : List Call → List Turn
turns calls = turns_from [] calls
