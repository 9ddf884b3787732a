-- Rules I1 to I3: Init comes first and once, and Finalize last (docs/RULES.md; MPI 3.1 section 8.7).
use Rattle.std.specs.Prelude.{ℕ, pos, Bool, true, false, List, [], ◌∷◌, Option, Some, None}
use Rattle.must_call.specs.declared.call.Call.{Call}
use Rattle.must_call.specs.declared.body.Body.{Body}
use Rattle.must_call.specs.declared.body.Body.TheVariants.{Frame}
use Rattle.must_call.specs.declared.frame.Frame.TheVariants.{Init, Finalize}
use Rattle.must_rules.specs.Answer.{Answer, alone}
use Rattle.must_rules.specs.Rank.{Rank, seen}
use Rattle.must_rules.specs.Search.{first_where}

abbrev pub is_init_kind : Body → Bool
is_init_kind (Frame Init) = true
is_init_kind _ = false

abbrev pub is_finalize_kind : Body → Bool
is_finalize_kind (Frame Finalize) = true
is_finalize_kind _ = false

abbrev pub is_init : Call → Bool
is_init call = is_init_kind call.body

abbrev pub is_finalize : Call → Bool
is_finalize call = is_finalize_kind call.body

abbrev pub first_init : List Call → Option ℕ
first_init calls = first_where is_init calls

abbrev pub first_finalize : List Call → Option ℕ
first_finalize calls = first_where is_finalize calls

-- by whether the call is an Init, and the first earlier Init
abbrev pub init_answer : ℕ → Bool → Option ℕ → Option Answer
init_answer rank true None = None
init_answer rank true (Some first) = Some (seen rank first, pos 0)
init_answer rank false None = Some (alone (pos 0))
init_answer rank false (Some first) = None

-- I1: an Init with an earlier one, which it sees, or another call with no earlier Init
unfoldable pub outside_init : Rank → List Call → Call → Option Answer
outside_init r earlier call = init_answer r.rank (is_init call) (first_init earlier)

-- a finding that sees a call, where that call is there
abbrev pub seeing : ℕ → Option ℕ → Option Answer
seeing rank None = None
seeing rank (Some call) = Some (seen rank call, pos 0)

-- I2: a call with an earlier Finalize; it sees the first
unfoldable pub after_finalize : Rank → List Call → Option Answer
after_finalize r earlier = seeing r.rank (first_finalize earlier)

-- the last call returned; where there is none, this
abbrev pub last_returned : Bool → List Call → Bool
last_returned none [] = none
last_returned none (call ∷ calls) = last_returned call.returned calls

-- the last call returned, or there is none
abbrev pub ends_returned : List Call → Bool
ends_returned calls = last_returned true calls

abbrev pub missing : Bool → Option ℕ → Option Answer
missing true None = Some (alone (pos 0))
missing true (Some first) = None
missing false first = None

-- I3: no Finalize, and the last call returned or there is none
unfoldable pub no_finalize : List Call → Option Answer
no_finalize calls = missing (ends_returned calls) (first_finalize calls)
