-- The bytes behind the outputs that are read.
use Rattle.std.specs.Prelude.{ℕ, ◌*◌, Bool, true, false, List, drop, ◌==◌, if◌then◌else◌, Option, Some, None}
use Rattle.must_call.specs.declared.field.Item.TheVariants as item
use Rattle.must_call.specs.declared.field.Output.{Output}
use Rattle.must_call.specs.declared.field.Output.TheVariants as output
use Rattle.must_format.specs.Decoding.{u32_at, bit_at, behind_list}

-- behind a flag, and behind so many bytes where it is 1
abbrev pub behind_flagged : ℕ → List ℕ → List ℕ
behind_flagged wide bytes = if bit_at bytes then drop wide (drop 1 bytes) else drop 1 bytes

-- behind the count of completions, and behind so many; behind the count alone where that is -1
abbrev pub behind_completions : List ℕ → List ℕ
behind_completions bytes = if u32_at bytes == 4294967295 then drop 4 bytes else drop (13 * u32_at bytes) (drop 4 bytes)

-- behind the outputs of a call with n requests
abbrev pub behind_output : Output → ℕ → List ℕ → List ℕ
behind_output (output.Made c) n bytes = drop 4 bytes
behind_output output.MadeComm n bytes = behind_list item.Request (drop 4 bytes)
behind_output output.Status n bytes = drop 9 bytes
behind_output output.MaybeStatus n bytes = behind_flagged 9 bytes
behind_output output.Statuses n bytes = drop (9 * n) bytes
behind_output output.MaybeStatuses n bytes = behind_flagged (9 * n) bytes
behind_output output.Choice n bytes = drop 13 bytes
behind_output output.MaybeChoice n bytes = behind_flagged 13 bytes
behind_output output.Completions n bytes = behind_completions bytes

-- outputs stand in returned records alone
abbrev pub behind_outcome : Option Output → Bool → ℕ → List ℕ → List ℕ
behind_outcome None returned n bytes = bytes
behind_outcome (Some o) true n bytes = behind_output o n bytes
behind_outcome (Some o) false n bytes = bytes
