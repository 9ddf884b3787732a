-- The streams of a generated run (docs/DRILL.md).
use Rattle.std.specs.Prelude.{ℕ, List, ◌++◌, length, map}
use Rattle.std.specs.List.{flat_map, range_with_len}
use Rattle.must_call.specs.declared.call.Call.{Call}
use Rattle.must_call.specs.Kinds.{kind_of}
use Rattle.must_format.specs.declared.header.Header.{Header}
use Rattle.must_format.specs.declared.limits.TheConstants.{LEAST_TAG_UB}
use Rattle.must_format.specs.Payload.{payload_text}
use Rattle.must_format.specs.Spelling.{record_text, end_text}
use Rattle.must_format.specs.Stream.{header_text}
use Rattle.must_drill.specs.Calls.{calls_of}

-- the record of a call, as it is spelled
unfoldable pub record_of : Call → List ℕ
record_of call = record_text (kind_of call.body) call.returned (payload_text call.body)

abbrev pub records_of : List Call → List ℕ
records_of calls = flat_map record_of calls

-- version 1, and the least greatest tag that MPI grants
abbrev pub header_of : ℕ → ℕ → Header
header_of ranks rank = record { version = 1; rank = rank; size = ranks; tag_ub = LEAST_TAG_UB }

-- a header, the records of the calls, and the end record
abbrev pub stream_with : Header → List Call → List ℕ
stream_with header calls = header_text header ++ (records_of calls ++ end_text (length calls))

abbrev pub stream_of : ℕ → ℕ → ℕ → ℕ → List ℕ
stream_of ranks rounds number rank = stream_with (header_of ranks rank) (calls_of ranks rounds number rank)

-- the streams of all ranks in order
abbrev pub streams_of : ℕ → ℕ → ℕ → List (List ℕ)
streams_of ranks rounds number = map (λ (rank : ℕ). stream_of ranks rounds number rank) (range_with_len 0 ranks)
