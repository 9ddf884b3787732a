-- The lines on the error stream (README.md, "Answers").
use Rattle.std.specs.Prelude.{ℕ, List, ◌++◌, codes}
use Rattle.std.specs.Fmt.{decimal}
use Rattle.must_format.specs.declared.fault.StreamFault.{StreamFault}
use Rattle.must_format.specs.declared.fault.StreamFault.TheVariants as fault
use Rattle.must_format.specs.Names.{cause_name, limit_name}

abbrev pub usage_line : List ℕ
usage_line = codes "usage: must_cli check|dump|drill\n"

abbrev pub write_line : List ℕ
write_line = codes "write failed\n"

abbrev pub memory_line : List ℕ
memory_line = codes "out of memory\n"

abbrev pub settings_line : List ℕ
settings_line = codes "rules file refused\n"

-- how a line names a stream of a run: by its rank
unfoldable pub rank_name : ℕ → List ℕ
rank_name rank = codes "rank " ++ decimal rank

-- how it names a stream that stands alone
abbrev pub stream_name : List ℕ
stream_name = codes "stream"

-- the first bad place of a stream, in words: the stream, what is wrong there, its offset, and the cause or limit
unfoldable pub place_line : List ℕ → List ℕ → ℕ → List ℕ → List ℕ
place_line stream what at name = stream ++ what ++ decimal at ++ codes ": " ++ name ++ codes "\n"

unfoldable pub read_line : List ℕ → List ℕ
read_line stream = stream ++ codes " read failed\n"

-- the line for the fault of a stream that is named so
abbrev pub fault_line : List ℕ → StreamFault → List ℕ
fault_line stream (fault.Malformed at cause) = place_line stream (codes " malformed at ") at (cause_name cause)
fault_line stream (fault.Bound at limit) = place_line stream (codes " bound at ") at (limit_name limit)
fault_line stream fault.Read = read_line stream
fault_line stream fault.NoMemory = memory_line

-- the line for a rules file that couldn't be read
abbrev pub rules_line : List ℕ
rules_line = read_line (codes "rules file")

-- the line for the fault of a rank's stream
abbrev pub rank_line : ℕ → StreamFault → List ℕ
rank_line rank fault = fault_line (rank_name rank) fault

-- the line for the fault of a stream that stands alone
abbrev pub stream_line : StreamFault → List ℕ
stream_line fault = fault_line stream_name fault
