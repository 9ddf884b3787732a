-- The text of a stream (docs/FORMAT.md, "The text of a stream").
use Rattle.std.specs.Prelude.{ℕ, ℤ, ◌+◌, Bool, true, false, List, [], ◌∷◌, ◌++◌, length, codes}
use Rattle.std.specs.List.{flat_map}
use Rattle.std.specs.Fmt.{decimal, signed_decimal}
use Rattle.must_call.specs.declared.call.Call.{Call}
use Rattle.must_call.specs.Kinds.{kind_of}
use Rattle.must_call.specs.Names.{name_of}
use Rattle.must_call.specs.Numbers.{numbers_of}
use Rattle.must_format.specs.declared.header.Header.{Header}

-- the first line: the header's fields
unfoldable pub rank_text : Header → List ℕ
rank_text h = codes "stream " ++ decimal h.version ++ codes " " ++ decimal h.rank

unfoldable pub size_text : Header → List ℕ
size_text h = codes " " ++ decimal h.size ++ codes " " ++ signed_decimal h.tag_ub ++ codes "\n"

unfoldable pub header_line : Header → List ℕ
header_line h = rank_text h ++ size_text h

-- a call that didn't return is marked
abbrev pub mark_text : Bool → List ℕ
mark_text true = []
mark_text false = codes "!"

-- a number of a payload
unfoldable pub number_text : ℤ → List ℕ
number_text z = codes " " ++ signed_decimal z

-- the front of a call's line: its number from 0, and its kind
unfoldable pub name_text : ℕ → Call → List ℕ
name_text k call = decimal k ++ codes " " ++ name_of (kind_of call.body) ++ mark_text call.returned

-- the line of a call
unfoldable pub call_line : ℕ → Call → List ℕ
call_line k call = name_text k call ++ (flat_map number_text (numbers_of call.body) ++ codes "\n")

-- the lines of some calls, the first of which has this number
abbrev pub lines_from : ℕ → List Call → List ℕ
lines_from k [] = []
lines_from k (call ∷ calls) = call_line k call ++ lines_from (k + 1) calls

-- the last line: how many calls there are
unfoldable pub end_line : ℕ → List ℕ
end_line n = codes "end " ++ decimal n ++ codes "\n"

-- the whole text
abbrev pub dump_text : Header → List Call → List ℕ
dump_text h calls = header_line h ++ (lines_from 0 calls ++ end_line (length calls))
