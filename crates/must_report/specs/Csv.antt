-- The report of findings as CSV (docs/RULES.md, "Reports"). No field holds a comma, a quote or a line mark, so none is quoted.
use Rattle.std.specs.Prelude.{ℕ, List, [], ◌++◌, codes, Option, Some, None}
use Rattle.std.specs.List.{flat_map}
use Rattle.std.specs.Fmt.{decimal, signed_decimal}
use Rattle.must_call.specs.declared.place.Place.{Place}
use Rattle.must_find.specs.declared.finding.Finding.{Finding}
use Rattle.must_find.specs.declared.severity.Severity.{Severity}
use Rattle.must_find.specs.Rules.{code_of}
use Rattle.must_find.specs.RuleSet.{severity_in}
use Rattle.must_find.specs.Report.{severity_text, shown}

-- the names of the fields, on the first line
unfoldable pub header : List ℕ
header = codes "rank,call,part,severity,rule,see_rank,see_call,value\n"

-- the rank of what a finding sees, or nothing
abbrev pub see_rank : Option Place → List ℕ
see_rank None = []
see_rank (Some s) = decimal s.rank

-- the call of what a finding sees, or nothing
abbrev pub see_call : Option Place → List ℕ
see_call None = []
see_call (Some s) = decimal s.call

-- the line of a finding
unfoldable pub row_of : List Severity → Finding → List ℕ
row_of rules f =
    decimal f.rank ++ codes "," ++ decimal f.call ++ codes "," ++ decimal f.part ++ codes ","
    ++ severity_text (severity_in rules f.rule) ++ codes "," ++ code_of f.rule ++ codes ","
    ++ see_rank f.see ++ codes "," ++ see_call f.see ++ codes "," ++ signed_decimal f.value ++ codes "\n"

-- the header, and a line for each finding that is shown
abbrev pub csv_of : List Severity → List Finding → List ℕ
csv_of rules fs = header ++ flat_map (row_of rules) (shown rules fs)
