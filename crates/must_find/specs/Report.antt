-- The report of findings as text (docs/RULES.md, "Reports").
use Rattle.std.specs.Prelude.{ℕ, Bool, true, false, List, ◌++◌, length, filter, codes, Option, Some, None}
use Rattle.std.specs.List.{flat_map}
use Rattle.std.specs.Fmt.{decimal, signed_decimal}
use Rattle.must_call.specs.declared.place.Place.{Place}
use Rattle.must_find.specs.declared.finding.Finding.{Finding}
use Rattle.must_find.specs.declared.severity.Severity.{Severity}
use Rattle.must_find.specs.declared.severity.Severity.TheVariants.{Error, Warning, Off}
use Rattle.must_find.specs.Rules.{code_of, text_of}
use Rattle.must_find.specs.RuleSet.{severity_in}

abbrev pub see_text : Option Place → List ℕ
see_text None = codes "-"
see_text (Some s) = decimal s.rank ++ codes ":" ++ decimal s.call

abbrev pub severity_text : Severity → List ℕ
severity_text Error = codes "error"
severity_text Warning = codes "warning"
severity_text Off = codes "off"

unfoldable pub head_text : Finding → List ℕ
head_text f = codes "rank " ++ decimal f.rank ++ codes " call " ++ decimal f.call ++ codes " part " ++ decimal f.part ++ codes ": "

unfoldable pub rule_text : List Severity → Finding → List ℕ
rule_text rules f = severity_text (severity_in rules f.rule) ++ codes " " ++ code_of f.rule ++ codes " " ++ text_of f.rule ++ codes ", see "

unfoldable pub value_text : Finding → List ℕ
value_text f = codes ", value " ++ signed_decimal f.value ++ codes "\n"

-- the line of a finding
unfoldable pub line_of : List Severity → Finding → List ℕ
line_of rules f = head_text f ++ (rule_text rules f ++ (see_text f.see ++ value_text f))

unfoldable pub total_text : ℕ → List ℕ
total_text n = codes "violations " ++ decimal n ++ codes "\n"

abbrev pub is_on : Severity → Bool
is_on Error = true
is_on Warning = true
is_on Off = false

-- the findings whose severity isn't off
abbrev pub shown : List Severity → List Finding → List Finding
shown rules fs = filter (λ f. is_on (severity_in rules f.rule)) fs

-- a line for each finding that is shown, and how many there are
abbrev pub report_of : List Severity → List Finding → List ℕ
report_of rules fs = flat_map (line_of rules) (shown rules fs) ++ total_text (length (shown rules fs))
