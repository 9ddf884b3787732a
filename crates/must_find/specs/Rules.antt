-- The table of rules (docs/RULES.md): the place, the code, the text and the usual severity of each.
use Rattle.std.specs.Prelude.{ℕ, List, [], ◌∷◌, codes, map}
use Rattle.must_find.specs.declared.rule.Rule.{Rule}
use Rattle.must_find.specs.declared.rule.Rule.TheVariants.{I1, I2, I3, A1, A2, A3, A4, A5, A6, A7, H1, H2, H3, H4, H5, T1, T2, T3, S1, M1, M2, M3, M4, N1, C1, C2, C3, C4, C5, C6, C7, C8, W1, W2, L1, L2, L3, L4, L5, X1}
use Rattle.must_find.specs.declared.severity.Severity.{Severity}
use Rattle.must_find.specs.declared.severity.Severity.TheVariants.{Error, Warning, Off}

-- the rules in the order of the table
abbrev pub all_rules : List Rule
all_rules = I1 ∷ I2 ∷ I3 ∷ A1 ∷ A2 ∷ A3 ∷ A4 ∷ A5 ∷ A6 ∷ A7 ∷ H1 ∷ H2 ∷ H3 ∷ H4 ∷ H5 ∷ T1 ∷ T2 ∷ T3 ∷ S1 ∷ M1 ∷ M2 ∷ M3 ∷ M4 ∷ N1 ∷ C1 ∷ C2 ∷ C3 ∷ C4 ∷ C5 ∷ C6 ∷ C7 ∷ C8 ∷ W1 ∷ W2 ∷ L1 ∷ L2 ∷ L3 ∷ L4 ∷ L5 ∷ X1 ∷ []

-- the place in the table, from 0
abbrev pub rule_place : Rule → ℕ
rule_place I1 = 0
rule_place I2 = 1
rule_place I3 = 2
rule_place A1 = 3
rule_place A2 = 4
rule_place A3 = 5
rule_place A4 = 6
rule_place A5 = 7
rule_place A6 = 8
rule_place A7 = 9
rule_place H1 = 10
rule_place H2 = 11
rule_place H3 = 12
rule_place H4 = 13
rule_place H5 = 14
rule_place T1 = 15
rule_place T2 = 16
rule_place T3 = 17
rule_place S1 = 18
rule_place M1 = 19
rule_place M2 = 20
rule_place M3 = 21
rule_place M4 = 22
rule_place N1 = 23
rule_place C1 = 24
rule_place C2 = 25
rule_place C3 = 26
rule_place C4 = 27
rule_place C5 = 28
rule_place C6 = 29
rule_place C7 = 30
rule_place C8 = 31
rule_place W1 = 32
rule_place W2 = 33
rule_place L1 = 34
rule_place L2 = 35
rule_place L3 = 36
rule_place L4 = 37
rule_place L5 = 38
rule_place X1 = 39

abbrev pub code_of : Rule → List ℕ
code_of I1 = codes "I1"
code_of I2 = codes "I2"
code_of I3 = codes "I3"
code_of A1 = codes "A1"
code_of A2 = codes "A2"
code_of A3 = codes "A3"
code_of A4 = codes "A4"
code_of A5 = codes "A5"
code_of A6 = codes "A6"
code_of A7 = codes "A7"
code_of H1 = codes "H1"
code_of H2 = codes "H2"
code_of H3 = codes "H3"
code_of H4 = codes "H4"
code_of H5 = codes "H5"
code_of T1 = codes "T1"
code_of T2 = codes "T2"
code_of T3 = codes "T3"
code_of S1 = codes "S1"
code_of M1 = codes "M1"
code_of M2 = codes "M2"
code_of M3 = codes "M3"
code_of M4 = codes "M4"
code_of N1 = codes "N1"
code_of C1 = codes "C1"
code_of C2 = codes "C2"
code_of C3 = codes "C3"
code_of C4 = codes "C4"
code_of C5 = codes "C5"
code_of C6 = codes "C6"
code_of C7 = codes "C7"
code_of C8 = codes "C8"
code_of W1 = codes "W1"
code_of W2 = codes "W2"
code_of L1 = codes "L1"
code_of L2 = codes "L2"
code_of L3 = codes "L3"
code_of L4 = codes "L4"
code_of L5 = codes "L5"
code_of X1 = codes "X1"

abbrev pub text_of : Rule → List ℕ
text_of I1 = codes "call before Init or second Init"
text_of I2 = codes "call after Finalize"
text_of I3 = codes "no Finalize"
text_of A1 = codes "negative count"
text_of A2 = codes "peer out of range"
text_of A3 = codes "tag out of range"
text_of A4 = codes "root out of range"
text_of A5 = codes "block length or subarray invalid"
text_of A6 = codes "rank list invalid"
text_of A7 = codes "color invalid"
text_of H1 = codes "handle unknown"
text_of H2 = codes "handle used after free"
text_of H3 = codes "predefined object freed"
text_of H4 = codes "type not committed"
text_of H5 = codes "active request started"
text_of T1 = codes "receive type overlaps itself"
text_of T2 = codes "buffers of one call overlap"
text_of T3 = codes "buffer of a pending operation"
text_of S1 = codes "status contradicts arguments"
text_of M1 = codes "signature differs"
text_of M2 = codes "message too long"
text_of M3 = codes "send never received"
text_of M4 = codes "receive never matched"
text_of N1 = codes "open wildcard"
text_of C1 = codes "collective kinds differ"
text_of C2 = codes "roots differ"
text_of C3 = codes "operations differ"
text_of C4 = codes "collective amounts differ"
text_of C5 = codes "member missing"
text_of C6 = codes "operation not on this type"
text_of C7 = codes "members not the defined ones"
text_of C8 = codes "create groups disagree"
text_of W1 = codes "blocked in the deadlock core"
text_of W2 = codes "blocked outside the core"
text_of L1 = codes "type not freed"
text_of L2 = codes "communicator not freed"
text_of L3 = codes "group not freed"
text_of L4 = codes "operation not freed"
text_of L5 = codes "request open"
text_of X1 = codes "wildcard race"

-- the severity where no rules file says otherwise
abbrev pub usual_severity : Rule → Severity
usual_severity I1 = Error
usual_severity I2 = Error
usual_severity I3 = Error
usual_severity A1 = Error
usual_severity A2 = Error
usual_severity A3 = Error
usual_severity A4 = Error
usual_severity A5 = Error
usual_severity A6 = Error
usual_severity A7 = Error
usual_severity H1 = Error
usual_severity H2 = Error
usual_severity H3 = Error
usual_severity H4 = Error
usual_severity H5 = Error
usual_severity T1 = Error
usual_severity T2 = Error
usual_severity T3 = Error
usual_severity S1 = Error
usual_severity M1 = Error
usual_severity M2 = Error
usual_severity M3 = Error
usual_severity M4 = Error
usual_severity N1 = Warning
usual_severity C1 = Error
usual_severity C2 = Error
usual_severity C3 = Error
usual_severity C4 = Error
usual_severity C5 = Error
usual_severity C6 = Error
usual_severity C7 = Error
usual_severity C8 = Error
usual_severity W1 = Error
usual_severity W2 = Error
usual_severity L1 = Warning
usual_severity L2 = Warning
usual_severity L3 = Warning
usual_severity L4 = Warning
usual_severity L5 = Warning
usual_severity X1 = Off

-- the usual severities in the order of the table
abbrev pub usual_severities : List Severity
usual_severities = map usual_severity all_rules
