-- What a rules file says (docs/RULES.md, "The rules file"): a TOML document, which is what the crate `toml` parses.
use Rattle.std.specs.Prelude.{◌≡◌, ℕ, Bool, true, false, ◌&&◌, ◌==◌, List, length, codes, Option, Some, None, is_some, unwrap_or, option_and_then, find, nat_le, if◌then◌else◌}
use Rattle.std.specs.Str.{bytes_eq, is_utf8}
use Rattle.must_find.specs.declared.rule.Rule.{Rule}
use Rattle.must_find.specs.declared.rule.Rule.TheVariants.{X1}
use Rattle.must_find.specs.declared.severity.Severity.{Severity}
use Rattle.must_find.specs.declared.severity.Severity.TheVariants.{Error, Warning, Off}
use Rattle.must_find.specs.Rules.{code_of, all_rules, rule_place, usual_severity}
use Rattle.must_find.specs.RuleSet.{severity_in}
use Rattle.must_plan.specs.declared.plan.Sends.{Sends}
use Rattle.must_plan.specs.declared.plan.Sends.TheVariants.{Strict, Buffered}
use Rattle.toml.specs.Data.{Data, Members, no_members, member, get_member, as_str, as_table}
use Rattle.toml.specs.Parse.{parse_document}
use Rattle.must_settings.specs.declared.settings.Settings.{Settings}
use Rattle.must_settings.specs.declared.read.TheConstants.{MOST_SETTINGS_BYTES}

-- ---- names

abbrev pub severity_by_name : List ℕ → Option Severity
severity_by_name name =
    if bytes_eq name (codes "error") then Some Error
    else if bytes_eq name (codes "warning") then Some Warning
    else if bytes_eq name (codes "off") then Some Off
    else None

-- a text that names a severity; a value of another type names none
abbrev pub severity_named : Data → Option Severity
severity_named d = option_and_then severity_by_name (as_str d)

abbrev pub sends_by_name : List ℕ → Option Sends
sends_by_name name =
    if bytes_eq name (codes "strict") then Some Strict
    else if bytes_eq name (codes "buffered") then Some Buffered
    else None

abbrev pub sends_named : Data → Option Sends
sends_named d = option_and_then sends_by_name (as_str d)

-- X1 has no findings yet, so no file may name it
abbrev pub taken : Rule → Option Rule
taken r = if rule_place r == rule_place X1 then None else Some r

-- the rule with this code
abbrev pub rule_named : List ℕ → Option Rule
rule_named code = option_and_then taken (find (λ r. bytes_eq (code_of r) code) all_rules)

-- ---- which files are accepted

-- each member is one that there may be
abbrev pub all_members : (List ℕ → Data → Bool) → Members → Bool
all_members may no_members = true
all_members may (member key d ms) = may key d && all_members may ms

-- a member of the table of rules: a code, and a severity
abbrev pub is_rule : List ℕ → Data → Bool
is_rule code d = is_some (rule_named code) && is_some (severity_named d)

abbrev pub are_rules : Members → Bool
are_rules ms = all_members is_rule ms

abbrev pub is_rules : Option Members → Bool
is_rules None = false
is_rules (Some ms) = are_rules ms

-- a member of the file: `sends`, and the table `rules`
abbrev pub is_setting : List ℕ → Data → Bool
is_setting key d =
    if bytes_eq key (codes "sends") then is_some (sends_named d)
    else if bytes_eq key (codes "rules") then is_rules (as_table d)
    else false

abbrev pub are_settings : Members → Bool
are_settings ms = all_members is_setting ms

-- the table of a TOML document, which is UTF-8
abbrev pub document : List ℕ → Option Members
document bytes = if is_utf8 bytes then parse_document bytes else None

abbrev pub when_settings : Members → Option Members
when_settings ms = if are_settings ms then Some ms else None

-- the table of a rules file, where it is accepted
abbrev pub rules_file : List ℕ → Option Members
rules_file bytes = if nat_le (length bytes) MOST_SETTINGS_BYTES then option_and_then when_settings (document bytes) else None

-- ---- what an accepted file sets

-- the severity of a rule that had this one, when a member of a table gave the rule that it names its severity
abbrev pub given : Rule → Severity → List ℕ → Data → Severity
given r old code d = if bytes_eq (code_of r) code then unwrap_or (severity_named d) old else old

-- and when each member of a table gave the rule that it names its severity
abbrev pub severity_by : Rule → Severity → Members → Severity
severity_by r old no_members = old
severity_by r old (member code d ms) = severity_by r (given r old code d) ms

abbrev pub severity_in_rules : Rule → Option Members → Severity
severity_in_rules r None = usual_severity r
severity_in_rules r (Some ms) = severity_by r (usual_severity r) ms

-- the severity that the file sets, and else the usual one
abbrev pub rules_by : Members → Rule → Severity
rules_by file r = severity_in_rules r (option_and_then as_table (get_member (codes "rules") file))

-- how the file takes standard sends, where it says so
abbrev pub sends_by : Members → Option Sends
sends_by file = option_and_then sends_named (get_member (codes "sends") file)

-- these are the settings of an accepted rules file
pub record Sets (bytes : List ℕ) (s : Settings) : Type 0 where
  pub file : Members
  pub accepted : rules_file bytes ≡ Some file
  pub sends : s.sends ≡ sends_by file
  pub rules : (r : Rule) → severity_in s.rules r ≡ rules_by file r
