-- Rules W1 and W2: the rows of the calls at which ranks are blocked (docs/RULES.md, "Waiting"; docs/WAITING.md has the replay and
-- the core).
use Rattle.std.specs.Prelude.{◌≡◌, ◌⊎◌, pos, Bool, true, false, not, List, [], ◌∷◌, find, Option, Some, None}
use Rattle.must_call.specs.declared.place.Place.{Place}
use Rattle.must_find.specs.declared.rule.Rule.{Rule}
use Rattle.must_find.specs.declared.rule.Rule.TheVariants.{W1, W2}
use Rattle.must_find.specs.declared.finding.Finding.{Finding}
use Rattle.must_wait.specs.Needs.{Needs, Rows, needs_of}
use Rattle.must_wait.specs.Replay.{reached, passed, IsBlockedList}
use Rattle.must_wait.specs.CoreLaws.{in_core}

-- the first place of an alternative that the replay doesn't reach
abbrev pub first_unreached : Rows → List Place → Option Place
first_unreached rows places = find (λ (p : Place). not (reached rows (passed rows) p.rank p.call)) places

-- that of the first alternative, where there is one
abbrev pub waits_for : Rows → Option Needs → Option Place
waits_for rows None = None
waits_for rows (Some []) = None
waits_for rows (Some (places ∷ ways)) = first_unreached rows places

-- W1 in the deadlock core, else W2
abbrev pub wait_rule : Bool → Rule
wait_rule true = W1
wait_rule false = W2

-- at the blocked call; it sees what it waits for
abbrev pub wait_finding : Rows → (is_core : Bool) → Place → Finding
wait_finding rows is_core place = record { rank = place.rank; call = place.call; rule = wait_rule is_core; part = 0; see = waits_for rows (needs_of rows place.rank place.call); value = pos 0 }

-- a row of one of these calls
abbrev pub IsWaitOf : Rows → (blocked : List Place) → List Place → Finding → Type 0
IsWaitOf rows blocked [] f = ⊥
IsWaitOf rows blocked (place ∷ places) f = (wait_finding rows (in_core rows blocked place.rank) place ≡ f) ⊎ IsWaitOf rows blocked places f

-- a row of a blocked rank
pub record IsWaitRow (rows : Rows) (f : Finding) : Type 0 where
  pub blocked : List Place
  pub are_blocked : IsBlockedList rows blocked
  pub row : IsWaitOf rows blocked blocked f
