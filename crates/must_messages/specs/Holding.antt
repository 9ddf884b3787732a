-- Which items and needs of a rank can be told before its calls end (docs/MESSAGES.md, "Held back"): those of operations that are
-- settled, up to the first that is open. They come in order, so what stands behind an open one is held back too.
use Rattle.std.specs.Prelude.{ℕ, Bool, true, false, if◌then◌else◌, List, [], ◌∷◌, map, filter_map}
use Rattle.std.specs.List.{list_all}
use Rattle.must_call.specs.declared.finish.Finish.TheVariants.{Wait, Waitall, Waitany, Waitsome}
use Rattle.must_call.specs.declared.body.Body.{Body}
use Rattle.must_call.specs.declared.body.Body.TheVariants.{Point, Finish}
use Rattle.must_call.specs.declared.call.Call.{Call}
use Rattle.must_entry.specs.Entries.{Waits}
use Rattle.must_rules.specs.Rank.{Rank}
use Rattle.must_rules.specs.Turns.{Turn, turns}
use Rattle.must_rules.specs.Operations.{Operation, operations_of}
use Rattle.must_rules.specs.Fates.{Fate, Open, fate_of}
use Rattle.must_rules.specs.Statuses.{under_way}
use Rattle.must_messages.specs.MessageItems.{Item, item_of}
use Rattle.must_messages.specs.CallNeeds.{done_here, waits_of}

-- those up to the first for which the test fails
abbrev pub front : {X : Type 0} → (X → Bool) → List X → List X
front test [] = []
front test (x ∷ xs) = if test x then x ∷ front test xs else []

-- those from the first on for which the test fails
abbrev pub back : {X : Type 0} → (X → Bool) → List X → List X
back test [] = []
back test (x ∷ xs) = if test x then back test xs else x ∷ xs

-- ---- items

-- no later call changes what becomes of an operation
abbrev pub is_settled : Fate → Bool
is_settled Open = false
is_settled _ = true

abbrev pub is_known : List Call → Operation → Bool
is_known calls op = is_settled (fate_of calls op)

-- the operations whose items are given after these calls
abbrev pub given : Rank → List Call → List Operation
given r calls = front (is_known calls) (operations_of r calls)

-- the operations that are held back
abbrev pub held : Rank → List Call → List Operation
held r calls = back (is_known calls) (operations_of r calls)

-- the items that are given after these calls
abbrev pub items_given : Rank → List Call → List Item
items_given r calls = filter_map (item_of r calls) (given r calls)

-- ---- needs

-- the operations of the active ones among some requests
abbrev pub under_way_among : Rank → (earlier : List Call) → List ℕ → List Operation
under_way_among r earlier requests = filter_map (under_way r earlier) requests

-- the operations by whose needs a call waits
abbrev pub named_by : Rank → (earlier : List Call) → Call → Body → List Operation
named_by r earlier call (Point p) = done_here r earlier call
named_by r earlier call (Finish (Wait request status)) = under_way_among r earlier (request ∷ [])
named_by r earlier call (Finish (Waitall requests statuses)) = under_way_among r earlier requests
named_by r earlier call (Finish (Waitany requests choice)) = under_way_among r earlier requests
named_by r earlier call (Finish (Waitsome requests completions)) = under_way_among r earlier requests
named_by r earlier call _ = []

abbrev pub names_of : Rank → Turn → List Operation
names_of r t = named_by r t.earlier t.call t.call.body

-- all operations that the call names are settled
abbrev pub is_told : Rank → List Call → Turn → Bool
is_told r calls t = list_all (is_known calls) (names_of r t)

-- the calls whose needs are given after these calls
abbrev pub told : Rank → List Call → List Turn
told r calls = front (is_told r calls) (turns calls)

-- the calls whose needs are held back
abbrev pub untold : Rank → List Call → List Turn
untold r calls = back (is_told r calls) (turns calls)

-- the needs that are given after these calls
abbrev pub needs_given : Rank → List Call → List Waits
needs_given r calls = map (waits_of r calls) (told r calls)
