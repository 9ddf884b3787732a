-- What the passes of an inbox know, the rule that each step keeps, and the six kinds of step (docs/THREADS.md).
use Rattle.std.specs.Prelude.{◌≡◌, ℕ, ◌<◌, List, [], ◌∷◌, ◌++◌, length, Option, Some, None, slice_get}
use Rattle.std.specs.List.{AllByRecursion}
use mathlib.Core.Option.{some}
use lib.ListN.{get_elem?}
use Rattle.must_entry.specs.declared.range.RankRange.{RankRange}
use Rattle.must_entry.specs.declared.batch.Batch.{Batch}
use Rattle.must_inbox.specs.declared.view.View.{View}
use Rattle.must_inbox.specs.declared.view.View.TheVariants.{Taking, Sending, Spent}
use Rattle.must_inbox.specs.Children.{of_child, AreNumbered, AreApart, AreLawful, IsOrderly, HasFronts, HasAll}

-- ---- the parts of a view

-- the view of the taker, and that of a port
abbrev pub IsTaking : View → Type 0
IsTaking (Taking ranges joined got) = Unit {0}
IsTaking (Sending number range sent) = ⊥
IsTaking Spent = ⊥

abbrev pub IsSending : View → Type 0
IsSending (Taking ranges joined got) = ⊥
IsSending (Sending number range sent) = Unit {0}
IsSending Spent = ⊥

abbrev pub ranges_of : View → List RankRange
ranges_of (Taking ranges joined got) = ranges
ranges_of (Sending number range sent) = []
ranges_of Spent = []

abbrev pub joined_of : View → List (ℕ × List Batch)
joined_of (Taking ranges joined got) = joined
joined_of (Sending number range sent) = []
joined_of Spent = []

abbrev pub got_of : View → List (ℕ × Batch)
got_of (Taking ranges joined got) = got
got_of (Sending number range sent) = []
got_of Spent = []

abbrev pub number_of : View → ℕ
number_of (Taking ranges joined got) = 0
number_of (Sending number range sent) = number
number_of Spent = 0

abbrev pub range_of : View → RankRange
range_of (Taking ranges joined got) = record { from = 0; to = 0 }
range_of (Sending number range sent) = range
range_of Spent = record { from = 0; to = 0 }

abbrev pub sent_of : View → List Batch
sent_of (Taking ranges joined got) = []
sent_of (Sending number range sent) = sent
sent_of Spent = []

-- ---- the rule

-- A pass's view is true: `all` is what was pushed so far, and `place` says which pass is the port of a number. The taker's is the
-- one view of its kind. A port's range is the one that the taker keeps by its number, and its sent list is all that was pushed by
-- that number.
abbrev pub Fits : (seat : ℕ) → List RankRange → List (ℕ × List Batch) → (got all : List (ℕ × Batch)) → (place : ℕ → Option ℕ) → (pass : ℕ) → View → Type 0
Fits seat ranges joined got all place pass (Taking rs js g) = (pass ≡ seat) × (rs ≡ ranges) × (js ≡ joined) × (g ≡ got)
Fits seat ranges joined got all place pass (Sending n r s) = (slice_get ranges n ≡ Some r) × (of_child n all ≡ s) × (place n ≡ Some pass)
Fits seat ranges joined got all place pass Spent = Unit {0}

-- a joined child: what it sent is all that was pushed by its number, and no pass is its port
abbrev pub IsClosed : (count : ℕ) → (all : List (ℕ × Batch)) → (place : ℕ → Option ℕ) → ℕ × List Batch → Type 0
IsClosed count all place j = (j.0 < count) × (of_child j.0 all ≡ j.1) × (place j.0 ≡ None)

-- The rule, over what the queue holds and over the views of all passes. What was pushed is what was taken and then what the queue
-- holds; it names given numbers alone; by each number it is lawful for the range of that number, and no two ranges share a rank.
pub record Kept (items : List (ℕ × Batch)) (views : List View) : Type 0 where
  pub seat : ℕ
  pub ranges : List RankRange
  pub joined : List (ℕ × List Batch)
  pub got : List (ℕ × Batch)
  pub all : List (ℕ × Batch)
  pub place : ℕ → Option ℕ
  pub fits : (pass : ℕ) (v : View) → get_elem? views pass ≡ some v → Fits seat ranges joined got all place pass v
  pub is : all ≡ got ++ items
  pub numbered : AreNumbered (length ranges) all
  pub lawful : AreLawful ranges all
  pub apart : AreApart ranges
  pub closed : AllByRecursion (IsClosed (length ranges) all place) joined

-- ---- the steps: open

-- the first view
abbrev pub opened : View
opened = Taking [] [] []

-- ---- split off a port: the taker's view, and the port's

abbrev pub grown : RankRange → View → View
grown range (Taking ranges joined got) = Taking (ranges ++ range ∷ []) joined got
grown range (Sending number other sent) = Spent
grown range Spent = Spent

abbrev pub started : RankRange → View → View
started range (Taking ranges joined got) = Sending (length ranges) range []
started range (Sending number other sent) = Spent
started range Spent = Spent

-- ---- push: the port sent one batch more

abbrev pub Sends : View → ℕ × Batch → View → Type 0
Sends v x w = w ≡ Sending (number_of v) (range_of v) (sent_of v ++ x.1 ∷ [])

-- ---- pop of an entry: the taker took it; of each joined child it has a front of what that sent

pub record Takes (v : View) (x : ℕ × Batch) (w : View) : Type 0 where
  pub is : w ≡ Taking (ranges_of v) (joined_of v) (got_of v ++ x ∷ [])
  pub orderly : IsOrderly (ranges_of v) (got_of v ++ x ∷ [])
  pub fronts : HasFronts (joined_of v) (got_of v ++ x ∷ [])

-- ---- pop that finds nothing: of each joined child the taker has all

abbrev pub Empties : View → List (ℕ × Batch) → Type 0
Empties v items = items ≡ [] → HasAll (joined_of v) (got_of v)

-- ---- join a port: the taker keeps its number and what it sent

abbrev pub with_joined : View → View → View
with_joined (Taking ranges joined got) w = Taking ranges (joined ++ (number_of w, sent_of w) ∷ []) got
with_joined (Sending number other sent) w = Spent
with_joined Spent w = Spent
