-- What lies ahead of a place in runs that are repeated.
use Rattle.std.specs.Prelude.{◌≡◌, ℕ, ◌<◌, ◌≤◌, List, [], ◌++◌, length, drop, replicate}
use Rattle.std.specs.List.{slice_get}
use Rattle.must_call.specs.declared.basic.Basic.{Basic}
use Rattle.must_sig.specs.declared.run.Run.{Run}
use Rattle.must_sig.specs.declared.place.Place.{Place}
use Rattle.must_sig.specs.Signatures.{repeated, laid}

-- the basic types that are still to come
unfoldable pub ahead : List Run → Place → List Basic
ahead unit p = replicate p.left p.basic ++ (laid (drop p.next unit) ++ repeated p.more (laid unit))

-- a place before nothing is at the end
pub record IsReady (unit : List Run) (p : Place) : Type 0 where
  pub within : p.next ≤ length unit
  pub end : p.left ≡ 0 → ahead unit p ≡ []

-- at the place `at` two lists were equal so far, and a and b lie ahead
pub record Matched (xs ys : List Basic) (at : ℕ) (a b : List Basic) : Type 0 where
  pub front : List Basic
  pub left : xs ≡ front ++ a
  pub right : ys ≡ front ++ b
  pub count : length front ≡ at

-- as far as n, the lists are equal where both go
abbrev pub AgreeBelow : {X : Type 0} → ℕ → List X → List X → Type 0
AgreeBelow n xs ys = (i : ℕ) → i < n → i < length xs → i < length ys → slice_get xs i ≡ slice_get ys i
