-- Signatures (MPI 3.1, 3.3.1 and 4.1.1; docs/SIGNATURES.md): the list of the basic types of a message, and how two of them
-- compare.
use Rattle.std.specs.Prelude.{Bool, ℕ, zero, suc, ◌==◌, nat_le, if◌then◌else◌, min, List, [], ◌∷◌, ◌++◌, length, replicate, Option, Some, None, option_map}
use Rattle.must_call.specs.declared.basic.Basic.{Basic}
use Rattle.must_call.specs.Basics.{number_of_basic}
use Rattle.must_type.specs.Maps.{Entry, Element, LowerMarker, UpperMarker}
use Rattle.must_type.specs.Tree.{TypeTree, type_map}
use Rattle.must_sig.specs.declared.run.Run.{Run}
use Rattle.must_sig.specs.declared.fit.Fit.{Fit}
use Rattle.must_sig.specs.declared.fit.Fit.TheVariants.{Fits, Differs, TooLong}

-- one list, n times over
unfoldable pub repeated : {X : Type 0} → ℕ → List X → List X
repeated zero xs = []
repeated (suc n) xs = xs ++ repeated n xs

-- the basic types of a map, without its markers
abbrev pub basics_of : List Entry → List Basic
basics_of [] = []
basics_of (Element b d ∷ es) = b ∷ basics_of es
basics_of (LowerMarker d ∷ es) = basics_of es
basics_of (UpperMarker d ∷ es) = basics_of es

-- the signature of `count` elements of a type
abbrev pub signature : TypeTree → ℕ → List Basic
signature t count = repeated count (basics_of (type_map t))

-- The form in which a signature is kept: runs of one unit, and how many times the unit stands there.
pub record Periods : Type 0 where
  pub unit : List Run
  pub times : ℕ

-- the basic types of some runs
abbrev pub laid : List Run → List Basic
laid [] = []
laid (r ∷ rs) = replicate r.length r.basic ++ laid rs

abbrev pub expansion : Periods → List Basic
expansion s = repeated s.times (laid s.unit)

abbrev pub is_same : Basic → Basic → Bool
is_same a b = number_of_basic a == number_of_basic b

-- the first place below both lengths where two lists differ
unfoldable pub unlike : List Basic → List Basic → Option ℕ
unlike [] ys = None
unlike (x ∷ xs) [] = None
unlike (x ∷ xs) (y ∷ ys) = if is_same x y then option_map suc (unlike xs ys) else Some 0

abbrev pub fit_by : Option ℕ → ℕ → ℕ → Fit
fit_by None sent received = if nat_le sent received then Fits else TooLong received
fit_by (Some at) sent received = Differs at

-- how a list of basic types that is sent fits the list that is received
abbrev pub fit : List Basic → List Basic → Fit
fit sent received = fit_by (unlike sent received) (length sent) (length received)

abbrev pub difference_by : Option ℕ → ℕ → ℕ → Option ℕ
difference_by None n m = if n == m then None else Some (min n m)
difference_by (Some at) n m = Some at

-- the first place where two lists differ; a proper prefix differs at its length
abbrev pub difference : List Basic → List Basic → Option ℕ
difference xs ys = difference_by (unlike xs ys) (length xs) (length ys)
