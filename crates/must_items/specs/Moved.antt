-- What a side of a collective call moves (MPI 3.1 sections 5.4 to 5.11): how many elements of which type, for each member or
-- for all alike, where these arguments are significant.
use Rattle.std.specs.Prelude.{ℕ, ℤ, pos, negsuc, Bool, true, false, if◌then◌else◌, List, [], ◌∷◌, map, Option, Some, None}
use Rattle.must_call.specs.declared.basic.Basic.{Basic}
use Rattle.must_call.specs.declared.field.Side.{Side}
use Rattle.must_call.specs.declared.field.Side.TheVariants.{Send, Receive, Both}
use Rattle.must_call.specs.declared.field.Handle.TheVariants as handle
use Rattle.must_call.specs.declared.field.Int.TheVariants as int
use Rattle.must_call.specs.declared.field.Ints.TheVariants as ints
use Rattle.must_call.specs.declared.field.Item.TheVariants as item
use Rattle.must_call.specs.declared.field.Field.{Field}
use Rattle.must_call.specs.declared.field.Field.TheVariants.{Handle, I32, Items}
use Rattle.must_call.specs.declared.body.Body.{Body}
use Rattle.must_call.specs.Values.{Value}
use Rattle.must_call.specs.Bodies.{inputs_of}
use Rattle.must_type.specs.Tree.{TypeTree}
use Rattle.must_sig.specs.Signatures.{signature}
use Rattle.must_rules.specs.Facts.{Facts}
use Rattle.must_rules.specs.Significant.{first_told, is_send, comm_of, significant_in}
use Rattle.must_rules.specs.ArgumentRules.{for_members, amount_count}
use Rattle.must_rules.specs.Facts.{size_of_comm}
use Rattle.std.specs.Option.{option_map}

-- a field of both sides tells what is sent
abbrev pub tells : Side → Side → Bool
tells Send Send = true
tells Both Send = true
tells Receive Receive = true
tells _ _ = false

-- how many elements, for all alike or member by member
abbrev pub counts_in : Side → (f : Field) → Value f → Option (List ℤ)
counts_in s (I32 (int.Count of)) z = if tells of s then Some (z ∷ []) else None
counts_in s (Items (item.Amount of)) amounts = if tells of s then Some (map amount_count amounts) else None
counts_in s (Items (item.Int ints.Counts)) counts = if is_send s then Some counts else None
counts_in s _ _ = None

abbrev pub type_in : Side → (f : Field) → Value f → Option ℕ
type_in s (Handle (handle.Datatype of)) h = if tells of s then Some h else None
type_in s _ _ = None

-- what a field says, where it is significant
abbrev pub where_significant : {X : Type 0} → (Field → Bool) → ((f : Field) → Value f → Option X) → (f : Field) → Value f → Option X
where_significant is_significant ask f v = if is_significant f then ask f v else None

-- what the first significant field says that answers
abbrev pub first_significant : {X : Type 0} → Facts → Body → ((f : Field) → Value f → Option X) → Option X
first_significant facts b ask = first_told (where_significant (significant_in facts b) ask) (inputs_of b)

-- a count below zero breaks rule A1, and stands for nothing here
abbrev pub elements : ℤ → ℕ
elements (pos n) = n
elements (negsuc n) = 0

abbrev pub signatures_of : Option TypeTree → List ℤ → List (List Basic)
signatures_of (Some t) counts = map (λ z. signature t (elements z)) counts
signatures_of None counts = []

abbrev pub signatures_by : (ℕ → Option TypeTree) → Option ℕ → Option (List ℤ) → Option ℕ → List (List Basic)
signatures_by types size (Some counts) (Some dtype) = signatures_of (types dtype) (for_members size counts)
signatures_by types size _ _ = []

-- the signatures of what a side moves, one for each member, or one where there is one count for all
abbrev pub signatures_moved : Facts → (ℕ → Option TypeTree) → Side → Body → List (List Basic)
signatures_moved facts types s b =
    signatures_by types (option_map size_of_comm (comm_of facts b)) (first_significant facts b (counts_in s)) (first_significant facts b (type_in s))
