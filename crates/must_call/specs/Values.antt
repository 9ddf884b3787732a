-- The values of fields.
use Rattle.std.specs.Prelude.{ℕ, ℤ, Bool, List, [], ◌∷◌, Option, Some, None}
use Rattle.must_call.specs.declared.status.Status3.{Status3}
use Rattle.must_call.specs.declared.items.IndexItem.{IndexItem}
use Rattle.must_call.specs.declared.items.HindexItem.{HindexItem}
use Rattle.must_call.specs.declared.items.StructBlock.{StructBlock}
use Rattle.must_call.specs.declared.items.Dim.{Dim}
use Rattle.must_call.specs.declared.items.Amount.{Amount}
use Rattle.must_call.specs.declared.items.Choice.{Choice}
use Rattle.must_call.specs.declared.items.Completion.{Completion}
use Rattle.must_call.specs.declared.items.MadeComm.{MadeComm}
use Rattle.must_call.specs.declared.field.Item.{Item}
use Rattle.must_call.specs.declared.field.Item.TheVariants as item
use Rattle.must_call.specs.declared.field.Field.{Field}
use Rattle.must_call.specs.declared.field.Field.TheVariants as field
use Rattle.must_call.specs.declared.field.Output.{Output}
use Rattle.must_call.specs.declared.field.Output.TheVariants as output

-- an item of a list
abbrev pub ItemValue : Item → Type 0
ItemValue item.Request = ℕ
ItemValue (item.Int u) = ℤ
ItemValue item.Aint = ℤ
ItemValue item.Block = IndexItem
ItemValue item.ByteBlock = HindexItem
ItemValue item.StructBlock = StructBlock
ItemValue item.Dim = Dim
ItemValue (item.Amount s) = Amount

-- a field
abbrev pub Value : Field → Type 0
Value (field.Handle h) = ℕ
Value (field.Buffer s) = ℕ
Value (field.I32 u) = ℤ
Value (field.I64 u) = ℤ
Value (field.Bit u) = Bool
Value field.Order = ℕ
Value (field.Items i) = List (ItemValue i)

-- what stands behind the fields: where a flag is 0, or the count is -1, it is none
abbrev pub OutputValue : Output → Type 0
OutputValue (output.Made c) = ℕ
OutputValue output.MadeComm = MadeComm
OutputValue output.Status = Status3
OutputValue output.MaybeStatus = Option Status3
OutputValue output.Statuses = List Status3
OutputValue output.MaybeStatuses = Option (List Status3)
OutputValue output.Choice = Choice
OutputValue output.MaybeChoice = Option Choice
OutputValue output.Completions = Option (List Completion)

-- the values of a list of fields
abbrev pub Values : List Field → Type 0
Values [] = Unit {0}
Values (f ∷ fs) = Value f × Values fs

-- the outputs of a kind that has some: none where the call didn't return
abbrev pub Outcome : Option Output → Type 0
Outcome None = Unit {0}
Outcome (Some o) = Option (OutputValue o)

-- a field with its value
abbrev pub Typed : Type 0
Typed = (f : Field) × Value f

abbrev pub TypedOutput : Type 0
TypedOutput = (o : Output) × OutputValue o

abbrev pub typed : (fs : List Field) → Values fs → List Typed
typed [] v = []
typed (f ∷ fs) v = (f, v.0) ∷ typed fs v.1

abbrev pub given : (o : Option Output) → Outcome o → Option TypedOutput
given None u = None
given (Some o) None = None
given (Some o) (Some x) = Some (o, x)
