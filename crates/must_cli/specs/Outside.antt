-- What the outside shows of a run of the program.
use Rattle.std.specs.Prelude.{◌≡◌, ℕ, List, Option}
use Rattle.must_base.specs.Causes.{Rose}
use Rattle.must_base.specs.Views.{SourceView, SinkView, PutsSome}

-- a sink as it was and as it is
pub record Output : Type 0 where
  pub old : SinkView
  pub new : SinkView

abbrev pub output : SinkView → SinkView → Output
output old new = record { old = old; new = new }

-- for each rank the bytes of its file, where they are told, and what its part shows at the end; and the report's output
pub record Outside : Type 0 where
  pub told : List (Option (List ℕ))
  pub parts : List SourceView
  pub out : Output

abbrev pub outside : List (Option (List ℕ)) → List SourceView → Output → Outside
outside told parts out = record { told = told; parts = parts; out = out }

-- nothing was put
abbrev pub IsUnchanged : Output → Type 0
IsUnchanged o = o.new ≡ o.old

-- the line was put, or a front of it where a put failed
abbrev pub Puts : Output → List ℕ → Type 0
Puts o line = PutsSome o.old o.new line

-- a put failed
abbrev pub HasCut : Output → Type 0
HasCut o = Rose o.old.faults o.new.faults
