-- What putting the text of a file's stream did.
use Rattle.std.specs.Prelude.{◌≡◌, ℕ, List, [], ◌∷◌, Option, Some, Result, Err}
use Rattle.must_base.specs.Views.{SourceView, SinkView}
use Rattle.must_format.specs.declared.fault.StreamFault.TheVariants as fault
use Rattle.must_tree.specs.Told.{HasFailed}
use Rattle.must_tools.specs.declared.fault.DumpFault.{DumpFault}
use Rattle.must_tools.specs.declared.fault.DumpFault.TheVariants as dump_fault
use Rattle.must_tools.specs.Reading.{IsLeftOf, Answers, Puts}

-- A part that wasn't read shows so much of its file, where its bytes are told, and the output so much, when its stream was read
-- and its text was put.
pub record Dumping (told : Option (List ℕ)) (part : SourceView) (old new : SinkView) (result : Result (Unit {0}) DumpFault) : Type 0 where
  pub answers : (bytes : List ℕ) → told ≡ Some bytes → Answers bytes part.left old new result
  pub puts : Puts old new result
  pub tied : (bytes : List ℕ) → told ≡ Some bytes → IsLeftOf bytes part.left
  pub read : result ≡ Err (dump_fault.Stream fault.Read) → HasFailed part

-- the one part that is bound was read so
pub record DumpsPart (told : Option (List ℕ)) (parts : List SourceView) (old new : SinkView) (result : Result (Unit {0}) DumpFault) : Type 0 where
  pub part : SourceView
  pub parts_is : parts ≡ part ∷ []
  pub dumping : Dumping told part old new result
