use Rattle.std.proofs.Common.{refl, sym, ◌∙◌, inl, inr}
use Rattle.std.proofs.lemmas.Bool.{cases_Bool, false≢true}
use Rattle.std.proofs.lemmas.Str.{IsUtf8-from_is_utf8, is_utf8-from_IsUtf8}
use Rattle.std.specs.Str.{is_utf8}
use Rattle.must_settings.proofs.read.read_document.Goals as goal

pub returns-in-Ok-clause-table : goal.returns-in-Ok-clause-table
returns-in-Ok-clause-table c = rw (is_utf8-from_IsUtf8 _ c.in-Ok.ensures.ok.0) c.in-Ok.ensures.ok.1

pub returns-in-Err-2-clause-refused : goal.returns-in-Err-2-clause-refused
returns-in-Err-2-clause-refused c = λ e. elim (cases_Bool (is_utf8 c.args.bytes.now)) [
  | inl good ↦ rw good (c.in-Err.ensures.refused (λ m. false≢true (sym c.if-is_memory.false ∙ c.is_memory.ensures.1 m)) (IsUtf8-from_is_utf8 _ good))
  | inr bad ↦ rw bad refl
]
