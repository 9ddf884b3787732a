use Rattle.std.proofs.Common.{sym, subst}
use Rattle.must_format.specs.Spelling.{IsSpellable}
use Rattle.must_drill.proofs.Fits.{type_free_fits, comm_free_fits, finalize_fits}
use Rattle.must_drill.proofs.stream.put_closing.Goals as goal

pub put_call-requires : goal.put_call-requires
put_call-requires c = subst IsSpellable (sym c.done.ensures) type_free_fits

pub put_call-requires-2 : goal.put_call-requires-2
put_call-requires-2 c = subst IsSpellable (sym c.done-2.ensures) comm_free_fits

pub put_call-requires-3 : goal.put_call-requires-3
put_call-requires-3 c = subst IsSpellable (sym c.done-3.ensures) finalize_fits
