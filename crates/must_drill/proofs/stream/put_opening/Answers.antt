use Rattle.std.proofs.Common.{sym, subst}
use Rattle.must_format.specs.Spelling.{IsSpellable}
use Rattle.must_drill.proofs.Fits.{init_fits, split_fits, pair_fits, commit_fits}
use Rattle.must_drill.proofs.stream.put_opening.Goals as goal

pub put_call-requires : goal.put_call-requires
put_call-requires c = subst IsSpellable (sym c.done.ensures) init_fits

pub put_call-requires-2 : goal.put_call-requires-2
put_call-requires-2 c = subst IsSpellable (sym c.in_ok-split.ensures) (split_fits c.args.ranks c.args.rank c.requires.ranks)

pub put_call-requires-3 : goal.put_call-requires-3
put_call-requires-3 c = subst IsSpellable (sym c.in_ok-pair.ensures) pair_fits

pub put_call-requires-4 : goal.put_call-requires-4
put_call-requires-4 c = subst IsSpellable (sym c.done-2.ensures) commit_fits
