use Rattle.std.proofs.Common.{◌≡◌, ◌++◌, take, map}
use Rattle.must_entry.specs.declared.entry.Entry.TheVariants.{Row}
use Rattle.must_local.proofs.batch.push_rows.Given as goal

abbrev pub invariant-loop-row : goal.invariant-loop-row
invariant-loop-row l = l.entries.items ≡ l.fn.entries.items ++ map Row (take l.row-index l.rows)
