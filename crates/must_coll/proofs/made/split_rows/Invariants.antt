use Rattle.std.proofs.Common.{◌≡◌, ◌++◌, List, drop}
use Rattle.std.specs.Option.{option_map}
use Rattle.must_group.specs.declared.splits.SplitRow.{SplitRow}
use Rattle.must_coll.specs.Made.{split_rows}
use Rattle.must_coll.proofs.made.split_rows.Given as goal

-- the rows so far, and those of the other members, are those of all
abbrev pub invariant-loop-i : goal.invariant-loop-i
invariant-loop-i l = option_map (λ (rest : List SplitRow). l.rows.items ++ rest) (split_rows (drop l.i l.members) (drop l.i l.calls)) ≡ split_rows l.members l.calls
