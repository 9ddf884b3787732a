use Rattle.std.proofs.Common.{◌≡◌, ℕ, ◌<◌, get_or, None, pos}
use Rattle.std.specs.Prelude.{find}
use mir.Syntax.{w32}
use mir.Val.{SFits}
use Rattle.must_group.specs.Groups.{is_bad_at, below}
use Rattle.must_group.proofs.positions.first_by_scan.Given as goal

abbrev pub invariant-loop-place : goal.invariant-loop-place
invariant-loop-place l = record {
  none : find (is_bad_at l.members l.listed) (below l.place) ≡ None;
  small : (k : ℕ) → k < l.place → SFits w32 (get_or l.listed k (pos 0));
}
