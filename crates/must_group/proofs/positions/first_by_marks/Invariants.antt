use Rattle.std.proofs.Common.{◌≡◌, ℕ, ◌<◌, false, length, get_or, take, None, pos}
use Rattle.std.specs.Prelude.{find}
use mir.Syntax.{w32}
use mir.Val.{SFits}
use Rattle.std.specs.Ordering.{int_eq}
use Rattle.std.specs.Set.{is_member}
use Rattle.must_group.specs.Groups.{is_bad_at, below}
use Rattle.must_group.proofs.positions.first_by_marks.Given as goal

abbrev pub invariant-loop-place : goal.invariant-loop-place
invariant-loop-place l = record {
  none : find (is_bad_at l.members l.listed) (below l.place) ≡ None;
  small : (k : ℕ) → k < l.place → SFits w32 (get_or l.listed k (pos 0));
  long : length l.seen ≡ 1024;
  marks : (k : ℕ) → k < length l.seen → get_or l.seen k false ≡ is_member int_eq (take l.place l.listed) (pos k);
}
