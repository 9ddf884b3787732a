use Rattle.std.proofs.Common.{◌≡◌, ◌<◌, length, take, nat_eq}
use Rattle.std.specs.List.{All, IsDistinct}
use Rattle.must_local.proofs.Marking.{AreMarked}
use Rattle.must_local.proofs.members.are_members.Given as goal

abbrev pub invariant-loop-member : goal.invariant-loop-member
invariant-loop-member l = record {
  long : length l.marks ≡ 1024;
  marked : AreMarked l.marks l.members l.member-index;
  small : All (λ member. member < 1024) (take l.member-index l.members);
  distinct : IsDistinct nat_eq (take l.member-index l.members);
}
