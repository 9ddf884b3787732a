use Rattle.std.proofs.Common.{◌≡◌, map, take}
use Rattle.must_call.specs.Arguments.{seen}
use Rattle.must_rules.specs.Significant.{first_told, comm_in, root_in, in_place_in}
use Rattle.must_rules.specs.Breaches.{sends}
use Rattle.must_args.proofs.setting.look_at.Given as goal

abbrev pub invariant-loop-argument : goal.invariant-loop-argument
invariant-loop-argument l = record {
  comm : l.comm ≡ first_told comm_in (map seen (take l.argument-index l.arguments));
  root : l.root ≡ first_told root_in (map seen (take l.argument-index l.arguments));
  in_place : l.in_place ≡ first_told in_place_in (map seen (take l.argument-index l.arguments));
  sends : l.sends ≡ sends (map seen (take l.argument-index l.arguments));
}
