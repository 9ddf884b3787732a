use Rattle.std.proofs.Common.{◌≡◌, map, take}
use Rattle.std.specs.Option.{option_map}
use Rattle.must_call.specs.Arguments.{seen}
use Rattle.must_rules.specs.Significant.{first_told}
use Rattle.must_args.specs.Settings.{has_sense}
use Rattle.must_items.specs.Moved.{counts_in, type_in, where_significant}
use Rattle.must_items.specs.Seen.{counts_seen}
use Rattle.must_items.proofs.moved.side_moved.Given as goal

abbrev pub invariant-loop-argument : goal.invariant-loop-argument
invariant-loop-argument l = record {
  moved : option_map counts_seen l.moved ≡ first_told (where_significant (has_sense l.setting) (counts_in l.side)) (map seen (take l.argument-index l.arguments));
  dtype : l.dtype ≡ first_told (where_significant (has_sense l.setting) (type_in l.side)) (map seen (take l.argument-index l.arguments));
}
