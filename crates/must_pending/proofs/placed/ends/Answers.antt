use Rattle.std.proofs.Common.{◌≡◌, false, arith, ℕ, ◌-◌, ◌<◌, length, get_or, pos, to_z, of_z}
use Rattle.std.specs.Prelude.{◌==◌}
use Rattle.std.specs.Int.{w128}
use Rattle.std.proofs.lemmas.Int.{ints}
use Rattle.std.proofs.lemmas.Bool.Decides.{nat_tests}
use Rattle.must_span.specs.declared.ranges.AddressRange.{AddressRange}
use Rattle.must_pending.proofs.GroupLaws.{ends_are}
use Rattle.must_pending.proofs.placed.ends.Goals as goal

abbrev past : AddressRange
past = record { low = pos 0; high = pos 0 }

some : (n : ℕ) → false ≡ (n == 0) → 0 < n
some n h = grind (arith, nat_tests)

pub returns : goal.returns
returns c =
    let rs = c.args.ranges.now in
    let k = length rs - 1 in
    let n = some (length rs) c.if-is_empty.ensures in
    let low : to_z w128 (of_z w128 (get_or rs 0 past).low) ≡ (get_or rs 0 past).low = omega (arith, ints) in
    let high : to_z w128 (of_z w128 (get_or rs k past).high) ≡ (get_or rs k past).high = omega (arith, ints) in
    ends_are rs k past past _ _ (omega (arith, n)) c.requires low high
