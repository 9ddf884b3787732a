use Rattle.std.proofs.Common.{rules}
use Rattle.std.proofs.Common.{◌≡◌}
use Rattle.std.specs.Ordering.{nat_cmp}
use Rattle.std.specs.BTreeMap.{get}
use Rattle.must_hold.proofs.Needs.{number_is}
use Rattle.must_hold.proofs.messages.Messages.under_way.Goals as goal

pub returns : goal.returns
returns c =
    let found : get nat_cmp c.args.self.now.table.numbers c.args.request ≡ c.copied.result = search rules in
    λ r calls k numbered. number_is r calls c.args.self.now.table c.args.request c.copied.result numbered k.holds found
