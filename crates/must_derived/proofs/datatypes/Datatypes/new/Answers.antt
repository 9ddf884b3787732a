use Rattle.std.proofs.Common.{ap}
use Rattle.must_type.specs.Table.{Types}
use Rattle.must_derived.proofs.First.{stands_first}
use Rattle.must_derived.proofs.datatypes.Datatypes.new.Goals as goal

pub returns-clause-stands : goal.returns-clause-stands
returns-clause-stands c = λ is_clear. stands_first is_clear _ c.args.most c.in_ok-table.ensures c.new-2.ensures

pub returns-clause-limit : goal.returns-clause-limit
returns-clause-limit c = ap (λ (t : Types). t.weight_limit) c.in_ok-table.ensures
