use Rattle.std.proofs.Common.{sym, ap, ◌+◌, List, ℕ, length, arith}
use Rattle.must_format.specs.FoundLaws.{payload_at}
use Rattle.must_codec.proofs.arrival.length_of.Goals as goal

pub returns-clause-record : goal.returns-clause-record
returns-clause-record c = ap (λ (text : List ℕ). 6 + length text) (sym (payload_at c.args.kind c.args.returned c.args.payload.now (λ i. omega (arith, c.type_inv.payload i)) c.requires.good))
