-- The rows of a whole wave of one kind.
use Rattle.std.specs.Prelude.{List, ◌⊎◌}
use Rattle.must_find.specs.declared.finding.Finding.{Finding}
use Rattle.must_coll.specs.declared.item.WaveItem.{WaveItem}
use Rattle.must_coll.specs.Agreement.{IsAgreementRow}
use Rattle.must_coll.specs.Amounts.{IsAmountRow}
use Rattle.must_coll.specs.Made.{IsMadeRow}
use Rattle.must_coll.specs.Created.{IsCreatedRow}

abbrev pub IsDutyRow : List WaveItem → Finding → Type 0
IsDutyRow calls f = IsAgreementRow calls f ⊎ (IsAmountRow calls f ⊎ (IsMadeRow calls f ⊎ IsCreatedRow calls f))
