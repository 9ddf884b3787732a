-- What a function adds to findings, said of what stands in them and of nothing of their order.
use Rattle.std.specs.Prelude.{◌⊎◌, ◌↔◌, List}
use Rattle.must_base.specs.Listing.{Has}
use Rattle.must_find.specs.declared.finding.Finding.{Finding}

-- the later list has what the earlier has, and what P tells
abbrev pub Adds : List Finding → List Finding → (Finding → Type 0) → Type 0
Adds old new P = (f : Finding) → Has new f ↔ (Has old f ⊎ P f)
