-- Numbers of elements as the code has them.
use Rattle.std.specs.Prelude.{ℤ, List, [], ◌∷◌, map}
use Rattle.must_rules.specs.ArgumentRules.{amount_count}
use Rattle.must_items.specs.declared.moved.Moved.{Moved}
use Rattle.must_items.specs.declared.moved.Moved.TheVariants.{Alike, ByMember, Counts}

abbrev pub counts_seen : Moved → List ℤ
counts_seen (Alike count) = count ∷ []
counts_seen (ByMember amounts) = map amount_count amounts.now
counts_seen (Counts counts) = counts.now
