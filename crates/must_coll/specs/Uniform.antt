-- Calls that send the same to each and receive the same from each.
use Rattle.std.specs.Prelude.{ℕ, Bool, true, false, ◌&&◌, Option}
use Rattle.std.specs.Option.{is_some}
use Rattle.must_find.specs.declared.finding.Finding.{Finding}
use Rattle.must_sig.specs.Signatures.{Periods}
use Rattle.must_coll.specs.declared.item.WaveItem.{WaveItem}
use Rattle.must_coll.specs.declared.exchange.Exchange.{Exchange}
use Rattle.must_coll.specs.declared.exchange.Exchange.TheVariants.{Alltoall}
use Rattle.must_coll.specs.Given.{or_else}
use Rattle.must_coll.specs.Amounts.{other, differ, pair_row}

abbrev pub is_uniform : Exchange → Bool
is_uniform Alltoall = true
is_uniform _ = false

-- what a call sends to each
abbrev pub sent : WaveItem → Option Periods
sent y = other Alltoall 0 0 y

-- the call counts and sends something
abbrev pub is_known : WaveItem → Bool
is_known y = y.counts && is_some (sent y)

-- the call counts and doesn't send the same as the first
abbrev pub is_unlike : WaveItem → WaveItem → Bool
is_unlike first y = y.counts && is_some (differ (sent first) (sent y))

-- the finding against the first, or else the one against the second
abbrev pub either_row : ℕ → WaveItem → WaveItem → WaveItem → Option Finding
either_row n first second x = or_else (pair_row Alltoall n 0 0 x first) (pair_row Alltoall n 0 0 x second)
