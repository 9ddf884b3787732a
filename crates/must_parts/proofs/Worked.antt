-- Worked calls: their parts, and what overlaps in them.
use Rattle.std.proofs.Common.{refl}
use Rattle.std.specs.Prelude.{◌≡◌, ℕ, ℤ, pos, true, false, [], ◌∷◌, Option, Some, None}
use Rattle.must_call.specs.declared.basic.Basic.TheVariants.{Int}
use Rattle.must_call.specs.declared.life.Life.TheVariants.{Live}
use Rattle.must_call.specs.declared.items.Amount.{Amount}
use Rattle.must_call.specs.declared.body.Body.TheVariants.{Point, Collective}
use Rattle.must_call.specs.declared.point.Point.TheVariants.{Send, Sendrecv}
use Rattle.must_call.specs.declared.collective.Collective.TheVariants.{Bcast, Gather, Allgatherv, ReduceScatter}
use Rattle.must_type.specs.Maps.{block, lower, upper, extent}
use Rattle.must_type.specs.Tree.{TypeTree, Elementary}
use Rattle.must_pending.specs.declared.access.Access.TheVariants.{Reads, Writes}
use Rattle.must_rules.specs.Facts.{Facts}
use Rattle.must_rules.specs.Parts.{Block, parts_of, entries_of}
use Rattle.must_rules.specs.Overlaps.{least_shared, overlap_between}

facts : Facts
facts = record { tag_ub = pos 32767; life = λ class n. Live 0; committed = λ n. true; comm = λ n. Some (record { members = 0 ∷ 1 ∷ 2 ∷ []; position = 1 }); group = λ n. None }

types : ℕ → Option TypeTree
types n = Some (Elementary Int)

block_at : ℤ → ℕ → Block
block_at a c = record { address = a; count = c }

amount : ℤ → ℤ → Amount
amount c d = record { count = c; disp = d }

sent : parts_of facts types (Point (Send 4096 (pos 2) 7 (pos 0) (pos 0) 1)) ≡ record { number = 0; access = Reads; datatype = Elementary Int; blocks = block_at (pos 4096) 2 ∷ [] } ∷ []
unfolding parts_of facts types block_at amount
sent = refl

swapped : parts_of facts types (Point (Sendrecv 4096 (pos 2) 7 (pos 0) (pos 0) 8192 (pos 3) 7 (pos 0) (pos 0) 1 None))
    ≡ record { number = 0; access = Reads; datatype = Elementary Int; blocks = block_at (pos 4096) 2 ∷ [] } ∷ record { number = 1; access = Writes; datatype = Elementary Int; blocks = block_at (pos 8192) 3 ∷ [] } ∷ []
unfolding parts_of facts types block_at amount
swapped = refl

bcast : parts_of facts types (Collective (Bcast 4096 (pos 2) 7 (pos 0) 1)) ≡ record { number = 0; access = Writes; datatype = Elementary Int; blocks = block_at (pos 4096) 2 ∷ [] } ∷ []
unfolding parts_of facts types block_at amount
bcast = refl

rooted : parts_of facts types (Collective (Bcast 4096 (pos 2) 7 (pos 1) 1)) ≡ record { number = 0; access = Reads; datatype = Elementary Int; blocks = block_at (pos 4096) 2 ∷ [] } ∷ []
unfolding parts_of facts types block_at amount
rooted = refl

gather : parts_of facts types (Collective (Gather false 4096 (pos 2) 7 8192 (pos 2) 7 (pos 1) 1)) ≡ record { number = 0; access = Reads; datatype = Elementary Int; blocks = block_at (pos 4096) 2 ∷ [] } ∷ record { number = 1; access = Writes; datatype = Elementary Int; blocks = block_at (pos 8192) 6 ∷ [] } ∷ []
unfolding parts_of facts types block_at amount
gather = refl

beside : parts_of facts types (Collective (Gather true 4096 (pos 2) 7 8192 (pos 2) 7 (pos 0) 1)) ≡ record { number = 0; access = Reads; datatype = Elementary Int; blocks = block_at (pos 4096) 2 ∷ [] } ∷ []
unfolding parts_of facts types block_at amount
beside = refl

by_member : parts_of facts types (Collective (Allgatherv true 4096 (pos 2) 7 8192 (amount (pos 1) (pos 0) ∷ amount (pos 2) (pos 3) ∷ []) 7 1)) ≡ record { number = 1; access = Writes; datatype = Elementary Int; blocks = block_at (pos 8192) 1 ∷ block_at (pos 8204) 2 ∷ [] } ∷ []
unfolding parts_of facts types block_at amount lower upper extent
by_member = refl

scattered : parts_of facts types (Collective (ReduceScatter false 4096 8192 (pos 1 ∷ pos 2 ∷ pos 4 ∷ pos 8 ∷ []) 7 1 1)) ≡ record { number = 0; access = Reads; datatype = Elementary Int; blocks = block_at (pos 4096) 7 ∷ [] } ∷ record { number = 1; access = Writes; datatype = Elementary Int; blocks = block_at (pos 8192) 2 ∷ [] } ∷ []
unfolding parts_of facts types block_at amount
scattered = refl

in_place : parts_of facts types (Collective (ReduceScatter true 4096 8192 (pos 1 ∷ pos 2 ∷ []) 7 1 1)) ≡ record { number = 1; access = Writes; datatype = Elementary Int; blocks = block_at (pos 8192) 3 ∷ [] } ∷ []
unfolding parts_of facts types block_at amount
in_place = refl

shared : least_shared (entries_of (record { number = 0; access = Writes; datatype = Elementary Int; blocks = block_at (pos 4096) 2 ∷ [] })) (entries_of (record { number = 0; access = Reads; datatype = Elementary Int; blocks = block_at (pos 4100) 2 ∷ [] })) ≡ Some (pos 4100)
unfolding block_at block lower upper extent
shared = refl

twice : overlap_between (parts_of facts types (Point (Sendrecv 4096 (pos 2) 7 (pos 0) (pos 0) 4100 (pos 3) 7 (pos 0) (pos 0) 1 None))) 1 ≡ Some (None, pos 4100)
unfolding parts_of facts types overlap_between block lower upper extent
twice = refl
