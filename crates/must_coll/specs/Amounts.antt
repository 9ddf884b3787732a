-- Which amounts of the calls of a wave must be the same (MPI 3.1, 5.4 to 5.11; docs/RULES.md, C4), for a whole wave of one
-- kind. A table tells for each way of exchange whose signatures are compared.
use Rattle.std.specs.Prelude.{ℕ, zero, suc, ◌+◌, pos, Bool, true, false, ◌&&◌, ◌==◌, List, [], ◌∷◌, Option, Some, None, length, slice_get, if◌then◌else◌}
use Rattle.std.specs.Option.{is_some}
use Rattle.must_call.specs.declared.kind.Kind.{Kind}
use Rattle.must_call.specs.declared.kind.Kind.TheVariants as kind
use Rattle.must_find.specs.declared.rule.Rule.TheVariants.{C4}
use Rattle.must_find.specs.declared.finding.Finding.{Finding}
use Rattle.must_sig.specs.Signatures.{Periods, expansion, difference}
use Rattle.must_coll.specs.declared.item.WaveItem.{WaveItem}
use Rattle.must_coll.specs.declared.exchange.Exchange.{Exchange}
use Rattle.must_coll.specs.declared.exchange.Exchange.TheVariants.{Nothing, Bcast, Gather, Gatherv, Scatter, Scatterv, Alltoall, Allgatherv, Alltoallv, Reduce, ReduceScatter}
use Rattle.must_coll.specs.Agreement.{has_root, first_counting, root_of}
use Rattle.must_coll.specs.Given.{GivenFrom, or_else}

-- how the calls of a kind exchange
abbrev pub exchange_of : Kind → Exchange
exchange_of kind.Bcast = Bcast
exchange_of kind.Ibcast = Bcast
exchange_of kind.Gather = Gather
exchange_of kind.Igather = Gather
exchange_of kind.Gatherv = Gatherv
exchange_of kind.Scatter = Scatter
exchange_of kind.Scatterv = Scatterv
exchange_of kind.Allgather = Alltoall
exchange_of kind.Iallgather = Alltoall
exchange_of kind.Alltoall = Alltoall
exchange_of kind.Ialltoall = Alltoall
exchange_of kind.Allgatherv = Allgatherv
exchange_of kind.Alltoallv = Alltoallv
exchange_of kind.Reduce = Reduce
exchange_of kind.Ireduce = Reduce
exchange_of kind.Allreduce = Reduce
exchange_of kind.Iallreduce = Reduce
exchange_of kind.ReduceScatterBlock = Reduce
exchange_of kind.Scan = Reduce
exchange_of kind.Exscan = Reduce
exchange_of kind.ReduceScatter = ReduceScatter
exchange_of _ = Nothing

-- the signature of the call at i that is compared with one of the call at j; the root's own part isn't compared in place
abbrev pub own : Exchange → (i j : ℕ) → WaveItem → Option Periods
own Bcast i j x = slice_get x.sends 0
own Gather i j x = if i == j && x.in_place then None else slice_get x.sends 0
own Gatherv i j x = if i == j && x.in_place then None else slice_get x.sends 0
own Scatter i j x = if i == j && x.in_place then None else slice_get x.recvs 0
own Scatterv i j x = if i == j && x.in_place then None else slice_get x.recvs 0
own Alltoall i j x = slice_get x.recvs 0
own Allgatherv i j x = slice_get x.recvs j
own Alltoallv i j x = slice_get x.recvs j
own Reduce i j x = slice_get x.sends 0
own _ i j x = None

-- the signature of the call at j that one of the call at i is compared with
abbrev pub other : Exchange → (i j : ℕ) → WaveItem → Option Periods
other Bcast i j y = slice_get y.sends 0
other Gather i j y = slice_get y.recvs 0
other Gatherv i j y = slice_get y.recvs i
other Scatter i j y = slice_get y.sends 0
other Scatterv i j y = slice_get y.sends i
other Alltoall i j y = if y.in_place then slice_get y.recvs 0 else slice_get y.sends 0
other Allgatherv i j y = if y.in_place then slice_get y.recvs j else slice_get y.sends 0
other Alltoallv i j y = if y.in_place then slice_get y.recvs i else slice_get y.sends i
other Reduce i j y = slice_get y.sends 0
other _ i j y = None

-- 1 where the own signature is of what is received
abbrev pub part_of : Exchange → ℕ
part_of Scatter = 1
part_of Scatterv = 1
part_of Alltoall = 1
part_of Allgatherv = 1
part_of Alltoallv = 1
part_of _ = 0

-- the first place where two signatures differ; none where one isn't there
abbrev pub differ : Option Periods → Option Periods → Option ℕ
differ (Some a) (Some b) = difference (expansion a) (expansion b)
differ _ _ = None

-- the first number that passes, of so many from j on
unfoldable pub first_number : (ℕ → Bool) → (j count : ℕ) → Option ℕ
first_number p j zero = None
first_number p j (suc count) = if p j then Some j else first_number p (j + 1) count

-- the first of n entries where two lists of signatures differ
abbrev pub entry : ℕ → List Periods → List Periods → Option ℕ
entry n xs ys = first_number (λ j. is_some (differ (slice_get xs j) (slice_get ys j))) 0 n

-- the first difference between the call at i and one at j, in a wave of n members
abbrev pub difference_between : Exchange → ℕ → (i j : ℕ) → WaveItem → WaveItem → Option ℕ
difference_between ReduceScatter n i j x y = entry n x.sends y.sends
difference_between e n i j x y = differ (own e i j x) (other e i j y)

-- C4 at a call x that is compared with y
abbrev pub amount_found : Exchange → WaveItem → WaveItem → Option ℕ → Option Finding
amount_found e x y None = None
amount_found e x y (Some v) = Some (record { rank = x.place.rank; call = x.place.call; rule = C4; part = part_of e; see = Some y.place; value = pos v })

abbrev pub pair_row : Exchange → ℕ → (i j : ℕ) → WaveItem → WaveItem → Option Finding
pair_row e n i j x y = if x.counts && y.counts then amount_found e x y (difference_between e n i j x y) else None

-- ---- the calls that a call is compared with

-- one call alone, at j
abbrev pub against : Exchange → ℕ → ℕ → Option WaveItem → ℕ → WaveItem → Option Finding
against e n j (Some y) i x = pair_row e n i j x y
against e n j None i x = None

-- each call, and the first of them that gives a finding is seen; the first of these calls is at j
abbrev pub first_against : Exchange → ℕ → ℕ → WaveItem → ℕ → List WaveItem → Option Finding
first_against e n i x j [] = None
first_against e n i x j (y ∷ ys) = or_else (pair_row e n i j x y) (first_against e n i x (j + 1) ys)

-- a call that counts has this root
abbrev pub is_root : ℕ → Option ℕ → Bool
is_root r (Some s) = r == s
is_root r None = false

abbrev pub shares_root : ℕ → ℕ → WaveItem → Bool
shares_root n r x = if x.counts then is_root r (root_of n x) else true

abbrev pub all_share : ℕ → ℕ → List WaveItem → Bool
all_share n r [] = true
all_share n r (x ∷ xs) = shares_root n r x && all_share n r xs

abbrev pub counts_there : Option WaveItem → Bool
counts_there (Some y) = y.counts
counts_there None = false

abbrev pub root_first : ℕ → Option WaveItem → Option ℕ
root_first n (Some x) = root_of n x
root_first n None = None

abbrev pub shared_root : ℕ → List WaveItem → Option ℕ → Option ℕ
shared_root n calls (Some r) = if all_share n r calls && counts_there (slice_get calls r) then Some r else None
shared_root n calls None = None

-- the root of all calls that count, where they have the same and the root's own call counts
abbrev pub common_root : List WaveItem → Option ℕ
common_root calls = shared_root (length calls) calls (root_first (length calls) (first_counting calls))

-- the calls are compared with the first that counts
abbrev pub is_reduction : Exchange → Bool
is_reduction Reduce = true
is_reduction ReduceScatter = true
is_reduction _ = false

abbrev pub is_free : Exchange → Bool
is_free Nothing = true
is_free _ = false

-- C4 at the call x at i, in a wave with this root: reductions are compared with the first call that counts, all others with
-- the root's
abbrev pub rooted_row : Exchange → List WaveItem → Option ℕ → ℕ → WaveItem → Option Finding
rooted_row e calls (Some r) i x = if is_reduction e then against e (length calls) 0 (first_counting calls) i x else against e (length calls) r (slice_get calls r) i x
rooted_row e calls None i x = None

-- C4 in a wave without a root: reductions are compared with the first call that counts, all others with each call
abbrev pub rootless_row : Exchange → List WaveItem → ℕ → WaveItem → Option Finding
rootless_row e calls i x =
    if is_free e then None
    else if is_reduction e then against e (length calls) 0 (first_counting calls) i x
    else first_against e (length calls) i x 0 calls

-- C4 in a wave with this first call
abbrev pub amount_row : Option WaveItem → List WaveItem → ℕ → WaveItem → Option Finding
amount_row (Some first) calls i x = if has_root first.kind then rooted_row (exchange_of first.kind) calls (common_root calls) i x else rootless_row (exchange_of first.kind) calls i x
amount_row None calls i x = None

-- the rows C4 of a wave
abbrev pub IsAmountRow : List WaveItem → Finding → Type 0
IsAmountRow calls f = GivenFrom (amount_row (slice_get calls 0) calls) 0 calls f
