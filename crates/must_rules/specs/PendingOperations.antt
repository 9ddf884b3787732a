-- Pending operations of a rank, rule T3 and the limit on their weights (MPI 3.1 sections 3.7.2, 3.7.3, 3.9 and 5.12; docs/RULES.md,
-- "Pending operations"). An operation is pending from the call that begins it to the call that completes or frees its request.
use Rattle.std.specs.Prelude.{ℕ, suc, ◌+◌, ◌/◌, ◌^◌, ◌==◌, nat_lt, ℤ, int_lt, Bool, true, false, not, ◌&&◌, ◌||◌, if◌then◌else◌, List, [], ◌∷◌, ◌++◌, map, filter, length, reverse, take, sum_by, Option, Some, None, option_map, is_none, slice_get}
use Rattle.must_call.specs.declared.class.Class.{Class}
use Rattle.must_call.specs.declared.class.Class.TheVariants.{Request}
use Rattle.must_call.specs.declared.life.Life.{Life}
use Rattle.must_call.specs.declared.life.Life.TheVariants.{Live}
use Rattle.must_call.specs.declared.call.Call.{Call}
use Rattle.must_call.specs.Handles.{ClassedHandle}
use Rattle.must_format.specs.declared.cause.Limit.{Limit}
use Rattle.must_format.specs.declared.cause.Limit.TheVariants as limit
use Rattle.must_type.specs.Maps.{Entry}
use Rattle.must_pending.specs.declared.access.Access.{Access}
use Rattle.must_pending.specs.declared.access.Access.TheVariants.{Reads, Writes}
use Rattle.must_rules.specs.Answer.{Answer}
use Rattle.must_rules.specs.Rank.{Rank, seen}
use Rattle.must_rules.specs.Making.{same_class, made_by, is_persistent_kind, persists, started_of}
use Rattle.must_rules.specs.Lives.{life, ends, is_kept}
use Rattle.must_rules.specs.Starts.{start_at}
use Rattle.must_rules.specs.Known.{facts_of, clear_behind}
use Rattle.must_rules.specs.Types.{type_of}
use Rattle.must_rules.specs.Parts.{Part, parts_of, numbered, entries_of, part_weight}
use Rattle.must_rules.specs.Overlaps.{least_shared}

-- an operation: the call that began it, its request, and what it does with which buffer
pub record Operation : Type 0 where
  pub call : ℕ
  pub request : ℕ
  pub part : Part

-- the usable parts of a call behind the earlier ones
unfoldable pub parts_behind : Rank → (earlier : List Call) → Call → List Part
parts_behind r earlier call = parts_of (facts_of r earlier) (type_of (clear_behind r) earlier) call.body

-- ---- operations that a call begins with a request of its own

abbrev pub request_in : Option ClassedHandle → Option ℕ
request_in None = None
request_in (Some h) = if same_class h.0 Request then Some h.1 else None

-- the request of the operations that a call begins at once: the one that it makes, where it isn't a persistent one
abbrev pub begun_request : Call → Option ℕ
begun_request call = if persists call then None else request_in (made_by call)

abbrev pub operation : (call request : ℕ) → Part → Operation
operation call request part = record { call = call; request = request; part = part }

-- each of these parts as an operation
abbrev pub begun_with : (call : ℕ) → Option ℕ → List Part → List Operation
begun_with call None parts = []
begun_with call (Some request) parts = map (operation call request) parts

-- ---- operations that a call starts for persistent requests

-- the call is clear, and the request is live, persistent, and not active at this index
abbrev pub starts_at : Rank → (earlier : List Call) → Call → (index request : ℕ) → Bool
starts_at r earlier call index request =
    clear_behind r earlier call && (is_kept earlier Request request && is_none (start_at (clear_behind r) earlier call index request))

abbrev pub part_by : Rank → (before : List Call) → Option Call → Option Part
part_by r before None = None
part_by r before (Some maker) = numbered 0 (parts_behind r before maker)

-- the part of the call that made a live request, where it was usable there
abbrev pub part_made : Rank → List Call → Life → Option Part
part_made r calls (Live made) = part_by r (take made calls) (slice_get calls made)
part_made r calls _ = None

-- what a call starts for the request at an index of its list
unfoldable pub part_started : Rank → (earlier : List Call) → Call → (index request : ℕ) → Option Part
part_started r earlier call index request = if starts_at r earlier call index request then part_made r earlier (life earlier Request request) else None

abbrev pub with_started : (call request : ℕ) → Option Part → List Operation → List Operation
with_started call request None others = others
with_started call request (Some part) others = operation call request part ∷ others

-- what a call starts for these requests, of which the first has this index
abbrev pub started_from : Rank → (earlier : List Call) → Call → (index : ℕ) → (requests : List ℕ) → List Operation
started_from r earlier call index [] = []
started_from r earlier call index (request ∷ requests) =
    with_started (length earlier) request (part_started r earlier call index request) (started_from r earlier call (suc index) requests)

-- what a call starts at the lower indices
abbrev pub started_below : Rank → (earlier : List Call) → Call → (index : ℕ) → List Operation
started_below r earlier call index = started_from r earlier call 0 (take index (started_of call.body))

abbrev pub started : Rank → (earlier : List Call) → Call → List Operation
started r earlier call = started_from r earlier call 0 (started_of call.body)

-- ---- pending

-- all that a call begins
abbrev pub begun : Rank → (earlier : List Call) → Call → List Operation
begun r earlier call = begun_with (length earlier) (begun_request call) (parts_behind r earlier call) ++ started r earlier call

-- the operations whose requests a call neither completes nor frees
abbrev pub left_by : Call → List Operation → List Operation
left_by call ops = filter (λ o. not (ends false Request o.request call)) ops

-- the same of calls of which the last stands first
abbrev pub pending_by : Rank → List Call → List Operation
pending_by r [] = []
pending_by r (last ∷ before) = left_by last (pending_by r before) ++ begun r (reverse before) last

-- the operations that are pending after these calls, in the order in which they were begun
unfoldable pub pending : Rank → List Call → List Operation
pending r calls = pending_by r (reverse calls)

-- ---- T3, a buffer of a pending operation

-- two accesses of a byte clash where one of them writes it
abbrev pub disagree : Access → Access → Bool
disagree Reads Reads = false
disagree Reads Writes = true
disagree Writes _ = true

-- the call that began an operation, and the least address at which a part clashes with it
abbrev pub clash_with : Part → Operation → Option (ℕ × ℤ)
clash_with p o = if disagree o.part.access p.access then option_map (λ address. (o.call, address)) (least_shared (entries_of o.part) (entries_of p)) else None

-- of an earlier call, or of the same at a lower address
abbrev pub is_before : ℕ × ℤ → ℕ × ℤ → Bool
is_before p q = nat_lt p.0 q.0 || ((p.0 == q.0) && int_lt p.1 q.1)

abbrev pub earlier_of : Option (ℕ × ℤ) → Option (ℕ × ℤ) → Option (ℕ × ℤ)
earlier_of None q = q
earlier_of (Some p) None = Some p
earlier_of (Some p) (Some q) = if is_before q p then Some q else Some p

-- the earliest call that began an operation with which a part clashes, and the least address at which one of that call does
abbrev pub first_clash : List Operation → Part → Option (ℕ × ℤ)
first_clash [] p = None
first_clash (o ∷ ops) p = earlier_of (clash_with p o) (first_clash ops p)

abbrev pub clash_answer : (rank : ℕ) → Option (ℕ × ℤ) → Option Answer
clash_answer rank None = None
clash_answer rank (Some clash) = Some (seen rank clash.0, clash.1)

abbrev pub clash_of : (rank : ℕ) → List Operation → Option Part → Option Answer
clash_of rank ops None = None
clash_of rank ops (Some p) = clash_answer rank (first_clash ops p)

abbrev pub started_at : Rank → (earlier : List Call) → Call → (index : ℕ) → Option ℕ → Option Part
started_at r earlier call index None = None
started_at r earlier call index (Some request) = part_started r earlier call index request

-- T3 at a part. A call that starts requests has a part for each index, beside which what it started at lower indices is pending as well. A
-- call that makes a persistent request begins nothing.
unfoldable pub pending_clash : Rank → (earlier : List Call) → Call → (part : ℕ) → Option Answer
pending_clash r earlier call part =
    if is_persistent_kind call.body
    then clash_of r.rank (pending r earlier ++ started_below r earlier call part) (started_at r earlier call part (slice_get (started_of call.body) part))
    else clash_of r.rank (pending r earlier) (numbered part (parts_behind r earlier call))

-- ---- the limit

abbrev pub operations_weight : List Operation → ℕ
operations_weight ops = sum_by (λ o. part_weight o.part) ops

-- the weights of what is pending, of the call's usable parts, and of what it starts
abbrev pub pending_weight : Rank → (earlier : List Call) → Call → ℕ
pending_weight r earlier call = operations_weight (pending r earlier) + sum_by part_weight (parts_behind r earlier call) + operations_weight (started r earlier call)

-- the greatest such weight at a rank of a run of so many
abbrev pub most_pending : (size : ℕ) → ℕ
most_pending size = 2 ^ 26 / size

unfoldable pub pending_limit_at : Rank → (earlier : List Call) → Call → Option Limit
pending_limit_at r earlier call = if nat_lt (most_pending r.size) (pending_weight r earlier call) then Some limit.PendingWeight else None
