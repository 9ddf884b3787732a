-- The calls of a generated run (docs/DRILL.md).
use Rattle.std.specs.Prelude.{ℕ, zero, suc, ◌+◌, ◌%◌, ◌==◌, pos, true, false, List, [], ◌∷◌, ◌++◌, filter, Some}
use Rattle.std.specs.List.{range_with_len}
use Rattle.must_call.specs.declared.constants.TheConstants.{COMM_WORLD, ANY_SOURCE, ANY_TAG}
use Rattle.must_call.specs.declared.status.Status3.{Status3}
use Rattle.must_call.specs.declared.items.StructBlock.{StructBlock}
use Rattle.must_call.specs.declared.body.Body.{Body}
use Rattle.must_call.specs.declared.body.Body.TheVariants.{Frame, Point, Finish, Derive, Object, Collective}
use Rattle.must_call.specs.declared.frame.Frame.TheVariants.{Init, Finalize}
use Rattle.must_call.specs.declared.point.Point.TheVariants.{Isend, Irecv}
use Rattle.must_call.specs.declared.finish.Finish.TheVariants.{Waitall}
use Rattle.must_call.specs.declared.derive.Derive.TheVariants.{TypeStruct, TypeCommit, TypeFree}
use Rattle.must_call.specs.declared.object.Object.TheVariants.{CommSplit, CommFree}
use Rattle.must_call.specs.declared.collective.Collective.TheVariants.{Allreduce}
use Rattle.must_call.specs.declared.call.Call.{Call}
use Rattle.must_drill.specs.declared.round.Round.{Round}
use Rattle.must_drill.specs.declared.handles.TheConstants.{HALF, PAIR, CHAR, INT, SUM}
use Rattle.must_drill.specs.Numbers.{round_at}

-- each call returned
abbrev pub done : Body → Call
done body = record { returned = true; body = body }

-- ---- before the rounds

-- the ranks of a rank's parity, rising
abbrev pub mates_of : ℕ → ℕ → List ℕ
mates_of ranks rank = filter (λ (m : ℕ). m % 2 == rank % 2) (range_with_len 0 ranks)

-- the world is split by parity
abbrev pub split : ℕ → ℕ → Call
split ranks rank = done (Object (CommSplit COMM_WORLD (pos (rank % 2)) (pos 0) (Some (record { made = HALF; members = mates_of ranks rank }))))

-- an int, and a char behind it
abbrev pub blocks : List StructBlock
blocks = record { block = pos 1; disp = pos 0; old = INT } ∷ record { block = pos 1; disp = pos 4; old = CHAR } ∷ []

abbrev pub pair : Call
pair = done (Derive (TypeStruct blocks (Some PAIR)))

abbrev pub opening : ℕ → ℕ → List Call
opening ranks rank = done (Frame Init) ∷ split ranks rank ∷ pair ∷ done (Derive (TypeCommit PAIR)) ∷ []

-- ---- a round

abbrev pub receive : ℕ → ℕ → ℕ → ℕ → ℕ → Call
receive buf count source tag request = done (Point (Irecv buf (pos count) PAIR (pos source) (pos tag) COMM_WORLD (Some request)))

abbrev pub send : ℕ → ℕ → ℕ → ℕ → ℕ → Call
send buf count dest tag request = done (Point (Isend buf (pos count) PAIR (pos dest) (pos tag) COMM_WORLD (Some request)))

abbrev pub status : ℕ → ℕ → Status3
status source tag = record { source = pos source; tag = pos tag; cancelled = false }

-- the status of a request that received nothing (MPI 3.1 section 3.7.3)
abbrev pub empty : Status3
empty = record { source = ANY_SOURCE; tag = ANY_TAG; cancelled = false }

abbrev pub requests_from : ℕ → List ℕ
requests_from first = first ∷ (first + 1) ∷ (first + 2) ∷ (first + 3) ∷ []

abbrev pub statuses : ℕ → ℕ → List Status3
statuses left right = status left 1 ∷ status right 2 ∷ empty ∷ empty ∷ []

abbrev pub wait : ℕ → ℕ → ℕ → Call
wait first left right = done (Finish (Waitall (requests_from first) (Some (statuses left right))))

abbrev pub sum : ℕ → Call
sum count = done (Collective (Allreduce false 327680 393216 (pos count) INT SUM HALF))

-- a message goes round to the left, and one to the right; then the ranks of one parity add
abbrev pub round_calls : Round → List Call
round_calls r = receive 65536 r.count r.left 1 r.first ∷ receive 131072 r.count r.right 2 (r.first + 1) ∷ send 196608 r.count r.left 2 (r.first + 2)
    ∷ send 262144 r.sent r.right 1 (r.first + 3) ∷ wait r.first r.left r.right ∷ sum r.count ∷ []

-- the calls of the first so many rounds
abbrev pub rounds_of : ℕ → ℕ → ℕ → ℕ → List Call
rounds_of ranks number rank zero = []
rounds_of ranks number rank (suc m) = rounds_of ranks number rank m ++ round_calls (round_at ranks number rank m)

-- ---- behind the rounds

abbrev pub closing : List Call
closing = done (Derive (TypeFree PAIR)) ∷ done (Object (CommFree HALF)) ∷ done (Frame Finalize) ∷ []

-- all calls of a rank
abbrev pub calls_of : ℕ → ℕ → ℕ → ℕ → List Call
calls_of ranks rounds number rank = opening ranks rank ++ (rounds_of ranks number rank rounds ++ closing)
