-- Reductions by an operation that MPI names on a type that it doesn't take (docs/RULES.md, C6; MPI 3.1 sections 5.9.2 and 5.9.4).
use Rattle.std.specs.Prelude.{ℕ, nat_le, pos, Bool, not, ◌&&◌, ◌||◌, ◌==◌, if◌then◌else◌, Option, Some, None, is_some}
use Rattle.must_call.specs.declared.class.Class.TheVariants.{Operation}
use Rattle.must_call.specs.declared.collective.Collective.TheVariants.{Reduce, Allreduce, ReduceScatter, ReduceScatterBlock, Scan, Exscan}
use Rattle.must_call.specs.declared.started.Started.TheVariants.{Ireduce, Iallreduce}
use Rattle.must_call.specs.declared.body.Body.{Body}
use Rattle.must_call.specs.declared.body.Body.TheVariants.{Collective, Started}
use Rattle.must_rules.specs.Answer.{Answer, alone}
use Rattle.must_rules.specs.Facts.{Facts}
use Rattle.must_rules.specs.Lives.{is_predefined}
use Rattle.must_rules.specs.Clear.{is_clear}

-- ---- which basic types an operation takes

abbrev pub is_between : ℕ → ℕ → ℕ → Bool
is_between low high n = nat_le low n && nat_le n high

-- MPI_SIGNED_CHAR and MPI_UNSIGNED_CHAR, those from MPI_SHORT to MPI_UNSIGNED_LONG_LONG, and those from MPI_INT8_T to MPI_UINT64_T
abbrev pub is_integer : ℕ → Bool
is_integer dtype = is_between 2 3 dtype || (is_between 5 12 dtype || is_between 18 25 dtype)

-- MPI_FLOAT, MPI_DOUBLE and MPI_LONG_DOUBLE
abbrev pub is_floating : ℕ → Bool
is_floating dtype = is_between 13 15 dtype

-- MPI_MAX, MPI_MIN, MPI_SUM and MPI_PROD
abbrev pub is_arithmetic : ℕ → Bool
is_arithmetic op = is_between 1 4 op

-- MPI_LAND, MPI_LOR and MPI_LXOR
abbrev pub is_logical : ℕ → Bool
is_logical op = op == 5 || (op == 7 || op == 9)

-- MPI_BAND, MPI_BOR and MPI_BXOR
abbrev pub is_bitwise : ℕ → Bool
is_bitwise op = op == 6 || (op == 8 || op == 10)

-- MPI_MAXLOC and MPI_MINLOC
abbrev pub is_of_places : ℕ → Bool
is_of_places op = is_between 11 12 op

-- an operation that MPI names takes a type: integers but for the last two, with floating numbers, MPI_C_BOOL or MPI_BYTE, and the
-- last two a value with a place. It takes no derived type.
abbrev pub takes : (op dtype : ℕ) → Bool
takes op dtype =
    (is_arithmetic op && (is_integer dtype || is_floating dtype))
    || ((is_logical op && (is_integer dtype || dtype == 17))
    || ((is_bitwise op && (is_integer dtype || dtype == 4))
    || (is_of_places op && is_between 26 30 dtype)))

-- ---- reductions

-- the operation and the type of a reduction, where they are significant: a rooted one on a communicator that isn't live and sound has none
abbrev pub reduced : Facts → Body → Option (ℕ × ℕ)
reduced facts (Collective (Reduce in_place sbuf rbuf count dtype op root comm)) = if is_some (facts.comm comm) then Some (op, dtype) else None
reduced facts (Collective (Allreduce in_place sbuf rbuf count dtype op comm)) = Some (op, dtype)
reduced facts (Collective (ReduceScatter in_place sbuf rbuf counts dtype op comm)) = Some (op, dtype)
reduced facts (Collective (ReduceScatterBlock in_place sbuf rbuf count dtype op comm)) = Some (op, dtype)
reduced facts (Collective (Scan in_place sbuf rbuf count dtype op comm)) = Some (op, dtype)
reduced facts (Collective (Exscan in_place sbuf rbuf count dtype op comm)) = Some (op, dtype)
reduced facts (Started (Ireduce in_place sbuf rbuf count dtype op root comm request)) = if is_some (facts.comm comm) then Some (op, dtype) else None
reduced facts (Started (Iallreduce in_place sbuf rbuf count dtype op comm request)) = Some (op, dtype)
reduced facts _ = None

abbrev pub untaken : (is_sound : ℕ → Bool) → Option (ℕ × ℕ) → Option Answer
untaken is_sound None = None
untaken is_sound (Some p) = if is_predefined Operation p.0 && (is_sound p.1 && not (takes p.0 p.1)) then Some (alone (pos p.0)) else None

-- C6 at a clear call, with the operation
unfoldable pub wrong_operation : Facts → (is_sound : ℕ → Bool) → Body → Option Answer
wrong_operation facts is_sound b = if is_clear facts b then untaken is_sound (reduced facts b) else None
