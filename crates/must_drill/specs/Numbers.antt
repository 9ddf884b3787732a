-- The numbers of a generated run (docs/DRILL.md).
use Rattle.std.specs.Prelude.{ℕ, zero, suc, ◌+◌, ◌-◌, ◌*◌, ◌/◌, ◌%◌, ◌^◌, ◌==◌, ◌&&◌, Bool, if◌then◌else◌}
use Rattle.must_drill.specs.declared.round.Round.{Round}

-- the state behind one step: a linear congruential generator of 64 bits
unfoldable pub next_state : ℕ → ℕ
next_state x = (x * 6364136223846793005 + 1442695040888963407) % 2 ^ 64

-- the state after so many steps from the run's number
abbrev pub state_at : ℕ → ℕ → ℕ
state_at number zero = number
state_at number (suc m) = next_state (state_at number m)

-- how many items the messages of a round have, 1 to 16
unfoldable pub count_in : ℕ → ℕ
count_in state = 1 + (state / 2 ^ 33) % 16

-- the neighbours of a rank in the ring of all ranks
abbrev pub left_of : ℕ → ℕ → ℕ
left_of ranks rank = (rank + ranks - 1) % ranks

abbrev pub right_of : ℕ → ℕ → ℕ
right_of ranks rank = (rank + 1) % ranks

-- rank 0 sends one item too many to the right in each tenth round
abbrev pub is_long : ℕ → ℕ → ℕ → Bool
is_long number rank m = rank == 0 && m % 10 == number % 10

abbrev pub sent_in : ℕ → ℕ → ℕ → ℕ → ℕ
sent_in number rank m count = if is_long number rank m then count + 1 else count

-- the round m of a rank, from 0, where the count is this; its four requests come behind those of the rounds before, from 66 on
unfoldable pub round_of : ℕ → ℕ → ℕ → ℕ → ℕ → Round
round_of ranks number rank m count = record { left = left_of ranks rank; right = right_of ranks rank; count = count; sent = sent_in number rank m count; first = 66 + 4 * m }

-- each round first makes a step
abbrev pub round_at : ℕ → ℕ → ℕ → ℕ → Round
round_at ranks number rank m = round_of ranks number rank m (count_in (state_at number (suc m)))
