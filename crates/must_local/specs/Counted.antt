-- A communicator as a rank knows it.
use Rattle.std.specs.Prelude.{ℕ, ◌+◌}
use Rattle.must_group.specs.Names.{Name}

-- its name, and how many collective calls were made on it
pub record Counted : Type 0 where
  pub name : Name
  pub calls : ℕ

abbrev pub name_counted : Counted → Name
name_counted comm = comm.name

abbrev pub counted : ℕ → Name → Counted
counted calls name = record { name = name; calls = calls }

abbrev pub one_more : Counted → Counted
one_more comm = counted (comm.calls + 1) comm.name
