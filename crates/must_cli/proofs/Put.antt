-- What a put leaves, whatever it answers.
use Rattle.std.proofs.Common.{ℕ, List, Result, Ok, Err, inl, inr}
use Rattle.must_base.specs.Views.{SinkView, Puts, PutsSome}

pub puts_some : {E : Type 0} (old new : SinkView) (bytes : List ℕ) (result : Result (Unit {0}) E) → Puts old new bytes result → PutsSome old new bytes
puts_some old new bytes (Ok u) puts = inl puts
puts_some old new bytes (Err e) puts = inr puts
