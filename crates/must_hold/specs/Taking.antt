-- What a call does to the operations that are held, and the rows of S1 at its completions.
use Rattle.std.specs.Prelude.{◌≡◌, ◌==◌, ℕ, List, [], ◌∷◌, ◌++◌, length, find}
use Rattle.must_call.specs.declared.call.Call.{Call}
use Rattle.must_find.specs.declared.rule.Rule.TheVariants.{S1}
use Rattle.must_find.specs.declared.finding.Finding.{Finding}
use Rattle.must_find.specs.Adds.{Adds}
use Rattle.must_rules.specs.Rank.{Rank}
use Rattle.must_rules.specs.Operations.{operations_of}
use Rattle.must_rules.specs.Fates.{completions_in}
use Rattle.must_rules.specs.Statuses.{completed_wrongly}
use Rattle.must_hold.specs.declared.table.Table.{Table}
use Rattle.must_hold.specs.Queue.{Holds, IsOfRule}

-- S1 at a completion of the call
abbrev pub IsCompletedWrongly : Rank → List Call → Call → Finding → Type 0
IsCompletedWrongly r calls call f = IsOfRule r.rank (length calls) S1 (λ part. completed_wrongly r calls (find (λ c. c.index == part) (completions_in call))) f

pub record Takes (r : Rank) (calls : List Call) (call : Call) (old new : Table) (before after : List Finding) : Type 0 where
  pub holds : Holds r (calls ++ call ∷ []) (operations_of r (calls ++ call ∷ [])) new
  pub given : new.given ≡ old.given
  pub rows : Adds before after (IsCompletedWrongly r calls call)
