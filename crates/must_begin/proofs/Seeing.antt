-- What is asked at a call is what its rank knows.
use Rattle.std.proofs.Common.{◌≡◌, ℕ, Bool, List, ap, ◌∙◌}
use Rattle.must_call.specs.declared.body.Body.{Body}
use Rattle.must_call.specs.declared.call.Call.{Call}
use Rattle.must_rules.specs.Rank.{Rank}
use Rattle.must_rules.specs.Facts.{Facts}
use Rattle.must_rules.specs.ArgumentHandles.{StartOf}
use Rattle.must_rules.specs.Clear.{is_clear}
use Rattle.must_rules.specs.UsableParts.{usable_parts}
use Rattle.must_rules.specs.Known.{facts_of, clear_behind}
use Rattle.must_rules.specs.Types.{sound_type}
use Rattle.must_derived.specs.declared.datatypes.Datatypes.{Datatypes}
use Rattle.must_parts.specs.Telling.{Sees}

module _ (r : Rank) (calls : List Call) (facts : Facts) (sound : ℕ → Bool) (starts : StartOf) (types : Datatypes) (sees : Sees r calls facts sound starts types) where
  pub parts_seen : (b : Body) (parts : ℕ) → parts ≡ usable_parts facts sound b → parts ≡ usable_parts (facts_of r calls) (sound_type (clear_behind r) calls) b
  parts_seen b parts e = e ∙ ap (λ (f : Facts). usable_parts f sound b) sees.facts_are ∙ ap (λ (s : ℕ → Bool). usable_parts (facts_of r calls) s b) sees.sound_are

  pub clear_seen : (call : Call) (clear : Bool) → clear ≡ is_clear facts call.body → clear ≡ clear_behind r calls call
  unfolding clear_behind
  clear_seen call clear e = e ∙ ap (λ (f : Facts). is_clear f call.body) sees.facts_are
