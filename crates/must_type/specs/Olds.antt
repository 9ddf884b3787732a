-- The old types that a making call names.
use Rattle.std.specs.Prelude.{ℕ, List, [], ◌∷◌, map}
use Rattle.must_type.specs.declared.construct.Construct.{Construct}
use Rattle.must_type.specs.declared.construct.Construct.TheVariants.{Contiguous, Vector, Hvector, Indexed, Hindexed, IndexedBlock, HindexedBlock, Struct, Dup, Resized, Subarray}

-- the numbers of the old types, in the call's order
abbrev pub old_numbers : Construct → List ℕ
old_numbers (Contiguous count old) = old.number ∷ []
old_numbers (Vector count blocklength stride old) = old.number ∷ []
old_numbers (Hvector count blocklength stride old) = old.number ∷ []
old_numbers (Indexed blocks old) = old.number ∷ []
old_numbers (Hindexed blocks old) = old.number ∷ []
old_numbers (IndexedBlock blocklength disps old) = old.number ∷ []
old_numbers (HindexedBlock blocklength disps old) = old.number ∷ []
old_numbers (Struct blocks) = map (λ it. it.old.number) blocks
old_numbers (Dup old) = old.number ∷ []
old_numbers (Resized lb extent old) = old.number ∷ []
old_numbers (Subarray order dims old) = old.number ∷ []

-- any call but Struct
abbrev pub HasOneOld : Construct → Type 0
HasOneOld (Struct blocks) = ⊥
HasOneOld _ = Unit {0}
