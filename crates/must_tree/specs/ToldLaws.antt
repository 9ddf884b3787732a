-- Where the bytes of files are told.
use Rattle.std.proofs.Common.{◌≡◌, ℕ, zero, suc, ◌<◌, List, [], ◌∷◌, length, map, get_or, Option, Some, None, ap, ◌∙◌, arith}
use Rattle.std.specs.Prelude.{slice_get}
use Rattle.std.specs.Option.{option_map}
use Rattle.std.proofs.lemmas.Option.{slice_get-map, slice_get-get_or}
use Rattle.must_tree.specs.Told.{flat, told_at}

none_told : (bytes : List ℕ) → None ≡ Some bytes → ⊥
none_told bytes e = cc

pub told_within : (told : List (Option (List ℕ))) (k : ℕ) (bytes : List ℕ) → told_at told k ≡ Some bytes → k < length told
told_within [] k bytes e = absurd (none_told bytes e)
told_within (o ∷ told) zero bytes e = omega arith
told_within (o ∷ told) (suc k) bytes e = let h = told_within told k bytes e in omega (arith, h)

pub told_of : (streams : List (List ℕ)) (k : ℕ) (bytes : List ℕ) → slice_get streams k ≡ Some bytes → told_at (map Some streams) k ≡ Some bytes
told_of streams k bytes e = ap flat (slice_get-map Some streams k ∙ ap (option_map Some) e)

pub stream_at : (streams : List (List ℕ)) (k : ℕ) → k < length streams → (bytes : List ℕ) × (slice_get streams k ≡ Some bytes)
stream_at streams k within = (get_or streams k [], slice_get-get_or streams k [] within)
