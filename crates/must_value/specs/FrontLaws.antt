-- A text of several parts that is appended part by part.
use Rattle.std.proofs.Common.{◌≡◌, ℕ, zero, suc, List, [], ◌∷◌, ◌++◌, take, refl, sym, ap, ◌∙◌, append_assoc}
use Rattle.std.proofs.lemmas.List.{append-nil}
use Rattle.must_value.specs.Fronts.{IsFrontBehind}

-- the first part and some of the second are the first so many of both
take_behind : (n : ℕ) (first second : List ℕ) → (m : ℕ) × (first ++ take n second ≡ take m (first ++ second))
take_behind n [] second = (n, refl)
take_behind n (b ∷ first) second = let t = take_behind n first second in (suc t.0, ap (λ (bytes : List ℕ). b ∷ bytes) t.1)

-- some of the first part are the first so many of both
take_within : (n : ℕ) (first second : List ℕ) → (m : ℕ) × (take n first ≡ take m (first ++ second))
take_within zero first second = (0, refl)
take_within (suc n) [] second = (0, refl)
take_within (suc n) (b ∷ first) second = let t = take_within n first second in (suc t.0, ap (λ (bytes : List ℕ). b ∷ bytes) t.1)

-- nothing is a front
pub front_none : (old text new : List ℕ) → new ≡ old → IsFrontBehind old text new
front_none old text new same = (0, same ∙ sym (append-nil old))

-- a front of the first part is one of both
pub front_first : (old first second new : List ℕ) → IsFrontBehind old first new → IsFrontBehind old (first ++ second) new
front_first old first second new front =
    let t = take_within front.0 first second in
    (t.0, front.1 ∙ ap (λ (bytes : List ℕ). old ++ bytes) t.1)

-- the whole first part, and behind it a front of the second, are a front of both
pub front_second : (old first second middle new : List ℕ) → middle ≡ old ++ first → IsFrontBehind middle second new → IsFrontBehind old (first ++ second) new
front_second old first second middle new whole front =
    let t = take_behind front.0 first second in (
      t.0,
      front.1 ∙ ap (λ (bytes : List ℕ). bytes ++ take front.0 second) whole ∙ append_assoc old first (take front.0 second) ∙ ap (λ (bytes : List ℕ). old ++ bytes) t.1,
    )

-- the whole first part alone
pub front_whole : (old first second middle new : List ℕ) → middle ≡ old ++ first → new ≡ middle → IsFrontBehind old (first ++ second) new
front_whole old first second middle new whole same = front_second old first second middle new whole (front_none middle second new same)
