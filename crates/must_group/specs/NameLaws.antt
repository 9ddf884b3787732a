-- The order of names in words: what decides between two names, and between two steps.
use Rattle.std.specs.Prelude.{◌≡◌, ℕ, ◌<◌, ◌<ℤ◌, List, ◌∷◌, ◌++◌}
use Rattle.std.specs.declared.cmp.Ordering.TheVariants.{Less}
use Rattle.must_group.specs.declared.name.Step.{Step}
use Rattle.must_group.specs.Names.{Name, step_cmp, name_cmp}

pub record NamesRise : Type 0 where
  pub root : (a b : Name) → a.root < b.root → name_cmp a b ≡ Less
  pub longer_path : (a b : Name) (step : Step) (rest : List Step) → a.root ≡ b.root → b.path ≡ a.path ++ step ∷ rest → name_cmp a b ≡ Less
  pub first_step : (a b : Name) (front : List Step) (s t : Step) (rest others : List Step) → a.root ≡ b.root → a.path ≡ front ++ s ∷ rest → b.path ≡ front ++ t ∷ others → step_cmp s t ≡ Less → name_cmp a b ≡ Less
  pub more_members : (a b : Name) (rank : ℕ) (rest : List ℕ) → a.root ≡ b.root → a.path ≡ b.path → b.members ≡ a.members ++ rank ∷ rest → name_cmp a b ≡ Less
  pub first_member : (a b : Name) (front : List ℕ) (r s : ℕ) (rest others : List ℕ) → a.root ≡ b.root → a.path ≡ b.path → a.members ≡ front ++ r ∷ rest → b.members ≡ front ++ s ∷ others → r < s → name_cmp a b ≡ Less
  pub number : (s t : Step) → s.number < t.number → step_cmp s t ≡ Less
  pub class : (s t : Step) → s.number ≡ t.number → s.class <ℤ t.class → step_cmp s t ≡ Less
