-- Groups of processes as lists of world ranks, and the operations on them (MPI 3.1 section 6.3.2).
use Rattle.std.specs.Prelude.{ℕ, zero, suc, Bool, not, ◌||◌, ℤ, pos, negsuc, List, [], ◌∷◌, ◌++◌, map, filter, find, length, take, Option, None, Some, is_none, if◌then◌else◌, nat_eq, nat_lt, nat_abs, slice_index, slice_index_or}
use Rattle.std.specs.List.{enumerate_from}
use Rattle.std.specs.Ordering.{int_eq}
use Rattle.std.specs.Set.{is_member}

-- all members of the first group, then those of the second that are not in the first
abbrev pub union : List ℕ → List ℕ → List ℕ
union first second = first ++ filter (λ rank. not (is_member nat_eq first rank)) second

-- the members of the first group that are also in the second, in the first's order
abbrev pub intersection : List ℕ → List ℕ → List ℕ
intersection first second = filter (λ rank. is_member nat_eq second rank) first

-- the members of the first group that are not in the second, in the first's order
abbrev pub difference : List ℕ → List ℕ → List ℕ
difference first second = filter (λ rank. not (is_member nat_eq second rank)) first

-- the position that a listed rank names in a group of n members, where it names one
abbrev pub position_of : ℕ → ℤ → Option ℕ
position_of n (pos rank) = if nat_lt rank n then Some rank else None
position_of n (negsuc rank) = None

-- the listed rank at a place names no position, or stands in the list before
abbrev pub is_bad_at : ℕ → List ℤ → ℕ → Bool
is_bad_at n listed place = is_none (position_of n (slice_index_or listed place (pos 0))) || is_member int_eq (take place listed) (slice_index_or listed place (pos 0))

-- the numbers below n, as they rise
abbrev pub below : ℕ → List ℕ
below zero = []
below (suc n) = below n ++ n ∷ []

-- the first place of a list of ranks that is bad for a group of n members
abbrev pub first_bad : ℕ → List ℤ → Option ℕ
first_bad n listed = find (is_bad_at n listed) (below (length listed))

-- the members at the listed positions, in the list's order
abbrev pub incl : List ℕ → List ℤ → List ℕ
incl members listed = map (λ rank. slice_index members (nat_abs rank)) listed

-- the members whose position is not listed, in the group's order
abbrev pub excl : List ℕ → List ℤ → List ℕ
excl members listed = map (λ p. p.1) (filter (λ p. not (is_member int_eq listed (pos p.0))) (enumerate_from 0 members))
