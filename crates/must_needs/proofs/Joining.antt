-- Names joined, and names over more operations.
use Rattle.std.proofs.Common.{◌≡◌, ℕ, zero, suc, ◌<◌, ◌≤◌, List, [], ◌∷◌, ◌++◌, length, refl, ap, sym, subst, ◌∙◌, arith, length-append}
use Rattle.std.specs.Prelude.{map, slice_get}
use Rattle.std.specs.List.{AllByRecursion}
use Rattle.std.proofs.lemmas.List.{map-append, length-map}
use Rattle.must_entry.specs.declared.want.Want.{Want}
use Rattle.must_rules.specs.Rank.{Rank}
use Rattle.must_rules.specs.Operations.{Operation}
use Rattle.must_messages.specs.CallNeeds.{Need, Needing, together, one_way, any_way}
use Rattle.must_needs.specs.declared.names.Name.{Name}
use Rattle.must_needs.specs.declared.names.Name.TheVariants.{Nothing, Operation as Numbered, Wave}
use Rattle.must_needs.specs.declared.names.Ways.{Ways}
use Rattle.must_needs.specs.declared.names.Ways.TheVariants.{All, Any}
use Rattle.must_needs.specs.Naming.{need_told, name_need, ways_named, IsThere, AreThere}
use Rattle.must_needs.specs.Stating.{AreNamed, AreWays}

pub all_join : {X : Type 0} (P : X → Type 0) (xs ys : List X) → AllByRecursion P xs → AllByRecursion P ys → AllByRecursion P (xs ++ ys)
all_join P [] ys a b = b
all_join P (x ∷ xs) ys a b = (a.0, all_join P xs ys a.1 b)

pub all_weaker : {X : Type 0} (P Q : X → Type 0) → ((x : X) → P x → Q x) → (xs : List X) → AllByRecursion P xs → AllByRecursion Q xs
all_weaker P Q f [] a = tt
all_weaker P Q f (x ∷ xs) a = (f x a.0, all_weaker P Q f xs a.1)

-- functions that agree on the elements give the same list
pub map_same : {X Y : Type 0} (P : X → Type 0) (f g : X → Y) → ((x : X) → P x → f x ≡ g x) → (xs : List X) → AllByRecursion P xs → map f xs ≡ map g xs
map_same P f g same [] a = refl
map_same P f g same (x ∷ xs) a = λ i. same x a.0 i ∷ map_same P f g same xs a.1 i

-- ---- names in order

pub named_none : (r : Rank) (ops : List Operation) → AreNamed r ops (λ need. []) []
named_none r ops = record { there = tt; needs_are = λ need. refl }

pub named_join : (r : Rank) (ops : List Operation) (f g : Needing → List Need) (xs ys : List Name) → AreNamed r ops f xs → AreNamed r ops g ys → AreNamed r ops (λ need. f need ++ g need) (xs ++ ys)
named_join r ops f g xs ys a b = record {
  there = all_join (IsThere (length ops)) xs ys a.there b.there;
  needs_are = λ need. map-append (name_need r.rank (map need ops)) xs ys ∙ (λ i. a.needs_are need i ++ b.needs_are need i);
}

-- ---- more operations

slice_front : {X : Type 0} (xs ys : List X) (n : ℕ) → n < length xs → slice_get (xs ++ ys) n ≡ slice_get xs n
slice_front [] ys n less = absurd (omega (arith, less))
slice_front (x ∷ xs) ys zero less = refl
slice_front (x ∷ xs) ys (suc n) less = slice_front xs ys n (omega (arith, less))

-- an operation that is there stays there
pub there_more : (a b : ℕ) → a ≤ b → (name : Name) → IsThere a name → IsThere b name
there_more a b few Nothing there = tt
there_more a b few (Numbered n) there = omega (arith, few, there)
there_more a b few (Wave k) there = tt

need_more : (rank : ℕ) (needed more : List Need) (name : Name) → IsThere (length needed) name → name_need rank (needed ++ more) name ≡ name_need rank needed name
need_more rank needed more Nothing there = refl
need_more rank needed more (Numbered n) there = ap need_told (slice_front needed more n there)
need_more rank needed more (Wave k) there = refl

names_more : (rank : ℕ) (needed more : List Need) (names : List Name) → AllByRecursion (IsThere (length needed)) names → map (name_need rank (needed ++ more)) names ≡ map (name_need rank needed) names
names_more rank needed more names there = map_same (IsThere (length needed)) (name_need rank (needed ++ more)) (name_need rank needed) (need_more rank needed more) names there

ways_more : (rank : ℕ) (needed more : List Need) (w : Ways) → AreThere (length needed) w → ways_named rank (needed ++ more) w ≡ ways_named rank needed w
ways_more rank needed more (All names) there = ap (λ (ns : List Need). one_way (together ns)) (names_more rank needed more names.items there)
ways_more rank needed more (Any names) there = ap any_way (names_more rank needed more names.items there)

pub are_there_more : (a b : ℕ) → a ≤ b → (w : Ways) → AreThere a w → AreThere b w
are_there_more a b few (All names) there = all_weaker (IsThere a) (IsThere b) (there_more a b few) names.items there
are_there_more a b few (Any names) there = all_weaker (IsThere a) (IsThere b) (there_more a b few) names.items there

-- what alternatives stand for doesn't change with more operations
pub ways_longer : (rank : ℕ) (need : Needing) (ops more : List Operation) (w : Ways) → AreThere (length ops) w → ways_named rank (map need (ops ++ more)) w ≡ ways_named rank (map need ops) w
ways_longer rank need ops more w there =
    ap (λ (ns : List Need). ways_named rank ns w) (map-append need ops more)
    ∙ ways_more rank (map need ops) (map need more) w (subst (λ (n : ℕ). AreThere n w) (sym (length-map ops need)) there)

pub few_more : (ops more : List Operation) → length ops ≤ length (ops ++ more)
few_more ops more = omega (arith, length-append ops more)

pub are_ways_more : (r : Rank) (ops more : List Operation) (f : Needing → List (List Want)) (w : Ways) → AreWays r ops f w → AreWays r (ops ++ more) f w
are_ways_more r ops more f w a = record {
  there = are_there_more (length ops) (length (ops ++ more)) (few_more ops more) w a.there;
  ways_are = λ need. ways_longer r.rank need ops more w a.there ∙ a.ways_are need;
}
