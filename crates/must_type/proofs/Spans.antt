-- Laws of hulls: they join, move and repeat as the entries do.
use Rattle.std.proofs.Common.{◌≡◌, refl, sym, ◌∙◌, ap, arith, ℤ, pos, ◌+ℤ◌, List, [], ◌∷◌, ◌++◌, Option, Some, None}
use Rattle.std.specs.Int.{int_min, int_max}
use Rattle.std.proofs.lemmas.Int.{ints, clamps}
use Rattle.must_type.specs.declared.summary.Span.{Span}
use Rattle.must_type.specs.Maps.{Entry, moved_entry, moved}
use Rattle.must_type.specs.Summaries.{span_join, span_moved, hull}

pub min_assoc : (a b c : ℤ) → int_min (int_min a b) c ≡ int_min a (int_min b c)
min_assoc a b c = omega (arith, ints, clamps)

pub max_assoc : (a b c : ℤ) → int_max (int_max a b) c ≡ int_max a (int_max b c)
max_assoc a b c = omega (arith, ints, clamps)

pub min_comm : (a b : ℤ) → int_min a b ≡ int_min b a
min_comm a b = omega (arith, ints, clamps)

pub max_comm : (a b : ℤ) → int_max a b ≡ int_max b a
max_comm a b = omega (arith, ints, clamps)

pub min_moved : (a b d : ℤ) → int_min (a +ℤ d) (b +ℤ d) ≡ int_min a b +ℤ d
min_moved a b d = omega (arith, ints, clamps)

pub max_moved : (a b d : ℤ) → int_max (a +ℤ d) (b +ℤ d) ≡ int_max a b +ℤ d
max_moved a b d = omega (arith, ints, clamps)

-- a span by its ends
abbrev pub span : ℤ → ℤ → Option Span
span a b = Some (record { low = a; high = b })

pub join_assoc : (r s t : Option Span) → span_join (span_join r s) t ≡ span_join r (span_join s t)
join_assoc None s t = refl
join_assoc (Some r) None t = refl
join_assoc (Some r) (Some s) None = refl
join_assoc (Some r) (Some s) (Some t) = ap (λ (a : ℤ). span a (int_max (int_max r.high s.high) t.high)) (min_assoc r.low s.low t.low) ∙ ap (λ (b : ℤ). span (int_min r.low (int_min s.low t.low)) b) (max_assoc r.high s.high t.high)

pub join_comm : (r s : Option Span) → span_join r s ≡ span_join s r
join_comm None None = refl
join_comm None (Some s) = refl
join_comm (Some r) None = refl
join_comm (Some r) (Some s) = ap (λ (a : ℤ). span a (int_max r.high s.high)) (min_comm r.low s.low) ∙ ap (λ (b : ℤ). span (int_min s.low r.low) b) (max_comm r.high s.high)

pub join_none : (s : Option Span) → span_join s None ≡ s
join_none None = refl
join_none (Some s) = refl

pub join_moved : (d : ℤ) (r s : Option Span) → span_join (span_moved d r) (span_moved d s) ≡ span_moved d (span_join r s)
join_moved d None s = refl
join_moved d (Some r) None = refl
join_moved d (Some r) (Some s) = ap (λ (a : ℤ). span a (int_max (r.high +ℤ d) (s.high +ℤ d))) (min_moved r.low s.low d) ∙ ap (λ (b : ℤ). span (int_min r.low s.low +ℤ d) b) (max_moved r.high s.high d)

pub moved_zero : (s : Option Span) → span_moved (pos 0) s ≡ s
moved_zero None = refl
moved_zero (Some s) = let low : s.low +ℤ pos 0 ≡ s.low = omega (arith, ints) in let high : s.high +ℤ pos 0 ≡ s.high = omega (arith, ints) in ap (λ (a : ℤ). span a (s.high +ℤ pos 0)) low ∙ ap (λ (b : ℤ). span s.low b) high

pub moved_twice : (d e : ℤ) (s : Option Span) → span_moved e (span_moved d s) ≡ span_moved (d +ℤ e) s
moved_twice d e None = refl
moved_twice d e (Some s) = let low : (s.low +ℤ d) +ℤ e ≡ s.low +ℤ (d +ℤ e) = omega (arith, ints) in let high : (s.high +ℤ d) +ℤ e ≡ s.high +ℤ (d +ℤ e) = omega (arith, ints) in ap (λ (a : ℤ). span a ((s.high +ℤ d) +ℤ e)) low ∙ ap (λ (b : ℤ). span (s.low +ℤ (d +ℤ e)) b) high

pub hull-append : (f : Entry → Option Span) (a b : List Entry) → hull f (a ++ b) ≡ span_join (hull f a) (hull f b)
hull-append f [] b = refl
hull-append f (e ∷ a) b = ap (span_join (f e)) (hull-append f a b) ∙ sym (join_assoc (f e) (hull f a) (hull f b))

-- the spans of a kind of entries move with the entries
pub hull-moved : (f : Entry → Option Span) → ((d : ℤ) (e : Entry) → f (moved_entry d e) ≡ span_moved d (f e)) → (d : ℤ) (es : List Entry) → hull f (moved d es) ≡ span_moved d (hull f es)
hull-moved f m d [] = refl
hull-moved f m d (e ∷ es) = ap (λ s. span_join s (hull f (moved d es))) (m d e) ∙ ap (span_join (span_moved d (f e))) (hull-moved f m d es) ∙ join_moved d (f e) (hull f es)
