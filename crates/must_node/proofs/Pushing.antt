-- The needs of a run with one fact more.
use Rattle.std.proofs.Common.{◌≡◌, ℕ, zero, suc, ◌+◌, ◌<◌, ◌≤◌, Bool, true, false, List, [], ◌∷◌, ◌++◌, length, map, Option, Some, None, Bor, refl, sym, ap, ◌∙◌, arith}
use Rattle.std.specs.Prelude.{filter, slice_get, slice_set, replicate, is_some, ◌==◌}
use Rattle.std.specs.Option.{option_copied}
use Rattle.std.proofs.lemmas.Bool.{eq-eqb, ne_eqb}
use Rattle.std.proofs.lemmas.List.{append-nil, map-append}
use Rattle.must_entry.specs.Entries.{Waits}
use Rattle.must_wait.specs.Needs.{Needs, Rows, calls_of}
use Rattle.must_node.specs.declared.fact.Fact.{Fact}
use Rattle.must_node.specs.ListLaws.{flat_push, kept_push, left_push}
use Rattle.must_node.specs.Partners.{need_of, needs, needs_of_rank}
use Rattle.must_node.specs.RunNeeds.{call_needs, rank_needs, ranks_from}

needs_push : (facts : List Fact) (f : Fact) (l : List Waits) → need_of f ≡ l → needs (facts ++ f ∷ []) ≡ needs facts ++ l
needs_push facts f l e = flat_push need_of facts f ∙ ap (λ (m : List Waits). needs facts ++ m) e

pub ranks_length : (strict : Bool) (all some : List Fact) (start count : ℕ) → length (ranks_from strict all some start count) ≡ count
ranks_length strict all some start zero = refl
ranks_length strict all some start (suc count) = ap suc (ranks_length strict all some (start + 1) count)

pub ranks_none : (strict : Bool) (all : List Fact) (start count : ℕ) → replicate count [] ≡ ranks_from strict all [] start count
ranks_none strict all start zero = refl
ranks_none strict all start (suc count) = ap (λ (r : Rows). [] ∷ r) (ranks_none strict all (start + 1) count)

-- a fact without a need
pub ranks_same : (strict : Bool) (all some : List Fact) (f : Fact) → need_of f ≡ [] → (start count : ℕ) → ranks_from strict all some start count ≡ ranks_from strict all (some ++ f ∷ []) start count
ranks_same strict all some f none start zero = refl
ranks_same strict all some f none start (suc count) =
    let e : needs (some ++ f ∷ []) ≡ needs some = needs_push some f [] none ∙ append-nil (needs some) in
    ap (λ (ns : List Waits). map (λ w. call_needs strict all w.ways) (filter (λ w. w.place.rank == start) ns) ∷ ranks_from strict all some (start + 1) count) (sym e)
    ∙ ap (λ (r : Rows). rank_needs strict all (some ++ f ∷ []) start ∷ r) (ranks_same strict all some f none (start + 1) count)

module _ (strict : Bool) (all some : List Fact) (f : Fact) (w : Waits) (is : need_of f ≡ w ∷ []) where
  rank_one : (rank : ℕ) → w.place.rank ≡ rank → rank_needs strict all some rank ++ call_needs strict all w.ways ∷ [] ≡ rank_needs strict all (some ++ f ∷ []) rank
  rank_one rank e =
      sym (map-append (λ (v : Waits). call_needs strict all v.ways) (needs_of_rank some rank) (w ∷ []))
      ∙ ap (map (λ (v : Waits). call_needs strict all v.ways)) (sym (kept_push (λ (v : Waits). v.place.rank == rank) (needs some) w (eq-eqb w.place.rank rank e)) ∙ ap (filter (λ (v : Waits). v.place.rank == rank)) (sym (needs_push some f (w ∷ []) is)))

  rank_other : (rank : ℕ) → (w.place.rank ≡ rank → ⊥) → rank_needs strict all some rank ≡ rank_needs strict all (some ++ f ∷ []) rank
  rank_other rank apart =
      ap (map (λ (v : Waits). call_needs strict all v.ways)) (sym (left_push (λ (v : Waits). v.place.rank == rank) (needs some) w (ne_eqb w.place.rank rank apart)) ∙ ap (filter (λ (v : Waits). v.place.rank == rank)) (sym (needs_push some f (w ∷ []) is)))

  -- a need of another rank
  pub ranks_other : (start count : ℕ) → ((i : ℕ) → i < count → w.place.rank ≡ start + i → ⊥) → ranks_from strict all some start count ≡ ranks_from strict all (some ++ f ∷ []) start count
  ranks_other start zero apart = refl
  ranks_other start (suc count) apart =
      ap (λ (r : List Needs). r ∷ ranks_from strict all some (start + 1) count) (rank_other start (λ e. apart 0 (omega arith) (omega (arith, e))))
      ∙ ap (λ (r : Rows). rank_needs strict all (some ++ f ∷ []) start ∷ r) (ranks_other (start + 1) count (λ i less e. apart (suc i) (omega (arith, less)) (omega (arith, e))))

  -- the need of a rank that is there
  pub ranks_push : (start count i : ℕ) → w.place.rank ≡ start + i → i < count
      → slice_set (ranks_from strict all some start count) i (calls_of (ranks_from strict all some start count) i ++ call_needs strict all w.ways ∷ []) ≡ ranks_from strict all (some ++ f ∷ []) start count
  ranks_push start zero i e less = absurd (omega (arith, less))
  ranks_push start (suc count) zero e less =
      ap (λ (r : List Needs). r ∷ ranks_from strict all some (start + 1) count) (rank_one start (omega (arith, e)))
      ∙ ap (λ (r : Rows). rank_needs strict all (some ++ f ∷ []) start ∷ r) (ranks_other (start + 1) count (λ j below same. omega (arith, e, same)))
  ranks_push start (suc count) (suc i) e less =
      ap (λ (r : List Needs). r ∷ slice_set (ranks_from strict all some (start + 1) count) i (calls_of (ranks_from strict all some (start + 1) count) i ++ call_needs strict all w.ways ∷ [])) (rank_other start (λ same. omega (arith, e, same)))
      ∙ ap (λ (r : Rows). rank_needs strict all (some ++ f ∷ []) start ∷ r) (ranks_push (start + 1) count i (omega (arith, e)) (omega (arith, less)))

-- where nothing stands at a place, the list ends before
pub ends_before : {X : Type 0} (xs : List X) (i : ℕ) → slice_get xs i ≡ None → length xs ≤ i
ends_before [] i e = omega arith
ends_before (x ∷ xs) zero e = absurd (let n : Some x ≡ None = e in cc)
ends_before (x ∷ xs) (suc i) e = let less = ends_before xs i e in omega (arith, less)

-- a need of a rank that isn't there
pub push_nothing : (strict : Bool) (all some : List Fact) (f : Fact) (w : Waits) (rows : Rows) (size : ℕ) → need_of f ≡ w ∷ [] → rows ≡ ranks_from strict all some 0 size → length rows ≤ w.place.rank → rows ≡ ranks_from strict all (some ++ f ∷ []) 0 size
push_nothing strict all some f w rows size is e past =
    let n : length rows ≡ size = ap length e ∙ ranks_length strict all some 0 size in
    e ∙ ranks_other strict all some f w is 0 size (λ i less same. omega (arith, past, n, less, same))

-- a need of one that is
pub push_one : (strict : Bool) (all some : List Fact) (f : Fact) (w : Waits) (old new : Rows) (size : ℕ) (needs : Needs) → need_of f ≡ w ∷ [] → old ≡ ranks_from strict all some 0 size → w.place.rank < length old → needs ≡ call_needs strict all w.ways
    → new ≡ slice_set old w.place.rank (calls_of old w.place.rank ++ needs ∷ []) → new ≡ ranks_from strict all (some ++ f ∷ []) 0 size
push_one strict all some f w old new size needs is e there needs_are pushed =
    let n : length old ≡ size = ap length e ∙ ranks_length strict all some 0 size in
    pushed ∙ ap (λ (r : Rows). slice_set r w.place.rank (calls_of r w.place.rank ++ needs ∷ [])) e
    ∙ ap (λ (v : Needs). slice_set (ranks_from strict all some 0 size) w.place.rank (calls_of (ranks_from strict all some 0 size) w.place.rank ++ v ∷ [])) needs_are
    ∙ ranks_push strict all some f w is 0 size w.place.rank (omega arith) (omega (arith, there, n))

pub no_call : {X : Type 0} (r : Option (Bor X)) (o : Option X) (b : Bool) → option_copied r ≡ o → b ≡ is_some r → b ≡ false → o ≡ None
no_call None o b e is f = sym e
no_call (Some v) o b e is f = absurd (let n : true ≡ false = sym is ∙ f in cc)
