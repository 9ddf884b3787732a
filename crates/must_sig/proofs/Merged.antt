-- Runs of which no two neighbours are of one basic type, and that they are the fewest.
use Rattle.std.proofs.Common.{◌≡◌, refl, sym, ◌∙◌, ap, arith, Bool, true, false, ℕ, zero, suc, ◌+◌, ◌≤◌, ◌<◌, List, [], ◌∷◌, ◌++◌, length, get_or, slice_set}
use Rattle.std.specs.Prelude.{replicate, ◌↔◌}
use Rattle.must_call.specs.declared.basic.Basic.{Basic}
use Rattle.must_call.specs.Basics.{number_of_basic}
use Rattle.must_call.specs.BasicLaws.{same_number}
use Rattle.must_sig.specs.declared.run.Run.{Run}
use Rattle.must_sig.specs.Signatures.{laid, is_same}
use Rattle.must_sig.specs.Runs.{AreRuns, AreMerged, IsOther, EndsWith}
use Rattle.must_sig.proofs.Matching.{same_is, differ_is}

-- ---- one run more

pub no_end : (rs : List Run) (b : Basic) → length rs ≡ 0 → EndsWith rs b → ⊥
no_end [] b h e = e
no_end (r ∷ rs) b h e = absurd (omega arith)

pub some_end : (rs : List Run) (b : Basic) → EndsWith rs b → 1 ≤ length rs
some_end [] b e = absurd e
some_end (r ∷ rs) b e = omega arith

pub end_at : (rs : List Run) (k : ℕ) (b : Basic) (d : Run) → k + 1 ≡ length rs → EndsWith rs b → (get_or rs k d).basic ≡ b
end_at [] k b d h e = absurd e
end_at (r ∷ []) zero b d h e = e
end_at (r ∷ []) (suc k) b d h e = absurd (omega arith)
end_at (r ∷ s ∷ rs) zero b d h e = absurd (omega arith)
end_at (r ∷ s ∷ rs) (suc k) b d h e = end_at (s ∷ rs) k b d (omega arith) e

pub at_end : (rs : List Run) (k : ℕ) (b : Basic) (d : Run) → k + 1 ≡ length rs → (get_or rs k d).basic ≡ b → EndsWith rs b
at_end [] k b d h e = absurd (omega arith)
at_end (r ∷ []) zero b d h e = e
at_end (r ∷ []) (suc k) b d h e = absurd (omega arith)
at_end (r ∷ s ∷ rs) zero b d h e = absurd (omega arith)
at_end (r ∷ s ∷ rs) (suc k) b d h e = at_end (s ∷ rs) k b d (omega arith) e

pub ends_is : (rs : List Run) (k : ℕ) (b : Basic) (d last : Run) → last ≡ get_or rs k d → k + 1 ≡ length rs → (number_of_basic last.basic ≡ number_of_basic b) ↔ EndsWith rs b
ends_is rs k b d last e h = (
  λ same. at_end rs k b d h (ap (λ (r : Run). r.basic) (sym e) ∙ same_number last.basic b same),
  λ ends. ap (λ (r : Run). number_of_basic r.basic) e ∙ ap number_of_basic (end_at rs k b d h ends),
)

pub merged_push : (rs : List Run) (r : Run) → AreMerged rs → (EndsWith rs r.basic → ⊥) → AreMerged (rs ++ r ∷ [])
merged_push [] r m h = (tt, tt)
merged_push (s ∷ []) r m h = (h, (tt, tt))
merged_push (s ∷ t ∷ rs) r m h = (m.0, merged_push (t ∷ rs) r m.1 h)

other_set : (x y : Run) (rs : List Run) (k : ℕ) (r : Run) → IsOther x (y ∷ rs) → k + 1 ≡ length (y ∷ rs) → EndsWith (y ∷ rs) r.basic → IsOther x (slice_set (y ∷ rs) k r)
other_set x y [] zero r h l e = λ same. h (same ∙ sym e)
other_set x y [] (suc k) r h l e = absurd (omega arith)
other_set x y (z ∷ rs) zero r h l e = absurd (omega arith)
other_set x y (z ∷ rs) (suc k) r h l e = h

pub merged_set : (rs : List Run) (k : ℕ) (r : Run) → AreMerged rs → k + 1 ≡ length rs → EndsWith rs r.basic → AreMerged (slice_set rs k r)
merged_set [] k r m l e = absurd e
merged_set (x ∷ []) zero r m l e = (tt, tt)
merged_set (x ∷ []) (suc k) r m l e = absurd (omega arith)
merged_set (x ∷ y ∷ rs) zero r m l e = absurd (omega arith)
merged_set (x ∷ y ∷ rs) (suc k) r m l e = (other_set x y rs k r m.0 (omega arith) e, merged_set (y ∷ rs) k r m.1 (omega arith) e)

-- ---- how often a list changes from one basic type to another

abbrev pub change_by : Bool → ℕ
change_by true = 0
change_by false = 1

change_small : (b : Bool) → change_by b ≤ 1
change_small true = omega arith
change_small false = omega arith

-- how many pieces of one basic type a list has, and how many where b stands in front of it
abbrev pub pieces_behind : Basic → List Basic → ℕ
pieces_behind b [] = 1
pieces_behind b (c ∷ cs) = change_by (is_same b c) + pieces_behind c cs

abbrev pub pieces : List Basic → ℕ
pieces [] = 0
pieces (b ∷ bs) = pieces_behind b bs

front_more : (b : Basic) (ys : List Basic) → pieces_behind b ys ≤ 1 + pieces ys
front_more b [] = omega arith
front_more b (c ∷ cs) = omega (arith, change_small (is_same b c))

behind_append : (b : Basic) (xs ys : List Basic) → pieces_behind b (xs ++ ys) ≤ pieces_behind b xs + pieces ys
behind_append b [] ys = front_more b ys
behind_append b (x ∷ xs) ys = omega (arith, behind_append x xs ys)

pieces_append : (xs ys : List Basic) → pieces (xs ++ ys) ≤ pieces xs + pieces ys
pieces_append [] ys = omega arith
pieces_append (x ∷ xs) ys = behind_append x xs ys

-- the same basic type over and over is one piece
same_behind : (n : ℕ) (b : Basic) (ys : List Basic) → pieces_behind b (replicate n b ++ ys) ≡ pieces_behind b ys
same_behind zero b ys = refl
same_behind (suc n) b ys = ap (λ (t : Bool). change_by t + pieces_behind b (replicate n b ++ ys)) (same_is b b refl) ∙ omega (arith, same_behind n b ys)

run_pieces : (n : ℕ) (b : Basic) → pieces (replicate n b) ≤ 1
run_pieces zero b = omega arith
run_pieces (suc n) b = let e = nil_end (replicate n b) in omega (arith, ap (pieces_behind b) e, same_behind n b [])
  where
    nil_end : (xs : List Basic) → xs ≡ xs ++ []
    nil_end [] = refl
    nil_end (x ∷ xs) = ap (λ l. x ∷ l) (nil_end xs)

pub pieces_few : (rs : List Run) → pieces (laid rs) ≤ length rs
pieces_few [] = omega arith
pieces_few (r ∷ rs) = omega (arith, pieces_append (replicate r.length r.basic) (laid rs), run_pieces r.length r.basic, pieces_few rs)

-- a run before others of another basic type is one piece more
run_more : (n : ℕ) (b : Basic) (ys : List Basic) → 0 < n → pieces (replicate n b ++ ys) ≡ pieces_behind b ys
run_more zero b ys h = absurd (omega arith)
run_more (suc n) b ys h = same_behind n b ys

other_piece : (b c : Basic) (ys : List Basic) (n : ℕ) → 0 < n → (b ≡ c → ⊥) → pieces_behind b (replicate n c ++ ys) ≡ 1 + pieces (replicate n c ++ ys)
other_piece b c ys zero h d = absurd (omega arith)
other_piece b c ys (suc n) h d = ap (λ (t : Bool). change_by t + pieces_behind c (replicate n c ++ ys)) (differ_is b c d)

pub pieces_are : (rs : List Run) → AreRuns rs → AreMerged rs → pieces (laid rs) ≡ length rs
pieces_are [] f m = refl
pieces_are (r ∷ []) f m = run_more r.length r.basic [] f.0
pieces_are (r ∷ s ∷ rs) f m =
    run_more r.length r.basic (laid (s ∷ rs)) f.0 ∙ other_piece r.basic s.basic (laid rs) s.length f.1.0 m.0 ∙ omega (arith, pieces_are (s ∷ rs) f.1 m.1)

pub shortest : (unit runs : List Run) → AreRuns unit → AreMerged unit → laid runs ≡ laid unit → length unit ≤ length runs
shortest unit runs f m e = omega (arith, pieces_are unit f m, pieces_few runs, ap pieces e)
