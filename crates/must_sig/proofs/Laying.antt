-- What lists of runs lay out.
use Rattle.std.proofs.Common.{◌≡◌, refl, sym, ◌∙◌, ap, arith, ℕ, zero, suc, ◌+◌, ◌*◌, ◌≤◌, ◌<◌, ◌^◌, List, [], ◌∷◌, ◌++◌, length, get_or, take, slice_set, append_assoc, append-nil, length-append}
use Rattle.std.specs.Prelude.{replicate}
use Rattle.std.proofs.lemmas.List.{length-replicate, replicate-append-replicate}
use Rattle.must_call.specs.declared.basic.Basic.{Basic}
use Rattle.must_call.specs.Basics.{number_of_basic}
use Rattle.must_sig.specs.declared.run.Run.{Run}
use Rattle.must_sig.specs.Signatures.{repeated, laid}
use Rattle.must_sig.proofs.Periods.{repeated_more}
use Rattle.must_sig.specs.Runs.{EndsWith, AreRuns}
use Rattle.must_sig.proofs.Merged.{end_at}
use Rattle.must_sig.proofs.Ahead.{repeated_replicate, repeated_nil}
use Rattle.must_call.specs.BasicLaws.{same_number}

pub laid_append : (xs ys : List Run) → laid (xs ++ ys) ≡ laid xs ++ laid ys
laid_append [] ys = refl
laid_append (r ∷ xs) ys = ap (λ l. replicate r.length r.basic ++ l) (laid_append xs ys) ∙ sym (append_assoc (replicate r.length r.basic) (laid xs) (laid ys))

pub laid_one : (rs : List Run) (r : Run) → laid (rs ++ r ∷ []) ≡ laid rs ++ replicate r.length r.basic
laid_one rs r = laid_append rs (r ∷ []) ∙ ap (λ l. laid rs ++ l) (append-nil (replicate r.length r.basic))

-- a longer last run
pub laid_longer : (rs : List Run) (k n : ℕ) (b : Basic) (d : Run) → k + 1 ≡ length rs → number_of_basic (get_or rs k d).basic ≡ number_of_basic b →
    laid (slice_set rs k (record { basic = b; length = (get_or rs k d).length + n })) ≡ laid rs ++ replicate n b
laid_longer [] k n b d h e = absurd (omega arith)
laid_longer (r ∷ []) zero n b d h e =
    let same : replicate r.length b ≡ replicate r.length r.basic = ap (replicate r.length) (sym (same_number r.basic b e)) in
    append-nil (replicate (r.length + n) b) ∙ sym (replicate-append-replicate r.length n b) ∙ ap (λ l. l ++ replicate n b) (same ∙ sym (append-nil (replicate r.length r.basic)))
laid_longer (r ∷ []) (suc k) n b d h e = absurd (omega arith)
laid_longer (r ∷ s ∷ rs) zero n b d h e = absurd (omega arith)
laid_longer (r ∷ s ∷ rs) (suc k) n b d h e = ap (λ l. replicate r.length r.basic ++ l) (laid_longer (s ∷ rs) k n b d (omega arith) e) ∙ sym (append_assoc (replicate r.length r.basic) (laid (s ∷ rs)) (replicate n b))

pub run_within : (rs : List Run) (k : ℕ) (d : Run) → k < length rs → (get_or rs k d).length ≤ length (laid rs)
run_within [] k d h = absurd (omega arith)
run_within (r ∷ rs) zero d h = omega (arith, length-append (replicate r.length r.basic) (laid rs), length-replicate r.length r.basic)
run_within (r ∷ rs) (suc k) d h = omega (arith, length-append (replicate r.length r.basic) (laid rs), run_within rs k d (omega arith))

pub laid_more : (rs : List Run) (i : ℕ) (d : Run) → i < length rs → laid (take (i + 1) rs) ≡ laid (take i rs) ++ replicate (get_or rs i d).length (get_or rs i d).basic
laid_more [] i d h = absurd (omega arith)
laid_more (r ∷ rs) zero d h = append-nil (replicate r.length r.basic)
laid_more (r ∷ rs) (suc i) d h =
    let u = replicate r.length r.basic in
    let e : suc i + 1 ≡ suc (i + 1) = omega arith in
    ap (λ (n : ℕ). laid (take n (r ∷ rs))) e ∙ ap (λ l. u ++ l) (laid_more rs i d (omega arith)) ∙ sym (append_assoc u (laid (take i rs)) (replicate (get_or rs i d).length (get_or rs i d).basic))

pub laid_front : (rs : List Run) (i : ℕ) → length (laid (take i rs)) ≤ length (laid rs)
laid_front [] zero = omega arith
laid_front [] (suc i) = omega arith
laid_front (r ∷ rs) zero = omega arith
laid_front (r ∷ rs) (suc i) =
    let u = replicate r.length r.basic in
    omega (arith, laid_front rs i, length-append u (laid (take i rs)), length-append u (laid rs))

-- one run more leaves the length within that of all
pub room_for : (rs : List Run) (i : ℕ) (d : Run) → i < length rs → length (laid (take i rs)) + (get_or rs i d).length ≤ length (laid rs)
room_for rs i d h =
    let u = replicate (get_or rs i d).length (get_or rs i d).basic in
    omega (arith, ap length (laid_more rs i d h), length-append (laid (take i rs)) u, length-replicate (get_or rs i d).length (get_or rs i d).basic, laid_front rs (i + 1))

pub total_more : (rs : List Run) (i : ℕ) (d : Run) → i < length rs → length (laid (take i rs)) + (get_or rs i d).length ≡ length (laid (take (i + 1) rs))
total_more rs i d h =
    let u = replicate (get_or rs i d).length (get_or rs i d).basic in
    omega (arith, ap length (laid_more rs i d h), length-append (laid (take i rs)) u, length-replicate (get_or rs i d).length (get_or rs i d).basic)

pub appended_more : (start now rs : List Run) (added : List Basic) (i : ℕ) (d : Run) → i < length rs → now ≡ now → added ≡ (laid start ++ laid (take i rs)) ++ replicate (get_or rs i d).length (get_or rs i d).basic → added ≡ laid start ++ laid (take (i + 1) rs)
appended_more start now rs added i d h _ e = e ∙ append_assoc (laid start) (laid (take i rs)) (replicate (get_or rs i d).length (get_or rs i d).basic) ∙ ap (λ l. laid start ++ l) (sym (laid_more rs i d h))

pub longer_at : (rs : List Run) (k n : ℕ) (b : Basic) (d last : Run) → last ≡ get_or rs k d → k + 1 ≡ length rs → EndsWith rs b →
    laid (slice_set rs k (record { basic = b; length = last.length + n })) ≡ laid rs ++ replicate n b
longer_at rs k n b d last l h e =
    ap (λ (r : Run). laid (slice_set rs k (record { basic = b; length = r.length + n }))) l ∙ laid_longer rs k n b d h (ap number_of_basic (end_at rs k b d h e))

pub last_room : (rs : List Run) (k n : ℕ) (d last : Run) → last ≡ get_or rs k d → k < length rs → length (laid rs) + n ≤ 2 ^ 62 → last.length + n < 2 ^ 64
last_room rs k n d last l h s = omega (arith, run_within rs k d h, ap (λ (r : Run). r.length) l)

pub copies_room : (n i l x : ℕ) → i < n → x + n * l ≤ 2 ^ 62 → x + i * l + l ≤ 2 ^ 62
copies_room zero i l x h s = absurd (omega arith)
copies_room (suc n) i l x h s = let e : suc n * l ≡ n * l + l = omega arith in let f = times_le i n l (omega arith) in omega (arith, e, f)
  where
    times_le : (i n l : ℕ) → i ≤ n → i * l ≤ n * l
    times_le i n l h = grind (arith, h)

pub no_runs_more : (rs : List Run) (n : ℕ) → length rs ≡ 0 → repeated n (laid rs) ≡ []
no_runs_more [] n h = repeated_nil n
no_runs_more (r ∷ rs) n h = absurd (omega arith)

pub one_length : (rs : List Run) (d r : Run) → r ≡ get_or rs 0 d → length rs ≡ 1 → length (laid rs) ≡ r.length
one_length [] d r e h = absurd (omega arith)
one_length (s ∷ []) d r e h = ap length (append-nil (replicate s.length s.basic)) ∙ length-replicate s.length s.basic ∙ sym (ap (λ (x : Run). x.length) e)
one_length (s ∷ t ∷ rs) d r e h = absurd (omega arith)

pub long_short : (rs : List Run) (n x : ℕ) (d : Run) → length rs ≡ 1 → x + n * length (laid rs) ≤ 2 ^ 62 → x + n * (get_or rs 0 d).length ≤ 2 ^ 62
long_short rs n x d h s = omega (arith, s, ap (λ k. n * k) (one_length rs d (get_or rs 0 d) refl h))

pub long_room : (rs : List Run) (n x : ℕ) (d : Run) → length rs ≡ 1 → x + n * length (laid rs) ≤ 2 ^ 62 → n * (get_or rs 0 d).length < 2 ^ 64
long_room rs n x d h s = omega (arith, long_short rs n x d h s)

pub one_filled : (rs : List Run) (d r : Run) → r ≡ get_or rs 0 d → length rs ≡ 1 → AreRuns rs → 0 < r.length
one_filled [] d r e h f = absurd (omega arith)
one_filled (s ∷ rs) d r e h f = omega (arith, ap (λ (x : Run). x.length) e, f.0)

pub times_some : (n k : ℕ) → (n ≡ 0 → ⊥) → 0 < k → 0 < n * k
times_some zero k h p = absurd (h refl)
times_some (suc n) k h p = let l : suc n * k ≡ n * k + k = omega arith in omega (arith, l, p)

pub one_more : {X : Type 0} (n : ℕ) (u : List X) → repeated n u ++ u ≡ repeated (n + 1) u
one_more n u = let s : suc n ≡ n + 1 = omega arith in sym (repeated_more n u) ∙ ap (λ k. repeated k u) s

pub long_run : (rs : List Run) (n : ℕ) (d r : Run) → r ≡ get_or rs 0 d → length rs ≡ 1 → replicate (n * r.length) r.basic ≡ repeated n (laid rs)
long_run [] n d r e h = absurd (omega arith)
long_run (s ∷ []) n d r e h =
    ap (λ (x : Run). replicate (n * x.length) x.basic) e ∙ sym (repeated_replicate n s.length s.basic) ∙ ap (repeated n) (sym (append-nil (replicate s.length s.basic)))
long_run (s ∷ t ∷ rs) n d r e h = absurd (omega arith)
