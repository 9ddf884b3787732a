-- How lives change by one call more.
use Rattle.std.proofs.Common.{◌≡◌, ℕ, zero, suc, ◌+◌, ◌<◌, Bool, true, false, cond, ◌&&◌, ◌||◌, List, [], ◌∷◌, ◌++◌, length, Option, Some, None, refl, ap, ◌∙◌, arith}
use Rattle.std.specs.Prelude.{not, if◌then◌else◌, reverse, slice_get}
use Rattle.std.specs.List.{filter_map, cons_option}
use Rattle.std.proofs.lemmas.List.{reverse-append, reverse-reverse}
use Rattle.must_call.specs.declared.class.Class.{Class}
use Rattle.must_call.specs.declared.class.Class.TheVariants.{Datatype}
use Rattle.must_call.specs.declared.life.Life.{Life}
use Rattle.must_call.specs.declared.life.Life.TheVariants.{Never, Live, Freed, Predefined}
use Rattle.must_call.specs.declared.call.Call.{Call}
use Rattle.must_call.specs.Handles.{ClassedHandle}
use Rattle.must_rules.specs.Search.{first_where, first_behind, or_then, only_if}
use Rattle.must_rules.specs.SearchLaws.{first_more, first_within, behind_more, behind_last}
use Rattle.must_rules.specs.Making.{makes, persists, made_by, commits, copies}
use Rattle.must_rules.specs.Lives.{ends, is_predefined, persists_in, life, life_by, life_from, is_kept, is_kept_by, committed, committed_by, commits_live, copies_committed, made_count}

-- the life of a handle after one more call, of which these say whether it makes the handle and whether it ends it
abbrev pub next_life : ℕ → Bool → Bool → Life → Life
next_life k makes ends Never = if makes then Live k else Never
next_life k makes ends (Live made) = if ends then Freed made k else Live made
next_life k makes ends (Freed made freed) = Freed made freed
next_life k makes ends Predefined = Predefined

-- what was never made after a call was never made before it
pub was_never : (k : ℕ) (m e : Bool) (l : Life) → next_life k m e l ≡ Never → l ≡ Never
was_never k m e Never h = refl
was_never k m true (Live made) h = let no : Freed made k ≡ Never = h in absurd cc
was_never k m false (Live made) h = let no : Live made ≡ Never = h in absurd cc
was_never k m e (Freed made freed) h = let no : Freed made freed ≡ Never = h in absurd cc
was_never k m e Predefined h = let no : Predefined ≡ Never = h in absurd cc

get_front : (xs ys : List Call) (i : ℕ) → i < length xs → slice_get (xs ++ ys) i ≡ slice_get xs i
get_front [] ys i h = absurd (omega arith)
get_front (x ∷ xs) ys zero h = refl
get_front (x ∷ xs) ys (suc i) h = get_front xs ys i (omega arith)

get_there : (xs : List Call) (x : Call) → slice_get (xs ++ x ∷ []) (length xs) ≡ Some x
get_there [] x = refl
get_there (y ∷ xs) x = get_there xs x

by_more : (calls : List Call) (call : Call) (class : Class) (number : ℕ) (o : Option ℕ) (more : Bool) → first_where (makes class number) calls ≡ o
    → life_by (calls ++ call ∷ []) class number (or_then o (only_if more (length calls)))
    ≡ next_life (length calls) more (ends (is_kept_by calls (life_by calls class number o)) class number call) (life_by calls class number o)
by_more calls call class number None true e = ap (life_from (length calls)) (behind_last (ends (persists_in (slice_get (calls ++ call ∷ []) (length calls))) class number) calls call)
by_more calls call class number None false e = refl
by_more calls call class number (Some made) more e =
    let within = first_within (makes class number) calls made e in
    ap (λ (c : Option Call). life_from made (first_behind made (ends (persists_in c) class number) (calls ++ call ∷ []))) (get_front calls (call ∷ []) made within)
    ∙ ap (life_from made) (behind_more made (ends (persists_in (slice_get calls made)) class number) calls call within)
    ∙ at (first_behind made (ends (persists_in (slice_get calls made)) class number) calls)
  where
    ended : (b : Bool) → life_from made (only_if b (length calls)) ≡ cond b (Freed made (length calls)) (Live made)
    ended true = refl
    ended false = refl

    at : (o : Option ℕ) → life_from made (or_then o (only_if (ends (persists_in (slice_get calls made)) class number call) (length calls)))
        ≡ next_life (length calls) more (ends (is_kept_by calls (life_from made o)) class number call) (life_from made o)
    at None = ended (ends (persists_in (slice_get calls made)) class number call)
    at (Some k) = refl

-- one call more
pub life_more : (calls : List Call) (call : Call) (class : Class) (number : ℕ)
    → life (calls ++ call ∷ []) class number ≡ next_life (length calls) (makes class number call) (ends (is_kept calls class number) class number call) (life calls class number)
unfolding life is_kept
life_more calls call class number =
    ap (λ (o : Option ℕ). cond (is_predefined class number) Predefined (life_by (calls ++ call ∷ []) class number o)) (first_more (makes class number) calls call)
    ∙ at (is_predefined class number)
  where
    at : (b : Bool) → cond b Predefined (life_by (calls ++ call ∷ []) class number (or_then (first_where (makes class number) calls) (only_if (makes class number call) (length calls))))
        ≡ next_life (length calls) (makes class number call) (ends (is_kept_by calls (cond b Predefined (life_by calls class number (first_where (makes class number) calls)))) class number call) (cond b Predefined (life_by calls class number (first_where (makes class number) calls)))
    at true = refl
    at false = by_more calls call class number (first_where (makes class number) calls) (makes class number call) refl

-- before the first call only the predefined handles are there
pub life_first : (class : Class) (number : ℕ) → life [] class number ≡ cond (is_predefined class number) Predefined Never
unfolding life
life_first class number = refl

live_made : (made k : ℕ) (o : Option ℕ) → life_from made o ≡ Live k → made ≡ k
live_made made k None e = cc
live_made made k (Some f) e = let no : Freed made f ≡ Live k = e in absurd cc

-- a live handle was made by one of the calls
pub live_within : (calls : List Call) (class : Class) (number k : ℕ) → life calls class number ≡ Live k → k < length calls
unfolding life
live_within calls class number k e = at (is_predefined class number) e
  where
    by : (o : Option ℕ) → first_where (makes class number) calls ≡ o → life_by calls class number o ≡ Live k → k < length calls
    by None f g = let no : Never ≡ Live k = g in absurd cc
    by (Some made) f g =
        let same = live_made made k (first_behind made (ends (persists_in (slice_get calls made)) class number) calls) g in
        omega (arith, first_within (makes class number) calls made f)

    at : (b : Bool) → cond b Predefined (life_by calls class number (first_where (makes class number) calls)) ≡ Live k → k < length calls
    at true f = let no : Predefined ≡ Live k = f in absurd cc
    at false f = by (first_where (makes class number) calls) refl f

-- ---- persistent requests

-- whether a live handle is a persistent request after one more call, which may make one
abbrev pub next_kept : Bool → Bool → Bool → Life → Bool → Bool
next_kept makes persists ends Never is_kept = makes && persists
next_kept makes persists ends (Live made) is_kept = not ends && is_kept
next_kept makes persists ends (Freed made freed) is_kept = false
next_kept makes persists ends Predefined is_kept = false

kept_by_more : (calls : List Call) (call : Call) (class : Class) (number : ℕ) (l : Life) (m e : Bool) → ((k : ℕ) → l ≡ Live k → k < length calls)
    → is_kept_by (calls ++ call ∷ []) (next_life (length calls) m e l) ≡ next_kept m (persists call) e l (is_kept_by calls l)
kept_by_more calls call class number Never true e within = ap persists_in (get_there calls call)
kept_by_more calls call class number Never false e within = refl
kept_by_more calls call class number (Live made) m true within = refl
kept_by_more calls call class number (Live made) m false within = ap persists_in (get_front calls (call ∷ []) made (within made refl))
kept_by_more calls call class number (Freed made freed) m e within = refl
kept_by_more calls call class number Predefined m e within = refl

-- one call more
pub kept_more : (calls : List Call) (call : Call) (class : Class) (number : ℕ)
    → is_kept (calls ++ call ∷ []) class number ≡ next_kept (makes class number call) (persists call) (ends (is_kept calls class number) class number call) (life calls class number) (is_kept calls class number)
unfolding is_kept
kept_more calls call class number =
    ap (is_kept_by (calls ++ call ∷ [])) (kept_life calls call class number)
    ∙ kept_by_more calls call class number (life calls class number) (makes class number call) (ends (is_kept_by calls (life calls class number)) class number call) (λ k e. live_within calls class number k e)
  where
    kept_life : (cs : List Call) (c : Call) (class : Class) (number : ℕ) → life (cs ++ c ∷ []) class number ≡ next_life (length cs) (makes class number c) (ends (is_kept_by cs (life cs class number)) class number c) (life cs class number)
    kept_life cs c class number = life_more cs c class number

-- what isn't live isn't kept
pub kept_never : (calls : List Call) (class : Class) (number : ℕ) → life calls class number ≡ Never → is_kept calls class number ≡ false
unfolding is_kept
kept_never calls class number e = ap (is_kept_by calls) e

pub kept_first : (class : Class) (number : ℕ) → is_kept [] class number ≡ false
unfolding is_kept
kept_first class number = ap (is_kept_by []) (life_first class number) ∙ at (is_predefined class number)
  where
    at : (b : Bool) → is_kept_by [] (cond b Predefined Never) ≡ false
    at true = refl
    at false = refl

-- nothing made and nothing ended
pub kept_same : (calls : List Call) (class : Class) (number : ℕ) (more : Bool) → is_kept calls class number ≡ next_kept false more false (life calls class number) (is_kept calls class number)
unfolding is_kept
kept_same calls class number more = at (life calls class number)
  where
    at : (l : Life) → is_kept_by calls l ≡ next_kept false more false l (is_kept_by calls l)
    at Never = refl
    at (Live made) = refl
    at (Freed made freed) = refl
    at Predefined = refl

-- ---- committed types

pub committed_more : (calls : List Call) (call : Call) (number : ℕ)
    → committed (calls ++ call ∷ []) number ≡ committed calls number || (commits_live (commits number call) (life calls Datatype number) || copies_committed (committed calls) (copies number call))
unfolding committed
committed_more calls call number =
    ap (λ (cs : List Call). committed_by cs number) (reverse-append calls (call ∷ []))
    ∙ ap (λ (cs : List Call). committed_by (reverse calls) number || (commits_live (commits number call) (life cs Datatype number) || copies_committed (committed_by (reverse calls)) (copies number call))) (reverse-reverse calls)

pub committed_first : (number : ℕ) → committed [] number ≡ is_predefined Datatype number
unfolding committed
committed_first number = refl

-- ---- how many handles

-- a call makes one handle at most
abbrev pub made_now : Option ClassedHandle → ℕ
made_now None = 0
made_now (Some h) = 1

pub made_count_more : (calls : List Call) (call : Call) → made_count (calls ++ call ∷ []) ≡ made_count calls + made_now (made_by call)
unfolding made_count
made_count_more [] call = one (made_by call)
  where
    one : (o : Option ClassedHandle) → length (cons_option o []) ≡ 0 + made_now o
    one None = refl
    one (Some h) = refl
made_count_more (c ∷ calls) call = more (made_by c) (made_count_more calls call)
  where
    more : (o : Option ClassedHandle) → length (filter_map made_by (calls ++ call ∷ [])) ≡ length (filter_map made_by calls) + made_now (made_by call) → length (cons_option o (filter_map made_by (calls ++ call ∷ []))) ≡ length (cons_option o (filter_map made_by calls)) + made_now (made_by call)
    more None e = e
    more (Some h) e = omega (arith, e)

pub made_count_first : made_count [] ≡ 0
unfolding made_count
made_count_first = refl
