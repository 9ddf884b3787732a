-- How the start of a request changes by one call more.
use Rattle.std.proofs.Common.{◌≡◌, ℕ, Bool, true, false, cond, ◌&&◌, ◌||◌, List, [], ◌∷◌, ◌++◌, length, Option, Some, None, refl, sym, ap, ◌∙◌}
use Rattle.std.specs.Prelude.{not, if◌then◌else◌, reverse}
use Rattle.std.proofs.lemmas.List.{reverse-append, reverse-reverse, length-reverse}
use Rattle.must_call.specs.declared.class.Class.TheVariants.{Request}
use Rattle.must_call.specs.declared.life.Life.{Life}
use Rattle.must_call.specs.declared.life.Life.TheVariants.{Never, Live, Freed, Predefined}
use Rattle.must_call.specs.declared.call.Call.{Call}
use Rattle.must_call.specs.Handles.{ClassedHandle}
use Rattle.must_call.specs.declared.body.Body.{Body}
use Rattle.must_call.specs.declared.body.Body.TheVariants.{Persist}
use Rattle.must_call.specs.declared.persist.Persist.TheVariants.{Start, Startall}
use Rattle.must_rules.specs.Search.{or_then, only_if}
use Rattle.must_rules.specs.Making.{is_in, made_by, makes, frees, completes, persists, started_of}
use Rattle.must_rules.specs.MakingLaws.{made_starts}
use Rattle.must_rules.specs.Lives.{ends, life, is_kept}
use Rattle.must_rules.specs.LifeLaws.{next_life, next_kept, was_never, life_more, kept_more, kept_never, life_first}
use Rattle.must_rules.specs.Starts.{Clearness, names_to_start, under_way_by, start_by, start_of, is_start_kind, TellsClear}

-- the start after one more call, by what it does and by what was there
abbrev pub next_start : ℕ → (makes persists ends completes names : Bool) → Life → Option ℕ → Option ℕ
next_start k makes persists ends completes names Never start = only_if (makes && not persists) k
next_start k makes persists ends completes names (Live made) start = if ends || completes then None else or_then start (only_if names k)
next_start k makes persists ends completes names (Freed made freed) start = None
next_start k makes persists ends completes names Predefined start = None

under_way_more : (is_clear : Clearness) (calls : List Call) (call : Call) (number : ℕ)
    → under_way_by is_clear (reverse (calls ++ call ∷ [])) number
    ≡ cond (completes Request number call) None (or_then (under_way_by is_clear (reverse calls) number) (only_if (names_to_start is_clear calls call number && is_kept calls Request number) (length calls)))
under_way_more is_clear calls call number =
    ap (λ (cs : List Call). under_way_by is_clear cs number) (reverse-append calls (call ∷ []))
    ∙ ap (λ (cs : List Call). cond (completes Request number call) None (or_then (under_way_by is_clear (reverse calls) number) (only_if (names_to_start is_clear cs call number && is_kept cs Request number) (length (reverse calls))))) (reverse-reverse calls)
    ∙ ap (λ n. cond (completes Request number call) None (or_then (under_way_by is_clear (reverse calls) number) (only_if (names_to_start is_clear calls call number && is_kept calls Request number) n))) (length-reverse calls)

nothing_added : (b n : Bool) (o : Option ℕ) (p : Bool) (k : ℕ) → o ≡ None → p ≡ false → cond b None (or_then o (only_if (n && p) k)) ≡ None
nothing_added true n o p k e f = refl
nothing_added false n o p k e f = ap (λ (x : Option ℕ). or_then x (only_if (n && p) k)) e ∙ ap (λ (x : Bool). only_if (n && x) k) f ∙ at n
  where
    at : (b : Bool) → only_if (b && false) k ≡ None
    at true = refl
    at false = refl

behind : (before : List Call) (last : Call) → reverse (last ∷ before) ≡ reverse before ++ last ∷ []
behind before last = reverse-append (last ∷ []) before

-- what was never made was never started; the last call stands first
never_by : (is_clear : Clearness) (before : List Call) (number : ℕ) → life (reverse before) Request number ≡ Never → under_way_by is_clear before number ≡ None
never_by is_clear [] number e = refl
never_by is_clear (last ∷ before) number e =
    let earlier = was_never (length (reverse before)) (makes Request number last) (ends (is_kept (reverse before) Request number) Request number last) (life (reverse before) Request number) (sym (life_more (reverse before) last Request number) ∙ ap (λ (cs : List Call). life cs Request number) (sym (behind before last)) ∙ e) in
    nothing_added (completes Request number last) (names_to_start is_clear (reverse before) last number) (under_way_by is_clear before number) (is_kept (reverse before) Request number) (length before) (never_by is_clear before number earlier) (kept_never (reverse before) Request number earlier)

never_under_way : (is_clear : Clearness) (calls : List Call) (number : ℕ) → life calls Request number ≡ Never → under_way_by is_clear (reverse calls) number ≡ None
never_under_way is_clear calls number e = never_by is_clear (reverse calls) number (ap (λ (cs : List Call). life cs Request number) (reverse-reverse calls) ∙ e)

start_step : (k : ℕ) (m p f c n : Bool) (l : Life) (is_kept : Bool) (under_way : Option ℕ) → (l ≡ Never → under_way ≡ None) → (l ≡ Never → is_kept ≡ false)
    → start_by (next_kept m p (f || (not is_kept && c)) l is_kept) (cond c None (or_then under_way (only_if (n && is_kept) k))) (next_life k m (f || (not is_kept && c)) l)
    ≡ next_start k m p (f || (not is_kept && c)) c n l (start_by is_kept under_way l)
start_step k true true f c n Never q u h g = nothing_added c n u q k (h refl) (g refl)
start_step k true false f c n Never q u h g = refl
start_step k false p f c n Never q u h g = refl
start_step k m p true c n (Live made) q u h g = refl
start_step k m p false true n (Live made) true u h g = refl
start_step k m p false true n (Live made) false u h g = refl
start_step k m p false false true (Live made) true u h g = refl
start_step k m p false false false (Live made) true u h g = refl
start_step k m p false false true (Live made) false u h g = refl
start_step k m p false false false (Live made) false u h g = refl
start_step k m p f c n (Freed made freed) q u h g = refl
start_step k m p f c n Predefined q u h g = refl

-- one call more
pub start_more : (is_clear : Clearness) (calls : List Call) (call : Call) (number : ℕ)
    → start_of is_clear (calls ++ call ∷ []) number
    ≡ next_start (length calls) (makes Request number call) (persists call) (ends (is_kept calls Request number) Request number call) (completes Request number call) (names_to_start is_clear calls call number)
    (life calls Request number) (start_of is_clear calls number)
unfolding start_of
start_more is_clear calls call number =
    let l = life calls Request number in
    let q = is_kept calls Request number in
    let u = under_way_by is_clear (reverse calls) number in
    let e = ends q Request number call in
    ap (λ (b : Bool). start_by b (under_way_by is_clear (reverse (calls ++ call ∷ [])) number) (life (calls ++ call ∷ []) Request number)) (kept_more calls call Request number)
    ∙ ap (λ (o : Option ℕ). start_by (next_kept (makes Request number call) (persists call) e l q) o (life (calls ++ call ∷ []) Request number)) (under_way_more is_clear calls call number)
    ∙ ap (λ (x : Life). start_by (next_kept (makes Request number call) (persists call) e l q) (cond (completes Request number call) None (or_then u (only_if (names_to_start is_clear calls call number && q) (length calls)))) x) (life_more calls call Request number)
    ∙ start_step (length calls) (makes Request number call) (persists call) (frees Request number call) (completes Request number call) (names_to_start is_clear calls call number) l q u
    (never_under_way is_clear calls number) (kept_never calls Request number)

pub start_first : (is_clear : Clearness) (number : ℕ) → start_of is_clear [] number ≡ None
unfolding start_of
start_first is_clear number = ap (λ (l : Life). start_by (is_kept [] Request number) None l) (life_first Request number) ∙ at (is_kept [] Request number) (Rattle.must_rules.specs.Lives.is_predefined Request number)
  where
    at : (q b : Bool) → start_by q None (cond b Predefined Never) ≡ None
    at true true = refl
    at true false = refl
    at false true = refl
    at false false = refl

starts_nothing : (b : Body) → is_start_kind b ≡ false → started_of b ≡ []
starts_nothing (Persist (Start r)) e = let no : true ≡ false = e in absurd cc
starts_nothing (Persist (Startall rs)) e = let no : true ≡ false = e in absurd cc
starts_nothing _ e = refl

-- only a call that starts requests needs to tell whether it is clear
pub names_told : (is_clear : Clearness) (earlier : List Call) (call : Call) (clear : Bool) (number : ℕ) → TellsClear is_clear earlier call clear
    → clear && is_in (started_of call.body) number ≡ names_to_start is_clear earlier call number
unfolding names_to_start
names_told is_clear earlier call clear number told = at (is_start_kind call.body) refl
  where
    none : (b c : Bool) → b && false ≡ c && false
    none true true = refl
    none true false = refl
    none false true = refl
    none false false = refl

    at : (b : Bool) → is_start_kind call.body ≡ b → clear && is_in (started_of call.body) number ≡ is_clear earlier call && is_in (started_of call.body) number
    at true e = ap (λ (c : Bool). c && is_in (started_of call.body) number) (sym (told e))
    at false e =
        ap (λ (ns : List ℕ). clear && is_in ns number) (starts_nothing call.body e)
        ∙ none clear (is_clear earlier call) ∙ ap (λ (ns : List ℕ). is_clear earlier call && is_in ns number) (sym (starts_nothing call.body e))

-- nothing made, ended, completed or started
pub start_same : (is_clear : Clearness) (calls : List Call) (number k : ℕ) (more : Bool) → start_of is_clear calls number ≡ next_start k false more false false false (life calls Request number) (start_of is_clear calls number)
unfolding start_of
start_same is_clear calls number k more = at (is_kept calls Request number) (under_way_by is_clear (reverse calls) number) (life calls Request number)
  where
    or_none : (o : Option ℕ) → o ≡ or_then o None
    or_none None = refl
    or_none (Some n) = refl

    at : (q : Bool) (u : Option ℕ) (l : Life) → start_by q u l ≡ next_start k false more false false false l (start_by q u l)
    at true u Never = refl
    at false u Never = refl
    at true u (Live made) = or_none u
    at false u (Live made) = refl
    at true u (Freed made freed) = refl
    at false u (Freed made freed) = refl
    at true u Predefined = refl
    at false u Predefined = refl

-- a call that makes a handle starts none
pub made_names : (is_clear : Clearness) (earlier : List Call) (call : Call) (h : ClassedHandle) (number : ℕ) → made_by call ≡ Some h → names_to_start is_clear earlier call number ≡ false
unfolding names_to_start
made_names is_clear earlier call h number e = ap (λ (ns : List ℕ). is_clear earlier call && is_in ns number) (made_starts call h e) ∙ none (is_clear earlier call)
  where
    none : (b : Bool) → b && false ≡ false
    none true = refl
    none false = refl
