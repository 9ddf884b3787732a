-- What is kept of persistent requests after one more call.
use Rattle.std.proofs.Common.{◌≡◌, ℕ, zero, suc, ◌<◌, Bool, true, false, cond, not, ◌&&◌, ◌||◌, ◌==◌, List, [], ◌∷◌, ◌++◌, length, take, Option, Some, None, refl, sym, ap, subst, ◌∙◌, arith}
use Rattle.std.specs.Prelude.{if◌then◌else◌, nat_eq, slice_get}
use Rattle.std.specs.Ordering.{nat_cmp}
use Rattle.std.specs.BTreeMap.{BTreeMap, get, is_at}
use Rattle.std.specs.Map.{lookup}
use Rattle.std.specs.Option.{option_to_list}
use Rattle.must_call.specs.declared.class.Class.TheVariants.{Comm, Group, Datatype, Operation, Request}
use Rattle.must_call.specs.declared.life.Life.{Life}
use Rattle.must_call.specs.declared.life.Life.TheVariants.{Never, Live, Freed, Predefined}
use Rattle.must_call.specs.declared.call.Call.{Call}
use Rattle.must_call.specs.Handles.{ClassedHandle}
use Rattle.must_call.specs.declared.body.Body.{Body}
use Rattle.must_call.specs.declared.body.Body.TheVariants.{Frame, Point, Finish, Derive, Object, Collective, Persist, Started}
use Rattle.must_call.specs.declared.persist.Persist.TheVariants.{SendInit, SsendInit, RecvInit, Start, Startall}
use Rattle.must_call.specs.Made.{made_of}
use Rattle.must_rules.specs.Rank.{Rank}
use Rattle.must_rules.specs.Making.{numbered as made_numbered, is_handle, is_in, makes, frees, freed_of, completes, persists, is_persistent_kind, made_by}
use Rattle.must_rules.specs.Starts.{is_start_kind}
use Rattle.must_rules.specs.Lives.{life, is_kept, ends}
use Rattle.must_rules.specs.LifeLaws.{next_life, next_kept, life_more, kept_more, kept_first, kept_never, live_within}
use Rattle.must_rules.specs.Parts.{Part, numbered}
use Rattle.must_rules.specs.PendingOperations.{parts_behind, part_by, part_made}
use Rattle.must_parts.specs.declared.placed.Placed.{Placed}
use Rattle.must_parts.specs.Placing.{IsPlaced, IsPlacedOf, ArePlaced}
use Rattle.must_parts.specs.Ending.{freed_in}
use Rattle.must_parts.specs.Keeping.{part_kept, unless_lived, fresh_request, with_part}
use Rattle.must_args.proofs.Seen.{seen_more}
use Rattle.must_parts.proofs.Matching.{matched_last, matched_none}
use Rattle.must_parts.proofs.Ending.{same_test, frees_is}

-- the first of two, or else the other
abbrev pub or_part : {X : Type 0} → Option X → Option X → Option X
or_part None other = other
or_part (Some x) other = Some x

-- ---- one call more

get_front : (xs ys : List Call) (i : ℕ) → i < length xs → slice_get (xs ++ ys) i ≡ slice_get xs i
get_front [] ys i h = absurd (omega arith)
get_front (x ∷ xs) ys zero h = refl
get_front (x ∷ xs) ys (suc i) h = get_front xs ys i (omega arith)

get_there : (xs : List Call) (x : Call) → slice_get (xs ++ x ∷ []) (length xs) ≡ Some x
get_there [] x = refl
get_there (y ∷ xs) x = get_there xs x

take_front : (xs ys : List Call) (i : ℕ) → i < length xs → take i (xs ++ ys) ≡ take i xs
take_front [] ys i h = absurd (omega arith)
take_front (x ∷ xs) ys zero h = refl
take_front (x ∷ xs) ys (suc i) h = ap (λ (l : List Call). x ∷ l) (take_front xs ys i (omega arith))

pub take_there : {X : Type 0} (xs ys : List X) → take (length xs) (xs ++ ys) ≡ xs
take_there [] ys = refl
take_there {X = X} (x ∷ xs) ys = ap (λ (l : List X). x ∷ l) (take_there xs ys)

-- what is kept of a request after one more call, which makes it as a persistent one, or frees it
abbrev pub part_after : Life → (makes frees : Bool) → (fresh old : Option Part) → Option Part
part_after Never makes frees fresh old = if makes then fresh else None
part_after _ makes frees fresh old = if frees then None else old

module _ (r : Rank) (calls : List Call) (call : Call) where
  made_last : part_made r (calls ++ call ∷ []) (Live (length calls)) ≡ numbered 0 (parts_behind r calls call)
  made_last = ap (λ (o : Option Call). part_by r (take (length calls) (calls ++ call ∷ [])) o) (get_there calls call) ∙ ap (λ (cs : List Call). numbered 0 (parts_behind r cs call)) (take_there calls (call ∷ []))

  made_before : (made : ℕ) → made < length calls → part_made r (calls ++ call ∷ []) (Live made) ≡ part_made r calls (Live made)
  made_before made h = ap (λ (o : Option Call). part_by r (take made (calls ++ call ∷ [])) o) (get_front calls (call ∷ []) made h) ∙ ap (λ (cs : List Call). part_by r cs (slice_get calls made)) (take_front calls (call ∷ []) made h)

  after_by : (l : Life) (m p f c q : Bool) → ((k : ℕ) → l ≡ Live k → k < length calls)
      → (if next_kept m p (f || (not q && c)) l q then part_made r (calls ++ call ∷ []) (next_life (length calls) m (f || (not q && c)) l) else None)
      ≡ part_after l (m && p) f (numbered 0 (parts_behind r calls call)) (if q then part_made r calls l else None)
  after_by Never true true f c q within = made_last
  after_by Never true false f c q within = refl
  after_by Never false p f c q within = refl
  after_by (Live made) m p true c q within = refl
  after_by (Live made) m p false c true within = made_before made (within made refl)
  after_by (Live made) m p false true false within = refl
  after_by (Live made) m p false false false within = refl
  after_by (Freed made freed) m p true c q within = refl
  after_by (Freed made freed) m p false c true within = refl
  after_by (Freed made freed) m p false c false within = refl
  after_by Predefined m p true c q within = refl
  after_by Predefined m p false c true within = refl
  after_by Predefined m p false c false within = refl

  pub kept_after : (n : ℕ) → part_kept r (calls ++ call ∷ []) n ≡ part_after (life calls Request n) (makes Request n call && persists call) (frees Request n call) (numbered 0 (parts_behind r calls call)) (part_kept r calls n)
  unfolding part_kept
  kept_after n =
      let e = ends (is_kept calls Request n) Request n call in
      ap (λ (b : Bool). if b then part_made r (calls ++ call ∷ []) (life (calls ++ call ∷ []) Request n) else None) (kept_more calls call Request n)
      ∙ ap (λ (l : Life). if next_kept (makes Request n call) (persists call) e (life calls Request n) (is_kept calls Request n) then part_made r (calls ++ call ∷ []) l else None) (life_more calls call Request n)
      ∙ after_by (life calls Request n) (makes Request n call) (persists call) (frees Request n call) (completes Request n call) (is_kept calls Request n) (λ k e. live_within calls Request n k e)

-- nothing is kept of what was never made
pub never_kept : (r : Rank) (calls : List Call) (n : ℕ) → life calls Request n ≡ Never → part_kept r calls n ≡ None
unfolding part_kept
never_kept r calls n e = ap (λ (b : Bool). if b then part_made r calls (life calls Request n) else None) (kept_never calls Request n e)

pub first_kept : (r : Rank) (n : ℕ) → part_kept r [] n ≡ None
unfolding part_kept
first_kept r n = ap (λ (b : Bool). if b then part_made r [] (life [] Request n) else None) (kept_first Request n)

-- ---- a call that makes a persistent request

unmade : (l : Life) (o : Option Placed) (fresh kept : Option Part) → (l ≡ Never → kept ≡ None) → IsPlacedOf o kept → IsPlacedOf o (part_after l false false fresh kept)
unmade Never o fresh kept none m = subst (IsPlacedOf o) (none refl) m
unmade (Live made) o fresh kept none m = m
unmade (Freed made freed) o fresh kept none m = m
unmade Predefined o fresh kept none m = m

other_part : (l : Life) (h n : ℕ) (at : ℕ → Option Placed) (part : Option Placed) → nat_eq n h ≡ false → at n ≡ with_part at (unless_lived l h) part n
other_part Never h n at None e = refl
other_part Never h n at (Some p) e = ap (λ (b : Bool). cond b (Some p) (at n)) (sym e)
other_part (Live made) h n at part e = refl
other_part (Freed made freed) h n at part e = refl
other_part Predefined h n at part e = refl

no_part : (o : Option Placed) (fresh kept : Option Part) → kept ≡ None → IsPlacedOf o kept → IsPlacedOf None fresh → IsPlacedOf o fresh
no_part o None kept e m none = subst (IsPlacedOf o) e m
no_part o (Some p) kept e m none = absurd none

own_part : (l : Life) (n : ℕ) (at : ℕ → Option Placed) (part : Option Placed) (fresh kept : Option Part) → nat_eq n n ≡ true → (l ≡ Never → kept ≡ None) → IsPlacedOf (at n) kept → IsPlacedOf part fresh
    → IsPlacedOf (with_part at (unless_lived l n) part n) (part_after l true false fresh kept)
own_part Never n at (Some p) fresh kept same none m is = subst (λ (b : Bool). IsPlacedOf (cond b (Some p) (at n)) fresh) (sym same) is
own_part Never n at None fresh kept same none m is = no_part (at n) fresh kept (none refl) m is
own_part (Live made) n at part fresh kept same none m is = m
own_part (Freed made freed) n at part fresh kept same none m is = m
own_part Predefined n at part fresh kept same none m is = m

keep_own : (lives : ℕ → Life) (at : ℕ → Option Placed) (part : Option Placed) (fresh kept : Option Part) (h n : ℕ) (b : Bool) → (h == n) ≡ b → (lives n ≡ Never → kept ≡ None) → IsPlacedOf (at n) kept → IsPlacedOf part fresh
    → IsPlacedOf (with_part at (unless_lived (lives h) h) part n) (part_after (lives n) b false fresh kept)
keep_own lives at part fresh kept h n true e none m is =
    let same : h ≡ n = grind arith in
    let own : nat_eq n n ≡ true = grind arith in
    subst (λ (k : ℕ). IsPlacedOf (with_part at (unless_lived (lives k) k) part n) (part_after (lives n) true false fresh kept)) (sym same) (own_part (lives n) n at part fresh kept own none m is)
keep_own lives at part fresh kept h n false e none m is =
    let other : nat_eq n h ≡ false = grind arith in
    subst (λ (o : Option Placed). IsPlacedOf o (part_after (lives n) false false fresh kept)) (other_part (lives h) h n at part other) (unmade (lives n) (at n) fresh kept none m)

and_true : (b : Bool) → b ≡ (b && true)
and_true true = refl
and_true false = refl

keep_at : (lives : ℕ → Life) (made : Option ClassedHandle) (at : ℕ → Option Placed) (part : Option Placed) (fresh kept : Option Part) (n : ℕ) → (lives n ≡ Never → kept ≡ None) → IsPlacedOf (at n) kept → IsPlacedOf part fresh
    → IsPlacedOf (with_part at (fresh_request lives made) part n) (part_after (lives n) (is_handle Request n made && true) false fresh kept)
keep_at lives None at part fresh kept n none m is = unmade (lives n) (at n) fresh kept none m
keep_at lives (Some (Comm, h)) at part fresh kept n none m is = unmade (lives n) (at n) fresh kept none m
keep_at lives (Some (Group, h)) at part fresh kept n none m is = unmade (lives n) (at n) fresh kept none m
keep_at lives (Some (Datatype, h)) at part fresh kept n none m is = unmade (lives n) (at n) fresh kept none m
keep_at lives (Some (Operation, h)) at part fresh kept n none m is = unmade (lives n) (at n) fresh kept none m
keep_at lives (Some (Request, h)) at part fresh kept n none m is =
    subst (λ (b : Bool). IsPlacedOf (with_part at (unless_lived (lives h) h) part n) (part_after (lives n) b false fresh kept)) (and_true (h == n)) (keep_own lives at part fresh kept h n (h == n) refl none m is)

persists_frees : (b : Body) (returned : Bool) (n : ℕ) → is_persistent_kind b ≡ true → (returned && is_handle Request n (freed_of b)) ≡ false
persists_frees (Persist x) true n e = refl
persists_frees (Persist x) false n e = refl
persists_frees (Frame x) returned n e = let no : false ≡ true = e in absurd cc
persists_frees (Point x) returned n e = let no : false ≡ true = e in absurd cc
persists_frees (Finish x) returned n e = let no : false ≡ true = e in absurd cc
persists_frees (Derive x) returned n e = let no : false ≡ true = e in absurd cc
persists_frees (Object x) returned n e = let no : false ≡ true = e in absurd cc
persists_frees (Collective x) returned n e = let no : false ≡ true = e in absurd cc
persists_frees (Started x) returned n e = let no : false ≡ true = e in absurd cc

persistent_after : (r : Rank) (calls : List Call) (call : Call) (n : ℕ) → is_persistent_kind call.body ≡ true
    → part_after (life calls Request n) (is_handle Request n (made_by call) && true) false (numbered 0 (parts_behind r calls call)) (part_kept r calls n) ≡ part_kept r (calls ++ call ∷ []) n
unfolding persists frees
persistent_after r calls call n p =
    sym (kept_after r calls call n
    ∙ ap (λ (b : Bool). part_after (life calls Request n) (is_handle Request n (made_by call) && b) (frees Request n call) (numbered 0 (parts_behind r calls call)) (part_kept r calls n)) p
    ∙ ap (λ (b : Bool). part_after (life calls Request n) (is_handle Request n (made_by call) && true) b (numbered 0 (parts_behind r calls call)) (part_kept r calls n)) (persists_frees call.body call.returned n p))

pub keep_step : (r : Rank) (calls : List Call) (call : Call) (lives : ℕ → Life) (old new : ℕ → Option Placed) (part : Option Placed) → is_persistent_kind call.body ≡ true → lives ≡ life calls Request
    → ((n : ℕ) → IsPlacedOf (old n) (part_kept r calls n)) → IsPlacedOf part (numbered 0 (parts_behind r calls call))
    → ((n : ℕ) → new n ≡ with_part old (fresh_request lives (made_by call)) part n) → (n : ℕ) → IsPlacedOf (new n) (part_kept r (calls ++ call ∷ []) n)
keep_step r calls call lives old new part p l kept is e n =
    subst (λ (o : Option Placed). IsPlacedOf o (part_kept r (calls ++ call ∷ []) n)) (sym (e n ∙ ap (λ (ls : ℕ → Life). with_part old (fresh_request ls (made_by call)) part n) l))
    (subst (IsPlacedOf (with_part old (fresh_request (life calls Request) (made_by call)) part n)) (persistent_after r calls call n p)
    (keep_at (life calls Request) (made_by call) old part (numbered 0 (parts_behind r calls call)) (part_kept r calls n) n (never_kept r calls n) (kept n) is))

-- ---- a call that starts requests

start_makes : (b : Body) → is_start_kind b ≡ true → made_of b ≡ None
start_makes (Persist (Start request)) e = refl
start_makes (Persist (Startall requests)) e = refl
start_makes (Persist (SendInit a b c d f g h)) e = let no : false ≡ true = e in absurd cc
start_makes (Persist (SsendInit a b c d f g h)) e = let no : false ≡ true = e in absurd cc
start_makes (Persist (RecvInit a b c d f g h)) e = let no : false ≡ true = e in absurd cc
start_makes (Frame x) e = let no : false ≡ true = e in absurd cc
start_makes (Point x) e = let no : false ≡ true = e in absurd cc
start_makes (Finish x) e = let no : false ≡ true = e in absurd cc
start_makes (Derive x) e = let no : false ≡ true = e in absurd cc
start_makes (Object x) e = let no : false ≡ true = e in absurd cc
start_makes (Collective x) e = let no : false ≡ true = e in absurd cc
start_makes (Started x) e = let no : false ≡ true = e in absurd cc

pub start_persists : (b : Body) → is_start_kind b ≡ true → is_persistent_kind b ≡ true
start_persists (Persist x) e = refl
start_persists (Frame x) e = let no : false ≡ true = e in absurd cc
start_persists (Point x) e = let no : false ≡ true = e in absurd cc
start_persists (Finish x) e = let no : false ≡ true = e in absurd cc
start_persists (Derive x) e = let no : false ≡ true = e in absurd cc
start_persists (Object x) e = let no : false ≡ true = e in absurd cc
start_persists (Collective x) e = let no : false ≡ true = e in absurd cc
start_persists (Started x) e = let no : false ≡ true = e in absurd cc

start_made : (call : Call) → is_start_kind call.body ≡ true → made_by call ≡ None
unfolding made_by
start_made call e = at call.returned
  where
    at : (b : Bool) → (if b then made_numbered (made_of call.body) else None) ≡ None
    at true = ap made_numbered (start_makes call.body e)
    at false = refl

pub start_step : (r : Rank) (calls : List Call) (call : Call) (at : ℕ → Option Placed) → is_start_kind call.body ≡ true → ((n : ℕ) → IsPlacedOf (at n) (part_kept r calls n)) → (n : ℕ) → IsPlacedOf (at n) (part_kept r (calls ++ call ∷ []) n)
start_step r calls call at s kept n =
    subst (IsPlacedOf (at n)) (persistent_after r calls call n (start_persists call.body s))
    (subst (λ (o : Option ClassedHandle). IsPlacedOf (at n) (part_after (life calls Request n) (is_handle Request n o && true) false (numbered 0 (parts_behind r calls call)) (part_kept r calls n))) (sym (start_made call s))
    (unmade (life calls Request n) (at n) (numbered 0 (parts_behind r calls call)) (part_kept r calls n) (never_kept r calls n) (kept n)))

-- ---- any other call

release_at : (l : Life) (m f : Bool) (o : Option Placed) (fresh kept : Option Part) → (l ≡ Never → kept ≡ None) → IsPlacedOf o kept → IsPlacedOf (if f then None else o) (part_after l (m && false) f fresh kept)
release_at Never true true o fresh kept none m = tt
release_at Never false true o fresh kept none m = tt
release_at Never true false o fresh kept none m = subst (IsPlacedOf o) (none refl) m
release_at Never false false o fresh kept none m = subst (IsPlacedOf o) (none refl) m
release_at (Live made) a true o fresh kept none m = tt
release_at (Live made) a false o fresh kept none m = m
release_at (Freed made freed) a true o fresh kept none m = tt
release_at (Freed made freed) a false o fresh kept none m = m
release_at Predefined a true o fresh kept none m = tt
release_at Predefined a false o fresh kept none m = m

frees_told : (call : Call) (o : Option ℕ) (n : ℕ) → option_to_list o ≡ freed_in call → frees Request n call ≡ is_in (option_to_list o) n
unfolding frees
frees_told call o n e = frees_is call.returned (freed_of call.body) n ∙ ap (λ (l : List ℕ). is_in l n) (sym e)

pub release_step : (r : Rank) (calls : List Call) (call : Call) (freed : Option ℕ) (old new : ℕ → Option Placed) → is_persistent_kind call.body ≡ false → option_to_list freed ≡ freed_in call
    → ((n : ℕ) → IsPlacedOf (old n) (part_kept r calls n)) → ((n : ℕ) → new n ≡ (if is_in (option_to_list freed) n then None else old n)) → (n : ℕ) → IsPlacedOf (new n) (part_kept r (calls ++ call ∷ []) n)
unfolding persists
release_step r calls call freed old new p f kept e n =
    let fresh = numbered 0 (parts_behind r calls call) in
    let after : part_after (life calls Request n) (is_handle Request n (made_by call) && false) (is_in (option_to_list freed) n) fresh (part_kept r calls n) ≡ part_kept r (calls ++ call ∷ []) n =
    sym (kept_after r calls call n
    ∙ ap (λ (b : Bool). part_after (life calls Request n) (is_handle Request n (made_by call) && b) (frees Request n call) fresh (part_kept r calls n)) p
    ∙ ap (λ (b : Bool). part_after (life calls Request n) (is_handle Request n (made_by call) && false) b fresh (part_kept r calls n)) (frees_told call freed n f)) in
    subst (λ (o : Option Placed). IsPlacedOf o (part_kept r (calls ++ call ∷ []) n)) (sym (e n))
    (subst (IsPlacedOf (if is_in (option_to_list freed) n then None else old n)) after
    (release_at (life calls Request n) (is_handle Request n (made_by call)) (is_in (option_to_list freed) n) (old n) fresh (part_kept r calls n) (never_kept r calls n) (kept n)))

-- ---- keys

cond_self : (b : Bool) → b ≡ cond b true false
cond_self true = refl
cond_self false = refl

same_key : (k n : ℕ) → is_at (nat_cmp k) n ≡ nat_eq n k
same_key k n = cond_self (is_at (nat_cmp k) n) ∙ seen_more k n false

pub put_key : (k n : ℕ) (x o : Option Placed) (y : Option Placed) → y ≡ cond (is_at (nat_cmp k) n) x o → y ≡ (if nat_eq n k then x else o)
put_key k n x o y e = e ∙ ap (λ (b : Bool). cond b x o) (same_key k n)

pub removed_key : (k n : ℕ) (o y : Option Placed) → y ≡ cond (is_at (nat_cmp k) n) None o → y ≡ (if is_in (k ∷ []) n then None else o)
removed_key k n o y e = e ∙ ap (λ (b : Bool). cond {A = Option Placed} b None o) (same_key k n ∙ same_test k n)

-- ---- the part with a number, the last part apart

pub found_none : (n : ℕ) (ps : List Part) → ArePlaced [] ps → IsPlacedOf None (numbered n ps)
found_none n ps all = subst (λ (l : List Part). IsPlacedOf None (numbered n l)) (sym (matched_none IsPlaced ps all)) tt

last_found : (n : ℕ) (front : List Part) (last : Part) → numbered n (front ++ last ∷ []) ≡ or_part (numbered n front) (if nat_eq last.number n then Some last else None)
last_found n [] last = refl
last_found n (p ∷ front) last = at (nat_eq p.number n) (last_found n front last)
  where
    at : (b : Bool) → numbered n (front ++ last ∷ []) ≡ or_part (numbered n front) (if nat_eq last.number n then Some last else None)
        → cond b (Some p) (numbered n (front ++ last ∷ [])) ≡ or_part (cond b (Some p) (numbered n front)) (if nat_eq last.number n then Some last else None)
    at true e = refl
    at false e = e

-- what is found among those before, or else the last
pub found_last : (n : ℕ) (xs : List Placed) (x : Placed) (ps : List Part) (o : Option Placed) (b : Bool) → ArePlaced (xs ++ x ∷ []) ps → ((qs : List Part) → ArePlaced xs qs → IsPlacedOf o (numbered n qs)) → nat_eq x.number n ≡ b
    → IsPlacedOf (or_part o (if b then Some x else None)) (numbered n ps)
found_last n xs x ps o b all before e =
    let split = matched_last IsPlaced xs x ps all in
    let same : nat_eq split.last.number n ≡ b = ap (λ k. nat_eq k n) (sym split.lasts.number_is) ∙ e in
    subst (IsPlacedOf (or_part o (if b then Some x else None))) (sym (ap (numbered n) split.ys_are ∙ last_found n split.front split.last ∙ ap (λ (c : Bool). or_part (numbered n split.front) (if c then Some split.last else None)) same))
    (at o (numbered n split.front) b (before split.front split.fronts))
  where
    at : (o : Option Placed) (p : Option Part) (b : Bool) → IsPlacedOf o p → IsPlacedOf (or_part o (if b then Some x else None)) (or_part p (if b then Some (matched_last IsPlaced xs x ps all).last else None))
    at (Some y) (Some q) b m = m
    at (Some y) None b m = absurd m
    at None (Some q) b m = absurd m
    at None None true m = (matched_last IsPlaced xs x ps all).lasts
    at None None false m = tt

-- no keys
pub empty_key : (parts : BTreeMap ℕ Placed) (n : ℕ) (p : Option Part) → parts.entries ≡ [] → p ≡ None → IsPlacedOf (get nat_cmp parts n) p
empty_key parts n p e none =
    subst (λ (o : Option Placed). IsPlacedOf o p) (sym (ap (lookup (is_at (nat_cmp n))) e)) (subst (IsPlacedOf None) (sym none) tt)
