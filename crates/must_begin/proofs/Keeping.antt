-- What is kept of persistent requests after one more call.
use Rattle.std.proofs.Common.{◌≡◌, ℕ, ◌<◌, Bool, true, false, cond, not, ◌&&◌, ◌||◌, ◌==◌, List, [], ◌∷◌, ◌++◌, length, Option, Some, None, refl, sym, ap, subst, ◌∙◌, arith}
use Rattle.std.specs.Prelude.{if◌then◌else◌, nat_eq}
use Rattle.std.specs.Ordering.{nat_cmp}
use Rattle.std.specs.BTreeMap.{BTreeMap, get, is_at}
use Rattle.std.specs.Map.{lookup}
use Rattle.std.specs.Option.{option_to_list}
use Rattle.must_call.specs.declared.class.Class.TheVariants.{Comm, Group, Datatype, Operation, Request}
use Rattle.must_call.specs.declared.life.Life.{Life}
use Rattle.must_call.specs.declared.life.Life.TheVariants.{Never, Live, Freed, Predefined}
use Rattle.must_call.specs.declared.call.Call.{Call}
use Rattle.must_call.specs.Handles.{ClassedHandle}
use Rattle.must_call.specs.declared.body.Body.{Body}
use Rattle.must_call.specs.declared.body.Body.TheVariants.{Frame, Point, Finish, Derive, Object, Collective, Persist, Started}
use Rattle.must_rules.specs.Rank.{Rank}
use Rattle.must_rules.specs.Making.{is_handle, is_in, makes, frees, freed_of, completes, persists, is_persistent_kind, made_by}
use Rattle.must_rules.specs.Lives.{life, is_kept, ends}
use Rattle.must_rules.specs.LifeLaws.{next_life, next_kept, life_more, kept_more, kept_first, kept_never, live_within}
use Rattle.must_args.proofs.Seen.{seen_more}
use Rattle.must_parts.specs.Ending.{freed_in}
use Rattle.must_parts.specs.Keeping.{unless_lived, fresh_request}
use Rattle.must_parts.proofs.Ending.{same_test, frees_is}
use Rattle.must_messages.specs.declared.asked.Asked.{Asked}
use Rattle.must_rules.specs.Operations.{Message, message_by, message_made}
use Rattle.must_messages.specs.TableLaws.{made_more, made_first}
use Rattle.must_begin.specs.Telling.{IsAskedOf}
use Rattle.must_begin.specs.Keeping.{message_kept, with_asked}

-- what is kept of a request after one more call, which makes it as a persistent one, or frees it
abbrev pub message_after : Life → (makes frees : Bool) → (fresh old : Option Message) → Option Message
message_after Never makes frees fresh old = if makes then fresh else None
message_after _ makes frees fresh old = if frees then None else old

module _ (r : Rank) (calls : List Call) (call : Call) where
  after_by : (l : Life) (m p f c q : Bool) → ((k : ℕ) → l ≡ Live k → k < length calls)
      → (if next_kept m p (f || (not q && c)) l q then message_made r (calls ++ call ∷ []) (next_life (length calls) m (f || (not q && c)) l) else None)
      ≡ message_after l (m && p) f (message_by r calls (Some call)) (if q then message_made r calls l else None)
  after_by Never true true f c q within = made_first r calls call
  after_by Never true false f c q within = refl
  after_by Never false p f c q within = refl
  after_by (Live made) m p true c q within = refl
  after_by (Live made) m p false c true within = made_more r calls call made (within made refl)
  after_by (Live made) m p false true false within = refl
  after_by (Live made) m p false false false within = refl
  after_by (Freed made freed) m p true c q within = refl
  after_by (Freed made freed) m p false c true within = refl
  after_by (Freed made freed) m p false c false within = refl
  after_by Predefined m p true c q within = refl
  after_by Predefined m p false c true within = refl
  after_by Predefined m p false c false within = refl

  pub kept_after : (n : ℕ) → message_kept r (calls ++ call ∷ []) n ≡ message_after (life calls Request n) (makes Request n call && persists call) (frees Request n call) (message_by r calls (Some call)) (message_kept r calls n)
  unfolding message_kept
  kept_after n =
      let e = ends (is_kept calls Request n) Request n call in
      ap (λ (b : Bool). if b then message_made r (calls ++ call ∷ []) (life (calls ++ call ∷ []) Request n) else None) (kept_more calls call Request n)
      ∙ ap (λ (l : Life). if next_kept (makes Request n call) (persists call) e (life calls Request n) (is_kept calls Request n) then message_made r (calls ++ call ∷ []) l else None) (life_more calls call Request n)
      ∙ after_by (life calls Request n) (makes Request n call) (persists call) (frees Request n call) (completes Request n call) (is_kept calls Request n) (λ k e. live_within calls Request n k e)

-- nothing is kept of what was never made
pub never_kept : (r : Rank) (calls : List Call) (n : ℕ) → life calls Request n ≡ Never → message_kept r calls n ≡ None
unfolding message_kept
never_kept r calls n e = ap (λ (b : Bool). if b then message_made r calls (life calls Request n) else None) (kept_never calls Request n e)

pub first_kept : (r : Rank) (n : ℕ) → message_kept r [] n ≡ None
unfolding message_kept
first_kept r n = ap (λ (b : Bool). if b then message_made r [] (life [] Request n) else None) (kept_first Request n)

-- ---- a call that makes a persistent request

unmade : (l : Life) (o : Option Asked) (fresh kept : Option Message) → (l ≡ Never → kept ≡ None) → IsAskedOf o kept → IsAskedOf o (message_after l false false fresh kept)
unmade Never o fresh kept none m = subst (IsAskedOf o) (none refl) m
unmade (Live made) o fresh kept none m = m
unmade (Freed made freed) o fresh kept none m = m
unmade Predefined o fresh kept none m = m

other_asked : (l : Life) (h n : ℕ) (at : ℕ → Option Asked) (asked : Option Asked) → nat_eq n h ≡ false → at n ≡ with_asked at (unless_lived l h) asked n
other_asked Never h n at None e = refl
other_asked Never h n at (Some p) e = ap (λ (b : Bool). cond b (Some p) (at n)) (sym e)
other_asked (Live made) h n at asked e = refl
other_asked (Freed made freed) h n at asked e = refl
other_asked Predefined h n at asked e = refl

no_asked : (o : Option Asked) (fresh kept : Option Message) → kept ≡ None → IsAskedOf o kept → IsAskedOf None fresh → IsAskedOf o fresh
no_asked o None kept e m none = subst (IsAskedOf o) e m
no_asked o (Some p) kept e m none = absurd none

own_asked : (l : Life) (n : ℕ) (at : ℕ → Option Asked) (asked : Option Asked) (fresh kept : Option Message) → nat_eq n n ≡ true → (l ≡ Never → kept ≡ None) → IsAskedOf (at n) kept → IsAskedOf asked fresh
    → IsAskedOf (with_asked at (unless_lived l n) asked n) (message_after l true false fresh kept)
own_asked Never n at (Some p) fresh kept same none m is = subst (λ (b : Bool). IsAskedOf (cond b (Some p) (at n)) fresh) (sym same) is
own_asked Never n at None fresh kept same none m is = no_asked (at n) fresh kept (none refl) m is
own_asked (Live made) n at asked fresh kept same none m is = m
own_asked (Freed made freed) n at asked fresh kept same none m is = m
own_asked Predefined n at asked fresh kept same none m is = m

keep_own : (lives : ℕ → Life) (at : ℕ → Option Asked) (asked : Option Asked) (fresh kept : Option Message) (h n : ℕ) (b : Bool) → (h == n) ≡ b → (lives n ≡ Never → kept ≡ None) → IsAskedOf (at n) kept → IsAskedOf asked fresh
    → IsAskedOf (with_asked at (unless_lived (lives h) h) asked n) (message_after (lives n) b false fresh kept)
keep_own lives at asked fresh kept h n true e none m is =
    let same : h ≡ n = grind arith in
    let own : nat_eq n n ≡ true = grind arith in
    subst (λ (k : ℕ). IsAskedOf (with_asked at (unless_lived (lives k) k) asked n) (message_after (lives n) true false fresh kept)) (sym same) (own_asked (lives n) n at asked fresh kept own none m is)
keep_own lives at asked fresh kept h n false e none m is =
    let other : nat_eq n h ≡ false = grind arith in
    subst (λ (o : Option Asked). IsAskedOf o (message_after (lives n) false false fresh kept)) (other_asked (lives h) h n at asked other) (unmade (lives n) (at n) fresh kept none m)

and_true : (b : Bool) → b ≡ (b && true)
and_true true = refl
and_true false = refl

keep_at : (lives : ℕ → Life) (made : Option ClassedHandle) (at : ℕ → Option Asked) (asked : Option Asked) (fresh kept : Option Message) (n : ℕ) → (lives n ≡ Never → kept ≡ None) → IsAskedOf (at n) kept → IsAskedOf asked fresh
    → IsAskedOf (with_asked at (fresh_request lives made) asked n) (message_after (lives n) (is_handle Request n made && true) false fresh kept)
keep_at lives None at asked fresh kept n none m is = unmade (lives n) (at n) fresh kept none m
keep_at lives (Some (Comm, h)) at asked fresh kept n none m is = unmade (lives n) (at n) fresh kept none m
keep_at lives (Some (Group, h)) at asked fresh kept n none m is = unmade (lives n) (at n) fresh kept none m
keep_at lives (Some (Datatype, h)) at asked fresh kept n none m is = unmade (lives n) (at n) fresh kept none m
keep_at lives (Some (Operation, h)) at asked fresh kept n none m is = unmade (lives n) (at n) fresh kept none m
keep_at lives (Some (Request, h)) at asked fresh kept n none m is =
    subst (λ (b : Bool). IsAskedOf (with_asked at (unless_lived (lives h) h) asked n) (message_after (lives n) b false fresh kept)) (and_true (h == n)) (keep_own lives at asked fresh kept h n (h == n) refl none m is)

persists_frees : (b : Body) (returned : Bool) (n : ℕ) → is_persistent_kind b ≡ true → (returned && is_handle Request n (freed_of b)) ≡ false
persists_frees (Persist x) true n e = refl
persists_frees (Persist x) false n e = refl
persists_frees (Frame x) returned n e = let no : false ≡ true = e in absurd cc
persists_frees (Point x) returned n e = let no : false ≡ true = e in absurd cc
persists_frees (Finish x) returned n e = let no : false ≡ true = e in absurd cc
persists_frees (Derive x) returned n e = let no : false ≡ true = e in absurd cc
persists_frees (Object x) returned n e = let no : false ≡ true = e in absurd cc
persists_frees (Collective x) returned n e = let no : false ≡ true = e in absurd cc
persists_frees (Started x) returned n e = let no : false ≡ true = e in absurd cc

persistent_after : (r : Rank) (calls : List Call) (call : Call) (n : ℕ) → is_persistent_kind call.body ≡ true
    → message_after (life calls Request n) (is_handle Request n (made_by call) && true) false (message_by r calls (Some call)) (message_kept r calls n) ≡ message_kept r (calls ++ call ∷ []) n
unfolding persists frees
persistent_after r calls call n p =
    sym (kept_after r calls call n
    ∙ ap (λ (b : Bool). message_after (life calls Request n) (is_handle Request n (made_by call) && b) (frees Request n call) (message_by r calls (Some call)) (message_kept r calls n)) p
    ∙ ap (λ (b : Bool). message_after (life calls Request n) (is_handle Request n (made_by call) && true) b (message_by r calls (Some call)) (message_kept r calls n)) (persists_frees call.body call.returned n p))

pub keep_step : (r : Rank) (calls : List Call) (call : Call) (lives : ℕ → Life) (old new : ℕ → Option Asked) (asked : Option Asked) → is_persistent_kind call.body ≡ true → lives ≡ life calls Request
    → ((n : ℕ) → IsAskedOf (old n) (message_kept r calls n)) → IsAskedOf asked (message_by r calls (Some call))
    → ((n : ℕ) → new n ≡ with_asked old (fresh_request lives (made_by call)) asked n) → (n : ℕ) → IsAskedOf (new n) (message_kept r (calls ++ call ∷ []) n)
keep_step r calls call lives old new asked p l kept is e n =
    subst (λ (o : Option Asked). IsAskedOf o (message_kept r (calls ++ call ∷ []) n)) (sym (e n ∙ ap (λ (ls : ℕ → Life). with_asked old (fresh_request ls (made_by call)) asked n) l))
    (subst (IsAskedOf (with_asked old (fresh_request (life calls Request) (made_by call)) asked n)) (persistent_after r calls call n p)
    (keep_at (life calls Request) (made_by call) old asked (message_by r calls (Some call)) (message_kept r calls n) n (never_kept r calls n) (kept n) is))

-- ---- any other call

release_at : (l : Life) (m f : Bool) (o : Option Asked) (fresh kept : Option Message) → (l ≡ Never → kept ≡ None) → IsAskedOf o kept → IsAskedOf (if f then None else o) (message_after l (m && false) f fresh kept)
release_at Never true true o fresh kept none m = tt
release_at Never false true o fresh kept none m = tt
release_at Never true false o fresh kept none m = subst (IsAskedOf o) (none refl) m
release_at Never false false o fresh kept none m = subst (IsAskedOf o) (none refl) m
release_at (Live made) a true o fresh kept none m = tt
release_at (Live made) a false o fresh kept none m = m
release_at (Freed made freed) a true o fresh kept none m = tt
release_at (Freed made freed) a false o fresh kept none m = m
release_at Predefined a true o fresh kept none m = tt
release_at Predefined a false o fresh kept none m = m

frees_told : (call : Call) (o : Option ℕ) (n : ℕ) → option_to_list o ≡ freed_in call → frees Request n call ≡ is_in (option_to_list o) n
unfolding frees
frees_told call o n e = frees_is call.returned (freed_of call.body) n ∙ ap (λ (l : List ℕ). is_in l n) (sym e)

pub release_step : (r : Rank) (calls : List Call) (call : Call) (freed : Option ℕ) (old new : ℕ → Option Asked) → is_persistent_kind call.body ≡ false → option_to_list freed ≡ freed_in call
    → ((n : ℕ) → IsAskedOf (old n) (message_kept r calls n)) → ((n : ℕ) → new n ≡ (if is_in (option_to_list freed) n then None else old n)) → (n : ℕ) → IsAskedOf (new n) (message_kept r (calls ++ call ∷ []) n)
unfolding persists
release_step r calls call freed old new p f kept e n =
    let fresh = message_by r calls (Some call) in
    let after : message_after (life calls Request n) (is_handle Request n (made_by call) && false) (is_in (option_to_list freed) n) fresh (message_kept r calls n) ≡ message_kept r (calls ++ call ∷ []) n =
    sym (kept_after r calls call n
    ∙ ap (λ (b : Bool). message_after (life calls Request n) (is_handle Request n (made_by call) && b) (frees Request n call) fresh (message_kept r calls n)) p
    ∙ ap (λ (b : Bool). message_after (life calls Request n) (is_handle Request n (made_by call) && false) b fresh (message_kept r calls n)) (frees_told call freed n f)) in
    subst (λ (o : Option Asked). IsAskedOf o (message_kept r (calls ++ call ∷ []) n)) (sym (e n))
    (subst (IsAskedOf (if is_in (option_to_list freed) n then None else old n)) after
    (release_at (life calls Request n) (is_handle Request n (made_by call)) (is_in (option_to_list freed) n) (old n) fresh (message_kept r calls n) (never_kept r calls n) (kept n)))

-- ---- keys

cond_self : (b : Bool) → b ≡ cond b true false
cond_self true = refl
cond_self false = refl

same_key : (k n : ℕ) → is_at (nat_cmp k) n ≡ nat_eq n k
same_key k n = cond_self (is_at (nat_cmp k) n) ∙ seen_more k n false

pub put_key : (k n : ℕ) (x o : Option Asked) (y : Option Asked) → y ≡ cond (is_at (nat_cmp k) n) x o → y ≡ (if nat_eq n k then x else o)
put_key k n x o y e = e ∙ ap (λ (b : Bool). cond b x o) (same_key k n)

pub removed_key : (k n : ℕ) (o y : Option Asked) → y ≡ cond (is_at (nat_cmp k) n) None o → y ≡ (if is_in (k ∷ []) n then None else o)
removed_key k n o y e = e ∙ ap (λ (b : Bool). cond {A = Option Asked} b None o) (same_key k n ∙ same_test k n)

-- no keys
pub empty_key : (asked : BTreeMap ℕ Asked) (n : ℕ) (p : Option Message) → asked.entries ≡ [] → p ≡ None → IsAskedOf (get nat_cmp asked n) p
empty_key asked n p e none =
    subst (λ (o : Option Asked). IsAskedOf o p) (sym (ap (lookup (is_at (nat_cmp n))) e)) (subst (IsAskedOf None) (sym none) tt)
