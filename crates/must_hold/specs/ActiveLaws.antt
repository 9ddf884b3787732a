-- What is under way with a request is the open operation of that request, and there is one at most.
use Rattle.std.proofs.Common.{◌≡◌, ℕ, zero, suc, ◌<◌, ◌==◌, Bool, true, false, cond, ◌&&◌, ◌||◌, List, [], ◌∷◌, ◌++◌, length, take, Option, Some, None, refl, ap, sym, subst, ◌∙◌, ◌⊎◌, inl, inr, arith, eqb-true}
use Rattle.std.specs.Prelude.{not, find, slice_get}
use Rattle.std.specs.List.{AllByRecursion}
use Rattle.must_base.specs.Listing.{Has}
use Rattle.must_base.specs.ListingLaws.{all_has}
use Rattle.must_call.specs.declared.class.Class.TheVariants.{Request}
use Rattle.must_call.specs.declared.life.Life.{Life}
use Rattle.must_call.specs.declared.life.Life.TheVariants.{Never, Live, Freed, Predefined}
use Rattle.must_call.specs.declared.call.Call.{Call}
use Rattle.must_rules.specs.Rank.{Rank}
use Rattle.must_rules.specs.Making.{makes, persists, frees, completes}
use Rattle.must_rules.specs.Lives.{life, ends, is_kept}
use Rattle.must_rules.specs.Numbered.{AreNumbered}
use Rattle.must_rules.specs.Search.{or_then, only_if}
use Rattle.must_rules.specs.Starts.{start_of, names_to_start}
use Rattle.must_rules.specs.StartLaws.{next_start, start_more, start_first}
use Rattle.must_rules.specs.Known.{clear_behind}
use Rattle.must_messages.specs.PlainLaws.{no_some, same_some}
use Rattle.must_rules.specs.Operations.{Operation, operations_at, operations_of}
use Rattle.must_messages.specs.OperationLaws.{IsBegunBy, IsBegunBelow, begun_by, begun_below, operations_more}
use Rattle.must_rules.specs.Fates.{Open, fate_of}
use Rattle.must_messages.specs.FateLaws.{first_fate, next_fate, fate_first, fate_more, get_there, get_front}
use Rattle.must_rules.specs.Statuses.{is_done_with, begun_in, under_way}
use Rattle.must_messages.specs.UnderWayLaws.{next_under_way, under_way_more, start_kept}
use Rattle.must_messages.specs.ActiveLaws.{IsActive, open_is_active}
use Rattle.must_messages.specs.NameLaws.{take_next, take_past, take_all}
use Rattle.must_messages.specs.RiseLaws.{IsBefore, Rise, operations_rise}
use Rattle.must_rules.specs.Communicators.{is_number}
use Rattle.must_hold.specs.Queue.{IsOpenAt}

-- ---- lists

pub has_get : {X : Type 0} (xs : List X) (n : ℕ) (x : X) → slice_get xs n ≡ Some x → Has xs x
has_get [] n x e = no_some x e
has_get (y ∷ xs) zero x e = inl (sym (same_some y x e))
has_get (y ∷ xs) (suc n) x e = inr (has_get xs n x e)

pub get_has : {X : Type 0} (xs : List X) (x : X) → Has xs x → (n : ℕ) × (slice_get xs n ≡ Some x)
get_has [] x h = absurd h
get_has (y ∷ xs) x (inl e) = (0, ap Some (sym e))
get_has (y ∷ xs) x (inr h) = let at = get_has xs x h in (suc at.0, at.1)

pub all_get : {X : Type 0} (P : X → Type 0) (xs : List X) → AllByRecursion P xs → (n : ℕ) (x : X) → slice_get xs n ≡ Some x → P x
all_get P xs all n x e = all_has P xs x all (has_get xs n x e)

pub get_append : {X : Type 0} (xs ys : List X) (n : ℕ) (x : X) → slice_get xs n ≡ Some x → slice_get (xs ++ ys) n ≡ Some x
get_append [] ys n x e = no_some x e
get_append (y ∷ xs) ys zero x e = e
get_append (y ∷ xs) ys (suc n) x e = get_append xs ys n x e

pub get_within : {X : Type 0} (xs : List X) (n : ℕ) (x : X) → slice_get xs n ≡ Some x → n < length xs
get_within [] n x e = no_some x e
get_within (y ∷ xs) zero x e = omega arith
get_within (y ∷ xs) (suc n) x e = let h = get_within xs n x e in omega (arith, h)

pub get_last : {X : Type 0} (xs : List X) (y : X) → slice_get (xs ++ y ∷ []) (length xs) ≡ Some y
get_last [] y = refl
get_last (x ∷ xs) y = get_last xs y

-- an item of a list with one more is of the list, or the last
pub get_either : {X : Type 0} (xs : List X) (y : X) (n : ℕ) (x : X) → slice_get (xs ++ y ∷ []) n ≡ Some x → (slice_get xs n ≡ Some x) ⊎ ((n ≡ length xs) × (x ≡ y))
get_either [] y zero x e = inr (refl, sym (same_some y x e))
get_either [] y (suc n) x e = no_some x e
get_either (z ∷ xs) y zero x e = inl e
get_either {X} (z ∷ xs) y (suc n) x e = at (get_either xs y n x e)
  where
    at : (slice_get xs n ≡ Some x) ⊎ ((n ≡ length xs) × (x ≡ y)) → (slice_get xs n ≡ Some x) ⊎ ((suc n ≡ suc (length xs)) × (x ≡ y))
    at (inl h) = inl h
    at (inr h) = inr (ap suc h.0, h.1)

-- ---- one at most

-- operations of a rank rise, so one stands at one number
not_twice : (ops : List Operation) → Rise ops → (m n : ℕ) (x : Operation) → slice_get ops m ≡ Some x → slice_get ops n ≡ Some x → m ≡ n
not_twice [] rise m n x a b = no_some x a
not_twice (y ∷ ops) rise zero zero x a b = refl
not_twice (y ∷ ops) rise zero (suc n) x a b = absurd (apart y x (same_some y x a) (all_get (IsBefore y) ops rise.0 n x b))
  where
    apart : (y x : Operation) → y ≡ x → IsBefore y x → ⊥
    apart y x e (inl h) = let same : y.call ≡ x.call = ap (λ (o : Operation). o.call) e in omega (arith, h, same)
    apart y x e (inr h) = let same : y.part ≡ x.part = ap (λ (o : Operation). o.part) e in let less = h.1 in omega (arith, less, same)
not_twice (y ∷ ops) rise (suc m) zero x a b = absurd (apart y x (same_some y x b) (all_get (IsBefore y) ops rise.0 m x a))
  where
    apart : (y x : Operation) → y ≡ x → IsBefore y x → ⊥
    apart y x e (inl h) = let same : y.call ≡ x.call = ap (λ (o : Operation). o.call) e in omega (arith, h, same)
    apart y x e (inr h) = let same : y.part ≡ x.part = ap (λ (o : Operation). o.part) e in let less = h.1 in omega (arith, less, same)
not_twice (y ∷ ops) rise (suc m) (suc n) x a b = ap suc (not_twice ops rise.1 m n x a b)

-- of a request at most one operation is open
pub one_open : (r : Rank) (calls : List Call) (q m n : ℕ) → AreNumbered 64 calls → IsOpenAt calls (operations_of r calls) q m → IsOpenAt calls (operations_of r calls) q n → m ≡ n
one_open r calls q m n numbered a b =
    let active = open_is_active r calls numbered in
    let here = all_get (IsActive r calls) (operations_of r calls) active m a.op a.there q a.request_is a.is_open in
    let there = all_get (IsActive r calls) (operations_of r calls) active n b.op b.there q b.request_is b.is_open in
    let same : b.op ≡ a.op = same_some b.op a.op (sym there ∙ here) in
    not_twice (operations_of r calls) (operations_rise r calls) m n a.op a.there (b.there ∙ ap Some same)

-- ---- what is under way is open

pub record IsUnderWay (r : Rank) (calls : List Call) (q : ℕ) (op : Operation) : Type 0 where
  pub there : Has (operations_of r calls) op
  pub request_is : op.request ≡ Some q
  pub is_open : fate_of calls op ≡ Open

has_front : (xs ys : List Operation) (x : Operation) → Has xs x → Has (xs ++ ys) x
has_front [] ys x h = absurd h
has_front (y ∷ xs) ys x (inl e) = inl e
has_front (y ∷ xs) ys x (inr h) = inr (has_front xs ys x h)

has_back : (xs ys : List Operation) (x : Operation) → Has ys x → Has (xs ++ ys) x
has_back [] ys x h = h
has_back (y ∷ xs) ys x h = inr (has_back xs ys x h)

found_has : (test : Operation → Bool) (ops : List Operation) (op : Operation) → find test ops ≡ Some op → Has ops op × (test op ≡ true)
found_has test [] op e = no_some op e
found_has test (x ∷ ops) op e = at (test x) refl e (λ f. found_has test ops op f)
  where
    at : (b : Bool) → test x ≡ b → cond b (Some x) (find test ops) ≡ Some op → (find test ops ≡ Some op → Has ops op × (test op ≡ true)) → Has (x ∷ ops) op × (test op ≡ true)
    at true t f rest = let same = same_some x op f in (inl (sym same), ap test (sym same) ∙ t)
    at false t f rest = let there = rest f in (inr there.0, there.1)

number_is : (q : ℕ) (o : Option ℕ) → is_number q o ≡ true → o ≡ Some q
number_is q None e = let no : false ≡ true = e in absurd cc
number_is q (Some n) e = ap Some (eqb-true n q e)

-- a start that isn't of the last call: that call neither frees nor completes
kept_by : (b : Bool) (n k : ℕ) (P : Type 0) → only_if b n ≡ Some k → (k == n) ≡ false → P
kept_by true n k P e other = absurd (let same : n ≡ k = cc in let no : true ≡ false = sym (eq k n (sym same)) ∙ other in cc)
  where
    eq : (a b : ℕ) → a ≡ b → (a == b) ≡ true
    eq a b e = Rattle.std.proofs.lemmas.Bool.eq-eqb a b e
kept_by false n k P e other = no_some k e

ends_not : (f q c : Bool) → ((f || (not q && c)) || c) ≡ false → (f || (not false && c)) ≡ false
ends_not true q c e = e
ends_not false true true e = e
ends_not false false true e = e
ends_not false true false e = refl
ends_not false false false e = refl

not_ended : (n k : ℕ) (m p f q c s : Bool) (l : Life) (start : Option ℕ) → next_start n m p (f || (not q && c)) c s l start ≡ Some k → (k == n) ≡ false → (f || (not false && c)) ≡ false
not_ended n k m p f q c s Never start e other = kept_by (m && not p) n k ((f || (not false && c)) ≡ false) e other
not_ended n k m p f q c s (Live made) start e other = at ((f || (not q && c)) || c) refl e
  where
    at : (b : Bool) → ((f || (not q && c)) || c) ≡ b → cond b None (or_then start (only_if s n)) ≡ Some k → (f || (not false && c)) ≡ false
    at true h g = no_some k g
    at false h g = ends_not f q c h
not_ended n k m p f q c s (Freed made freed) start e other = no_some k e
not_ended n k m p f q c s Predefined start e other = no_some k e

stays_open : (k q : ℕ) (call : Call) → ends false Request q call ≡ false → next_fate k (Some q) call Open ≡ Open
stays_open k q call e = ap (λ (b : Bool). cond b (Rattle.must_rules.specs.Fates.fate_by q k (Some call)) Open) e

under_way_next : (r : Rank) (calls : List Call) (call : Call) (q : ℕ) (op : Operation) → ((o : Operation) → under_way r calls q ≡ Some o → IsUnderWay r calls q o)
    → under_way r (calls ++ call ∷ []) q ≡ Some op → IsUnderWay r (calls ++ call ∷ []) q op
under_way_next r calls call q op before e = at (start_of (clear_behind r) (calls ++ call ∷ []) q) refl (sym (under_way_more r calls call q) ∙ e)
  where
    now : find (is_done_with q) (operations_at r calls call) ≡ Some op → IsUnderWay r (calls ++ call ∷ []) q op
    now f =
        let h = found_has (is_done_with q) (operations_at r calls call) op f in
        let request = number_is q op.request h.1 in
        record {
          there = subst (λ (ops : List Operation). Has ops op) (sym (operations_more r calls call)) (has_back (operations_of r calls) (operations_at r calls call) op h.0);
          request_is = request;
          is_open = fate_first calls call op (all_has (IsBegunBy (length calls)) (operations_at r calls call) op (begun_by r calls call) h.0) ∙ ap (λ (o : Option ℕ). first_fate op o call) request;
        }

    still : (k : ℕ) → start_of (clear_behind r) (calls ++ call ∷ []) q ≡ Some k → (k == length calls) ≡ false → under_way r calls q ≡ Some op → IsUnderWay r (calls ++ call ∷ []) q op
    still k start other f =
        let h = before op f in
        let none = not_ended (length calls) k (makes Request q call) (persists call) (frees Request q call) (is_kept calls Request q) (completes Request q call) (names_to_start (clear_behind r) calls call q) (life calls Request q) (start_of (clear_behind r) calls q)
        (sym (start_more (clear_behind r) calls call q) ∙ start) other in
        record {
          there = subst (λ (ops : List Operation). Has ops op) (sym (operations_more r calls call)) (has_front (operations_of r calls) (operations_at r calls call) op h.there);
          request_is = h.request_is;
          is_open = fate_more calls call op (all_has (IsBegunBelow (length calls)) (operations_of r calls) op (begun_below r calls) h.there)
              ∙ ap (λ (o : Option ℕ). next_fate (length calls) o call (fate_of calls op)) h.request_is
              ∙ ap (next_fate (length calls) (Some q) call) h.is_open
              ∙ stays_open (length calls) q call none;
        }

    by : (k : ℕ) (b : Bool) → (k == length calls) ≡ b → start_of (clear_behind r) (calls ++ call ∷ []) q ≡ Some k → cond b (find (is_done_with q) (operations_at r calls call)) (under_way r calls q) ≡ Some op → IsUnderWay r (calls ++ call ∷ []) q op
    by k true same start f = now f
    by k false other start f = still k start other f

    at : (start : Option ℕ) → start_of (clear_behind r) (calls ++ call ∷ []) q ≡ start → next_under_way (length calls) (find (is_done_with q) (operations_at r calls call)) (under_way r calls q) start ≡ Some op → IsUnderWay r (calls ++ call ∷ []) q op
    at None same f = no_some op f
    at (Some k) same f = by k (k == length calls) refl same f

-- by the calls so far
abbrev AreUnderWay : Rank → ℕ → List Call → Type 0
AreUnderWay r q calls = (op : Operation) → under_way r calls q ≡ Some op → IsUnderWay r calls q op

under_way_by : (r : Rank) (q : ℕ) (calls : List Call) (k : ℕ) → AreUnderWay r q (take k calls)
under_way_by r q calls zero = λ op e. no_some op (sym (ap (begun_in r [] q) (start_first (clear_behind r) q)) ∙ e)
under_way_by r q calls (suc k) = at (slice_get calls k) refl (under_way_by r q calls k)
  where
    at : (o : Option Call) → slice_get calls k ≡ o → AreUnderWay r q (take k calls) → AreUnderWay r q (take (suc k) calls)
    at None there before = subst (AreUnderWay r q) (sym (take_past calls k there)) before
    at (Some call) there before = subst (AreUnderWay r q) (sym (take_next calls k call there)) (λ op e. under_way_next r (take k calls) call q op before e)

-- what is under way with a request is an open operation of it
pub is_under_way : (r : Rank) (calls : List Call) (q : ℕ) (op : Operation) → under_way r calls q ≡ Some op → IsUnderWay r calls q op
is_under_way r calls q = subst (AreUnderWay r q) (take_all calls (length calls) (omega arith)) (under_way_by r q calls (length calls))
