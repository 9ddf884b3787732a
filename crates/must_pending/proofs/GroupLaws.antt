-- The laws of groups of operations.
use Rattle.std.proofs.Common.{◌≡◌, refl, sym, ◌∙◌, ap, arith, inl, inr, Bool, true, false, ℕ, zero, suc, ◌+◌, ◌<◌, ◌≤◌, ℤ, ◌≤ℤ◌, ◌<ℤ◌, List, [], ◌∷◌, ◌++◌, length, get_or, take, drop, drop-cons, slice_set, None, not, nat_eq, append_assoc, append-nil}
use Rattle.std.specs.Prelude.{filter, ◌||◌}
use Rattle.std.specs.List.{AllByRecursion}
use Rattle.std.proofs.lemmas.Int.{ints}
use Rattle.std.proofs.lemmas.List.{take_more, take_all}
use Rattle.std.proofs.lemmas.List.Elements.{filter-append}
use Rattle.std.proofs.lemmas.List.Sums.{sum_by-append}
use Rattle.must_span.specs.declared.ranges.AddressRange.{AddressRange}
use Rattle.must_span.specs.Ranges.{Covers, AreApart}
use Rattle.must_pending.specs.declared.access.Access.{Access}
use Rattle.must_pending.specs.declared.held.Held.{Held}
use Rattle.must_pending.specs.declared.group.Common.{Common}
use Rattle.must_pending.specs.Clashes.{Disagree, IsFirst, without, weight_of}
use Rattle.must_pending.specs.Groups.{AreWithin, Surrounds, SurroundAll, joined}
use Rattle.must_pending.proofs.FirstLaws.{other_request}

-- ---- the ends of ranges

above : (m : ℤ) (rs : List AddressRange) (x : ℤ) → AllByRecursion (λ s. m <ℤ s.low) rs → Covers rs x → m <ℤ x
above m [] x h p = absurd p
above m (r ∷ rs) x h (inl p) = omega (arith, ints, h.0, p.from)
above m (r ∷ rs) x h (inr p) = above m rs x h.1 p

first_low : (rs : List AddressRange) (d : AddressRange) (x : ℤ) → AreApart rs → Covers rs x → (get_or rs 0 d).low ≤ℤ x
first_low [] d x h p = absurd p
first_low (r ∷ rs) d x h (inl p) = p.from
first_low (r ∷ rs) d x h (inr p) = let a = above r.high rs x h.1 p in omega (arith, ints, a, h.0)

last_high : (rs : List AddressRange) (k : ℕ) (d : AddressRange) (x : ℤ) → suc k ≡ length rs → AreApart rs → Covers rs x → x <ℤ (get_or rs k d).high
last_high [] k d x e h p = absurd p
last_high (r ∷ []) zero d x e h (inl p) = p.below
last_high (r ∷ []) zero d x e h (inr p) = absurd p
last_high (r ∷ []) (suc k) d x e h p = absurd (omega (arith, e))
last_high (r ∷ s ∷ rs) zero d x e h p = absurd (omega (arith, e))
last_high (r ∷ s ∷ rs) (suc k) d x e h (inl p) =
    let next = last_high (s ∷ rs) k d s.low (omega (arith, e)) h.2 (inl (record { from = omega (arith, ints); below = h.2.0 })) in
    omega (arith, ints, next, p.below, h.1.0)
last_high (r ∷ s ∷ rs) (suc k) d x e h (inr p) = last_high (s ∷ rs) k d x (omega (arith, e)) h.2 p

pub ends_are : (rs : List AddressRange) (k : ℕ) (d e : AddressRange) (low high : ℤ) → suc k ≡ length rs → AreApart rs → low ≡ (get_or rs 0 d).low → high ≡ (get_or rs k e).high → AreWithin low high rs
ends_are rs k d e low high n h f g = record { from = λ x p. let a = first_low rs d x h p in omega (arith, ints, a, f); below = λ x p. let a = last_high rs k e x n h p in omega (arith, ints, a, g) }

-- ---- what operations have in common

pub all_append : (P : Held → Type 0) (a b : List Held) → AllByRecursion P a → AllByRecursion P b → AllByRecursion P (a ++ b)
all_append P [] b p q = q
all_append P (h ∷ a) b p q = (p.0, all_append P a b p.1 q)

pub all_weaker : (P Q : Held → Type 0) → ((h : Held) → P h → Q h) → (a : List Held) → AllByRecursion P a → AllByRecursion Q a
all_weaker P Q f [] p = tt
all_weaker P Q f (h ∷ a) p = (f h p.0, all_weaker P Q f a p.1)

one_left : (P : Held → Type 0) (r : ℕ) (h : Held) (a : List Held) (b : Bool) → nat_eq h.request r ≡ b → P h → AllByRecursion P (without r a) → AllByRecursion P (without r (h ∷ a))
one_left P r h a true e p q = rw e q
one_left P r h a false e p q = rw e (p, q)

pub all_left : (P : Held → Type 0) (r : ℕ) (a : List Held) → AllByRecursion P a → AllByRecursion P (without r a)
all_left P r [] p = tt
all_left P r (h ∷ a) p = one_left P r h a (nat_eq h.request r) refl p.0 (all_left P r a p.1)

-- no operation of a request that lies below or above all
pub without_none : (r : ℕ) (hs : List Held) → AllByRecursion (λ h. h.request ≡ r → ⊥) hs → without r hs ≡ hs
without_none r [] p = refl
without_none r (h ∷ hs) p = rw (other_request h.request r p.0) (ap (λ l. h ∷ l) (without_none r hs p.1))

pub below_all : (r : ℕ) (c : Common) (hs : List Held) → r < c.least → SurroundAll c hs → without r hs ≡ hs
below_all r c hs l p = without_none r hs (all_weaker (Surrounds c) (λ h. h.request ≡ r → ⊥) (λ h s e. omega (arith, s.from_least, l, e)) hs p)

pub above_all : (r : ℕ) (c : Common) (hs : List Held) → c.greatest < r → SurroundAll c hs → without r hs ≡ hs
above_all r c hs l p = without_none r hs (all_weaker (Surrounds c) (λ h. h.request ≡ r → ⊥) (λ h s e. omega (arith, s.to_greatest, l, e)) hs p)

-- where none that has this may clash, none does
pub none_clashes : (c : Common) (hs : List Held) (spans : List AddressRange) (access : Access) → ((h : Held) (x : ℤ) → Surrounds c h → Disagree h.access access → Covers h.spans x → Covers spans x → ⊥) → SurroundAll c hs → IsFirst hs spans access None
none_clashes c [] spans access f p = λ d y q. q
none_clashes c (h ∷ hs) spans access f p = λ d y q. elim q [
  | inl k ↦ f h y p.0 k.disagree k.held k.asked
  | inr k ↦ none_clashes c hs spans access f p.1 d y k
]

-- ---- lists of groups

pub joined_append : (a b : List (List Held)) → joined (a ++ b) ≡ joined a ++ joined b
joined_append [] b = refl
joined_append (g ∷ a) b = ap (λ l. g ++ l) (joined_append a b) ∙ sym (append_assoc g (joined a) (joined b))

pub joined_more : (gs : List (List Held)) (i : ℕ) (g : List Held) → i < length gs → g ≡ get_or gs i g → joined (take (i + 1) gs) ≡ joined (take i gs) ++ g
joined_more gs i g h is = ap joined (take_more gs i g h ∙ ap (λ x. take i gs ++ x ∷ []) (sym is)) ∙ joined_append (take i gs) (g ∷ []) ∙ ap (λ l. joined (take i gs) ++ l) (append-nil g)

pub joined_put : (gs : List (List Held)) (h : Held) → joined (gs ++ (h ∷ []) ∷ []) ≡ joined gs ++ h ∷ []
joined_put gs h = joined_append gs ((h ∷ []) ∷ [])

-- the last group takes one more
pub joined_last : (gs : List (List Held)) (k : ℕ) (g new : List Held) (h : Held) → suc k ≡ length gs → g ≡ get_or gs k g → new ≡ g ++ h ∷ [] → joined (slice_set gs k new) ≡ joined gs ++ h ∷ []
joined_last [] k g new h n is e = absurd (omega (arith, n))
joined_last (f ∷ []) zero g new h n is e = append-nil new ∙ e ∙ ap (λ l. l ++ h ∷ []) (is ∙ sym (append-nil f))
joined_last (f ∷ []) (suc k) g new h n is e = absurd (omega (arith, n))
joined_last (f ∷ d ∷ gs) zero g new h n is e = absurd (omega (arith, n))
joined_last (f ∷ d ∷ gs) (suc k) g new h n is e = ap (λ l. f ++ l) (joined_last (d ∷ gs) k g new h (omega (arith, n)) is e) ∙ sym (append_assoc f (joined (d ∷ gs)) (h ∷ []))

-- ---- a request is taken out of one group after another

pub record Finishing (was now : List (List Held)) (r i done : ℕ) : Type 0 where
  pub left : joined (take i now) ≡ without r (joined (take i was))
  pub rest : drop i now ≡ drop i was
  pub number : length now ≡ length was
  pub weight : done + weight_of (joined (take i now)) ≡ weight_of (joined (take i was))

weight_append : (a b : List Held) → weight_of (a ++ b) ≡ weight_of a + weight_of b
weight_append a b = sum_by-append (λ (h : Held). h.weight) a b

set_front : (gs : List (List Held)) (i : ℕ) (g : List Held) → i < length gs → take (i + 1) (slice_set gs i g) ≡ take i gs ++ g ∷ []
set_front gs i g h = let s : i + 1 ≡ suc i = omega arith in ap (λ (n : ℕ). take n (slice_set gs i g)) s ∙ by gs i h
  where
    by : (gs : List (List Held)) (i : ℕ) → i < length gs → take (suc i) (slice_set gs i g) ≡ take i gs ++ g ∷ []
    by [] i h = absurd (omega (arith, h))
    by (f ∷ gs) zero h = refl
    by (f ∷ gs) (suc i) h = ap (λ l. f ∷ l) (by gs i (omega (arith, h)))

set_back : (gs : List (List Held)) (i : ℕ) (g : List Held) → drop (suc i) (slice_set gs i g) ≡ drop (suc i) gs
set_back [] i g = refl
set_back (f ∷ gs) zero g = refl
set_back (f ∷ gs) (suc i) g = set_back gs i g

set_length : (gs : List (List Held)) (i : ℕ) (g : List Held) → length (slice_set gs i g) ≡ length gs
set_length [] i g = refl
set_length (f ∷ gs) zero g = refl
set_length (f ∷ gs) (suc i) g = omega (arith, set_length gs i g)

abbrev head_or : List Held → List (List Held) → List Held
head_or d [] = d
head_or d (g ∷ gs) = g

abbrev tail_of : List (List Held) → List (List Held)
tail_of [] = []
tail_of (g ∷ gs) = gs

same_at : (was now : List (List Held)) (i : ℕ) (d : List Held) → i < length was → i < length now → drop i now ≡ drop i was → get_or now i d ≡ get_or was i d
same_at was now i d h k e = ap (head_or d) (sym (drop-cons now i d k) ∙ e ∙ drop-cons was i d h)

same_back : (was now : List (List Held)) (i : ℕ) → i < length was → i < length now → drop i now ≡ drop i was → drop (suc i) now ≡ drop (suc i) was
same_back was now i h k e = ap tail_of (sym (drop-cons now i [] k) ∙ e ∙ drop-cons was i [] h)

pub group_weight : (was now : List (List Held)) (r i done : ℕ) (g : List Held) → Finishing was now r i done → i < length was → g ≡ get_or now i g → weight_of (joined (take i was)) + weight_of g ≤ weight_of (joined was)
group_weight was now r i done g f h is =
    let at : g ≡ get_or was i g = is ∙ same_at was now i g h (omega (arith, f.number, h)) f.rest in
    let front : weight_of (joined (take (i + 1) was)) ≡ weight_of (joined (take i was)) + weight_of g = ap weight_of (joined_more was i g h at) ∙ weight_append (joined (take i was)) g in
    omega (arith, front, front_weight was (i + 1))
  where
    front_weight : (gs : List (List Held)) (n : ℕ) → weight_of (joined (take n gs)) ≤ weight_of (joined gs)
    front_weight gs zero = omega arith
    front_weight [] (suc n) = omega arith
    front_weight (f ∷ gs) (suc n) = omega (arith, weight_append f (joined (take n gs)), weight_append f (joined gs), front_weight gs n)

pub finishing_step : (was now : List (List Held)) (r i done d : ℕ) (g new : List Held) → Finishing was now r i done → i < length was → g ≡ get_or now i g → new ≡ without r g → d + weight_of (without r g) ≡ weight_of g → Finishing was (slice_set now i new) r (i + 1) (done + d)
finishing_step was now r i done d g new f h is e w =
    let k : i < length now = omega (arith, f.number, h) in
    let at : g ≡ get_or was i g = is ∙ same_at was now i g h k f.rest in
    let s : i + 1 ≡ suc i = omega arith in
    let front : joined (take (i + 1) (slice_set now i new)) ≡ joined (take i now) ++ new = ap joined (set_front now i new k) ∙ joined_append (take i now) (new ∷ []) ∙ ap (λ l. joined (take i now) ++ l) (append-nil new) in
    let before : joined (take (i + 1) was) ≡ joined (take i was) ++ g = joined_more was i g h at in
    record {
      left = front ∙ ap (λ l. l ++ new) f.left ∙ ap (λ l. without r (joined (take i was)) ++ l) e ∙ sym (filter-append (λ (h : Held). not (nat_eq h.request r)) (joined (take i was)) g) ∙ ap (without r) (sym before);
      rest = ap (λ (n : ℕ). drop n (slice_set now i new)) s ∙ set_back now i new ∙ same_back was now i h k f.rest ∙ ap (λ (n : ℕ). drop n was) (sym s);
      number = set_length now i new ∙ f.number;
      weight = omega (arith, ap weight_of front, weight_append (joined (take i now)) new, ap weight_of before, weight_append (joined (take i was)) g, f.weight, ap weight_of e, w);
    }

pub finishing_end : (was now : List (List Held)) (r i done : ℕ) → length now ≤ i → Finishing was now r i done → (joined now ≡ without r (joined was)) × (done + weight_of (joined now) ≡ weight_of (joined was))
finishing_end was now r i done h f =
    let a : take i now ≡ now = take_all i now h in
    let b : take i was ≡ was = take_all i was (omega (arith, h, f.number)) in (
      ap joined (sym a) ∙ f.left ∙ ap (λ l. without r (joined l)) b,
      omega (arith, f.weight, ap (λ l. weight_of (joined l)) a, ap (λ l. weight_of (joined l)) b),
    )

-- groups without an operation add nothing
one_some : (keep : List Held → Bool) (g : List Held) (gs : List (List Held)) (b : Bool) → keep g ≡ b → (keep g ≡ false → g ≡ []) → joined (filter keep gs) ≡ joined gs → joined (filter keep (g ∷ gs)) ≡ joined (g ∷ gs)
one_some keep g gs true e h q = rw e (ap (λ l. g ++ l) q)
one_some keep g gs false e h q = rw e (q ∙ ap (λ l. l ++ joined gs) (sym (h e)))

pub joined_some : (keep : List Held → Bool) (gs : List (List Held)) → ((g : List Held) → keep g ≡ false → g ≡ []) → joined (filter keep gs) ≡ joined gs
joined_some keep [] h = refl
joined_some keep (g ∷ gs) h = one_some keep g gs (keep g) refl (h g) (joined_some keep gs h)

empty_by : (n : ℕ) → not (nat_eq n 0) ≡ false → n ≡ 0
empty_by zero h = refl
empty_by (suc n) h = absurd (grind arith)

pub not_some : (g : List Held) → not (nat_eq (length g) 0) ≡ false → g ≡ []
not_some [] h = refl
not_some (h ∷ g) e = let z = empty_by (suc (length g)) e in absurd (omega (arith, z))

-- neither writes
pub neither : (a b : Bool) → (a || b) ≡ false → (a ≡ false) × (b ≡ false)
neither false b h = (refl, h)
neither true b h = absurd (grind arith)
