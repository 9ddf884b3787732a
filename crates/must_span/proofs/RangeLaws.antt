-- The laws of lists of ranges.
use Rattle.std.proofs.Common.{◌≡◌, subst, arith, inl, inr, ◌⊎◌, ◌↔◌, ℕ, zero, suc, pos, ◌+◌, ◌<◌, ◌≤◌, ℤ, ◌≤ℤ◌, ◌<ℤ◌, List, [], ◌∷◌, ◌++◌, length, get_or, take, drop, drop-cons, add-one, length-append}
use Rattle.std.specs.Int.{int_max}
use Rattle.std.specs.List.{AllByRecursion}
use Rattle.std.proofs.lemmas.Int.{ints, clamps, by_lt_z}
use Rattle.std.proofs.lemmas.List.{take_more, get_or_default}
use Rattle.std.proofs.lemmas.List.Elements.{All-get_or, All-from_recursion}
use Rattle.must_span.specs.declared.ranges.AddressRange.{AddressRange}
use Rattle.must_span.specs.Ranges.{IsIn, Covers, IsFilled, AreApart, IsLeastShared}
use Rattle.must_span.specs.Steps.{Rise, IsBehind, Puts}

pub covers_left : (a b : List AddressRange) (x : ℤ) → Covers a x → Covers (a ++ b) x
covers_left [] b x h = absurd h
covers_left (r ∷ a) b x (inl h) = inl h
covers_left (r ∷ a) b x (inr h) = inr (covers_left a b x h)

pub covers_right : (a b : List AddressRange) (x : ℤ) → Covers b x → Covers (a ++ b) x
covers_right [] b x h = h
covers_right (r ∷ a) b x h = inr (covers_right a b x h)

pub covers_split : (a b : List AddressRange) (x : ℤ) → Covers (a ++ b) x → Covers a x ⊎ Covers b x
covers_split [] b x h = inr h
covers_split (r ∷ a) b x (inl h) = inl (inl h)
covers_split (r ∷ a) b x (inr h) = elim (covers_split a b x h) [ inl p ↦ inl (inr p) | inr q ↦ inr q ]

pub all_append : (P : AddressRange → Type 0) (a b : List AddressRange) → AllByRecursion P a → AllByRecursion P b → AllByRecursion P (a ++ b)
all_append P [] b p q = q
all_append P (r ∷ a) b p q = (p.0, all_append P a b p.1 q)

pub all_front : (P : AddressRange → Type 0) (a b : List AddressRange) → AllByRecursion P (a ++ b) → AllByRecursion P a
all_front P [] b p = tt
all_front P (r ∷ a) b p = (p.0, all_front P a b p.1)

pub all_back : (P : AddressRange → Type 0) (a b : List AddressRange) → AllByRecursion P (a ++ b) → AllByRecursion P b
all_back P [] b p = p
all_back P (r ∷ a) b p = all_back P a b p.1

pub all_weaker : (P Q : AddressRange → Type 0) → ((r : AddressRange) → P r → Q r) → (a : List AddressRange) → AllByRecursion P a → AllByRecursion Q a
all_weaker P Q f [] p = tt
all_weaker P Q f (r ∷ a) p = (f r p.0, all_weaker P Q f a p.1)

pub apart_put : (rs : List AddressRange) (r : AddressRange) → AreApart rs → IsFilled r → AllByRecursion (λ s. s.high <ℤ r.low) rs → AreApart (rs ++ r ∷ [])
apart_put [] r p f h = (f, tt, tt)
apart_put (s ∷ rs) r p f h = (p.0, all_append _ rs (r ∷ []) p.1 (h.0, tt), apart_put rs r p.2 f h.1)

pub apart_front : (rs : List AddressRange) (r : AddressRange) → AreApart (rs ++ r ∷ []) → AreApart rs
apart_front [] r p = tt
apart_front (s ∷ rs) r p = (p.0, all_front _ rs (r ∷ []) p.1, apart_front rs r p.2)

pub apart_below : (rs : List AddressRange) (r : AddressRange) → AreApart (rs ++ r ∷ []) → AllByRecursion (λ s. s.high <ℤ r.low) rs
apart_below [] r p = tt
apart_below (s ∷ rs) r p = ((all_back _ rs (r ∷ []) p.1).0, apart_below rs r p.2)

pub apart_last : (rs : List AddressRange) (r : AddressRange) → AreApart (rs ++ r ∷ []) → IsFilled r
apart_last [] r p = p.0
apart_last (s ∷ rs) r p = apart_last rs r p.2

-- two ranges of which the second begins within the first or at its end
pub joined_covers : (a b r : AddressRange) → r.low ≡ a.low → r.high ≡ int_max a.high b.high → a.low ≤ℤ b.low → b.low ≤ℤ a.high → (x : ℤ) → IsIn r x ↔ (IsIn a x ⊎ IsIn b x)
joined_covers a b r l h from touch x = (
  (λ p. by_lt_z x a.high (λ (q : x <ℤ a.high). inl (record { from = omega (arith, ints, p.from, l); below = q })) (λ (q : a.high ≤ℤ x). inr (record { from = omega (arith, ints, q, touch); below = omega (arith, ints, clamps, p.below, h, q) }))),
  (λ p. elim p [
    | inl q ↦ record { from = omega (arith, ints, q.from, l); below = omega (arith, ints, clamps, q.below, h) }
    | inr q ↦ record { from = omega (arith, ints, q.from, l, from); below = omega (arith, ints, clamps, q.below, h) }
  ]),
)

-- ---- one range more

pub puts_behind : (rest : List AddressRange) (last r : AddressRange) → AreApart (rest ++ last ∷ []) → IsFilled r → IsBehind r.low (rest ++ last ∷ []) → last.high <ℤ r.low → Puts (rest ++ last ∷ []) r ((rest ++ last ∷ []) ++ r ∷ [])
puts_behind rest last r p f b g = record {
  apart = apart_put (rest ++ last ∷ []) r p f (all_append _ rest (last ∷ []) (all_weaker _ _ (λ s q. omega (arith, ints, q, apart_last rest last p, g)) rest (apart_below rest last p)) (g, tt));
  covers = λ x. (
    (λ q. elim (covers_split (rest ++ last ∷ []) (r ∷ []) x q) [ inl a ↦ inl a | inr a ↦ elim a [ inl c ↦ inr c | inr c ↦ absurd c ] ]),
    (λ q. elim q [ inl a ↦ covers_left (rest ++ last ∷ []) (r ∷ []) x a | inr a ↦ covers_right (rest ++ last ∷ []) (r ∷ []) x (inl a) ]),
  );
  behind = all_append _ (rest ++ last ∷ []) (r ∷ []) b (omega (arith, ints), tt);
  few = omega (arith, length-append (rest ++ last ∷ []) (r ∷ []));
}

pub puts_within : (rest : List AddressRange) (last r one : AddressRange) → AreApart (rest ++ last ∷ []) → IsBehind r.low (rest ++ last ∷ []) → one.low ≡ last.low → IsFilled one → ((x : ℤ) → IsIn one x ↔ (IsIn last x ⊎ IsIn r x)) → Puts (rest ++ last ∷ []) r (rest ++ one ∷ [])
puts_within rest last r one p b l f is = record {
  apart = apart_put rest one (apart_front rest last p) f (all_weaker _ _ (λ s q. omega (arith, ints, q, l)) rest (apart_below rest last p));
  covers = λ x. (
    (λ q. elim (covers_split rest (one ∷ []) x q) [
      | inl a ↦ inl (covers_left rest (last ∷ []) x a)
      | inr a ↦ elim a [
        | inl c ↦ elim ((is x).0 c) [ inl d ↦ inl (covers_right rest (last ∷ []) x (inl d)) | inr d ↦ inr d ]
        | inr c ↦ absurd c
      ]
    ]),
    (λ q. elim q [
      | inl a ↦ elim (covers_split rest (last ∷ []) x a) [
        | inl c ↦ covers_left rest (one ∷ []) x c
        | inr c ↦ elim c [ inl d ↦ covers_right rest (one ∷ []) x (inl ((is x).1 (inl d))) | inr d ↦ absurd d ]
      ]
      | inr a ↦ covers_right rest (one ∷ []) x (inl ((is x).1 (inr a)))
    ]),
  );
  behind = all_append _ rest (one ∷ []) (all_front _ rest (last ∷ []) b) (omega (arith, ints, l, (all_back _ rest (last ∷ []) b).0), tt);
  few = omega (arith, length-append rest (one ∷ []), length-append rest (last ∷ []));
}

pub behind_more : (a b : ℤ) (rs : List AddressRange) → a ≤ℤ b → IsBehind a rs → IsBehind b rs
behind_more a b rs h p = all_weaker _ _ (λ s q. omega (arith, ints, h, q)) rs p

-- ---- the ranges up to one, and those from it on

pub covers_more : (rs : List AddressRange) (i : ℕ) (d : AddressRange) (x : ℤ) → i < length rs → Covers (take (i + 1) rs) x ↔ (Covers (take i rs) x ⊎ IsIn (get_or rs i d) x)
covers_more rs i d x h = rw (take_more rs i d h) (
  (λ q. elim (covers_split (take i rs) (get_or rs i d ∷ []) x q) [ inl a ↦ inl a | inr a ↦ elim a [ inl c ↦ inr c | inr c ↦ absurd c ] ]),
  (λ q. elim q [ inl a ↦ covers_left (take i rs) (get_or rs i d ∷ []) x a | inr a ↦ covers_right (take i rs) (get_or rs i d ∷ []) x (inl a) ]),
)

-- ---- a list in rising order, one range after another

pub apart_rise : (rs : List AddressRange) → AreApart rs → Rise rs
apart_rise [] p = tt
apart_rise (r ∷ rs) p = (all_weaker _ _ (λ s q. omega (arith, ints, q, p.0)) rs p.1, apart_rise rs p.2)

pub apart_filled : (rs : List AddressRange) → AreApart rs → AllByRecursion IsFilled rs
apart_filled [] p = tt
apart_filled (r ∷ rs) p = (p.0, apart_filled rs p.2)

pub rise_next : (rs : List AddressRange) (i : ℕ) (d : AddressRange) → Rise rs → suc i < length rs → (get_or rs i d).low ≤ℤ (get_or rs (suc i) d).low
rise_next [] i d p h = absurd (omega arith)
rise_next (r ∷ []) i d p h = absurd (omega arith)
rise_next (r ∷ s ∷ rs) zero d p h = p.0.0
rise_next (r ∷ s ∷ rs) (suc i) d p h = rise_next (s ∷ rs) i d p.1 (omega arith)

pub rise_drop : (i : ℕ) (rs : List AddressRange) → Rise rs → Rise (drop i rs)
rise_drop zero rs p = p
rise_drop (suc i) [] p = tt
rise_drop (suc i) (r ∷ rs) p = rise_drop i rs p.1

-- an address in ranges that rise from one on is no lower than that one
pub covers_above : (r : AddressRange) (rs : List AddressRange) (x : ℤ) → Rise (r ∷ rs) → Covers (r ∷ rs) x → r.low ≤ℤ x
covers_above r rs x p (inl h) = h.from
covers_above r [] x p (inr h) = absurd h
covers_above r (s ∷ rs) x p (inr h) = let above = covers_above s rs x p.1 h in omega (arith, ints, above, p.0.0)

pub covers_from : (rs : List AddressRange) (i : ℕ) (d : AddressRange) (x : ℤ) → Rise rs → i < length rs → Covers (drop i rs) x → (get_or rs i d).low ≤ℤ x
covers_from rs i d x p h q =
    let e = drop-cons rs i d h in
    covers_above (get_or rs i d) (drop (suc i) rs) x (subst Rise e (rise_drop i rs p)) (subst (λ l. Covers l x) e q)

pub covers_drop : (i : ℕ) (rs : List AddressRange) (x : ℤ) → Covers (drop i rs) x → Covers rs x
covers_drop zero rs x h = h
covers_drop (suc i) [] x h = h
covers_drop (suc i) (r ∷ rs) x h = inr (covers_drop i rs x h)

pub covers_at : (rs : List AddressRange) (i : ℕ) (d : AddressRange) (x : ℤ) → i < length rs → IsIn (get_or rs i d) x → Covers rs x
covers_at rs i d x h q = covers_drop i rs x (rw (drop-cons rs i d h) (inl q))

-- ---- two lists as one

pub record Merged (a b : List AddressRange) (i j : ℕ) (both : List AddressRange) : Type 0 where
  pub apart : AreApart both
  pub covers : (x : ℤ) → Covers both x ↔ (Covers (take i a) x ⊎ Covers (take j b) x)
  pub a_behind : (d : AddressRange) → i < length a → IsBehind (get_or a i d).low both
  pub b_behind : (d : AddressRange) → j < length b → IsBehind (get_or b j d).low both
  pub few : length both ≤ i + j

swapped : {A B : Type 0} → A ⊎ B → B ⊎ A
swapped (inl a) = inr a
swapped (inr b) = inl b

pub merged_swap : (a b : List AddressRange) (i j : ℕ) (both : List AddressRange) → Merged a b i j both → Merged b a j i both
merged_swap a b i j both m = record {
  apart = m.apart;
  covers = λ x. ((λ p. swapped ((m.covers x).0 p)), (λ p. (m.covers x).1 (swapped p)));
  a_behind = m.b_behind;
  b_behind = m.a_behind;
  few = omega (arith, m.few);
}

pub merged_step : (a b : List AddressRange) (i j : ℕ) (both new : List AddressRange) (d : AddressRange) → Rise a → i < length a → ((e : AddressRange) → j < length b → (get_or a i d).low ≤ℤ (get_or b j e).low) → Merged a b i j both → Puts both (get_or a i d) new → Merged a b (i + 1) j new
merged_step a b i j both new d rise h least m p = record {
  apart = p.apart;
  covers = λ x. (
    (λ q. elim ((p.covers x).0 q) [
      | inl c ↦ elim ((m.covers x).0 c) [ inl e ↦ inl ((covers_more a i d x h).1 (inl e)) | inr e ↦ inr e ]
      | inr c ↦ inl ((covers_more a i d x h).1 (inr c))
    ]),
    (λ q. elim q [
      | inl c ↦ elim ((covers_more a i d x h).0 c) [ inl e ↦ (p.covers x).1 (inl ((m.covers x).1 (inl e))) | inr e ↦ (p.covers x).1 (inr e) ]
      | inr c ↦ (p.covers x).1 (inl ((m.covers x).1 (inr c)))
    ]),
  );
  a_behind = λ e g. rw (add-one i) (behind_more _ _ new (subst (λ (r : AddressRange). r.low ≤ℤ (get_or a (suc i) e).low) (get_or_default a i e d h) (rise_next a i e rise (omega arith))) p.behind);
  b_behind = λ e g. behind_more _ _ new (least e g) p.behind;
  few = omega (arith, m.few, p.few);
}

-- ---- what two lists share

pub record IsAhead (a b : List AddressRange) (i j : ℕ) : Type 0 where
  pub rest : (x : ℤ) → Covers a x → Covers b x → Covers (drop i a) x × Covers (drop j b) x

pub ahead_swap : (a b : List AddressRange) (i j : ℕ) → IsAhead a b i j → IsAhead b a j i
ahead_swap a b i j m = record { rest = λ x p q. let both = m.rest x q p in (both.1, both.0) }

pub ahead_step : (a b : List AddressRange) (i j : ℕ) (d e : AddressRange) → Rise b → i < length a → j < length b → (get_or a i d).high ≤ℤ (get_or b j e).low → IsAhead a b i j → IsAhead a b (i + 1) j
ahead_step a b i j d e rise h g below m = record {
  rest = λ x p q.
      let both = m.rest x p q in
      let above = covers_from b j e x rise g both.1 in
      elim (subst (λ l. Covers l x) (drop-cons a i d h) both.0) [
        | inl r ↦ absurd (omega (arith, ints, r.below, above, below))
        | inr r ↦ (rw (add-one i) r, both.1)
      ];
}

pub shared_least : (a b : List AddressRange) (i j : ℕ) (d e : AddressRange) (x : ℤ) → Rise a → Rise b → i < length a → j < length b → IsFilled (get_or a i d) → IsFilled (get_or b j e) → (get_or b j e).low <ℤ (get_or a i d).high → (get_or a i d).low <ℤ (get_or b j e).high → x ≡ int_max (get_or a i d).low (get_or b j e).low → IsAhead a b i j → IsLeastShared a b x
shared_least a b i j d e x ra rb h g fa fb p q is m = record {
  in_first = covers_at a i d x h (record { from = omega (arith, ints, clamps, is); below = omega (arith, ints, clamps, is, p, fa) });
  in_second = covers_at b j e x g (record { from = omega (arith, ints, clamps, is); below = omega (arith, ints, clamps, is, q, fb) });
  least = (λ y s t. let both = m.rest y s t in
      let above_a = covers_from a i d y ra h both.0 in
      let above_b = covers_from b j e y rb g both.1 in
      omega (arith, ints, clamps, is, above_a, above_b));
}

-- ---- what a read gives

abbrev pub past : AddressRange
past = record { low = pos 0; high = pos 0 }

pub all_at : (P : AddressRange → Type 0) (rs : List AddressRange) (i : ℕ) → i < length rs → AllByRecursion P rs → P (get_or rs i past)
all_at P rs i h p = All-get_or P rs i past h (All-from_recursion P rs p)

pub least_at : (x : ℤ) (b : List AddressRange) (j : ℕ) → x ≤ℤ (get_or b j past).low → (e : AddressRange) → j < length b → x ≤ℤ (get_or b j e).low
least_at x b j p e h = subst (λ (r : AddressRange). x ≤ℤ r.low) (get_or_default b j past e h) p

pub no_more : (x : ℤ) (b : List AddressRange) (j : ℕ) → length b ≤ j → (e : AddressRange) → j < length b → x ≤ℤ (get_or b j e).low
no_more x b j h e g = absurd (omega arith)
