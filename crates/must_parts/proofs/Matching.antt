-- Lists that match, item by item.
use Rattle.std.proofs.Common.{◌≡◌, ℕ, zero, suc, ◌+◌, ◌<◌, ◌≤◌, List, [], ◌∷◌, ◌++◌, length, take, drop, get_or, Option, Some, None, refl, sym, ap, ◌∙◌, arith}
use Rattle.std.proofs.lemmas.List.{take_all}
use Rattle.std.specs.Option.{option_to_list}
use Rattle.must_parts.specs.Matching.{Matched, MatchedOption}

module _ {X Y : Type 0} (R : X → Y → Type 0) where
  pub matched_append : (xs us : List X) (ys vs : List Y) → Matched R xs ys → Matched R us vs → Matched R (xs ++ us) (ys ++ vs)
  matched_append [] us [] vs m n = n
  matched_append [] us (y ∷ ys) vs m n = absurd m
  matched_append (x ∷ xs) us [] vs m n = absurd m
  matched_append (x ∷ xs) us (y ∷ ys) vs m n = (m.0, matched_append xs us ys vs m.1 n)

  pub matched_option : (o : Option X) (p : Option Y) → MatchedOption R o p → Matched R (option_to_list o) (option_to_list p)
  matched_option None None m = tt
  matched_option None (Some y) m = absurd m
  matched_option (Some x) None m = absurd m
  matched_option (Some x) (Some y) m = (m, tt)

  pub matched_length : (xs : List X) (ys : List Y) → Matched R xs ys → length xs ≡ length ys
  matched_length [] [] m = refl
  matched_length [] (y ∷ ys) m = absurd m
  matched_length (x ∷ xs) [] m = absurd m
  matched_length (x ∷ xs) (y ∷ ys) m = ap suc (matched_length xs ys m.1)

  -- what an item stands for
  pub record Item (x : X) (ys : List Y) (i : ℕ) : Type 0 where
    pub item : Y
    pub matches : R x item
    pub take_is : take (i + 1) ys ≡ take i ys ++ item ∷ []
    pub drop_is : drop i ys ≡ item ∷ drop (i + 1) ys

  pub matched_item : (xs : List X) (ys : List Y) (i : ℕ) (d : X) → Matched R xs ys → i < length xs → Item (get_or xs i d) ys i
  matched_item [] ys i d m h = absurd (omega arith)
  matched_item (x ∷ xs) [] i d m h = absurd m
  matched_item (x ∷ xs) (y ∷ ys) zero d m h = record { item = y; matches = m.0; take_is = refl; drop_is = refl }
  matched_item (x ∷ xs) (y ∷ ys) (suc i) d m h =
      let next = matched_item xs ys i d m.1 (omega arith) in
      let step : suc i + 1 ≡ suc (i + 1) = omega arith in
      record {
        item = next.item;
        matches = next.matches;
        take_is = ap (λ n. take n (y ∷ ys)) step ∙ ap (λ (l : List Y). y ∷ l) next.take_is;
        drop_is = next.drop_is ∙ ap (λ n. next.item ∷ drop n (y ∷ ys)) (sym step);
      }

  pub matched_all : (xs : List X) (ys : List Y) (i : ℕ) → Matched R xs ys → length xs ≤ i → take i ys ≡ ys
  matched_all xs ys i m h = take_all i ys (omega (arith, matched_length xs ys m, h))

  -- the last item and those before it
  pub record Last (xs : List X) (x : X) (ys : List Y) : Type 0 where
    pub front : List Y
    pub last : Y
    pub ys_are : ys ≡ front ++ last ∷ []
    pub fronts : Matched R xs front
    pub lasts : R x last

  pub matched_last : (xs : List X) (x : X) (ys : List Y) → Matched R (xs ++ x ∷ []) ys → Last xs x ys
  matched_last [] x [] m = absurd m
  matched_last [] x (y ∷ []) m = record { front = []; last = y; ys_are = refl; fronts = tt; lasts = m.0 }
  matched_last [] x (y ∷ z ∷ ys) m = absurd m.1
  matched_last (w ∷ xs) x [] m = absurd m
  matched_last (w ∷ xs) x (y ∷ ys) m =
      let rest = matched_last xs x ys m.1 in
      record { front = y ∷ rest.front; last = rest.last; ys_are = ap (λ (l : List Y). y ∷ l) rest.ys_are; fronts = (m.0, rest.fronts); lasts = rest.lasts }

  pub matched_none : (ys : List Y) → Matched R [] ys → ys ≡ []
  matched_none [] m = refl
  matched_none (y ∷ ys) m = absurd m
