-- Waves are places in the lanes of the members, where the items come in order, and one call more makes at most one wave whole.
use Rattle.std.proofs.Common.{◌≡◌, ℕ, zero, suc, ◌+◌, ◌≤◌, Bool, true, false, cond, ◌&&◌, List, [], ◌∷◌, ◌++◌, length, map, drop, Option, Some, None, Ordering, Less, Equal, Greater, eqb, refl, sym, ap, subst, ◌∙◌, inl, inr, arith}
use Rattle.std.specs.Prelude.{slice_get, filter, find, ◌==◌, ◌⊎◌}
use Rattle.std.specs.Ordering.{is_eq}
use Rattle.std.proofs.lemmas.List.{append-nil}
use Rattle.std.proofs.lemmas.List.Elements.{filter-append}
use Rattle.std.proofs.lemmas.Bool.{and_from, and_right, eq-eqb, ne_eqb}
use Rattle.std.proofs.lemmas.Cmp.{tied_itself}
use Rattle.must_coll.specs.ListLaws.{get_before, get_last}
use Rattle.must_group.specs.Names.{Name, name_cmp}
use Rattle.must_group.specs.NameOrder.{name_total}
use Rattle.must_coll.specs.declared.item.WaveItem.{WaveItem}
use Rattle.must_coll.specs.Waves.{is_of, lane, call_of, wave, has_gap, Orderly}

-- ---- a wave is a place in each lane

find_at : (p q : WaveItem → Bool) (x : WaveItem) (b : Bool) (l : List WaveItem) (o : Option WaveItem) → o ≡ find q l → cond (b && q x) (Some x) o ≡ find q (cond b (x ∷ l) l)
find_at p q x true l o e = ap (λ (w : Option WaveItem). cond (q x) (Some x) w) e
find_at p q x false l o e = e

find_both : (p q : WaveItem → Bool) (xs : List WaveItem) → find (λ x. p x && q x) xs ≡ find q (filter p xs)
find_both p q [] = refl
find_both p q (x ∷ xs) = find_at p q x (p x) (filter p xs) (find (λ y. p y && q y) xs) (find_both p q xs)

find_number : (o : ℕ) (l : List WaveItem) → ((i : ℕ) (x : WaveItem) → slice_get l i ≡ Some x → x.number ≡ o + i) → (k : ℕ) → find (λ x. x.number == o + k) l ≡ slice_get l k
find_number o [] n k = refl
find_number o (y ∷ ys) n zero = ap (λ b. cond b (Some y) (find (λ x. x.number == o + 0) ys)) (eq-eqb y.number (o + 0) (n 0 y refl))
find_number o (y ∷ ys) n (suc k) =
    let first = n 0 y refl in
    let apart : eqb y.number (o + suc k) ≡ false = ne_eqb y.number (o + suc k) (λ e. omega (arith, first, e)) in
    let same : o + suc k ≡ suc o + k = omega arith in
    ap (λ b. cond b (Some y) (find (λ x. x.number == o + suc k) ys)) apart ∙ ap (λ m. find (λ (x : WaveItem). x.number == m) ys) same
    ∙ find_number (suc o) ys (λ i x is. let e = n (suc i) x is in omega (arith, e)) k

-- the wave by places
abbrev pub row_of : Name → ℕ → List WaveItem → List ℕ → List (Option WaveItem)
row_of name k items members = map (λ m. slice_get (lane name m items) k) members

wave_by : (items : List WaveItem) (name : Name) (k : ℕ) → Orderly items → (members : List ℕ) → map (call_of items name k) members ≡ row_of name k items members
wave_by items name k o [] = refl
wave_by items name k o (m ∷ ms) =
    let is : call_of items name k m ≡ slice_get (lane name m items) k =
    find_both (is_of name m) (λ x. x.number == k) items ∙ ap (λ n. find (λ (x : WaveItem). x.number == n) (lane name m items)) (omega arith) ∙ find_number 0 (lane name m items) (λ i x e. o.numbered name m i x e ∙ omega arith) k in
    ap (λ (w : Option WaveItem). w ∷ map (call_of items name k) ms) is ∙ ap (λ (l : List (Option WaveItem)). slice_get (lane name m items) k ∷ l) (wave_by items name k o ms)

pub wave_is : (items : List WaveItem) (name : Name) (k : ℕ) → Orderly items → wave items name k ≡ row_of name k items name.members
wave_is items name k o = wave_by items name k o name.members

-- ---- gaps

no_gap_head : (o : Option WaveItem) (ws : List (Option WaveItem)) → has_gap (o ∷ ws) ≡ false → ((x : WaveItem) × (o ≡ Some x)) × (has_gap ws ≡ false)
no_gap_head None ws e = let n : true ≡ false = e in cc
no_gap_head (Some x) ws e = ((x, refl), e)

pub no_gap_at : (g : ℕ → Option WaveItem) (ms : List ℕ) (p r : ℕ) → has_gap (map g ms) ≡ false → slice_get ms p ≡ Some r → (x : WaveItem) × (g r ≡ Some x)
no_gap_at g [] p r e is = absurd (let n : None ≡ Some r = is in cc)
no_gap_at g (m ∷ ms) zero r e is =
    let s : m ≡ r = let q : Some m ≡ Some r = is in cc in
    subst (λ n. (x : WaveItem) × (g n ≡ Some x)) s (no_gap_head (g m) (map g ms) e).0
no_gap_at g (m ∷ ms) (suc p) r e is = no_gap_at g ms p r (no_gap_head (g m) (map g ms) e).1 is

gap_more : (o : Option WaveItem) (ws : List (Option WaveItem)) → has_gap ws ≡ true → has_gap (o ∷ ws) ≡ true
gap_more None ws e = refl
gap_more (Some x) ws e = e

pub gap_at : (g : ℕ → Option WaveItem) (ms : List ℕ) (p r : ℕ) → slice_get ms p ≡ Some r → g r ≡ None → has_gap (map g ms) ≡ true
gap_at g [] p r is e = absurd (let n : None ≡ Some r = is in cc)
gap_at g (m ∷ ms) zero r is e =
    let s : r ≡ m = let q : Some m ≡ Some r = is in cc in
    ap (λ (o : Option WaveItem). has_gap (o ∷ map g ms)) (ap g (sym s) ∙ e)
gap_at g (m ∷ ms) (suc p) r is e = gap_more (g m) (map g ms) (gap_at g ms p r is e)

-- what is there stays there, so a whole wave stays as it is
pub whole_stays : (g h : ℕ → Option WaveItem) (ms : List ℕ) → ((m : ℕ) (x : WaveItem) → g m ≡ Some x → h m ≡ Some x) → has_gap (map g ms) ≡ false → map h ms ≡ map g ms
whole_stays g h [] keeps e = refl
whole_stays g h (m ∷ ms) keeps e =
    let a = no_gap_head (g m) (map g ms) e in
    let here : h m ≡ g m = keeps m a.0.0 a.0.1 ∙ sym a.0.1 in
    ap (λ (o : Option WaveItem). o ∷ map h ms) here ∙ ap (λ (l : List (Option WaveItem)). g m ∷ l) (whole_stays g h ms keeps a.1)

-- a gap stays a gap where nothing comes
gap_cases : (o : Option WaveItem) (ws : List (Option WaveItem)) → has_gap (o ∷ ws) ≡ true → (o ≡ None) ⊎ (has_gap ws ≡ true)
gap_cases None ws e = inl refl
gap_cases (Some x) ws e = inr e

pub gap_later : (g h : ℕ → Option WaveItem) (ms : List ℕ) → ((m : ℕ) → g m ≡ None → h m ≡ None) → has_gap (map g ms) ≡ true → has_gap (map h ms) ≡ true
gap_later g h [] none e = e
gap_later g h (m ∷ ms) none e =
    elim (gap_cases (g m) (map g ms) e) [
      | inl is ↦ ap (λ (o : Option WaveItem). has_gap (o ∷ map h ms)) (none m is)
      | inr rest ↦ gap_more (h m) (map h ms) (gap_later g h ms none rest)
    ]

pub none_past : (l : List WaveItem) (n k : ℕ) → n ≤ k → slice_get l n ≡ None → slice_get l k ≡ None
none_past [] n k h e = refl
none_past (x ∷ xs) zero k h e = absurd (let q : Some x ≡ None = e in cc)
none_past (x ∷ xs) (suc n) zero h e = absurd (omega (arith, h))
none_past (x ∷ xs) (suc n) (suc k) h e = none_past xs n k (omega (arith, h)) e

-- ---- one call more

pub eq_itself : (name : Name) → is_eq (name_cmp name name) ≡ true
eq_itself name = ap is_eq (tied_itself name_total name)

pub equal_from : (o : Ordering) → is_eq o ≡ true → o ≡ Equal
equal_from Less e = cc
equal_from Equal e = refl
equal_from Greater e = cc

pub lane_push : (h : List WaveItem) (x : WaveItem) → lane x.name x.place.rank (h ++ x ∷ []) ≡ lane x.name x.place.rank h ++ x ∷ []
lane_push h x =
    filter-append (is_of x.name x.place.rank) h (x ∷ [])
    ∙ ap (λ b. lane x.name x.place.rank h ++ cond b (x ∷ []) []) (and_from (is_eq (name_cmp x.name x.name)) (x.place.rank == x.place.rank) (eq_itself x.name) (eq-eqb x.place.rank x.place.rank refl))

pub lane_of_other : (name : Name) (m : ℕ) (h : List WaveItem) (x : WaveItem) → is_of name m x ≡ false → lane name m (h ++ x ∷ []) ≡ lane name m h
lane_of_other name m h x e = filter-append (is_of name m) h (x ∷ []) ∙ ap (λ b. lane name m h ++ cond b (x ∷ []) []) e ∙ append-nil (lane name m h)

pub rank_apart : (name : Name) (m : ℕ) (x : WaveItem) → (m ≡ x.place.rank → ⊥) → is_of name m x ≡ false
rank_apart name m x apart = and_right (is_eq (name_cmp name x.name)) (x.place.rank == m) (ne_eqb x.place.rank m (λ e. apart (sym e)))

pub number_last : (h : List WaveItem) (x : WaveItem) → Orderly (h ++ x ∷ []) → x.number ≡ length (lane x.name x.place.rank h)
number_last h x o =
    let l = lane x.name x.place.rank h in
    o.numbered x.name x.place.rank (length l) x (ap (λ (w : List WaveItem). slice_get w (length l)) (lane_push h x) ∙ get_last l x)

-- what stands at a place of a lane stays
pub lane_keeps : (name : Name) (m : ℕ) (h zs : List WaveItem) (k : ℕ) (y : WaveItem) → slice_get (lane name m h) k ≡ Some y → slice_get (lane name m (h ++ zs)) k ≡ Some y
lane_keeps name m h zs k y e = ap (λ (l : List WaveItem). slice_get l k) (filter-append (is_of name m) h zs) ∙ get_before (lane name m h) (lane name m zs) k y e

first_dropped : (n : ℕ) (xs : List WaveItem) → slice_get (drop n xs) 0 ≡ slice_get xs n
first_dropped zero xs = refl
first_dropped (suc n) [] = refl
first_dropped (suc n) (x ∷ xs) = first_dropped n xs

pub fronts_of : (name : Name) (n : ℕ) (items : List WaveItem) (ms : List ℕ) → map (λ (l : List WaveItem). slice_get l 0) (map (λ m. drop n (lane name m items)) ms) ≡ row_of name n items ms
fronts_of name n items [] = refl
fronts_of name n items (m ∷ ms) =
    ap (λ (o : Option WaveItem). o ∷ map (λ (l : List WaveItem). slice_get l 0) (map (λ k. drop n (lane name k items)) ms)) (first_dropped n (lane name m items))
    ∙ ap (λ (l : List (Option WaveItem)). slice_get (lane name m items) n ∷ l) (fronts_of name n items ms)
