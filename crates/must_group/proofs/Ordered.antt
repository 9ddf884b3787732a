-- Rows in order of key.
use Rattle.std.proofs.Common.{◌≡◌, ℕ, suc, ◌<◌, ◌≤◌, Bool, true, false, not, cond, List, [], ◌∷◌, length, get_or, Less, Equal, Greater, sym, refl, ap, subst, ◌∙◌, arith}
use Rattle.std.specs.Prelude.{filter, int_lt}
use Rattle.std.specs.Cmp.{IsStrictWeakOrder, int_cmp_total}
use Rattle.std.specs.List.{All}
use Rattle.std.specs.List.Sorted.{IsSortedBy, IsStableBy, ties}
use Rattle.std.specs.Ordering.{is_lt, int_cmp}
use Rattle.std.proofs.lemmas.Bool.{true≢false, and_from, and_parts, not-true, not_from_false}
use Rattle.std.proofs.lemmas.List.Elements.{All-nil, All-cons, All-head, All-tail, All-filter, All-weaker}
use Rattle.std.proofs.lemmas.List.Sorted.{ranks_by, sorted_far}
use Rattle.std.proofs.lemmas.List.Kept.{IsSortedBy-filter}
use Rattle.must_group.specs.declared.splits.SplitRow.{SplitRow}
use Rattle.must_group.specs.Split.{insert_by_key, by_key}

-- a row of a lower key
abbrev pub lower : SplitRow → SplitRow → Bool
lower row next = is_lt (int_cmp row.key next.key)

pub order : IsStrictWeakOrder lower
order = ranks_by int_cmp_total (λ row. row.key)

lower_by : (b c : Bool) → is_lt (cond b Less (cond c Greater Equal)) ≡ b
lower_by true c = refl
lower_by false true = refl
lower_by false false = refl

-- the word of the definition and that of the sort
lower_is : (row next : SplitRow) → lower row next ≡ int_lt row.key next.key
lower_is row next = lower_by (int_lt row.key next.key) (int_lt next.key row.key)

itself_by : (row : SplitRow) (b : Bool) → lower row row ≡ b → lower row row ≡ false
itself_by row true e = order.one_way row row e
itself_by row false e = e

itself : (row : SplitRow) → lower row row ≡ false
itself row = itself_by row (lower row row) refl

tied : (row next : SplitRow) → lower row next ≡ false → lower next row ≡ false → ties lower row next ≡ true
tied row next a b = and_from (not (lower row next)) (not (lower next row)) (not_from_false (lower row next) a) (not_from_false (lower next row) b)

-- no row is of a lower key than one before it
abbrev pub Rises : List SplitRow → Type 0
Rises [] = Unit {0}
Rises (row ∷ rows) = All (λ next. lower next row ≡ false) rows × Rises rows

rises_far : (rows : List SplitRow) → ((i j : ℕ) (d : SplitRow) → i ≤ j → j < length rows → lower (get_or rows j d) (get_or rows i d) ≡ false) → Rises rows
rises_far [] far = tt
rises_far (row ∷ rows) far = (λ k d within. far 0 (suc k) d (omega arith) (omega arith), rises_far rows (λ i j d le within. far (suc i) (suc j) d (omega arith) (omega arith)))

pub rises_sorted : (rows : List SplitRow) → IsSortedBy lower rows → Rises rows
rises_sorted rows h = rises_far rows (sorted_far lower order rows h)

-- the rest of two lists, where the first elements are alike
rest_alike : (b : Bool) (row : SplitRow) (xs ys : List SplitRow) → cond b (row ∷ xs) xs ≡ cond b (row ∷ ys) ys → xs ≡ ys
rest_alike true row xs ys h = cc
rest_alike false row xs ys h = h

-- rows that rise, and have those of each key in one order, are one list
none_first : (row : SplitRow) (rows : List SplitRow) → filter (ties lower row) (row ∷ rows) ≡ row ∷ filter (ties lower row) rows
none_first row rows = ap (λ b. cond b (row ∷ filter (ties lower row) rows) (filter (ties lower row) rows)) (tied row row (itself row) (itself row))

not_below : (row next : SplitRow) (rows others : List SplitRow) → Rises (next ∷ rows) → filter (ties lower row) (row ∷ others) ≡ filter (ties lower row) (next ∷ rows) → lower row next ≡ false
not_below row next rows others up h =
    let P : SplitRow → Type 0 = λ r. lower r next ≡ false in
    let all : All P (filter (ties lower row) (next ∷ rows)) = All-filter (ties lower row) P (next ∷ rows) (All-cons P next rows (itself next) up.0) in
    let same : filter (ties lower row) (next ∷ rows) ≡ row ∷ filter (ties lower row) others = sym h ∙ none_first row others in
    All-head P row (filter (ties lower row) others) (subst (All P) same all)

pub one_order : (xs ys : List SplitRow) → Rises xs → Rises ys → ((row : SplitRow) → filter (ties lower row) xs ≡ filter (ties lower row) ys) → xs ≡ ys
one_order [] [] up down h = refl
one_order [] (y ∷ ys) up down h = let e = h y ∙ none_first y ys in absurd (cc)
one_order (x ∷ xs) [] up down h = let e = sym (h x) ∙ none_first x xs in absurd (cc)
one_order (x ∷ xs) (y ∷ ys) up down h =
    let a = not_below x y ys xs down (h x) in
    let b = not_below y x xs ys up (sym (h y)) in
    let at : filter (ties lower x) (y ∷ ys) ≡ y ∷ filter (ties lower x) ys = ap (λ t. cond t (y ∷ filter (ties lower x) ys) (filter (ties lower x) ys)) (tied x y a b) in
    let heads : x ∷ filter (ties lower x) xs ≡ y ∷ filter (ties lower x) ys = sym (none_first x xs) ∙ h x ∙ at in
    let same : x ≡ y = cc in
    let rest = one_order xs ys up.1 down.1 (λ row. rest_alike (ties lower row x) x (filter (ties lower row) xs) (filter (ties lower row) ys) (h row ∙ ap (λ r. cond (ties lower row r) (r ∷ filter (ties lower row) ys) (filter (ties lower row) ys)) (sym same))) in
    ap (λ r. r ∷ xs) same ∙ ap (λ l. y ∷ l) rest

-- the definition's order rises
cons_by : (b : Bool) (P : SplitRow → Type 0) (row next : SplitRow) (rows inserted : List SplitRow) → P row → All P (next ∷ rows) → All P inserted → All P (cond b (next ∷ inserted) (row ∷ next ∷ rows))
cons_by true P row next rows inserted here all rest = All-cons P next inserted (All-head P next rows all) rest
cons_by false P row next rows inserted here all rest = All-cons P row (next ∷ rows) here all

all_inserted : (P : SplitRow → Type 0) (row : SplitRow) (rows : List SplitRow) → P row → All P rows → All P (insert_by_key row rows)
all_inserted P row [] here all = All-cons P row [] here all
all_inserted P row (next ∷ rows) here all = cons_by (int_lt next.key row.key) P row next rows (insert_by_key row rows) here all (all_inserted P row rows here (All-tail P next rows all))

rises_by : (b : Bool) (row next : SplitRow) (rows : List SplitRow) → lower next row ≡ b → Rises (next ∷ rows) → Rises (insert_by_key row rows) → Rises (cond b (next ∷ insert_by_key row rows) (row ∷ next ∷ rows))
rises_by true row next rows e up rest = (all_inserted (λ r. lower r next ≡ false) row rows (order.one_way next row e) up.0, rest)
rises_by false row next rows e up rest =
    let P : SplitRow → Type 0 = λ r. lower r row ≡ false in
    (All-cons P next rows e (All-weaker (λ r. lower r next ≡ false) P (λ r h. order.chain r next row h e) rows up.0), up)

rises_inserted : (row : SplitRow) (rows : List SplitRow) → Rises rows → Rises (insert_by_key row rows)
rises_inserted row [] up = (All-nil (λ next. lower next row ≡ false), tt)
rises_inserted row (next ∷ rows) up = rises_by (int_lt next.key row.key) row next rows (lower_is next row) up (rises_inserted row rows up.1)

pub rises_by_key : (rows : List SplitRow) → Rises (by_key rows)
rises_by_key [] = tt
rises_by_key (row ∷ rows) = rises_inserted row (by_key rows) (rises_by_key rows)

-- the definition keeps the order of the rows of a key
swap_apart : (b c : Bool) (row next : SplitRow) (rows : List SplitRow) → (b ≡ true → c ≡ true → ⊥) → cond c (next ∷ cond b (row ∷ rows) rows) (cond b (row ∷ rows) rows) ≡ cond b (row ∷ cond c (next ∷ rows) rows) (cond c (next ∷ rows) rows)
swap_apart true true row next rows apart = absurd (apart refl refl)
swap_apart true false row next rows apart = refl
swap_apart false true row next rows apart = refl
swap_apart false false row next rows apart = refl

never_both : (at row next : SplitRow) → lower next row ≡ true → ties lower at row ≡ true → ties lower at next ≡ true → ⊥
never_both at row next e a b =
    let one = and_parts (not (lower at row)) (not (lower row at)) a in
    let two = and_parts (not (lower at next)) (not (lower next at)) b in
    true≢false (sym e ∙ order.chain next at row (not-true (lower next at) two.1) (not-true (lower at row) one.0))

stable_by : (b : Bool) (at row next : SplitRow) (rows : List SplitRow) → lower next row ≡ b → filter (ties lower at) (insert_by_key row rows) ≡ filter (ties lower at) (row ∷ rows) → filter (ties lower at) (cond b (next ∷ insert_by_key row rows) (row ∷ next ∷ rows)) ≡ filter (ties lower at) (row ∷ next ∷ rows)
stable_by true at row next rows e h =
    ap (λ l. cond (ties lower at next) (next ∷ l) l) h ∙ swap_apart (ties lower at row) (ties lower at next) row next (filter (ties lower at) rows) (λ a b. never_both at row next e a b)
stable_by false at row next rows e h = refl

stable_inserted : (at row : SplitRow) (rows : List SplitRow) → filter (ties lower at) (insert_by_key row rows) ≡ filter (ties lower at) (row ∷ rows)
stable_inserted at row [] = refl
stable_inserted at row (next ∷ rows) = stable_by (int_lt next.key row.key) at row next rows (lower_is next row) (stable_inserted at row rows)

pub stable_by_key : (at : SplitRow) (rows : List SplitRow) → filter (ties lower at) (by_key rows) ≡ filter (ties lower at) rows
stable_by_key at [] = refl
stable_by_key at (row ∷ rows) = stable_inserted at row (by_key rows) ∙ ap (λ l. cond (ties lower at row) (row ∷ l) l) (stable_by_key at rows)

-- two filters, one after the other
comm_by : (b c : Bool) (p q : SplitRow → Bool) (row : SplitRow) (rows : List SplitRow) → q row ≡ b → p row ≡ c → filter p (filter q rows) ≡ filter q (filter p rows) → filter p (cond b (row ∷ filter q rows) (filter q rows)) ≡ filter q (cond c (row ∷ filter p rows) (filter p rows))
comm_by true true p q row rows e f h = rw (e, f) (ap (λ l. row ∷ l) h)
comm_by true false p q row rows e f h = rw f h
comm_by false true p q row rows e f h = rw e h
comm_by false false p q row rows e f h = h

filter_comm : (p q : SplitRow → Bool) (rows : List SplitRow) → filter p (filter q rows) ≡ filter q (filter p rows)
filter_comm p q [] = refl
filter_comm p q (row ∷ rows) = comm_by (q row) (p row) p q row rows refl refl (filter_comm p q rows)

-- what a stable sort by key gives of some rows is the definition's order of those rows
pub chosen_by_key : (p : SplitRow → Bool) (rows ordered : List SplitRow) → IsSortedBy lower ordered → IsStableBy lower rows ordered → filter p ordered ≡ by_key (filter p rows)
chosen_by_key p rows ordered up stable =
    one_order (filter p ordered) (by_key (filter p rows)) (rises_sorted (filter p ordered) (IsSortedBy-filter lower order p ordered up)) (rises_by_key (filter p rows)) (λ row.
    filter_comm (ties lower row) p ordered ∙ ap (λ l. filter p l) (stable row) ∙ filter_comm p (ties lower row) rows ∙ sym (stable_by_key row (filter p rows)))
