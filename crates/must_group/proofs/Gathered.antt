-- The groups of a split while its rows are gone over in order of key.
use Rattle.std.proofs.Common.{◌≡◌, ℕ, suc, ◌+◌, ◌<◌, Bool, true, false, cond, ℤ, negsuc, List, [], ◌∷◌, ◌++◌, map, length, get_or, take, Option, Some, None, unwrap_or, sym, refl, ap, ◌∙◌, arith, nat_eq}
use Rattle.std.specs.Prelude.{filter, int_lt}
use Rattle.std.specs.Cmp.{nat_eq_equiv, int_eq_equiv}
use Rattle.std.specs.List.{All, IsDistinct}
use Rattle.std.specs.List.Sorted.{IsSortedBy, IsStableBy}
use Rattle.std.specs.Ordering.{int_eq}
use Rattle.std.specs.Set.{is_member}
use Rattle.std.proofs.lemmas.Bool.{true≢false}
use Rattle.std.proofs.lemmas.Bool.Decides.{Decides-int_eq}
use Rattle.std.proofs.lemmas.List.{append-nil, map-append, length-map, get_or-map, get_or-take, length-take-le}
use Rattle.std.proofs.lemmas.List.Elements.{All-map, All-filter, All-nil, All-head, All-tail, All-cons, All-weaker, filter_more}
use Rattle.std.proofs.lemmas.List.Folds.{list_any_none}
use Rattle.std.proofs.lemmas.Map.Keys.{apart_from_distinct}
use Rattle.must_group.specs.declared.splits.SplitRow.{SplitRow}
use Rattle.must_group.specs.Split.{by_key, members_of_color, group_of_color, split_groups, insert_by_key}
use Rattle.must_group.proofs.Ordered.{lower, chosen_by_key}

-- the members of a color so far, and nothing before its first
abbrev pub some_of : List ℕ → Option (List ℕ)
some_of [] = None
some_of (x ∷ xs) = Some (x ∷ xs)

abbrev pub members_so_far : List SplitRow → ℤ → List ℕ
members_so_far rows color = map (λ row. row.member) (filter (λ row. int_eq row.color color) rows)

abbrev pub gathered : List SplitRow → ℤ → Option (List ℕ)
gathered rows color = cond (int_eq color (negsuc 0)) None (some_of (members_so_far rows color))

unwrapped : (xs : List ℕ) → unwrap_or (some_of xs) [] ≡ xs
unwrapped [] = refl
unwrapped (x ∷ xs) = refl

pushed : (xs : List ℕ) (x : ℕ) → some_of (xs ++ x ∷ []) ≡ Some (xs ++ x ∷ [])
pushed [] x = refl
pushed (y ∷ ys) x = refl

pub full : (xs : List ℕ) → 0 < length xs → some_of xs ≡ Some xs
full [] h = absurd (omega arith)
full (x ∷ xs) h = refl

-- one more row of the order
members_more : (rows : List SplitRow) (i : ℕ) (d : SplitRow) (color : ℤ) → i < length rows → members_so_far (take (i + 1) rows) color ≡ members_so_far (take i rows) color ++ cond (int_eq (get_or rows i d).color color) ((get_or rows i d).member ∷ []) []
members_more rows i d color within =
    let p : SplitRow → Bool = λ row. int_eq row.color color in
    let f : SplitRow → ℕ = λ row. row.member in
    ap (map f) (filter_more p rows i d within) ∙ map-append f (filter p (take i rows)) (cond (p (get_or rows i d)) (get_or rows i d ∷ []) []) ∙ ap (λ l. members_so_far (take i rows) color ++ l) (mapped (p (get_or rows i d)) (get_or rows i d)) where
      mapped : (b : Bool) (row : SplitRow) → map (λ row. row.member) (cond b (row ∷ []) []) ≡ cond b (row.member ∷ []) []
      mapped true row = refl
      mapped false row = refl

skipped_by : (b : Bool) (rows more : List SplitRow) (color : ℤ) → int_eq color (negsuc 0) ≡ b → (b ≡ false → members_so_far more color ≡ members_so_far rows color) → gathered more color ≡ gathered rows color
skipped_by true rows more color e h = rw e refl
skipped_by false rows more color e h = ap (λ l. cond (int_eq color (negsuc 0)) None (some_of l)) (h refl)

apart : (a b c : ℤ) → int_eq a b ≡ true → int_eq c b ≡ false → int_eq a c ≡ false
apart a b c same differ = int_eq_equiv.congr a b c same ∙ int_eq_equiv.symm b c ∙ differ

pub gathered_skip : (rows : List SplitRow) (i : ℕ) (d : SplitRow) → i < length rows → int_eq (get_or rows i d).color (negsuc 0) ≡ true → (color : ℤ) → gathered (take (i + 1) rows) color ≡ gathered (take i rows) color
gathered_skip rows i d within undefined color =
    skipped_by (int_eq color (negsuc 0)) (take i rows) (take (i + 1) rows) color refl (λ other.
    let out = apart (get_or rows i d).color (negsuc 0) color undefined other in
    members_more rows i d color within ∙ ap (λ b. members_so_far (take i rows) color ++ cond b ((get_or rows i d).member ∷ []) []) out ∙ append-nil (members_so_far (take i rows) color))

-- a row joins the group of its color
abbrev joined : List SplitRow → SplitRow → ℤ → Option (List ℕ)
joined rows row color = cond (int_eq row.color color) (Some (unwrap_or (gathered rows row.color) [] ++ row.member ∷ [])) (gathered rows color)

so_far : (rows : List SplitRow) (color : ℤ) → int_eq color (negsuc 0) ≡ false → unwrap_or (gathered rows color) [] ≡ members_so_far rows color
so_far rows color h = ap (λ b. unwrap_or (cond b None (some_of (members_so_far rows color))) []) h ∙ unwrapped (members_so_far rows color)

join_by : (b : Bool) (rows more : List SplitRow) (row : SplitRow) (color : ℤ) → int_eq row.color (negsuc 0) ≡ false → int_eq row.color color ≡ b → members_so_far more color ≡ members_so_far rows color ++ cond b (row.member ∷ []) [] → gathered more color ≡ joined rows row color
join_by true rows more row color other same h =
    let e : row.color ≡ color = (Decides-int_eq row.color color).0 same in
    let defined : int_eq color (negsuc 0) ≡ false = ap (λ c. int_eq c (negsuc 0)) (sym e) ∙ other in
    let left : gathered more color ≡ Some (members_so_far rows color ++ row.member ∷ []) =
    ap (λ b. cond b None (some_of (members_so_far more color))) defined ∙ ap some_of h ∙ pushed (members_so_far rows color) row.member in
    let right : joined rows row color ≡ Some (members_so_far rows row.color ++ row.member ∷ []) =
    ap (λ b. cond b (Some (unwrap_or (gathered rows row.color) [] ++ row.member ∷ [])) (gathered rows color)) same ∙ ap (λ l. Some (l ++ row.member ∷ [])) (so_far rows row.color other) in
    left ∙ ap (λ c. Some (members_so_far rows c ++ row.member ∷ [])) (sym e) ∙ sym right
join_by false rows more row color other differ h =
    ap (λ l. cond (int_eq color (negsuc 0)) None (some_of l)) (h ∙ append-nil (members_so_far rows color)) ∙ sym (ap (λ b. cond b (Some (unwrap_or (gathered rows row.color) [] ++ row.member ∷ [])) (gathered rows color)) differ)

pub gathered_join : (rows : List SplitRow) (i : ℕ) (d : SplitRow) → i < length rows → int_eq (get_or rows i d).color (negsuc 0) ≡ false → (color : ℤ) → gathered (take (i + 1) rows) color ≡ joined (take i rows) (get_or rows i d) color
gathered_join rows i d within defined color =
    join_by (int_eq (get_or rows i d).color color) (take i rows) (take (i + 1) rows) (get_or rows i d) color defined refl (members_more rows i d color within)

-- the member of a row is in no group of the rows before
pub new_member : (rows : List SplitRow) (i : ℕ) (d : SplitRow) (color : ℤ) → i < length rows → IsDistinct nat_eq (map (λ row. row.member) rows) → is_member nat_eq (members_so_far (take i rows) color) (get_or rows i d).member ≡ false
new_member rows i d color within h =
    let f : SplitRow → ℕ = λ row. row.member in
    let m = (get_or rows i d).member in
    let P : SplitRow → Type 0 = λ row. nat_eq m row.member ≡ false in
    let each : All P (take i rows) = λ k e less.
    let long = length-take-le i rows (omega arith) in
    let before : k < i = omega arith in
    let at_k = get_or-map f rows k e e.member (omega arith) in
    let at_i = get_or-map f rows i d e.member within in
    let differ = apart_from_distinct nat_eq (map f rows) k i e.member h before (omega (arith, length-map rows f)) in
    rw (get_or-take i rows k e before) (nat_eq_equiv.symm m (get_or rows k e).member ∙ (rw (at_k, at_i) at differ)) in
    list_any_none (nat_eq m) (members_so_far (take i rows) color) (All-map (λ x. nat_eq m x ≡ false) f (filter (λ row. int_eq row.color color) (take i rows)) (All-filter (λ row. int_eq row.color color) P (take i rows) each))

pub no_member : (rows : List SplitRow) (color : ℤ) (m : ℕ) → is_member nat_eq (members_so_far rows color) m ≡ false → is_member nat_eq (unwrap_or (gathered rows color) []) m ≡ false
no_member rows color m h = by (int_eq color (negsuc 0)) where
  by : (b : Bool) → is_member nat_eq (unwrap_or (cond b None (some_of (members_so_far rows color))) []) m ≡ false
  by true = refl
  by false = ap (λ l. is_member nat_eq l m) (unwrapped (members_so_far rows color)) ∙ h

-- a row's own color has a member
length_cond : (b : Bool) (row : SplitRow) (rows : List SplitRow) → b ≡ true → 0 < length (cond b (row ∷ rows) rows)
length_cond true row rows h = omega arith
length_cond false row rows h = absurd (true≢false (sym h))

longer_cond : (b : Bool) (row : SplitRow) (rows : List SplitRow) → 0 < length rows → 0 < length (cond b (row ∷ rows) rows)
longer_cond true row rows h = omega arith
longer_cond false row rows h = h

abbrev of_color : List SplitRow → ℤ → List SplitRow
of_color rows color = filter (λ row. int_eq row.color color) rows

has_own : (rows : List SplitRow) → All (λ row. 0 < length (of_color rows row.color)) rows
has_own [] = All-nil (λ row. 0 < length (of_color [] row.color))
has_own (row ∷ rows) =
    let P : SplitRow → Type 0 = λ at. 0 < length (of_color (row ∷ rows) at.color) in
    All-cons P row rows
    (length_cond (int_eq row.color row.color) row (of_color rows row.color) (int_eq_equiv.refl row.color))
    (All-weaker (λ at. 0 < length (of_color rows at.color)) P (λ at h. longer_cond (int_eq row.color at.color) row (of_color rows at.color) h) rows (has_own rows))

-- the order of the definition has as many rows
length_by : (b : Bool) (row next : SplitRow) (rows inserted : List SplitRow) → length inserted ≡ suc (length rows) → length (cond b (next ∷ inserted) (row ∷ next ∷ rows)) ≡ suc (suc (length rows))
length_by true row next rows inserted h = ap suc h
length_by false row next rows inserted h = refl

length_inserted : (row : SplitRow) (rows : List SplitRow) → length (insert_by_key row rows) ≡ suc (length rows)
length_inserted row [] = refl
length_inserted row (next ∷ rows) = length_by (int_lt next.key row.key) row next rows (insert_by_key row rows) (length_inserted row rows)

length_by_key : (rows : List SplitRow) → length (by_key rows) ≡ length rows
length_by_key [] = refl
length_by_key (row ∷ rows) = length_inserted row (by_key rows) ∙ ap suc (length_by_key rows)

-- what is gathered in the end
defined_group : (b : Bool) (zs : List ℕ) → 0 < length zs → cond b None (some_of zs) ≡ cond b None (Some zs)
defined_group true zs h = refl
defined_group false zs h = full zs h

map_agree : {X Y : Type 0} (f g : X → Y) (xs : List X) → All (λ x. f x ≡ g x) xs → map f xs ≡ map g xs
map_agree f g [] h = refl
map_agree f g (x ∷ xs) h = ap (λ y. y ∷ map f xs) (All-head (λ y. f y ≡ g y) x xs h) ∙ ap (λ l. g x ∷ l) (map_agree f g xs (All-tail (λ y. f y ≡ g y) x xs h))

map_twice : {X Y Z : Type 0} (f : Y → Z) (g : X → Y) (xs : List X) → map f (map g xs) ≡ map (λ x. f (g x)) xs
map_twice f g [] = refl
map_twice f g (x ∷ xs) = ap (λ l. f (g x) ∷ l) (map_twice f g xs)

pub split_gathered : (rows ordered : List SplitRow) → IsSortedBy lower ordered → IsStableBy lower rows ordered → (found : ℤ → Option (List ℕ)) → ((color : ℤ) → found color ≡ gathered ordered color) → map found (map (λ row. row.color) rows) ≡ split_groups rows
split_gathered rows ordered up stable found h =
    let each : All (λ row. found row.color ≡ group_of_color rows row.color) rows =
    All-weaker (λ row. 0 < length (of_color rows row.color)) (λ row. found row.color ≡ group_of_color rows row.color) (λ row own.
    let p : SplitRow → Bool = λ other. int_eq other.color row.color in
    let chosen = ap (map (λ r. r.member)) (chosen_by_key p rows ordered up stable) in
    let long : 0 < length (members_of_color rows row.color) = omega (arith, length-map (by_key (filter p rows)) (λ r. r.member), length_by_key (filter p rows), own) in
    h row.color ∙ ap (λ l. cond (int_eq row.color (negsuc 0)) None (some_of l)) chosen ∙ defined_group (int_eq row.color (negsuc 0)) (members_of_color rows row.color) long) rows (has_own rows) in
    map_twice found (λ row. row.color) rows ∙ map_agree (λ row. found row.color) (λ row. group_of_color rows row.color) rows each
