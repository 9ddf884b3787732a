-- The rows that `clap` keeps, looked up by their ids.
use Rattle.std.proofs.Common.{◌≡◌, ◌∙◌, ◌||◌, Bool, cond, true, false, refl, sym, ap, List, [], ◌∷◌, ◌++◌, Option, Some, None, is_some, option_map, true≢false}
use Rattle.std.specs.Prelude.{find}
use Rattle.std.specs.Str.{bytes_eq}
use Rattle.std.proofs.lemmas.Slice.Eq.{bytes_eq-Decides}
use Rattle.clap.specs.Walk.{Row, Text, at_row, has_row, without}

abbrev pub row_by : Text → List Row → Option Row
row_by id rows = find (λ r. bytes_eq r.id id) rows

pub same_text : (a b : Text) → bytes_eq a b ≡ true → a ≡ b
same_text a b e = (bytes_eq-Decides a b).0 e

-- a row is there where the id has one
pub has_row-row_by : (id : Text) (rows : List Row) → has_row id rows ≡ is_some (row_by id rows)
has_row-row_by id [] = refl
has_row-row_by id (r ∷ rs) = go (bytes_eq r.id id) (has_row-row_by id rs)
  where
    go : (b : Bool) → has_row id rs ≡ is_some (row_by id rs) → (b || has_row id rs) ≡ is_some (cond b (Some r) (row_by id rs))
    go true e = refl
    go false e = e

pub none_here : {X : Type 0} (f : Row → X) (id : Text) (rows : List Row) → option_map f (row_by id rows) ≡ None → has_row id rows ≡ false
none_here f id rows e = has_row-row_by id rows ∙ go (row_by id rows) e
  where
    go : (o : Option Row) → option_map f o ≡ None → is_some o ≡ false
    go None e = refl
    go (Some r) e = absurd (true≢false (ap is_some e))

pub without_none : (id : Text) (rows : List Row) → has_row id rows ≡ false → without id rows ≡ rows
without_none id [] e = refl
without_none id (r ∷ rs) e = go (bytes_eq r.id id) e (without_none id rs)
  where
    go : (b : Bool) → (b || has_row id rs) ≡ false → (has_row id rs ≡ false → without id rs ≡ rs)
        → cond b ([] ++ rs) (r ∷ without id rs) ≡ r ∷ rs
    go true e rest = absurd (true≢false e)
    go false e rest = ap (λ xs. r ∷ xs) (rest e)

-- the row of an id, after a change of the rows of that id
module _ (id : Text) (change : Row → Row) (missing : Row) (keeps : (r : Row) → (change r).id ≡ r.id) (named : missing.id ≡ id) where
  abbrev pub changed : List Row → List Row
  changed rows = at_row id (λ r. change r ∷ []) (missing ∷ []) rows

  abbrev pub or_missing : Option Row → Row
  or_missing None = missing
  or_missing (Some r) = change r

  is_named : bytes_eq missing.id id ≡ true
  is_named = (bytes_eq-Decides missing.id id).1 named

  pub changed_row : (rows : List Row) → row_by id (changed rows) ≡ Some (or_missing (row_by id rows))
  changed_row [] = ap (λ b. cond b (Some missing) None) is_named
  changed_row (r ∷ rs) = go (bytes_eq r.id id) refl (changed_row rs)
    where
      go : (b : Bool) → bytes_eq r.id id ≡ b → row_by id (changed rs) ≡ Some (or_missing (row_by id rs))
          → row_by id (cond b ((change r ∷ []) ++ rs) (r ∷ changed rs)) ≡ Some (or_missing (cond b (Some r) (row_by id rs)))
      go true e rest = ap (λ t. cond (bytes_eq t id) (Some (change r)) (row_by id rs)) (keeps r) ∙ ap (λ b. cond b (Some (change r)) (row_by id rs)) e
      go false e rest = ap (λ b. cond b (Some r) (row_by id (changed rs))) e ∙ rest

  module _ (other : Text) (apart : bytes_eq id other ≡ false) where
    missing_apart : bytes_eq missing.id other ≡ false
    missing_apart = ap (λ t. bytes_eq t other) named ∙ apart

    pub kept_row : (rows : List Row) → row_by other (changed rows) ≡ row_by other rows
    kept_row [] = ap (λ b. cond b (Some missing) None) missing_apart
    kept_row (r ∷ rs) = go (bytes_eq r.id id) refl (kept_row rs)
      where
        go : (b : Bool) → bytes_eq r.id id ≡ b → row_by other (changed rs) ≡ row_by other rs
            → row_by other (cond b ((change r ∷ []) ++ rs) (r ∷ changed rs)) ≡ cond (bytes_eq r.id other) (Some r) (row_by other rs)
        go true e rest =
            let here : bytes_eq r.id other ≡ false = ap (λ t. bytes_eq t other) (same_text r.id id e) ∙ apart in
            ap (λ t. cond (bytes_eq t other) (Some (change r)) (row_by other rs)) (keeps r)
            ∙ ap (λ b. cond b (Some (change r)) (row_by other rs)) here ∙ sym (ap (λ b. cond b (Some r) (row_by other rs)) here)
        go false e rest = ap (λ o. cond (bytes_eq r.id other) (Some r) o) rest
