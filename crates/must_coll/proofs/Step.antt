-- One call more at the progress of a name.
use Rattle.std.proofs.Common.{◌≡◌, ℕ, zero, suc, ◌≤◌, ◌<◌, true, false, List, [], ◌∷◌, ◌++◌, length, map, drop, set, get_or, Option, Some, None, eqb, refl, sym, ap, subst, ◌∙◌, inl, inr, arith, add-one}
use Rattle.std.specs.Prelude.{slice_get, nat_eq}
use Rattle.std.specs.List.{AllByRecursion, IsDistinct}
use Rattle.std.proofs.lemmas.List.{drop-append-le, drop-drop}
use Rattle.std.proofs.lemmas.Bool.{eqb-false, ne_eqb, cases_eq, cases_lt, cases_order}
use Rattle.std.proofs.lemmas.Option.{slice_get_within}
use Rattle.must_group.specs.Names.{Name}
use Rattle.must_coll.specs.declared.item.WaveItem.{WaveItem}
use Rattle.must_coll.specs.Waves.{lane, wave, has_gap, Orderly}
use Rattle.must_coll.specs.Fronts.{fronts, joined_at}
use Rattle.must_coll.specs.WaveLaws.{row_of, wave_is, no_gap_at, whole_stays, lane_push, lane_of_other, rank_apart, lane_keeps, fronts_of}

get_mapped : (f : ℕ → List WaveItem) (ms : List ℕ) (p r : ℕ) → slice_get ms p ≡ Some r → get_or (map f ms) p [] ≡ f r
get_mapped f [] p r e = absurd (let n : None ≡ Some r = e in cc)
get_mapped f (m ∷ ms) zero r e = let s : m ≡ r = let q : Some m ≡ Some r = e in cc in ap f s
get_mapped f (m ∷ ms) (suc p) r e = get_mapped f ms p r e

all_same : (f g : ℕ → List WaveItem) (m r : ℕ) (ms : List ℕ) → ((k : ℕ) → eqb r k ≡ false → f k ≡ g k) → AllByRecursion (λ k. nat_eq r k ≡ false) ms → map f ms ≡ map g ms
all_same f g m r [] same apart = refl
all_same f g m r (k ∷ ks) same apart = ap (λ (w : List WaveItem). w ∷ map f ks) (same k apart.0) ∙ ap (λ (l : List (List WaveItem)). g k ∷ l) (all_same f g m r ks same apart.1)

at_apart : (m : ℕ) (ms : List ℕ) (p r : ℕ) → AllByRecursion (λ k. nat_eq m k ≡ false) ms → slice_get ms p ≡ Some r → eqb m r ≡ false
at_apart m [] p r a e = absurd (let n : None ≡ Some r = e in cc)
at_apart m (k ∷ ks) zero r a e = let s : k ≡ r = let q : Some k ≡ Some r = e in cc in ap (λ n. eqb m n) (sym s) ∙ a.0
at_apart m (k ∷ ks) (suc p) r a e = at_apart m ks p r a.1 e

flip : (m r : ℕ) → eqb m r ≡ false → eqb r m ≡ false
flip m r e = ne_eqb r m (λ s. eqb-false m r e (sym s))

-- the lane of one member changes, and no other
set_one : (f g : ℕ → List WaveItem) (ms : List ℕ) (p r : ℕ) → IsDistinct nat_eq ms → slice_get ms p ≡ Some r → ((k : ℕ) → eqb r k ≡ false → f k ≡ g k) → set (map f ms) p (g r) ≡ map g ms
unfolding IsDistinct
set_one f g [] p r d e same = refl
set_one f g (m ∷ ms) zero r d e same =
    let s : r ≡ m = let q : Some m ≡ Some r = e in cc in
    ap (λ n. g n ∷ map f ms) s ∙ ap (λ (l : List (List WaveItem)). g m ∷ l) (all_same f g m r ms same (subst (λ n. AllByRecursion (λ k. nat_eq n k ≡ false) ms) (sym s) d.0))
set_one f g (m ∷ ms) (suc p) r d e same =
    ap (λ (w : List WaveItem). w ∷ set (map f ms) p (g r)) (same m (flip m r (at_apart m ms p r d.0 e))) ∙ ap (λ (l : List (List WaveItem)). g m ∷ l) (set_one f g ms p r d.1 e same)

drop_more : (n : ℕ) (l : List WaveItem) → drop 1 (drop n l) ≡ drop (suc n) l
drop_more n l = drop-drop 1 n l ∙ ap (λ k. drop k l) (add-one n)

pub all_dropped : (name : Name) (n : ℕ) (items : List WaveItem) (ms : List ℕ) → map (λ (l : List WaveItem). drop 1 l) (map (λ m. drop n (lane name m items)) ms) ≡ map (λ m. drop (suc n) (lane name m items)) ms
all_dropped name n items [] = refl
all_dropped name n items (m ∷ ms) =
    ap (λ (w : List WaveItem). w ∷ map (λ (l : List WaveItem). drop 1 l) (map (λ k. drop n (lane name k items)) ms)) (drop_more n (lane name m items)) ∙ ap (λ (l : List (List WaveItem)). drop (suc n) (lane name m items) ∷ l) (all_dropped name n items ms)

-- what is known of the name of a call that comes
pub record Comes (h : List WaveItem) (x : WaveItem) (position n : ℕ) : Type 0 where
  pub order : Orderly (h ++ x ∷ [])
  pub before_order : Orderly h
  pub distinct : IsDistinct nat_eq x.name.members
  pub stands : slice_get x.name.members position ≡ Some x.place.rank
  pub before : (j : ℕ) → j < n → has_gap (wave h x.name j) ≡ false
  pub gap : has_gap (wave h x.name n) ≡ true

get_front : (xs zs : List WaveItem) (k : ℕ) → k < length xs → slice_get (xs ++ zs) k ≡ slice_get xs k
get_front [] zs k less = absurd (omega (arith, less))
get_front (y ∷ ys) zs zero less = refl
get_front (y ∷ ys) zs (suc k) less = get_front ys zs k (omega (arith, less))

-- where its member is already past a wave, the call doesn't change it
rows_alike : (h : List WaveItem) (x : WaveItem) (n : ℕ) → n < length (lane x.name x.place.rank h) → (ms : List ℕ) → row_of x.name n (h ++ x ∷ []) ms ≡ row_of x.name n h ms
rows_alike h x n more [] = refl
rows_alike h x n more (m ∷ ms) =
    let here : slice_get (lane x.name m (h ++ x ∷ [])) n ≡ slice_get (lane x.name m h) n = elim (cases_eq m x.place.rank) [
      | inl e ↦ subst (λ k. slice_get (lane x.name k (h ++ x ∷ [])) n ≡ slice_get (lane x.name k h) n) (sym e) (ap (λ (l : List WaveItem). slice_get l n) (lane_push h x) ∙ get_front (lane x.name x.place.rank h) (x ∷ []) n more)
      | inr apart ↦ ap (λ (l : List WaveItem). slice_get l n) (lane_of_other x.name m h x (rank_apart x.name m x apart))
    ] in
    ap (λ (o : Option WaveItem). o ∷ row_of x.name n (h ++ x ∷ []) ms) here ∙ ap (λ (l : List (Option WaveItem)). slice_get (lane x.name m h) n ∷ l) (rows_alike h x n more ms)

module _ (h : List WaveItem) (x : WaveItem) (position n : ℕ) (c : Comes h x position n) where
  there : (j : ℕ) → j < n → (y : WaveItem) × (slice_get (lane x.name x.place.rank h) j ≡ Some y)
  there j less = no_gap_at (λ m. slice_get (lane x.name m h) j) x.name.members position x.place.rank (ap has_gap (sym (wave_is h x.name j c.before_order)) ∙ c.before j less) c.stands

  -- the member has given a call to each whole wave
  pub long : n ≤ length (lane x.name x.place.rank h)
  long = elim (cases_lt (length (lane x.name x.place.rank h)) n) [
    | inl less ↦ let t = there (length (lane x.name x.place.rank h)) less in absurd (omega (arith, slice_get_within (lane x.name x.place.rank h) (length (lane x.name x.place.rank h)) t.0 t.1))
    | inr far ↦ far
  ]

  pub lanes_then : joined_at (map (λ m. drop n (lane x.name m h)) x.name.members) position x ≡ map (λ m. drop n (lane x.name m (h ++ x ∷ []))) x.name.members
  lanes_then =
      let r = x.place.rank in
      let f = λ (m : ℕ). drop n (lane x.name m h) in
      let g = λ (m : ℕ). drop n (lane x.name m (h ++ x ∷ [])) in
      let mine : f r ++ x ∷ [] ≡ g r = sym (drop-append-le n (lane x.name r h) (x ∷ []) long) ∙ ap (λ (l : List WaveItem). drop n l) (sym (lane_push h x)) in
      ap (λ (w : List WaveItem). set (map f x.name.members) position (w ++ x ∷ [])) (get_mapped f x.name.members position r c.stands) ∙ ap (λ (w : List WaveItem). set (map f x.name.members) position w) mine
      ∙ set_one f g x.name.members position r c.distinct c.stands (λ k apart. ap (λ (l : List WaveItem). drop n l) (sym (lane_of_other x.name k h x (rank_apart x.name k x (λ e. eqb-false r k apart (sym e))))))

  -- the wave that waits is that of the first calls
  pub wave_then : fronts (joined_at (map (λ m. drop n (lane x.name m h)) x.name.members) position x) ≡ wave (h ++ x ∷ []) x.name n
  wave_then = ap fronts lanes_then ∙ fronts_of x.name n (h ++ x ∷ []) x.name.members ∙ sym (wave_is (h ++ x ∷ []) x.name n c.order)

  pub wave_stays : (j : ℕ) → has_gap (wave h x.name j) ≡ false → wave (h ++ x ∷ []) x.name j ≡ wave h x.name j
  wave_stays j e =
      wave_is (h ++ x ∷ []) x.name j c.order
      ∙ whole_stays (λ m. slice_get (lane x.name m h) j) (λ m. slice_get (lane x.name m (h ++ x ∷ [])) j) x.name.members (λ m y is. lane_keeps x.name m h (x ∷ []) j y is) (ap has_gap (sym (wave_is h x.name j c.before_order)) ∙ e)
      ∙ sym (wave_is h x.name j c.before_order)

  -- where the wave becomes whole, this call is the member's one in it
  pub member_waits : has_gap (wave (h ++ x ∷ []) x.name n) ≡ false → length (lane x.name x.place.rank h) ≡ n
  member_waits whole =
      let r = x.place.rank in
      elim (cases_order (length (lane x.name r h)) n) [
        | inl e ↦ e
        | inr (inl less) ↦ absurd (omega (arith, long))
        | inr (inr more) ↦
            let still : row_of x.name n (h ++ x ∷ []) x.name.members ≡ row_of x.name n h x.name.members = rows_alike h x n more x.name.members in
            absurd (let t : true ≡ false = sym c.gap ∙ ap has_gap (wave_is h x.name n c.before_order ∙ sym still ∙ sym (wave_is (h ++ x ∷ []) x.name n c.order)) ∙ whole in cc)
      ]
