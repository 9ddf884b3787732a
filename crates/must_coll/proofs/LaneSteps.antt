-- Lanes that a call joins or leaves.
use Rattle.std.proofs.Common.{◌≡◌, ℕ, zero, suc, ◌+◌, ◌<◌, ◌≤◌, List, [], ◌∷◌, ◌++◌, length, map, take, drop, set, get_or, Option, refl, sym, ap, ◌∙◌, arith, add-one, Global}
use Rattle.std.specs.Prelude.{slice_get}
use Rattle.std.proofs.lemmas.List.{map-set, get_or-map, length-map, map_push, map_more, drop-map}
use Rattle.std.specs.declared.collections.VecDeque.{VecDeque}
use Rattle.must_coll.specs.declared.item.WaveItem.{WaveItem}
use Rattle.must_coll.specs.Waves.{missing, present, gap_count}
use Rattle.must_coll.specs.Fronts.{fronts, fills}

abbrev pub items_of : VecDeque WaveItem Global → List WaveItem
items_of q = q.items

pub pop_step : (lanes : List (List WaveItem)) (i : ℕ) (ys : List WaveItem) → i < length lanes → ys ≡ drop 1 (get_or (map (λ (w : List WaveItem). drop 1 w) (take i lanes) ++ drop i lanes) i [])
    → set (map (λ (w : List WaveItem). drop 1 w) (take i lanes) ++ drop i lanes) i ys ≡ map (λ (w : List WaveItem). drop 1 w) (take (suc i) lanes) ++ drop (suc i) lanes
pop_step [] i ys h e = absurd (omega (arith, h))
pop_step (x ∷ xs) zero ys h e = ap (λ (w : List WaveItem). w ∷ xs) e
pop_step (x ∷ xs) (suc i) ys h e = ap (λ (w : List (List WaveItem)). drop 1 x ∷ w) (pop_step xs i ys (omega (arith, h)) e)

pub popped_more : (old now : List (VecDeque WaveItem Global)) (i : ℕ) (q : VecDeque WaveItem Global) → i < length old
    → map items_of now ≡ map (λ (w : List WaveItem). drop 1 w) (take i (map items_of old)) ++ drop i (map items_of old)
    → q.items ≡ drop 1 (get_or (map items_of now) i [])
    → map items_of (set now i q) ≡ map (λ (w : List WaveItem). drop 1 w) (take (i + 1) (map items_of old)) ++ drop (i + 1) (map items_of old)
popped_more old now i q h inv e =
    let l = map items_of old in
    map-set items_of now i q ∙ ap (λ (w : List (List WaveItem)). set w i q.items) inv
    ∙ pop_step l i q.items (omega (arith, length-map old items_of)) (e ∙ ap (λ (w : List (List WaveItem)). drop 1 (get_or w i [])) inv)
    ∙ ap (λ n. map (λ (w : List WaveItem). drop 1 w) (take n l) ++ drop n l) (sym (add-one i))

pub pushed : (lanes : List (VecDeque WaveItem Global)) (p : ℕ) (q new : VecDeque WaveItem Global) (x : WaveItem) → p < length lanes → q ≡ get_or lanes p q → new.items ≡ q.items ++ x ∷ []
    → map items_of (set lanes p new) ≡ set (map items_of lanes) p (get_or (map items_of lanes) p [] ++ x ∷ [])
pushed lanes p q new x h is e =
    map-set items_of lanes p new ∙ ap (λ (w : List WaveItem). set (map items_of lanes) p w) (e ∙ ap (λ (w : List WaveItem). w ++ x ∷ []) (ap items_of is ∙ sym (get_or-map items_of lanes p q [] h)))

set_itself : (lanes : List (List WaveItem)) (p : ℕ) → set lanes p (get_or lanes p []) ≡ lanes
set_itself [] p = refl
set_itself (l ∷ ls) zero = refl
set_itself (l ∷ ls) (suc p) = ap (λ (w : List (List WaveItem)). l ∷ w) (set_itself ls p)

-- a lane that has the same calls as before
pub kept : (lanes : List (VecDeque WaveItem Global)) (p : ℕ) (q new : VecDeque WaveItem Global) → p < length lanes → q ≡ get_or lanes p q → new.items ≡ q.items → map items_of (set lanes p new) ≡ map items_of lanes
kept lanes p q new h is e =
    map-set items_of lanes p new ∙ ap (λ (w : List WaveItem). set (map items_of lanes) p w) (e ∙ ap items_of is ∙ sym (get_or-map items_of lanes p q [] h)) ∙ set_itself (map items_of lanes) p

pub fronts_step : (lanes : List (List WaveItem)) (i : ℕ) → i < length lanes → present (fronts (take (suc i) lanes)) ≡ present (fronts (take i lanes)) ++ present (slice_get (get_or lanes i []) 0 ∷ [])
fronts_step [] i h = absurd (omega (arith, h))
fronts_step (l ∷ ls) zero h = refl
fronts_step ([] ∷ ls) (suc i) h = fronts_step ls i (omega (arith, h))
fronts_step ((y ∷ ys) ∷ ls) (suc i) h = ap (λ (w : List WaveItem). y ∷ w) (fronts_step ls i (omega (arith, h)))

-- what hasn't been reached is as it was
pub still_there : (lanes : List (List WaveItem)) (i : ℕ) → i < length lanes → get_or (map (λ (w : List WaveItem). drop 1 w) (take i lanes) ++ drop i lanes) i [] ≡ get_or lanes i []
still_there [] i h = absurd (omega (arith, h))
still_there (l ∷ ls) zero h = refl
still_there (l ∷ ls) (suc i) h = still_there ls i (omega (arith, h))

pub popped_length : (lanes : List (List WaveItem)) (i : ℕ) → length (map (λ (w : List WaveItem). drop 1 w) (take i lanes) ++ drop i lanes) ≡ length lanes
popped_length [] zero = refl
popped_length [] (suc i) = refl
popped_length (l ∷ ls) zero = refl
popped_length (l ∷ ls) (suc i) = ap suc (popped_length ls i)

gaps_step : (lanes : List (List WaveItem)) (i : ℕ) → i < length lanes → gap_count (fronts (drop i lanes)) ≡ fills (get_or lanes i []) + gap_count (fronts (drop (suc i) lanes))
gaps_step [] i h = absurd (omega (arith, h))
gaps_step ([] ∷ ls) zero h = omega arith
gaps_step ((y ∷ ys) ∷ ls) zero h = omega arith
gaps_step (l ∷ ls) (suc i) h = gaps_step ls i (omega (arith, h))

pub gaps_more : (lanes : List (VecDeque WaveItem Global)) (i : ℕ) (q : VecDeque WaveItem Global) → i < length lanes → q ≡ get_or lanes i q
    → gap_count (fronts (map items_of (drop i lanes))) ≡ fills q.items + gap_count (fronts (map items_of (drop (i + 1) lanes)))
gaps_more lanes i q h is =
    let w = map items_of lanes in
    let lane : get_or w i [] ≡ q.items = get_or-map items_of lanes i q [] h ∙ sym (ap items_of is) in
    ap (λ (l : List (List WaveItem)). gap_count (fronts l)) (sym (drop-map items_of i lanes)) ∙ gaps_step w i (omega (arith, h, length-map lanes items_of))
    ∙ ap (λ (l : List WaveItem). fills l + gap_count (fronts (drop (suc i) w))) lane
    ∙ ap (λ n. fills q.items + gap_count (fronts (drop n w))) (sym (add-one i))
    ∙ ap (λ (l : List (List WaveItem)). fills q.items + gap_count (fronts l)) (drop-map items_of (i + 1) lanes)

pub fills_one : (l : List WaveItem) → fills l ≤ 1
fills_one [] = omega arith
fills_one (y ∷ ys) = omega arith

front_there : (members : List ℕ) (l : List WaveItem) (ws : List (Option WaveItem)) → 0 < length l → missing members (slice_get l 0 ∷ ws) ≡ missing (drop 1 members) ws
front_there members [] ws h = absurd (omega (arith, h))
front_there members (y ∷ ys) ws h = refl

none_step : (lanes : List (List WaveItem)) (i : ℕ) → i < length lanes → 0 < length (get_or lanes i []) → missing [] (fronts (drop i lanes)) ≡ missing [] (fronts (drop (suc i) lanes))
none_step [] i h k = absurd (omega (arith, h))
none_step (l ∷ ls) zero h k = front_there [] l (fronts ls) k
none_step (l ∷ ls) (suc i) h k = none_step ls i (omega (arith, h)) k

missing_step : (members : List ℕ) (lanes : List (List WaveItem)) (i : ℕ) → i < length lanes → 0 < length (get_or lanes i []) → missing (drop i members) (fronts (drop i lanes)) ≡ missing (drop (suc i) members) (fronts (drop (suc i) lanes))
missing_step members [] i h k = absurd (omega (arith, h))
missing_step [] (l ∷ ls) zero h k = front_there [] l (fronts ls) k
missing_step (m ∷ ms) (l ∷ ls) zero h k = front_there (m ∷ ms) l (fronts ls) k
missing_step [] (l ∷ ls) (suc i) h k = none_step ls i (omega (arith, h)) k
missing_step (m ∷ ms) (l ∷ ls) (suc i) h k = missing_step ms ls i (omega (arith, h)) k

pub missing_more : (members : List ℕ) (lanes : List (VecDeque WaveItem Global)) (i : ℕ) (q : VecDeque WaveItem Global) → i < length lanes → q ≡ get_or lanes i q → 0 < length q.items
    → missing (drop i members) (fronts (map items_of (drop i lanes))) ≡ missing members (fronts (map items_of lanes)) → missing (drop (i + 1) members) (fronts (map items_of (drop (i + 1) lanes))) ≡ missing members (fronts (map items_of lanes))
missing_more members lanes i q h is k inv =
    let w = map items_of lanes in
    let there : 0 < length (get_or w i []) = omega (arith, k, ap (λ (d : VecDeque WaveItem Global). length d.items) is, ap length (get_or-map items_of lanes i q [] h)) in
    let step = missing_step members w i (omega (arith, length-map lanes items_of)) there in
    ap (λ (l : List (List WaveItem)). missing (drop (i + 1) members) (fronts l)) (sym (drop-map items_of (i + 1) lanes)) ∙ ap (λ n. missing (drop n members) (fronts (drop n w))) (add-one i) ∙ sym step
    ∙ ap (λ (l : List (List WaveItem)). missing (drop i members) (fronts l)) (drop-map items_of i lanes) ∙ inv

pub one_empty_more : (members : List ℕ) (lanes : List (VecDeque WaveItem Global)) (i : ℕ) (q : VecDeque WaveItem Global) → i < length members → map items_of lanes ≡ map (λ m. []) (take i members) → q.items ≡ []
    → (new : List (VecDeque WaveItem Global)) → new ≡ lanes ++ q ∷ [] → map items_of new ≡ map (λ m. []) (take (i + 1) members)
one_empty_more members lanes i q h inv none new e =
    ap (map items_of) e ∙ map_push items_of lanes q ∙ ap (λ (w : List (List WaveItem)). w ++ q.items ∷ []) inv ∙ ap (λ (w : List WaveItem). map (λ m. []) (take i members) ++ w ∷ []) none
    ∙ sym (map_more (λ m. []) members i 0 h)
