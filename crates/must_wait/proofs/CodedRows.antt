-- The rows in which shared lists stand as ranks.
use Rattle.std.proofs.Common.{◌≡◌, ℕ, zero, suc, ◌+◌, ◌-◌, ◌<◌, ◌≤◌, ◌^◌, ◌++◌, true, false, List, [], ◌∷◌, length, map, Option, Some, None, is_some, refl, sym, ap, subst, ◌∙◌, inl, inr, arith, slice_get, slice_index_or, nat_lt, ◌⊎◌, length-append}
use Rattle.std.proofs.lemmas.Bool.{cases_Bool, cases_order, ltb-true}
use Rattle.std.specs.Option.{option_map}
use Rattle.std.proofs.lemmas.Option.{slice_get-map}
use Rattle.must_call.specs.declared.place.Place.{Place}
use Rattle.must_base.specs.Listing.{Has, Lists}
use Rattle.must_find.specs.Order.{by_spot}
use Rattle.must_wait.specs.CodedWay.{places_or}
use Rattle.must_wait.specs.Counted.{IsSound, IsClosed, IsNext}
use Rattle.must_wait.specs.Needs.{Needs, Rows, calls_in, calls_of, needs_of}
use Rattle.must_wait.specs.Replay.{IsBlocked, IsBlockedList}
use Rattle.must_wait.specs.Shared.{Table, IsTable, number_at, gate, inner, coded_way, paired, coded_rows, gate_calls, coded}
use Rattle.must_wait.specs.Watching.{way_at, ways_in}
use Rattle.must_wait.proofs.BlockedRanks.{is_unpassed, one_blocked}
use Rattle.must_wait.proofs.Codes.{IsWayCode, IsGateWay, Codes, at_least, blocked_to, blocked_from}
use Rattle.must_wait.proofs.Listed.{listed_as, rises_last, spot_less, has_or, has_more, has_last}
use Rattle.must_wait.proofs.Rounds.{blocked_next, next_blocked}
use Rattle.must_wait.proofs.Watched.{rank_of_call}

get_paired : {X Y Z : Type 0} (f : X → Y → Z) (n : Y) (xs : List X) (ys : List Y) (k : ℕ) → slice_get (paired f n xs ys) k ≡ option_map (λ x. f x (slice_index_or ys k n)) (slice_get xs k)
get_paired f n [] ys k = refl
get_paired f n (x ∷ xs) [] zero = refl
get_paired f n (x ∷ xs) [] (suc k) = get_paired f n xs [] k
get_paired f n (x ∷ xs) (y ∷ ys) zero = refl
get_paired f n (x ∷ xs) (y ∷ ys) (suc k) = get_paired f n xs ys k

length_paired : {X Y Z : Type 0} (f : X → Y → Z) (n : Y) (xs : List X) (ys : List Y) → length (paired f n xs ys) ≡ length xs
length_paired f n [] ys = refl
length_paired f n (x ∷ xs) [] = omega (arith, length_paired f n xs [])
length_paired f n (x ∷ xs) (y ∷ ys) = omega (arith, length_paired f n xs ys)

length_mapped : {X Y : Type 0} (f : X → Y) (xs : List X) → length (map f xs) ≡ length xs
length_mapped f [] = refl
length_mapped f (x ∷ xs) = omega (arith, length_mapped f xs)

get_left : {X : Type 0} (xs ys : List X) (k : ℕ) → k < length xs → slice_get (xs ++ ys) k ≡ slice_get xs k
get_left [] ys k h = absurd (omega arith)
get_left (x ∷ xs) ys zero h = refl
get_left (x ∷ xs) ys (suc k) h = get_left xs ys k (omega arith)

get_right : {X : Type 0} (xs ys : List X) (k n : ℕ) → n ≡ length xs + k → slice_get (xs ++ ys) n ≡ slice_get ys k
get_right [] ys k n e = ap (slice_get ys) (let same : n ≡ k = omega arith in same)
get_right (x ∷ xs) ys k zero e = absurd (omega arith)
get_right (x ∷ xs) ys k (suc n) e = get_right xs ys k n (omega arith)

get_past : {X : Type 0} (xs : List X) (k : ℕ) → length xs ≤ k → slice_get xs k ≡ None
get_past [] k h = refl
get_past (x ∷ xs) zero h = absurd (omega arith)
get_past (x ∷ xs) (suc k) h = get_past xs k (omega arith)

calls_paired : (f : List Needs → List (List (Option ℕ)) → List Needs) (o : Option (List Needs)) (m : List (List (Option ℕ))) → f [] m ≡ [] → calls_in (option_map (λ calls. f calls m) o) ≡ f (calls_in o) m
calls_paired f None m e = sym e
calls_paired f (Some calls) m e = refl

ways_paired : (f : Needs → List (Option ℕ) → Needs) (o : Option Needs) (m : List (Option ℕ)) → f [] m ≡ [] → ways_in (option_map (λ ways. f ways m) o) ≡ f (ways_in o) m
ways_paired f None m e = sym e
ways_paired f (Some ways) m e = refl

-- the calls of a rank of the rows
calls_left : (t : Table) (rank : ℕ) → rank < length t.needs → calls_of (coded t) rank ≡ paired (paired (coded_way (length t.needs)) None) [] (calls_of t.needs rank) (slice_index_or t.numbers rank [])
calls_left t rank h =
    let g : List Needs → List (List (Option ℕ)) → List Needs = paired (paired (coded_way (length t.needs)) None) [] in
    let rows = coded_rows (length t.needs) t.needs t.numbers in
    ap calls_in (get_left rows (map (gate_calls (length t.needs)) t.lists) rank (omega (arith, length_paired g [] t.needs t.numbers)) ∙ get_paired g [] t.needs t.numbers rank)
    ∙ calls_paired g (slice_get t.needs rank) (slice_index_or t.numbers rank []) refl

needs_left : (t : Table) (rank call : ℕ) → rank < length t.needs → needs_of (coded t) rank call ≡ option_map (λ ways. paired (coded_way (length t.needs)) None ways (slice_index_or (slice_index_or t.numbers rank []) call [])) (needs_of t.needs rank call)
needs_left t rank call h =
    ap (λ calls. slice_get calls call) (calls_left t rank h) ∙ get_paired (paired (coded_way (length t.needs)) None) [] (calls_of t.needs rank) (slice_index_or t.numbers rank []) call

pub way_left : (t : Table) (rank call way : ℕ) → rank < length t.needs → way_at (coded t) rank call way ≡ option_map (λ places. coded_way (length t.needs) places (number_at t.numbers rank call way)) (way_at t.needs rank call way)
way_left t rank call way h =
    let f : Needs → List (Option ℕ) → Needs = paired (coded_way (length t.needs)) None in
    let m = slice_index_or (slice_index_or t.numbers rank []) call [] in
    ap (λ o. slice_get (ways_in o) way) (needs_left t rank call h) ∙ ap (λ ways. slice_get ways way) (ways_paired f (needs_of t.needs rank call) m refl)
    ∙ get_paired (coded_way (length t.needs)) None (ways_in (needs_of t.needs rank call)) m way

-- the calls of a list
calls_right : (t : Table) (rank number : ℕ) → rank ≡ length t.needs + number → calls_of (coded t) rank ≡ calls_in (option_map (gate_calls (length t.needs)) (slice_get t.lists number))
calls_right t rank number e =
    let g : List Needs → List (List (Option ℕ)) → List Needs = paired (paired (coded_way (length t.needs)) None) [] in
    ap calls_in (get_right (coded_rows (length t.needs) t.needs t.numbers) (map (gate_calls (length t.needs)) t.lists) number rank (omega (arith, length_paired g [] t.needs t.numbers)) ∙ slice_get-map (gate_calls (length t.needs)) t.lists number)

is_some_map : {X Y : Type 0} (f : X → Y) (o : Option X) → is_some (option_map f o) ≡ is_some o
is_some_map f None = refl
is_some_map f (Some x) = refl

map_back : {X Y : Type 0} (f : X → Y) (o : Option X) (y : Y) → option_map f o ≡ Some y → (x : X) × (o ≡ Some x) × (y ≡ f x)
map_back f None y e = cc
map_back f (Some x) y e = (x, refl, (let same : y ≡ f x = cc in same))

way_code : (t : Table) → IsTable t → (rank call way : ℕ) (w : List Place) (n : Option ℕ) → way_at t.needs rank call way ≡ Some w → number_at t.numbers rank call way ≡ n → IsWayCode (length t.needs) t.lists w (coded_way (length t.needs) w n)
way_code t is rank call way w None e f = inl refl
way_code t is rank call way w (Some number) e f =
    let s = is.shared rank call way number f in
    let same : s.0 ≡ w = let both : Some s.0 ≡ Some w = sym s.1 ∙ e in cc in
    inr (number, s.2 ∙ ap Some same, refl)

gate_at : (ranks : ℕ) (lists : List (List Place)) (rank number call way : ℕ) (e : List Place) (o : Option (List Place)) → rank ≡ ranks + number → slice_get lists number ≡ o
    → slice_get (ways_in (slice_get (calls_in (option_map (gate_calls ranks) o)) call)) way ≡ Some e → IsGateWay ranks lists rank call e
gate_at ranks lists rank number call way e None at is h = cc
gate_at ranks lists rank number zero zero e (Some places) at is h = record { number = number; places = places; first = refl; at = at; list = is; is = (let same : e ≡ map (inner ranks) places = cc in same) }
gate_at ranks lists rank number zero (suc way) e (Some places) at is h = cc
gate_at ranks lists rank number (suc zero) way e (Some places) at is h = cc
gate_at ranks lists rank number (suc (suc call)) way e (Some places) at is h = cc

pub length_coded : (t : Table) → length (coded t) ≡ length t.needs + length t.lists
length_coded t =
    let g : List Needs → List (List (Option ℕ)) → List Needs = paired (paired (coded_way (length t.needs)) None) [] in
    omega (arith, length-append (coded_rows (length t.needs) t.needs t.numbers) (map (gate_calls (length t.needs)) t.lists), length_paired g [] t.needs t.numbers, length_mapped (gate_calls (length t.needs)) t.lists)

pub length_left : (t : Table) (rank : ℕ) → rank < length t.needs → length (calls_of (coded t) rank) ≡ length (calls_of t.needs rank)
length_left t rank h = ap length (calls_left t rank h) ∙ length_paired (paired (coded_way (length t.needs)) None) [] (calls_of t.needs rank) (slice_index_or t.numbers rank [])

two_calls : (ranks : ℕ) (o : Option (List Place)) → is_some o ≡ true → length (calls_in (option_map (gate_calls ranks) o)) ≡ 2
two_calls ranks None e = cc
two_calls ranks (Some places) e = omega arith

none_calls : (ranks : ℕ) (o : Option (List Place)) → is_some o ≡ false → length (calls_in (option_map (gate_calls ranks) o)) ≡ 0
none_calls ranks None e = refl
none_calls ranks (Some places) e = cc

pub length_right : (t : Table) (rank number : ℕ) → rank ≡ length t.needs + number → is_some (slice_get t.lists number) ≡ true → length (calls_of (coded t) rank) ≡ 2
length_right t rank number e some = ap length (calls_right t rank number e) ∙ two_calls (length t.needs) (slice_get t.lists number) some

pub length_past : (t : Table) (rank : ℕ) → length t.needs + length t.lists ≤ rank → length (calls_of (coded t) rank) ≡ 0
length_past t rank h = ap (λ o. length (calls_in o)) (get_past (coded t) rank (omega (arith, length_coded t)))

pub codes_of : (t : Table) → IsTable t → Codes t.needs (coded t) t.lists
codes_of t is = record {
  calls = λ rank call h. ap is_some (needs_left t rank call h) ∙ is_some_map _ (needs_of t.needs rank call);
  to = λ rank call way e h f.
      (let b = map_back (λ places. coded_way (length t.needs) places (number_at t.numbers rank call way)) (way_at t.needs rank call way) e (sym (way_left t rank call way h) ∙ f) in
      (b.0, b.1, subst (IsWayCode (length t.needs) t.lists b.0) (sym b.2) (way_code t is rank call way b.0 (number_at t.numbers rank call way) b.1 refl)));
  from = λ rank call way w h f.
      (coded_way (length t.needs) w (number_at t.numbers rank call way), way_left t rank call way h ∙ ap (option_map (λ places. coded_way (length t.needs) places (number_at t.numbers rank call way))) f, way_code t is rank call way w (number_at t.numbers rank call way) f refl);
  gates = λ number places f. ap (λ calls. slice_get calls 0) (calls_right t (length t.needs + number) number refl ∙ ap (λ o. calls_in (option_map (gate_calls (length t.needs)) o)) f);
  ends = λ number places f. ap (λ calls. slice_get calls 1) (calls_right t (length t.needs + number) number refl ∙ ap (λ o. calls_in (option_map (gate_calls (length t.needs)) o)) f);
  gate_way = λ rank call way e h f.
      (let at : rank ≡ length t.needs + (rank - length t.needs) = omega (arith, h) in
      gate_at (length t.needs) t.lists rank (rank - length t.needs) call way e (slice_get t.lists (rank - length t.needs)) at refl
      (sym (ap (λ calls. slice_get (ways_in (slice_get calls call)) way) (calls_right t rank (rank - length t.needs) at)) ∙ f));
  nothing = ap (λ o. is_some (slice_get (calls_in o) 0)) (get_past (coded t) 4294967295 (omega (arith, length_coded t, is.few)));
}

pub few_coded : (t : Table) → IsTable t → length (coded t) < 2 ^ 32
few_coded t is = omega (arith, length_coded t, is.few)

pub calls_coded : (t : Table) → IsTable t → (rank : ℕ) → length (calls_of (coded t) rank) ≤ 2 ^ 31
calls_coded t is rank = elim (cases_Bool (nat_lt rank (length t.needs))) [
  | inl below ↦ omega (arith, length_left t rank (ltb-true rank (length t.needs) below), is.calls rank)
  | inr above ↦ calls_above t rank (rank - length t.needs) (omega (arith, at_least rank (length t.needs) above)) (cases_Bool (is_some (slice_get t.lists (rank - length t.needs))))
] where
  calls_above : (t : Table) (rank number : ℕ) → rank ≡ length t.needs + number → (is_some (slice_get t.lists number) ≡ true) ⊎ (is_some (slice_get t.lists number) ≡ false) → length (calls_of (coded t) rank) ≤ 2 ^ 31
  calls_above t rank number e (inl some) = omega (arith, length_right t rank number e some)
  calls_above t rank number e (inr none) = omega (arith, ap length (calls_right t rank number e), none_calls (length t.needs) (slice_get t.lists number) none)

-- the next calls of the ranks are their blocked calls
pub coded_blocked : (t : Table) (done : List ℕ) (items : List Place) → IsTable t → IsSound (coded t) done → IsClosed (coded t) done
    → Lists by_spot (λ (p : Place). (p.rank < length t.needs) × IsNext (coded t) done p) items → IsBlockedList t.needs items
coded_blocked t done items is sound closed =
    let c = codes_of t is in
    listed_as by_spot (λ (p : Place). (p.rank < length t.needs) × IsNext (coded t) done p) (IsBlocked t.needs) items
    (λ p h. blocked_to t.needs (coded t) t.lists c p h.0 (next_blocked (coded t) done sound closed p h.1))
    (λ p b. (rank_of_call t.needs p.rank p.call (is_unpassed t.needs p.rank p.call b), blocked_next (coded t) done sound closed p (blocked_from t.needs (coded t) t.lists c p b)))

-- the blocked calls of all ranks and lists
abbrev pub BlockedBelow : Rows → ℕ → Place → Type 0
BlockedBelow rows at place = (place.rank < at) × IsBlocked rows place

pub blocked_first : (t : Table) (blocked : List Place) (at : ℕ) → IsTable t → at ≡ length t.needs → IsBlockedList t.needs blocked → Lists by_spot (BlockedBelow (coded t) at) blocked
blocked_first t blocked at is e =
    let c = codes_of t is in
    listed_as by_spot (IsBlocked t.needs) (BlockedBelow (coded t) at) blocked
    (λ p b. (omega (arith, rank_of_call t.needs p.rank p.call (is_unpassed t.needs p.rank p.call b)), blocked_from t.needs (coded t) t.lists c p b))
    (λ p h. blocked_to t.needs (coded t) t.lists c p (omega (arith, h.0)) h.1)

pub blocked_push : (rows : Rows) (at : ℕ) (items more : List Place) (p : Place) → p.rank ≡ at → IsBlocked rows p → more ≡ items ++ p ∷ [] → Lists by_spot (BlockedBelow rows at) items → Lists by_spot (BlockedBelow rows (at + 1)) more
blocked_push rows at items more p e b is l = subst (Lists by_spot (BlockedBelow rows (at + 1))) (sym is) (record {
  rises = rises_last by_spot items p l.rises (λ y h. spot_less y p (omega (arith, ((l.exact y).0 h).0)));
  exact = λ x. (
    λ h. elim (has_or items p x h) [
      | inl old ↦ (let k = (l.exact x).0 old in (omega (arith, k.0), k.1))
      | inr same ↦ subst (BlockedBelow rows (at + 1)) (sym same) (omega arith, b)
    ],
    λ h. elim (cases_order x.rank at) [
      | inl same ↦ subst (λ z. Has (items ++ p ∷ []) z) (one_blocked rows p x b h.1 (e ∙ sym same)) (has_last items p)
      | inr (inl below) ↦ has_more items p x ((l.exact x).1 (below, h.1))
      | inr (inr above) ↦ absurd (omega (arith, h.0))
    ],
  );
})

pub blocked_last : (t : Table) (at : ℕ) (items : List Place) → at ≡ length t.needs + length t.lists → Lists by_spot (BlockedBelow (coded t) at) items → IsBlockedList (coded t) items
blocked_last t at items e = listed_as by_spot (BlockedBelow (coded t) at) (IsBlocked (coded t)) items (λ p h. h.1) (λ p b. (omega (arith, rank_of_call (coded t) p.rank p.call (is_unpassed (coded t) p.rank p.call b), length_coded t), b))

-- looking up an alternative
pub way_right : (t : Table) (number call way : ℕ) → way_at (coded t) (length t.needs + number) call way ≡ slice_get (ways_in (slice_get (calls_in (option_map (gate_calls (length t.needs)) (slice_get t.lists number))) call)) way
way_right t number call way = ap (λ calls. slice_get (ways_in (slice_get calls call)) way) (calls_right t (length t.needs + number) number refl)

pub list_place : (t : Table) (number : ℕ) (places : List Place) → slice_get t.lists number ≡ Some places → way_at (coded t) (length t.needs + number) 0 0 ≡ Some (map (inner (length t.needs)) places)
list_place t number places e = way_right t number 0 0 ∙ ap (λ o. slice_get (ways_in (slice_get (calls_in (option_map (gate_calls (length t.needs)) o)) 0)) 0) e

pub list_none : (t : Table) (number call way : ℕ) → slice_get t.lists number ≡ None → way_at (coded t) (length t.needs + number) call way ≡ None
list_none t number call way e = way_right t number call way ∙ ap (λ o. slice_get (ways_in (slice_get (calls_in (option_map (gate_calls (length t.needs)) o)) call)) way) e

no_call : (ranks : ℕ) (o : Option (List Place)) (call : ℕ) → 0 < call → ways_in (slice_get (calls_in (option_map (gate_calls ranks) o)) call) ≡ []
no_call ranks None call h = refl
no_call ranks (Some places) zero h = absurd (omega arith)
no_call ranks (Some places) (suc zero) h = refl
no_call ranks (Some places) (suc (suc call)) h = refl

no_way : (ranks : ℕ) (o : Option (List Place)) (way : ℕ) → 0 < way → slice_get (ways_in (slice_get (calls_in (option_map (gate_calls ranks) o)) 0)) way ≡ None
no_way ranks None way h = refl
no_way ranks (Some places) zero h = absurd (omega arith)
no_way ranks (Some places) (suc way) h = refl

pub gate_ways : (t : Table) (rank call : ℕ) → length t.needs ≤ rank → 0 < call → ways_in (needs_of (coded t) rank call) ≡ []
gate_ways t rank call above h =
    let number = rank - length t.needs in
    ap (λ calls. ways_in (slice_get calls call)) (calls_right t rank number (omega (arith, above))) ∙ no_call (length t.needs) (slice_get t.lists number) call h

pub gate_way : (t : Table) (rank call way : ℕ) → length t.needs ≤ rank → 0 < call → way_at (coded t) rank call way ≡ None
gate_way t rank call way above h = ap (λ ways. slice_get ways way) (gate_ways t rank call above h)

pub later_way : (t : Table) (rank call way : ℕ) → length t.needs ≤ rank → call ≡ 0 → 0 < way → way_at (coded t) rank call way ≡ None
later_way t rank call way above e h =
    let number = rank - length t.needs in
    ap (λ k. way_at (coded t) rank k way) e ∙ ap (λ calls. slice_get (ways_in (slice_get calls 0)) way) (calls_right t rank number (omega (arith, above))) ∙ no_way (length t.needs) (slice_get t.lists number) way h

pub list_count : (t : Table) (rank number call : ℕ) (o : Option (List Place)) → rank ≡ length t.needs + number → call ≡ 0 → slice_get t.lists number ≡ o → length (ways_in (needs_of (coded t) rank call)) ≡ length (ways_in (slice_get (calls_in (option_map (gate_calls (length t.needs)) o)) 0))
list_count t rank number call o at e list =
    ap (λ k. length (ways_in (needs_of (coded t) rank k))) e ∙ ap (λ calls. length (ways_in (slice_get calls 0))) (calls_right t rank number at ∙ ap (λ p. calls_in (option_map (gate_calls (length t.needs)) p)) list)

pub own_count : (t : Table) (rank call : ℕ) → rank < length t.needs → length (ways_in (needs_of (coded t) rank call)) ≡ length (ways_in (needs_of t.needs rank call))
own_count t rank call h =
    let f : Needs → List (Option ℕ) → Needs = paired (coded_way (length t.needs)) None in
    let m = slice_index_or (slice_index_or t.numbers rank []) call [] in
    ap (λ o. length (ways_in o)) (needs_left t rank call h) ∙ ap length (ways_paired f (needs_of t.needs rank call) m refl) ∙ length_paired (coded_way (length t.needs)) None (ways_in (needs_of t.needs rank call)) m

pub way_read : (ranks : ℕ) (places : List Place) (n : Option ℕ) → places_or ranks places (option_map (gate ranks) n) ≡ coded_way ranks places n
way_read ranks places None = refl
way_read ranks places (Some number) = refl
