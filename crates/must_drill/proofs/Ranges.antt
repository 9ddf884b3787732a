-- Lists that grow by one.
use Rattle.std.proofs.Common.{◌≡◌, ℕ, zero, suc, ◌+◌, ◌*◌, ◌<◌, ◌%◌, ◌==◌, Bool, true, false, cond, List, [], ◌∷◌, ◌++◌, map, length, refl, sym, ap, ◌∙◌, arith, append_assoc, add-one, length-append}
use Rattle.std.specs.List.{range_with_len, filter}
use Rattle.std.proofs.lemmas.Grind.{flat_map-append}
use Rattle.std.proofs.lemmas.List.{map-append}
use Rattle.std.proofs.lemmas.List.Elements.{filter-append}
use Rattle.std.proofs.lemmas.List.FromFn.{map-range_with_len_more, length-map-range_with_len, get_or-map-range_with_len}
use Rattle.std.proofs.lemmas.Option.{slice_get-get_or}
use Rattle.std.specs.Prelude.{slice_get, Option, Some}
use Rattle.must_format.specs.Spelling.{end_text}
use Rattle.must_format.specs.Stream.{header_text}
use Rattle.must_drill.specs.declared.round.Round.{Round}
use Rattle.must_drill.specs.Numbers.{next_state, state_at, count_in, round_of, round_at}
use Rattle.must_drill.specs.Calls.{mates_of, opening, round_calls, rounds_of, closing, calls_of}
use Rattle.must_drill.specs.Streams.{record_of, records_of, header_of, stream_of}

pub range_more : (a n j : ℕ) → a + n ≡ j → range_with_len a (suc n) ≡ range_with_len a n ++ j ∷ []
range_more a zero j e = ap (λ (x : ℕ). x ∷ []) (omega (arith, e))
range_more a (suc n) j e = ap (λ (xs : List ℕ). a ∷ xs) (range_more (a + 1) n j (omega (arith, e)))

one_or_none : (p : ℕ → Bool) (j : ℕ) (b : Bool) → p j ≡ b → filter p (j ∷ []) ≡ cond b (j ∷ []) []
one_or_none p j true e = rw e refl
one_or_none p j false e = rw e refl

pub filter_range_more : (p : ℕ → Bool) (n : ℕ) (b : Bool) → p n ≡ b → filter p (range_with_len 0 (suc n)) ≡ filter p (range_with_len 0 n) ++ cond b (n ∷ []) []
filter_range_more p n b e = ap (filter p) (range_more 0 n n (omega arith)) ∙ filter-append p (range_with_len 0 n) (n ∷ []) ∙ ap (λ (xs : List ℕ). filter p (range_with_len 0 n) ++ xs) (one_or_none p n b e)

pub mates_more : (m rank : ℕ) → mates_of (m + 1) rank ≡ mates_of m rank ++ cond (m % 2 == rank % 2) (m ∷ []) []
mates_more m rank = ap (λ (n : ℕ). mates_of n rank) (add-one m) ∙ filter_range_more (λ (x : ℕ). x % 2 == rank % 2) m (m % 2 == rank % 2) refl

pub one_more : {X Y : Type 0} (view : X → Y) (f : ℕ → Y) (xs ys : List X) (x : X) (n : ℕ) → ys ≡ xs ++ x ∷ [] → map view xs ≡ map f (range_with_len 0 n) → view x ≡ f n
    → map view ys ≡ map f (range_with_len 0 (n + 1))
one_more view f xs ys x n e before last =
    ap (map view) e ∙ map-append view xs (x ∷ []) ∙ ap (λ (a : List _). a ++ view x ∷ []) before ∙ ap (λ b. map f (range_with_len 0 n) ++ b ∷ []) last
    ∙ sym (map-range_with_len_more f 0 n n (omega arith))

pub state_more : (number m state new : ℕ) → state ≡ state_at number m → new ≡ next_state state → new ≡ state_at number (m + 1)
state_more number m state new s n = n ∙ ap next_state s ∙ ap (state_at number) (sym (add-one m))

pub rounds_more : (ranks number rank m state : ℕ) (r : Round) (base before after : List ℕ) → state ≡ state_at number (m + 1) → r ≡ round_of ranks number rank m (count_in state)
    → before ≡ base ++ records_of (rounds_of ranks number rank m) → after ≡ before ++ records_of (round_calls r) → after ≡ base ++ records_of (rounds_of ranks number rank (m + 1))
rounds_more ranks number rank m state r base before after s is b a =
    let is_at : r ≡ round_at ranks number rank m = is ∙ ap (λ (x : ℕ). round_of ranks number rank m (count_in x)) (s ∙ ap (state_at number) (add-one m)) in
    a ∙ ap (λ (xs : List ℕ). xs ++ records_of (round_calls r)) b ∙ append_assoc base (records_of (rounds_of ranks number rank m)) (records_of (round_calls r))
    ∙ ap (λ (xs : List ℕ). base ++ xs) (sym (flat_map-append record_of (rounds_of ranks number rank m) (round_calls r))
    ∙ ap (λ (x : Round). records_of (rounds_of ranks number rank m ++ round_calls x)) is_at
    ∙ ap (λ (n : ℕ). records_of (rounds_of ranks number rank n)) (sym (add-one m)))

pub length-rounds : (ranks number rank m : ℕ) → length (rounds_of ranks number rank m) ≡ 6 * m
length-rounds ranks number rank zero = refl
length-rounds ranks number rank (suc m) =
    omega (arith, length-append (rounds_of ranks number rank m) (round_calls (round_at ranks number rank m)), length-rounds ranks number rank m)

pub length-calls : (ranks rounds number rank : ℕ) → length (calls_of ranks rounds number rank) ≡ 7 + 6 * rounds
length-calls ranks rounds number rank =
    omega (arith, length-append (opening ranks rank) (rounds_of ranks number rank rounds ++ closing), length-append (rounds_of ranks number rank rounds) closing, length-rounds ranks number rank rounds)

pub whole_stream : (ranks rounds number rank : ℕ) (a b c d e : List ℕ) → a ≡ header_text (header_of ranks rank) → b ≡ a ++ records_of (opening ranks rank)
    → c ≡ b ++ records_of (rounds_of ranks number rank rounds) → d ≡ c ++ records_of closing → e ≡ d ++ end_text (7 + 6 * rounds) → e ≡ stream_of ranks rounds number rank
whole_stream ranks rounds number rank a b c d e ha hb hc hd he =
    let head = header_text (header_of ranks rank) in
    let first = records_of (opening ranks rank) in
    let rounds_text = records_of (rounds_of ranks number rank rounds) in
    let close = records_of closing in
    let all : records_of (calls_of ranks rounds number rank) ≡ first ++ (rounds_text ++ close) =
    flat_map-append record_of (opening ranks rank) (rounds_of ranks number rank rounds ++ closing) ∙ ap (λ (xs : List ℕ). first ++ xs) (flat_map-append record_of (rounds_of ranks number rank rounds) closing) in
    let d_is : d ≡ head ++ records_of (calls_of ranks rounds number rank) =
    hd ∙ ap (λ (xs : List ℕ). xs ++ close) (hc ∙ ap (λ (xs : List ℕ). xs ++ rounds_text) (hb ∙ ap (λ (xs : List ℕ). xs ++ first) ha))
    ∙ append_assoc (head ++ first) rounds_text close ∙ append_assoc head first (rounds_text ++ close) ∙ ap (λ (xs : List ℕ). head ++ xs) (sym all) in
    he ∙ ap (λ (xs : List ℕ). xs ++ end_text (7 + 6 * rounds)) d_is ∙ append_assoc head (records_of (calls_of ranks rounds number rank)) (end_text (7 + 6 * rounds))
    ∙ ap (λ (n : ℕ). head ++ (records_of (calls_of ranks rounds number rank) ++ end_text n)) (sym (length-calls ranks rounds number rank))

pub made_at : (f : ℕ → List ℕ) (n i : ℕ) → i < n → slice_get (map f (range_with_len 0 n)) i ≡ Some (f i)
made_at f n i less =
    let some : List ℕ → Option (List ℕ) = λ xs. Some xs in
    slice_get-get_or (map f (range_with_len 0 n)) i [] (omega (arith, less, length-map-range_with_len f 0 n)) ∙ ap some (get_or-map-range_with_len f 0 n i i [] less (omega arith))
