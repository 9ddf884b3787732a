-- What names stand for, and the needs that are given of them.
use Rattle.std.proofs.Common.{◌≡◌, ℕ, suc, ◌+◌, ◌<◌, ◌≤◌, ◌==◌, true, false, List, [], ◌∷◌, ◌++◌, length, take, drop, get_or, Option, Some, None, refl, ap, sym, ◌∙◌, arith, append_assoc, append-nil, length-append, eqb-true}
use Rattle.std.specs.Prelude.{map, filter_map, option_map}
use Rattle.std.specs.List.{cons_option}
use Rattle.std.specs.Option.{option_to_list}
use Rattle.std.proofs.lemmas.List.{drop_more, drop_all, take_more, map_more, length-map, length-take-le}
use Rattle.std.proofs.lemmas.List.Elements.{filter_map-append}
use Rattle.must_call.specs.declared.call.Call.{Call}
use Rattle.must_entry.specs.declared.want.Want.{Want}
use Rattle.must_entry.specs.declared.entry.Entry.{Entry}
use Rattle.must_entry.specs.declared.entry.Entry.TheVariants as entry
use Rattle.must_entry.specs.Entries.{rows_of, messages, calls as wave_calls, needs}
use Rattle.must_rules.specs.Rank.{Rank}
use Rattle.must_rules.specs.Parts.{with_both}
use Rattle.must_rules.specs.Turns.{Turn, turns_from, turns}
use Rattle.must_rules.specs.Operations.{operations_of}
use Rattle.must_messages.specs.CallNeeds.{Need, together, any_way, at_once, operation_need, ways_of, waits_of}
use Rattle.must_hold.specs.Ended.{place_at}
use Rattle.must_needs.specs.declared.names.Name.{Name}
use Rattle.must_needs.specs.declared.names.Name.TheVariants.{Nothing}
use Rattle.must_needs.specs.declared.names.Ways.{Ways}
use Rattle.must_needs.specs.declared.needs.Needs.{Needs}
use Rattle.must_needs.specs.Naming.{ways_named, Tells, GivesNeeds}
use Rattle.must_needs.specs.Stating.{entries_from}

-- ---- together

-- these wants, and what is needed behind them
abbrev pub behind : List Want → Need → Need
behind wants need = option_map (λ more. wants ++ more) need

pub behind_none : (need : Need) → behind [] need ≡ need
behind_none None = refl
behind_none (Some wants) = refl

behind_both : (wants more : List Want) (need : Need) → behind (wants ++ more) need ≡ behind wants (with_both (λ some others. some ++ others) (Some more) need)
behind_both wants more None = refl
behind_both wants more (Some others) = ap Some (append_assoc wants more others)

module _ (f : Name → Need) (names : List Name) where
  abbrev pub rest : ℕ → Need
  rest i = together (map f (drop i names))

  rest_more : (i : ℕ) → i < length names → rest i ≡ with_both (λ some others. some ++ others) (f (get_or names i Nothing)) (rest (i + 1))
  rest_more i less = ap (λ (ns : List Name). together (map f ns)) (drop_more names i Nothing less)

  -- one name more
  pub joined_more : (i : ℕ) (old new : List Want) (want : Option Want) → i < length names → Some (option_to_list want) ≡ f (get_or names i Nothing) → new ≡ old ++ option_to_list want
      → behind old (rest i) ≡ together (map f names) → behind new (rest (i + 1)) ≡ together (map f names)
  joined_more i old new want less is e h =
      ap (λ (ws : List Want). behind ws (rest (i + 1))) e
      ∙ behind_both old (option_to_list want) (rest (i + 1))
      ∙ ap (λ (n : Need). behind old (with_both (λ some others. some ++ others) n (rest (i + 1)))) is
      ∙ ap (behind old) (sym (rest_more i less))
      ∙ h

  pub never_joined : (i : ℕ) (old : List Want) → i < length names → None ≡ f (get_or names i Nothing) → behind old (rest i) ≡ together (map f names) → None ≡ together (map f names)
  never_joined i old less is h =
      ap (λ (n : Need). behind old (with_both (λ some others. some ++ others) n (rest (i + 1)))) is ∙ ap (behind old) (sym (rest_more i less)) ∙ h

  pub joined_all : (i : ℕ) (old : List Want) → length names ≤ i → behind old (rest i) ≡ together (map f names) → Some old ≡ together (map f names)
  joined_all i old most h = ap Some (sym (append-nil old)) ∙ ap (λ (ns : List Name). behind old (together (map f ns))) (sym (drop_all i names most)) ∙ h

-- ---- one of them

each_is : (f : Name → Need) (names : List Name) → filter_map f names ≡ filter_map (λ n. n) (map f names)
each_is f [] = refl
each_is f (x ∷ names) = ap (cons_option (f x)) (each_is f names)

pub each_any : (f : Name → Need) (names : List Name) → (length names == 0) ≡ false → filter_map f names ≡ any_way (map f names)
each_any f [] some = let bad : true ≡ false = some in absurd cc
each_any f (x ∷ names) some = each_is f (x ∷ names)

pub none_any : (f : Name → Need) (names : List Name) → (length names == 0) ≡ true → at_once ≡ any_way (map f names)
none_any f [] none = refl
none_any f (x ∷ names) none = absurd (let e = eqb-true (suc (length names)) 0 none in omega (arith, e))

-- one name more
pub each_more : (f : Name → Need) (names : List Name) (i : ℕ) (old new : List (List Want)) (way : Need) → i < length names → way ≡ f (get_or names i Nothing) → new ≡ old ++ option_to_list way
    → old ≡ filter_map f (take i names) → new ≡ filter_map f (take (i + 1) names)
each_more f names i old new way less is e h =
    e
    ∙ (λ j. h j ++ option_to_list (is j))
    ∙ ap (λ (ways : List (List Want)). filter_map f (take i names) ++ ways) (one (f (get_or names i Nothing)))
    ∙ sym (filter_map-append f (take i names) (get_or names i Nothing ∷ []))
    ∙ ap (filter_map f) (sym (take_more names i Nothing less))
  where
    one : (need : Need) → option_to_list need ≡ cons_option need []
    one None = refl
    one (Some need) = refl

-- ---- entries

entries_last : (rank call n : ℕ) (xs : List (List (List Want))) (x : List (List Want)) → call + length xs ≡ n → entries_from rank call (xs ++ x ∷ []) ≡ entries_from rank call xs ++ entry.Need (place_at rank n) x ∷ []
entries_last rank call n [] x e = ap (λ (k : ℕ). entry.Need (place_at rank k) x ∷ []) (let same : call ≡ n = omega (arith, e) in same)
entries_last rank call n (y ∷ xs) x e = ap (λ (es : List Entry). entry.Need (place_at rank call) y ∷ es) (entries_last rank (suc call) n xs x (omega (arith, e)))

-- one call more
pub entries_more : (rank : ℕ) (f : Ways → List (List Want)) (calls : List Ways) (i n : ℕ) (d : Ways) (old given new : List Entry) → i < length calls → n ≡ i → new ≡ given ++ entry.Need (place_at rank n) (f (get_or calls i d)) ∷ []
    → given ≡ old ++ entries_from rank 0 (map f (take i calls)) → new ≡ old ++ entries_from rank 0 (map f (take (i + 1) calls))
entries_more rank f calls i n d old given new less at e h =
    let len : length (map f (take i calls)) ≡ i = length-map (take i calls) f ∙ length-take-le i calls (omega (arith, less)) in
    e
    ∙ ap (λ (es : List Entry). es ++ entry.Need (place_at rank n) (f (get_or calls i d)) ∷ []) h
    ∙ append_assoc old (entries_from rank 0 (map f (take i calls))) (entry.Need (place_at rank n) (f (get_or calls i d)) ∷ [])
    ∙ ap (λ (es : List Entry). old ++ es) (sym (entries_last rank 0 n (map f (take i calls)) (f (get_or calls i d)) (omega (arith, len, at))))
    ∙ ap (λ (xs : List (List (List Want))). old ++ entries_from rank 0 xs) (sym (map_more f calls i d less))

rows_none : (rank call : ℕ) (xs : List (List (List Want))) → rows_of (entries_from rank call xs) ≡ []
rows_none rank call [] = refl
rows_none rank call (x ∷ xs) = rows_none rank (suc call) xs

items_none : (rank call : ℕ) (xs : List (List (List Want))) → messages (entries_from rank call xs) ≡ []
items_none rank call [] = refl
items_none rank call (x ∷ xs) = items_none rank (suc call) xs

waves_none : (rank call : ℕ) (xs : List (List (List Want))) → wave_calls (entries_from rank call xs) ≡ []
waves_none rank call [] = refl
waves_none rank call (x ∷ xs) = waves_none rank (suc call) xs

needs_from : (r : Rank) (calls earlier later : List Call) (n : ℕ) → n ≡ length earlier → needs (entries_from r.rank n (map (λ (t : Turn). ways_of r calls t.earlier t.call) (turns_from earlier later))) ≡ map (waits_of r calls) (turns_from earlier later)
needs_from r calls earlier [] n e = refl
needs_from r calls earlier (c ∷ later) n e =
    (λ i. record { place = place_at r.rank (e i); ways = ways_of r calls earlier c } ∷ needs_from r calls (earlier ++ c ∷ []) later (suc n) (let len : suc n ≡ length (earlier ++ c ∷ []) = omega (arith, e, length-append earlier (c ∷ [])) in len) i)

-- all needs of a rank
pub gives_needs : (r : Rank) (calls : List Call) (n : Needs) (rank : ℕ) (needed : List Need) (old new : List Entry) → r.rank ≡ rank → Tells r calls n → needed ≡ map (operation_need r calls) (operations_of r calls)
    → new ≡ old ++ entries_from rank 0 (map (ways_named rank needed) n.calls.items) → GivesNeeds r calls old new
gives_needs r calls n rank needed old new same t e gives =
    let all : List (List (List Want)) = map (λ (x : Turn). ways_of r calls x.earlier x.call) (turns calls) in
    let told : entries_from rank 0 (map (ways_named rank needed) n.calls.items) ≡ entries_from r.rank 0 all =
    (λ i. entries_from (sym same i) 0 (map (ways_named (sym same i) (e i)) n.calls.items)) ∙ ap (entries_from r.rank 0) (t.ways (operation_need r calls)) in
    record {
      more = entries_from r.rank 0 all;
      entries = gives ∙ ap (λ (es : List Entry). old ++ es) told;
      rows = rows_none r.rank 0 all;
      items = items_none r.rank 0 all;
      waves = waves_none r.rank 0 all;
      needs_are = needs_from r calls [] calls 0 refl;
    }
