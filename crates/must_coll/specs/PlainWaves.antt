-- The waves of items whose signatures are told one by one: each wave has the same calls, told so.
use Rattle.std.proofs.Common.{◌≡◌, ℕ, Bool, true, false, cond, ◌&&◌, List, [], ◌∷◌, map, drop, Option, Some, None, refl, ap, ◌∙◌}
use Rattle.std.specs.Prelude.{slice_get, find, ◌==◌}
use Rattle.std.specs.Option.{option_map}
use Rattle.std.proofs.lemmas.Option.{slice_get-map}
use Rattle.must_group.specs.Names.{Name}
use Rattle.must_coll.specs.declared.item.WaveItem.{WaveItem}
use Rattle.must_coll.specs.Waves.{is_of, call_of, wave, has_gap, present, missing}
use Rattle.must_coll.specs.Agreement.{first_counting}
use Rattle.must_coll.specs.Rows.{is_kind, are_kind, one_kind_of, one_kind}
use Rattle.must_coll.specs.Plain.{plain}

-- a call that there is, told so
abbrev pub plain_call : Option WaveItem → Option WaveItem
plain_call o = option_map plain o

find_step : (b : Bool) (x : WaveItem) (o p : Option WaveItem) → o ≡ plain_call p → cond b (Some (plain x)) o ≡ plain_call (cond b (Some x) p)
find_step true x o p e = refl
find_step false x o p e = e

-- a search that looks at no signature
pub find_plain : (q : WaveItem → Bool) → ((x : WaveItem) → q (plain x) ≡ q x) → (xs : List WaveItem) → find q (map plain xs) ≡ plain_call (find q xs)
find_plain q same [] = refl
find_plain q same (x ∷ xs) =
    ap (λ b. cond b (Some (plain x)) (find q (map plain xs))) (same x)
    ∙ find_step (q x) x (find q (map plain xs)) (find q xs) (find_plain q same xs)

pub counting_plain : (xs : List WaveItem) → first_counting (map plain xs) ≡ plain_call (first_counting xs)
counting_plain xs = find_plain (λ x. x.counts) (λ x. refl) xs

pub call_plain : (xs : List WaveItem) (k : ℕ) → slice_get (map plain xs) k ≡ plain_call (slice_get xs k)
call_plain xs k = slice_get-map plain xs k

calls_plain : (items : List WaveItem) (name : Name) (k : ℕ) (ms : List ℕ) → map (call_of (map plain items) name k) ms ≡ map plain_call (map (call_of items name k) ms)
calls_plain items name k [] = refl
calls_plain items name k (m ∷ ms) =
    ap (λ (o : Option WaveItem). o ∷ map (call_of (map plain items) name k) ms) (find_plain (λ x. is_of name m x && x.number == k) (λ x. refl) items)
    ∙ ap (λ (l : List (Option WaveItem)). plain_call (call_of items name k m) ∷ l) (calls_plain items name k ms)

pub wave_plain : (items : List WaveItem) (name : Name) (k : ℕ) → wave (map plain items) name k ≡ map plain_call (wave items name k)
wave_plain items name k = calls_plain items name k name.members

pub gap_plain : (ws : List (Option WaveItem)) → has_gap (map plain_call ws) ≡ has_gap ws
gap_plain [] = refl
gap_plain (None ∷ ws) = refl
gap_plain (Some x ∷ ws) = gap_plain ws

pub present_plain : (ws : List (Option WaveItem)) → present (map plain_call ws) ≡ map plain (present ws)
present_plain [] = refl
present_plain (None ∷ ws) = present_plain ws
present_plain (Some x ∷ ws) = ap (λ (l : List WaveItem). plain x ∷ l) (present_plain ws)

pub missing_plain : (members : List ℕ) (ws : List (Option WaveItem)) → missing members (map plain_call ws) ≡ missing members ws
missing_plain members [] = refl
missing_plain members (None ∷ ws) = refl
missing_plain members (Some x ∷ ws) = missing_plain (drop 1 members) ws

kinds_plain : (o : Option WaveItem) (xs : List WaveItem) → are_kind (plain_call o) (map plain xs) ≡ are_kind o xs
kinds_plain (Some first) [] = refl
kinds_plain (Some first) (x ∷ xs) = ap (λ b. is_kind first x && b) (kinds_plain (Some first) xs)
kinds_plain None xs = refl

pub one_kind_of_plain : (xs : List WaveItem) → one_kind_of (map plain xs) ≡ one_kind_of xs
one_kind_of_plain xs = ap (λ (o : Option WaveItem). are_kind o (map plain xs)) (call_plain xs 0) ∙ kinds_plain (slice_get xs 0) xs

pub one_kind_plain : (ws : List (Option WaveItem)) → one_kind (map plain_call ws) ≡ one_kind ws
one_kind_plain ws = ap (λ (l : List WaveItem). one_kind_of l) (present_plain ws) ∙ one_kind_of_plain (present ws)
