-- Waves and their rows don't depend on the order of the items.
use Rattle.std.proofs.Common.{◌≡◌, ℕ, suc, true, ◌&&◌, List, [], ◌∷◌, map, Option, Some, None, refl, sym, ap, ◌∙◌, inl, inr}
use Rattle.std.specs.Prelude.{slice_get, ◌==◌}
use Rattle.std.proofs.lemmas.Bool.{and_parts, eqb-true}
use Rattle.must_base.specs.Listing.{Has}
use Rattle.must_find.specs.declared.finding.Finding.{Finding}
use Rattle.must_find.specs.Rearranged.{Rearranges, back, still_has}
use Rattle.must_coll.specs.ListLaws.{has_filter, found, missed}
use Rattle.must_group.specs.Names.{Name}
use Rattle.must_coll.specs.declared.item.WaveItem.{WaveItem}
use Rattle.must_coll.specs.Waves.{is_of, lane, call_of, wave, Orderly}
use Rattle.must_coll.specs.Rows.{IsWaveRow}
use Rattle.must_coll.specs.GrowthLaws.{row_move}

index_of : (xs : List WaveItem) (x : WaveItem) → Has xs x → (i : ℕ) × (slice_get xs i ≡ Some x)
index_of [] x h = absurd h
index_of (y ∷ ys) x (inl e) = (0, ap Some (sym e))
index_of (y ∷ ys) x (inr h) = let p = index_of ys x h in (suc p.0, p.1)

-- a rank has one call with a number on a name
pub call_one : (items : List WaveItem) (name : Name) (k m : ℕ) (x y : WaveItem) → Orderly items → Has items x → Has items y → (is_of name m x && x.number == k) ≡ true → (is_of name m y && y.number == k) ≡ true → x ≡ y
call_one items name k m x y o h g p q =
    let a = and_parts (is_of name m x) (x.number == k) p in
    let b = and_parts (is_of name m y) (y.number == k) q in
    let i = index_of (lane name m items) x ((has_filter (is_of name m) items x).1 (h, a.0)) in
    let j = index_of (lane name m items) y ((has_filter (is_of name m) items y).1 (g, b.0)) in
    let same : i.0 ≡ j.0 = sym (o.numbered name m i.0 x i.1) ∙ eqb-true x.number k a.1 ∙ sym (eqb-true y.number k b.1) ∙ o.numbered name m j.0 y j.1 in
    let e : Some x ≡ Some y = sym i.1 ∙ ap (slice_get (lane name m items)) same ∙ j.1 in cc

calls_by : (a b : List WaveItem) (name : Name) (k m : ℕ) (u v : Option WaveItem) → Orderly b → Rearranges a b → call_of a name k m ≡ u → call_of b name k m ≡ v → u ≡ v
calls_by a b name k m None None o r p q = refl
calls_by a b name k m None (Some y) o r p q =
    let f = found (λ x. is_of name m x && x.number == k) b y q in
    absurd (missed (λ x. is_of name m x && x.number == k) a y p (still_has y (back r) f.0) f.1)
calls_by a b name k m (Some x) None o r p q =
    let f = found (λ w. is_of name m w && w.number == k) a x p in
    absurd (missed (λ w. is_of name m w && w.number == k) b x q (still_has x r f.0) f.1)
calls_by a b name k m (Some x) (Some y) o r p q =
    let f = found (λ w. is_of name m w && w.number == k) a x p in
    let g = found (λ w. is_of name m w && w.number == k) b y q in
    ap Some (call_one b name k m x y o (still_has x r f.0) g.0 f.1 g.1)

waves_by : (a b : List WaveItem) (name : Name) (k : ℕ) → Orderly b → Rearranges a b → (ms : List ℕ) → map (call_of a name k) ms ≡ map (call_of b name k) ms
waves_by a b name k o r [] = refl
waves_by a b name k o r (m ∷ ms) =
    ap (λ (c : Option WaveItem). c ∷ map (call_of a name k) ms) (calls_by a b name k m (call_of a name k m) (call_of b name k m) o r refl refl) ∙ ap (λ (l : List (Option WaveItem)). call_of b name k m ∷ l) (waves_by a b name k o r ms)

-- the waves of items in another order
pub wave_alike : (a b : List WaveItem) (name : Name) (k : ℕ) → Orderly b → Rearranges a b → wave a name k ≡ wave b name k
wave_alike a b name k o r = waves_by a b name k o r name.members

pub wave_row_alike : (a b : List WaveItem) (f : Finding) → Orderly b → Rearranges a b → IsWaveRow a f → IsWaveRow b f
wave_row_alike a b f o r row = record { name = row.name; number = row.number; at = row_move a b row.name row.number f (λ j less. wave_alike a b row.name j o r) row.at }
