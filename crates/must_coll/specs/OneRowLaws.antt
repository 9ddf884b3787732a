-- At most one row of waves stands at a place, where the items are of calls at places of their own and the members of their
-- communicators are distinct.
use Rattle.std.proofs.Common.{◌≡◌, ℕ, true, false, ◌&&◌, List, [], ◌∷◌, map, Option, Some, None, refl, sym, ap, subst, ◌∙◌, inl, inr, nat_eq}
use Rattle.std.specs.Prelude.{◌==◌}
use Rattle.std.specs.List.{IsDistinct, AllByRecursion}
use Rattle.std.specs.Ordering.{is_eq}
use Rattle.std.proofs.lemmas.Bool.{and_parts, eqb-true, eq-eqb}
use Rattle.std.proofs.lemmas.Map.Keys.{IsDistinct-head, IsDistinct-tail}
use Rattle.must_base.specs.Listing.{Has}
use Rattle.must_find.specs.declared.finding.Finding.{Finding}
use Rattle.must_group.specs.Names.{Name, name_cmp}
use Rattle.must_group.specs.NameOrder.{name_same}
use Rattle.must_coll.specs.declared.item.WaveItem.{WaveItem}
use Rattle.must_coll.specs.Waves.{is_of, call_of, wave, present, missing}
use Rattle.must_coll.specs.Rows.{IsRowIn, IsRowAt, IsWaveRow}
use Rattle.must_coll.specs.ListLaws.{found}
use Rattle.must_coll.specs.WaveLaws.{equal_from}
use Rattle.must_coll.specs.OneRowWave.{AreOthers, AreApart, row_call, one_in_wave}

-- no two items stand at one place
abbrev pub ArePlacedOnce : List WaveItem → Type 0
ArePlacedOnce items = (x y : WaveItem) → Has items x → Has items y → x.place ≡ y.place → x ≡ y

-- the members of each communicator are distinct
abbrev pub HaveDistinctMembers : List WaveItem → Type 0
HaveDistinctMembers items = (x : WaveItem) → Has items x → IsDistinct nat_eq x.name.members

-- ---- the calls of a wave

-- a call that stands in a wave
record IsCallOf (items : List WaveItem) (name : Name) (k m : ℕ) (x : WaveItem) : Type 0 where
  there : Has items x
  name_is : x.name ≡ name
  number_is : x.number ≡ k
  rank_is : x.place.rank ≡ m

call_found : (items : List WaveItem) (name : Name) (k m : ℕ) (x : WaveItem) → call_of items name k m ≡ Some x → IsCallOf items name k m x
call_found items name k m x e =
    let f = found (λ y. is_of name m y && y.number == k) items x e in
    let p = and_parts (is_of name m x) (x.number == k) f.1 in
    let q = and_parts (is_eq (name_cmp name x.name)) (x.place.rank == m) p.0 in
    record {
      there = f.0;
      name_is = sym (name_same name x.name (equal_from (name_cmp name x.name) q.0));
      number_is = eqb-true x.number k p.1;
      rank_is = eqb-true x.place.rank m q.1;
    }

-- the calls of some members
abbrev calls_of : List WaveItem → Name → ℕ → List ℕ → List WaveItem
calls_of items name k ms = present (map (call_of items name k) ms)

-- a call of a wave
record IsInWave (items : List WaveItem) (name : Name) (k : ℕ) (x : WaveItem) : Type 0 where
  rank : ℕ
  is : IsCallOf items name k rank x

there_at : (items : List WaveItem) (name : Name) (k m : ℕ) (o : Option WaveItem) (ws : List (Option WaveItem)) (x : WaveItem) → call_of items name k m ≡ o → (Has (present ws) x → IsInWave items name k x) → Has (present (o ∷ ws)) x → IsInWave items name k x
there_at items name k m None ws x e rest h = rest h
there_at items name k m (Some y) ws x e rest (inl same) =
    record { rank = m; is = subst (IsCallOf items name k m) (sym same) (call_found items name k m y e) }
there_at items name k m (Some y) ws x e rest (inr h) = rest h

there : (items : List WaveItem) (name : Name) (k : ℕ) (ms : List ℕ) (x : WaveItem) → Has (calls_of items name k ms) x → IsInWave items name k x
there items name k [] x h = absurd h
there items name k (m ∷ ms) x h =
    there_at items name k m (call_of items name k m) (map (call_of items name k) ms) x refl (there items name k ms x) h

-- ---- calls of distinct members are of distinct ranks

not_same : (m n : ℕ) → nat_eq m n ≡ false → m ≡ n → ⊥
not_same m n e same = let n : true ≡ false = sym (eq-eqb m n same) ∙ e in cc

others_at : (items : List WaveItem) (name : Name) (k rank m : ℕ) (o : Option WaveItem) (ws : List (Option WaveItem)) → call_of items name k m ≡ o → nat_eq rank m ≡ false → AreOthers rank (present ws) → AreOthers rank (present (o ∷ ws))
others_at items name k rank m None ws e apart rest = rest
others_at items name k rank m (Some x) ws e apart rest = (λ same. not_same rank m apart (same ∙ (call_found items name k m x e).rank_is), rest)

others : (items : List WaveItem) (name : Name) (k rank : ℕ) (ms : List ℕ) → AllByRecursion (λ m. nat_eq rank m ≡ false) ms → AreOthers rank (calls_of items name k ms)
others items name k rank [] apart = tt
others items name k rank (m ∷ ms) apart =
    others_at items name k rank m (call_of items name k m) (map (call_of items name k) ms) refl apart.0 (others items name k rank ms apart.1)

apart_at : (items : List WaveItem) (name : Name) (k m : ℕ) (o : Option WaveItem) (ws : List (Option WaveItem)) → call_of items name k m ≡ o → AreOthers m (present ws) → AreApart (present ws) → AreApart (present (o ∷ ws))
apart_at items name k m None ws e first rest = rest
apart_at items name k m (Some x) ws e first rest =
    (subst (λ r. AreOthers r (present ws)) (sym (call_found items name k m x e).rank_is) first, rest)

apart_calls : (items : List WaveItem) (name : Name) (k : ℕ) (ms : List ℕ) → IsDistinct nat_eq ms → AreApart (calls_of items name k ms)
apart_calls items name k [] d = tt
apart_calls items name k (m ∷ ms) d =
    apart_at items name k m (call_of items name k m) (map (call_of items name k) ms) refl
    (others items name k m ms (IsDistinct-head nat_eq m ms d)) (apart_calls items name k ms (IsDistinct-tail nat_eq m ms d))

-- ---- the rows of all waves

-- a row stands at the place of an item of its wave
record IsAtItem (items : List WaveItem) (name : Name) (k : ℕ) (f : Finding) : Type 0 where
  item : WaveItem
  stands_in : Has items item
  name_is : item.name ≡ name
  number_is : item.number ≡ k
  rank_is : f.rank ≡ item.place.rank
  call_is : f.call ≡ item.place.call

row_item : (items : List WaveItem) (name : Name) (k : ℕ) (f : Finding) → IsRowAt items name k f → IsAtItem items name k f
row_item items name k f row =
    let at = (row_call (missing name.members (wave items name k)) (present (wave items name k)) f row.row).1 in
    let in_wave = (there items name k name.members at.call at.there).is in
    record { item = at.call; stands_in = in_wave.there; name_is = in_wave.name_is; number_is = in_wave.number_is; rank_is = at.stands.rank_is; call_is = at.stands.call_is }

pub one_row : (items : List WaveItem) (f g : Finding) → ArePlacedOnce items → HaveDistinctMembers items → IsWaveRow items f → IsWaveRow items g → f.rank ≡ g.rank → f.call ≡ g.call → f.rule ≡ g.rule → f ≡ g
one_row items f g once distinct row other rank call rule =
    let a = row_item items row.name row.number f row.at in
    let b = row_item items other.name other.number g other.at in
    let rank_same = sym a.rank_is ∙ rank ∙ b.rank_is in
    let call_same = sym a.call_is ∙ call ∙ b.call_is in
    let same : a.item ≡ b.item = once a.item b.item a.stands_in b.stands_in (λ i. record { rank = rank_same i; call = call_same i }) in
    let name : other.name ≡ row.name = sym b.name_is ∙ ap (λ (x : WaveItem). x.name) (sym same) ∙ a.name_is in
    let number : other.number ≡ row.number = sym b.number_is ∙ ap (λ (x : WaveItem). x.number) (sym same) ∙ a.number_is in
    let members : IsDistinct nat_eq row.name.members = subst (λ (n : Name). IsDistinct nat_eq n.members) a.name_is (distinct a.item a.stands_in) in
    let there : IsRowIn row.name.members (wave items row.name row.number) g =
    subst (λ k. IsRowIn row.name.members (wave items row.name k) g) number (subst (λ (n : Name). IsRowIn n.members (wave items n other.number) g) name other.at.row) in
    one_in_wave (missing row.name.members (wave items row.name row.number)) (present (wave items row.name row.number)) f g
    (apart_calls items row.name row.number row.name.members members) row.at.row there rank rule
