-- The calls of a wave that facts tell are those of the wave.
use Rattle.std.proofs.Common.{◌≡◌, ℕ, Bool, true, ◌&&◌, List, [], ◌∷◌, map, Option, Some, None, refl, sym, ap, subst, ◌∙◌}
use Rattle.std.specs.Prelude.{find, ◌==◌}
use Rattle.std.specs.List.{flat_map}
use Rattle.std.specs.Option.{option_map}
use Rattle.std.specs.Ordering.{nat_cmp, ordering_then, is_eq}
use Rattle.std.specs.FinMap.{nat_cmp-IsAntisymmetric}
use Rattle.std.specs.Cmp.{IsTotalOrder}
use Rattle.std.proofs.lemmas.Bool.{and_parts, and_from, eqb-true, eq-eqb}
use Rattle.std.proofs.lemmas.Cmp.{nat_cmp_total, on_total, then_total, tied_itself}
use Rattle.must_base.specs.Listing.{Has}
use Rattle.must_call.specs.declared.place.Place.{Place}
use Rattle.must_find.specs.Rearranged.{Rearranges, back, still_has, flat_mapped}
use Rattle.must_group.specs.Names.{name_cmp}
use Rattle.must_group.specs.NameOrder.{name_total, name_same}
use Rattle.must_p2p.specs.declared.item.MsgItem.{MsgItem}
use Rattle.must_p2p.specs.ClassLaws.{then_parts, eq_equal}
use Rattle.must_coll.specs.declared.item.WaveItem.{WaveItem}
use Rattle.must_coll.specs.Waves as waves
use Rattle.must_coll.specs.ListLaws.{found, missed}
use Rattle.must_coll.specs.OrderFree.{call_one}
use Rattle.must_entry.specs.declared.entry.Entry.{Entry}
use Rattle.must_entry.specs.declared.entry.Entry.TheVariants.{Row, Message, Wave, Need}
use Rattle.must_entry.specs.Entries as entry
use Rattle.must_entry.specs.Entries.{messages}
use Rattle.must_node.specs.declared.fact.Fact.{Fact}
use Rattle.must_node.specs.declared.keys.Call.{Call}
use Rattle.must_node.specs.declared.keys.Member.{Member}
use Rattle.must_node.specs.Facts.{fact_among, facts_of}
use Rattle.must_node.specs.PartnerLaws.{IsMapped, has_mapped, mapped_has}
use Rattle.must_node.specs.Partners.{call_of, calls, member_of, member_cmp, member_call, past, place_or, wave_places}

-- a collective call, as the facts have it
abbrev pub told : WaveItem → Call
told x = record { place = x.place; number = x.number; name = x.name }

calls_among : (ms : List MsgItem) (entries : List Entry) → calls (flat_map (fact_among ms) entries) ≡ map told (entry.calls entries)
calls_among ms [] = refl
calls_among ms (Row f ∷ es) = calls_among ms es
calls_among ms (Message x ∷ es) = calls_among ms es
calls_among ms (Wave x ∷ es) = ap (λ (l : List Call). told x ∷ l) (calls_among ms es)
calls_among ms (Need p ways ∷ es) = calls_among ms es

member_total : IsTotalOrder member_cmp
member_total = then_total (on_total (λ (m : Member). m.number) nat_cmp_total) (then_total (on_total (λ (m : Member). m.rank) nat_cmp_total) (on_total (λ (m : Member). m.name) name_total))

abbrev is_at : Member → Call → Bool
is_at m y = true && is_eq (member_cmp (member_of y) m)

abbrev is_call : Member → WaveItem → Bool
is_call m x = waves.is_of m.name m.rank x && x.number == m.number

-- a call of the entries and what the facts have of it pass alike
passes : (m : Member) (x : WaveItem) → is_call m x ≡ true → is_at m (told x) ≡ true
passes m x e =
    let p = and_parts (waves.is_of m.name m.rank x) (x.number == m.number) e in
    let q = and_parts (is_eq (name_cmp m.name x.name)) (x.place.rank == m.rank) p.0 in
    let number = eqb-true x.number m.number p.1 in
    let rank = eqb-true x.place.rank m.rank q.1 in
    let name : x.name ≡ m.name = sym (name_same m.name x.name (eq_equal (name_cmp m.name x.name) q.0)) in
    let same : member_of (told x) ≡ m = λ i. record { number = number i; rank = rank i; name = name i } in
    ap (λ k. is_eq (member_cmp k m)) same ∙ ap is_eq (tied_itself member_total m)

passed : (m : Member) (x : WaveItem) → is_at m (told x) ≡ true → is_call m x ≡ true
passed m x e =
    let p = then_parts (nat_cmp x.number m.number) (ordering_then (nat_cmp x.place.rank m.rank) (name_cmp x.name m.name)) (eq_equal (member_cmp (member_of (told x)) m) e) in
    let q = then_parts (nat_cmp x.place.rank m.rank) (name_cmp x.name m.name) p.1 in
    let number = nat_cmp-IsAntisymmetric x.number m.number p.0 in
    let rank = nat_cmp-IsAntisymmetric x.place.rank m.rank q.0 in
    let name = name_same x.name m.name q.1 in
    and_from (waves.is_of m.name m.rank x) (x.number == m.number)
    (and_from (is_eq (name_cmp m.name x.name)) (x.place.rank == m.rank) (ap (λ n. is_eq (name_cmp m.name n)) name ∙ ap is_eq (tied_itself name_total m.name)) (eq-eqb x.place.rank m.rank rank)) (eq-eqb x.number m.number number)

module _ (entries : List Entry) (facts : List Fact) (moved : Rearranges facts (facts_of entries)) (o : waves.Orderly (entry.calls entries)) where
  call_there : (x : WaveItem) → Has (entry.calls entries) x → Has (calls facts) (told x)
  call_there x h = still_has (told x) (back (flat_mapped call_of moved)) (subst (λ (l : List Call). Has l (told x)) (sym (calls_among (messages entries) entries)) (has_mapped told (entry.calls entries) x h))

  pub call_from : (y : Call) → Has (calls facts) y → IsMapped told (entry.calls entries) y
  call_from y h = mapped_has told (entry.calls entries) y (subst (λ (l : List Call). Has l y) (calls_among (messages entries) entries) (still_has y (flat_mapped call_of moved) h))

  by_search : (m : Member) (u : Option Call) (v : Option WaveItem) → find (is_at m) (calls facts) ≡ u → find (is_call m) (entry.calls entries) ≡ v → option_map (λ (y : Call). y.place) u ≡ option_map (λ (x : WaveItem). x.place) v
  by_search m None None e f = refl
  by_search m None (Some x) e f =
      let g = found (is_call m) (entry.calls entries) x f in
      absurd (missed (is_at m) (calls facts) (told x) e (call_there x g.0) (passes m x g.1))
  by_search m (Some y) None e f =
      let g = found (is_at m) (calls facts) y e in
      let w = call_from y g.0 in
      absurd (missed (is_call m) (entry.calls entries) w.from f w.there (passed m w.from (ap (is_at m) (sym w.is) ∙ g.1)))
  by_search m (Some y) (Some x) e f =
      let g = found (is_at m) (calls facts) y e in
      let w = call_from y g.0 in
      let k = found (is_call m) (entry.calls entries) x f in
      let same : w.from ≡ x = call_one (entry.calls entries) m.name m.number m.rank w.from x o w.there k.0 (passed m w.from (ap (is_at m) (sym w.is) ∙ g.1)) k.1 in
      ap (λ (z : Call). Some z.place) w.is ∙ ap (λ (z : WaveItem). Some z.place) same

  -- the call of a member in a wave
  pub member_told : (m : Member) → member_call facts m ≡ option_map (λ (x : WaveItem). x.place) (waves.call_of (entry.calls entries) m.name m.number m.rank)
  member_told m = by_search m (find (is_at m) (calls facts)) (find (is_call m) (entry.calls entries)) refl refl

  members_told : (x : WaveItem) (ranks : List ℕ) → map (λ rank. place_or (past facts rank) (member_call facts (record { number = x.number; rank = rank; name = x.name }))) ranks
      ≡ map (λ rank. place_or (past facts rank) (option_map (λ (z : WaveItem). z.place) (waves.call_of (entry.calls entries) x.name x.number rank))) ranks
  members_told x [] = refl
  members_told x (rank ∷ ranks) =
      ap (λ (p : Option Place). place_or (past facts rank) p ∷ map (λ r. place_or (past facts r) (member_call facts (record { number = x.number; rank = r; name = x.name }))) ranks) (member_told (record { number = x.number; rank = rank; name = x.name }))
      ∙ ap (λ (l : List Place). place_or (past facts rank) (option_map (λ (z : WaveItem). z.place) (waves.call_of (entry.calls entries) x.name x.number rank)) ∷ l) (members_told x ranks)

  -- the places of a wave
  pub wave_told : (x : WaveItem) → wave_places facts (Some (told x)) ≡ map (λ rank. place_or (past facts rank) (option_map (λ (z : WaveItem). z.place) (waves.call_of (entry.calls entries) x.name x.number rank))) x.name.members
  wave_told x = members_told x x.name.members
