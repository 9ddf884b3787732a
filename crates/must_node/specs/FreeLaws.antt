-- The needs of a run don't depend on the order of its facts, but for the order of each rank's needs.
use Rattle.std.proofs.Common.{◌≡◌, ℕ, zero, suc, ◌+◌, ◌<◌, Bool, true, ◌&&◌, not, List, [], ◌∷◌, map, Option, Some, None, length, refl, sym, ap, subst, ◌∙◌, inl, inr, arith}
use Rattle.std.specs.Prelude.{find, filter, slice_get, if◌then◌else◌, ◌==◌}
use Rattle.std.specs.List.{AllByRecursion}
use Rattle.std.specs.Option.{option_map}
use Rattle.std.specs.Ordering.{nat_cmp, ordering_then, is_eq}
use Rattle.std.specs.FinMap.{nat_cmp-IsAntisymmetric}
use Rattle.std.proofs.lemmas.Bool.{and_parts}
use Rattle.must_base.specs.Listing.{Has}
use Rattle.must_call.specs.declared.place.Place.{Place}
use Rattle.must_find.specs.Rearranged.{Rearranges, back, through, still_has, flat_mapped}
use Rattle.must_p2p.specs.declared.side.Side.{Side}
use Rattle.must_p2p.specs.declared.side.Side.TheVariants as side
use Rattle.must_p2p.specs.declared.item.MsgItem.{MsgItem}
use Rattle.must_p2p.specs.Items as p2p
use Rattle.must_p2p.specs.Items.{Class, class_of, number, same_side, counted, lane}
use Rattle.must_p2p.specs.ClassLaws.{then_parts, eq_equal, side_same}
use Rattle.must_p2p.specs.LaneLaws.{some_is}
use Rattle.must_p2p.specs.MatchLaws.{stands_at}
use Rattle.must_p2p.specs.PlaceLaws.{place_one}
use Rattle.must_coll.specs.declared.item.WaveItem.{WaveItem}
use Rattle.must_coll.specs.Waves as waves
use Rattle.must_coll.specs.ListLaws.{found, missed}
use Rattle.must_entry.specs.declared.want.Want.{Want}
use Rattle.must_entry.specs.declared.want.Want.TheVariants as want
use Rattle.must_entry.specs.declared.entry.Entry.{Entry}
use Rattle.must_entry.specs.Entries as entry
use Rattle.must_entry.specs.Entries.{Waits, messages}
use Rattle.must_entry.specs.Lawful.{Rise}
use Rattle.must_wait.specs.Needs.{Needs, Rows}
use Rattle.must_node.specs.declared.fact.Fact.{Fact}
use Rattle.must_node.specs.declared.keys.Item.{Item}
use Rattle.must_node.specs.declared.keys.Call.{Call}
use Rattle.must_node.specs.declared.keys.Spot.{Spot}
use Rattle.must_node.specs.declared.keys.Meeting.{Meeting}
use Rattle.must_node.specs.declared.keys.Member.{Member}
use Rattle.must_node.specs.Facts.{facts_of}
use Rattle.must_node.specs.ListLaws.{flat_same}
use Rattle.must_node.specs.Partners.{item_of, items, call_of, calls, needs, needs_of_rank, past, place_or, spot_of, spot_cmp, meeting_of, meeting_cmp, item_at, place_of, partner_side, partner_rank, op_places, call_spot, call_at, member_call, wave_places}
use Rattle.must_node.specs.RunNeeds.{want_places, way_places, call_needs, rank_needs, ranks_from, run_needs}
use Rattle.must_node.specs.PartnerLaws.{numbered, item_from, meeting_is, class_from}
use Rattle.must_node.specs.MemberLaws.{told, call_from, member_told}

-- a search for what at most one of a list is
alike_by : {X : Type 0} (p : X → Bool) (xs ys : List X) → ((x : X) → Has xs x → Has ys x) → ((x : X) → Has ys x → Has xs x) → ((x y : X) → Has xs x → Has xs y → p x ≡ true → p y ≡ true → x ≡ y)
    → (u v : Option X) → find p xs ≡ u → find p ys ≡ v → u ≡ v
alike_by p xs ys there from one None None e f = refl
alike_by p xs ys there from one None (Some y) e f = let g = found p ys y f in absurd (missed p xs y e (from y g.0) g.1)
alike_by p xs ys there from one (Some x) None e f = let g = found p xs x e in absurd (missed p ys x f (there x g.0) g.1)
alike_by p xs ys there from one (Some x) (Some y) e f = let g = found p xs x e in let k = found p ys y f in ap (λ z. Some z) (one x y g.0 (from y k.0) g.1 k.1)

find_alike : {X : Type 0} (p : X → Bool) (xs ys : List X) → ((x : X) → Has xs x → Has ys x) → ((x : X) → Has ys x → Has xs x) → ((x y : X) → Has xs x → Has xs y → p x ≡ true → p y ≡ true → x ≡ y) → find p xs ≡ find p ys
find_alike p xs ys there from one = alike_by p xs ys there from one (find p xs) (find p ys) refl refl

spot_is : (a b : Spot) → is_eq (spot_cmp a b) ≡ true → a ≡ b
spot_is a b e =
    let p = then_parts (nat_cmp a.rank b.rank) (ordering_then (nat_cmp a.call b.call) (nat_cmp a.part b.part)) (eq_equal (spot_cmp a b) e) in
    let q = then_parts (nat_cmp a.call b.call) (nat_cmp a.part b.part) p.1 in
    let rank = nat_cmp-IsAntisymmetric a.rank b.rank p.0 in
    let call = nat_cmp-IsAntisymmetric a.call b.call q.0 in
    let part = nat_cmp-IsAntisymmetric a.part b.part q.1 in
    λ i. record { rank = rank i; call = call i; part = part i }

all_places : (xs : List WaveItem) (P : Place → Type 0) (x : WaveItem) → AllByRecursion P (map (λ (z : WaveItem). z.place) xs) → Has xs x → P x.place
all_places [] P x all h = absurd h
all_places (z ∷ zs) P x all (inl e) = subst (λ (y : WaveItem). P y.place) (sym e) all.0
all_places (z ∷ zs) P x all (inr h) = all_places zs P x all.1 h

-- a place has one collective call
risen : (xs : List WaveItem) (x y : WaveItem) → Rise (map (λ (z : WaveItem). z.place) xs) → Has xs x → Has xs y → x.place.rank ≡ y.place.rank → x.place.call ≡ y.place.call → x ≡ y
risen [] x y rise h k r c = absurd h
risen (z ∷ zs) x y rise (inl e) (inl f) r c = e ∙ sym f
risen (z ∷ zs) x y rise (inl e) (inr k) r c =
    let less = all_places zs (λ (q : Place). z.place.rank ≡ q.rank → z.place.call < q.call) y rise.0 k in
    let below = less (ap (λ (w : WaveItem). w.place.rank) (sym e) ∙ r) in
    let same = ap (λ (w : WaveItem). w.place.call) (sym e) ∙ c in
    absurd (omega (arith, below, same))
risen (z ∷ zs) x y rise (inr h) (inl f) r c =
    let less = all_places zs (λ (q : Place). z.place.rank ≡ q.rank → z.place.call < q.call) x rise.0 h in
    let below = less (ap (λ (w : WaveItem). w.place.rank) (sym f) ∙ sym r) in
    let same = ap (λ (w : WaveItem). w.place.call) (sym f) ∙ sym c in
    absurd (omega (arith, below, same))
risen (z ∷ zs) x y rise (inr h) (inr k) r c = risen zs x y rise.1 h k r c

-- items of one side, class and number are one
one_numbered : (ms : List MsgItem) (s : Side) (x y : MsgItem) → counted s ≡ s → p2p.Orderly ms → Has ms x → Has ms y → x.side ≡ s → y.side ≡ s → meeting_of (numbered ms x) ≡ meeting_of (numbered ms y) → x ≡ y
one_numbered ms s x y c o h k p q e =
    let same = class_from x y ms e in
    let n : number ms x ≡ number ms y = ap (λ (m : Meeting). m.number) e in
    some_is x y (sym (stands_at s ms x o h p c (class_of x) refl) ∙ ap (λ i. slice_get (lane (class_of x) s ms) i) n ∙ stands_at s ms y o k q c (class_of x) same)

module _ (entries : List Entry) (a b : List Fact) (ra : Rearranges a (facts_of entries)) (rb : Rearranges b (facts_of entries)) (o : p2p.Orderly (messages entries)) (w : waves.Orderly (entry.calls entries))
    (rise : Rise (map (λ (z : WaveItem). z.place) (entry.calls entries))) (same_needs : (rank : ℕ) → needs_of_rank a rank ≡ needs_of_rank b rank) where
  ab : Rearranges a b
  ab = through ra (back rb)

  same_item : (spot : Spot) → item_at a spot ≡ item_at b spot
  same_item spot = find_alike (λ (y : Item). true && is_eq (spot_cmp (spot_of y) spot)) (items a) (items b) (λ x. still_has x (flat_mapped item_of ab)) (λ x. still_has x (flat_mapped item_of (back ab))) (λ x y h k p q.
      let i = item_from entries a ra x h in
      let j = item_from entries a ra y k in
      let e : spot_of x ≡ spot_of y = spot_is (spot_of x) spot p ∙ sym (spot_is (spot_of y) spot q) in
      let f : spot_of (numbered (messages entries) i.from) ≡ spot_of (numbered (messages entries) j.from) = ap spot_of (sym i.is) ∙ e ∙ ap spot_of j.is in
      let m = place_one (messages entries) i.from j.from o.rising i.there j.there (ap (λ (s : Spot). s.rank) f) (ap (λ (s : Spot). s.call) f) (ap (λ (s : Spot). s.part) f) in
      i.is ∙ ap (numbered (messages entries)) m ∙ sym j.is)

  same_place_of : (s : Side) → counted s ≡ s → (m : Meeting) → place_of s a m ≡ place_of s b m
  same_place_of s c m = ap (option_map (λ (y : Item). y.place)) (find_alike (λ (y : Item). same_side s y.side && is_eq (meeting_cmp (meeting_of y) m)) (items a) (items b) (λ x. still_has x (flat_mapped item_of ab)) (λ x. still_has x (flat_mapped item_of (back ab))) (λ x y h k p q.
      let i = item_from entries a ra x h in
      let j = item_from entries a ra y k in
      let pp = and_parts (same_side s x.side) (is_eq (meeting_cmp (meeting_of x) m)) p in
      let qq = and_parts (same_side s y.side) (is_eq (meeting_cmp (meeting_of y) m)) q in
      let e : meeting_of x ≡ meeting_of y = meeting_is (meeting_of x) m pp.1 ∙ sym (meeting_is (meeting_of y) m qq.1) in
      let f : meeting_of (numbered (messages entries) i.from) ≡ meeting_of (numbered (messages entries) j.from) = ap meeting_of (sym i.is) ∙ e ∙ ap meeting_of j.is in
      let n = one_numbered (messages entries) s i.from j.from c o i.there j.there (ap (λ (z : Item). z.side) (sym i.is) ∙ side_same s x.side pp.0) (ap (λ (z : Item). z.side) (sym j.is) ∙ side_same s y.side qq.0) f in
      i.is ∙ ap (numbered (messages entries)) n ∙ sym j.is))

  same_call : (spot : Spot) → call_at a spot ≡ call_at b spot
  same_call spot = find_alike (λ (y : Call). true && is_eq (spot_cmp (call_spot y) spot)) (calls a) (calls b) (λ x. still_has x (flat_mapped call_of ab)) (λ x. still_has x (flat_mapped call_of (back ab))) (λ x y h k p q.
      let i = call_from entries a ra w x h in
      let j = call_from entries a ra w y k in
      let e : call_spot x ≡ call_spot y = spot_is (call_spot x) spot p ∙ sym (spot_is (call_spot y) spot q) in
      let f : call_spot (told i.from) ≡ call_spot (told j.from) = ap call_spot (sym i.is) ∙ e ∙ ap call_spot j.is in
      let n = risen (entry.calls entries) i.from j.from rise i.there j.there (ap (λ (s : Spot). s.rank) f) (ap (λ (s : Spot). s.call) f) in
      i.is ∙ ap told n ∙ sym j.is)

  same_past : (rank : ℕ) → past a rank ≡ past b rank
  same_past rank = ap (λ (ns : List Waits). record { rank = rank; call = length ns }) (same_needs rank)

  same_member : (m : Member) → member_call a m ≡ member_call b m
  same_member m = member_told entries a ra w m ∙ sym (member_told entries b rb w m)

  counted_partner : (s : Side) → counted (partner_side s) ≡ partner_side s
  counted_partner side.Send = refl
  counted_partner side.Receive = refl
  counted_partner side.Probe = refl

  same_op : (x : Option Item) → op_places a x ≡ op_places b x
  same_op None = refl
  same_op (Some x) =
      ap (λ (p : Place). place_or p (place_of (partner_side x.side) a (meeting_of x)) ∷ []) (same_past (partner_rank x.side x.source x.dest))
      ∙ ap (λ (p : Option Place). place_or (past b (partner_rank x.side x.source x.dest)) p ∷ []) (same_place_of (partner_side x.side) (counted_partner x.side) (meeting_of x))

  same_members : (x : Call) (ranks : List ℕ) → map (λ rank. place_or (past a rank) (member_call a (record { number = x.number; rank = rank; name = x.name }))) ranks ≡ map (λ rank. place_or (past b rank) (member_call b (record { number = x.number; rank = rank; name = x.name }))) ranks
  same_members x [] = refl
  same_members x (rank ∷ ranks) =
      ap (λ (p : Place). place_or p (member_call a (record { number = x.number; rank = rank; name = x.name })) ∷ map (λ r. place_or (past a r) (member_call a (record { number = x.number; rank = r; name = x.name }))) ranks) (same_past rank)
      ∙ ap (λ (p : Option Place). place_or (past b rank) p ∷ map (λ r. place_or (past a r) (member_call a (record { number = x.number; rank = r; name = x.name }))) ranks) (same_member (record { number = x.number; rank = rank; name = x.name }))
      ∙ ap (λ (l : List Place). place_or (past b rank) (member_call b (record { number = x.number; rank = rank; name = x.name })) ∷ l) (same_members x ranks)

  same_wave : (x : Option Call) → wave_places a x ≡ wave_places b x
  same_wave None = refl
  same_wave (Some x) = same_members x x.name.members

  same_want : (strict : Bool) (v : Want) → want_places strict a v ≡ want_places strict b v
  same_want strict (want.Op place part standard) =
      let spot : Spot = record { rank = place.rank; call = place.call; part = part } in
      ap (λ (l : List Place). if standard && not strict then [] else l) (ap (op_places a) (same_item spot) ∙ same_op (item_at b spot))
  same_want strict (want.Wave place) =
      let spot : Spot = record { rank = place.rank; call = place.call; part = 0 } in
      ap (wave_places a) (same_call spot) ∙ same_wave (call_at b spot)

  same_ways : (strict : Bool) (ways : List (List Want)) → call_needs strict a ways ≡ call_needs strict b ways
  same_ways strict [] = refl
  same_ways strict (way ∷ ways) =
      ap (λ (l : List Place). l ∷ call_needs strict a ways) (flat_same (want_places strict a) (want_places strict b) way (λ v h. same_want strict v)) ∙ ap (λ (l : Needs). way_places strict b way ∷ l) (same_ways strict ways)

  same_list : (strict : Bool) (ns : List Waits) → map (λ (v : Waits). call_needs strict a v.ways) ns ≡ map (λ (v : Waits). call_needs strict b v.ways) ns
  same_list strict [] = refl
  same_list strict (n ∷ ns) = ap (λ (l : Needs). l ∷ map (λ (v : Waits). call_needs strict a v.ways) ns) (same_ways strict n.ways) ∙ ap (λ (l : List Needs). call_needs strict b n.ways ∷ l) (same_list strict ns)

  same_rank : (strict : Bool) (rank : ℕ) → rank_needs strict a a rank ≡ rank_needs strict b b rank
  same_rank strict rank = same_list strict (needs_of_rank a rank) ∙ ap (λ (ns : List Waits). map (λ (v : Waits). call_needs strict b v.ways) ns) (same_needs rank)

  same_ranks : (strict : Bool) (rank count : ℕ) → ranks_from strict a a rank count ≡ ranks_from strict b b rank count
  same_ranks strict rank zero = refl
  same_ranks strict rank (suc count) = ap (λ (l : List Needs). l ∷ ranks_from strict a a (rank + 1) count) (same_rank strict rank) ∙ ap (λ (r : Rows). rank_needs strict b b rank ∷ r) (same_ranks strict (rank + 1) count)

  -- the needs of a run
  pub same_run : (strict : Bool) (size : ℕ) → run_needs strict a size ≡ run_needs strict b size
  same_run strict size = same_ranks strict 0 size
