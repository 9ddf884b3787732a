-- One fact more in an index.
use Rattle.std.proofs.Common.{◌≡◌, ℕ, ◌+◌, Bool, true, false, cond, ◌&&◌, List, [], ◌∷◌, ◌++◌, length, Option, Some, None, Ordering, refl, sym, ap, subst, ◌∙◌, inl, inr}
use Rattle.std.specs.Prelude.{filter, find, ◌==◌}
use Rattle.std.specs.Option.{option_map}
use Rattle.std.specs.Ordering.{nat_cmp, int_cmp, ordering_then, is_eq}
use Rattle.std.specs.FinMap.{nat_cmp-IsAntisymmetric, int_cmp-IsAntisymmetric}
use Rattle.std.specs.BTreeMap as tree
use Rattle.std.proofs.lemmas.Bool.{cases_Bool, eqb-true, eqb-false}
use Rattle.std.proofs.lemmas.List.{append-nil, length_push}
use Rattle.must_group.specs.NameOrder.{name_same}
use Rattle.must_group.specs.Names.{name_cmp}
use Rattle.must_p2p.specs.ClassLaws.{then_parts, eq_equal}
use Rattle.must_p2p.specs.Items.{same_side}
use Rattle.must_p2p.specs.declared.side.Side.TheVariants as side
use Rattle.must_entry.specs.Entries.{Waits}
use Rattle.must_node.specs.declared.fact.Fact.{Fact}
use Rattle.must_node.specs.declared.keys.Item.{Item}
use Rattle.must_node.specs.declared.keys.Call.{Call}
use Rattle.must_node.specs.declared.keys.Spot.{Spot}
use Rattle.must_node.specs.declared.keys.Meeting.{Meeting}
use Rattle.must_node.specs.declared.keys.Member.{Member}
use Rattle.must_node.specs.declared.index.Index.{Index}
use Rattle.must_node.specs.ListLaws.{flat_push, kept_push, left_push}
use Rattle.must_node.specs.Partners.{item_of, items, call_of, calls, need_of, needs, spot_of, spot_cmp, meeting_of, meeting_cmp, call_spot, member_of, member_cmp}
use Rattle.must_node.specs.Indexed.{first_of, Keeps, KeepsIf, count_in, Stands}

-- ---- keys

pub spot_same : (a b : Spot) → is_eq (spot_cmp a b) ≡ true → a ≡ b
spot_same a b e =
    let p = then_parts (nat_cmp a.rank b.rank) (ordering_then (nat_cmp a.call b.call) (nat_cmp a.part b.part)) (eq_equal (spot_cmp a b) e) in
    let q = then_parts (nat_cmp a.call b.call) (nat_cmp a.part b.part) p.1 in
    let rank = nat_cmp-IsAntisymmetric a.rank b.rank p.0 in
    let call = nat_cmp-IsAntisymmetric a.call b.call q.0 in
    let part = nat_cmp-IsAntisymmetric a.part b.part q.1 in
    λ i. record { rank = rank i; call = call i; part = part i }

pub meeting_same : (a b : Meeting) → is_eq (meeting_cmp a b) ≡ true → a ≡ b
meeting_same a b e =
    let n = ordering_then (nat_cmp a.number b.number) (name_cmp a.name b.name) in
    let p = then_parts (nat_cmp a.source b.source) (ordering_then (nat_cmp a.dest b.dest) (ordering_then (int_cmp a.tag b.tag) n)) (eq_equal (meeting_cmp a b) e) in
    let q = then_parts (nat_cmp a.dest b.dest) (ordering_then (int_cmp a.tag b.tag) n) p.1 in
    let r = then_parts (int_cmp a.tag b.tag) n q.1 in
    let s = then_parts (nat_cmp a.number b.number) (name_cmp a.name b.name) r.1 in
    let source = nat_cmp-IsAntisymmetric a.source b.source p.0 in
    let dest = nat_cmp-IsAntisymmetric a.dest b.dest q.0 in
    let tag = int_cmp-IsAntisymmetric a.tag b.tag r.0 in
    let number = nat_cmp-IsAntisymmetric a.number b.number s.0 in
    let name = name_same a.name b.name s.1 in
    λ i. record { source = source i; dest = dest i; tag = tag i; number = number i; name = name i }

pub member_same : (a b : Member) → is_eq (member_cmp a b) ≡ true → a ≡ b
member_same a b e =
    let p = then_parts (nat_cmp a.number b.number) (ordering_then (nat_cmp a.rank b.rank) (name_cmp a.name b.name)) (eq_equal (member_cmp a b) e) in
    let q = then_parts (nat_cmp a.rank b.rank) (name_cmp a.name b.name) p.1 in
    let number = nat_cmp-IsAntisymmetric a.number b.number p.0 in
    let rank = nat_cmp-IsAntisymmetric a.rank b.rank q.0 in
    let name = name_same a.name b.name q.1 in
    λ i. record { number = number i; rank = rank i; name = name i }

-- ---- searches with one more at the end

hit_by : {X : Type 0} (q : X → Bool) (y x : X) (b : Bool) (o p : Option X) → p ≡ first_of o x → cond b (Some y) p ≡ first_of (cond b (Some y) o) x
hit_by q y x true o p e = refl
hit_by q y x false o p e = e

find_hit : {X : Type 0} (q : X → Bool) (xs : List X) (x : X) → q x ≡ true → find q (xs ++ x ∷ []) ≡ first_of (find q xs) x
find_hit q [] x e = ap (λ b. cond b (Some x) None) e
find_hit q (y ∷ ys) x e = hit_by q y x (q y) (find q ys) (find q (ys ++ x ∷ [])) (find_hit q ys x e)

find_miss : {X : Type 0} (q : X → Bool) (xs : List X) (x : X) → q x ≡ false → find q (xs ++ x ∷ []) ≡ find q xs
find_miss q [] x e = ap (λ b. cond b (Some x) None) e
find_miss q (y ∷ ys) x e = ap (λ o. cond (q y) (Some y) o) (find_miss q ys x e)

first_mapped : {X V : Type 0} (f : X → V) (o : Option X) (x : X) → first_of (option_map f o) (f x) ≡ option_map f (first_of o x)
first_mapped f None x = refl
first_mapped f (Some y) x = refl

same_option : {X : Type 0} (o : Option X) → option_map (λ x. x) o ≡ o
same_option None = refl
same_option (Some x) = refl

module _ {K V X : Type 0} (cmp : K → K → Ordering) (same : (a b : K) → is_eq (cmp a b) ≡ true → a ≡ b) (old new : K → Option V) (key_of : X → K) (value : X → V) (keep : X → Bool) where
  kept_by : (xs : List X) (x : X) (k : K) (b e : Bool) → keep x ≡ b → is_eq (cmp (key_of x) k) ≡ e → KeepsIf b cmp old new (key_of x) (value x)
      → ((k : K) → old k ≡ option_map value (find (λ y. keep y && is_eq (cmp (key_of y) k)) xs)) → new k ≡ option_map value (find (λ y. keep y && is_eq (cmp (key_of y) k)) (xs ++ x ∷ []))
  kept_by xs x k false e is at keeps before = keeps k ∙ before k ∙ ap (option_map value) (sym (find_miss (λ y. keep y && is_eq (cmp (key_of y) k)) xs x (ap (λ c. c && is_eq (cmp (key_of x) k)) is)))
  kept_by xs x k true false is at keeps before =
      keeps.others k at ∙ before k ∙ ap (option_map value) (sym (find_miss (λ y. keep y && is_eq (cmp (key_of y) k)) xs x (ap (λ c. c && is_eq (cmp (key_of x) k)) is ∙ at)))
  kept_by xs x k true true is at keeps before =
      let e = same (key_of x) k at in
      ap new (sym e) ∙ keeps.here ∙ ap (λ j. first_of (old j) (value x)) e ∙ ap (λ o. first_of o (value x)) (before k) ∙ first_mapped value (find (λ y. keep y && is_eq (cmp (key_of y) k)) xs) x
      ∙ ap (option_map value) (sym (find_hit (λ y. keep y && is_eq (cmp (key_of y) k)) xs x (ap (λ c. c && is_eq (cmp (key_of x) k)) is ∙ at)))

  -- a map that keeps the first of each key tells what a search finds
  pub kept : (xs : List X) (x : X) → KeepsIf (keep x) cmp old new (key_of x) (value x) → ((k : K) → old k ≡ option_map value (find (λ y. keep y && is_eq (cmp (key_of y) k)) xs))
      → (k : K) → new k ≡ option_map value (find (λ y. keep y && is_eq (cmp (key_of y) k)) (xs ++ x ∷ []))
  kept xs x keeps before k = kept_by xs x k (keep x) (is_eq (cmp (key_of x) k)) refl refl keeps before

-- ---- one fact more

items_push : (facts : List Fact) (f : Fact) (l : List Item) → item_of f ≡ l → items (facts ++ f ∷ []) ≡ items facts ++ l
items_push facts f l e = flat_push item_of facts f ∙ ap (λ (m : List Item). items facts ++ m) e

calls_push : (facts : List Fact) (f : Fact) (l : List Call) → call_of f ≡ l → calls (facts ++ f ∷ []) ≡ calls facts ++ l
calls_push facts f l e = flat_push call_of facts f ∙ ap (λ (m : List Call). calls facts ++ m) e

needs_push : (facts : List Fact) (f : Fact) (l : List Waits) → need_of f ≡ l → needs (facts ++ f ∷ []) ≡ needs facts ++ l
needs_push facts f l e = flat_push need_of facts f ∙ ap (λ (m : List Waits). needs facts ++ m) e

same_items : (facts : List Fact) (f : Fact) → item_of f ≡ [] → items facts ≡ items (facts ++ f ∷ [])
same_items facts f e = sym (items_push facts f [] e ∙ append-nil (items facts))

same_calls : (facts : List Fact) (f : Fact) → call_of f ≡ [] → calls facts ≡ calls (facts ++ f ∷ [])
same_calls facts f e = sym (calls_push facts f [] e ∙ append-nil (calls facts))

same_needs : (facts : List Fact) (f : Fact) → need_of f ≡ [] → needs facts ≡ needs (facts ++ f ∷ [])
same_needs facts f e = sym (needs_push facts f [] e ∙ append-nil (needs facts))

-- what an index tells, of lists
record Tells (index : Index) (is : List Item) (cs : List Call) (ns : List Waits) : Type 0 where
  pub items : (spot : Spot) → tree.get spot_cmp index.items spot ≡ find (λ y. true && is_eq (spot_cmp (spot_of y) spot)) is
  pub sends : (meeting : Meeting) → tree.get meeting_cmp index.sends meeting ≡ option_map (λ y. y.place) (find (λ y. same_side side.Send y.side && is_eq (meeting_cmp (meeting_of y) meeting)) is)
  pub receives : (meeting : Meeting) → tree.get meeting_cmp index.receives meeting ≡ option_map (λ y. y.place) (find (λ y. same_side side.Receive y.side && is_eq (meeting_cmp (meeting_of y) meeting)) is)
  pub calls : (spot : Spot) → tree.get spot_cmp index.calls spot ≡ find (λ y. true && is_eq (spot_cmp (call_spot y) spot)) cs
  pub members : (member : Member) → tree.get member_cmp index.members member ≡ option_map (λ y. y.place) (find (λ y. true && is_eq (member_cmp (member_of y) member)) cs)
  pub counts : (rank : ℕ) → count_in (tree.get nat_cmp index.counts rank) ≡ length (filter (λ w. w.place.rank == rank) ns)

told : (index : Index) (facts : List Fact) → Stands index facts → Tells index (items facts) (calls facts) (needs facts)
told index facts s = record { items = s.items; sends = s.sends; receives = s.receives; calls = s.calls; members = s.members; counts = s.counts }

stands : (index : Index) (facts : List Fact) (is : List Item) (cs : List Call) (ns : List Waits) → is ≡ items facts → cs ≡ calls facts → ns ≡ needs facts → Tells index is cs ns → Stands index facts
stands index facts is cs ns a b c t =
    let u : Tells index (items facts) (calls facts) (needs facts) =
    subst (λ (n : List Waits). Tells index (items facts) (calls facts) n) c (subst (λ (m : List Call). Tells index (items facts) m ns) b (subst (λ (l : List Item). Tells index l cs ns) a t)) in
    record { items = u.items; sends = u.sends; receives = u.receives; calls = u.calls; members = u.members; counts = u.counts }

pub adds_item : (old new : Index) (facts : List Fact) (f : Fact) (x : Item) → item_of f ≡ x ∷ [] → call_of f ≡ [] → need_of f ≡ [] → Keeps spot_cmp (tree.get spot_cmp old.items) (tree.get spot_cmp new.items) (spot_of x) x
    → KeepsIf (same_side side.Send x.side) meeting_cmp (tree.get meeting_cmp old.sends) (tree.get meeting_cmp new.sends) (meeting_of x) x.place
    → KeepsIf (same_side side.Receive x.side) meeting_cmp (tree.get meeting_cmp old.receives) (tree.get meeting_cmp new.receives) (meeting_of x) x.place
    → (new.calls ≡ old.calls) × ((new.members ≡ old.members) × (new.counts ≡ old.counts)) → Stands old facts → Stands new (facts ++ f ∷ [])
adds_item old new facts f x is no_call no_need at sends receives rest s =
    let t = told old facts s in
    stands new (facts ++ f ∷ []) (items facts ++ x ∷ []) (calls facts) (needs facts) (sym (items_push facts f (x ∷ []) is)) (same_calls facts f no_call) (same_needs facts f no_need) (record {
      items = λ spot.
          kept spot_cmp spot_same (tree.get spot_cmp old.items) (tree.get spot_cmp new.items) spot_of (λ (y : Item). y) (λ y. true) (items facts) x at (λ k. t.items k ∙ sym (same_option (find (λ y. true && is_eq (spot_cmp (spot_of y) k)) (items facts)))) spot
          ∙ same_option (find (λ y. true && is_eq (spot_cmp (spot_of y) spot)) (items facts ++ x ∷ []));
      sends = kept meeting_cmp meeting_same (tree.get meeting_cmp old.sends) (tree.get meeting_cmp new.sends) meeting_of (λ (y : Item). y.place) (λ y. same_side side.Send y.side) (items facts) x sends t.sends;
      receives = kept meeting_cmp meeting_same (tree.get meeting_cmp old.receives) (tree.get meeting_cmp new.receives) meeting_of (λ (y : Item). y.place) (λ y. same_side side.Receive y.side) (items facts) x receives t.receives;
      calls = λ spot. ap (λ m. tree.get spot_cmp m spot) rest.0 ∙ t.calls spot;
      members = λ member. ap (λ m. tree.get member_cmp m member) rest.1.0 ∙ t.members member;
      counts = λ rank. ap (λ m. count_in (tree.get nat_cmp m rank)) rest.1.1 ∙ t.counts rank;
    })

pub adds_call : (old new : Index) (facts : List Fact) (f : Fact) (x : Call) → item_of f ≡ [] → call_of f ≡ x ∷ [] → need_of f ≡ [] → Keeps spot_cmp (tree.get spot_cmp old.calls) (tree.get spot_cmp new.calls) (call_spot x) x
    → Keeps member_cmp (tree.get member_cmp old.members) (tree.get member_cmp new.members) (member_of x) x.place
    → (new.items ≡ old.items) × ((new.sends ≡ old.sends) × ((new.receives ≡ old.receives) × (new.counts ≡ old.counts))) → Stands old facts → Stands new (facts ++ f ∷ [])
adds_call old new facts f x no_item is no_need at members rest s =
    let t = told old facts s in
    stands new (facts ++ f ∷ []) (items facts) (calls facts ++ x ∷ []) (needs facts) (same_items facts f no_item) (sym (calls_push facts f (x ∷ []) is)) (same_needs facts f no_need) (record {
      items = λ spot. ap (λ m. tree.get spot_cmp m spot) rest.0 ∙ t.items spot;
      sends = λ meeting. ap (λ m. tree.get meeting_cmp m meeting) rest.1.0 ∙ t.sends meeting;
      receives = λ meeting. ap (λ m. tree.get meeting_cmp m meeting) rest.1.1.0 ∙ t.receives meeting;
      calls = λ spot.
          kept spot_cmp spot_same (tree.get spot_cmp old.calls) (tree.get spot_cmp new.calls) call_spot (λ (y : Call). y) (λ y. true) (calls facts) x at (λ k. t.calls k ∙ sym (same_option (find (λ y. true && is_eq (spot_cmp (call_spot y) k)) (calls facts)))) spot
          ∙ same_option (find (λ y. true && is_eq (spot_cmp (call_spot y) spot)) (calls facts ++ x ∷ []));
      members = kept member_cmp member_same (tree.get member_cmp old.members) (tree.get member_cmp new.members) member_of (λ (y : Call). y.place) (λ y. true) (calls facts) x members t.members;
      counts = λ rank. ap (λ m. count_in (tree.get nat_cmp m rank)) rest.1.1.1 ∙ t.counts rank;
    })

-- ---- one call more of a rank

eq_by : (a b : ℕ) (o : Ordering) → nat_cmp a b ≡ o → is_eq o ≡ true → a ≡ b
eq_by a b o e is = nat_cmp-IsAntisymmetric a b (e ∙ eq_equal o is)

-- numbers that differ compare so
apart : (a b : ℕ) → (a == b) ≡ false → is_eq (nat_cmp a b) ≡ false
apart a b e = elim (cases_Bool (is_eq (nat_cmp a b))) [
  | inl hit ↦ absurd (eqb-false a b e (eq_by a b (nat_cmp a b) refl hit))
  | inr miss ↦ miss
]

count_by : (ns : List Waits) (w : Waits) (rank : ℕ) (b : Bool) → (w.place.rank == rank) ≡ b → (old new : ℕ) → (b ≡ true → new ≡ old + 1) → (b ≡ false → new ≡ old) → old ≡ length (filter (λ (v : Waits). v.place.rank == rank) ns)
    → new ≡ length (filter (λ (v : Waits). v.place.rank == rank) (ns ++ w ∷ []))
count_by ns w rank true at old new more less before =
    more refl ∙ ap (λ n. n + 1) before ∙ sym (length_push (filter (λ (v : Waits). v.place.rank == rank) ns) w) ∙ ap length (sym (kept_push (λ (v : Waits). v.place.rank == rank) ns w at))
count_by ns w rank false at old new more less before = less refl ∙ before ∙ ap length (sym (left_push (λ (v : Waits). v.place.rank == rank) ns w at))

pub adds_need : (old new : Index) (facts : List Fact) (f : Fact) (w : Waits) → item_of f ≡ [] → call_of f ≡ [] → need_of f ≡ w ∷ []
    → count_in (tree.get nat_cmp new.counts w.place.rank) ≡ count_in (tree.get nat_cmp old.counts w.place.rank) + 1
    → ((other : ℕ) → is_eq (nat_cmp w.place.rank other) ≡ false → tree.get nat_cmp new.counts other ≡ tree.get nat_cmp old.counts other)
    → (new.items ≡ old.items) × ((new.sends ≡ old.sends) × (new.receives ≡ old.receives)) → (new.calls ≡ old.calls) × (new.members ≡ old.members) → Stands old facts → Stands new (facts ++ f ∷ [])
adds_need old new facts f w no_item no_call is here others items_are calls_are s =
    let t = told old facts s in
    stands new (facts ++ f ∷ []) (items facts) (calls facts) (needs facts ++ w ∷ []) (same_items facts f no_item) (same_calls facts f no_call) (sym (needs_push facts f (w ∷ []) is)) (record {
      items = λ spot. ap (λ m. tree.get spot_cmp m spot) items_are.0 ∙ t.items spot;
      sends = λ meeting. ap (λ m. tree.get meeting_cmp m meeting) items_are.1.0 ∙ t.sends meeting;
      receives = λ meeting. ap (λ m. tree.get meeting_cmp m meeting) items_are.1.1 ∙ t.receives meeting;
      calls = λ spot. ap (λ m. tree.get spot_cmp m spot) calls_are.0 ∙ t.calls spot;
      members = λ member. ap (λ m. tree.get member_cmp m member) calls_are.1 ∙ t.members member;
      counts = λ rank.
          count_by (needs facts) w rank (w.place.rank == rank) refl (count_in (tree.get nat_cmp old.counts rank)) (count_in (tree.get nat_cmp new.counts rank))
          (λ hit. let e = eqb-true w.place.rank rank hit in subst (λ r. count_in (tree.get nat_cmp new.counts r) ≡ count_in (tree.get nat_cmp old.counts r) + 1) e here)
          (λ miss. ap count_in (others rank (apart w.place.rank rank miss))) (t.counts rank);
    })
