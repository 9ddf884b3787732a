-- Matches are pairs at one place of two lanes, where the items come in order.
use Rattle.std.proofs.Common.{◌≡◌, ℕ, Bool, true, false, cond, ◌&&◌, List, [], ◌∷◌, ◌++◌, length, Option, Some, None, refl, sym, ap, subst, ◌∙◌, inl, inr}
use Rattle.std.specs.Prelude.{slice_get, filter, ◌↔◌}
use Rattle.std.specs.Option.{option_map}
use Rattle.std.proofs.lemmas.List.Elements.{filter-append}
use Rattle.std.proofs.lemmas.List.{append-nil}
use Rattle.std.specs.Ordering.{is_eq}
use Rattle.std.proofs.lemmas.Cmp.{eq_by_cmp_equiv}
use Rattle.std.proofs.lemmas.Bool.{and_left, and_right}
use Rattle.must_base.specs.Listing.{Has}
use Rattle.must_find.specs.declared.finding.Finding.{Finding}
use Rattle.must_p2p.specs.declared.side.Side.{Side}
use Rattle.must_p2p.specs.declared.side.Side.TheVariants.{Send, Receive, Probe}
use Rattle.must_p2p.specs.declared.item.MsgItem.{MsgItem}
use Rattle.must_p2p.specs.Items.{Class, class_of, class_cmp, is_earlier, counted, in_lane, lane, number, Orderly, same_side}
use Rattle.must_p2p.specs.MessageRules.{pair_matched, pair_finding}
use Rattle.must_p2p.specs.Matching.{IsMatch, IsOneOf, IsMatchOf, IsRowOf}
use Rattle.must_p2p.specs.Queues.{pair_of, with_item}
use Rattle.must_p2p.specs.LaneLaws.{place_at, place_of, get_last, some_is}
use Rattle.must_p2p.specs.ClassLaws.{class_total, side_same, in_lane_is, in_lane_from, earlier_itself, chain_of}

-- the number of an item of a lane counts in that lane
number_in : (c : Class) (side : Side) (items : List MsgItem) (x : MsgItem) → counted x.side ≡ side → c ≡ class_of x
    → number items x ≡ length (filter (λ y. in_lane c side y && is_earlier y x) items)
number_in c side items x s e =
    ap (λ (t : Side). length (filter (λ y. in_lane (class_of x) t y && is_earlier y x) items)) s ∙ ap (λ (k : Class). length (filter (λ y. in_lane k side y && is_earlier y x) items)) (sym e)

-- an item of side Send or Receive stands in its lane at its number
pub stands_at : (side : Side) (items : List MsgItem) (x : MsgItem) → Orderly items → Has items x → x.side ≡ side → counted side ≡ side → (c : Class) → c ≡ class_of x → slice_get (lane c side items) (number items x) ≡ Some x
stands_at side items x o h s t c e =
    subst (λ n. slice_get (lane c side items) n ≡ Some x) (sym (number_in c side items x (ap counted s ∙ t) e))
    (place_at (in_lane c side) is_earlier earlier_itself items x (chain_of c side items o.placed o.rising) h (in_lane_from c side x s e))

-- what stands in a lane at a place has this number
pub record IsNumbered (c : Class) (side : Side) (items : List MsgItem) (n : ℕ) (x : MsgItem) : Type 0 where
  pub there : Has items x
  pub side_is : x.side ≡ side
  pub class_is : c ≡ class_of x
  pub number_is : number items x ≡ n

pub numbered : (c : Class) (side : Side) (items : List MsgItem) (n : ℕ) (x : MsgItem) → Orderly items → counted side ≡ side → slice_get (lane c side items) n ≡ Some x → IsNumbered c side items n x
numbered c side items n x o t e =
    let a = place_of (in_lane c side) is_earlier earlier_itself items n x (chain_of c side items o.placed o.rising) e in
    let b = in_lane_is c side x a.passes in
    record { there = a.there; side_is = b.0; class_is = b.1; number_is = number_in c side items x (ap counted b.0 ∙ t) b.1 ∙ a.count }

-- two items at one place of the two lanes of a class match
pub pair_matches : (c : Class) (items : List MsgItem) (n : ℕ) (s r : MsgItem) → Orderly items → slice_get (lane c Send items) n ≡ Some s → slice_get (lane c Receive items) n ≡ Some r → IsMatch items s r
pair_matches c items n s r o p q =
    let a = numbered c Send items n s o refl p in
    let b = numbered c Receive items n r o refl q in
    record { send_there = a.there; receive_there = b.there; sends = a.side_is; receives = b.side_is; one_class = sym a.class_is ∙ b.class_is; one_number = a.number_is ∙ sym b.number_is }

-- and the other way round
pub send_place : (items : List MsgItem) (s r : MsgItem) → Orderly items → IsMatch items s r → slice_get (lane (class_of s) Send items) (number items s) ≡ Some s
send_place items s r o m = stands_at Send items s o m.send_there m.sends refl (class_of s) refl

pub receive_place : (items : List MsgItem) (s r : MsgItem) → Orderly items → IsMatch items s r → slice_get (lane (class_of s) Receive items) (number items s) ≡ Some r
receive_place items s r o m =
    subst (λ n. slice_get (lane (class_of s) Receive items) n ≡ Some r) (sym m.one_number) (stands_at Receive items r o m.receive_there m.receives refl (class_of s) m.one_class)

-- a lane with one item more
in_own_lane : (c : Class) (side : Side) (x : MsgItem) (b : Bool) → same_side side x.side ≡ b → c ≡ class_of x → in_lane c side x ≡ b
in_own_lane c side x true s e = in_lane_from c side x (side_same side x.side s) e
in_own_lane c side x false s e = and_left (same_side side x.side) (is_eq (class_cmp c (class_of x))) s

push_one : (b : Bool) (l : List MsgItem) (x : MsgItem) → l ++ cond b (x ∷ []) [] ≡ cond b (l ++ x ∷ []) l
push_one true l x = refl
push_one false l x = append-nil l

pub lane_push : (c : Class) (side : Side) (h : List MsgItem) (x : MsgItem) → c ≡ class_of x → lane c side (h ++ x ∷ []) ≡ with_item side x.side x (lane c side h)
lane_push c side h x e =
    filter-append (in_lane c side) h (x ∷ []) ∙ ap (λ b. lane c side h ++ cond b (x ∷ []) []) (in_own_lane c side x (same_side side x.side) refl e) ∙ push_one (same_side side x.side) (lane c side h) x

pub lane_other : (c : Class) (side : Side) (h : List MsgItem) (x : MsgItem) → is_eq (class_cmp (class_of x) c) ≡ false → lane c side (h ++ x ∷ []) ≡ lane c side h
lane_other c side h x e =
    filter-append (in_lane c side) h (x ∷ [])
    ∙ ap (λ b. lane c side h ++ cond b (x ∷ []) []) (and_right (same_side side x.side) (is_eq (class_cmp c (class_of x))) ((eq_by_cmp_equiv class_total).symm c (class_of x) ∙ e)) ∙ append-nil (lane c side h)

with_same : (side : Side) (x : MsgItem) (xs : List MsgItem) (b : Bool) → same_side side x.side ≡ b → with_item side x.side x xs ≡ cond b (xs ++ x ∷ []) xs
with_same side x xs b e = ap (λ t. cond t (xs ++ x ∷ []) xs) e

-- the match of the last item
pub record IsPairOf (items : List MsgItem) (x : MsgItem) (o : Option (MsgItem × MsgItem)) : Type 0 where
  pub found : (p : MsgItem × MsgItem) → o ≡ Some p → IsMatch items p.0 p.1 × IsOneOf x p.0 p.1
  pub only : (s r : MsgItem) → IsMatch items s r → IsOneOf x s r → o ≡ Some (s, r)

mapped : (f : MsgItem → MsgItem × MsgItem) (o : Option MsgItem) (p : MsgItem × MsgItem) → option_map f o ≡ Some p → (y : MsgItem) × (o ≡ Some y) × (f y ≡ p)
mapped f None p e = absurd (let n : None ≡ Some p = e in cc)
mapped f (Some y) p e = (y, refl, some_is (f y) p e)

sides_differ : (x : MsgItem) → x.side ≡ Send → x.side ≡ Receive → ⊥
sides_differ x p q = let n : Send ≡ Receive = sym p ∙ q in cc

probe_is_none : (x : MsgItem) (t : Side) → x.side ≡ Probe → x.side ≡ t → same_side Probe t ≡ true
probe_is_none x t p q = ap (same_side Probe) (sym q ∙ p)

pair_sent : (h : List MsgItem) (x : MsgItem) → x.side ≡ Send → Orderly (h ++ x ∷ []) → IsPairOf (h ++ x ∷ []) x (pair_of Send x (lane (class_of x) Send h) (lane (class_of x) Receive h))
pair_sent h x side o =
    let items = h ++ x ∷ [] in
    let c = class_of x in
    let s = lane c Send h in
    let ls : lane c Send items ≡ s ++ x ∷ [] = lane_push c Send h x refl ∙ with_same Send x s true (ap (same_side Send) side) in
    let lr : lane c Receive items ≡ lane c Receive h = lane_push c Receive h x refl ∙ with_same Receive x (lane c Receive h) false (ap (same_side Receive) side) in
    let last : slice_get (lane c Send items) (length s) ≡ Some x = ap (λ (l : List MsgItem). slice_get l (length s)) ls ∙ get_last s x in
    let here = numbered c Send items (length s) x o refl last in
    record {
      found = λ p e.
          let m = mapped (λ r. (x, r)) (slice_get (lane c Receive h) (length s)) p e in
          subst (λ (q : MsgItem × MsgItem). IsMatch items q.0 q.1 × IsOneOf x q.0 q.1) m.2 (pair_matches c items (length s) x m.0 o last (ap (λ (l : List MsgItem). slice_get l (length s)) lr ∙ m.1), inl refl);
      only = λ a r m one. elim one [
        | inl e ↦
            let there : slice_get (lane c Receive h) (length s) ≡ Some r =
            ap (λ (l : List MsgItem). slice_get l (length s)) (sym lr) ∙ ap (λ n. slice_get (lane c Receive items) n) (sym here.number_is)
            ∙ ap (λ (y : MsgItem). slice_get (lane (class_of y) Receive items) (number items y)) e ∙ receive_place items a r o m in
            ap (option_map (λ r. (x, r))) there ∙ ap (λ (y : MsgItem). Some (y, r)) e
        | inr e ↦ absurd (sides_differ x side (ap (λ (y : MsgItem). y.side) e ∙ m.receives))
      ];
    }

-- a send that stands at its number in its lane stands at that place among the sends before
sent_there : (h items : List MsgItem) (c : Class) (s : MsgItem) (n : ℕ) → lane c Send items ≡ lane c Send h → n ≡ number items s → c ≡ class_of s
    → slice_get (lane (class_of s) Send items) (number items s) ≡ Some s → slice_get (lane c Send h) n ≡ Some s
sent_there h items c s n ls number_is class_is there =
    ap (λ (l : List MsgItem). slice_get l n) (sym ls) ∙ ap (λ k. slice_get (lane c Send items) k) number_is ∙ ap (λ (k : Class). slice_get (lane k Send items) (number items s)) class_is ∙ there

sent_pair : (o : Option MsgItem) (s x b : MsgItem) → o ≡ Some s → x ≡ b → option_map {U = MsgItem × MsgItem} (λ y. (y, x)) o ≡ Some (s, b)
sent_pair o s x b there e = ap (λ (w : Option MsgItem). option_map {U = MsgItem × MsgItem} (λ y. (y, x)) w) there ∙ ap (λ (y : MsgItem). Some (s, y)) e

pair_received : (h : List MsgItem) (x : MsgItem) → x.side ≡ Receive → Orderly (h ++ x ∷ []) → IsPairOf (h ++ x ∷ []) x (pair_of Receive x (lane (class_of x) Send h) (lane (class_of x) Receive h))
pair_received h x side o =
    let items = h ++ x ∷ [] in
    let c = class_of x in
    let r = lane c Receive h in
    let lr : lane c Receive items ≡ r ++ x ∷ [] = lane_push c Receive h x refl ∙ with_same Receive x r true (ap (same_side Receive) side) in
    let ls : lane c Send items ≡ lane c Send h = lane_push c Send h x refl ∙ with_same Send x (lane c Send h) false (ap (same_side Send) side) in
    let last : slice_get (lane c Receive items) (length r) ≡ Some x = ap (λ (l : List MsgItem). slice_get l (length r)) lr ∙ get_last r x in
    let here = numbered c Receive items (length r) x o refl last in
    record {
      found = λ p e.
          let m = mapped (λ s. (s, x)) (slice_get (lane c Send h) (length r)) p e in
          subst (λ (q : MsgItem × MsgItem). IsMatch items q.0 q.1 × IsOneOf x q.0 q.1) m.2 (pair_matches c items (length r) m.0 x o (ap (λ (l : List MsgItem). slice_get l (length r)) ls ∙ m.1) last, inr refl);
      only = λ s b m one. elim one [
        | inl e ↦ absurd (sides_differ x (ap (λ (y : MsgItem). y.side) e ∙ m.sends) side)
        | inr e ↦
            let class_is : c ≡ class_of s = ap class_of e ∙ sym m.one_class in
            let number_is : length r ≡ number items s = sym here.number_is ∙ ap (λ (y : MsgItem). number items y) e ∙ sym m.one_number in
            let there : slice_get (lane c Send h) (length r) ≡ Some s =
            sent_there h items c s (length r) ls number_is class_is (send_place items s b o m) in
            sent_pair (slice_get (lane c Send h) (length r)) s x b there e
      ];
    }

pair_probed : (items : List MsgItem) (x : MsgItem) (s r : List MsgItem) → x.side ≡ Probe → IsPairOf items x (pair_of Probe x s r)
pair_probed items x s r side = record {
  found = λ p e. absurd (let n : None ≡ Some p = e in cc);
  only = λ a b m one. elim one [
    | inl e ↦ absurd (let n : false ≡ true = probe_is_none x Send side (ap (λ (y : MsgItem). y.side) e ∙ m.sends) in cc)
    | inr e ↦ absurd (let n : false ≡ true = probe_is_none x Receive side (ap (λ (y : MsgItem). y.side) e ∙ m.receives) in cc)
  ];
}

pair_by : (h : List MsgItem) (x : MsgItem) (t : Side) → x.side ≡ t → Orderly (h ++ x ∷ []) → IsPairOf (h ++ x ∷ []) x (pair_of t x (lane (class_of x) Send h) (lane (class_of x) Receive h))
pair_by h x Send e o = pair_sent h x e o
pair_by h x Receive e o = pair_received h x e o
pair_by h x Probe e o = pair_probed (h ++ x ∷ []) x (lane (class_of x) Send h) (lane (class_of x) Receive h) e

-- the pair that the last item makes is its match
pub pair_is : (h : List MsgItem) (x : MsgItem) → Orderly (h ++ x ∷ []) → IsPairOf (h ++ x ∷ []) x (pair_of x.side x (lane (class_of x) Send h) (lane (class_of x) Receive h))
pair_is h x o = pair_by h x x.side refl o

finding_is : (a b : Option Finding) → Some a ≡ Some b → a ≡ b
finding_is a b e = cc

pub match_from_pair : (items : List MsgItem) (x : MsgItem) (o : Option (MsgItem × MsgItem)) → IsPairOf items x o → IsMatchOf items x (option_map pair_matched o)
match_from_pair items x None is = λ s r m one. absurd (let n : None ≡ Some (s, r) = is.only s r m one in cc)
match_from_pair items x (Some p) is = let m = is.found p refl in (p.0, p.1, m.0, m.1, refl)

pub rows_from_pair : (items : List MsgItem) (x : MsgItem) (o : Option (MsgItem × MsgItem)) (f : Finding) → IsPairOf items x o → (option_map pair_finding o ≡ Some (Some f)) ↔ IsRowOf items x f
rows_from_pair items x None f is = (λ e. absurd (let n : None ≡ Some (Some f) = e in cc), λ row. absurd (let n : None ≡ Some (row.send, row.receive) = is.only row.send row.receive row.is_match row.is_one in cc))
rows_from_pair items x (Some p) f is = (
  λ e. let m = is.found p refl in record { send = p.0; receive = p.1; is_match = m.0; is_one = m.1; gives = finding_is (pair_finding p) (Some f) e },
  λ row. ap (option_map pair_finding) (is.only row.send row.receive row.is_match row.is_one) ∙ ap Some row.gives,
)
