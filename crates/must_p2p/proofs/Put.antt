-- An item put into the channels.
use Rattle.std.proofs.Common.{◌≡◌, ℕ, Bool, true, false, cond, List, [], ◌∷◌, ◌++◌, map, length, Option, Some, None, Result, Ok, Err, refl, sym, ap, subst, ◌∙◌, inl, inr, OnOk, IfOk, arith}
use Rattle.std.specs.Prelude.{◌⊎◌, slice_get}
use Rattle.std.specs.BTreeMap as tree
use Rattle.std.specs.BTreeMap.{BTreeMap}
use Rattle.std.specs.Option.{option_map}
use Rattle.std.specs.Ordering.{nat_cmp, int_cmp, ordering_then, is_eq}
use Rattle.std.specs.FinMap.{nat_cmp-IsAntisymmetric, int_cmp-IsAntisymmetric}
use Rattle.std.proofs.lemmas.List.{map-append, length-map}
use Rattle.std.proofs.lemmas.Option.{slice_get-map}
use Rattle.std.proofs.lemmas.Cmp.{tied_itself}
use Rattle.must_find.specs.Adds.{Adds}
use Rattle.must_find.specs.declared.finding.Finding.{Finding}
use Rattle.must_group.specs.Names.{Name, name_cmp}
use Rattle.must_p2p.specs.declared.side.Side.{Side}
use Rattle.must_p2p.specs.declared.side.Side.TheVariants.{Send, Receive, Probe}
use Rattle.must_p2p.specs.declared.item.MsgItem.{MsgItem}
use Rattle.must_p2p.specs.declared.matched.Matched.{Matched}
use Rattle.must_p2p.specs.declared.waiting.Waiting.{Waiting}
use Rattle.must_p2p.specs.declared.queue.Queue.{Queue}
use Rattle.must_p2p.specs.declared.key.Key.{Key}
use Rattle.must_p2p.specs.declared.names.Names.{Names}
use Rattle.must_p2p.specs.declared.channels.Channels.{Channels}
use Rattle.must_p2p.specs.Items.{Class, class_of, class_cmp, lane, same_side, Orderly}
use Rattle.must_p2p.specs.MessageRules.{pair_matched, pair_finding}
use Rattle.must_p2p.specs.Matching.{IsMatchOf, IsRowOf}
use Rattle.must_p2p.specs.Queues.{waiting, pair_matches_as, pair_breaks, pair_of, with_item, StandsAt}
use Rattle.must_p2p.specs.Standing.{number_of, Knows, key_cmp, key_of, queue_by, queue_of, kept, Keeps, IsOwned, AreOwned, StandsFor}
use Rattle.must_p2p.specs.ClassLaws.{class_total, class_same, then_parts, eq_equal}
use Rattle.must_p2p.specs.MatchLaws.{lane_push, lane_other, pair_is, match_from_pair, rows_from_pair}
use Rattle.must_p2p.proofs.Steps.{adds_alike, on_ok}
use Rattle.must_p2p.proofs.Named.{name_is, number_stays, one_number, not_none}

-- ---- what waits, with one item more

map_with : (b : Bool) (x : MsgItem) (xs : List MsgItem) → map waiting (cond b (xs ++ x ∷ []) xs) ≡ cond b (map waiting xs ++ waiting x ∷ []) (map waiting xs)
map_with true x xs = map-append waiting xs (x ∷ [])
map_with false x xs = refl

pub kept_push : (side : Side) (h : List MsgItem) (x : MsgItem) → kept (class_of x) side (h ++ x ∷ []) ≡ with_item side x.side (waiting x) (kept (class_of x) side h)
kept_push side h x = ap (map waiting) (lane_push (class_of x) side h x refl) ∙ map_with (same_side side x.side) x (lane (class_of x) side h)

kept_other : (c : Class) (side : Side) (h : List MsgItem) (x : MsgItem) → is_eq (class_cmp (class_of x) c) ≡ false → kept c side (h ++ x ∷ []) ≡ kept c side h
kept_other c side h x e = ap (map waiting) (lane_other c side h x e)

-- ---- the pair of what waits is the pair of the items

abbrev both : MsgItem × MsgItem → Waiting × Waiting
both p = (waiting p.0, waiting p.1)

sent_both : (x : MsgItem) (o : Option MsgItem) → option_map (λ (r : Waiting). (waiting x, r)) (option_map waiting o) ≡ option_map both (option_map (λ r. (x, r)) o)
sent_both x None = refl
sent_both x (Some r) = refl

received_both : (x : MsgItem) (o : Option MsgItem) → option_map (λ (s : Waiting). (s, waiting x)) (option_map waiting o) ≡ option_map both (option_map (λ s. (s, x)) o)
received_both x None = refl
received_both x (Some s) = refl

place_in : (xs ys : List MsgItem) → slice_get (map waiting xs) (length (map waiting ys)) ≡ option_map waiting (slice_get xs (length ys))
place_in xs ys = ap (slice_get (map waiting xs)) (length-map ys waiting) ∙ slice_get-map waiting xs (length ys)

pair_kept : (t : Side) (x : MsgItem) (s r : List MsgItem) → pair_of t (waiting x) (map waiting s) (map waiting r) ≡ option_map both (pair_of t x s r)
pair_kept Send x s r = ap (option_map (λ (y : Waiting). (waiting x, y))) (place_in r s) ∙ sent_both x (slice_get r (length s))
pair_kept Receive x s r = ap (option_map (λ (y : Waiting). (y, waiting x))) (place_in s r) ∙ received_both x (slice_get s (length r))
pair_kept Probe x s r = refl

as_matched : (o : Option (MsgItem × MsgItem)) → option_map pair_matches_as (option_map both o) ≡ option_map pair_matched o
as_matched None = refl
as_matched (Some p) = refl

as_finding : (o : Option (MsgItem × MsgItem)) → option_map pair_breaks (option_map both o) ≡ option_map pair_finding o
as_finding None = refl
as_finding (Some p) = refl

-- ---- the queue of a class, where a name got its number

key_same : (a b : Key) → is_eq (key_cmp a b) ≡ true → a ≡ b
key_same a b e =
    let p = then_parts (nat_cmp a.source b.source) (ordering_then (nat_cmp a.dest b.dest) (ordering_then (int_cmp a.tag b.tag) (nat_cmp a.name b.name))) (eq_equal (key_cmp a b) e) in
    let q = then_parts (nat_cmp a.dest b.dest) (ordering_then (int_cmp a.tag b.tag) (nat_cmp a.name b.name)) p.1 in
    let r = then_parts (int_cmp a.tag b.tag) (nat_cmp a.name b.name) q.1 in
    let source = nat_cmp-IsAntisymmetric a.source b.source p.0 in
    let dest = nat_cmp-IsAntisymmetric a.dest b.dest q.0 in
    let tag = int_cmp-IsAntisymmetric a.tag b.tag r.0 in
    let name = nat_cmp-IsAntisymmetric a.name b.name r.1 in
    λ i. record { source = source i; dest = dest i; tag = tag i; name = name i }

-- what is told of the names behind an item
pub record Behind (old new : Names) (name : Name) (i : ℕ) : Type 0 where
  pub number : number_of new name ≡ Some i
  pub others : (other : Name) → is_eq (name_cmp name other) ≡ false → number_of new other ≡ number_of old other
  pub old_or_new : (number_of old name ≡ Some i) ⊎ ((number_of old name ≡ None) × (i ≡ old.count))

free_by : (names : Names) (queues : BTreeMap Key Queue) (items : List MsgItem) (key : Key) → Knows names items → AreOwned names queues → key.name ≡ names.count
    → (o : Option Queue) → tree.get key_cmp queues key ≡ o → o ≡ None
free_by names queues items key known owned e None is = refl
free_by names queues items key known owned e (Some q) is =
    let n = owned key q is in
    let l = known.below n.name key.name n.is in absurd (omega (arith, l, e))

same_queue_by : (old new : Names) (queues : BTreeMap Key Queue) (items : List MsgItem) (name : Name) (i : ℕ) → Knows old items → AreOwned old queues → Behind old new name i
    → (c : Class) (b : Bool) → is_eq (name_cmp name c.name) ≡ b → queue_of new queues c ≡ queue_of old queues c
same_queue_by old new queues items name i known owned g c true is =
    let same = name_is name c.name is in
    let now : number_of new c.name ≡ Some i = ap (number_of new) (sym same) ∙ g.number in
    elim g.old_or_new [
      | inl p ↦ ap (queue_by queues c) (now ∙ sym (ap (number_of old) (sym same) ∙ p))
      | inr p ↦
          ap (queue_by queues c) now ∙ free_by old queues items (key_of c i) known owned p.1 (tree.get key_cmp queues (key_of c i)) refl
          ∙ sym (ap (queue_by queues c) (ap (number_of old) (sym same) ∙ p.0))
    ]
same_queue_by old new queues items name i known owned g c false is = ap (queue_by queues c) (g.others c.name is)

same_queue : (old new : Names) (queues : BTreeMap Key Queue) (items : List MsgItem) (name : Name) (i : ℕ) → Knows old items → AreOwned old queues → Behind old new name i
    → (c : Class) → queue_of new queues c ≡ queue_of old queues c
same_queue old new queues items name i known owned g c = same_queue_by old new queues items name i known owned g c (is_eq (name_cmp name c.name)) refl

stays : (old new : Names) (name : Name) (i : ℕ) → Behind old new name i → (a : Name) (k : ℕ) → number_of old a ≡ Some k → number_of new a ≡ Some k
stays old new name i g = number_stays old new name i g.number g.others (λ j e. elim g.old_or_new [
  | inl p ↦ one_number (number_of old name) i j p e
  | inr p ↦ absurd (not_none (number_of old name) j e p.0)
])

-- the queue of the item's class stands where its key says
pub at_key : (old new : Names) (queues : BTreeMap Key Queue) (items : List MsgItem) (x : MsgItem) (i : ℕ) → Knows old items → AreOwned old queues → Keeps old queues items → Behind old new x.name i
    → StandsAt (tree.get key_cmp queues (key_of (class_of x) i)) (kept (class_of x) Send items) (kept (class_of x) Receive items)
at_key old new queues items x i known owned keeps g =
    subst (λ (o : Option Queue). StandsAt o (kept (class_of x) Send items) (kept (class_of x) Receive items))
    (sym (same_queue old new queues items x.name i known owned g (class_of x)) ∙ ap (queue_by queues (class_of x)) g.number) (keeps (class_of x))

-- ---- the queues with one item more

other_key_by : (new : Names) (items : List MsgItem) (x : MsgItem) (i j : ℕ) (c : Class) → Knows new items → number_of new x.name ≡ Some i → number_of new c.name ≡ Some j
    → is_eq (class_cmp (class_of x) c) ≡ false → (b : Bool) → is_eq (key_cmp (key_of (class_of x) i) (key_of c j)) ≡ b → b ≡ false
other_key_by new items x i j c known here there apart false is = refl
other_key_by new items x i j c known here there apart true is =
    let k = key_same (key_of (class_of x) i) (key_of c j) is in
    let source = ap (λ (w : Key). w.source) k in
    let dest = ap (λ (w : Key). w.dest) k in
    let tag = ap (λ (w : Key). w.tag) k in
    let ij = ap (λ (w : Key). w.name) k in
    let name = known.apart x.name c.name i here (there ∙ ap Some (sym ij)) in
    let same : class_of x ≡ c = λ t. record { source = source t; dest = dest t; tag = tag t; name = name t } in
    let e : true ≡ false = sym (ap is_eq (tied_itself class_total (class_of x))) ∙ ap (λ (w : Class). is_eq (class_cmp (class_of x) w)) same ∙ apart in
    cc

other_queue : (new : Names) (queues queues' : BTreeMap Key Queue) (items : List MsgItem) (x : MsgItem) (i : ℕ) (c : Class) → Knows new items → number_of new x.name ≡ Some i
    → ((other : Key) → is_eq (key_cmp (key_of (class_of x) i) other) ≡ false → tree.get key_cmp queues' other ≡ tree.get key_cmp queues other)
    → is_eq (class_cmp (class_of x) c) ≡ false → (o : Option ℕ) → number_of new c.name ≡ o → queue_by queues' c o ≡ queue_by queues c o
other_queue new queues queues' items x i c known here others apart None is = refl
other_queue new queues queues' items x i c known here others apart (Some j) is =
    others (key_of c j) (other_key_by new items x i j c known here is apart (is_eq (key_cmp (key_of (class_of x) i) (key_of c j))) refl)

keeps_by : (old new : Names) (queues queues' : BTreeMap Key Queue) (items : List MsgItem) (x : MsgItem) (i : ℕ) → Knows old items → AreOwned old queues → Keeps old queues items → Behind old new x.name i → Knows new (items ++ x ∷ [])
    → StandsAt (tree.get key_cmp queues' (key_of (class_of x) i)) (with_item Send x.side (waiting x) (kept (class_of x) Send items)) (with_item Receive x.side (waiting x) (kept (class_of x) Receive items))
    → ((other : Key) → is_eq (key_cmp (key_of (class_of x) i) other) ≡ false → tree.get key_cmp queues' other ≡ tree.get key_cmp queues other)
    → (c : Class) (b : Bool) → is_eq (class_cmp (class_of x) c) ≡ b → StandsAt (queue_of new queues' c) (kept c Send (items ++ x ∷ [])) (kept c Receive (items ++ x ∷ []))
keeps_by old new queues queues' items x i known owned keeps g more here others c true is =
    let k = class_of x in
    let at : StandsAt (queue_of new queues' k) (kept k Send (items ++ x ∷ [])) (kept k Receive (items ++ x ∷ [])) =
    rw (kept_push Send items x, kept_push Receive items x, g.number) here in
    subst (λ (d : Class). StandsAt (queue_of new queues' d) (kept d Send (items ++ x ∷ [])) (kept d Receive (items ++ x ∷ []))) (class_same k c (eq_equal (class_cmp k c) is)) at
keeps_by old new queues queues' items x i known owned keeps g more here others c false is =
    rw (kept_other c Send items x is, kept_other c Receive items x is, other_queue new queues queues' (items ++ x ∷ []) x i c more g.number others is (number_of new c.name) refl ∙ same_queue old new queues items x.name i known owned g c) (keeps c)

owned_by : (old new : Names) (queues queues' : BTreeMap Key Queue) (name : Name) (key : Key) → AreOwned old queues → Behind old new name key.name
    → ((other : Key) → is_eq (key_cmp key other) ≡ false → tree.get key_cmp queues' other ≡ tree.get key_cmp queues other)
    → (k : Key) (q : Queue) → tree.get key_cmp queues' k ≡ Some q → (b : Bool) → is_eq (key_cmp key k) ≡ b → IsOwned new k.name
owned_by old new queues queues' name key owned g others k q e true is = record { name = name; is = g.number ∙ ap (λ (w : Key). Some w.name) (key_same key k is) }
owned_by old new queues queues' name key owned g others k q e false is =
    let n = owned k q (sym (others k is) ∙ e) in
    record { name = n.name; is = stays old new name key.name g n.name k.name n.is }

pub stands_push : (old new : Channels) (items : List MsgItem) (x : MsgItem) (i : ℕ) → StandsFor old items → Behind old.names new.names x.name i → Knows new.names (items ++ x ∷ [])
    → StandsAt (tree.get key_cmp new.queues (key_of (class_of x) i)) (with_item Send x.side (waiting x) (kept (class_of x) Send items)) (with_item Receive x.side (waiting x) (kept (class_of x) Receive items))
    → ((other : Key) → is_eq (key_cmp (key_of (class_of x) i) other) ≡ false → tree.get key_cmp new.queues other ≡ tree.get key_cmp old.queues other)
    → StandsFor new (items ++ x ∷ [])
stands_push old new items x i st g more here others = record {
  knows = more;
  keeps = λ c. keeps_by old.names new.names old.queues new.queues items x i st.knows st.owned st.keeps g more here others c (is_eq (class_cmp (class_of x) c)) refl;
  owned = λ k q e. owned_by old.names new.names old.queues new.queues x.name (key_of (class_of x) i) st.owned g others k q e (is_eq (key_cmp (key_of (class_of x) i) k)) refl;
}

-- the key and what waits as the call has them
pub after_put : {T E : Type 0} (result : Result T E) (old new : Channels) (items : List MsgItem) (x : MsgItem) (i : ℕ) (key : Key) (w : Waiting) → key ≡ key_of (class_of x) i → w ≡ waiting x
    → StandsFor old items → Behind old.names new.names x.name i → Knows new.names (items ++ x ∷ [])
    → ((s r : List Waiting) → StandsAt (tree.get key_cmp old.queues key) s r → OnOk result (StandsAt (tree.get key_cmp new.queues key) (with_item Send x.side w s) (with_item Receive x.side w r)))
    → ((other : Key) → is_eq (key_cmp key other) ≡ false → tree.get key_cmp new.queues other ≡ tree.get key_cmp old.queues other)
    → OnOk result (StandsFor new (items ++ x ∷ []))
after_put result old new items x i key w k e st g more here others =
    let there =
    subst (λ (v : Waiting). (s r : List Waiting) → StandsAt (tree.get key_cmp old.queues (key_of (class_of x) i)) s r → OnOk result (StandsAt (tree.get key_cmp new.queues (key_of (class_of x) i)) (with_item Send x.side v s) (with_item Receive x.side v r))) e
    (subst (λ (d : Key). (s r : List Waiting) → StandsAt (tree.get key_cmp old.queues d) s r → OnOk result (StandsAt (tree.get key_cmp new.queues d) (with_item Send x.side w s) (with_item Receive x.side w r))) k here) in
    on_ok result (there (kept (class_of x) Send items) (kept (class_of x) Receive items) (at_key old.names new.names old.queues items x i st.knows st.owned st.keeps g))
    (λ at. stands_push old new items x i st g more at (subst (λ (d : Key). (other : Key) → is_eq (key_cmp d other) ≡ false → tree.get key_cmp new.queues other ≡ tree.get key_cmp old.queues other) k others))

pub at_call : (old : Channels) (new : Names) (items : List MsgItem) (x : MsgItem) (i : ℕ) (key : Key) → key ≡ key_of (class_of x) i → StandsFor old items → Behind old.names new x.name i
    → StandsAt (tree.get key_cmp old.queues key) (kept (class_of x) Send items) (kept (class_of x) Receive items)
at_call old new items x i key k st g =
    subst (λ (d : Key). StandsAt (tree.get key_cmp old.queues d) (kept (class_of x) Send items) (kept (class_of x) Receive items)) (sym k) (at_key old.names new old.queues items x i st.knows st.owned st.keeps g)

-- ---- what the pair gives

if_found : {E : Type 0} (r : Result (Option Matched) E) (items : List MsgItem) (x : MsgItem) (o p : Option Matched) → IsMatchOf items x p → o ≡ p → IfOk r (λ m. m ≡ o) → IfOk r (IsMatchOf items x)
if_found (Ok m) items x o p is same e = subst (IsMatchOf items x) (sym (e ∙ same)) is
if_found (Err e) items x o p is same i = tt

pub found_of : {E : Type 0} (r : Result (Option Matched) E) (h : List MsgItem) (x : MsgItem) (w : Waiting) → w ≡ waiting x → Orderly (h ++ x ∷ [])
    → IfOk r (λ m. m ≡ option_map pair_matches_as (pair_of x.side w (kept (class_of x) Send h) (kept (class_of x) Receive h))) → IfOk r (IsMatchOf (h ++ x ∷ []) x)
found_of r h x w e o found =
    let s = lane (class_of x) Send h in
    let t = lane (class_of x) Receive h in
    let p = pair_of x.side x s t in
    if_found r (h ++ x ∷ []) x (option_map pair_matches_as (pair_of x.side (waiting x) (map waiting s) (map waiting t))) (option_map pair_matched p) (match_from_pair (h ++ x ∷ []) x p (pair_is h x o))
    (ap (option_map pair_matches_as) (pair_kept x.side x s t) ∙ as_matched p)
    (subst (λ (v : Waiting). IfOk r (λ m. m ≡ option_map pair_matches_as (pair_of x.side v (map waiting s) (map waiting t)))) e found)

pub rows_of : (old new : List Finding) (h : List MsgItem) (x : MsgItem) (w : Waiting) → w ≡ waiting x → Orderly (h ++ x ∷ [])
    → Adds old new (λ f. option_map pair_breaks (pair_of x.side w (kept (class_of x) Send h) (kept (class_of x) Receive h)) ≡ Some (Some f)) → Adds old new (IsRowOf (h ++ x ∷ []) x)
rows_of old new h x w e o adds =
    let s = lane (class_of x) Send h in
    let t = lane (class_of x) Receive h in
    let p = pair_of x.side x s t in
    let same : option_map pair_breaks (pair_of x.side (waiting x) (map waiting s) (map waiting t)) ≡ option_map pair_finding p = ap (option_map pair_breaks) (pair_kept x.side x s t) ∙ as_finding p in
    adds_alike old new (λ f. option_map pair_breaks (pair_of x.side (waiting x) (map waiting s) (map waiting t)) ≡ Some (Some f)) (IsRowOf (h ++ x ∷ []) x)
    (λ f. let q = rows_from_pair (h ++ x ∷ []) x p f (pair_is h x o) in (λ is. q.0 (sym same ∙ is), λ row. same ∙ q.1 row))
    (subst (λ (v : Waiting). Adds old new (λ f. option_map pair_breaks (pair_of x.side v (map waiting s) (map waiting t)) ≡ Some (Some f))) e adds)
