-- Lists of batches are lawful rank by rank: what is lawful is so for the batches of each rank, and batches are lawful where those of
-- each rank are. A front of lawful batches is lawful.
use Rattle.std.proofs.Common.{◌≡◌, ℕ, Bool, true, false, cond, ◌&&◌, List, [], ◌∷◌, ◌++◌, map, Some, None, refl, sym, ap, subst, ◌∙◌, inl, inr}
use Rattle.std.specs.Prelude.{filter, slice_get, ◌==◌}
use Rattle.std.specs.declared.cmp.Ordering.TheVariants.{Less}
use Rattle.std.specs.Ordering.{is_eq}
use Rattle.std.specs.List.{AllByRecursion}
use Rattle.std.proofs.lemmas.Bool.{true≢false, and_parts, cases_eq, eqb-true, eq-eqb}
use Rattle.std.proofs.lemmas.List.{map-append}
use Rattle.must_base.specs.Listing.{Has}
use Rattle.must_call.specs.declared.place.Place.{Place}
use Rattle.must_group.specs.Names.{Name, name_cmp}
use Rattle.must_p2p.specs.declared.item.MsgItem.{MsgItem}
use Rattle.must_p2p.specs.Items as p2p
use Rattle.must_p2p.specs.Items.{spot_cmp, IsPlaced, InOrder}
use Rattle.must_p2p.specs.ClassLaws.{orderly_front}
use Rattle.must_p2p.specs.SetLaws.{all_filter, has_filter, orderly_filter}
use Rattle.must_coll.specs.declared.item.WaveItem.{WaveItem}
use Rattle.must_coll.specs.Waves as waves
use Rattle.must_coll.specs.ListLaws.{has_before}
use Rattle.must_coll.specs.WaveLaws.{lane_keeps}
use Rattle.must_entry.specs.declared.entry.Entry.{Entry}
use Rattle.must_entry.specs.declared.entry.Entry.TheVariants.{Row, Message, Wave, Need}
use Rattle.must_entry.specs.declared.range.RankRange.{RankRange}
use Rattle.must_entry.specs.declared.batch.Batch.{Batch}
use Rattle.must_entry.specs.Entries.{Waits, message_of, messages, call_of, calls, need_of, needs, entries_of}
use Rattle.must_entry.specs.Lawful.{IsOf, IsBatchOf, NoneAfterLast, Rise, IsLawful}
use Rattle.must_inbox.specs.Children.{of_rank}
use Rattle.must_inbox.specs.ListLaws.{flat_append, all_front, all_weaker, filter_in, filter_out, filter_alike, map_filter, flat_filter, all_where, all_gathered, rise_front, rise_filter, rise_gathered}

-- ---- fronts

lasts_front : (xs ys : List Batch) → NoneAfterLast (xs ++ ys) → NoneAfterLast xs
lasts_front [] ys l = tt
lasts_front (x ∷ xs) ys l = ((λ is. all_front (λ later. later.rank ≡ x.rank → ⊥) xs ys (l.0 is)), lasts_front xs ys l.1)

calls_front : (xs ys : List WaveItem) → waves.Orderly (xs ++ ys) → waves.Orderly xs
calls_front xs ys o = record {
  numbered = λ name rank k x e. o.numbered name rank k x (lane_keeps name rank xs ys k x e);
  members = all_front (λ x. Has x.name.members x.place.rank) xs ys o.members;
  named = λ x y p q. o.named x y (has_before xs ys x p) (has_before xs ys y q);
}

rise_of_front : {X : Type 0} (f : X → Place) (xs ys : List X) → Rise (map f (xs ++ ys)) → Rise (map f xs)
rise_of_front f xs ys r = rise_front (map f xs) (map f ys) (subst Rise (map-append f xs ys) r)

-- a front of a lawful list is lawful
pub lawful_front : (range : RankRange) (xs ys : List Batch) → IsLawful range (xs ++ ys) → IsLawful range xs
lawful_front range xs ys l =
    let a = entries_of xs in
    let b = entries_of ys in
    let both : entries_of (xs ++ ys) ≡ a ++ b = flat_append (λ (w : Batch). w.entries) xs ys in
    let message : messages (entries_of (xs ++ ys)) ≡ messages a ++ messages b = ap messages both ∙ flat_append message_of a b in
    let call : calls (entries_of (xs ++ ys)) ≡ calls a ++ calls b = ap calls both ∙ flat_append call_of a b in
    let need : needs (entries_of (xs ++ ys)) ≡ needs a ++ needs b = ap needs both ∙ flat_append need_of a b in
    record {
      each = all_front (IsBatchOf range) xs ys l.each;
      lasts = lasts_front xs ys l.lasts;
      messages = orderly_front (messages a) (messages b) (subst p2p.Orderly message l.messages);
      numbered = calls_front (calls a) (calls b) (subst waves.Orderly call l.numbered);
      calls = rise_of_front (λ (x : WaveItem). x.place) (calls a) (calls b) (subst (λ (w : List WaveItem). Rise (map (λ x. x.place) w)) call l.calls);
      needs = rise_of_front (λ (n : Waits). n.place) (needs a) (needs b) (subst (λ (w : List Waits). Rise (map (λ n. n.place) w)) need l.needs);
    }

pub lawful_none : (range : RankRange) → IsLawful range []
lawful_none range = record {
  each = tt;
  lasts = tt;
  messages = record { placed = tt; rising = tt; named = λ x y h k. absurd h };
  numbered = record { numbered = λ name rank k x e. absurd (let n : None ≡ Some x = e in cc); members = tt; named = λ x y h k. absurd h };
  calls = tt;
  needs = tt;
}

-- ---- the entries of one rank

abbrev rank_of : Entry → ℕ
rank_of (Row finding) = finding.rank
rank_of (Message item) = item.place.rank
rank_of (Wave item) = item.place.rank
rank_of (Need place ways) = place.rank

rank_is : (rank : ℕ) (e : Entry) → IsOf rank e → rank_of e ≡ rank
rank_is rank (Row finding) is = is
rank_is rank (Message item) is = is.0
rank_is rank (Wave item) is = is.0
rank_is rank (Need place ways) is = is

batch_rank : (rank : ℕ) (b : Batch) → AllByRecursion (IsOf b.rank) b.entries → filter (λ e. rank_of e == rank) b.entries ≡ cond (b.rank == rank) b.entries []
batch_rank rank b are = filter_alike (λ e. rank_of e == rank) (b.rank == rank) b.entries (all_weaker (IsOf b.rank) (λ e. rank_of e == rank ≡ (b.rank == rank)) b.entries (λ e is. ap (λ n. n == rank) (rank_is b.rank e is)) are)

entries_by_rank : (range : RankRange) (rank : ℕ) (bs : List Batch) → AllByRecursion (IsBatchOf range) bs → entries_of (of_rank rank bs) ≡ filter (λ e. rank_of e == rank) (entries_of bs)
entries_by_rank range rank bs each = flat_filter (λ (b : Batch). b.entries) (λ b. b.rank == rank) (λ e. rank_of e == rank) bs (all_weaker (IsBatchOf range) (λ b. filter (λ e. rank_of e == rank) b.entries ≡ cond (b.rank == rank) b.entries []) bs (λ b is. batch_rank rank b is.1) each)

either_same : {X : Type 0} (b : Bool) (l : List X) → l ≡ cond b l l
either_same true l = refl
either_same false l = refl

message_rank : (rank : ℕ) (es : List Entry) → AllByRecursion (λ e. filter (λ x. x.place.rank == rank) (message_of e) ≡ cond (rank_of e == rank) (message_of e) []) es
message_rank rank [] = tt
message_rank rank (Row f ∷ es) = (either_same (f.rank == rank) [], message_rank rank es)
message_rank rank (Message x ∷ es) = (refl, message_rank rank es)
message_rank rank (Wave x ∷ es) = (either_same (x.place.rank == rank) [], message_rank rank es)
message_rank rank (Need p ways ∷ es) = (either_same (p.rank == rank) [], message_rank rank es)

call_rank : (rank : ℕ) (es : List Entry) → AllByRecursion (λ e. filter (λ x. x.place.rank == rank) (call_of e) ≡ cond (rank_of e == rank) (call_of e) []) es
call_rank rank [] = tt
call_rank rank (Row f ∷ es) = (either_same (f.rank == rank) [], call_rank rank es)
call_rank rank (Message x ∷ es) = (either_same (x.place.rank == rank) [], call_rank rank es)
call_rank rank (Wave x ∷ es) = (refl, call_rank rank es)
call_rank rank (Need p ways ∷ es) = (either_same (p.rank == rank) [], call_rank rank es)

need_rank : (rank : ℕ) (es : List Entry) → AllByRecursion (λ e. filter (λ n. n.place.rank == rank) (need_of e) ≡ cond (rank_of e == rank) (need_of e) []) es
need_rank rank [] = tt
need_rank rank (Row f ∷ es) = (either_same (f.rank == rank) [], need_rank rank es)
need_rank rank (Message x ∷ es) = (either_same (x.place.rank == rank) [], need_rank rank es)
need_rank rank (Wave x ∷ es) = (either_same (x.place.rank == rank) [], need_rank rank es)
need_rank rank (Need p ways ∷ es) = (refl, need_rank rank es)

module _ (range : RankRange) (rank : ℕ) (bs : List Batch) (each : AllByRecursion (IsBatchOf range) bs) where
  pub messages_by_rank : messages (entries_of (of_rank rank bs)) ≡ filter (λ x. x.place.rank == rank) (messages (entries_of bs))
  messages_by_rank = ap messages (entries_by_rank range rank bs each) ∙ flat_filter message_of (λ e. rank_of e == rank) (λ x. x.place.rank == rank) (entries_of bs) (message_rank rank (entries_of bs))

  pub calls_by_rank : calls (entries_of (of_rank rank bs)) ≡ filter (λ x. x.place.rank == rank) (calls (entries_of bs))
  calls_by_rank = ap calls (entries_by_rank range rank bs each) ∙ flat_filter call_of (λ e. rank_of e == rank) (λ x. x.place.rank == rank) (entries_of bs) (call_rank rank (entries_of bs))

  pub needs_by_rank : needs (entries_of (of_rank rank bs)) ≡ filter (λ n. n.place.rank == rank) (needs (entries_of bs))
  needs_by_rank = ap needs (entries_by_rank range rank bs each) ∙ flat_filter need_of (λ e. rank_of e == rank) (λ n. n.place.rank == rank) (entries_of bs) (need_rank rank (entries_of bs))

-- the places of one rank's calls, and of its needs
call_places : (rank : ℕ) (items : List WaveItem) → map (λ x. x.place) (filter (λ x. x.place.rank == rank) items) ≡ filter (λ q. q.rank == rank) (map (λ x. x.place) items)
call_places rank items = map_filter (λ (x : WaveItem). x.place) (λ q. q.rank == rank) items

need_places : (rank : ℕ) (waits : List Waits) → map (λ n. n.place) (filter (λ n. n.place.rank == rank) waits) ≡ filter (λ q. q.rank == rank) (map (λ n. n.place) waits)
need_places rank waits = map_filter (λ (n : Waits). n.place) (λ q. q.rank == rank) waits

-- ---- from all to each rank

lasts_one : (b : Bool) (x : Batch) (l : List Batch) → (x.last ≡ true → AllByRecursion (λ later. later.rank ≡ x.rank → ⊥) l) → NoneAfterLast l → NoneAfterLast (cond b (x ∷ l) l)
lasts_one true x l a n = (a, n)
lasts_one false x l a n = n

lasts_filter : (p : Batch → Bool) (bs : List Batch) → NoneAfterLast bs → NoneAfterLast (filter p bs)
lasts_filter p [] n = tt
lasts_filter p (b ∷ bs) n = lasts_one (p b) b (filter p bs) (λ is. all_filter (λ later. later.rank ≡ b.rank → ⊥) p bs (n.0 is)) (lasts_filter p bs n.1)

rank_in : (name : Name) (rank : ℕ) (x : WaveItem) → waves.is_of name rank x ≡ true → x.place.rank ≡ rank
rank_in name rank x e = eqb-true x.place.rank rank (and_parts (is_eq (name_cmp name x.name)) (x.place.rank == rank) e).1

calls_filter : (rank : ℕ) (items : List WaveItem) → waves.Orderly items → waves.Orderly (filter (λ x. x.place.rank == rank) items)
calls_filter rank items o = record {
  numbered = λ name r k x e. elim (cases_eq r rank) [
    | inl same ↦ o.numbered name r k x (ap (λ (l : List WaveItem). slice_get l k) (sym (filter_in (λ (y : WaveItem). y.place.rank == rank) (waves.is_of name r) items (λ y hit. eq-eqb y.place.rank rank (rank_in name r y hit ∙ same)))) ∙ e)
    | inr other ↦ absurd (let n : None ≡ Some x = sym (ap (λ (l : List WaveItem). slice_get l k) (filter_out (λ (y : WaveItem). y.place.rank == rank) (waves.is_of name r) items (λ y hit at. other (sym (rank_in name r y hit) ∙ eqb-true y.place.rank rank at)))) ∙ e in cc)
  ];
  members = all_filter (λ x. Has x.name.members x.place.rank) (λ x. x.place.rank == rank) items o.members;
  named = λ x y h k. o.named x y ((has_filter (λ (w : WaveItem). w.place.rank == rank) items x).0 h).0 ((has_filter (λ (w : WaveItem). w.place.rank == rank) items y).0 k).0;
}

-- the batches of one rank are lawful where all are
pub lawful_rank : (range : RankRange) (rank : ℕ) (bs : List Batch) → IsLawful range bs → IsLawful range (of_rank rank bs)
lawful_rank range rank bs l =
    let es = entries_of bs in
    record {
      each = all_filter (IsBatchOf range) (λ b. b.rank == rank) bs l.each;
      lasts = lasts_filter (λ b. b.rank == rank) bs l.lasts;
      messages = subst p2p.Orderly (sym (messages_by_rank range rank bs l.each)) (orderly_filter (λ x. x.place.rank == rank) (messages es) l.messages);
      numbered = subst waves.Orderly (sym (calls_by_rank range rank bs l.each)) (calls_filter rank (calls es) l.numbered);
      calls = subst (λ (w : List WaveItem). Rise (map (λ x. x.place) w)) (sym (calls_by_rank range rank bs l.each)) (subst Rise (sym (call_places rank (calls es))) (rise_filter (λ q. q.rank == rank) (map (λ x. x.place) (calls es)) l.calls));
      needs = subst (λ (w : List Waits). Rise (map (λ n. n.place) w)) (sym (needs_by_rank range rank bs l.each)) (subst Rise (sym (need_places rank (needs es))) (rise_filter (λ q. q.rank == rank) (map (λ n. n.place) (needs es)) l.needs));
    }

-- ---- from each rank to all

lasts_apart : (b : Bool) (x : Batch) (l : List Batch) → NoneAfterLast (cond b (x ∷ l) l) → (b ≡ true → x.last ≡ true → AllByRecursion (λ later. later.rank ≡ x.rank → ⊥) l) × NoneAfterLast l
lasts_apart true x l n = ((λ e. n.0), n.1)
lasts_apart false x l n = ((λ e. absurd (true≢false (sym e))), n)

lasts_gathered : (bs : List Batch) → ((rank : ℕ) → NoneAfterLast (of_rank rank bs)) → NoneAfterLast bs
lasts_gathered [] n = tt
lasts_gathered (b ∷ bs) n = (
  (λ is. all_weaker (λ (later : Batch). later.rank == b.rank ≡ true → later.rank ≡ b.rank → ⊥) (λ later. later.rank ≡ b.rank → ⊥) bs (λ later h e. h (eq-eqb later.rank b.rank e) e)
      (all_where (λ (later : Batch). later.rank ≡ b.rank → ⊥) (λ later. later.rank == b.rank) bs ((lasts_apart (b.rank == b.rank) b (of_rank b.rank bs) (n b.rank)).0 (eq-eqb b.rank b.rank refl) is))),
  lasts_gathered bs (λ rank. (lasts_apart (b.rank == rank) b (of_rank rank bs) (n rank)).1),
)

order_apart : (b : Bool) (x : MsgItem) (l : List MsgItem) → InOrder (cond b (x ∷ l) l) → (b ≡ true → AllByRecursion (λ y. x.place.rank ≡ y.place.rank → spot_cmp x y ≡ Less) l) × InOrder l
order_apart true x l o = ((λ e. o.0), o.1)
order_apart false x l o = ((λ e. absurd (true≢false (sym e))), o)

order_gathered : (xs : List MsgItem) → ((rank : ℕ) → InOrder (filter (λ x. x.place.rank == rank) xs)) → InOrder xs
order_gathered [] o = tt
order_gathered (x ∷ xs) o = (
  all_weaker (λ (y : MsgItem). y.place.rank == x.place.rank ≡ true → x.place.rank ≡ y.place.rank → spot_cmp x y ≡ Less) (λ y. x.place.rank ≡ y.place.rank → spot_cmp x y ≡ Less) xs (λ y h e. h (eq-eqb y.place.rank x.place.rank (sym e)) e)
      (all_where (λ (y : MsgItem). x.place.rank ≡ y.place.rank → spot_cmp x y ≡ Less) (λ y. y.place.rank == x.place.rank) xs
      ((order_apart (x.place.rank == x.place.rank) x (filter (λ y. y.place.rank == x.place.rank) xs) (o x.place.rank)).0 (eq-eqb x.place.rank x.place.rank refl))),
  order_gathered xs (λ rank. (order_apart (x.place.rank == rank) x (filter (λ y. y.place.rank == rank) xs) (o rank)).1),
)

messages_gathered : (xs : List MsgItem) → ((rank : ℕ) → p2p.Orderly (filter (λ x. x.place.rank == rank) xs)) → p2p.Orderly xs
messages_gathered xs o = record {
  placed = all_gathered IsPlaced (λ x. x.place.rank) xs (λ rank. (o rank).placed);
  rising = order_gathered xs (λ rank. (o rank).rising);
  named = λ x y h k same.
      (o x.place.rank).named x y ((has_filter (λ (w : MsgItem). w.place.rank == x.place.rank) xs x).1 (h, eq-eqb x.place.rank x.place.rank refl)) ((has_filter (λ (w : MsgItem). w.place.rank == x.place.rank) xs y).1 (k, eq-eqb y.place.rank x.place.rank (sym same))) same;
}

calls_gathered : (xs : List WaveItem) → ((rank : ℕ) → waves.Orderly (filter (λ x. x.place.rank == rank) xs)) → waves.Orderly xs
calls_gathered xs o = record {
  numbered = λ name rank k x e.
      (o rank).numbered name rank k x (ap (λ (l : List WaveItem). slice_get l k) (filter_in (λ (y : WaveItem). y.place.rank == rank) (waves.is_of name rank) xs (λ y hit. eq-eqb y.place.rank rank (rank_in name rank y hit))) ∙ e);
  members = all_gathered (λ (x : WaveItem). Has x.name.members x.place.rank) (λ x. x.place.rank) xs (λ rank. (o rank).members);
  named = λ x y h k same.
      (o x.place.rank).named x y ((has_filter (λ (w : WaveItem). w.place.rank == x.place.rank) xs x).1 (h, eq-eqb x.place.rank x.place.rank refl)) ((has_filter (λ (w : WaveItem). w.place.rank == x.place.rank) xs y).1 (k, eq-eqb y.place.rank x.place.rank (sym same))) same;
}

-- batches of ranks in the range are lawful where those of each rank are, for whatever range
pub lawful_gathered : (whole : RankRange) (bs : List Batch) → AllByRecursion (IsBatchOf whole) bs → ((rank : ℕ) → (range : RankRange) × IsLawful range (of_rank rank bs)) → IsLawful whole bs
lawful_gathered whole bs each ranks =
    let es = entries_of bs in
    record {
      each = each;
      lasts = lasts_gathered bs (λ rank. (ranks rank).1.lasts);
      messages = messages_gathered (messages es) (λ rank. subst p2p.Orderly (messages_by_rank whole rank bs each) (ranks rank).1.messages);
      numbered = calls_gathered (calls es) (λ rank. subst waves.Orderly (calls_by_rank whole rank bs each) (ranks rank).1.numbered);
      calls = rise_gathered (map (λ x. x.place) (calls es)) (λ rank. subst Rise (call_places rank (calls es)) (subst (λ (w : List WaveItem). Rise (map (λ x. x.place) w)) (calls_by_rank whole rank bs each) (ranks rank).1.calls));
      needs = rise_gathered (map (λ n. n.place) (needs es)) (λ rank. subst Rise (need_places rank (needs es)) (subst (λ (w : List Waits). Rise (map (λ n. n.place) w)) (needs_by_rank whole rank bs each) (ranks rank).1.needs));
    }
