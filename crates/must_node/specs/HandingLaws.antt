-- What a node hands up of lawful batches is lawful, and has exactly the entries that aren't inner.
use Rattle.std.proofs.Common.{◌≡◌, ℕ, Bool, true, false, cond, not, ◌&&◌, List, [], ◌∷◌, ◌++◌, map, refl, sym, ap, subst, ◌∙◌}
use Rattle.std.specs.Prelude.{filter, if◌then◌else◌, ◌<◌}
use Rattle.std.specs.List.{AllByRecursion}
use Rattle.std.proofs.lemmas.List.{append-nil}
use Rattle.std.proofs.lemmas.List.Elements.{filter-append}
use Rattle.must_call.specs.declared.place.Place.{Place}
use Rattle.must_p2p.specs.Items as p2p
use Rattle.must_p2p.specs.SetLaws.{all_filter}
use Rattle.must_coll.specs.declared.item.WaveItem.{WaveItem}
use Rattle.must_coll.specs.Waves as waves
use Rattle.must_entry.specs.declared.entry.Entry.{Entry}
use Rattle.must_entry.specs.declared.entry.Entry.TheVariants.{Row, Message, Wave, Need}
use Rattle.must_entry.specs.declared.range.RankRange.{RankRange}
use Rattle.must_entry.specs.declared.batch.Batch.{Batch}
use Rattle.must_entry.specs.Entries.{Waits, messages, calls, need_of, needs, entries_of}
use Rattle.must_entry.specs.Lawful.{IsOf, IsBatchOf, NoneAfterLast, Rise, IsLawful}
use Rattle.must_node.specs.Inner.{is_inner, outer}
use Rattle.must_node.specs.Nodes.{is_empty, up, all_up}
use Rattle.must_node.specs.ListLaws.{flat_append, all_join}
use Rattle.must_node.specs.OrderLaws.{messages_keep, calls_cut, calls_outer}

up_by : (rank : ℕ) (l : List Entry) (last : Bool) → entries_of (if not last && is_empty l then [] else record { rank = rank; entries = l; last = last } ∷ []) ≡ l
up_by rank [] true = refl
up_by rank [] false = refl
up_by rank (e ∷ es) true = append-nil (e ∷ es)
up_by rank (e ∷ es) false = append-nil (e ∷ es)

pub handed_entries : (range : RankRange) (batches : List Batch) → entries_of (all_up false range batches) ≡ outer false range (entries_of batches)
handed_entries range [] = refl
handed_entries range (b ∷ bs) =
    flat_append (λ (w : Batch). w.entries) (up false range b) (all_up false range bs)
    ∙ ap (λ (l : List Entry). l ++ entries_of (all_up false range bs)) (up_by b.rank (outer false range b.entries) b.last)
    ∙ ap (λ (l : List Entry). outer false range b.entries ++ l) (handed_entries range bs)
    ∙ sym (filter-append (λ e. not (is_inner false range e)) b.entries (entries_of bs))

one_up : (P : Batch → Type 0) (rank : ℕ) (l : List Entry) (last out : Bool) → P (record { rank = rank; entries = l; last = last }) → AllByRecursion P (if out then [] else record { rank = rank; entries = l; last = last } ∷ [])
one_up P rank l last true a = tt
one_up P rank l last false a = (a, tt)

all_handed : (P : Batch → Type 0) (range : RankRange) (batches : List Batch) → AllByRecursion (λ b. P (record { rank = b.rank; entries = outer false range b.entries; last = b.last })) batches → AllByRecursion P (all_up false range batches)
all_handed P range [] a = tt
all_handed P range (b ∷ bs) a =
    all_join P (up false range b) (all_up false range bs) (one_up P b.rank (outer false range b.entries) b.last (not b.last && is_empty (outer false range b.entries)) a.0) (all_handed P range bs a.1)

each_handed : (range : RankRange) (batches : List Batch) → AllByRecursion (IsBatchOf range) batches → AllByRecursion (λ b. IsBatchOf range (record { rank = b.rank; entries = outer false range b.entries; last = b.last })) batches
each_handed range [] a = tt
each_handed range (b ∷ bs) a = ((a.0.0, all_filter (IsOf b.rank) (λ e. not (is_inner false range e)) b.entries a.0.1), each_handed range bs a.1)

last_by : (rank : ℕ) (l : List Entry) (last out : Bool) (bs : List Batch) → (last ≡ true → AllByRecursion (λ later. later.rank ≡ rank → ⊥) bs) → NoneAfterLast bs
    → NoneAfterLast ((if out then [] else record { rank = rank; entries = l; last = last } ∷ []) ++ bs)
last_by rank l last true bs none rest = rest
last_by rank l last false bs none rest = (none, rest)

lasts_handed : (range : RankRange) (batches : List Batch) → NoneAfterLast batches → NoneAfterLast (all_up false range batches)
lasts_handed range [] a = tt
lasts_handed range (b ∷ bs) a =
    last_by b.rank (outer false range b.entries) b.last (not b.last && is_empty (outer false range b.entries)) (all_up false range bs)
    (λ is. all_handed (λ later. later.rank ≡ b.rank → ⊥) range bs (a.0 is)) (lasts_handed range bs a.1)

-- ---- calls in order

one_place : {X : Type 0} (f : X → Place) (P : Place → Type 0) (b : Bool) (x : X) (l : List X) → P (f x) → AllByRecursion P (map f l) → AllByRecursion P (map f (cond b (x ∷ l) l))
one_place f P true x l a rest = (a, rest)
one_place f P false x l a rest = rest

all_places : {X : Type 0} (f : X → Place) (P : Place → Type 0) (p : X → Bool) (xs : List X) → AllByRecursion P (map f xs) → AllByRecursion P (map f (filter p xs))
all_places f P p [] a = tt
all_places f P p (x ∷ xs) a = one_place f P (p x) x (filter p xs) a.0 (all_places f P p xs a.1)

one_rise : {X : Type 0} (f : X → Place) (b : Bool) (x : X) (l : List X) → AllByRecursion (λ (q : Place). (f x).rank ≡ q.rank → (f x).call < q.call) (map f l) → Rise (map f l) → Rise (map f (cond b (x ∷ l) l))
one_rise f true x l a rest = (a, rest)
one_rise f false x l a rest = rest

rise_kept : {X : Type 0} (f : X → Place) (p : X → Bool) (xs : List X) → Rise (map f xs) → Rise (map f (filter p xs))
rise_kept f p [] a = tt
rise_kept f p (x ∷ xs) a = one_rise f (p x) x (filter p xs) (all_places f (λ (q : Place). (f x).rank ≡ q.rank → (f x).call < q.call) p xs a.0) (rise_kept f p xs a.1)

skip_need : (b : Bool) (e : Entry) (l : List Entry) → need_of e ≡ [] → needs (cond b (e ∷ l) l) ≡ needs l
skip_need true e l none = ap (λ (m : List Waits). m ++ needs l) none
skip_need false e l none = refl

take_need : (b : Bool) (w : Waits) (l : List Entry) → needs (cond b (Need w.place w.ways ∷ l) l) ≡ cond b (w ∷ needs l) (needs l)
take_need true w l = refl
take_need false w l = refl

-- the needs of what passes
pub needs_cut : (p : Entry → Bool) (entries : List Entry) → needs (filter p entries) ≡ filter (λ n. p (Need n.place n.ways)) (needs entries)
needs_cut p [] = refl
needs_cut p (Row f ∷ es) = skip_need (p (Row f)) (Row f) (filter p es) refl ∙ needs_cut p es
needs_cut p (Message x ∷ es) = skip_need (p (Message x)) (Message x) (filter p es) refl ∙ needs_cut p es
needs_cut p (Wave x ∷ es) = skip_need (p (Wave x)) (Wave x) (filter p es) refl ∙ needs_cut p es
needs_cut p (Need q ways ∷ es) =
    take_need (p (Need q ways)) (record { place = q; ways = ways }) (filter p es) ∙ ap (λ (m : List Waits). cond (p (Need q ways)) (record { place = q; ways = ways } ∷ m) m) (needs_cut p es)

pub handed_lawful : (range : RankRange) (batches : List Batch) → IsLawful range batches → IsLawful range (all_up false range batches)
handed_lawful range batches l =
    let e = sym (handed_entries range batches) in
    let n = λ (w : Entry). not (is_inner false range w) in
    let all = entries_of batches in
    record {
      each = all_handed (IsBatchOf range) range batches (each_handed range batches l.each);
      lasts = lasts_handed range batches l.lasts;
      messages = subst (λ (w : List Entry). p2p.Orderly (messages w)) e (messages_keep n all l.messages);
      numbered = subst (λ (w : List Entry). waves.Orderly (calls w)) e (calls_outer false range all l.numbered);
      calls = subst (λ (w : List Entry). Rise (map (λ x. x.place) (calls w))) e (subst (λ (w : List WaveItem). Rise (map (λ x. x.place) w)) (sym (calls_cut n all)) (rise_kept (λ (x : WaveItem). x.place) (λ x. n (Wave x)) (calls all) l.calls));
      needs = subst (λ (w : List Entry). Rise (map (λ x. x.place) (needs w))) e (subst (λ (w : List Waits). Rise (map (λ x. x.place) w)) (sym (needs_cut n all)) (rise_kept (λ (x : Waits). x.place) (λ x. n (Need x.place x.ways)) (needs all) l.needs));
    }
