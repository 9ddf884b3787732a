-- The batches of a rank may be given to a root node behind those of lower ranks.
use Rattle.std.proofs.Common.{◌≡◌, ℕ, ◌+◌, ◌<◌, ◌≤◌, Bool, true, false, ◌==◌, List, [], ◌∷◌, ◌++◌, map, Some, refl, sym, ap, subst, ◌∙◌, inl, inr, arith, Less}
use Rattle.std.specs.Prelude.{◌&&◌, nat_lt, slice_get}
use Rattle.std.specs.List.{AllByRecursion, flat_map}
use Rattle.std.proofs.lemmas.Bool.{ne_eqb, lt-ltb, le-leb, cases_eq}
use Rattle.std.proofs.lemmas.List.{append-nil, map-append}
use Rattle.std.proofs.lemmas.List.Concat.{flat_map-append}
use Rattle.std.proofs.lemmas.List.Elements.{filter-append}
use Rattle.std.specs.Ordering.{is_eq}
use Rattle.must_base.specs.Listing.{Has}
use Rattle.must_base.specs.ListingLaws.{all_has}
use Rattle.must_call.specs.declared.place.Place.{Place}
use Rattle.must_call.specs.declared.call.Call.{Call}
use Rattle.must_find.specs.declared.finding.Finding.{Finding}
use Rattle.must_group.specs.Names.{Name, name_cmp}
use Rattle.must_p2p.specs.declared.item.MsgItem.{MsgItem}
use Rattle.must_p2p.specs.Items as p2p
use Rattle.must_coll.specs.declared.item.WaveItem.{WaveItem}
use Rattle.must_coll.specs.Waves.{is_of, lane, Orderly}
use Rattle.must_entry.specs.declared.entry.Entry.{Entry}
use Rattle.must_entry.specs.declared.entry.Entry.TheVariants.{Row, Message, Wave, Need}
use Rattle.must_entry.specs.declared.range.RankRange.{RankRange}
use Rattle.must_entry.specs.declared.batch.Batch.{Batch}
use Rattle.must_entry.specs.Entries.{Waits, row_of, rows_of, message_of, messages, call_of, calls, need_of, needs, entries_of}
use Rattle.must_entry.specs.Lawful.{in_range, IsOf, IsBatchOf, NoneAfterLast, Rise, IsLawful}
use Rattle.must_node.specs.ListLaws.{all_join, all_front, all_weaker, none_pass}
use Rattle.must_rules.specs.Rank.{Rank}
use Rattle.must_rules.specs.Numbered.{AreNumbered}
use Rattle.must_items.specs.CollectiveLists.{AreItemsOf}
use Rattle.must_items.specs.OrderLaws.{AreOrdered, items_ordered}
use Rattle.must_run.specs.ItemPlaces.{items_rise}
use Rattle.must_local.specs.DistinctLaws.{has_append, has_front, has_behind}
use Rattle.must_local.specs.Walks.{rank_by, WalkState, Walks, GivesAll, IsMiddle, all_rows, collectives, message_items, call_needs}
use Rattle.must_messages.specs.ItemOrderLaws.{IsMessageAt, messages_at_rank}
use Rattle.must_messages.specs.ItemNameLaws.{messages_orderly}
use Rattle.must_messages.specs.GivenLaws.{given_orderly, given_at_rank, needs_at_rank}
use Rattle.must_messages.specs.NeedLaws.{needs_rise}
use Rattle.must_tree.specs.Ranks.{all_ranks, AreLower}

all_back : {X : Type 0} (P : X → Type 0) (xs ys : List X) → AllByRecursion P (xs ++ ys) → AllByRecursion P ys
all_back P [] ys all = all
all_back P (x ∷ xs) ys all = all_back P xs ys all.1

clash : {P : Type 0} (b : Bool) → b ≡ true → b ≡ false → P
clash b t f = absurd (let no : true ≡ false = sym t ∙ f in cc)

-- ---- entries of batches

pub batch_rows : (bs : List Batch) → rows_of (entries_of bs) ≡ all_rows bs
batch_rows [] = refl
batch_rows (b ∷ bs) = flat_map-append row_of b.entries (entries_of bs) ∙ ap (λ (l : List Finding). rows_of b.entries ++ l) (batch_rows bs)

pub batch_calls : (bs : List Batch) → calls (entries_of bs) ≡ collectives bs
batch_calls [] = refl
batch_calls (b ∷ bs) = flat_map-append call_of b.entries (entries_of bs) ∙ ap (λ (l : List WaveItem). calls b.entries ++ l) (batch_calls bs)

pub batch_messages : (bs : List Batch) → messages (entries_of bs) ≡ message_items bs
batch_messages [] = refl
batch_messages (b ∷ bs) = flat_map-append message_of b.entries (entries_of bs) ∙ ap (λ (l : List MsgItem). messages b.entries ++ l) (batch_messages bs)

pub batch_needs : (bs : List Batch) → needs (entries_of bs) ≡ call_needs bs
batch_needs [] = refl
batch_needs (b ∷ bs) = flat_map-append need_of b.entries (entries_of bs) ∙ ap (λ (l : List Waits). needs b.entries ++ l) (batch_needs bs)

-- ---- batches of one rank

-- the call of a need is one of this rank
abbrev IsNeedAt : ℕ → Waits → Type 0
IsNeedAt rank w = w.place.rank ≡ rank

abbrev need_places : List Waits → List Place
need_places ws = map (λ w. w.place) ws

-- what is given beside rows and calls of waves
pub record AreFor (r : Rank) (given : List Batch) : Type 0 where
  pub messages : p2p.Orderly (message_items given)
  pub messages_at : AllByRecursion (IsMessageAt r.rank) (message_items given)
  pub needs : Rise (need_places (call_needs given))
  pub needs_at : AllByRecursion (IsNeedAt r.rank) (call_needs given)

pub record IsOneRank (r : Rank) (given : List Batch) : Type 0 where
  pub of_rank : AllByRecursion (λ (b : Batch). (b.rank ≡ r.rank) × AllByRecursion (IsOf r.rank) b.entries) given
  pub lasts : NoneAfterLast given
  pub ordered : AreOrdered r (collectives given)
  pub rise : Rise (map {B = Place} (λ (x : WaveItem). x.place) (collectives given))
  pub beside : AreFor r given

-- what stands in some entries or batches is of a rank
record AreAt (rank : ℕ) (fs : List Finding) (ms : List MsgItem) (xs : List WaveItem) (ws : List Waits) : Type 0 where
  rows : (f : Finding) → Has fs f → f.rank ≡ rank
  items : AllByRecursion (IsMessageAt rank) ms
  waves : (x : WaveItem) → Has xs x → (x.place.rank ≡ rank) × Has x.name.members rank
  needs : AllByRecursion (IsNeedAt rank) ws

of_entries : (rank : ℕ) (es : List Entry) → AreAt rank (rows_of es) (messages es) (calls es) (needs es) → AllByRecursion (IsOf rank) es
of_entries rank [] at = tt
of_entries rank (Row f ∷ es) at = (at.rows f (inl refl), of_entries rank es (record { rows = λ g h. at.rows g (inr h); items = at.items; waves = at.waves; needs = at.needs }))
of_entries rank (Message x ∷ es) at = (at.items.0, of_entries rank es (record { rows = at.rows; items = at.items.1; waves = at.waves; needs = at.needs }))
of_entries rank (Wave x ∷ es) at = (at.waves x (inl refl), of_entries rank es (record { rows = at.rows; items = at.items; waves = λ y h. at.waves y (inr h); needs = at.needs }))
of_entries rank (Need place ways ∷ es) at = (at.needs.0, of_entries rank es (record { rows = at.rows; items = at.items; waves = at.waves; needs = at.needs.1 }))

of_batches : (rank : ℕ) (bs : List Batch) → AreAt rank (all_rows bs) (message_items bs) (collectives bs) (call_needs bs)
    → AllByRecursion (λ (b : Batch). b.rank ≡ rank) bs → AllByRecursion (λ (b : Batch). (b.rank ≡ rank) × AllByRecursion (IsOf rank) b.entries) bs
of_batches rank [] at ranks = tt
of_batches rank (b ∷ bs) at ranks = (
  (
    ranks.0,
    of_entries rank b.entries (record {
      rows = λ f h. at.rows f (has_front (rows_of b.entries) (all_rows bs) f h);
      items = all_front (IsMessageAt rank) (messages b.entries) (message_items bs) at.items;
      waves = λ x h. at.waves x (has_front (calls b.entries) (collectives bs) x h);
      needs = all_front (IsNeedAt rank) (needs b.entries) (call_needs bs) at.needs;
    }),
  ),
  of_batches rank bs (record {
    rows = λ f h. at.rows f (has_behind (rows_of b.entries) (all_rows bs) f h);
    items = all_back (IsMessageAt rank) (messages b.entries) (message_items bs) at.items;
    waves = λ x h. at.waves x (has_behind (calls b.entries) (collectives bs) x h);
    needs = all_back (IsNeedAt rank) (needs b.entries) (call_needs bs) at.needs;
  }) ranks.1,
)

one_rank : (r : Rank) (cs : List Call) (given : List Batch) → ((f : Finding) → Has (all_rows given) f → f.rank ≡ r.rank) → AreItemsOf r cs (collectives given) → AreNumbered 64 cs → AreFor r given
    → AllByRecursion (λ (b : Batch). b.rank ≡ r.rank) given → NoneAfterLast given → IsOneRank r given
one_rank r cs given rows waves numbered beside ranks lasts =
    let ordered = items_ordered r cs (collectives given) numbered waves in
    record {
      of_rank = of_batches r.rank given (record {
        rows = rows;
        items = beside.messages_at;
        waves = λ x h. all_has (λ (y : WaveItem). (y.place.rank ≡ r.rank) × Has y.name.members r.rank) (collectives given) x ordered.of_rank h;
        needs = beside.needs_at;
      }) ranks;
      lasts = lasts;
      ordered = ordered;
      rise = items_rise r cs (collectives given) waves;
      beside = beside;
    }

middle_ranks : (rank : ℕ) (bs : List Batch) → AllByRecursion (IsMiddle rank) bs → AllByRecursion (λ (b : Batch). b.rank ≡ rank) bs
middle_ranks rank [] all = tt
middle_ranks rank (b ∷ bs) all = (all.0.rank_is, middle_ranks rank bs all.1)

middle_lasts : (rank : ℕ) (bs : List Batch) → AllByRecursion (IsMiddle rank) bs → NoneAfterLast bs
middle_lasts rank [] all = tt
middle_lasts rank (b ∷ bs) all = ((λ is. clash b.last is all.0.goes_on), middle_lasts rank bs all.1)

all_lasts : (rank : ℕ) (bs : List Batch) (last : Batch) → AllByRecursion (IsMiddle rank) bs → NoneAfterLast (bs ++ last ∷ [])
all_lasts rank [] last all = ((λ is. tt), tt)
all_lasts rank (b ∷ bs) last all = ((λ is. clash b.last is all.0.goes_on), all_lasts rank bs last all.1)

walked_beside : (version : ℕ) (w : WalkState) (cs : List Call) (given : List Batch) → Walks version w cs given → AreFor (rank_by version w.rank) given
walked_beside version w cs given walks =
    let r = rank_by version w.rank in
    record {
      messages = given_orderly r cs (message_items given) walks.knows.numbered walks.messages;
      messages_at = given_at_rank r cs (message_items given) walks.messages;
      needs = subst (λ (ws : List Waits). Rise (need_places ws)) (sym walks.needs) tt;
      needs_at = subst (AllByRecursion (IsNeedAt r.rank)) (sym walks.needs) tt;
    }

all_beside : (r : Rank) (cs : List Call) (given : List Batch) → AreNumbered 64 cs → GivesAll r cs given → AreFor r given
all_beside r cs given numbered gives = record {
  messages = messages_orderly r cs (message_items given) numbered gives.messages;
  messages_at = messages_at_rank r cs (message_items given) gives.messages;
  needs = subst (λ (ws : List Waits). Rise (need_places ws)) (sym gives.needs) (needs_rise r cs);
  needs_at = subst (AllByRecursion (IsNeedAt r.rank)) (sym gives.needs) (needs_at_rank r cs);
}

pub walked_rank : (version : ℕ) (w : WalkState) (cs : List Call) (given : List Batch) → Walks version w cs given → IsOneRank (rank_by version w.rank) given
walked_rank version w cs given walks =
    let r = rank_by version w.rank in
    one_rank r cs given (λ f h. ((walks.rows f).0 h).rank_is) walks.waves walks.knows.numbered (walked_beside version w cs given walks) (middle_ranks r.rank given walks.middle) (middle_lasts r.rank given walks.middle)

pub given_rank : (r : Rank) (cs : List Call) (given : List Batch) → AreNumbered 64 cs → GivesAll r cs given → IsOneRank r given
given_rank r cs given numbered gives =
    one_rank r cs given (λ f h. ((gives.rows f).0 h).rank_is) gives.waves numbered (all_beside r cs given numbered gives)
    (subst (λ (bs : List Batch). AllByRecursion (λ (b : Batch). b.rank ≡ r.rank) bs) (sym gives.batches_are)
    (all_join (λ (b : Batch). b.rank ≡ r.rank) gives.middle (gives.last ∷ []) (middle_ranks r.rank gives.middle gives.go_on) (gives.rank_is, tt)))
    (subst NoneAfterLast (sym gives.batches_are) (all_lasts r.rank gives.middle gives.last gives.go_on))

-- ---- items behind those of lower ranks

lane_join : (name : Name) (rank : ℕ) (xs ys : List WaveItem) → lane name rank (xs ++ ys) ≡ lane name rank xs ++ lane name rank ys
lane_join name rank xs ys = filter-append (is_of name rank) xs ys

not_of : (b : Bool) (m n : ℕ) → (m ≡ n → ⊥) → b && m == n ≡ false
not_of true m n apart = ne_eqb m n apart
not_of false m n apart = refl

abbrev IsOfRank : Rank → WaveItem → Type 0
IsOfRank r x = (x.place.rank ≡ r.rank) × Has x.name.members r.rank

orderly_join : (r : Rank) (xs ys : List WaveItem) → Orderly xs → AllByRecursion (λ (x : WaveItem). x.place.rank < r.rank) xs → AreOrdered r ys → Orderly (xs ++ ys)
orderly_join r xs ys old lower new = record {
  numbered = λ name m k x at. elim (cases_eq m r.rank) [
    | inl e ↦
        (let none : lane name m xs ≡ [] = none_pass (is_of name m) xs (all_weaker (λ (y : WaveItem). y.place.rank < r.rank) (λ (y : WaveItem). is_of name m y ≡ false) xs
        (λ y less. not_of (is_eq (name_cmp name y.name)) y.place.rank m (λ same. omega (arith, same, less, e))) lower) in
        let own : lane name m (xs ++ ys) ≡ lane name r.rank ys = lane_join name m xs ys ∙ ap (λ (l : List WaveItem). l ++ lane name m ys) none ∙ ap (λ n. lane name n ys) e in
        new.numbered name k x (ap (λ (l : List WaveItem). slice_get l k) (sym own) ∙ at))
    | inr apart ↦
        (let none : lane name m ys ≡ [] = none_pass (is_of name m) ys (all_weaker (IsOfRank r) (λ (y : WaveItem). is_of name m y ≡ false) ys
        (λ y is. not_of (is_eq (name_cmp name y.name)) y.place.rank m (λ same. apart (sym same ∙ is.0))) new.of_rank) in
        let own : lane name m (xs ++ ys) ≡ lane name m xs = lane_join name m xs ys ∙ ap (λ (l : List WaveItem). lane name m xs ++ l) none ∙ append-nil (lane name m xs) in
        old.numbered name m k x (ap (λ (l : List WaveItem). slice_get l k) (sym own) ∙ at))
  ];
  members = all_join (λ (x : WaveItem). Has x.name.members x.place.rank) xs ys old.members
      (all_weaker (IsOfRank r) (λ (x : WaveItem). Has x.name.members x.place.rank) ys (λ x is. subst (λ (n : ℕ). Has x.name.members n) (sym is.0) is.1) new.of_rank);
  named = λ x y hx hy same comm. elim (has_append xs ys x hx) [
    | inl ax ↦ elim (has_append xs ys y hy) [
      | inl ay ↦ old.named x y ax ay same comm
      | inr by ↦ absurd (let less = all_has (λ (z : WaveItem). z.place.rank < r.rank) xs x lower ax in let is = (all_has (IsOfRank r) ys y new.of_rank by).0 in omega (arith, less, is, same))
    ]
    | inr bx ↦ elim (has_append xs ys y hy) [
      | inl ay ↦ absurd (let less = all_has (λ (z : WaveItem). z.place.rank < r.rank) xs y lower ay in let is = (all_has (IsOfRank r) ys x new.of_rank bx).0 in omega (arith, less, is, same))
      | inr by ↦ new.named x y bx by comm
    ]
  ];
}

rise_join : (rank : ℕ) (ps qs : List Place) → Rise ps → AllByRecursion (λ (p : Place). p.rank < rank) ps → AllByRecursion (λ (q : Place). q.rank ≡ rank) qs → Rise qs → Rise (ps ++ qs)
rise_join rank [] qs old lower of_rank new = new
rise_join rank (p ∷ ps) qs old lower of_rank new = (
  all_join (λ (q : Place). p.rank ≡ q.rank → p.call < q.call) ps qs old.0
      (all_weaker (λ (q : Place). q.rank ≡ rank) (λ (q : Place). p.rank ≡ q.rank → p.call < q.call) qs (λ q is same. absurd (let less = lower.0 in omega (arith, is, same, less))) of_rank),
  rise_join rank ps qs old.1 lower.1 of_rank new,
)

all_places : (P : Place → Type 0) (xs : List WaveItem) → AllByRecursion (λ (x : WaveItem). P x.place) xs → AllByRecursion P (map {B = Place} (λ (x : WaveItem). x.place) xs)
all_places P [] all = tt
all_places P (x ∷ xs) all = (all.0, all_places P xs all.1)

-- messages of a rank behind those of lower ranks
order_join : (rank : ℕ) (xs ys : List MsgItem) → p2p.InOrder xs → AllByRecursion (λ (x : MsgItem). x.place.rank < rank) xs → AllByRecursion (IsMessageAt rank) ys → p2p.InOrder ys → p2p.InOrder (xs ++ ys)
order_join rank [] ys old lower at new = new
order_join rank (x ∷ xs) ys old lower at new = (
  all_join (λ (y : MsgItem). x.place.rank ≡ y.place.rank → p2p.spot_cmp x y ≡ Less) xs ys old.0
      (all_weaker (IsMessageAt rank) (λ (y : MsgItem). x.place.rank ≡ y.place.rank → p2p.spot_cmp x y ≡ Less) ys (λ y is same. absurd (let less = lower.0 in let here = is.0 in omega (arith, here, same, less))) at),
  order_join rank xs ys old.1 lower.1 at new,
)

messages_join : (rank : ℕ) (xs ys : List MsgItem) → p2p.Orderly xs → AllByRecursion (λ (x : MsgItem). x.place.rank < rank) xs → AllByRecursion (IsMessageAt rank) ys → p2p.Orderly ys → p2p.Orderly (xs ++ ys)
messages_join rank xs ys old lower at new = record {
  placed = all_join p2p.IsPlaced xs ys old.placed new.placed;
  rising = order_join rank xs ys old.rising lower at new.rising;
  named = λ x y hx hy same comm. elim (has_append xs ys x hx) [
    | inl ax ↦ elim (has_append xs ys y hy) [
      | inl ay ↦ old.named x y ax ay same comm
      | inr by ↦ absurd (let less = all_has (λ (z : MsgItem). z.place.rank < rank) xs x lower ax in let is = (all_has (IsMessageAt rank) ys y at by).0 in omega (arith, less, is, same))
    ]
    | inr bx ↦ elim (has_append xs ys y hy) [
      | inl ay ↦ absurd (let less = all_has (λ (z : MsgItem). z.place.rank < rank) xs y lower ay in let is = (all_has (IsMessageAt rank) ys x at bx).0 in omega (arith, less, is, same))
      | inr by ↦ new.named x y bx by same comm
    ]
  ];
}

all_need_places : (P : Place → Type 0) (ws : List Waits) → AllByRecursion (λ (w : Waits). P w.place) ws → AllByRecursion P (need_places ws)
all_need_places P [] all = tt
all_need_places P (w ∷ ws) all = (all.0, all_need_places P ws all.1)

-- ---- batches of lower ranks

-- what stands in these entries is of lower ranks
record AreLowerIn (rank : ℕ) (ms : List MsgItem) (xs : List WaveItem) (ws : List Waits) : Type 0 where
  items : AllByRecursion (λ (x : MsgItem). x.place.rank < rank) ms
  waves : AllByRecursion (λ (x : WaveItem). x.place.rank < rank) xs
  needs : AllByRecursion (λ (w : Waits). w.place.rank < rank) ws

lower_entries : (n rank : ℕ) (es : List Entry) → n < rank → AllByRecursion (IsOf n) es → AreLowerIn rank (messages es) (calls es) (needs es)
lower_entries n rank [] less all = record { items = tt; waves = tt; needs = tt }
lower_entries n rank (Row f ∷ es) less all = lower_entries n rank es less all.1
lower_entries n rank (Message x ∷ es) less all = let more = lower_entries n rank es less all.1 in record { items = ((let is = all.0.0 in omega (arith, is, less)), more.items); waves = more.waves; needs = more.needs }
lower_entries n rank (Wave x ∷ es) less all = let more = lower_entries n rank es less all.1 in record { items = more.items; waves = ((let is = all.0.0 in omega (arith, is, less)), more.waves); needs = more.needs }
lower_entries n rank (Need place ways ∷ es) less all = let more = lower_entries n rank es less all.1 in record { items = more.items; waves = more.waves; needs = ((let is = all.0 in omega (arith, is, less)), more.needs) }

lower_batches : (range : RankRange) (rank : ℕ) (bs : List Batch) → AllByRecursion (IsBatchOf range) bs → AllByRecursion (λ (b : Batch). b.rank < rank) bs → AreLowerIn rank (message_items bs) (collectives bs) (call_needs bs)
lower_batches range rank [] each lower = record { items = tt; waves = tt; needs = tt }
lower_batches range rank (b ∷ bs) each lower =
    let one = lower_entries b.rank rank b.entries lower.0 each.0.1 in
    let more = lower_batches range rank bs each.1 lower.1 in
    record {
      items = all_join (λ (x : MsgItem). x.place.rank < rank) (messages b.entries) (message_items bs) one.items more.items;
      waves = all_join (λ (x : WaveItem). x.place.rank < rank) (calls b.entries) (collectives bs) one.waves more.waves;
      needs = all_join (λ (w : Waits). w.place.rank < rank) (needs b.entries) (call_needs bs) one.needs more.needs;
    }

lasts_join : (rank : ℕ) (before given : List Batch) → NoneAfterLast before → AllByRecursion (λ (b : Batch). b.rank < rank) before → AllByRecursion (λ (b : Batch). b.rank ≡ rank) given → NoneAfterLast given → NoneAfterLast (before ++ given)
lasts_join rank [] given old lower ranks new = new
lasts_join rank (b ∷ before) given old lower ranks new = (
  (λ is. all_join (λ (later : Batch). later.rank ≡ b.rank → ⊥) before given (old.0 is)
      (all_weaker (λ (later : Batch). later.rank ≡ rank) (λ (later : Batch). later.rank ≡ b.rank → ⊥) given (λ later at same. (let less = lower.0 in omega (arith, at, same, less))) ranks)),
  lasts_join rank before given old.1 lower.1 ranks new,
)

within_all : (size rank : ℕ) → rank < size → in_range (all_ranks size) rank ≡ true
within_all size rank less = ap (λ b. b && nat_lt rank size) (le-leb 0 rank (omega arith)) ∙ lt-ltb rank size less

-- ---- all

pub lawful_behind : (size : ℕ) (r : Rank) (before given : List Batch) → r.rank < size → AreLower size r.rank before → IsOneRank r given → IsLawful (all_ranks size) (before ++ given)
lawful_behind size r before given less old new =
    let ranks = all_weaker (λ (b : Batch). (b.rank ≡ r.rank) × AllByRecursion (IsOf r.rank) b.entries) (λ (b : Batch). b.rank ≡ r.rank) given (λ b is. is.0) new.of_rank in
    let sent : messages (entries_of (before ++ given)) ≡ message_items before ++ message_items given = batch_messages (before ++ given) ∙ flat_map-append (λ (b : Batch). messages b.entries) before given in
    let items : calls (entries_of (before ++ given)) ≡ collectives before ++ collectives given = batch_calls (before ++ given) ∙ flat_map-append (λ (b : Batch). calls b.entries) before given in
    let wants : needs (entries_of (before ++ given)) ≡ call_needs before ++ call_needs given = batch_needs (before ++ given) ∙ flat_map-append (λ (b : Batch). needs b.entries) before given in
    let lower = lower_batches (all_ranks size) r.rank before old.lawful.each old.lower in
    record {
      each = all_join (IsBatchOf (all_ranks size)) before given old.lawful.each
          (all_weaker (λ (b : Batch). (b.rank ≡ r.rank) × AllByRecursion (IsOf r.rank) b.entries) (IsBatchOf (all_ranks size)) given
          (λ b is. (ap (in_range (all_ranks size)) is.0 ∙ within_all size r.rank less, subst (λ (n : ℕ). AllByRecursion (IsOf n) b.entries) (sym is.0) is.1)) new.of_rank);
      lasts = lasts_join r.rank before given old.lawful.lasts old.lower ranks new.lasts;
      messages = subst p2p.Orderly (sym sent)
          (messages_join r.rank (message_items before) (message_items given) (subst p2p.Orderly (batch_messages before) old.lawful.messages) lower.items new.beside.messages_at new.beside.messages);
      numbered = subst Orderly (sym items) (orderly_join r (collectives before) (collectives given) (subst Orderly (batch_calls before) old.lawful.numbered) lower.waves new.ordered);
      calls = subst (λ (l : List WaveItem). Rise (map {B = Place} (λ (x : WaveItem). x.place) l)) (sym items)
          (subst Rise (sym (map-append (λ (x : WaveItem). x.place) (collectives before) (collectives given)))
          (rise_join r.rank (map (λ (x : WaveItem). x.place) (collectives before)) (map (λ (x : WaveItem). x.place) (collectives given))
          (subst (λ (l : List WaveItem). Rise (map {B = Place} (λ (x : WaveItem). x.place) l)) (batch_calls before) old.lawful.calls)
          (all_places (λ (p : Place). p.rank < r.rank) (collectives before) lower.waves)
          (all_places (λ (p : Place). p.rank ≡ r.rank) (collectives given) (all_weaker (IsOfRank r) (λ (x : WaveItem). x.place.rank ≡ r.rank) (collectives given) (λ x is. is.0) new.ordered.of_rank))
          new.rise));
      needs = subst (λ (l : List Waits). Rise (need_places l)) (sym wants)
          (subst Rise (sym (map-append (λ (w : Waits). w.place) (call_needs before) (call_needs given)))
          (rise_join r.rank (need_places (call_needs before)) (need_places (call_needs given))
          (subst (λ (l : List Waits). Rise (need_places l)) (batch_needs before) old.lawful.needs)
          (all_need_places (λ (p : Place). p.rank < r.rank) (call_needs before) lower.needs)
          (all_need_places (λ (p : Place). p.rank ≡ r.rank) (call_needs given) new.beside.needs_at)
          new.beside.needs));
    }

-- before the first rank
pub none_lower : (size : ℕ) → AreLower size 0 []
none_lower size = record {
  lawful = record {
    each = tt;
    lasts = tt;
    messages = record { placed = tt; rising = tt; named = λ x y hx hy same comm. absurd hx };
    numbered = record { numbered = λ name rank k x at. absurd (nothing_at k x at); members = tt; named = λ x y hx hy same comm. absurd hx };
    calls = tt;
    needs = tt;
  };
  lower = tt;
}
  where
    nothing_at : (k : ℕ) (x : WaveItem) → slice_get [] k ≡ Some x → ⊥
    nothing_at k x at = cc

-- a rank more
pub lower_more : (size : ℕ) (r : Rank) (before given : List Batch) → r.rank < size → AreLower size r.rank before → IsOneRank r given → AreLower size (r.rank + 1) (before ++ given)
lower_more size r before given less old new = record {
  lawful = lawful_behind size r before given less old new;
  lower = all_join (λ (b : Batch). b.rank < r.rank + 1) before given
      (all_weaker (λ (b : Batch). b.rank < r.rank) (λ (b : Batch). b.rank < r.rank + 1) before (λ b h. omega (arith, h)) old.lower)
      (all_weaker (λ (b : Batch). (b.rank ≡ r.rank) × AllByRecursion (IsOf r.rank) b.entries) (λ (b : Batch). b.rank < r.rank + 1) given (λ b is. (let e = is.0 in omega (arith, e))) new.of_rank);
}
