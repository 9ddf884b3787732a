-- What waits when the channels close has no match.
use Rattle.std.proofs.Common.{◌≡◌, ℕ, zero, suc, ◌≤◌, ◌<◌, Bool, true, false, List, [], ◌∷◌, ◌++◌, map, length, drop, Option, Some, None, refl, sym, ap, subst, ◌∙◌, inl, inr, arith, nat_lt, ltb-true, ltb-false}
use Rattle.std.specs.Prelude.{◌⊎◌, ◌↔◌, slice_get}
use Rattle.std.specs.Cmp.{IsTotalOrder}
use Rattle.std.specs.BTreeMap as tree
use Rattle.std.specs.BTreeMap.{BTreeMap, is_at}
use Rattle.std.proofs.lemmas.Bool.{cases_lt}
use Rattle.std.proofs.lemmas.Cmp.{nat_cmp_total, int_cmp_total, on_total, then_total}
use Rattle.std.proofs.lemmas.List.{append-nil, length-map}
use Rattle.std.proofs.lemmas.Option.{slice_get_past}
use Rattle.std.proofs.lemmas.Map.Entries.{btree_map_get_place, place_from_lookup}
use Rattle.must_base.specs.Listing.{Has}
use Rattle.must_find.specs.declared.finding.Finding.{Finding}
use Rattle.must_group.specs.Names.{Name}
use Rattle.must_p2p.specs.declared.side.Side.{Side}
use Rattle.must_p2p.specs.declared.side.Side.TheVariants.{Send, Receive, Probe}
use Rattle.must_p2p.specs.declared.item.MsgItem.{MsgItem}
use Rattle.must_p2p.specs.declared.waiting.Waiting.{Waiting}
use Rattle.must_p2p.specs.declared.queue.Queue.{Queue}
use Rattle.must_p2p.specs.declared.key.Key.{Key}
use Rattle.must_p2p.specs.declared.channels.Channels.{Channels}
use Rattle.must_p2p.specs.Items.{Class, class_of, lane, number, Orderly}
use Rattle.must_p2p.specs.MessageRules.{lone, lone_finding}
use Rattle.must_p2p.specs.Matching.{IsLone, IsLoneRow}
use Rattle.must_p2p.specs.Queues.{waiting, left, side_left, IsQueue, IsLeft, StandsAt}
use Rattle.must_p2p.specs.Standing.{number_of, key_cmp, key_of, queue_by, queue_of, kept, StandsFor, IsLeftAt, IsLeftIn}
use Rattle.must_p2p.specs.LaneLaws.{none_is, some_is}
use Rattle.must_p2p.specs.MatchLaws.{numbered, stands_at, pair_matches, send_place, receive_place}

-- ---- what is left of both sides

drop_past : (n : ℕ) (xs : List Waiting) → length xs ≤ n → drop n xs ≡ []
drop_past zero [] h = refl
drop_past zero (x ∷ xs) h = absurd (omega (arith, h))
drop_past (suc n) [] h = refl
drop_past (suc n) (x ∷ xs) h = drop_past n xs (omega (arith, h))

abbrev IsLeftOf : List Waiting → List Waiting → Finding → Type 0
IsLeftOf s r f = IsLeft Send (drop (length r) s) f ⊎ IsLeft Receive (drop (length s) r) f

receives_left : (s r : List Waiting) (f : Finding) → drop (length r) s ≡ [] → IsLeft Receive (left s r) f ↔ IsLeftOf s r f
receives_left s r f e = (
  λ h. inr (subst (λ (l : List Waiting). IsLeft Receive (l ++ drop (length s) r) f) e h),
  λ h. elim h [
    | inl none ↦ absurd (subst (λ (l : List Waiting). IsLeft Send l f) e none)
    | inr there ↦ subst (λ (l : List Waiting). IsLeft Receive (l ++ drop (length s) r) f) (sym e) there
  ],
)

sends_left : (s r : List Waiting) (f : Finding) → drop (length s) r ≡ [] → IsLeft Send (left s r) f ↔ IsLeftOf s r f
sends_left s r f e =
    let all : left s r ≡ drop (length r) s = ap (λ (l : List Waiting). drop (length r) s ++ l) e ∙ append-nil (drop (length r) s) in (
      λ h. inl (subst (λ (l : List Waiting). IsLeft Send l f) all h),
      λ h. elim h [
        | inl there ↦ subst (λ (l : List Waiting). IsLeft Send l f) (sym all) there
        | inr none ↦ absurd (subst (λ (l : List Waiting). IsLeft Receive l f) e none)
      ],
    )

left_by : (s r : List Waiting) (f : Finding) (b : Bool) → nat_lt (length s) (length r) ≡ b → IsLeft (side_left b) (left s r) f ↔ IsLeftOf s r f
left_by s r f true e = let less = ltb-true (length s) (length r) e in receives_left s r f (drop_past (length r) s (omega (arith, less)))
left_by s r f false e = sends_left s r f (drop_past (length s) r (ltb-false (length s) (length r) e))

left_at_is : (s r : List Waiting) (q : Queue) (f : Finding) → IsQueue s r q → IsLeft (side_left (nat_lt (length s) (length r))) (left s r) f ≡ IsLeftAt q f
left_at_is s r q f is =
    ap (λ n. IsLeft (side_left (nat_lt n (length r))) (left s r) f) (sym is.sent) ∙ ap (λ n. IsLeft (side_left (nat_lt q.sent n)) (left s r) f) (sym is.received)
    ∙ ap (λ l. IsLeft (side_left (nat_lt q.sent q.received)) l f) (sym is.waits)

queue_gives : (s r : List Waiting) (q : Queue) (f : Finding) → IsQueue s r q → IsLeftAt q f ↔ IsLeftOf s r f
queue_gives s r q f is = subst (λ (T : Type 0). T ↔ IsLeftOf s r f) (left_at_is s r q f is) (left_by s r f (nat_lt (length s) (length r)) refl)

-- ---- a finding that one of the items gives, from a place on

record IsLeftFrom (side : Side) (n : ℕ) (xs : List MsgItem) (f : Finding) : Type 0 where
  pub place : ℕ
  pub far : n ≤ place
  pub item : MsgItem
  pub is : slice_get xs place ≡ Some item
  pub gives : lone side item.place item.part ≡ Some f

left_one : (side : Side) (xs : List MsgItem) (f : Finding) → IsLeft side (map waiting xs) f → IsLeftFrom side 0 xs f
left_one side [] f h = absurd h
left_one side (x ∷ xs) f (inl e) = record { place = 0; far = omega arith; item = x; is = refl; gives = e }
left_one side (x ∷ xs) f (inr h) = let r = left_one side xs f h in record { place = suc r.place; far = omega arith; item = r.item; is = r.is; gives = r.gives }

left_from : (side : Side) (n : ℕ) (xs : List MsgItem) (f : Finding) → IsLeft side (drop n (map waiting xs)) f → IsLeftFrom side n xs f
left_from side zero xs f h = left_one side xs f h
left_from side (suc n) [] f h = absurd h
left_from side (suc n) (x ∷ xs) f h = let r = left_from side n xs f h in record { place = suc r.place; far = omega (arith, r.far); item = r.item; is = r.is; gives = r.gives }

left_at : (side : Side) (xs : List MsgItem) (k : ℕ) (x : MsgItem) (f : Finding) → slice_get xs k ≡ Some x → lone side x.place x.part ≡ Some f → IsLeft side (map waiting xs) f
left_at side [] k x f e g = absurd (none_is x e)
left_at side (y ∷ ys) zero x f e g = inl (let s : y ≡ x = some_is y x e in ap (λ (w : MsgItem). lone side w.place w.part) s ∙ g)
left_at side (y ∷ ys) (suc k) x f e g = inr (left_at side ys k x f e g)

left_back : (side : Side) (n : ℕ) (xs : List MsgItem) (k : ℕ) (x : MsgItem) (f : Finding) → n ≤ k → slice_get xs k ≡ Some x → lone side x.place x.part ≡ Some f → IsLeft side (drop n (map waiting xs)) f
left_back side zero xs k x f h e g = left_at side xs k x f e g
left_back side (suc n) [] k x f h e g = absurd (none_is x e)
left_back side (suc n) (y ∷ ys) zero x f h e g = absurd (omega (arith, h))
left_back side (suc n) (y ∷ ys) (suc k) x f h e g = left_back side n ys k x f (omega (arith, h)) e g

past : (xs : List MsgItem) (n : ℕ) (y : MsgItem) → length xs ≤ n → slice_get xs n ≡ Some y → ⊥
past xs n y far e = none_is y (sym (slice_get_past xs n far) ∙ e)

within : (xs : List MsgItem) (n : ℕ) → n < length xs → (y : MsgItem) × (slice_get xs n ≡ Some y)
within [] n h = absurd (omega (arith, h))
within (x ∷ xs) zero h = (x, refl)
within (x ∷ xs) (suc n) h = within xs n (omega (arith, h))

sides_differ : (x : MsgItem) → x.side ≡ Send → x.side ≡ Receive → ⊥
sides_differ x p q = let n : Send ≡ Receive = sym p ∙ q in cc

gives_alone : (x : MsgItem) (side : Side) (f : Finding) → x.side ≡ side → lone side x.place x.part ≡ Some f → lone_finding x ≡ Some f
gives_alone x side f e g = ap (λ t. lone t x.place x.part) e ∙ g

alone_gives : (x : MsgItem) (side : Side) (f : Finding) → x.side ≡ side → lone_finding x ≡ Some f → lone side x.place x.part ≡ Some f
alone_gives x side f e g = sym (ap (λ t. lone t x.place x.part) e) ∙ g

-- ---- what waits gives only rows of items without a match

send_left : (h : List MsgItem) (c : Class) (f : Finding) → Orderly h → IsLeftFrom Send (length (lane c Receive h)) (lane c Send h) f → IsLoneRow h f
send_left h c f o l =
    let a = numbered c Send h l.place l.item o refl l.is in
    let lone : IsLone h l.item = λ s r m one. elim one [
      | inl e ↦
          let there : slice_get (lane c Receive h) l.place ≡ Some r =
          ap (λ (k : Class). slice_get (lane k Receive h) l.place) (a.class_is ∙ ap class_of e) ∙ ap (λ n. slice_get (lane (class_of s) Receive h) n) (sym a.number_is ∙ ap (λ (y : MsgItem). number h y) e) ∙ receive_place h s r o m in
          past (lane c Receive h) l.place r l.far there
      | inr e ↦ sides_differ l.item a.side_is (ap (λ (y : MsgItem). y.side) e ∙ m.receives)
    ] in
    record { item = l.item; there = a.there; is_lone = lone; gives = gives_alone l.item Send f a.side_is l.gives }

receive_left : (h : List MsgItem) (c : Class) (f : Finding) → Orderly h → IsLeftFrom Receive (length (lane c Send h)) (lane c Receive h) f → IsLoneRow h f
receive_left h c f o l =
    let a = numbered c Receive h l.place l.item o refl l.is in
    let lone : IsLone h l.item = λ s r m one. elim one [
      | inl e ↦ sides_differ l.item (ap (λ (y : MsgItem). y.side) e ∙ m.sends) a.side_is
      | inr e ↦
          let there : slice_get (lane c Send h) l.place ≡ Some s =
          ap (λ (k : Class). slice_get (lane k Send h) l.place) (a.class_is ∙ ap class_of e ∙ sym m.one_class)
          ∙ ap (λ n. slice_get (lane (class_of s) Send h) n) (sym a.number_is ∙ ap (λ (y : MsgItem). number h y) e ∙ sym m.one_number) ∙ send_place h s r o m in
          past (lane c Send h) l.place s l.far there
    ] in
    record { item = l.item; there = a.there; is_lone = lone; gives = gives_alone l.item Receive f a.side_is l.gives }

kept_left : (h : List MsgItem) (c : Class) (f : Finding) → Orderly h → IsLeftOf (kept c Send h) (kept c Receive h) f → IsLoneRow h f
kept_left h c f o (inl l) =
    send_left h c f o (left_from Send (length (lane c Receive h)) (lane c Send h) f (subst (λ n. IsLeft Send (drop n (kept c Send h)) f) (length-map (lane c Receive h) waiting) l))
kept_left h c f o (inr l) =
    receive_left h c f o (left_from Receive (length (lane c Send h)) (lane c Receive h) f (subst (λ n. IsLeft Receive (drop n (kept c Receive h)) f) (length-map (lane c Send h) waiting) l))

-- ---- and all of them

lone_sent : (h : List MsgItem) (x : MsgItem) (f : Finding) → Orderly h → Has h x → IsLone h x → lone_finding x ≡ Some f → x.side ≡ Send → IsLeft Send (drop (length (lane (class_of x) Receive h)) (kept (class_of x) Send h)) f
lone_sent h x f o there lone g side =
    let c = class_of x in
    let at = stands_at Send h x o there side refl c refl in
    elim (cases_lt (number h x) (length (lane c Receive h))) [
      | inl less ↦ let r = within (lane c Receive h) (number h x) less in absurd (lone x r.0 (pair_matches c h (number h x) x r.0 o at r.1) (inl refl))
      | inr far ↦ left_back Send (length (lane c Receive h)) (lane c Send h) (number h x) x f far at (alone_gives x Send f side g)
    ]

lone_received : (h : List MsgItem) (x : MsgItem) (f : Finding) → Orderly h → Has h x → IsLone h x → lone_finding x ≡ Some f → x.side ≡ Receive → IsLeft Receive (drop (length (lane (class_of x) Send h)) (kept (class_of x) Receive h)) f
lone_received h x f o there lone g side =
    let c = class_of x in
    let at = stands_at Receive h x o there side refl c refl in
    elim (cases_lt (number h x) (length (lane c Send h))) [
      | inl less ↦ let s = within (lane c Send h) (number h x) less in absurd (lone s.0 x (pair_matches c h (number h x) s.0 x o s.1 at) (inr refl))
      | inr far ↦ left_back Receive (length (lane c Send h)) (lane c Receive h) (number h x) x f far at (alone_gives x Receive f side g)
    ]

probe_gives : (x : MsgItem) (f : Finding) → x.side ≡ Probe → lone_finding x ≡ Some f → ⊥
probe_gives x f e g = let n : None ≡ Some f = alone_gives x Probe f e g in cc

lone_kept : (h : List MsgItem) (x : MsgItem) (f : Finding) (t : Side) → x.side ≡ t → Orderly h → Has h x → IsLone h x → lone_finding x ≡ Some f → IsLeftOf (kept (class_of x) Send h) (kept (class_of x) Receive h) f
lone_kept h x f Send e o there alone g =
    inl (subst (λ n. IsLeft Send (drop n (kept (class_of x) Send h)) f) (sym (length-map (lane (class_of x) Receive h) waiting)) (lone_sent h x f o there alone g e))
lone_kept h x f Receive e o there alone g =
    inr (subst (λ n. IsLeft Receive (drop n (kept (class_of x) Receive h)) f) (sym (length-map (lane (class_of x) Send h) waiting)) (lone_received h x f o there alone g e))
lone_kept h x f Probe e o there alone g = absurd (probe_gives x f e g)

-- ---- queues and entries

-- a queue that gives a finding
record IsLeftQueue (o : Option Queue) (f : Finding) : Type 0 where
  pub queue : Queue
  pub is : o ≡ Some queue
  pub left : IsLeftAt queue f

none_left : (s r : List Waiting) (f : Finding) → s ≡ [] → r ≡ [] → IsLeftOf s r f → ⊥
none_left s r f p q l = elim (subst (λ (w : List Waiting). IsLeftOf [] w f) q (subst (λ (w : List Waiting). IsLeftOf w r f) p l)) [ inl h ↦ h | inr h ↦ h ]

queue_left : (o : Option Queue) (s r : List Waiting) (f : Finding) → StandsAt o s r → IsLeftOf s r f → IsLeftQueue o f
queue_left None s r f st l = absurd (none_left s r f st.0 st.1 l)
queue_left (Some q) s r f st l = record { queue = q; is = refl; left = (queue_gives s r q f st).1 l }

-- the queue of a class stands at a key
record IsAtKey (queues : BTreeMap Key Queue) (q : Queue) : Type 0 where
  pub key : Key
  pub is : tree.get key_cmp queues key ≡ Some q

at_key : (queues : BTreeMap Key Queue) (c : Class) (o : Option ℕ) (q : Queue) → queue_by queues c o ≡ Some q → IsAtKey queues q
at_key queues c None q e = absurd (let n : None ≡ Some q = e in cc)
at_key queues c (Some i) q e = record { key = key_of c i; is = e }

entry_is : (a b : Key × Queue) → Some a ≡ Some b → a ≡ b
entry_is a b e = cc

left_in : (es : List (Key × Queue)) (i : ℕ) (k : Key) (q : Queue) (f : Finding) → slice_get es i ≡ Some (k, q) → IsLeftAt q f → IsLeftIn es f
left_in [] i k q f e l = absurd (let n : None ≡ Some (k, q) = e in cc)
left_in (e ∷ es) zero k q f is l =
    let s : e ≡ (k, q) = entry_is e (k, q) is in
    inl (subst (λ (w : Key × Queue). IsLeftAt w.1 f) (sym s) l)
left_in (e ∷ es) (suc i) k q f is l = inr (left_in es i k q f is l)

-- an entry that gives a finding
record IsEntryOf (es : List (Key × Queue)) (f : Finding) : Type 0 where
  pub place : ℕ
  pub key : Key
  pub queue : Queue
  pub is : slice_get es place ≡ Some (key, queue)
  pub left : IsLeftAt queue f

entry_of : (es : List (Key × Queue)) (f : Finding) → IsLeftIn es f → IsEntryOf es f
entry_of [] f l = absurd l
entry_of (e ∷ es) f (inl l) = record { place = 0; key = e.0; queue = e.1; is = refl; left = l }
entry_of (e ∷ es) f (inr l) = let r = entry_of es f l in record { place = suc r.place; key = r.key; queue = r.queue; is = r.is; left = r.left }

key_total : IsTotalOrder key_cmp
key_total =
    then_total (on_total (λ (k : Key). k.source) nat_cmp_total)
    (then_total (on_total (λ (k : Key). k.dest) nat_cmp_total) (then_total (on_total (λ (k : Key). k.tag) int_cmp_total) (on_total (λ (k : Key). k.name) nat_cmp_total)))

class_at : Key → Name → Class
class_at k name = record { source = k.source; dest = k.dest; tag = k.tag; name = name }

stands_there : (channels : Channels) (h : List MsgItem) (k : Key) (q : Queue) → StandsFor channels h → tree.get key_cmp channels.queues k ≡ Some q → (c : Class) × IsQueue (kept c Send h) (kept c Receive h) q
unfolding class_at
stands_there channels h k q st is =
    let n = st.owned k q is in
    let c = class_at k n.name in
    (c, subst (λ (w : Option Queue). StandsAt w (kept c Send h) (kept c Receive h)) (ap (queue_by channels.queues c) n.is ∙ is) (st.keeps c))

-- what waits in all queues gives the rows of the items without a match
pub left_is_lone : (channels : Channels) (h : List MsgItem) (f : Finding) → StandsFor channels h → Orderly h → tree.IsOrdered key_cmp channels.queues → IsLeftIn channels.queues.entries f ↔ IsLoneRow h f
left_is_lone channels h f st o ordered = (
  λ l.
      let e = entry_of channels.queues.entries f l in
      let there = stands_there channels h e.key e.queue st (btree_map_get_place key_total channels.queues e.place e.key e.queue ordered e.is) in
      kept_left h there.0 f o ((queue_gives (kept there.0 Send h) (kept there.0 Receive h) e.queue f there.1).0 e.left),
  λ row.
      let x = row.item in
      let c = class_of x in
      let a = queue_left (queue_of channels.names channels.queues c) (kept c Send h) (kept c Receive h) f (st.keeps c) (lone_kept h x f x.side refl o row.there row.is_lone row.gives) in
      let k = at_key channels.queues c (number_of channels.names c.name) a.queue a.is in
      let p = place_from_lookup (is_at (key_cmp k.key)) channels.queues.entries a.queue k.is in
      left_in channels.queues.entries p.0 p.1 a.queue f p.2 a.left,
)
