-- What a rank gives to waves comes in the order that waves want: the calls on a communicator have the numbers 0, 1, 2 and so on,
-- the rank is a member, and a handle number names one communicator.
use Rattle.std.proofs.Common.{◌≡◌, ℕ, zero, suc, ◌+◌, ◌<◌, ◌==◌, Bool, true, false, cond, ◌&&◌, List, [], ◌∷◌, ◌++◌, length, get_or, Option, Some, None, refl, sym, ap, subst, ◌∙◌, inl, inr, arith, eqb-true, eq-eqb, nat_eq, append_assoc, length-append}
use Rattle.std.specs.Prelude.{◌⊎◌, reverse, slice_get, position, is_some}
use Rattle.std.specs.Option.{option_map}
use Rattle.std.specs.Ordering.{is_eq}
use Rattle.std.specs.List.{AllByRecursion}
use Rattle.std.proofs.lemmas.Bool.{ne_eqb}
use Rattle.std.proofs.lemmas.List.{append-nil, reverse-append}
use Rattle.std.proofs.lemmas.List.Quantifiers.{position-Some}
use Rattle.must_base.specs.Listing.{Has}
use Rattle.must_call.specs.declared.class.Class.TheVariants.{Comm}
use Rattle.must_call.specs.declared.life.Life.{Life}
use Rattle.must_call.specs.declared.life.Life.TheVariants.{Never}
use Rattle.must_call.specs.declared.call.Call.{Call}
use Rattle.must_group.specs.Names.{Name, name_cmp}
use Rattle.must_group.specs.NameOrder.{name_same}
use Rattle.must_coll.specs.declared.item.WaveItem.{WaveItem}
use Rattle.must_coll.specs.Waves.{is_of, lane}
use Rattle.must_coll.specs.WaveLaws.{eq_itself, equal_from, lane_push, lane_of_other}
use Rattle.must_rules.specs.Rank.{Rank}
use Rattle.must_rules.specs.Making.{makes}
use Rattle.must_rules.specs.Lives.{life}
use Rattle.must_rules.specs.Significant.{comm_by, comm_of}
use Rattle.must_rules.specs.Communicators.{is_there, there, is_collective, is_number, is_collective_on, comm_named, collectives, derived_of, derived_name, name_of, usable_name, placed, members_named}
use Rattle.must_rules.specs.Known.{facts_of}
use Rattle.must_rules.specs.KnownLaws.{collectives_more, collectives_never, name_more}
use Rattle.must_rules.specs.Numbered.{AreNumbered}
use Rattle.must_items.specs.CollectiveLists.{IsItemOf, stands_in_wave, OneWhere, AreItemsBehind, AreItemsOf}
use Rattle.must_items.specs.NameLaws.{MadeOnce, made_once, names_apart, unnamed, unmade}

-- ---- positions

get_has : (xs : List ℕ) (i d : ℕ) → i < length xs → Has xs (get_or xs i d)
get_has [] i d h = absurd (omega (arith, h))
get_has (x ∷ xs) zero d h = inl refl
get_has (x ∷ xs) (suc i) d h = inr (get_has xs i d (omega (arith, h)))

position_has : (r : ℕ) (xs : List ℕ) (i : ℕ) → position (λ m. nat_eq m r) xs ≡ Some i → Has xs r
position_has r xs i e =
    let p = position-Some (λ m. nat_eq m r) xs i 0 e in
    subst (Has xs) (eqb-true (get_or xs i 0) r p.1) (get_has xs i 0 p.0)

some_position : (r : ℕ) (xs : List ℕ) → is_some (position (λ m. nat_eq m r) xs) ≡ true → Has xs r
some_position r xs e = at (position (λ m. nat_eq m r) xs) refl e
  where
    at : (o : Option ℕ) → position (λ m. nat_eq m r) xs ≡ o → is_some o ≡ true → Has xs r
    at None s f = absurd (let no : false ≡ true = f in cc)
    at (Some i) s f = position_has r xs i s

-- ---- plain values

no_some : {X P : Type 0} (x : X) → None ≡ Some x → P
no_some x e = absurd (let no : None ≡ Some x = e in cc)

one_of : {X : Type 0} (x y : X) → Some x ≡ Some y → x ≡ y
one_of x y e = cc

both : (a b : Bool) → (a && b) ≡ true → (a ≡ true) × (b ≡ true)
both true true e = (refl, refl)
both true false e = let no : false ≡ true = e in absurd cc
both false b e = let no : false ≡ true = e in absurd cc

clash : {P : Type 0} (b : Bool) → b ≡ false → b ≡ true → P
clash b e f = let no : false ≡ true = sym e ∙ f in absurd cc

decide : {P : Type 0} (b : Bool) → (b ≡ true → P) → (b ≡ false → P) → P
decide true t f = t refl
decide false t f = f refl

not_all : (a b c : Bool) → (a ≡ true → b ≡ true → c ≡ true → ⊥) → ((a && b) && c) ≡ false
not_all true true true apart = absurd (apart refl refl refl)
not_all true true false apart = refl
not_all true false c apart = refl
not_all false b c apart = refl

there_of : {X : Type 0} (l : Life) (o : Option X) (x : X) → there l o ≡ Some x → (is_there l ≡ true) × (o ≡ Some x)
there_of l o x e = decide (is_there l) (λ t. (t, ap (λ b. cond b o None) (sym t) ∙ e)) (λ f. no_some x (ap (λ b. cond b o None) (sym f) ∙ e))

number_is : (h : ℕ) (o : Option ℕ) → is_number h o ≡ true → o ≡ Some h
number_is h None e = absurd (let no : false ≡ true = e in cc)
number_is h (Some m) e = ap Some (eqb-true m h e)

some_map : {X Y : Type 0} (f : X → Y) (o : Option X) → is_some (option_map f o) ≡ is_some o
some_map f (Some x) = refl
some_map f None = refl

-- ---- a rank's communicators

-- the rank is a member
abbrev IsIn : ℕ → Name → Type 0
IsIn rank n = is_some (position (λ m. nat_eq m rank) n.members) ≡ true

members_known : (r : Rank) (calls : List Call) (h : ℕ) (n : Name) → usable_name r calls h ≡ Some n → is_some (comm_by (facts_of r calls) (Some h)) ≡ is_some (position (λ m. nat_eq m r.rank) n.members)
members_known r calls h n e = ap (λ (o : Option Name). is_some (members_named r.rank o)) e ∙ some_map (placed n) (position (λ m. nat_eq m r.rank) n.members)

-- what is known of the item of a call
record IsKnown (r : Rank) (calls : List Call) (call : Call) (x : WaveItem) : Type 0 where
  collective : is_collective call.body ≡ true
  comm : comm_named call.body ≡ Some x.comm
  there : is_there (life calls Comm x.comm) ≡ true
  named : name_of r calls x.comm ≡ Some x.name
  member : IsIn r.rank x.name
  number : x.number ≡ collectives calls x.comm
  rank : x.place.rank ≡ r.rank

known : (r : Rank) (calls : List Call) (call : Call) (x : WaveItem) → stands_in_wave (facts_of r calls) call.body ≡ true → IsItemOf r calls call x → IsKnown r calls call x
known r calls call x e is =
    let s = both (is_collective call.body) (is_some (comm_of (facts_of r calls) call.body)) e in
    let u = there_of (life calls Comm x.comm) (name_of r calls x.comm) x.name is.name_is in
    record {
      collective = s.0;
      comm = is.comm_is;
      there = u.0;
      named = u.1;
      member = sym (members_known r calls x.comm x.name is.name_is) ∙ ap (λ (o : Option ℕ). is_some (comm_by (facts_of r calls) o)) (sym is.comm_is) ∙ s.1;
      number = is.number_is;
      rank = ap (λ p. p.rank) is.place_is;
    }

-- a call that stands in no wave isn't counted on a communicator that is named and has the rank
uncounted : (r : Rank) (calls : List Call) (call : Call) (h : ℕ) (n : Name) → stands_in_wave (facts_of r calls) call.body ≡ false → name_of r calls h ≡ Some n → IsIn r.rank n
    → (is_collective_on h call && is_there (life calls Comm h)) ≡ false
uncounted r calls call h n e named member = not_all (is_collective call.body) (is_number h (comm_named call.body)) (is_there (life calls Comm h)) (λ a b c.
    (let usable : usable_name r calls h ≡ Some n = ap (λ t. cond t (name_of r calls h) None) c ∙ named in
    let there : is_some (comm_of (facts_of r calls) call.body) ≡ true = ap (λ (o : Option ℕ). is_some (comm_by (facts_of r calls) o)) (number_is h (comm_named call.body) b) ∙ members_known r calls h n usable ∙ member in
    clash (stands_in_wave (facts_of r calls) call.body) e (ap (λ t. t && is_some (comm_of (facts_of r calls) call.body)) a ∙ there)))

-- ---- what holds after some calls

abbrev IsNamed : Rank → List Call → WaveItem → Type 0
IsNamed r calls x = (name_of r calls x.comm ≡ Some x.name) × ((x.place.rank ≡ r.rank) × Has x.name.members r.rank)

record Holds (r : Rank) (calls : List Call) (items : List WaveItem) : Type 0 where
  count : (h : ℕ) (n : Name) → name_of r calls h ≡ Some n → IsIn r.rank n → length (lane n r.rank items) ≡ collectives calls h
  numbered : (n : Name) (k : ℕ) (x : WaveItem) → slice_get (lane n r.rank items) k ≡ Some x → x.number ≡ k
  named : AllByRecursion (IsNamed r calls) items

kept : (r : Rank) (calls : List Call) (call : Call) (g : ℕ) (m : Name) → MadeOnce (call ∷ reverse calls) → name_of r calls g ≡ Some m → name_of r (calls ++ call ∷ []) g ≡ Some m
kept r calls call g m once e = decide (makes Comm g call)
    (λ t. no_some m (sym (unnamed r calls call g once t) ∙ e))
    (λ f. name_more r calls call g ∙ ap (λ b. cond b (derived_name (usable_name r calls) (collectives calls) (derived_of call.body)) (name_of r calls g)) f ∙ e)

all_kept : (r : Rank) (calls : List Call) (call : Call) (items : List WaveItem) → MadeOnce (call ∷ reverse calls) → AllByRecursion (IsNamed r calls) items → AllByRecursion (IsNamed r (calls ++ call ∷ [])) items
all_kept r calls call [] once all = tt
all_kept r calls call (x ∷ items) once all = ((kept r calls call x.comm x.name once all.0.0, all.0.1), all_kept r calls call items once all.1)

all_push : {X : Type 0} (P : X → Type 0) (xs : List X) (x : X) → AllByRecursion P xs → P x → AllByRecursion P (xs ++ x ∷ [])
all_push P [] x all p = (p, tt)
all_push P (y ∷ ys) x all p = (all.0, all_push P ys x all.1 p)

-- another name
other_name : (r : Rank) (n : Name) (x : WaveItem) → (n ≡ x.name → ⊥) → is_of n r.rank x ≡ false
other_name r n x apart = decide (is_eq (name_cmp n x.name)) (λ t. absurd (apart (name_same n x.name (equal_from (name_cmp n x.name) t)))) (λ f. ap (λ b. b && x.place.rank == r.rank) f)

lane_none : (r : Rank) (n : Name) (items : List WaveItem) → AllByRecursion (λ x. n ≡ x.name → ⊥) items → lane n r.rank items ≡ []
lane_none r n [] all = refl
lane_none r n (x ∷ items) all = ap (λ b. cond b (x ∷ lane n r.rank items) (lane n r.rank items)) (other_name r n x all.0) ∙ lane_none r n items all.1

-- a name that no handle had before is that of no item
all_apart : (r : Rank) (calls : List Call) (call : Call) (h : ℕ) (n : Name) (items : List WaveItem) → MadeOnce (call ∷ reverse calls) → makes Comm h call ≡ true → name_of r (calls ++ call ∷ []) h ≡ Some n
    → AllByRecursion (IsNamed r calls) items → AllByRecursion (λ x. n ≡ x.name → ⊥) items
all_apart r calls call h n [] once made named all = tt
all_apart r calls call h n (x ∷ items) once made named all = (
  (λ e.
      let once_all : MadeOnce (reverse (calls ++ call ∷ [])) = subst MadeOnce (sym (reverse-append calls (call ∷ []))) once in
      let same : h ≡ x.comm = names_apart r (calls ++ call ∷ []) once_all h x.comm n x.name named (kept r calls call x.comm x.name once all.0.0) (ap (λ (m : Name). m.root) e) (ap (λ (m : Name). m.path) e) in
      no_some x.name (sym (unnamed r calls call h once made) ∙ ap (name_of r calls) same ∙ all.0.0)),
  all_apart r calls call h n items once made named all.1,
)

-- a communicator that a call makes has no calls yet
uncounted_new : (calls : List Call) (call : Call) (h : ℕ) → MadeOnce (call ∷ reverse calls) → makes Comm h call ≡ true → collectives (calls ++ call ∷ []) h ≡ 0
uncounted_new calls call h once made =
    let never = unmade calls call h once made in
    collectives_more calls call h
    ∙ ap (λ b. cond b (suc (collectives calls h)) (collectives calls h)) (not_there (is_collective_on h call) (life calls Comm h) never)
    ∙ collectives_never calls h never
  where
    not_there : (b : Bool) (l : Life) → l ≡ Never → (b && is_there l) ≡ false
    not_there true l e = ap is_there e
    not_there false l e = refl

-- the last of a list, or one before it
last_or_before : (xs : List WaveItem) (x : WaveItem) (k : ℕ) (y : WaveItem) → slice_get (xs ++ x ∷ []) k ≡ Some y → (slice_get xs k ≡ Some y) ⊎ ((k ≡ length xs) × (y ≡ x))
last_or_before [] x zero y e = inr (refl, sym (one_of x y e))
last_or_before [] x (suc k) y e = no_some y e
last_or_before (z ∷ xs) x zero y e = inl e
last_or_before (z ∷ xs) x (suc k) y e = elim (last_or_before xs x k y e) [ inl there ↦ inl there | inr here ↦ inr (ap suc here.0, here.1) ]

-- ---- one call more

module _ (r : Rank) (calls : List Call) (call : Call) (before : List WaveItem) (once : MadeOnce (call ∷ reverse calls)) (holds : Holds r calls before) where
  old_name : (h : ℕ) (n : Name) → makes Comm h call ≡ false → name_of r (calls ++ call ∷ []) h ≡ Some n → name_of r calls h ≡ Some n
  old_name h n f e = sym (name_more r calls call h ∙ ap (λ b. cond b (derived_name (usable_name r calls) (collectives calls) (derived_of call.body)) (name_of r calls h)) f) ∙ e

  -- no item
  passes : stands_in_wave (facts_of r calls) call.body ≡ false → Holds r (calls ++ call ∷ []) before
  passes e = record {
    count = λ h n named member. decide (makes Comm h call)
        (λ t. ap length (lane_none r n before (all_apart r calls call h n before once t named holds.named)) ∙ sym (uncounted_new calls call h once t))
        (λ f. (let old = old_name h n f named in
        holds.count h n old member ∙ sym (collectives_more calls call h ∙ ap (λ b. cond b (suc (collectives calls h)) (collectives calls h)) (uncounted r calls call h n e old member))));
    numbered = holds.numbered;
    named = all_kept r calls call before once holds.named;
  }

  -- an item
  module _ (x : WaveItem) (is : IsKnown r calls call x) where
    abbrev more : List WaveItem
    more = before ++ x ∷ []

    all_named : AllByRecursion (IsNamed r calls) more
    all_named = all_push (IsNamed r calls) before x holds.named (is.named, (is.rank, some_position r.rank x.name.members is.member))

    lane_own : lane x.name r.rank more ≡ lane x.name r.rank before ++ x ∷ []
    lane_own = subst (λ (k : ℕ). lane x.name k more ≡ lane x.name k before ++ x ∷ []) is.rank (lane_push before x)

    lane_other : (n : Name) → (n ≡ x.name → ⊥) → lane n r.rank more ≡ lane n r.rank before
    lane_other n apart = lane_of_other n r.rank before x (other_name r n x apart)

    own_count : length (lane x.name r.rank before) ≡ collectives calls x.comm
    own_count = holds.count x.comm x.name is.named is.member

    counted_own : collectives (calls ++ call ∷ []) x.comm ≡ suc (collectives calls x.comm)
    counted_own =
        let here : (is_collective_on x.comm call && is_there (life calls Comm x.comm)) ≡ true =
        (λ i. (is.collective i && is_number x.comm (is.comm i)) && is.there i) ∙ ap (λ b. b && true) (eq-eqb x.comm x.comm refl) in
        collectives_more calls call x.comm ∙ ap (λ b. cond b (suc (collectives calls x.comm)) (collectives calls x.comm)) here

    counted_other : (h : ℕ) → (x.comm ≡ h → ⊥) → collectives (calls ++ call ∷ []) h ≡ collectives calls h
    counted_other h apart =
        let here : (is_collective_on h call && is_there (life calls Comm h)) ≡ false =
        (λ i. (is.collective i && is_number h (is.comm i)) && is_there (life calls Comm h)) ∙ ap (λ b. b && is_there (life calls Comm h)) (ne_eqb x.comm h apart) in
        collectives_more calls call h ∙ ap (λ b. cond b (suc (collectives calls h)) (collectives calls h)) here

    same_handle : (h : ℕ) (n : Name) → name_of r calls h ≡ Some n → n ≡ x.name → h ≡ x.comm
    same_handle h n named e =
        let all : MadeOnce (reverse calls) = once.1 in
        names_apart r calls all h x.comm n x.name named is.named (ap (λ (m : Name). m.root) e) (ap (λ (m : Name). m.path) e)

    count_old : (h : ℕ) (n : Name) → name_of r calls h ≡ Some n → IsIn r.rank n → length (lane n r.rank more) ≡ collectives (calls ++ call ∷ []) h
    count_old h n named member = decide (h == x.comm)
        (λ t. (let e = eqb-true h x.comm t in
        let name : n ≡ x.name = one_of n x.name (sym named ∙ ap (name_of r calls) e ∙ is.named) in
        ap (λ (m : Name). length (lane m r.rank more)) name ∙ ap length lane_own ∙ length-append (lane x.name r.rank before) (x ∷ [])
        ∙ (let c = own_count in let s : length (lane x.name r.rank before) + 1 ≡ suc (collectives calls x.comm) = omega (arith, c) in s)
        ∙ sym counted_own ∙ ap (collectives (calls ++ call ∷ [])) (sym e)))
        (λ f. (let apart : h ≡ x.comm → ⊥ = λ e. clash (h == x.comm) f (eq-eqb h x.comm e) in
        ap length (lane_other n (λ e. apart (same_handle h n named e))) ∙ holds.count h n named member ∙ sym (counted_other h (λ e. apart (sym e)))))

    numbered_more : (n : Name) (k : ℕ) (y : WaveItem) → slice_get (lane n r.rank more) k ≡ Some y → y.number ≡ k
    numbered_more n k y at = decide (is_eq (name_cmp n x.name))
        (λ t. (let e : n ≡ x.name = name_same n x.name (equal_from (name_cmp n x.name) t) in
        let own : slice_get (lane x.name r.rank before ++ x ∷ []) k ≡ Some y = ap (λ (l : List WaveItem). slice_get l k) (sym (ap (λ (m : Name). lane m r.rank more) e ∙ lane_own)) ∙ at in
        in_own k y own))
        (λ f. holds.numbered n k y (ap (λ (l : List WaveItem). slice_get l k) (sym (lane_other n (λ e. clash (is_eq (name_cmp n x.name)) f (ap (λ (m : Name). is_eq (name_cmp m x.name)) e ∙ eq_itself x.name)))) ∙ at))
      where
        in_own : (j : ℕ) (z : WaveItem) → slice_get (lane x.name r.rank before ++ x ∷ []) j ≡ Some z → z.number ≡ j
        in_own j z own = elim (last_or_before (lane x.name r.rank before) x j z own) [
          | inl there ↦ holds.numbered x.name j z there
          | inr here ↦ (let c = own_count in ap (λ (w : WaveItem). w.number) (here.1) ∙ is.number ∙ sym c ∙ sym here.0)
        ]

    gives : Holds r (calls ++ call ∷ []) more
    gives = record {
      count = λ h n named member. decide (makes Comm h call)
          (λ t. ap length (lane_none r n more (all_apart r calls call h n more once t named all_named)) ∙ sym (uncounted_new calls call h once t))
          (λ f. count_old h n (old_name h n f named) member);
      numbered = numbered_more;
      named = all_kept r calls call more once all_named;
    }

step : (r : Rank) (calls : List Call) (call : Call) (before ys : List WaveItem) (b : Bool) → stands_in_wave (facts_of r calls) call.body ≡ b → MadeOnce (call ∷ reverse calls) → Holds r calls before → OneWhere b (IsItemOf r calls call) ys
    → Holds r (calls ++ call ∷ []) (before ++ ys)
step r calls call before ys true e once holds one =
    subst (λ (l : List WaveItem). Holds r (calls ++ call ∷ []) (before ++ l)) (sym one.items_are) (gives r calls call before once holds one.item (known r calls call one.item e one.is))
step r calls call before ys false e once holds none =
    subst (λ (l : List WaveItem). Holds r (calls ++ call ∷ []) l) (sym (append-nil before) ∙ ap (λ (l : List WaveItem). before ++ l) (sym none)) (passes r calls call before once holds e)

once_behind : (xs ys : List Call) → MadeOnce (xs ++ ys) → MadeOnce ys
once_behind [] ys once = once
once_behind (x ∷ xs) ys once = once_behind xs ys once.1

holds_behind : (r : Rank) (earlier calls : List Call) (before items : List WaveItem) → MadeOnce (reverse (earlier ++ calls)) → Holds r earlier before → AreItemsBehind r earlier calls items → Holds r (earlier ++ calls) (before ++ items)
holds_behind r earlier [] before items once holds none =
    subst (λ (cs : List Call). Holds r cs (before ++ items)) (sym (append-nil earlier)) (subst (Holds r earlier) (sym (append-nil before) ∙ ap (λ (l : List WaveItem). before ++ l) (sym none)) holds)
holds_behind r earlier (call ∷ calls) before items once holds parted =
    let whole : (earlier ++ call ∷ []) ++ calls ≡ earlier ++ call ∷ calls = append_assoc earlier (call ∷ []) calls in
    let all : MadeOnce (reverse calls ++ reverse (earlier ++ call ∷ [])) = subst MadeOnce (reverse-append (earlier ++ call ∷ []) calls) (subst (λ (cs : List Call). MadeOnce (reverse cs)) (sym whole) once) in
    let here : MadeOnce (call ∷ reverse earlier) = subst MadeOnce (reverse-append earlier (call ∷ [])) (once_behind (reverse calls) (reverse (earlier ++ call ∷ [])) all) in
    let now = step r earlier call before parted.front (stands_in_wave (facts_of r earlier) call.body) refl here holds parted.first in
    let rest = holds_behind r (earlier ++ call ∷ []) calls (before ++ parted.front) parted.back (subst (λ (cs : List Call). MadeOnce (reverse cs)) (sym whole) once) now parted.rest in
    subst (λ (l : List WaveItem). Holds r (earlier ++ call ∷ calls) l) (append_assoc before parted.front parted.back ∙ ap (λ (l : List WaveItem). before ++ l) (sym parted.items_are))
    (subst (λ (cs : List Call). Holds r cs ((before ++ parted.front) ++ parted.back)) whole rest)

-- before the first call nothing was given, and nothing is counted
holds_first : (r : Rank) → Holds r [] []
unfolding collectives
holds_first r = record { count = λ h n named member. refl; numbered = λ n k x e. no_some x e; named = tt }

-- the items of a rank, each with its number on its communicator, the rank a member, and one name for each handle
pub record AreOrdered (r : Rank) (items : List WaveItem) : Type 0 where
  pub numbered : (n : Name) (k : ℕ) (x : WaveItem) → slice_get (lane n r.rank items) k ≡ Some x → x.number ≡ k
  pub of_rank : AllByRecursion (λ x. (x.place.rank ≡ r.rank) × Has x.name.members r.rank) items
  pub named : (x y : WaveItem) → Has items x → Has items y → x.comm ≡ y.comm → x.name ≡ y.name

all_of : {X : Type 0} (P Q : X → Type 0) (xs : List X) → ((x : X) → P x → Q x) → AllByRecursion P xs → AllByRecursion Q xs
all_of P Q [] f all = tt
all_of P Q (x ∷ xs) f all = (f x all.0, all_of P Q xs f all.1)

has_named : (r : Rank) (calls : List Call) (items : List WaveItem) (x : WaveItem) → AllByRecursion (IsNamed r calls) items → Has items x → name_of r calls x.comm ≡ Some x.name
has_named r calls [] x all has = absurd has
has_named r calls (y ∷ items) x all (inl e) = ap (λ (z : WaveItem). name_of r calls z.comm) e ∙ all.0.0 ∙ ap (λ (z : WaveItem). Some z.name) (sym e)
has_named r calls (y ∷ items) x all (inr has) = has_named r calls items x all.1 has

pub items_ordered : (r : Rank) (calls : List Call) (items : List WaveItem) → AreNumbered 64 calls → AreItemsOf r calls items → AreOrdered r items
items_ordered r calls items numbered are =
    let h = holds_behind r [] calls [] items (made_once calls numbered) (holds_first r) are in
    record {
      numbered = h.numbered;
      of_rank = all_of (IsNamed r calls) (λ x. (x.place.rank ≡ r.rank) × Has x.name.members r.rank) items (λ x is. is.1) h.named;
      named = λ x y a b e. one_of x.name y.name (sym (has_named r calls items x h.named a) ∙ ap (name_of r calls) e ∙ has_named r calls items y h.named b);
    }
