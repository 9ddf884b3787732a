-- A call put into the waves.
use Rattle.std.proofs.Common.{◌≡◌, ℕ, suc, Bool, true, false, List, [], ◌∷◌, ◌++◌, map, drop, Option, Some, None, Result, Ok, Err, refl, sym, ap, subst, ◌∙◌, inl, inr, arith, OnOk, IfOk}
use Rattle.std.specs.Prelude.{slice_get, nat_eq, ◌⊎◌}
use Rattle.std.specs.List.{AllByRecursion}
use Rattle.std.specs.BTreeMap as tree
use Rattle.std.specs.BTreeMap.{BTreeMap}
use Rattle.std.specs.Ordering.{is_eq, nat_cmp}
use Rattle.std.specs.FinMap.{nat_cmp-IsAntisymmetric}
use Rattle.std.proofs.lemmas.Bool.{and_left}
use Rattle.std.proofs.lemmas.Cmp.{eq_by_cmp_equiv}
use Rattle.must_call.specs.declared.place.Place.{Place}
use Rattle.must_base.specs.Listing.{Has}
use Rattle.must_base.specs.ListingLaws.{all_has}
use Rattle.must_find.specs.declared.finding.Finding.{Finding}
use Rattle.must_find.specs.Adds.{Adds}
use Rattle.must_coll.specs.ListLaws.{has_before, has_last}
use Rattle.must_group.specs.Names.{Name, name_cmp}
use Rattle.must_group.specs.NameOrder.{name_total, name_same}
use Rattle.must_coll.specs.declared.item.WaveItem.{WaveItem}
use Rattle.must_coll.specs.declared.names.Names.{Names}
use Rattle.must_coll.specs.declared.progress.Progress.{Progress}
use Rattle.must_coll.specs.declared.waves.Waves.{Waves}
use Rattle.must_coll.specs.Waves.{lane, wave, has_gap, Orderly}
use Rattle.must_coll.specs.Rows.{one_kind}
use Rattle.must_coll.specs.Numbering.{number_of, Knows}
use Rattle.must_coll.specs.Progressing.{IsProgress, StandsAt, progress_by, progress_of, AreOwned, StandsFor}
use Rattle.must_coll.specs.WaveLaws.{wave_is, gap_at, lane_keeps, lane_of_other, equal_from, eq_itself}
use Rattle.must_coll.proofs.Named.{one_number, not_none, number_stays}

all_front : (P : WaveItem → Type 0) (xs ys : List WaveItem) → AllByRecursion P (xs ++ ys) → AllByRecursion P xs
all_front P [] ys a = tt
all_front P (x ∷ xs) ys a = (a.0, all_front P xs ys a.1)

pub orderly_front : (h zs : List WaveItem) → Orderly (h ++ zs) → Orderly h
orderly_front h zs o = record { numbered = λ name rank k x e. o.numbered name rank k x (lane_keeps name rank h zs k x e); members = all_front (λ x. Has x.name.members x.place.rank) h zs o.members; named = λ x y p q. o.named x y (has_before h zs x p) (has_before h zs y q) }

has_place : (ms : List ℕ) (r : ℕ) → Has ms r → (k : ℕ) × (slice_get ms k ≡ Some r)
has_place [] r h = absurd h
has_place (m ∷ ms) r (inl e) = (0, ap Some (sym e))
has_place (m ∷ ms) r (inr h) = let p = has_place ms r h in (suc p.0, p.1)

-- the rank of a call is a member
pub member_there : (h : List WaveItem) (x : WaveItem) → Orderly (h ++ x ∷ []) → ((k : ℕ) → slice_get x.name.members k ≡ Some x.place.rank → ⊥) → ⊥
member_there h x o none = let p = has_place x.name.members x.place.rank (all_has (λ y. Has y.name.members y.place.rank) (h ++ x ∷ []) x o.members (has_last h x)) in none p.0 p.1

empty_lanes : (name : Name) (h : List WaveItem) (ms : List ℕ) → ((m : ℕ) → lane name m h ≡ []) → map (λ (m : ℕ). []) ms ≡ map (λ m. drop 0 (lane name m h)) ms
empty_lanes name h [] none = refl
empty_lanes name h (m ∷ ms) none = ap (λ (w : List WaveItem). w ∷ map (λ (k : ℕ). []) ms) (sym (none m)) ∙ ap (λ (l : List (List WaveItem)). lane name m h ∷ l) (empty_lanes name h ms none)

abbrev pub no_items : ℕ → List WaveItem
no_items m = []

-- a name without a call so far
pub fresh : (p : Progress) (name : Name) (h : List WaveItem) (position rank : ℕ) → Orderly h → slice_get name.members position ≡ Some rank → ((m : ℕ) → lane name m h ≡ []) → p.name ≡ name → p.clean ≡ true → p.lanes ≡ map (λ m. []) name.members → IsProgress p name h
fresh p name h position rank o stands none name_is clean lanes = record {
  name_is = name_is;
  done = 0;
  lanes = lanes ∙ empty_lanes name h name.members none;
  before = λ j less. absurd (omega (arith, less));
  gap = ap has_gap (wave_is h name 0 o) ∙ gap_at (λ m. slice_get (lane name m h) 0) name.members position rank stands (ap (λ (l : List WaveItem). slice_get l 0) (none rank));
  clean = (λ e j less. absurd (omega (arith, less)), λ all. clean);
}

pub adds_alike : (old new : List Finding) (P Q : Finding → Type 0) → ((f : Finding) → P f → Q f) → ((f : Finding) → Q f → P f) → Adds old new P → Adds old new Q
adds_alike old new P Q to back adds = λ f. (
  λ h. elim ((adds f).0 h) [ inl there ↦ inl there | inr p ↦ inr (to f p) ],
  λ h. (adds f).1 (elim h [ inl there ↦ inl there | inr q ↦ inr (back f q) ]),
)

pub on_ok : {T E A B : Type 0} (r : Result T E) → OnOk r A → (A → B) → OnOk r B
on_ok (Ok x) a f = f a
on_ok (Err e) a f = tt

pub on_both : {T E A B C : Type 0} (r : Result T E) → OnOk r A → OnOk r B → (A → B → C) → OnOk r C
on_both (Ok x) a b f = f a b
on_both (Err e) a b f = tt

pub if_same : {E : Type 0} (r : Result (Option (List Place)) E) (a b : Option (List Place)) → a ≡ b → IfOk r (λ o. o ≡ a) → IfOk r (λ o. o ≡ b)
if_same (Ok o) a b e is = is ∙ e
if_same (Err x) a b e is = tt

-- ---- the names

name_other : (name : Name) (h : List WaveItem) (x : WaveItem) → is_eq (name_cmp x.name name) ≡ false → (m : ℕ) → lane name m (h ++ x ∷ []) ≡ lane name m h
name_other name h x e m = lane_of_other name m h x (and_left (is_eq (name_cmp name x.name)) (nat_eq x.place.rank m) ((eq_by_cmp_equiv name_total).symm name x.name ∙ e))

lists_alike : (f : List WaveItem → Option WaveItem) (name : Name) (h : List WaveItem) (x : WaveItem) → is_eq (name_cmp x.name name) ≡ false → (ms : List ℕ) → map (λ m. f (lane name m (h ++ x ∷ []))) ms ≡ map (λ m. f (lane name m h)) ms
lists_alike f name h x e [] = refl
lists_alike f name h x e (m ∷ ms) = ap (λ (l : List WaveItem). f l ∷ map (λ k. f (lane name k (h ++ x ∷ []))) ms) (name_other name h x e m) ∙ ap (λ (l : List (Option WaveItem)). f (lane name m h) ∷ l) (lists_alike f name h x e ms)

drops_alike : (n : ℕ) (name : Name) (h : List WaveItem) (x : WaveItem) → is_eq (name_cmp x.name name) ≡ false → (ms : List ℕ) → map (λ m. drop n (lane name m (h ++ x ∷ []))) ms ≡ map (λ m. drop n (lane name m h)) ms
drops_alike n name h x e [] = refl
drops_alike n name h x e (m ∷ ms) = ap (λ (l : List WaveItem). drop n l ∷ map (λ k. drop n (lane name k (h ++ x ∷ []))) ms) (name_other name h x e m) ∙ ap (λ (l : List (List WaveItem)). drop n (lane name m h) ∷ l) (drops_alike n name h x e ms)

waves_alike : (name : Name) (h : List WaveItem) (x : WaveItem) (k : ℕ) → Orderly h → Orderly (h ++ x ∷ []) → is_eq (name_cmp x.name name) ≡ false → wave (h ++ x ∷ []) name k ≡ wave h name k
waves_alike name h x k o o' e = wave_is (h ++ x ∷ []) name k o' ∙ lists_alike (λ l. slice_get l k) name h x e name.members ∙ sym (wave_is h name k o)

-- the waves of another name stay
pub stays_at : (o : Option Progress) (name : Name) (h : List WaveItem) (x : WaveItem) → Orderly (h ++ x ∷ []) → is_eq (name_cmp x.name name) ≡ false → StandsAt o name h → StandsAt o name (h ++ x ∷ [])
stays_at None name h x o e st = λ m. name_other name h x e m ∙ st m
stays_at (Some p) name h x o e st =
    let w = λ (k : ℕ). waves_alike name h x k (orderly_front h (x ∷ []) o) o e in
    let kind = λ (k : ℕ). ap (λ (v : List (Option WaveItem)). one_kind v) (w k) in
    record {
      name_is = st.name_is;
      done = st.done;
      lanes = st.lanes ∙ sym (drops_alike st.done name h x e name.members);
      before = λ j less. ap has_gap (w j) ∙ st.before j less;
      gap = ap has_gap (w st.done) ∙ st.gap;
      clean = (λ c j less. kind j ∙ st.clean.0 c j less, λ all. st.clean.1 (λ j less. sym (kind j) ∙ all j less));
    }

-- ---- what stands at a number

-- what is told of the names behind a call
pub record Behind (old new : Names) (name : Name) (i : ℕ) : Type 0 where
  pub number : number_of new name ≡ Some i
  pub others : (other : Name) → is_eq (name_cmp name other) ≡ false → number_of new other ≡ number_of old other
  pub old_or_new : (number_of old name ≡ Some i) ⊎ ((number_of old name ≡ None) × (i ≡ old.count))

-- a free number has no progress
free_by : (names : Names) (waiting : BTreeMap ℕ Progress) (h : List WaveItem) (i : ℕ) → Knows names h → AreOwned names waiting → i ≡ names.count → (o : Option Progress) → tree.get nat_cmp waiting i ≡ o → o ≡ None
free_by names waiting h i known owned e None is = refl
free_by names waiting h i known owned e (Some p) is = let l = known.below p.name i (owned i p is) in absurd (omega (arith, l, e))

-- the progress of the call's name stands where its number says
pub at_number : (old : Waves) (new : Names) (h : List WaveItem) (x : WaveItem) (i : ℕ) → StandsFor old h → Behind old.names new x.name i → StandsAt (tree.get nat_cmp old.waiting i) x.name h
at_number old new h x i st g = elim g.old_or_new [
  | inl p ↦ subst (λ (o : Option Progress). StandsAt o x.name h) (ap (progress_by old.waiting) p) (st.keeps x.name)
  | inr p ↦
      subst (λ (o : Option Progress). StandsAt o x.name h) (ap (progress_by old.waiting) p.0 ∙ sym (free_by old.names old.waiting h i st.knows st.owned p.1 (tree.get nat_cmp old.waiting i) refl)) (st.keeps x.name)
]

number_apart : (new : Names) (items : List WaveItem) (a b : Name) (i j : ℕ) → Knows new items → number_of new a ≡ Some i → number_of new b ≡ Some j → is_eq (name_cmp a b) ≡ false → (c : Bool) → is_eq (nat_cmp i j) ≡ c → c ≡ false
number_apart new items a b i j known p q apart false is = refl
number_apart new items a b i j known p q apart true is =
    let ij = nat_cmp-IsAntisymmetric i j (equal_from (nat_cmp i j) is) in
    let same = known.apart a b i p (q ∙ ap Some (sym ij)) in
    let e : true ≡ false = sym (eq_itself a) ∙ ap (λ (n : Name). is_eq (name_cmp a n)) same ∙ apart in cc

-- where the name of a call has a number, the progress of another name stays
other_progress : (new : Names) (waiting waiting' : BTreeMap ℕ Progress) (items : List WaveItem) (x : WaveItem) (i : ℕ) (name : Name) → Knows new items → number_of new x.name ≡ Some i
    → ((other : ℕ) → is_eq (nat_cmp i other) ≡ false → tree.get nat_cmp waiting' other ≡ tree.get nat_cmp waiting other) → is_eq (name_cmp x.name name) ≡ false
    → (o : Option ℕ) → number_of new name ≡ o → progress_by waiting' o ≡ progress_by waiting o
other_progress new waiting waiting' items x i name known here others apart None is = refl
other_progress new waiting waiting' items x i name known here others apart (Some j) is =
    others j (number_apart new items x.name name i j known here is apart (is_eq (nat_cmp i j)) refl)

keeps_by : (old new : Waves) (h : List WaveItem) (x : WaveItem) (i : ℕ) → Orderly (h ++ x ∷ []) → StandsFor old h → Behind old.names new.names x.name i → Knows new.names (h ++ x ∷ [])
    → StandsAt (tree.get nat_cmp new.waiting i) x.name (h ++ x ∷ []) → ((other : ℕ) → is_eq (nat_cmp i other) ≡ false → tree.get nat_cmp new.waiting other ≡ tree.get nat_cmp old.waiting other)
    → (name : Name) (b : Bool) → is_eq (name_cmp x.name name) ≡ b → StandsAt (progress_of new.names new.waiting name) name (h ++ x ∷ [])
keeps_by old new h x i o st g more here others name true e =
    let at = subst (λ (w : Option Progress). StandsAt w x.name (h ++ x ∷ [])) (sym (ap (progress_by new.waiting) g.number)) here in
    subst (λ (n : Name). StandsAt (progress_of new.names new.waiting n) n (h ++ x ∷ [])) (name_same x.name name (equal_from (name_cmp x.name name) e)) at
keeps_by old new h x i o st g more here others name false e =
    let same : progress_of new.names new.waiting name ≡ progress_of old.names old.waiting name =
    other_progress new.names old.waiting new.waiting (h ++ x ∷ []) x i name more g.number others e (number_of new.names name) refl ∙ ap (progress_by old.waiting) (g.others name e) in
    subst (λ (w : Option Progress). StandsAt w name (h ++ x ∷ [])) (sym same) (stays_at (progress_of old.names old.waiting name) name h x o e (st.keeps name))

name_at : (o : Option Progress) (p : Progress) (name : Name) (items : List WaveItem) → o ≡ Some p → StandsAt o name items → p.name ≡ name
name_at o p name items e st = let is = subst (λ (w : Option Progress). StandsAt w name items) e st in is.name_is

number_still : (old new : Names) (name : Name) (i : ℕ) → Behind old new name i → (a : Name) (k : ℕ) → number_of old a ≡ Some k → number_of new a ≡ Some k
number_still old new name i g = number_stays old new name i g.number g.others (λ j e. elim g.old_or_new [
  | inl p ↦ one_number (number_of old name) i j p e
  | inr p ↦ absurd (not_none (number_of old name) j e p.0)
])

owned_by : (old new : Waves) (h : List WaveItem) (x : WaveItem) (i : ℕ) → AreOwned old.names old.waiting → Behind old.names new.names x.name i
    → StandsAt (tree.get nat_cmp new.waiting i) x.name (h ++ x ∷ []) → ((other : ℕ) → is_eq (nat_cmp i other) ≡ false → tree.get nat_cmp new.waiting other ≡ tree.get nat_cmp old.waiting other)
    → (k : ℕ) (p : Progress) → tree.get nat_cmp new.waiting k ≡ Some p → (b : Bool) → is_eq (nat_cmp i k) ≡ b → number_of new.names p.name ≡ Some k
owned_by old new h x i owned g here others k p e true is =
    let ik = nat_cmp-IsAntisymmetric i k (equal_from (nat_cmp i k) is) in
    ap (number_of new.names) (name_at (tree.get nat_cmp new.waiting i) p x.name (h ++ x ∷ []) (ap (λ n. tree.get nat_cmp new.waiting n) ik ∙ e) here) ∙ g.number ∙ ap Some ik
owned_by old new h x i owned g here others k p e false is = number_still old.names new.names x.name i g p.name k (owned k p (sym (others k is) ∙ e))

pub stands_push : (old new : Waves) (h : List WaveItem) (x : WaveItem) (i : ℕ) → Orderly (h ++ x ∷ []) → StandsFor old h → Behind old.names new.names x.name i → Knows new.names (h ++ x ∷ [])
    → StandsAt (tree.get nat_cmp new.waiting i) x.name (h ++ x ∷ []) → ((other : ℕ) → is_eq (nat_cmp i other) ≡ false → tree.get nat_cmp new.waiting other ≡ tree.get nat_cmp old.waiting other)
    → StandsFor new (h ++ x ∷ [])
stands_push old new h x i o st g more here others = record {
  knows = more;
  keeps = λ name. keeps_by old new h x i o st g more here others name (is_eq (name_cmp x.name name)) refl;
  owned = λ k p e. owned_by old new h x i st.owned g here others k p e (is_eq (nat_cmp i k)) refl;
}
