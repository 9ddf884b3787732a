-- A rank has at most one handle for each communicator: two of its handles never have one root and path, since the step from a
-- communicator to one that is made of it is told by the number of the collective call that makes it.
use Rattle.std.proofs.Common.{◌≡◌, ℕ, suc, ◌+◌, ◌<◌, ◌≤◌, ◌==◌, Bool, true, false, cond, ◌&&◌, List, [], ◌∷◌, ◌++◌, Option, Some, None, refl, sym, ap, subst, ◌∙◌, inl, inr, arith, eqb-true, eq-eqb, append_assoc}
use Rattle.std.specs.Prelude.{◌⊎◌, reverse, nat_le}
use Rattle.std.specs.Option.{option_map}
use Rattle.std.specs.List.{AllByRecursion, position_from}
use Rattle.std.proofs.lemmas.Bool.{ne_eqb, lt-leb}
use Rattle.std.proofs.lemmas.List.{append-nil, reverse-append}
use Rattle.must_call.specs.declared.class.Class.{Class}
use Rattle.must_call.specs.declared.class.Class.TheVariants.{Comm}
use Rattle.must_call.specs.declared.life.Life.{Life}
use Rattle.must_call.specs.declared.life.Life.TheVariants.{Never, Predefined}
use Rattle.must_call.specs.declared.object.Object.TheVariants.{CommDup, CommSplit, CommCreate}
use Rattle.must_call.specs.declared.body.Body.{Body}
use Rattle.must_call.specs.declared.body.Body.TheVariants.{Object}
use Rattle.must_call.specs.declared.call.Call.{Call}
use Rattle.must_call.specs.Handles.{ClassedHandle}
use Rattle.must_group.specs.declared.name.Step.{Step}
use Rattle.must_group.specs.Groups.{below}
use Rattle.must_group.specs.Names.{Name}
use Rattle.must_rules.specs.Rank.{Rank}
use Rattle.must_rules.specs.Making.{same_class, is_handle, made_by, makes}
use Rattle.must_rules.specs.Search.{first_where}
use Rattle.must_rules.specs.Lives.{is_predefined, life, life_by}
use Rattle.must_rules.specs.LifeLaws.{made_now}
use Rattle.must_rules.specs.Numbered.{IsNumbered, AreNumbered}
use Rattle.must_rules.specs.Communicators.{Derived, is_there, there, is_collective, is_number, is_collective_on, comm_named, collectives_by, derived_of, derived_name, child_of, name_by, name_of, predefined_name}

-- ---- plain values

no_name : (m : Name) {P : Type 0} → None ≡ Some m → P
no_name m e = absurd cc

same_name : (m n : Name) → Some m ≡ Some n → m ≡ n
same_name m n e = cc

not_both : {P : Type 0} (b : Bool) → b ≡ false → b ≡ true → P
not_both b e f = let no : false ≡ true = sym e ∙ f in absurd cc

both : (a b : Bool) → (a && b) ≡ true → (a ≡ true) × (b ≡ true)
both true true e = (refl, refl)
both true false e = let no : false ≡ true = e in absurd cc
both false b e = let no : false ≡ true = e in absurd cc

not_nil : {X : Type 0} (xs : List X) (x : X) {P : Type 0} → xs ++ x ∷ [] ≡ [] → P
not_nil [] x e = absurd cc
not_nil (y ∷ xs) x e = absurd cc

same_last : {X : Type 0} (xs ys : List X) (x y : X) → xs ++ x ∷ [] ≡ ys ++ y ∷ [] → (xs ≡ ys) × (x ≡ y)
same_last [] [] x y e = (refl, cc)
same_last [] (b ∷ ys) x y e = not_nil ys y (let s : [] ≡ ys ++ y ∷ [] = cc in sym s)
same_last (a ∷ xs) [] x y e = not_nil xs x (let s : xs ++ x ∷ [] ≡ [] = cc in s)
same_last (a ∷ xs) (b ∷ ys) x y e =
    let head : a ≡ b = cc in
    let tail : xs ++ x ∷ [] ≡ ys ++ y ∷ [] = cc in
    let rest = same_last xs ys x y tail in
    ((λ i. head i ∷ rest.0 i), rest.1)

there_some : {X : Type 0} (l : Life) (o : Option X) (x : X) → there l o ≡ Some x → (is_there l ≡ true) × (o ≡ Some x)
there_some l o x e = at (is_there l) refl e
  where
    at : (b : Bool) → is_there l ≡ b → cond b o None ≡ Some x → (is_there l ≡ true) × (o ≡ Some x)
    at true t f = (t, f)
    at false t f = absurd (let no : None ≡ Some x = f in cc)

-- ---- what a call makes

-- no call makes this communicator
abbrev pub NeverMade : ℕ → List Call → Type 0
NeverMade h calls = AllByRecursion (λ c. makes Comm h c ≡ false) calls

-- each communicator is made by one call, of calls of which the last stands first
abbrev pub MadeOnce : List Call → Type 0
MadeOnce [] = Unit {0}
MadeOnce (last ∷ before) = ((h : ℕ) → makes Comm h last ≡ true → (64 ≤ h) × NeverMade h before) × MadeOnce before

made_same : (g h : ℕ) (o : Option ClassedHandle) → is_handle Comm g o ≡ true → is_handle Comm h o ≡ true → g ≡ h
made_same g h None e f = let no : false ≡ true = e in absurd cc
made_same g h (Some x) e f = sym (eqb-true x.1 g (both (same_class x.0 Comm) (x.1 == g) e).1) ∙ eqb-true x.1 h (both (same_class x.0 Comm) (x.1 == h) f).1

abbrev predefined_by : Rank → Bool → Bool → Option Name
predefined_by r a b =
    cond a (Some (record { root = 0; path = []; members = below r.size })) (cond b (Some (record { root = 1; path = []; members = r.rank ∷ [] })) None)

predefined_high : (r : Rank) (h : ℕ) → 64 ≤ h → predefined_name r h ≡ None
predefined_high r h high =
    ap (λ b. predefined_by r b (h == 2)) (ne_eqb h 1 (λ e. omega (arith, high, e)))
    ∙ ap (λ b. predefined_by r false b) (ne_eqb h 2 (λ e. omega (arith, high, e)))

never_named : (r : Rank) (h : ℕ) (calls : List Call) → 64 ≤ h → NeverMade h calls → name_by r calls h ≡ None
never_named r h [] high never = predefined_high r h high
never_named r h (last ∷ before) high never =
    ap (λ b. cond b (derived_name (λ parent. there (life (reverse before) Comm parent) (name_by r before parent)) (collectives_by before) (derived_of last.body)) (name_by r before h)) never.0
    ∙ never_named r h before high never.1

record IsDerived (names : ℕ → Option Name) (numbers : ℕ → ℕ) (o : Option Derived) (m : Name) : Type 0 where
  d : Derived
  d_is : o ≡ Some d
  parent : Name
  named : names d.parent ≡ Some parent
  m_is : m ≡ child_of (numbers d.parent) d parent

derived_by : (names : ℕ → Option Name) (numbers : ℕ → ℕ) (o : Option Derived) (m : Name) → derived_name names numbers o ≡ Some m → IsDerived names numbers o m
derived_by names numbers None m e = no_name m e
derived_by names numbers (Some d) m e = at (names d.parent) refl e
  where
    at : (p : Option Name) → names d.parent ≡ p → option_map (child_of (numbers d.parent) d) p ≡ Some m → IsDerived names numbers (Some d) m
    at None t f = no_name m f
    at (Some parent) t f = record { d = d; d_is = refl; parent = parent; named = t; m_is = sym (same_name (child_of (numbers d.parent) d parent) m f) }

no_derived : (d : Derived) {P : Type 0} → None ≡ Some d → P
no_derived d e = absurd cc

parent_same : (c d : Derived) → Some c ≡ Some d → c.parent ≡ d.parent
parent_same c d e = let s : c ≡ d = cc in ap (λ (x : Derived). x.parent) s

-- a call that makes a communicator of another is a collective call on that
derives_on : (b : Body) (d : Derived) → derived_of b ≡ Some d → (is_collective b && is_number d.parent (comm_named b)) ≡ true
derives_on (Object (CommDup comm None)) d e = no_derived d e
derives_on (Object (CommDup comm (Some made))) d e = eq-eqb comm d.parent (parent_same _ d e)
derives_on (Object (CommSplit comm color key None)) d e = no_derived d e
derives_on (Object (CommSplit comm color key (Some made))) d e = eq-eqb comm d.parent (parent_same _ d e)
derives_on (Object (CommCreate comm group None)) d e = no_derived d e
derives_on (Object (CommCreate comm group (Some made))) d e = eq-eqb comm d.parent (parent_same _ d e)
derives_on _ d e = no_derived d e

-- ---- where a name comes from

record IsChild (r : Rank) (calls : List Call) (m : Name) : Type 0 where
  parent : ℕ
  name : Name
  named : name_by r calls parent ≡ Some name
  root_is : m.root ≡ name.root
  step : Step
  path_is : m.path ≡ name.path ++ step ∷ []
  below : step.number < collectives_by calls parent

kept_name : (r : Rank) (last : Call) (before : List Call) (p : ℕ) (name : Name) → MadeOnce (last ∷ before) → name_by r before p ≡ Some name → name_by r (last ∷ before) p ≡ Some name
kept_name r last before p name once e = at (makes Comm p last) refl
  where
    at : (b : Bool) → makes Comm p last ≡ b → name_by r (last ∷ before) p ≡ Some name
    at true t = no_name name (sym (never_named r p before (once.0 p t).0 (once.0 p t).1) ∙ e)
    at false t = ap (λ b. cond b (derived_name (λ parent. there (life (reverse before) Comm parent) (name_by r before parent)) (collectives_by before) (derived_of last.body)) (name_by r before p)) t ∙ e

counted : (b : Bool) (n : ℕ) → n ≤ cond b (suc n) n
counted true n = omega arith
counted false n = omega arith

origin : (r : Rank) (calls : List Call) → MadeOnce calls → (h : ℕ) (m : Name) → name_by r calls h ≡ Some m → (predefined_name r h ≡ Some m) ⊎ IsChild r calls m
origin r [] once h m e = inl e
origin r (last ∷ before) once h m e = at (makes Comm h last) refl (origin r before once.1 h m) e
  where
    at : (b : Bool) → makes Comm h last ≡ b → (name_by r before h ≡ Some m → (predefined_name r h ≡ Some m) ⊎ IsChild r before m) → cond b (derived_name (λ parent. there (life (reverse before) Comm parent) (name_by r before parent)) (collectives_by before) (derived_of last.body)) (name_by r before h) ≡ Some m
        → (predefined_name r h ≡ Some m) ⊎ IsChild r (last ∷ before) m
    at true t earlier f =
        let c = derived_by (λ parent. there (life (reverse before) Comm parent) (name_by r before parent)) (collectives_by before) (derived_of last.body) m f in
        let s = there_some (life (reverse before) Comm c.d.parent) (name_by r before c.d.parent) c.parent c.named in
        let counts : collectives_by (last ∷ before) c.d.parent ≡ suc (collectives_by before c.d.parent) =
        ap (λ b. cond (b && is_there (life (reverse before) Comm c.d.parent)) (suc (collectives_by before c.d.parent)) (collectives_by before c.d.parent)) (derives_on last.body c.d c.d_is)
        ∙ ap (λ b. cond b (suc (collectives_by before c.d.parent)) (collectives_by before c.d.parent)) s.0 in
        inr (record {
          parent = c.d.parent;
          name = c.parent;
          named = kept_name r last before c.d.parent c.parent once s.1;
          root_is = ap (λ (n : Name). n.root) c.m_is;
          step = record { number = collectives_by before c.d.parent; class = c.d.class };
          path_is = ap (λ (n : Name). n.path) c.m_is;
          below = omega (arith, counts);
        })
    at false t earlier f = elim (earlier f) [
      | inl p ↦ inl p
      | inr c ↦ inr (record {
        parent = c.parent;
        name = c.name;
        named = kept_name r last before c.parent c.name once c.named;
        root_is = c.root_is;
        step = c.step;
        path_is = c.path_is;
        below = (let more = counted (is_collective_on c.parent last && is_there (life (reverse before) Comm c.parent)) (collectives_by before c.parent) in omega (arith, c.below, more));
      })
    ]

-- ---- two handles of one root and path are one

predefined_path : (r : Rank) (m : Name) (a b : Bool) → predefined_by r a b ≡ Some m → m.path ≡ []
predefined_path r m true b e = ap (λ (n : Name). n.path) (sym (same_name _ m e))
predefined_path r m false true e = ap (λ (n : Name). n.path) (sym (same_name _ m e))
predefined_path r m false false e = no_name m e

module _ (r : Rank) (last : Call) (before : List Call) (once : MadeOnce (last ∷ before)) where
  mixed : (n m : Name) (h : ℕ) → ((p q : ℕ) (a b : Name) → name_by r before p ≡ Some a → name_by r before q ≡ Some b → a.root ≡ b.root → a.path ≡ b.path → p ≡ q)
      → derived_name (λ parent. there (life (reverse before) Comm parent) (name_by r before parent)) (collectives_by before) (derived_of last.body) ≡ Some n → name_by r before h ≡ Some m
      → n.root ≡ m.root → n.path ≡ m.path → ⊥
  mixed n m h same e f roots paths =
      let c = derived_by (λ parent. there (life (reverse before) Comm parent) (name_by r before parent)) (collectives_by before) (derived_of last.body) n e in
      let s = there_some (life (reverse before) Comm c.d.parent) (name_by r before c.d.parent) c.parent c.named in
      let step : Step = record { number = collectives_by before c.d.parent; class = c.d.class } in
      let path : n.path ≡ c.parent.path ++ step ∷ [] = ap (λ (x : Name). x.path) c.m_is in
      elim (origin r before once.1 h m f) [
        | inl p ↦ not_nil c.parent.path step (sym path ∙ paths ∙ predefined_path r m (h == 1) (h == 2) p)
        | inr o ↦ (let t = same_last c.parent.path o.name.path step o.step (sym path ∙ paths ∙ o.path_is) in
            let one : c.d.parent ≡ o.parent = same c.d.parent o.parent c.parent o.name s.1 o.named (sym (ap (λ (x : Name). x.root) c.m_is) ∙ roots ∙ o.root_is) t.0 in
            let number : collectives_by before c.d.parent ≡ o.step.number = ap (λ (x : Step). x.number) t.1 in
            let counts : collectives_by before c.d.parent ≡ collectives_by before o.parent = ap (collectives_by before) one in
            omega (arith, number, counts, o.below))
      ]

predefined_apart : (r : Rank) (g h : ℕ) (n m : Name) (a b c d : Bool) → (g == 1) ≡ a → (g == 2) ≡ b → (h == 1) ≡ c → (h == 2) ≡ d
    → predefined_by r a b ≡ Some n → predefined_by r c d ≡ Some m → n.root ≡ m.root → g ≡ h
predefined_apart r g h n m true b true d p q s t e f roots = eqb-true g 1 p ∙ sym (eqb-true h 1 s)
predefined_apart r g h n m true b false true p q s t e f roots =
    let no : 0 ≡ 1 = ap (λ (x : Name). x.root) (same_name _ n e) ∙ roots ∙ sym (ap (λ (x : Name). x.root) (same_name _ m f)) in omega (arith, no)
predefined_apart r g h n m true b false false p q s t e f roots = no_name m f
predefined_apart r g h n m false true true d p q s t e f roots =
    let no : 1 ≡ 0 = ap (λ (x : Name). x.root) (same_name _ n e) ∙ roots ∙ sym (ap (λ (x : Name). x.root) (same_name _ m f)) in omega (arith, no)
predefined_apart r g h n m false true false true p q s t e f roots = eqb-true g 2 q ∙ sym (eqb-true h 2 t)
predefined_apart r g h n m false true false false p q s t e f roots = no_name m f
predefined_apart r g h n m false false c d p q s t e f roots = no_name n e

apart_by : (r : Rank) (calls : List Call) → MadeOnce calls → (g h : ℕ) (n m : Name) → name_by r calls g ≡ Some n → name_by r calls h ≡ Some m → n.root ≡ m.root → n.path ≡ m.path → g ≡ h
apart_by r [] once g h n m e f roots paths = predefined_apart r g h n m (g == 1) (g == 2) (h == 1) (h == 2) refl refl refl refl e f roots
apart_by r (last ∷ before) once g h n m e f roots paths = at (makes Comm g last) (makes Comm h last) refl refl (apart_by r before once.1) e f
  where
    made : Option Name
    made = derived_name (λ parent. there (life (reverse before) Comm parent) (name_by r before parent)) (collectives_by before) (derived_of last.body)

    at : (a b : Bool) → makes Comm g last ≡ a → makes Comm h last ≡ b → ((p q : ℕ) (a b : Name) → name_by r before p ≡ Some a → name_by r before q ≡ Some b → a.root ≡ b.root → a.path ≡ b.path → p ≡ q)
        → cond a made (name_by r before g) ≡ Some n → cond b made (name_by r before h) ≡ Some m → g ≡ h
    at true true s t same x y = made_same g h (made_by last) s t
    at true false s t same x y = absurd (mixed r last before once n m h same x y roots paths)
    at false true s t same x y = absurd (mixed r last before once m n g same y x (sym roots) (sym paths))
    at false false s t same x y = same g h n m x y roots paths

-- ---- handles that are numbered

-- all that these calls made has a number below this
abbrev AreBelow : ℕ → List Call → Type 0
AreBelow next calls = AllByRecursion (λ c. (class : Class) (number : ℕ) → made_by c ≡ Some (class, number) → number < next) calls

below_more : (next more : ℕ) → next ≤ more → (calls : List Call) → AreBelow next calls → AreBelow more calls
below_more next more le [] all = tt
below_more next more le (c ∷ calls) all = (λ class number e. (let b = all.0 class number e in omega (arith, b, le)), below_more next more le calls all.1)

handle_not : (h next : ℕ) (o : Option ClassedHandle) → next ≤ h → ((class : Class) (number : ℕ) → o ≡ Some (class, number) → number < next) → is_handle Comm h o ≡ false
handle_not h next None le below = refl
handle_not h next (Some x) le below =
    ap (λ b. same_class x.0 Comm && b) (ne_eqb x.1 h (λ e. (let b = below x.0 x.1 refl in omega (arith, b, e, le)))) ∙ last (same_class x.0 Comm)
  where
    last : (b : Bool) → (b && false) ≡ false
    last true = refl
    last false = refl

never_below : (h next : ℕ) (calls : List Call) → next ≤ h → AreBelow next calls → NeverMade h calls
never_below h next [] le all = tt
never_below h next (c ∷ calls) le all = (handle_not h next (made_by c) le all.0, never_below h next calls le all.1)

handle_is : (h : ℕ) (o : Option ClassedHandle) → is_handle Comm h o ≡ true → (class : Class) × (o ≡ Some (class, h))
handle_is h None e = let no : false ≡ true = e in absurd cc
handle_is h (Some x) e = (x.0, (λ i. Some (x.0, eqb-true x.1 h (both (same_class x.0 Comm) (x.1 == h) e).1 i)))

now_at : (o : Option ClassedHandle) (class : Class) (number : ℕ) → o ≡ Some (class, number) → made_now o ≡ 1
now_at o class number e = ap made_now e

once_more : (next : ℕ) (call : Call) (before : List Call) → 64 ≤ next → MadeOnce before → AreBelow next before → IsNumbered next call → MadeOnce (call ∷ before) × AreBelow (next + made_now (made_by call)) (call ∷ before)
once_more next call before low once below numbered = (
  (
    λ h e. (let m = handle_is h (made_by call) e in
        let is : h ≡ next = numbered m.0 h m.1 in
        (omega (arith, is, low), never_below h next before (omega (arith, is)) below)),
    once,
  ),
  ((λ class number e. (let is = numbered class number e in let one = now_at (made_by call) class number e in omega (arith, is, one))), below_more next (next + made_now (made_by call)) (omega arith) before below),
)

-- one list turned round onto another
abbrev onto : List Call → List Call → List Call
onto [] before = before
onto (c ∷ calls) before = onto calls (c ∷ before)

onto_is : (calls before : List Call) → onto calls before ≡ reverse calls ++ before
onto_is [] before = refl
onto_is (c ∷ calls) before = onto_is calls (c ∷ before) ∙ sym (append_assoc (reverse calls) (c ∷ []) before) ∙ ap (λ (l : List Call). l ++ before) (sym (reverse-append (c ∷ []) calls))

once_onto : (next : ℕ) (calls before : List Call) → 64 ≤ next → MadeOnce before → AreBelow next before → AreNumbered next calls → MadeOnce (onto calls before)
once_onto next [] before low once below numbered = once
once_onto next (c ∷ calls) before low once below numbered =
    let m = once_more next c before low once below numbered.0 in
    once_onto (next + made_now (made_by c)) calls (c ∷ before) (omega (arith, low)) m.0 m.1 numbered.1

pub made_once : (calls : List Call) → AreNumbered 64 calls → MadeOnce (reverse calls)
made_once calls numbered = subst MadeOnce (onto_is calls [] ∙ append-nil (reverse calls)) (once_onto 64 calls [] (omega arith) tt tt numbered)

-- a rank has at most one handle with a root and a path
pub names_apart : (r : Rank) (calls : List Call) → MadeOnce (reverse calls) → (g h : ℕ) (n m : Name) → name_of r calls g ≡ Some n → name_of r calls h ≡ Some m → n.root ≡ m.root → n.path ≡ m.path → g ≡ h
unfolding name_of
names_apart r calls once g h n m e f roots paths = apart_by r (reverse calls) once g h n m e f roots paths

-- ---- a communicator that is made has no name before, and was never made

pub unnamed : (r : Rank) (calls : List Call) (call : Call) (h : ℕ) → MadeOnce (call ∷ reverse calls) → makes Comm h call ≡ true → name_of r calls h ≡ None
unfolding name_of
unnamed r calls call h once e = (let m = once.0 h e in never_named r h (reverse calls) m.0 m.1)

all_onto : (P : Call → Type 0) (calls before : List Call) → AllByRecursion P (onto calls before) → AllByRecursion P calls × AllByRecursion P before
all_onto P [] before all = (tt, all)
all_onto P (c ∷ calls) before all = (let rest = all_onto P calls (c ∷ before) all in ((rest.1.0, rest.0), rest.1.1))

none_from : (test : Call → Bool) (i : ℕ) (calls : List Call) → AllByRecursion (λ c. test c ≡ false) calls → position_from test i calls ≡ None
none_from test i [] all = refl
none_from test i (c ∷ calls) all = ap (λ b. cond b (Some i) (position_from test (i + 1) calls)) all.0 ∙ none_from test (i + 1) calls all.1

high_handle : (h : ℕ) → 64 ≤ h → is_predefined Comm h ≡ false
unfolding is_predefined
high_handle h high = ap (λ b. nat_le 1 h && b) (lt-leb h 2 (omega (arith, high))) ∙ last (nat_le 1 h)
  where
    last : (b : Bool) → (b && false) ≡ false
    last true = refl
    last false = refl

pub unmade : (calls : List Call) (call : Call) (h : ℕ) → MadeOnce (call ∷ reverse calls) → makes Comm h call ≡ true → life calls Comm h ≡ Never
unfolding life
unmade calls call h once e =
    let m = once.0 h e in
    let never : NeverMade h calls = (all_onto (λ c. makes Comm h c ≡ false) calls [] (subst (NeverMade h) (sym (onto_is calls [] ∙ append-nil (reverse calls))) m.1)).0 in
    ap (λ b. cond b Predefined (life_by calls Comm h (first_where (makes Comm h) calls))) (high_handle h m.0)
    ∙ ap (life_by calls Comm h) (none_from (makes Comm h) 0 calls never)
