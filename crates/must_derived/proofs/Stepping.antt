-- The types of a rank after one call more.
use Rattle.std.proofs.Common.{◌≡◌, ℕ, suc, ◌+◌, ◌-◌, ◌<◌, ◌≤◌, ◌==◌, Bool, true, false, cond, ◌&&◌, ◌||◌, List, [], ◌∷◌, ◌++◌, length, Option, Some, None, refl, sym, ap, subst, ◌∙◌, inl, inr, arith, length-append}
use Rattle.std.specs.Prelude.{◌⊎◌, not, slice_set}
use Rattle.std.proofs.lemmas.Bool.{eqb-true, eq-eqb, ne_eqb, lt-ltb, le-ltb}
use Rattle.must_call.specs.declared.class.Class.{Class}
use Rattle.must_call.specs.declared.class.Class.TheVariants.{Comm, Group, Datatype, Operation, Request}
use Rattle.must_call.specs.declared.life.Life.{Life}
use Rattle.must_call.specs.declared.life.Life.TheVariants.{Never, Live, Freed, Predefined}
use Rattle.must_call.specs.declared.body.Body.{Body}
use Rattle.must_call.specs.declared.body.Body.TheVariants.{Finish, Derive, Object}
use Rattle.must_call.specs.declared.finish.Finish.TheVariants.{RequestFree}
use Rattle.must_call.specs.declared.derive.Derive.TheVariants.{TypeFree}
use Rattle.must_call.specs.declared.object.Object.TheVariants.{OpFree, GroupFree, CommFree}
use Rattle.must_call.specs.declared.call.Call.{Call}
use Rattle.must_call.specs.Handles.{ClassedHandle}
use Rattle.must_format.specs.declared.cause.Limit.{Limit}
use Rattle.must_format.specs.declared.cause.Limit.TheVariants.{TypeWeight, TypeReach}
use Rattle.must_type.specs.declared.fault.TypeFault.{TypeFault}
use Rattle.must_type.specs.declared.fault.TypeFault.TheVariants as fault
use Rattle.must_type.specs.declared.fault.Limit2.TheVariants.{Weight, Reach}
use Rattle.must_type.specs.declared.construct.TypeNo.{TypeNo}
use Rattle.std.specs.List.{AllByRecursion}
use Rattle.std.specs.Prelude.{◌^◌}
use Rattle.must_type.specs.Maps.{Entry, size, lower, upper}
use Rattle.must_type.specs.Tree.{TypeTree, weight, IsNear, IsNearEntry, IsWithinReach}
use Rattle.must_rules.specs.Search.{first_where}
use Rattle.must_type.specs.declared.construct.Construct.{Construct}
use Rattle.must_type.specs.Olds.{old_numbers}
use Rattle.must_type.specs.Table.{Types, tree_at, slot_weight, AreLive, IsDerived}
use Rattle.must_type.specs.Table as table
use Rattle.must_rules.specs.Making.{same_class, is_handle, made_by, makes, freed_of, frees, completes}
use Rattle.must_rules.specs.MakingLaws.{made_ends}
use Rattle.must_rules.specs.Lives.{ends, is_predefined, life, life_by, is_kept, made_count}
use Rattle.must_rules.specs.LifeLaws.{next_life, life_more, made_count_more, made_now}
use Rattle.must_rules.specs.Starts.{Clearness}
use Rattle.must_rules.specs.Types.{type_made, clear_type, type_of, sum_below, while_live, weight_at, types_weight}
use Rattle.must_rules.specs.KnownLaws.{type_more}
use Rattle.must_rules.specs.Limits.{is_within_reach, type_limit, made_limit, type_limit_at}
use Rattle.must_rules.specs.TypeLaws.{reach_is, reach_told}
use Rattle.must_derived.specs.declared.datatypes.Datatypes.{Datatypes}
use Rattle.must_derived.specs.Numbers.{number_of, construct_by, type_freed, freed_type, IsNext}
use Rattle.must_derived.specs.Steps.{Builds, built, Grows, MakesOf, IsRefused, IsRefusedOf, number_freed, FreesAt}
use Rattle.must_derived.specs.Standing.{IsLike, IsHeld, Suits, Fits, Stands, IsTypeLimit}
use Rattle.must_derived.proofs.Numbering.{number_past, number_new, number_other, number_made, tree_front, tree_there, tree_set, tree_gone, set_length, weight_more, weight_set}
use Rattle.must_derived.proofs.Sums.{sum_same, sum_without}
use Rattle.must_derived.proofs.Likes.{made_known, not_made}

none_some : {X : Type 0} {P : Type 0} (x : X) → None ≡ Some x → P
none_some x e = absurd cc

some_same : {X : Type 0} (x y : X) → Some x ≡ Some y → x ≡ y
some_same x y e = cc

and_false : (b : Bool) → (b && false) ≡ false
and_false true = refl
and_false false = refl

next_same : (k : ℕ) (l : Life) → next_life k false false l ≡ l
next_same k Never = refl
next_same k (Live made) = refl
next_same k (Freed made freed) = refl
next_same k Predefined = refl

while_none : (l : Life) → while_live l None ≡ None
while_none Never = refl
while_none (Live made) = refl
while_none (Freed made freed) = refl
while_none Predefined = refl

-- ---- a call that makes a handle

-- a handle that the call doesn't make keeps its life and its type
record Keeps (is_clear : Clearness) (calls : List Call) (call : Call) (h : ℕ) : Type 0 where
  life : life (calls ++ call ∷ []) Datatype h ≡ life calls Datatype h
  type : type_of is_clear (calls ++ call ∷ []) h ≡ type_of is_clear calls h

keeps : (is_clear : Clearness) (calls : List Call) (call : Call) (h : ℕ) → makes Datatype h call ≡ false → ends (is_kept calls Datatype h) Datatype h call ≡ false → Keeps is_clear calls call h
keeps is_clear calls call h makes_none ends_none = record {
  life = life_more calls call Datatype h ∙ (λ i. next_life (length calls) (makes_none i) (ends_none i) (life calls Datatype h)) ∙ next_same (length calls) (life calls Datatype h);
  type = type_more is_clear calls call h ∙ ap (λ b. cond b (clear_type (is_clear calls call) (type_of is_clear calls) call.body) (type_of is_clear calls h)) makes_none;
}

named : (class : Class) (n h : ℕ) (call : Call) → made_by call ≡ Some (class, n) → makes Datatype h call ≡ (same_class class Datatype && (n == h))
named class n h call e = ap (λ (o : Option ClassedHandle). is_handle Datatype h o) e

other_kept : (is_clear : Clearness) (calls : List Call) (call : Call) (class : Class) (n h : ℕ) → made_by call ≡ Some (class, n) → (h ≡ n → ⊥) → Keeps is_clear calls call h
other_kept is_clear calls call class n h e other =
    keeps is_clear calls call h (named class n h call e ∙ ap (λ b. same_class class Datatype && b) (ne_eqb n h (λ x. other (sym x))) ∙ and_false (same_class class Datatype)) (made_ends call (class, n) (is_kept calls Datatype h) Datatype h e)

-- what is known of the handle that the call makes
record Comes (is_clear : Clearness) (calls : List Call) (call : Call) (class : Class) (n : ℕ) : Type 0 where
  life : life (calls ++ call ∷ []) Datatype n ≡ cond (same_class class Datatype) (Live (length calls)) Never
  type : type_of is_clear (calls ++ call ∷ []) n ≡ cond (same_class class Datatype) (clear_type (is_clear calls call) (type_of is_clear calls) call.body) None

comes_by : (is_clear : Clearness) (calls : List Call) (call : Call) (class : Class) (n : ℕ) (b : Bool) → same_class class Datatype ≡ b → made_by call ≡ Some (class, n) → life calls Datatype n ≡ Never → type_of is_clear calls n ≡ None
    → Comes is_clear calls call class n
comes_by is_clear calls call class n b is e never unknown =
    let here : makes Datatype n call ≡ same_class class Datatype = named class n n call e ∙ ap (λ c. same_class class Datatype && c) (eq-eqb n n refl) ∙ and_true (same_class class Datatype) in
    record {
      life = life_more calls call Datatype n
          ∙ (λ i. next_life (length calls) (here i) (made_ends call (class, n) (is_kept calls Datatype n) Datatype n e i) (never i));
      type = type_more is_clear calls call n ∙ (λ i. cond (here i) (clear_type (is_clear calls call) (type_of is_clear calls) call.body) (unknown i));
    }
  where
    and_true : (c : Bool) → (c && true) ≡ c
    and_true true = refl
    and_true false = refl

fresh_type : (is_clear : Clearness) (calls : List Call) (types : Datatypes) (h : ℕ) → Stands is_clear types calls → 64 + length types.numbers ≤ h → type_of is_clear calls h ≡ None
fresh_type is_clear calls types h s past =
    subst (λ (o : Option TypeNo). Fits types.table.slots o (life calls Datatype h) (type_of is_clear calls h)) (number_past types.numbers h past) (s.fits h)

comes : (is_clear : Clearness) (calls : List Call) (call : Call) (types : Datatypes) (class : Class) (n : ℕ) → Stands is_clear types calls → made_by call ≡ Some (class, n) → n ≡ 64 + length types.numbers → Comes is_clear calls call class n
comes is_clear calls call types class n s e is =
    comes_by is_clear calls call class n (same_class class Datatype) refl e (s.fresh n (omega (arith, is))) (fresh_type is_clear calls types n s (omega (arith, is)))

-- the weights but for the new handle's
weights_kept : (is_clear : Clearness) (calls : List Call) (call : Call) (class : Class) (n : ℕ) → made_by call ≡ Some (class, n) → n ≡ 64 + made_count calls
    → types_weight is_clear (calls ++ call ∷ []) ≡ types_weight is_clear calls + weight_at is_clear (calls ++ call ∷ []) n
weights_kept is_clear calls call class n e is =
    let more : made_count (calls ++ call ∷ []) ≡ suc (made_count calls) = made_count_more calls call ∙ ap (λ o. made_count calls + made_now o) e ∙ omega arith in
    let new : ℕ → ℕ = λ i. weight_at is_clear (calls ++ call ∷ []) (64 + i) in
    let old : ℕ → ℕ = λ i. weight_at is_clear calls (64 + i) in
    ap (sum_below new) more
    ∙ ap (λ w. w + new (made_count calls)) (sum_same new old (made_count calls) (λ i below.
    let k = other_kept is_clear calls call class n (64 + i) e (λ x. omega (arith, x, is, below)) in
    (λ j. slot_weight (while_live (k.life j) (k.type j)))))
    ∙ ap (λ h. types_weight is_clear calls + weight_at is_clear (calls ++ call ∷ []) h) (sym is)

fresh_more : (is_clear : Clearness) (calls : List Call) (call : Call) (types : Datatypes) (class : Class) (n h : ℕ) → Stands is_clear types calls → made_by call ≡ Some (class, n) → n ≡ 64 + length types.numbers → 64 + (length types.numbers + 1) ≤ h
    → life (calls ++ call ∷ []) Datatype h ≡ Never
fresh_more is_clear calls call types class n h s e is past =
    let k = other_kept is_clear calls call class n h e (λ x. omega (arith, x, is, past)) in
    k.life ∙ s.fresh h (omega (arith, past))

size_more : (calls : List Call) (call : Call) (class : Class) (n : ℕ) (numbers : List (Option TypeNo)) (m : Option TypeNo) → length numbers ≡ made_count calls → made_by call ≡ Some (class, n) → length (numbers ++ m ∷ []) ≡ made_count (calls ++ call ∷ [])
size_more calls call class n numbers m size e =
    let more : made_count (calls ++ call ∷ []) ≡ made_count calls + 1 = made_count_more calls call ∙ ap (λ o. made_count calls + made_now o) e in
    length-append numbers (m ∷ []) ∙ omega (arith, size, more)

-- the call makes no type
stands_none : (is_clear : Clearness) (calls : List Call) (call : Call) (old new : Datatypes) (class : Class) (n : ℕ) → Stands is_clear old calls → made_by call ≡ Some (class, n) → n ≡ 64 + length old.numbers
    → type_of is_clear (calls ++ call ∷ []) n ≡ None → new.table ≡ old.table → new.numbers ≡ old.numbers ++ None ∷ [] → Stands is_clear new (calls ++ call ∷ [])
stands_none is_clear calls call old new class n s e is none same grown =
    let other : (h : ℕ) → number_of new.numbers h ≡ number_of old.numbers h = λ h. ap (λ (ns : List (Option TypeNo)). number_of ns h) grown ∙ at h (h == n) refl in
    let slots : new.table.slots ≡ old.table.slots = ap (λ (t : Types). t.slots) same in
    record {
      size = ap length grown ∙ size_more calls call class n old.numbers None s.size e;
      fits = λ h. fits h (h == n) refl (other h) slots;
      placed = λ h m x. subst (λ (ss : List (Option TypeTree)). m.number < length ss) (sym slots) (s.placed h m (sym (other h) ∙ x));
      apart = λ g h m x y. s.apart g h m (sym (other g) ∙ x) (sym (other h) ∙ y);
      fresh = λ h past. fresh_more is_clear calls call old class n h s e is (let longer : length new.numbers ≡ length old.numbers + 1 = ap length grown ∙ length-append old.numbers (None ∷ []) in omega (arith, past, longer));
      weighs = ap table.live_weight slots ∙ s.weighs ∙ sym (weights_kept is_clear calls call class n e (is ∙ ap (λ k. 64 + k) s.size) ∙ nothing);
    }
  where
    at : (h : ℕ) (b : Bool) → (h == n) ≡ b → number_of (old.numbers ++ None ∷ []) h ≡ number_of old.numbers h
    at h true t = number_new old.numbers None h (eqb-true h n t ∙ is) ∙ sym (number_past old.numbers h (let x = eqb-true h n t in omega (arith, x, is)))
    at h false t = number_other old.numbers None h (λ x. let y : h ≡ n = x ∙ sym is in let bad : false ≡ true = sym t ∙ eq-eqb h n y in absurd cc)

    fits : (h : ℕ) (b : Bool) → (h == n) ≡ b → number_of new.numbers h ≡ number_of old.numbers h → new.table.slots ≡ old.table.slots → Fits new.table.slots (number_of new.numbers h) (life (calls ++ call ∷ []) Datatype h) (type_of is_clear (calls ++ call ∷ []) h)
    fits h true t o slots =
        let x = eqb-true h n t in
        let past : number_of old.numbers h ≡ None = number_past old.numbers h (omega (arith, x, is)) in
        subst (λ (m : Option TypeNo). Fits new.table.slots m (life (calls ++ call ∷ []) Datatype h) (type_of is_clear (calls ++ call ∷ []) h)) (sym (o ∙ past)) (ap (type_of is_clear (calls ++ call ∷ [])) x ∙ none)
    fits h false t o slots =
        let k = other_kept is_clear calls call class n h e (λ y. let bad : false ≡ true = sym t ∙ eq-eqb h n y in absurd cc) in
        subst (λ (ss : List (Option TypeTree)). Fits ss (number_of new.numbers h) (life (calls ++ call ∷ []) Datatype h) (type_of is_clear (calls ++ call ∷ []) h)) (sym slots)
        (subst (λ (m : Option TypeNo). Fits old.table.slots m (life (calls ++ call ∷ []) Datatype h) (type_of is_clear (calls ++ call ∷ []) h)) (sym o)
        (subst (λ (l : Life). Fits old.table.slots (number_of old.numbers h) l (type_of is_clear (calls ++ call ∷ []) h)) (sym k.life)
        (subst (λ (t' : Option TypeTree). Fits old.table.slots (number_of old.numbers h) (life calls Datatype h) t') (sym k.type) (s.fits h))))

    nothing : types_weight is_clear calls + weight_at is_clear (calls ++ call ∷ []) n ≡ types_weight is_clear calls
    nothing =
        let zero_weight : weight_at is_clear (calls ++ call ∷ []) n ≡ 0 = ap (λ (t : Option TypeTree). slot_weight (while_live (life (calls ++ call ∷ []) Datatype n) t)) none ∙ ap slot_weight (while_none (life (calls ++ call ∷ []) Datatype n)) in
        omega (arith, zero_weight)

-- ---- what the call makes

record Typed (is_clear : Clearness) (calls : List Call) (call : Call) (old : Datatypes) (builds : Builds old.table old.numbers call.body) : Type 0 where
  type : TypeTree
  is : type_made (type_of is_clear calls) call.body ≡ Some type
  like : IsLike (built old.table old.numbers call.body builds) type
  derived : IsDerived (Some type)

typed_by : (is_clear : Clearness) (calls : List Call) (old : Datatypes) (b : Body) (c : Construct) → Stands is_clear old calls → construct_by old.numbers b ≡ Some c → AreLive old.table.slots (old_numbers c)
    → (t : TypeTree) × (type_made (type_of is_clear calls) b ≡ Some t) × IsLike (table.made_of old.table.slots c) t × IsDerived (Some t)
typed_by is_clear calls old (Derive derive) c s e live =
    let m = made_known old.numbers old.table.slots (life calls Datatype) (type_of is_clear calls) derive c s.fits e live in
    (m.type, m.is, m.like, m.derived)
typed_by is_clear calls old _ c s e live = none_some c e

typed : (is_clear : Clearness) (calls : List Call) (call : Call) (old : Datatypes) (builds : Builds old.table old.numbers call.body) → Stands is_clear old calls → Typed is_clear calls call old builds
typed is_clear calls call old builds s =
    let p = typed_by is_clear calls old call.body builds.call s builds.call_is builds.live in
    record { type = p.0; is = p.1; like = p.2; derived = p.3 }

untyped : (is_clear : Clearness) (calls : List Call) (old : Datatypes) (b : Body) → Stands is_clear old calls → construct_by old.numbers b ≡ None → type_made (type_of is_clear calls) b ≡ None
untyped is_clear calls old (Derive derive) s e = not_made old.numbers old.table.slots (life calls Datatype) (type_of is_clear calls) derive s.fits e
untyped is_clear calls old _ s e = refl

-- the call makes a type
stands_some : (is_clear : Clearness) (calls : List Call) (call : Call) (old new : Datatypes) (n : ℕ) (m : TypeNo) → Stands is_clear old calls → made_by call ≡ Some (Datatype, n) → n ≡ 64 + length old.numbers → is_clear calls call ≡ true
    → Grows old.table old.numbers call.body m new.table → new.numbers ≡ old.numbers ++ Some m ∷ [] → Stands is_clear new (calls ++ call ∷ [])
stands_some is_clear calls call old new n m s e is clear grows grown =
    let c = comes is_clear calls call old Datatype n s e is in
    let t = typed is_clear calls call old grows.builds s in
    let tree : TypeTree = built old.table old.numbers call.body grows.builds in
    let slots : new.table.slots ≡ old.table.slots ++ Some tree ∷ [] = ap (λ (x : Types). x.slots) grows.new_is in
    let type : type_of is_clear (calls ++ call ∷ []) n ≡ Some t.type = c.type ∙ ap (λ b. clear_type b (type_of is_clear calls) call.body) clear ∙ t.is in
    let longer : length new.table.slots ≡ length old.table.slots + 1 = ap length slots ∙ length-append old.table.slots (Some tree ∷ []) in
    let here : number_of new.numbers n ≡ Some m = ap (λ (ns : List (Option TypeNo)). number_of ns n) grown ∙ number_new old.numbers (Some m) n is in
    let there : tree_at new.table.slots m.number ≡ Some tree = ap (λ (ss : List (Option TypeTree)). tree_at ss m.number) slots ∙ ap (tree_at (old.table.slots ++ Some tree ∷ [])) grows.number ∙ tree_there old.table.slots (Some tree) in
    let other : (h : ℕ) → (h ≡ n → ⊥) → number_of new.numbers h ≡ number_of old.numbers h = λ h apart. ap (λ (ns : List (Option TypeNo)). number_of ns h) grown ∙ number_other old.numbers (Some m) h (λ x. apart (x ∙ sym is)) in
    let new_type : type_of is_clear (calls ++ call ∷ []) n ≡ Some t.type = type in
    record {
      size = ap length grown ∙ size_more calls call Datatype n old.numbers (Some m) s.size e;
      fits = λ h. fits h (h == n) refl c.life type here there slots other;
      placed = λ h k x. placed h k (h == n) refl x here other longer;
      apart = λ g h k x y. apart g h k (g == n) (h == n) refl refl x y here other;
      fresh = λ h past. fresh_more is_clear calls call old Datatype n h s e is (let l : length new.numbers ≡ length old.numbers + 1 = ap length grown ∙ length-append old.numbers (Some m ∷ []) in omega (arith, past, l));
      weighs =
          (let added : weight_at is_clear (calls ++ call ∷ []) n ≡ slot_weight (Some tree) =
          (λ i. slot_weight (while_live (c.life i) (new_type i))) ∙ sym t.like.slot in
          let kept = weights_kept is_clear calls call Datatype n e (is ∙ ap (λ k. 64 + k) s.size) in
          let more = ap table.live_weight slots ∙ weight_more old.table.slots (Some tree) in
          omega (arith, added, kept, more, s.weighs));
    }
  where
    fits : (h : ℕ) (b : Bool) → (h == n) ≡ b → life (calls ++ call ∷ []) Datatype n ≡ Live (length calls) → type_of is_clear (calls ++ call ∷ []) n ≡ Some (typed is_clear calls call old grows.builds s).type
        → number_of new.numbers n ≡ Some m → tree_at new.table.slots m.number ≡ Some (built old.table old.numbers call.body grows.builds) → new.table.slots ≡ old.table.slots ++ Some (built old.table old.numbers call.body grows.builds) ∷ []
        → ((k : ℕ) → (k ≡ n → ⊥) → number_of new.numbers k ≡ number_of old.numbers k)
        → Fits new.table.slots (number_of new.numbers h) (life (calls ++ call ∷ []) Datatype h) (type_of is_clear (calls ++ call ∷ []) h)
    fits h true b lives type here there slots other =
        let x = eqb-true h n b in
        let t = typed is_clear calls call old grows.builds s in
        let held : IsHeld (tree_at new.table.slots m.number) t.type = record { held = built old.table old.numbers call.body grows.builds; at_is = there; like = t.like; derived = tt } in
        subst (λ (k : ℕ). Fits new.table.slots (number_of new.numbers k) (life (calls ++ call ∷ []) Datatype k) (type_of is_clear (calls ++ call ∷ []) k)) (sym x)
        (subst (λ (o : Option TypeNo). Fits new.table.slots o (life (calls ++ call ∷ []) Datatype n) (type_of is_clear (calls ++ call ∷ []) n)) (sym here)
        (subst (λ (l : Life). Suits (tree_at new.table.slots m.number) l (type_of is_clear (calls ++ call ∷ []) n)) (sym lives)
        (subst (λ (o : Option TypeTree). Suits (tree_at new.table.slots m.number) (Live (length calls)) o) (sym type) held)))
    fits h false b lives type here there slots other =
        let apart : h ≡ n → ⊥ = λ y. (let bad : false ≡ true = sym b ∙ eq-eqb h n y in absurd cc) in
        let k = other_kept is_clear calls call Datatype n h e apart in
        subst (λ (o : Option TypeNo). Fits new.table.slots o (life (calls ++ call ∷ []) Datatype h) (type_of is_clear (calls ++ call ∷ []) h)) (sym (other h apart))
        (subst (λ (l : Life). Fits new.table.slots (number_of old.numbers h) l (type_of is_clear (calls ++ call ∷ []) h)) (sym k.life)
        (subst (λ (o : Option TypeTree). Fits new.table.slots (number_of old.numbers h) (life calls Datatype h) o) (sym k.type)
        (same (number_of old.numbers h) refl slots (s.fits h))))
      where
        same : (o : Option TypeNo) → number_of old.numbers h ≡ o → new.table.slots ≡ old.table.slots ++ Some (built old.table old.numbers call.body grows.builds) ∷ []
            → Fits old.table.slots o (life calls Datatype h) (type_of is_clear calls h) → Fits new.table.slots o (life calls Datatype h) (type_of is_clear calls h)
        same None x y f = f
        same (Some j) x y f =
            subst (λ (at : Option TypeTree). Suits at (life calls Datatype h) (type_of is_clear calls h))
            (sym (ap (λ (ss : List (Option TypeTree)). tree_at ss j.number) y ∙ tree_front old.table.slots (Some (built old.table old.numbers call.body grows.builds)) j.number (s.placed h j x))) f

    placed : (h : ℕ) (k : TypeNo) (b : Bool) → (h == n) ≡ b → number_of new.numbers h ≡ Some k → number_of new.numbers n ≡ Some m → ((j : ℕ) → (j ≡ n → ⊥) → number_of new.numbers j ≡ number_of old.numbers j)
        → length new.table.slots ≡ length old.table.slots + 1 → k.number < length new.table.slots
    placed h k true b x here other longer =
        let at : Some m ≡ Some k = sym here ∙ ap (number_of new.numbers) (sym (eqb-true h n b)) ∙ x in
        let y : m.number ≡ k.number = ap (λ (j : TypeNo). j.number) (some_same m k at) in
        omega (arith, y, grows.number, longer)
    placed h k false b x here other longer =
        let apart : h ≡ n → ⊥ = λ y. (let bad : false ≡ true = sym b ∙ eq-eqb h n y in absurd cc) in
        let y = s.placed h k (sym (other h apart) ∙ x) in
        omega (arith, y, longer)

    apart : (g h : ℕ) (k : TypeNo) (a b : Bool) → (g == n) ≡ a → (h == n) ≡ b → number_of new.numbers g ≡ Some k → number_of new.numbers h ≡ Some k → number_of new.numbers n ≡ Some m
        → ((j : ℕ) → (j ≡ n → ⊥) → number_of new.numbers j ≡ number_of old.numbers j) → g ≡ h
    apart g h k true true a b x y here other = eqb-true g n a ∙ sym (eqb-true h n b)
    apart g h k true false a b x y here other =
        let away : h ≡ n → ⊥ = λ z. (let bad : false ≡ true = sym b ∙ eq-eqb h n z in absurd cc) in
        let at : Some m ≡ Some k = sym here ∙ ap (number_of new.numbers) (sym (eqb-true g n a)) ∙ x in
        let same : m.number ≡ k.number = ap (λ (j : TypeNo). j.number) (some_same m k at) in
        let below = s.placed h k (sym (other h away) ∙ y) in
        absurd (omega (arith, same, below, grows.number))
    apart g h k false true a b x y here other =
        let away : g ≡ n → ⊥ = λ z. (let bad : false ≡ true = sym a ∙ eq-eqb g n z in absurd cc) in
        let at : Some m ≡ Some k = sym here ∙ ap (number_of new.numbers) (sym (eqb-true h n b)) ∙ y in
        let same : m.number ≡ k.number = ap (λ (j : TypeNo). j.number) (some_same m k at) in
        let below = s.placed g k (sym (other g away) ∙ x) in
        absurd (omega (arith, same, below, grows.number))
    apart g h k false false a b x y here other =
        let away : g ≡ n → ⊥ = λ z. (let bad : false ≡ true = sym a ∙ eq-eqb g n z in absurd cc) in
        let off : h ≡ n → ⊥ = λ z. (let bad : false ≡ true = sym b ∙ eq-eqb h n z in absurd cc) in
        s.apart g h k (sym (other g away) ∙ x) (sym (other h off) ∙ y)

-- a call that makes a handle
pub stands_made : (is_clear : Clearness) (calls : List Call) (call : Call) (old new : Datatypes) (class : Class) (n : ℕ) (clear : Bool) (m : Option TypeNo) → Stands is_clear old calls → IsNext old.numbers call → made_by call ≡ Some (class, n) → clear ≡ is_clear calls call
    → MakesOf class clear old.table old.numbers call.body m new.table → new.numbers ≡ old.numbers ++ m ∷ [] → Stands is_clear new (calls ++ call ∷ [])
stands_made is_clear calls call old new Datatype n true (Some m) s next e clear makes grown = stands_some is_clear calls call old new n m s e (next Datatype n e) (sym clear) makes grown
stands_made is_clear calls call old new Datatype n true None s next e clear makes grown =
    let c = comes is_clear calls call old Datatype n s e (next Datatype n e) in
    stands_none is_clear calls call old new Datatype n s e (next Datatype n e) (c.type ∙ ap (λ b. clear_type b (type_of is_clear calls) call.body) (sym clear) ∙ untyped is_clear calls old call.body s makes.0) makes.1 grown
stands_made is_clear calls call old new Datatype n false m s next e clear makes grown =
    let c = comes is_clear calls call old Datatype n s e (next Datatype n e) in
    stands_none is_clear calls call old new Datatype n s e (next Datatype n e) (c.type ∙ ap (λ b. clear_type b (type_of is_clear calls) call.body) (sym clear)) makes.1
    (grown ∙ ap (λ (o : Option TypeNo). old.numbers ++ o ∷ []) makes.0)
stands_made is_clear calls call old new Comm n clear m s next e c makes grown =
    stands_none is_clear calls call old new Comm n s e (next Comm n e) (comes is_clear calls call old Comm n s e (next Comm n e)).type makes.1 (grown ∙ ap (λ (o : Option TypeNo). old.numbers ++ o ∷ []) makes.0)
stands_made is_clear calls call old new Group n clear m s next e c makes grown =
    stands_none is_clear calls call old new Group n s e (next Group n e) (comes is_clear calls call old Group n s e (next Group n e)).type makes.1 (grown ∙ ap (λ (o : Option TypeNo). old.numbers ++ o ∷ []) makes.0)
stands_made is_clear calls call old new Operation n clear m s next e c makes grown =
    stands_none is_clear calls call old new Operation n s e (next Operation n e) (comes is_clear calls call old Operation n s e (next Operation n e)).type makes.1 (grown ∙ ap (λ (o : Option TypeNo). old.numbers ++ o ∷ []) makes.0)
stands_made is_clear calls call old new Request n clear m s next e c makes grown =
    stands_none is_clear calls call old new Request n s e (next Request n e) (comes is_clear calls call old Request n s e (next Request n e)).type makes.1 (grown ∙ ap (λ (o : Option TypeNo). old.numbers ++ o ∷ []) makes.0)

-- ---- a call that makes no handle

abbrev is_freed : ℕ → Option ℕ → Bool
is_freed h None = false
is_freed h (Some d) = d == h

freed_by : (b : Body) (h : ℕ) → is_handle Datatype h (freed_of b) ≡ is_freed h (type_freed b)
freed_by (Finish (RequestFree request)) h = refl
freed_by (Derive (TypeFree dtype)) h = refl
freed_by (Object (OpFree op)) h = refl
freed_by (Object (GroupFree group)) h = refl
freed_by (Object (CommFree comm)) h = refl
freed_by _ h = refl

is_freed_none : (r : Bool) (o : Option ℕ) (h : ℕ) → (r && is_freed h o) ≡ is_freed h (cond r o None)
is_freed_none true o h = refl
is_freed_none false o h = refl

ends_is : (kept : Bool) (call : Call) (h : ℕ) → ends kept Datatype h call ≡ is_freed h (freed_type call)
unfolding frees completes
ends_is kept call h =
    ap (λ b. (call.returned && is_handle Datatype h (freed_of call.body)) || (not kept && b)) (and_false call.returned)
    ∙ ap (λ b. (call.returned && is_handle Datatype h (freed_of call.body)) || b) (and_false (not kept))
    ∙ or_false (call.returned && is_handle Datatype h (freed_of call.body))
    ∙ ap (λ b. call.returned && b) (freed_by call.body h) ∙ is_freed_none call.returned (type_freed call.body) h
  where
    or_false : (b : Bool) → (b || false) ≡ b
    or_false true = refl
    or_false false = refl

-- what a call that makes no handle leaves of one: it may end it
record Leaves (is_clear : Clearness) (calls : List Call) (call : Call) (h : ℕ) : Type 0 where
  life : life (calls ++ call ∷ []) Datatype h ≡ next_life (length calls) false (is_freed h (freed_type call)) (life calls Datatype h)
  type : type_of is_clear (calls ++ call ∷ []) h ≡ type_of is_clear calls h

leaves : (is_clear : Clearness) (calls : List Call) (call : Call) (h : ℕ) → made_by call ≡ None → Leaves is_clear calls call h
leaves is_clear calls call h e =
    let none : makes Datatype h call ≡ false = ap (λ (o : Option ClassedHandle). is_handle Datatype h o) e in
    record {
      life = life_more calls call Datatype h ∙ (λ i. next_life (length calls) (none i) (ends_is (is_kept calls Datatype h) call h i) (life calls Datatype h));
      type = type_more is_clear calls call h ∙ ap (λ b. cond b (clear_type (is_clear calls call) (type_of is_clear calls) call.body) (type_of is_clear calls h)) none;
    }

no_more : (calls : List Call) (call : Call) → made_by call ≡ None → made_count (calls ++ call ∷ []) ≡ made_count calls
no_more calls call e = made_count_more calls call ∙ ap (λ o. made_count calls + made_now o) e ∙ omega arith

never_next : (k : ℕ) (e : Bool) (l : Life) → l ≡ Never → next_life k false e l ≡ Never
never_next k e l is = ap (next_life k false e) is

-- what the table has of a type suits the life after the call, where the call doesn't end it
record Same (old new : Datatypes) : Type 0 where
  table : new.table ≡ old.table
  numbers : new.numbers ≡ old.numbers

-- nothing leaves the table: a handle that is freed stands for no type, or was no live one
stands_same : (is_clear : Clearness) (calls : List Call) (call : Call) (old new : Datatypes) → Stands is_clear old calls → made_by call ≡ None → Same old new
    → ((h : ℕ) → (number_of old.numbers h ≡ None) ⊎ (life (calls ++ call ∷ []) Datatype h ≡ life calls Datatype h)) → Stands is_clear new (calls ++ call ∷ [])
stands_same is_clear calls call old new s e same unchanged =
    let slots : new.table.slots ≡ old.table.slots = ap (λ (t : Types). t.slots) same.table in
    let kept : (h : ℕ) → Fits old.table.slots (number_of old.numbers h) (life (calls ++ call ∷ []) Datatype h) (type_of is_clear (calls ++ call ∷ []) h) = λ h. fits h (unchanged h) in
    record {
      size = ap length same.numbers ∙ s.size ∙ sym (no_more calls call e);
      fits = λ h. subst (λ (ss : List (Option TypeTree)). Fits ss (number_of new.numbers h) (life (calls ++ call ∷ []) Datatype h) (type_of is_clear (calls ++ call ∷ []) h)) (sym slots)
          (subst (λ (ns : List (Option TypeNo)). Fits old.table.slots (number_of ns h) (life (calls ++ call ∷ []) Datatype h) (type_of is_clear (calls ++ call ∷ []) h)) (sym same.numbers) (kept h));
      placed = λ h m x. subst (λ (ss : List (Option TypeTree)). m.number < length ss) (sym slots) (s.placed h m (ap (λ (ns : List (Option TypeNo)). number_of ns h) (sym same.numbers) ∙ x));
      apart = λ g h m x y. s.apart g h m (ap (λ (ns : List (Option TypeNo)). number_of ns g) (sym same.numbers) ∙ x) (ap (λ (ns : List (Option TypeNo)). number_of ns h) (sym same.numbers) ∙ y);
      fresh = λ h past. (leaves is_clear calls call h e).life ∙ never_next (length calls) (is_freed h (freed_type call)) (life calls Datatype h) (s.fresh h (let l : length new.numbers ≡ length old.numbers = ap length same.numbers in omega (arith, past, l)));
      weighs = ap table.live_weight slots ∙ s.weighs
          ∙ ap (sum_below (λ i. weight_at is_clear calls (64 + i))) (sym (no_more calls call e))
          ∙ sum_same (λ i. weight_at is_clear calls (64 + i)) (λ i. weight_at is_clear (calls ++ call ∷ []) (64 + i)) (made_count (calls ++ call ∷ [])) (λ i below. weight (64 + i) (unchanged (64 + i)));
    }
  where
    fits : (h : ℕ) → (number_of old.numbers h ≡ None) ⊎ (life (calls ++ call ∷ []) Datatype h ≡ life calls Datatype h)
        → Fits old.table.slots (number_of old.numbers h) (life (calls ++ call ∷ []) Datatype h) (type_of is_clear (calls ++ call ∷ []) h)
    fits h (inl none) =
        let gone = subst (λ (o : Option TypeNo). Fits old.table.slots o (life calls Datatype h) (type_of is_clear calls h)) none (s.fits h) in
        subst (λ (o : Option TypeNo). Fits old.table.slots o (life (calls ++ call ∷ []) Datatype h) (type_of is_clear (calls ++ call ∷ []) h)) (sym none) ((leaves is_clear calls call h e).type ∙ gone)
    fits h (inr lives) =
        subst (λ (l : Life). Fits old.table.slots (number_of old.numbers h) l (type_of is_clear (calls ++ call ∷ []) h)) (sym lives)
        (subst (λ (o : Option TypeTree). Fits old.table.slots (number_of old.numbers h) (life calls Datatype h) o) (sym (leaves is_clear calls call h e).type) (s.fits h))

    weight : (h : ℕ) → (number_of old.numbers h ≡ None) ⊎ (life (calls ++ call ∷ []) Datatype h ≡ life calls Datatype h) → weight_at is_clear calls h ≡ weight_at is_clear (calls ++ call ∷ []) h
    weight h (inl none) =
        let gone = subst (λ (o : Option TypeNo). Fits old.table.slots o (life calls Datatype h) (type_of is_clear calls h)) none (s.fits h) in
        ap (λ (o : Option TypeTree). slot_weight (while_live (life calls Datatype h) o)) gone ∙ ap slot_weight (while_none (life calls Datatype h))
        ∙ sym (ap (λ (o : Option TypeTree). slot_weight (while_live (life (calls ++ call ∷ []) Datatype h) o)) ((leaves is_clear calls call h e).type ∙ gone) ∙ ap slot_weight (while_none (life (calls ++ call ∷ []) Datatype h)))
    weight h (inr lives) = λ i. slot_weight (while_live (sym lives i) (sym (leaves is_clear calls call h e).type i))

-- a derived type leaves the table
stands_freed : (is_clear : Clearness) (calls : List Call) (call : Call) (old new : Datatypes) (d made : ℕ) (m : TypeNo) (t : TypeTree) → Stands is_clear old calls → made_by call ≡ None → freed_type call ≡ Some d → number_of old.numbers d ≡ Some m
    → life calls Datatype d ≡ Live made → type_of is_clear calls d ≡ Some t → IsHeld (tree_at old.table.slots m.number) t → is_predefined Datatype d ≡ false
    → new.table ≡ record old.table { slots = slice_set old.table.slots m.number None } → new.numbers ≡ old.numbers → Stands is_clear new (calls ++ call ∷ [])
stands_freed is_clear calls call old new d made m t s e freed number lives type held derived table_is same =
    let slots : new.table.slots ≡ slice_set old.table.slots m.number None = ap (λ (x : Types). x.slots) table_is in
    let gone : life (calls ++ call ∷ []) Datatype d ≡ Freed made (length calls) =
    (leaves is_clear calls call d e).life ∙ (λ i. next_life (length calls) false (is_freed d (freed i)) (lives i)) ∙ ap (λ b. cond b (Freed made (length calls)) (Live made)) (eq-eqb d d refl) in
    let other : (h : ℕ) → (d ≡ h → ⊥) → life (calls ++ call ∷ []) Datatype h ≡ life calls Datatype h = λ h apart.
    (leaves is_clear calls call h e).life ∙ (λ i. next_life (length calls) false (is_freed h (freed i)) (life calls Datatype h)) ∙ ap (λ b. next_life (length calls) false b (life calls Datatype h)) (ne_eqb d h apart) ∙ next_same (length calls) (life calls Datatype h) in
    let within = number_made old.numbers d m derived number in
    record {
      size = ap length same ∙ s.size ∙ sym (no_more calls call e);
      fits = λ h. subst (λ (ss : List (Option TypeTree)). Fits ss (number_of new.numbers h) (life (calls ++ call ∷ []) Datatype h) (type_of is_clear (calls ++ call ∷ []) h)) (sym slots)
          (subst (λ (ns : List (Option TypeNo)). Fits (slice_set old.table.slots m.number None) (number_of ns h) (life (calls ++ call ∷ []) Datatype h) (type_of is_clear (calls ++ call ∷ []) h)) (sym same) (fits h (d == h) refl gone other));
      placed = λ h k x. subst (λ (ss : List (Option TypeTree)). k.number < length ss) (sym slots)
          (let y = s.placed h k (ap (λ (ns : List (Option TypeNo)). number_of ns h) (sym same) ∙ x) in let l = set_length old.table.slots m.number in omega (arith, y, l));
      apart = λ g h k x y. s.apart g h k (ap (λ (ns : List (Option TypeNo)). number_of ns g) (sym same) ∙ x) (ap (λ (ns : List (Option TypeNo)). number_of ns h) (sym same) ∙ y);
      fresh = λ h past. (leaves is_clear calls call h e).life ∙ never_next (length calls) (is_freed h (freed_type call)) (life calls Datatype h) (s.fresh h (let l : length new.numbers ≡ length old.numbers = ap length same in omega (arith, past, l)));
      weighs =
          (let old_sum : ℕ → ℕ = λ i. weight_at is_clear calls (64 + i) in
          let new_sum : ℕ → ℕ = λ i. weight_at is_clear (calls ++ call ∷ []) (64 + i) in
          let at : 64 + (d - 64) ≡ d = omega (arith, within.0) in
          let below : d - 64 < made_count calls = omega (arith, within.0, within.1, s.size) in
          let without = sum_without old_sum new_sum (made_count calls) (d - 64) below
          (ap (weight_at is_clear (calls ++ call ∷ [])) at ∙ ap (λ (l : Life). slot_weight (while_live l (type_of is_clear (calls ++ call ∷ []) d))) gone)
          (λ i inside apart. let off : d ≡ 64 + i → ⊥ = λ x. apart (omega (arith, x)) in λ j. slot_weight (while_live (sym (other (64 + i) off) j) (sym (leaves is_clear calls call (64 + i) e).type j))) in
          let here : old_sum (d - 64) ≡ slot_weight (Some held.held) = ap (weight_at is_clear calls) at ∙ (λ i. slot_weight (while_live (lives i) (type i))) ∙ sym held.like.slot in
          let taken = weight_set old.table.slots m.number in
          let tree : slot_weight (tree_at old.table.slots m.number) ≡ slot_weight (Some held.held) = ap slot_weight held.at_is in
          let left = ap table.live_weight slots in
          let count = ap (sum_below new_sum) (no_more calls call e) in
          omega (arith, without, here, taken, tree, left, count, s.weighs));
    }
  where
    fits : (h : ℕ) (b : Bool) → (d == h) ≡ b → life (calls ++ call ∷ []) Datatype d ≡ Freed made (length calls) → ((k : ℕ) → (d ≡ k → ⊥) → life (calls ++ call ∷ []) Datatype k ≡ life calls Datatype k)
        → Fits (slice_set old.table.slots m.number None) (number_of old.numbers h) (life (calls ++ call ∷ []) Datatype h) (type_of is_clear (calls ++ call ∷ []) h)
    fits h true b gone other =
        let x = eqb-true d h b in
        let types : type_of is_clear (calls ++ call ∷ []) d ≡ Some t = (leaves is_clear calls call d e).type ∙ type in
        subst (λ (k : ℕ). Fits (slice_set old.table.slots m.number None) (number_of old.numbers k) (life (calls ++ call ∷ []) Datatype k) (type_of is_clear (calls ++ call ∷ []) k)) x
        (subst (λ (o : Option TypeNo). Fits (slice_set old.table.slots m.number None) o (life (calls ++ call ∷ []) Datatype d) (type_of is_clear (calls ++ call ∷ []) d)) (sym number)
        (subst (λ (l : Life). Suits (tree_at (slice_set old.table.slots m.number None) m.number) l (type_of is_clear (calls ++ call ∷ []) d)) (sym gone)
        (subst (λ (o : Option TypeTree). Suits (tree_at (slice_set old.table.slots m.number None) m.number) (Freed made (length calls)) o) (sym types) (tree_gone old.table.slots m.number))))
    fits h false b gone other =
        let apart : d ≡ h → ⊥ = λ y. (let bad : false ≡ true = sym b ∙ eq-eqb d h y in absurd cc) in
        subst (λ (l : Life). Fits (slice_set old.table.slots m.number None) (number_of old.numbers h) l (type_of is_clear (calls ++ call ∷ []) h)) (sym (other h apart))
        (subst (λ (o : Option TypeTree). Fits (slice_set old.table.slots m.number None) (number_of old.numbers h) (life calls Datatype h) o) (sym (leaves is_clear calls call h e).type)
        (same_at (number_of old.numbers h) refl (s.fits h)))
      where
        same_at : (o : Option TypeNo) → number_of old.numbers h ≡ o → Fits old.table.slots o (life calls Datatype h) (type_of is_clear calls h) → Fits (slice_set old.table.slots m.number None) o (life calls Datatype h) (type_of is_clear calls h)
        same_at None x f = f
        same_at (Some j) x f =
            let away : j.number ≡ m.number → ⊥ = λ y.
            (let same_number : j ≡ m = λ i. record { number = y i } in
            let one : Some j ≡ Some m = ap (λ (k : TypeNo). Some k) same_number in
            let bad : false ≡ true = sym b ∙ eq-eqb d h (s.apart d h m number (x ∙ one)) in absurd cc) in
            subst (λ (at : Option TypeTree). Suits at (life calls Datatype h) (type_of is_clear calls h)) (sym (tree_set old.table.slots m.number j.number away)) f

not_named : (calls : List Call) (h k : ℕ) → life calls Datatype h ≡ Live k → is_predefined Datatype h ≡ false
unfolding life
not_named calls h k x = by (is_predefined Datatype h) x
  where
    by : (b : Bool) → cond b Predefined (life_by calls Datatype h (first_where (makes Datatype h) calls)) ≡ Live k → b ≡ false
    by true y = let bad : Predefined ≡ Live k = y in absurd cc
    by false y = refl

-- a call that makes no handle
pub stands_left : (is_clear : Clearness) (calls : List Call) (call : Call) (old new : Datatypes) → Stands is_clear old calls → made_by call ≡ None → FreesAt old.table (number_freed old.numbers (freed_type call)) new.table → new.numbers ≡ old.numbers
    → Stands is_clear new (calls ++ call ∷ [])
stands_left is_clear calls call old new s e frees same = at (freed_type call) refl frees
  where
    unfreed : (h : ℕ) → is_freed h (freed_type call) ≡ false → life (calls ++ call ∷ []) Datatype h ≡ life calls Datatype h
    unfreed h none = (leaves is_clear calls call h e).life ∙ ap (λ b. next_life (length calls) false b (life calls Datatype h)) none ∙ next_same (length calls) (life calls Datatype h)

    by_life : (d : ℕ) (m : TypeNo) (l : Life) (t : Option TypeTree) → freed_type call ≡ Some d → number_of old.numbers d ≡ Some m → life calls Datatype d ≡ l → type_of is_clear calls d ≡ t → Suits (tree_at old.table.slots m.number) l t → FreesAt old.table (Some m) new.table
        → Stands is_clear new (calls ++ call ∷ [])
    by_life d m l None f number lives type suits at = absurd suits
    by_life d m (Live made) (Some t) f number lives type held (inl taken) =
        stands_freed is_clear calls call old new d made m t s e f number lives type held (not_named calls d made lives) taken.1 same
    by_life d m (Live made) (Some t) f number lives type held (inr kept) = absurd (kept.0 (subst (λ (o : Option TypeTree). IsDerived o) (sym held.at_is) held.derived))
    by_life d m Predefined (Some t) f number lives type suits (inl taken) = absurd (suits.1 (subst (λ (o : Option TypeTree). IsDerived o) suits.0 taken.0))
    by_life d m Predefined (Some t) f number lives type suits (inr kept) =
        stands_same is_clear calls call old new s e (record { table = kept.1; numbers = same }) (λ h. inr (still h (d == h) refl))
      where
        still : (h : ℕ) (b : Bool) → (d == h) ≡ b → life (calls ++ call ∷ []) Datatype h ≡ life calls Datatype h
        still h true b =
            let x = eqb-true d h b in
            let here : life calls Datatype h ≡ Predefined = ap (life calls Datatype) (sym x) ∙ lives in
            (leaves is_clear calls call h e).life ∙ ap (next_life (length calls) false (is_freed h (freed_type call))) here ∙ sym here
        still h false b = unfreed h (ap (is_freed h) f ∙ b)
    by_life d m (Freed made freed) (Some t) f number lives type suits (inl taken) = absurd (subst (λ (o : Option TypeTree). IsDerived o) suits taken.0)
    by_life d m (Freed made freed) (Some t) f number lives type suits (inr kept) =
        stands_same is_clear calls call old new s e (record { table = kept.1; numbers = same }) (λ h. inr (still h (d == h) refl))
      where
        still : (h : ℕ) (b : Bool) → (d == h) ≡ b → life (calls ++ call ∷ []) Datatype h ≡ life calls Datatype h
        still h true b =
            let x = eqb-true d h b in
            let here : life calls Datatype h ≡ Freed made freed = ap (life calls Datatype) (sym x) ∙ lives in
            (leaves is_clear calls call h e).life ∙ ap (next_life (length calls) false (is_freed h (freed_type call))) here ∙ sym here
        still h false b = unfreed h (ap (is_freed h) f ∙ b)
    by_life d m Never (Some t) f number lives type suits at = absurd suits

    by_number : (d : ℕ) (o : Option TypeNo) → freed_type call ≡ Some d → number_of old.numbers d ≡ o → FreesAt old.table o new.table → Stands is_clear new (calls ++ call ∷ [])
    by_number d None f number kept =
        stands_same is_clear calls call old new s e (record { table = kept; numbers = same }) (λ h. still h (d == h) refl)
      where
        still : (h : ℕ) (b : Bool) → (d == h) ≡ b → (number_of old.numbers h ≡ None) ⊎ (life (calls ++ call ∷ []) Datatype h ≡ life calls Datatype h)
        still h true b = inl (ap (number_of old.numbers) (sym (eqb-true d h b)) ∙ number)
        still h false b = inr (unfreed h (ap (is_freed h) f ∙ b))
    by_number d (Some m) f number at =
        by_life d m (life calls Datatype d) (type_of is_clear calls d) f number refl refl (subst (λ (o : Option TypeNo). Fits old.table.slots o (life calls Datatype d) (type_of is_clear calls d)) number (s.fits d)) at

    at : (o : Option ℕ) → freed_type call ≡ o → FreesAt old.table (number_freed old.numbers (freed_type call)) new.table → Stands is_clear new (calls ++ call ∷ [])
    at None f kept = stands_same is_clear calls call old new s e (record { table = subst (λ (o : Option ℕ). FreesAt old.table (number_freed old.numbers o) new.table) f kept; numbers = same }) (λ h. inr (unfreed h (ap (is_freed h) f)))
    at (Some d) f kept = by_number d (number_of old.numbers d) f refl (subst (λ (o : Option ℕ). FreesAt old.table (number_freed old.numbers o) new.table) f kept)

-- ---- limits

reach_like : (t u : TypeTree) → IsLike t u → IsWithinReach t → IsWithinReach u
reach_like t u like w = record {
  shallow = subst (λ n. n ≤ 256) like.depth w.shallow;
  small = subst (λ (es : List Entry). size es ≤ 2 ^ 62) like.map w.small;
  lower_near = subst (λ (es : List Entry). IsNear (lower es)) like.map w.lower_near;
  upper_near = subst (λ (es : List Entry). IsNear (upper es)) like.map w.upper_near;
  entries_near = subst (λ (es : List Entry). AllByRecursion IsNearEntry es) like.map w.entries_near;
}

turned : (t u : TypeTree) → IsLike t u → IsLike u t
turned t u like = record { map = sym like.map; weight = sym like.weight; depth = sym like.depth; slot = sym like.slot }

fits_limit : (most live : ℕ) (o : Option TypeTree) (t u : TypeTree) → o ≡ Some u → IsLike t u → live + weight t ≤ most → IsWithinReach t → type_limit most live o ≡ None
fits_limit most live o t u is like light within =
    ap (type_limit most live) is
    ∙ ap (λ b. cond b (Some TypeWeight) (cond (is_within_reach u) None (Some TypeReach))) (le-ltb most (live + weight u) (let w = like.weight in omega (arith, w, light)))
    ∙ ap (λ b. cond b None (Some TypeReach)) (reach_told u (reach_like t u like within))

heavy_limit : (most live : ℕ) (o : Option TypeTree) (t u : TypeTree) → o ≡ Some u → IsLike t u → most < live + weight t → type_limit most live o ≡ Some TypeWeight
heavy_limit most live o t u is like heavy =
    ap (type_limit most live) is ∙ ap (λ b. cond b (Some TypeWeight) (cond (is_within_reach u) None (Some TypeReach))) (lt-ltb most (live + weight u) (let w = like.weight in omega (arith, w, heavy)))

wide_limit : (most live : ℕ) (o : Option TypeTree) (t u : TypeTree) → o ≡ Some u → IsLike t u → live + weight t ≤ most → (IsWithinReach t → ⊥) → type_limit most live o ≡ Some TypeReach
wide_limit most live o t u is like light wide =
    ap (type_limit most live) is
    ∙ ap (λ b. cond b (Some TypeWeight) (cond (is_within_reach u) None (Some TypeReach))) (le-ltb most (live + weight u) (let w = like.weight in omega (arith, w, light)))
    ∙ ap (λ b. cond b None (Some TypeReach)) (beyond (is_within_reach u) refl)
  where
    beyond : (b : Bool) → is_within_reach u ≡ b → is_within_reach u ≡ false
    beyond true e = absurd (wide (reach_like u t (turned t u like) (reach_is u e)))
    beyond false e = e

-- what the call's limit is where it makes a handle of this class
limit_by : (most : ℕ) (is_clear : Clearness) (calls : List Call) (call : Call) (class : Class) (n : ℕ) → made_by call ≡ Some (class, n)
    → type_limit_at most is_clear calls call ≡ cond (same_class class Datatype) (type_limit most (types_weight is_clear calls) (clear_type (is_clear calls call) (type_of is_clear calls) call.body)) None
unfolding type_limit_at
limit_by most is_clear calls call class n e = ap (λ (o : Option ClassedHandle). made_limit o most (types_weight is_clear calls) (clear_type (is_clear calls call) (type_of is_clear calls) call.body)) e

pub left_limit : (most : ℕ) (is_clear : Clearness) (calls : List Call) (call : Call) → made_by call ≡ None → type_limit_at most is_clear calls call ≡ None
unfolding type_limit_at
left_limit most is_clear calls call e = ap (λ (o : Option ClassedHandle). made_limit o most (types_weight is_clear calls) (clear_type (is_clear calls call) (type_of is_clear calls) call.body)) e

clear_made : (is_clear : Clearness) (calls : List Call) (call : Call) → is_clear calls call ≡ true → clear_type (is_clear calls call) (type_of is_clear calls) call.body ≡ type_made (type_of is_clear calls) call.body
clear_made is_clear calls call e = ap (λ b. clear_type b (type_of is_clear calls) call.body) e

pub made_within : (is_clear : Clearness) (calls : List Call) (call : Call) (old : Datatypes) (table : Types) (class : Class) (n : ℕ) (clear : Bool) (m : Option TypeNo) → Stands is_clear old calls → made_by call ≡ Some (class, n) → clear ≡ is_clear calls call
    → MakesOf class clear old.table old.numbers call.body m table → type_limit_at old.table.weight_limit is_clear calls call ≡ None
made_within is_clear calls call old table Datatype n true (Some m) s e clear makes =
    let t = typed is_clear calls call old makes.builds s in
    limit_by old.table.weight_limit is_clear calls call Datatype n e
    ∙ fits_limit old.table.weight_limit (types_weight is_clear calls) (clear_type (is_clear calls call) (type_of is_clear calls) call.body) (built old.table old.numbers call.body makes.builds) t.type
    (clear_made is_clear calls call (sym clear) ∙ t.is) t.like (let w = s.weighs in omega (arith, makes.light, w)) makes.within
made_within is_clear calls call old table Datatype n true None s e clear makes =
    limit_by old.table.weight_limit is_clear calls call Datatype n e ∙ ap (type_limit old.table.weight_limit (types_weight is_clear calls)) (clear_made is_clear calls call (sym clear) ∙ untyped is_clear calls old call.body s makes.0)
made_within is_clear calls call old table Datatype n false m s e clear makes =
    limit_by old.table.weight_limit is_clear calls call Datatype n e ∙ ap (λ b. type_limit old.table.weight_limit (types_weight is_clear calls) (clear_type b (type_of is_clear calls) call.body)) (sym clear)
made_within is_clear calls call old table Comm n clear m s e c makes = limit_by old.table.weight_limit is_clear calls call Comm n e
made_within is_clear calls call old table Group n clear m s e c makes = limit_by old.table.weight_limit is_clear calls call Group n e
made_within is_clear calls call old table Operation n clear m s e c makes = limit_by old.table.weight_limit is_clear calls call Operation n e
made_within is_clear calls call old table Request n clear m s e c makes = limit_by old.table.weight_limit is_clear calls call Request n e

refused_type : (is_clear : Clearness) (calls : List Call) (call : Call) (old : Datatypes) (n : ℕ) (f : TypeFault) → Stands is_clear old calls → made_by call ≡ Some (Datatype, n) → is_clear calls call ≡ true → IsRefused old.table old.numbers call.body f → IsTypeLimit (type_limit_at old.table.weight_limit is_clear calls call) f
refused_type is_clear calls call old n (fault.TooWide Weight) s e clear refused =
    let t = typed is_clear calls call old refused.builds s in
    limit_by old.table.weight_limit is_clear calls call Datatype n e
    ∙ heavy_limit old.table.weight_limit (types_weight is_clear calls) (clear_type (is_clear calls call) (type_of is_clear calls) call.body) (built old.table old.numbers call.body refused.builds) t.type
    (clear_made is_clear calls call clear ∙ t.is) t.like (let w = s.weighs in omega (arith, refused.heavy, w))
refused_type is_clear calls call old n (fault.TooWide Reach) s e clear refused =
    let t = typed is_clear calls call old refused.builds s in
    limit_by old.table.weight_limit is_clear calls call Datatype n e
    ∙ wide_limit old.table.weight_limit (types_weight is_clear calls) (clear_type (is_clear calls call) (type_of is_clear calls) call.body) (built old.table old.numbers call.body refused.builds) t.type
    (clear_made is_clear calls call clear ∙ t.is) t.like (let w = s.weighs in omega (arith, refused.light, w)) refused.wide
refused_type is_clear calls call old n fault.NoMemory s e clear refused = tt

short : (o : Option Limit) (f : TypeFault) → f ≡ fault.NoMemory → IsTypeLimit o f
short o f e = subst (λ (x : TypeFault). IsTypeLimit o x) (sym e) tt

pub made_over : (is_clear : Clearness) (calls : List Call) (call : Call) (old : Datatypes) (class : Class) (n : ℕ) (clear : Bool) (f : TypeFault) → Stands is_clear old calls → made_by call ≡ Some (class, n) → clear ≡ is_clear calls call
    → IsRefusedOf class clear old.table old.numbers call.body f → IsTypeLimit (type_limit_at old.table.weight_limit is_clear calls call) f
made_over is_clear calls call old Datatype n true f s e clear refused = refused_type is_clear calls call old n f s e (sym clear) refused
made_over is_clear calls call old Datatype n false f s e clear refused = short (type_limit_at old.table.weight_limit is_clear calls call) f refused
made_over is_clear calls call old Comm n clear f s e c refused = short (type_limit_at old.table.weight_limit is_clear calls call) f refused
made_over is_clear calls call old Group n clear f s e c refused = short (type_limit_at old.table.weight_limit is_clear calls call) f refused
made_over is_clear calls call old Operation n clear f s e c refused = short (type_limit_at old.table.weight_limit is_clear calls call) f refused
made_over is_clear calls call old Request n clear f s e c refused = short (type_limit_at old.table.weight_limit is_clear calls call) f refused
