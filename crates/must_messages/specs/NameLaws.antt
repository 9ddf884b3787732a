-- A handle number names one communicator in all that a rank gives of its messages.
use Rattle.std.proofs.Common.{◌≡◌, ℕ, zero, suc, ◌+◌, ◌<◌, ◌≤◌, ◌==◌, Bool, true, false, cond, List, [], ◌∷◌, ◌++◌, length, take, Option, Some, None, refl, ap, sym, subst, ◌∙◌, arith, eqb-true}
use Rattle.std.specs.Prelude.{slice_get}
use Rattle.must_call.specs.declared.class.Class.TheVariants.{Comm}
use Rattle.must_call.specs.declared.call.Call.{Call}
use Rattle.must_call.specs.Handles.{ClassedHandle}
use Rattle.must_group.specs.Names.{Name}
use Rattle.must_rules.specs.Rank.{Rank}
use Rattle.must_rules.specs.Making.{same_class, is_handle, made_by, makes}
use Rattle.must_rules.specs.Lives.{made_count}
use Rattle.must_rules.specs.LifeLaws.{made_now, made_count_more}
use Rattle.must_rules.specs.Numbered.{AreNumbered}
use Rattle.must_rules.specs.NumberedLaws.{numbered_at}
use Rattle.must_rules.specs.Communicators.{there, collectives, derived_of, derived_name, name_of, usable_name, predefined_name}
use Rattle.must_rules.specs.KnownLaws.{name_more}
use Rattle.must_messages.specs.PlainLaws.{both, no_some}

-- ---- a name stays

pub take_next : (calls : List Call) (k : ℕ) (call : Call) → slice_get calls k ≡ Some call → take (suc k) calls ≡ take k calls ++ call ∷ []
take_next [] k call e = absurd (let no : None ≡ Some call = e in cc)
take_next (c ∷ calls) zero call e = ap (λ (x : Call). x ∷ []) (let same : c ≡ call = cc in same)
take_next (c ∷ calls) (suc k) call e = ap (λ (cs : List Call). c ∷ cs) (take_next calls k call e)

pub take_past : (calls : List Call) (k : ℕ) → slice_get calls k ≡ None → take (suc k) calls ≡ take k calls
take_past [] zero e = refl
take_past [] (suc k) e = refl
take_past (c ∷ calls) zero e = absurd (let no : Some c ≡ None = e in cc)
take_past (c ∷ calls) (suc k) e = ap (λ (cs : List Call). c ∷ cs) (take_past calls k e)

handle_number : (comm next : ℕ) (o : Option ClassedHandle) → ((class : Rattle.must_call.specs.declared.class.Class.Class) (number : ℕ) → o ≡ Some (class, number) → number ≡ next) → is_handle Comm comm o ≡ true → comm ≡ next
handle_number comm next None numbered e = let no : false ≡ true = e in absurd cc
handle_number comm next (Some h) numbered e = sym (eqb-true h.1 comm (both (same_class h.0 Comm) (h.1 == comm) e).1) ∙ numbered h.0 h.1 refl

-- what the next call makes is the next number
made_next : (calls : List Call) (k : ℕ) (call : Call) (comm : ℕ) → AreNumbered 64 calls → slice_get calls k ≡ Some call → makes Comm comm call ≡ true → comm ≡ 64 + made_count (take k calls)
made_next calls k call comm numbered e makes_it = handle_number comm (64 + made_count (take k calls)) (made_by call) (numbered_at 64 calls k call numbered e) makes_it

named_first : (r : Rank) (comm : ℕ) (n : Name) → predefined_name r comm ≡ Some n → comm < 64
named_first r comm n e = at (comm == 1) (comm == 2) refl refl e
  where
    at : (a b : Bool) → (comm == 1) ≡ a → (comm == 2) ≡ b → cond a (predefined_name r 1) (cond b (predefined_name r 2) None) ≡ Some n → comm < 64
    at true b f g h = let one = eqb-true comm 1 f in omega (arith, one)
    at false true f g h = let two = eqb-true comm 2 g in omega (arith, two)
    at false false f g h = no_some n h

first_name : (r : Rank) (comm : ℕ) (n : Name) → name_of r [] comm ≡ Some n → comm < 64
unfolding name_of
first_name r comm n e = named_first r comm n e

made_some : (o : Option ClassedHandle) (comm : ℕ) → is_handle Comm comm o ≡ true → made_now o ≡ 1
made_some None comm e = let no : false ≡ true = e in absurd cc
made_some (Some h) comm e = refl

-- a communicator that has a name was made, or MPI names it
named_low : (r : Rank) (calls : List Call) (comm : ℕ) → AreNumbered 64 calls → (k : ℕ) (n : Name) → name_of r (take k calls) comm ≡ Some n → comm < 64 + made_count (take k calls)
named_low r calls comm numbered zero n e = let low = first_name r comm n e in omega (arith, low)
named_low r calls comm numbered (suc k) n e = at (slice_get calls k) refl (named_low r calls comm numbered k n)
  where
    next : (c : Call) → slice_get calls k ≡ Some c → (name_of r (take k calls) comm ≡ Some n → comm < 64 + made_count (take k calls)) → (b : Bool) → makes Comm comm c ≡ b
        → cond b (derived_name (usable_name r (take k calls)) (collectives (take k calls)) (derived_of c.body)) (name_of r (take k calls) comm) ≡ Some n
        → comm < 64 + made_count (take k calls ++ c ∷ [])
    next c there rest true makes_it h =
        let is = made_next calls k c comm numbered there makes_it in
        let one = made_some (made_by c) comm makes_it in
        let more = made_count_more (take k calls) c in
        omega (arith, is, one, more)
    next c there rest false other h = let low = rest h in let more = made_count_more (take k calls) c in omega (arith, low, more)

    at : (o : Option Call) → slice_get calls k ≡ o → (name_of r (take k calls) comm ≡ Some n → comm < 64 + made_count (take k calls)) → comm < 64 + made_count (take (suc k) calls)
    at None there rest =
        subst (λ (cs : List Call). comm < 64 + made_count cs) (sym (take_past calls k there)) (rest (ap (λ (cs : List Call). name_of r cs comm) (sym (take_past calls k there)) ∙ e))
    at (Some c) there rest =
        let same = take_next calls k c there in
        subst (λ (cs : List Call). comm < 64 + made_count cs) (sym same)
        (next c there rest (makes Comm comm c) refl (sym (name_more r (take k calls) c comm) ∙ ap (λ (cs : List Call). name_of r cs comm) (sym same) ∙ e))

name_step : (r : Rank) (calls : List Call) (comm : ℕ) → AreNumbered 64 calls → (k : ℕ) (n : Name) → name_of r (take k calls) comm ≡ Some n → name_of r (take (suc k) calls) comm ≡ Some n
name_step r calls comm numbered k n e = at (slice_get calls k) refl
  where
    kept : (c : Call) → slice_get calls k ≡ Some c → (b : Bool) → makes Comm comm c ≡ b
        → cond b (derived_name (usable_name r (take k calls)) (collectives (take k calls)) (derived_of c.body)) (name_of r (take k calls) comm) ≡ Some n
    kept c there true makes_it =
        let is = made_next calls k c comm numbered there makes_it in
        let low = named_low r calls comm numbered k n e in
        absurd (omega (arith, is, low))
    kept c there false other = e

    at : (o : Option Call) → slice_get calls k ≡ o → name_of r (take (suc k) calls) comm ≡ Some n
    at None there = ap (λ (cs : List Call). name_of r cs comm) (take_past calls k there) ∙ e
    at (Some c) there = ap (λ (cs : List Call). name_of r cs comm) (take_next calls k c there) ∙ name_more r (take k calls) c comm ∙ kept c there (makes Comm comm c) refl

name_later : (r : Rank) (calls : List Call) (comm : ℕ) → AreNumbered 64 calls → (k d : ℕ) (n : Name) → name_of r (take k calls) comm ≡ Some n → name_of r (take (k + d) calls) comm ≡ Some n
name_later r calls comm numbered k zero n e = let same : k + 0 ≡ k = omega arith in ap (λ (m : ℕ). name_of r (take m calls) comm) same ∙ e
name_later r calls comm numbered k (suc d) n e =
    let same : k + suc d ≡ suc (k + d) = omega arith in
    ap (λ (m : ℕ). name_of r (take m calls) comm) same ∙ name_step r calls comm numbered (k + d) n (name_later r calls comm numbered k d n e)

pub take_all : (xs : List Call) (m : ℕ) → length xs ≤ m → take m xs ≡ xs
take_all [] zero h = refl
take_all [] (suc m) h = refl
take_all (x ∷ xs) zero h = absurd (omega (arith, h))
take_all (x ∷ xs) (suc m) h = ap (λ (ys : List Call). x ∷ ys) (take_all xs m (omega (arith, h)))

-- a name that a communicator has after some of the calls it has after all of them
pub name_stays : (r : Rank) (calls : List Call) (comm : ℕ) → AreNumbered 64 calls → (k : ℕ) (n : Name) → name_of r (take k calls) comm ≡ Some n → name_of r calls comm ≡ Some n
name_stays r calls comm numbered k n e =
    ap (λ (cs : List Call). name_of r cs comm) (sym (take_all calls (k + length calls) (omega arith))) ∙ name_later r calls comm numbered k (length calls) n e
