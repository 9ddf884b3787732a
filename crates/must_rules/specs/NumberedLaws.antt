-- A call of a list whose handles are numbered.
use Rattle.std.proofs.Common.{◌≡◌, ℕ, ◌≤◌, ◌==◌, sym, ◌&&◌, zero, suc, ◌+◌, Bool, true, false, cond, ◌||◌, List, [], ◌∷◌, length, take, Option, Some, None, refl, ap, subst, ◌∙◌, arith}
use Rattle.std.specs.Prelude.{not, nat_lt, slice_get}
use Rattle.std.specs.List.{filter, filter_map, cons_option}
use Rattle.std.proofs.lemmas.Option.{none-some}
use Rattle.std.proofs.lemmas.Bool.{eqb-true, ne_eqb}
use Rattle.must_call.specs.declared.class.Class.{Class}
use Rattle.must_call.specs.declared.class.Class.TheVariants.{Comm, Group, Datatype, Operation, Request}
use Rattle.must_call.specs.declared.kind.Kind.{Kind}
use Rattle.must_call.specs.Kinds.{kind_of}
use Rattle.must_call.specs.declared.call.Call.{Call}
use Rattle.must_call.specs.Handles.{ClassedHandle}
use Rattle.must_call.specs.declared.constants.TheConstants.{FIRST_MADE}
use Rattle.must_call.specs.Made.{made_of}
use Rattle.must_format.specs.Stream.{is_stuck, is_made, makes, next_handle, gives_none, is_spare, is_due}
use Rattle.must_rules.specs.Making.{numbered, made_by}
use Rattle.must_rules.specs.Lives.{made_count}
use Rattle.must_rules.specs.LifeLaws.{made_now}
use Rattle.must_rules.specs.MakingLaws.{made_is, made_high}
use Rattle.must_rules.specs.Numbered.{IsNumbered, AreNumbered}

count_cons : (o : Option ClassedHandle) (hs : List ClassedHandle) → length (cons_option o hs) ≡ made_now o + length hs
count_cons None hs = omega arith
count_cons (Some h) hs = omega arith

same_call : (a b : Call) → Some a ≡ Some b → a ≡ b
same_call a b e = cc

-- the i-th call makes the handle behind those that the calls before it made
pub numbered_at : (next : ℕ) (calls : List Call) (i : ℕ) (call : Call) → AreNumbered next calls → slice_get calls i ≡ Some call → IsNumbered (next + made_count (take i calls)) call
unfolding made_count
numbered_at next [] i call all e = absurd (none-some call e)
numbered_at next (c ∷ calls) zero call all e = subst (λ (m : ℕ). IsNumbered m call) (let s : next ≡ next + 0 = omega arith in s) (subst (λ (x : Call). IsNumbered next x) (same_call c call e) all.0)
numbered_at next (c ∷ calls) (suc i) call all e =
    subst (λ (m : ℕ). IsNumbered m call)
    (let s : (next + made_now (made_by c)) + length (filter_map made_by (take i calls)) ≡ next + length (cons_option (made_by c) (filter_map made_by (take i calls))) = omega (arith, count_cons (made_by c) (filter_map made_by (take i calls))) in s)
    (numbered_at (next + made_now (made_by c)) calls i call all.1 e)

-- ---- the calls of a stream: what a record says that it made is what its call makes, where all calls returned

made_length : (o : Option ClassedHandle) (hs : List ClassedHandle) (cs : List Call) (call : Call) → length hs ≡ length cs → length (cons_option (numbered o) hs) ≡ length (cond (is_made o) (call ∷ cs) cs)
made_length None hs cs call e = e
made_length (Some h) hs cs call e = at (nat_lt h.1 FIRST_MADE)
  where
    at : (b : Bool) → length (cons_option (cond {A = Option ClassedHandle} b None (Some h)) hs) ≡ length (cond (not b) (call ∷ cs) cs)
    at true = e
    at false = ap suc e

returned_made : (call : Call) → call.returned ≡ true → made_by call ≡ numbered (made_of call.body)
unfolding made_by
returned_made call e = ap (λ (b : Bool). cond {A = Option ClassedHandle} b (numbered (made_of call.body)) None) e

not_stuck : (a b : Bool) → not a || b ≡ false → (a ≡ true) × (b ≡ false)
not_stuck true b e = (refl, e)
not_stuck false b e = let no : true ≡ false = e in absurd cc

-- how many handles calls made that all returned
pub made_of_returned : (calls : List Call) → is_stuck calls ≡ false → made_count calls ≡ length (filter makes calls)
unfolding made_count
made_of_returned [] e = refl
made_of_returned (call ∷ calls) e =
    let p = not_stuck call.returned (is_stuck calls) e in
    ap (λ (o : Option ClassedHandle). length (cons_option o (filter_map made_by calls))) (returned_made call p.0)
    ∙ made_length (made_of call.body) (filter_map made_by calls) (filter makes calls) call (made_of_returned calls p.1)

and_false : (b : Bool) → b && false ≡ false
and_false true = refl
and_false false = refl

-- a handle that takes no number has none from 64 on
spare_none : (k : Kind) (c : Class) (n : ℕ) → 64 ≤ n → is_spare k c n ≡ false
spare_none k Comm n e = ap (λ (b : Bool). gives_none k && b) (ne_eqb n 0 (λ z. omega (arith, z))) ∙ and_false (gives_none k)
spare_none k Group n e = ne_eqb n 1 (λ z. omega (arith, z))
spare_none k Datatype n e = refl
spare_none k Operation n e = refl
spare_none k Request n e = refl

or_first : (a b : Bool) → b ≡ false → a || b ≡ true → a ≡ true
or_first true b e f = refl
or_first false b e f = let no : false ≡ true = sym e ∙ f in absurd cc

-- what a stream accepts behind calls that all returned makes the handle with the next number
pub next_numbered : (before : List Call) (call : Call) → is_stuck before ≡ false → is_due (next_handle before) (kind_of call.body) (made_of call.body) ≡ true → IsNumbered (64 + made_count before) call
next_numbered before call returned due = λ class number e.
    let h : ClassedHandle = (class, number) in
    let d : number == next_handle before || is_spare (kind_of call.body) class number ≡ true = ap (is_due (next_handle before) (kind_of call.body)) (sym (made_is call h e)) ∙ due in
    eqb-true number (next_handle before) (or_first (number == next_handle before) (is_spare (kind_of call.body) class number) (spare_none (kind_of call.body) class number (made_high call h e)) d)
    ∙ ap (λ n. 64 + n) (sym (made_of_returned before returned))
