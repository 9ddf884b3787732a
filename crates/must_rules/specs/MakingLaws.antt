-- A call that makes a handle frees, completes, commits and starts none.
use Rattle.std.proofs.Common.{◌≡◌, ℕ, ◌≤◌, arith, Bool, true, false, cond, ◌&&◌, ◌||◌, List, [], Option, Some, None, refl, ap, ◌∙◌}
use Rattle.std.specs.Prelude.{not, nat_lt}
use Rattle.std.proofs.lemmas.Bool.{ltb-false}
use Rattle.must_call.specs.declared.class.Class.{Class}
use Rattle.must_call.specs.declared.class.Class.TheVariants.{Comm, Group, Datatype, Operation, Request}
use Rattle.must_call.specs.declared.constants.TheConstants.{FIRST_MADE}
use Rattle.must_call.specs.declared.field.Output.{Output}
use Rattle.must_call.specs.declared.field.Output.TheVariants as output
use Rattle.must_call.specs.declared.call.Call.{Call}
use Rattle.must_call.specs.declared.body.Body.{Body}
use Rattle.must_call.specs.declared.body.Body.TheVariants.{Finish, Derive, Object, Persist}
use Rattle.must_call.specs.declared.finish.Finish.TheVariants.{RequestFree}
use Rattle.must_call.specs.declared.derive.Derive.TheVariants.{TypeCommit, TypeFree}
use Rattle.must_call.specs.declared.object.Object.TheVariants.{OpFree, GroupFree, CommFree}
use Rattle.must_call.specs.declared.persist.Persist.TheVariants.{Start, Startall}
use Rattle.must_call.specs.Values.{OutputValue, TypedOutput}
use Rattle.must_call.specs.Bodies.{given_of}
use Rattle.must_call.specs.Handles.{ClassedHandle}
use Rattle.must_call.specs.Made.{made_handle, handle_given, made_of}
use Rattle.must_rules.specs.Making.{same_class, is_handle, is_in, numbered, made_by, freed_of, requests_of, completed_by, completed_among, frees, completes, committed_of, commits, started_of}
use Rattle.must_rules.specs.Lives.{ends}

pub same_class_is : (c d : Class) → same_class c d ≡ true → c ≡ d
same_class_is Comm Comm e = refl
same_class_is Group Group e = refl
same_class_is Datatype Datatype e = refl
same_class_is Operation Operation e = refl
same_class_is Request Request e = refl
same_class_is _ _ e = let no : false ≡ true = e in absurd cc

none_made : (h : ClassedHandle) {P : Type 0} → None ≡ Some h → P
none_made h e = absurd cc

and_false : (b : Bool) → b && false ≡ false
and_false true = refl
and_false false = refl

answered : (o : Option ClassedHandle) (h : ClassedHandle) → numbered o ≡ Some h → o ≡ Some h
answered None h e = none_made h e
answered (Some x) h e = at (nat_lt x.1 FIRST_MADE) e
  where
    at : (b : Bool) → cond {A = Option ClassedHandle} b None (Some x) ≡ Some h → Some x ≡ Some h
    at true f = none_made h f
    at false f = f

pub made_is : (call : Call) (h : ClassedHandle) → made_by call ≡ Some h → made_of call.body ≡ Some h
unfolding made_by
made_is call h e = at call.returned e
  where
    at : (b : Bool) → cond b (numbered (made_of call.body)) None ≡ Some h → made_of call.body ≡ Some h
    at true f = answered (made_of call.body) h f
    at false f = none_made h f

high : (o : Option ClassedHandle) (h : ClassedHandle) → numbered o ≡ Some h → 64 ≤ h.1
high None h e = none_made h e
high (Some x) h e = at (nat_lt x.1 FIRST_MADE) refl e
  where
    same : (a b : ClassedHandle) → Some a ≡ Some b → a.1 ≡ b.1
    same a b f = let g : a ≡ b = cc in ap (λ (y : ClassedHandle). y.1) g

    at : (b : Bool) → nat_lt x.1 FIRST_MADE ≡ b → cond {A = Option ClassedHandle} b None (Some x) ≡ Some h → 64 ≤ h.1
    at true t f = none_made h f
    at false t f = omega (arith, ltb-false x.1 64 t, same x h f)

-- what was made has a number from 64 on
pub made_high : (call : Call) (h : ClassedHandle) → made_by call ≡ Some h → 64 ≤ h.1
unfolding made_by
made_high call h e = at call.returned e
  where
    at : (b : Bool) → cond b (numbered (made_of call.body)) None ≡ Some h → 64 ≤ h.1
    at true f = high (made_of call.body) h f
    at false f = none_made h f

freed_none : (b : Body) (h : ClassedHandle) → made_of b ≡ Some h → freed_of b ≡ None
freed_none (Finish (RequestFree r)) h e = none_made h e
freed_none (Derive (TypeFree r)) h e = none_made h e
freed_none (Object (OpFree r)) h e = none_made h e
freed_none (Object (GroupFree r)) h e = none_made h e
freed_none (Object (CommFree r)) h e = none_made h e
freed_none _ h e = refl

commits_none : (b : Body) (h : ClassedHandle) → made_of b ≡ Some h → committed_of b ≡ None
commits_none (Derive (TypeCommit r)) h e = none_made h e
commits_none _ h e = refl

starts_none : (b : Body) (h : ClassedHandle) → made_of b ≡ Some h → started_of b ≡ []
starts_none (Persist (Start r)) h e = none_made h e
starts_none (Persist (Startall rs)) h e = none_made h e
starts_none _ h e = refl

-- what makes a handle answers the handle and no status
output_completes : (o : Output) (x : OutputValue o) (requests : List ℕ) (h : ClassedHandle) → made_handle o x ≡ Some h → completed_by o x requests ≡ []
output_completes (output.Made c) x requests h e = refl
output_completes output.MadeComm x requests h e = refl
output_completes output.Status x requests h e = none_made h e
output_completes output.MaybeStatus x requests h e = none_made h e
output_completes output.Statuses x requests h e = none_made h e
output_completes output.MaybeStatuses x requests h e = none_made h e
output_completes output.Choice x requests h e = none_made h e
output_completes output.MaybeChoice x requests h e = none_made h e
output_completes output.Completions x requests h e = none_made h e

among_completes : (o : Option TypedOutput) (requests : List ℕ) (h : ClassedHandle) → handle_given o ≡ Some h → completed_among o requests ≡ []
among_completes None requests h e = refl
among_completes (Some t) requests h e = output_completes t.0 t.1 requests h e

made_frees : (call : Call) (h : ClassedHandle) (class : Class) (number : ℕ) → made_by call ≡ Some h → frees class number call ≡ false
unfolding frees
made_frees call h class number e = ap (λ (o : Option ClassedHandle). call.returned && is_handle class number o) (freed_none call.body h (made_is call h e)) ∙ and_false call.returned

pub made_completes : (call : Call) (h : ClassedHandle) (class : Class) (number : ℕ) → made_by call ≡ Some h → completes class number call ≡ false
unfolding completes
made_completes call h class number e =
    ap (λ (ns : List ℕ). call.returned && (same_class class Request && is_in ns number)) (among_completes (given_of call.body) (requests_of call.body) h (made_is call h e))
    ∙ ap (λ (b : Bool). call.returned && b) (and_false (same_class class Request)) ∙ and_false call.returned

pub made_ends : (call : Call) (h : ClassedHandle) (is_kept : Bool) (class : Class) (number : ℕ) → made_by call ≡ Some h → ends is_kept class number call ≡ false
made_ends call h is_kept class number e =
    ap (λ (b : Bool). b || (not is_kept && completes class number call)) (made_frees call h class number e)
    ∙ ap (λ (b : Bool). not is_kept && b) (made_completes call h class number e) ∙ and_false (not is_kept)

pub made_commits : (call : Call) (h : ClassedHandle) (number : ℕ) → made_by call ≡ Some h → commits number call ≡ false
unfolding commits
made_commits call h number e = ap (λ (o : Option ClassedHandle). call.returned && is_handle Datatype number o) (commits_none call.body h (made_is call h e)) ∙ and_false call.returned

pub made_starts : (call : Call) (h : ClassedHandle) → made_by call ≡ Some h → started_of call.body ≡ []
made_starts call h e = starts_none call.body h (made_is call h e)
