-- The place behind one call more.
use Rattle.std.proofs.Common.{◌≡◌, ℕ, ◌+◌, ◌<◌, ltb, Bool, true, false, not, cond, List, [], ◌∷◌, ◌++◌, length, refl, sym, ap, ◌∙◌, arith, length-append}
use Rattle.std.specs.Prelude.{◌||◌}
use Rattle.std.specs.List.{filter}
use Rattle.std.proofs.lemmas.List.Elements.{filter-append}
use Rattle.std.proofs.lemmas.List.Folds.{list_any-append}
use Rattle.must_call.specs.declared.call.Call.{Call}
use Rattle.must_call.specs.declared.kind.Kind.{Kind}
use Rattle.must_call.specs.Kinds.{kind_of}
use Rattle.must_call.specs.Fields.{inputs, output}
use Rattle.must_call.specs.BodyLaws.{kind_of-body_of}
use Rattle.must_format.specs.declared.place.StreamPlace.{StreamPlace}
use Rattle.must_format.specs.Decoding.{body_at, call_at, values_at, behind_all, requests_at, outcome_at}
use Rattle.must_codec.specs.Reader.{IsPlace}
use Rattle.must_format.specs.Payload.{record_length}
use Rattle.must_call.specs.Made.{made_of, comm_of}
use Rattle.must_format.specs.declared.cause.Cause.TheVariants as cause
use Rattle.must_format.specs.declared.fault.StreamFault.TheVariants.{Malformed}
use Rattle.std.proofs.lemmas.Bool.{lt-ltb}
use Rattle.must_format.specs.Stream.{Next, Stop, is_stuck, makes, next_handle, is_due, have_members, call_limit, coming_call}
use Rattle.must_format.specs.CompleteLaws.{offset_more}

-- as many as were made
abbrev bit : Bool → ℕ
bit b = cond b 1 0

filter_one : (call : Call) (b : Bool) → makes call ≡ b → length (filter makes (call ∷ [])) ≡ bit b
filter_one call true e = rw e refl
filter_one call false e = rw e refl

pub next_more : (given : List Call) (call : Call) → next_handle (given ++ call ∷ []) ≡ next_handle given + bit (makes call)
next_more given call =
    omega (arith, ap length (filter-append makes given (call ∷ [])), length-append (filter makes given) (filter makes (call ∷ [])), filter_one call (makes call) refl)

or_false : (a : Bool) → (a || false) ≡ a
or_false true = refl
or_false false = refl

pub stuck_more : (given : List Call) (call : Call) → is_stuck (given ++ call ∷ []) ≡ (is_stuck given || not call.returned)
stuck_more given call = list_any-append (λ (c : Call). not c.returned) given (call ∷ []) ∙ ap (λ (b : Bool). is_stuck given || b) (or_false (not call.returned))

-- what the call of a payload adds up to
pub kind_is : (k : Kind) (r : Bool) (p : List ℕ) → kind_of (body_at k r p) ≡ k
unfolding body_at
kind_is k r p = kind_of-body_of k (values_at (inputs k) p) (outcome_at (output k) r (requests_at k p) (behind_all (inputs k) p))

-- the place behind the record of a call
pub place_more : (p : StreamPlace) (given : List Call) (call : Call) (len made : ℕ) → len ≡ record_length call → made ≡ bit (makes call) → IsPlace p given
    → IsPlace (record { at = p.at + len; number = p.number + 1; next_handle = p.next_handle + made; stuck = p.stuck || not call.returned }) (given ++ call ∷ [])
place_more p given call len made len_is made_is place = record {
  at = omega (arith, place.at, len_is, offset_more given call);
  number = omega (arith, place.number, length-append given (call ∷ []));
  next = ap (λ (n : ℕ). p.next_handle + n) made_is ∙ ap (λ (n : ℕ). n + bit (makes call)) place.next ∙ sym (next_more given call);
  stuck = ap (λ (b : Bool). b || not call.returned) place.stuck ∙ sym (stuck_more given call);
}

-- ---- a call at a place

-- behind calls that all returned, and below the limit
record IsFree (n : ℕ) (given : List Call) : Type 0 where
  free : is_stuck given ≡ false
  few : ltb (length given) (call_limit n) ≡ true

free_at : (n : ℕ) (p : StreamPlace) (given : List Call) → IsPlace p given → p.stuck ≡ false → p.number < call_limit n → IsFree n given
free_at n p given place free few = record { free = sym place.stuck ∙ free; few = lt-ltb _ _ (omega (arith, place.number, few)) }

due_at : (p : StreamPlace) (given : List Call) (k : Kind) (r : Bool) (payload : List ℕ) (b : Bool) → IsPlace p given → is_due p.next_handle k (made_of (body_at k r payload)) ≡ b
    → is_due (next_handle given) (kind_of (body_at k r payload)) (made_of (body_at k r payload)) ≡ b
due_at p given k r payload b place due = rw (kind_is k r payload, ← place.next) due

pub not_due : (rank n : ℕ) (p : StreamPlace) (given : List Call) (k : Kind) (r : Bool) (payload : List ℕ) → IsPlace p given → p.stuck ≡ false → p.number < call_limit n → is_due p.next_handle k (made_of (body_at k r payload)) ≡ false
    → coming_call rank n given (call_at k r payload) ≡ Stop (Malformed p.at cause.HandleNumber)
unfolding coming_call
not_due rank n p given k r payload place free few due =
    let f = free_at n p given place free few in
    rw (f.free, f.few, due_at p given k r payload false place due, ← place.at) refl

pub no_members : (rank n : ℕ) (p : StreamPlace) (given : List Call) (k : Kind) (r : Bool) (payload : List ℕ) → IsPlace p given → p.stuck ≡ false → p.number < call_limit n → is_due p.next_handle k (made_of (body_at k r payload)) ≡ true
    → have_members rank n (comm_of (body_at k r payload)) ≡ false → coming_call rank n given (call_at k r payload) ≡ Stop (Malformed p.at cause.Members)
unfolding coming_call
no_members rank n p given k r payload place free few due members =
    let f = free_at n p given place free few in
    rw (f.free, f.few, due_at p given k r payload true place due, members, ← place.at) refl

pub comes_next : (rank n : ℕ) (p : StreamPlace) (given : List Call) (k : Kind) (r : Bool) (payload : List ℕ) → IsPlace p given → p.stuck ≡ false → p.number < call_limit n → is_due p.next_handle k (made_of (body_at k r payload)) ≡ true
    → have_members rank n (comm_of (body_at k r payload)) ≡ true → coming_call rank n given (call_at k r payload) ≡ Next (call_at k r payload)
unfolding coming_call
comes_next rank n p given k r payload place free few due members =
    let f = free_at n p given place free few in
    rw (f.free, f.few, due_at p given k r payload true place due, members) refl
