-- Calls that follow each other in a stream: what each adds to the handles.
use Rattle.std.proofs.Common.{◌≡◌, ℕ, ◌+◌, ◌≤◌, Bool, true, false, not, cond, List, [], ◌∷◌, ◌++◌, length, Option, Some, None, refl, sym, ap, subst, ◌∙◌, arith, length-append}
use Rattle.std.specs.List.{filter}
use Rattle.std.proofs.lemmas.Bool.{eq-eqb, le-ltb}
use Rattle.std.proofs.lemmas.List.Elements.{filter-append}
use Rattle.std.proofs.lemmas.List.Folds.{list_any-append}
use Rattle.must_call.specs.declared.call.Call.{Call}
use Rattle.must_call.specs.declared.class.Class.{Class}
use Rattle.must_call.specs.Kinds.{kind_of}
use Rattle.must_call.specs.Handles.{ClassedHandle}
use Rattle.must_call.specs.Made.{made_of, comm_of}
use Rattle.must_format.specs.declared.header.Header.{Header}
use Rattle.must_format.specs.Spelling.{IsSpellable, IsKnown, Spells}
use Rattle.must_format.specs.Stream.{is_stuck, is_made, makes, next_handle, is_due, have_members}
use Rattle.must_format.specs.Complete.{Records}
use Rattle.must_drill.specs.Streams.{record_of, records_of}

-- so many handles
abbrev made_by : Call → ℕ
made_by call = cond (makes call) 1 0

-- the calls so far all returned, and the next handle has this number
pub record Steady (before : List Call) (next : ℕ) : Type 0 where
  pub returned : is_stuck before ≡ false
  pub handle : next_handle before ≡ next

-- a call may stand where the next handle has a number, and leaves another number
pub record Stands (rank n next after : ℕ) (call : Call) : Type 0 where
  pub fits : IsSpellable call
  pub known : IsKnown 1 call
  pub returned : call.returned ≡ true
  pub handle : is_due next (kind_of call.body) (made_of call.body) ≡ true
  pub members : have_members rank n (comm_of call.body) ≡ true
  pub moves : next + made_by call ≡ after

-- calls may stand one after the other, from one number to another
abbrev pub Follow : ℕ → ℕ → ℕ → ℕ → List Call → Type 0
Follow rank n next last [] = next ≡ last
Follow rank n next last (call ∷ calls) = (after : ℕ) × (Stands rank n next after call × Follow rank n after last calls)

pub follow_append : (rank n next mid last : ℕ) (xs ys : List Call) → Follow rank n next mid xs → Follow rank n mid last ys → Follow rank n next last (xs ++ ys)
follow_append rank n next mid last [] ys e f = subst (λ (x : ℕ). Follow rank n x last ys) (sym e) f
follow_append rank n next mid last (x ∷ xs) ys f g = (f.0, (f.1.0, follow_append rank n f.0 mid last xs ys f.1.1 g))

-- ---- one call more

one_made : (call : Call) (b : Bool) → makes call ≡ b → length (filter makes (call ∷ [])) ≡ made_by call
one_made call true e = rw e refl
one_made call false e = rw e refl

steady_more : (rank n next after : ℕ) (before : List Call) (call : Call) → Steady before next → Stands rank n next after call → Steady (before ++ call ∷ []) after
steady_more rank n next after before call s c = record {
  returned = list_any-append (λ (x : Call). not x.returned) before (call ∷ []) ∙ rw (s.returned, c.returned) refl;
  handle =
      let grown : length (filter makes (before ++ call ∷ [])) ≡ length (filter makes before) + made_by call =
      ap length (filter-append makes before (call ∷ [])) ∙ length-append (filter makes before) (filter makes (call ∷ [])) ∙ ap (λ (k : ℕ). length (filter makes before) + k) (one_made call (makes call) refl) in
      omega (arith, grown, s.handle, c.moves);
}

spells_record : (call : Call) → IsSpellable call → Spells call (record_of call)
unfolding record_of
spells_record call fits = record { spellable = fits; bytes_are = refl }

pub recorded : (h : Header) (next last : ℕ) (before calls : List Call) → h.version ≡ 1 → Steady before next → Follow h.rank h.size next last calls → Records h before calls (records_of calls)
recorded h next last before [] version steady f = refl
recorded h next last before (call ∷ calls) version steady f =
    let c = f.1.0 in (
      record_of call,
      records_of calls,
      refl,
      spells_record call c.fits,
      subst (λ (v : ℕ). IsKnown v call) (sym version) c.known,
      record { returned = steady.returned; handle = subst (λ (x : ℕ). is_due x (kind_of call.body) (made_of call.body) ≡ true) (sym steady.handle) c.handle; members = c.members },
      recorded h f.0 last (before ++ call ∷ []) calls version (steady_more h.rank h.size next f.0 before call steady c) f.1.1,
    )

-- ---- calls that make nothing, and calls that make a handle

pub plain : (rank n next : ℕ) (call : Call) → IsSpellable call → IsKnown 1 call → call.returned ≡ true → made_of call.body ≡ None → comm_of call.body ≡ None → Stands rank n next next call
plain rank n next call fits known returned nothing none = record {
  fits = fits;
  known = known;
  returned = returned;
  handle = rw nothing refl;
  members = rw none refl;
  moves = ap (λ (m : Option ClassedHandle). next + cond (is_made m) 1 0) nothing ∙ omega arith;
}

pub maker : (rank n next : ℕ) (call : Call) (k : Class) → IsSpellable call → IsKnown 1 call → call.returned ≡ true → made_of call.body ≡ Some (k, next) → 64 ≤ next
    → have_members rank n (comm_of call.body) ≡ true → Stands rank n next (next + 1) call
maker rank n next call k fits known returned made least members = record {
  fits = fits;
  known = known;
  returned = returned;
  handle = rw made (rw (eq-eqb next next refl) refl);
  members = members;
  moves = ap (λ (m : Option ClassedHandle). next + cond (is_made m) 1 0) made ∙ rw (le-ltb next 64 least) refl;
}
