-- Headers that were taken.
use Rattle.std.proofs.Common.{◌≡◌, ℕ, ◌+◌, ◌≤◌, ◌<◌, Bool, true, false, not, cond, eqb, ltb, List, [], ◌++◌, length, Option, Some, None, refl, sym, ap, subst, ◌∙◌, append-nil, arith, inl, inr}
use Rattle.std.specs.Prelude.{◌&&◌, ◌/◌, Result, Ok, Err, IfErr}
use Rattle.std.proofs.lemmas.Nat.{le-div}
use Rattle.std.proofs.lemmas.Bool.{eqb-true, ltb-true, lt-ltb, cases_lt}
use Rattle.must_format.specs.declared.limits.TheConstants.{MOST_RANKS, RUN_BYTES}
use Rattle.must_format.specs.declared.expect.Expect.{Expect}
use Rattle.must_format.specs.declared.header.Header.{Header}
use Rattle.must_format.specs.declared.fault.StreamFault.{StreamFault}
use Rattle.must_format.specs.declared.fault.StreamFault.TheVariants as fault
use Rattle.must_format.specs.declared.cause.Cause.TheVariants as cause
use Rattle.must_format.specs.Stream.{header_of, header_fault, rank_of, size_of, is_size, expected_fault}
use Rattle.must_format.specs.HeaderLaws.{header_long, fault_more}
use Rattle.must_format.specs.CompleteLaws.{passed_header}
use Rattle.must_codec.specs.Views.{IsExpect, IsReady, IsRefusal, HeaderIs, HeaderSays, Headed, TookFront, TookSome, start}

passed : (b : Bool) (f : StreamFault) (o : Option StreamFault) → cond b (Some f) o ≡ None → (b ≡ false) × (o ≡ None)
passed true f o e = absurd cc
passed false f o e = (refl, e)

not_false : (b : Bool) → not b ≡ false → b ≡ true
not_false true e = refl
not_false false e = absurd cc

and_both : (a b : Bool) → (a && b) ≡ true → (a ≡ true) × (b ≡ true)
and_both true b e = (refl, e)
and_both false b e = absurd cc

-- ---- the limits behind a header

record IsRun (rank size : ℕ) : Type 0 where
  some : 0 < size
  few : size ≤ MOST_RANKS
  within : rank < size

run_of : (e : Option Expect) (rank size : ℕ) → IsExpect e → expected_fault e rank size ≡ None → IsRun rank size
run_of (Some x) rank size is good =
    let a = passed (not (eqb rank x.rank)) _ _ good in
    let b = passed (not (eqb size x.size)) _ _ a.1 in
    let r : rank ≡ x.rank = eqb-true _ _ (not_false _ a.0) in
    let n : size ≡ x.size = eqb-true _ _ (not_false _ b.0) in
    record { some = omega (arith, n, is.0); few = omega (arith, n, is.1); within = omega (arith, r, n, is.2) }
run_of None rank size is good =
    let a = passed (not (is_size size)) _ _ good in
    let b = passed (not (ltb rank size)) _ _ a.1 in
    let n = and_both (ltb 0 size) (ltb size (MOST_RANKS + 1)) (not_false _ a.0) in
    record { some = ltb-true _ _ n.0; few = omega (arith, ltb-true _ _ n.1); within = ltb-true _ _ (not_false _ b.0) }

pub ready_at : (e : Option Expect) (bytes window : List ℕ) (h : Header) → IsExpect e → header_fault e bytes ≡ None → h ≡ header_of bytes → length window ≡ 0 → IsReady h start window
ready_at e bytes window h is good same none =
    let r = run_of e (rank_of bytes) (size_of bytes) is (passed_header e bytes good).expected in
    let limit : 17 ≤ RUN_BYTES / size_of bytes = le-div 17 RUN_BYTES (size_of bytes) r.some (omega (arith, r.few)) in
    subst (λ (x : Header). IsReady x start window) (sym same) (record {
      size = (r.some, r.few);
      rank = r.within;
      at = limit;
      taken = omega (arith, limit, none);
      number = omega arith;
      next = omega arith;
    })

-- ---- the bytes of a header

-- whatever follows all that there are, or the 17 bytes
fault_stays : (e : Option Expect) (window others : List ℕ) → (length window < 17 → others ≡ []) → header_fault e (window ++ others) ≡ header_fault e window
fault_stays e window others all =
    elim (cases_lt (length window) 17) [
      | inl lt ↦ ap (λ (xs : List ℕ). header_fault e (window ++ xs)) (all lt) ∙ ap (header_fault e) (append-nil window)
      | inr le ↦ fault_more e window others le
    ]

says_of : (e : Option Expect) (window others : List ℕ) (result : Result Header StreamFault) → length window ≤ 17 → (length window < 17 → others ≡ []) → HeaderIs e window result → ((f : StreamFault) → result ≡ Err f → IsRefusal f) → HeaderSays e window others result
says_of e window others (Ok h) few all is refusal = (omega (arith, few, header_long e window is.0), is.0, is.1)
says_of e window others (Err fault.Read) few all is refusal = absurd (refusal fault.Read refl)
says_of e window others (Err fault.NoMemory) few all is refusal = absurd (refusal fault.NoMemory refl)
says_of e window others (Err (fault.Malformed at c)) few all is refusal = (is, fault_stays e window others all ∙ is)
says_of e window others (Err (fault.Bound at l)) few all is refusal = (is, fault_stays e window others all ∙ is)

pub headed : (e : Option Expect) (rest window : List ℕ) (left : Option (List ℕ)) (result : Result Header StreamFault) → TookFront rest left window → HeaderIs e window result → ((f : StreamFault) → result ≡ Err f → IsRefusal f) → Headed e rest left result
headed e rest window left result t is refusal = record {
  piece = window;
  others = t.others;
  parts = t.parts;
  left_is = t.left_is;
  few = t.few;
  says = says_of e window t.others result t.few t.all is refusal;
}

short_fault : (e : Option Expect) (bytes : List ℕ) → length bytes < 17 → header_fault e bytes ≡ Some (fault.Malformed 0 cause.Truncated)
unfolding header_fault
short_fault e bytes short = rw (lt-ltb (length bytes) 17 short) refl

pub headed_short : (e : Option Expect) (rest window : List ℕ) (left : Option (List ℕ)) → TookSome rest left window → Headed e rest left (Err fault.Read)
headed_short e rest window left t = record {
  piece = window;
  others = t.others;
  parts = t.parts;
  left_is = t.left_is;
  few = omega (arith, t.few);
  says = short_fault e window t.few;
}

-- an error that is a refusal
pub refusal_of : (result : Result Header StreamFault) → IfErr result IsRefusal → (f : StreamFault) → result ≡ Err f → IsRefusal f
refusal_of (Ok h) is f e = absurd cc
refusal_of (Err g) is f e = let same : g ≡ f = cc in subst IsRefusal same is
