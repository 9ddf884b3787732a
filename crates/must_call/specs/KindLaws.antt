-- The kind that a version knows by a number has that number.
use Rattle.std.proofs.Common.{◌≡◌, ℕ, ◌+◌, ◌-◌, ◌<◌, ◌⊎◌, inl, inr, Bool, true, false, cond, eqb, List, map, get_or, Some, None, slice_get, sym, ap, refl, ◌∙◌, arith}
use Rattle.std.specs.Prelude.{nat_lt, if◌then◌else◌}
use Rattle.std.specs.List.{range_with_len}
use Rattle.std.specs.Option.{option_map}
use Rattle.std.proofs.lemmas.Bool.{eqb-false}
use Rattle.std.proofs.lemmas.List.FromFn.{get_or-range_with_len}
use Rattle.std.proofs.lemmas.Option.{slice_get-map, slice_get_within, get_or_from_slice_get}
use Rattle.must_call.specs.declared.kind.Kind.{Kind}
use Rattle.must_call.specs.declared.kind.TheConstants.{KINDS}
use Rattle.must_call.specs.Kinds.{number_of, known, kind_at}

chosen : {A : Type 0} (b : Bool) (x y z : A) → cond b x y ≡ z → ((b ≡ true) × (x ≡ z)) ⊎ ((b ≡ false) × (y ≡ z))
chosen true x y z e = inl (refl, e)
chosen false x y z e = inr (refl, e)

-- the kinds stand in the order of their numbers, from 1 on
numbers : map number_of KINDS ≡ range_with_len 1 79
numbers = refl

numbered : (i : ℕ) (k : Kind) → slice_get KINDS i ≡ Some k → number_of k ≡ 1 + i
numbered i k e =
    let within : i < 79 = slice_get_within KINDS i k e in
    let found : slice_get (map number_of KINDS) i ≡ Some (number_of k) = slice_get-map number_of KINDS i ∙ ap (option_map number_of) e in
    sym (get_or_from_slice_get (map number_of KINDS) i (number_of k) 0 found) ∙ ap (λ (ns : List ℕ). get_or ns i 0) numbers ∙ get_or-range_with_len 1 79 i 0 within

pub kind_at-is : (version n : ℕ) (k : Kind) → kind_at version n ≡ Some k → number_of k ≡ n
unfolding kind_at
kind_at-is version n k e =
    elim (chosen (eqb n 0) None (if nat_lt (known version) n then None else slice_get KINDS (n - 1)) (Some k) e) [
      | inl a ↦ let no = a.1 in absurd cc
      | inr a ↦ elim (chosen (nat_lt (known version) n) None (slice_get KINDS (n - 1)) (Some k) a.1) [
        | inl b ↦ let no = b.1 in absurd cc
        | inr b ↦ omega (arith, numbered (n - 1) k b.1, eqb-false n 0 a.0)
      ]
    ]
