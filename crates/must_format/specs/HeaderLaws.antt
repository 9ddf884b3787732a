-- A header stands in the first 17 bytes, and is their text.
use Rattle.std.proofs.Common.{◌≡◌, ℕ, ◌+◌, ◌≤◌, List, ◌++◌, length, take, drop, get_or, Option, Some, None, refl, ap, ◌∙◌, arith, length-append, cond, ltb, Bool, true, false}
use Rattle.std.specs.Int.{w32, from_be_bytes, cast_signed}
use Rattle.std.proofs.lemmas.Bool.{le-ltb, ltb-false}
use Rattle.std.proofs.lemmas.List.{take-append-le, drop-append-le, length-drop, get_or_append_left}
use Rattle.must_format.specs.declared.expect.Expect.{Expect}
use Rattle.must_format.specs.declared.fault.StreamFault.{StreamFault}
use Rattle.must_format.specs.Decoding.{u32_at, i32_at}
use Rattle.must_format.specs.Stream.{version_of, header_of, header_fault}

four_more : (k : ℕ) (xs ys : List ℕ) → k + 4 ≤ length xs → take 4 (drop k (xs ++ ys)) ≡ take 4 (drop k xs)
four_more k xs ys long = ap (take 4) (drop-append-le k xs ys (omega (arith, long))) ∙ take-append-le 4 (drop k xs) ys (omega (arith, long, length-drop k xs))

u32_more : (k : ℕ) (xs ys : List ℕ) → k + 4 ≤ length xs → u32_at (drop k (xs ++ ys)) ≡ u32_at (drop k xs)
unfolding u32_at
u32_more k xs ys long = ap (from_be_bytes w32) (four_more k xs ys long)

i32_more : (k : ℕ) (xs ys : List ℕ) → k + 4 ≤ length xs → i32_at (drop k (xs ++ ys)) ≡ i32_at (drop k xs)
unfolding i32_at
i32_more k xs ys long = ap (λ b. cast_signed w32 (from_be_bytes w32 b)) (four_more k xs ys long)

version_more : (xs ys : List ℕ) → 5 ≤ length xs → version_of (xs ++ ys) ≡ version_of xs
version_more xs ys long = ap (λ b. get_or b 0 0) (drop-append-le 4 xs ys (omega (arith, long))) ∙ get_or_append_left (drop 4 xs) ys 0 0 (omega (arith, long, length-drop 4 xs))

pub header_more : (xs ys : List ℕ) → 17 ≤ length xs → header_of (xs ++ ys) ≡ header_of xs
header_more xs ys long =
    rw (version_more xs ys (omega (arith, long)), u32_more 5 xs ys (omega (arith, long)), u32_more 9 xs ys (omega (arith, long)), i32_more 13 xs ys (omega (arith, long))) refl

pub fault_more : (e : Option Expect) (xs ys : List ℕ) → 17 ≤ length xs → header_fault e (xs ++ ys) ≡ header_fault e xs
unfolding header_fault
fault_more e xs ys long =
    rw (
      le-ltb (length (xs ++ ys)) 17 (omega (arith, long, length-append xs ys)),
      le-ltb (length xs) 17 long,
      u32_more 0 xs ys (omega (arith, long)),
      version_more xs ys (omega (arith, long)),
      u32_more 5 xs ys (omega (arith, long)),
      u32_more 9 xs ys (omega (arith, long)),
      i32_more 13 xs ys (omega (arith, long)),
    ) refl

abbrev some : StreamFault → Option StreamFault
some f = Some f

long_header : (b : Bool) (f : StreamFault) (o : Option StreamFault) → cond b (some f) o ≡ None → b ≡ false
long_header true f o e = absurd cc
long_header false f o e = refl

-- a good header has its 17 bytes
pub header_long : (e : Option Expect) (bytes : List ℕ) → header_fault e bytes ≡ None → 17 ≤ length bytes
unfolding header_fault
header_long e bytes good = ltb-false _ _ (long_header (ltb (length bytes) 17) _ _ good)
