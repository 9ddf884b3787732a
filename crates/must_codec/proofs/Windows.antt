-- Bytes in a window.
use Rattle.std.proofs.Common.{◌≡◌, ℕ, ◌+◌, ◌-◌, ◌≤◌, List, [], ◌++◌, length, take, drop, Option, Some, None, refl, sym, ap, ◌∙◌, arith}
use Rattle.std.specs.Io.KnownBytes.{Consumes, IsAtEnd}
use Rattle.std.proofs.Math.Seq.{take-add}
use Rattle.std.proofs.lemmas.List.{drop-take, drop-drop, length-take, length-drop}
use Rattle.must_codec.specs.Views.{Took}

-- used up bytes of a range
pub skipped : (bytes : List ℕ) (from to n : ℕ) → from + n ≤ to → take (to - (from + n)) (drop (from + n) bytes) ≡ drop n (take (to - from) (drop from bytes))
skipped bytes from to n le =
    let all : to - from ≡ n + (to - (from + n)) = omega (arith, le) in
    rw all (ap (take (to - (from + n))) (sym (drop-drop n from bytes)) ∙ sym (drop-take n (to - (from + n)) (drop from bytes)))

some_same : (a b : List ℕ) → Some a ≡ Some b → a ≡ b
some_same a b e = cc

at_end : (left : Option (List ℕ)) (ys : List ℕ) → left ≡ Some ys → IsAtEnd left → ys ≡ []
at_end None ys e end = absurd cc
at_end (Some xs) ys e end = sym (some_same xs ys e) ∙ end

-- the window grew by what was read behind it
took_at : (held bytes rest : List ℕ) (left : Option (List ℕ)) (n : ℕ) → take (length held) bytes ≡ held → length held + n ≤ length bytes → Consumes (Some rest) left (take n (drop (length held) bytes)) → (n ≡ 0 → IsAtEnd left)
    → Took held (take (length held + n) bytes) rest left n
took_at held bytes rest None n front long consumes end = absurd consumes
took_at held bytes rest (Some others) n front long consumes end = record {
  piece = take n (drop (length held) bytes);
  others = others;
  parts = consumes;
  left_is = refl;
  window = take-add (length held) n bytes ∙ ap (λ (xs : List ℕ). xs ++ take n (drop (length held) bytes)) front;
  count_is = omega (arith, long, length-take n (drop (length held) bytes), length-drop (length held) bytes);
  end = λ none. end none;
}

pub took : (len n : ℕ) (held bytes rest : List ℕ) (old left : Option (List ℕ)) → old ≡ Some rest → length held ≡ len → take len bytes ≡ held → len + n ≤ length bytes → Consumes old left (take n (drop len bytes)) → (n ≡ 0 → IsAtEnd left)
    → Took held (take ((len + n) - 0) (drop 0 bytes)) rest left n
took len n held bytes rest old left is long front within consumes end =
    let all : (len + n) - 0 ≡ length held + n = omega (arith, long) in
    rw all (took_at held bytes rest left n (rw long front) (omega (arith, long, within)) (rw (long, ← is) consumes) end)
