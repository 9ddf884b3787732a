-- The lines of one more number, and of one more call.
use Rattle.std.proofs.Common.{◌≡◌, ℕ, zero, suc, ◌+◌, ◌<◌, List, [], ◌∷◌, ◌++◌, length, take, Option, Some, None, refl, sym, ap, ◌∙◌, arith, append_assoc, append-nil}
use Rattle.std.specs.Prelude.{ℤ, slice_get}
use Rattle.std.specs.List.{flat_map}
use Rattle.std.proofs.lemmas.Grind.{flat_map-append}
use Rattle.std.proofs.lemmas.List.{take_more}
use Rattle.std.proofs.lemmas.Option.{slice_get_within, get_or_from_slice_get}
use Rattle.must_call.specs.declared.call.Call.{Call}
use Rattle.must_format.specs.Stream.{header_of}
use Rattle.must_tools.specs.Dump.{number_text, call_line, header_line, lines_from}
use Rattle.must_tools.specs.Reading.{text_so_far}

-- the next number of a list
numbers_taken : (zs : List ℤ) (i : ℕ) (z : ℤ) → slice_get zs i ≡ Some z → take (i + 1) zs ≡ take i zs ++ z ∷ []
numbers_taken zs i z is = take_more zs i z (slice_get_within zs i z is) ∙ ap (λ (y : ℤ). take i zs ++ y ∷ []) (get_or_from_slice_get zs i z z is)

pub numbers_more : (zs : List ℤ) (i : ℕ) (z : ℤ) (start old new : List ℕ) → slice_get zs i ≡ Some z
    → old ≡ start ++ flat_map number_text (take i zs) → new ≡ old ++ number_text z → new ≡ start ++ flat_map number_text (take (i + 1) zs)
numbers_more zs i z start old new is so_far more =
    more ∙ ap (λ (w : List ℕ). w ++ number_text z) so_far ∙ append_assoc start (flat_map number_text (take i zs)) (number_text z)
    ∙ ap (λ (w : List ℕ). start ++ (flat_map number_text (take i zs) ++ w)) (sym (append-nil (number_text z)))
    ∙ ap (λ (w : List ℕ). start ++ w) (sym (ap (flat_map number_text) (numbers_taken zs i z is) ∙ flat_map-append number_text (take i zs) (z ∷ [])))

-- there are no more
all_taken : (zs : List ℤ) (i : ℕ) → slice_get zs i ≡ None → take i zs ≡ zs
all_taken [] zero is = refl
all_taken [] (suc i) is = refl
all_taken (z ∷ zs) zero is = absurd cc
all_taken (z ∷ zs) (suc i) is = ap (λ (xs : List ℤ). z ∷ xs) (all_taken zs i is)

pub numbers_all : (zs : List ℤ) (i : ℕ) (start old : List ℕ) → slice_get zs i ≡ None → old ≡ start ++ flat_map number_text (take i zs) → old ≡ start ++ flat_map number_text zs
numbers_all zs i start old is so_far = so_far ∙ ap (λ (xs : List ℤ). start ++ flat_map number_text xs) (all_taken zs i is)

-- the line of a call behind those of others
lines_more : (k n : ℕ) (calls : List Call) (call : Call) → n ≡ k + length calls → lines_from k (calls ++ call ∷ []) ≡ lines_from k calls ++ call_line n call
lines_more k n [] call is =
    let same : k ≡ n = omega (arith, is) in
    append-nil (call_line k call) ∙ ap (λ (m : ℕ). call_line m call) same
lines_more k n (first ∷ calls) call is =
    let here : n ≡ (k + 1) + length calls = omega (arith, is) in
    ap (λ (w : List ℕ). call_line k first ++ w) (lines_more (k + 1) n calls call here)
    ∙ sym (append_assoc (call_line k first) (lines_from (k + 1) calls) (call_line n call))

pub text_more : (bytes : List ℕ) (calls : List Call) (call : Call) (n : ℕ) (old new : List ℕ) → n ≡ length calls → old ≡ text_so_far bytes calls → new ≡ old ++ call_line n call
    → new ≡ text_so_far bytes (calls ++ call ∷ [])
text_more bytes calls call n old new is so_far more =
    more ∙ ap (λ (w : List ℕ). w ++ call_line n call) so_far
    ∙ append_assoc (header_line (header_of bytes)) (lines_from 0 calls) (call_line n call)
    ∙ ap (λ (w : List ℕ). header_line (header_of bytes) ++ w) (sym (lines_more 0 n calls call (omega (arith, is))))
