-- What stands at the front of some bytes stays whatever follows, but where it is less than a record.
use Rattle.std.proofs.Common.{◌≡◌, ℕ, ◌≤◌, inl, inr, Bool, true, false, cond, ltb, eqb, List, [], ◌∷◌, ◌++◌, length, take, drop, Option, Some, None, refl, sym, ap, ◌∙◌, arith, length-append}
use Rattle.std.specs.Int.{w32, from_be_bytes}
use Rattle.std.proofs.lemmas.Bool.{ltb-false, le-ltb}
use Rattle.std.proofs.lemmas.List.{take-append-le, drop-append-le}
use Rattle.must_call.specs.declared.kind.Kind.{Kind}
use Rattle.must_call.specs.Kinds.{kind_at}
use Rattle.must_format.specs.declared.cause.Cause.TheVariants as cause
use Rattle.must_format.specs.Record.{Front, More, Bad, Sized, Payload, Short, Long, sized, judged_front, whole_front, call_front, end_payload_front, end_front, kind_front, front}
use Rattle.must_format.specs.FoundLaws.{chosen}

sized_stays : (xs ys : List ℕ) (s : Sized) → (s ≡ Short → ⊥) → sized xs ≡ s → sized (xs ++ ys) ≡ s
sized_stays xs ys s some e =
    let n = from_be_bytes w32 (take 4 xs) in
    elim (chosen (ltb (length xs) 4) Short (cond (ltb 1048576 n) Long (cond (ltb (length (drop 4 xs)) n) Short (Payload (take n (drop 4 xs))))) s e) [
      | inl a ↦ absurd (some (sym a.1))
      | inr a ↦
          let long : 4 ≤ length xs = ltb-false _ _ a.0 in
          let four : ltb (length (xs ++ ys)) 4 ≡ false = le-ltb _ _ (omega (arith, long, length-append xs ys)) in
          let head : take 4 (xs ++ ys) ≡ take 4 xs = take-append-le 4 xs ys long in
          let tail : drop 4 (xs ++ ys) ≡ drop 4 xs ++ ys = drop-append-le 4 xs ys long in
          elim (chosen (ltb 1048576 n) Long (cond (ltb (length (drop 4 xs)) n) Short (Payload (take n (drop 4 xs)))) s a.1) [
            | inl b ↦ rw (four, head, b.0) b.1
            | inr b ↦ elim (chosen (ltb (length (drop 4 xs)) n) Short (Payload (take n (drop 4 xs))) s b.1) [
              | inl c ↦ absurd (some (sym c.1))
              | inr c ↦
                  let enough : n ≤ length (drop 4 xs) = ltb-false _ _ c.0 in
                  let more : ltb (length (drop 4 xs ++ ys)) n ≡ false = le-ltb _ _ (omega (arith, enough, length-append (drop 4 xs) ys)) in
                  rw (four, head, b.0, tail, more, take-append-le n (drop 4 xs) ys enough) c.1
            ]
          ]
    ]

judged_at : (judged : List ℕ → Front) (xs ys : List ℕ) (f : Front) (s : Sized) → (f ≡ More → ⊥) → sized xs ≡ s → judged_front judged s ≡ f → judged_front judged (sized (xs ++ ys)) ≡ f
judged_at judged xs ys f Short some is e = absurd (some (sym e))
judged_at judged xs ys f Long some is e = ap (judged_front judged) (sized_stays xs ys Long (λ no. cc) is) ∙ e
judged_at judged xs ys f (Payload p) some is e = ap (judged_front judged) (sized_stays xs ys (Payload p) (λ no. cc) is) ∙ e

judged_stays : (judged : List ℕ → Front) (xs ys : List ℕ) (f : Front) → (f ≡ More → ⊥) → judged_front judged (sized xs) ≡ f → judged_front judged (sized (xs ++ ys)) ≡ f
judged_stays judged xs ys f some e = judged_at judged xs ys f (sized xs) some refl e

cond_stays : (b : Bool) (x y z w f : Front) → (x ≡ f → z ≡ f) → (y ≡ f → w ≡ f) → cond b x y ≡ f → cond b z w ≡ f
cond_stays true x y z w f left right e = left e
cond_stays false x y z w f left right e = right e

call_stays : (k : Kind) (xs ys : List ℕ) (f : Front) → (f ≡ More → ⊥) → call_front k xs ≡ f → call_front k (xs ++ ys) ≡ f
call_stays k [] ys f some e = absurd (some (sym e))
call_stays k (b ∷ xs) ys f some e =
    cond_stays (eqb b 0) (judged_front (whole_front k true) (sized xs)) (cond (eqb b 1) (judged_front (whole_front k false) (sized xs)) (Bad cause.Flags))
    (judged_front (whole_front k true) (sized (xs ++ ys))) (cond (eqb b 1) (judged_front (whole_front k false) (sized (xs ++ ys))) (Bad cause.Flags)) f
    (judged_stays (whole_front k true) xs ys f some)
    (cond_stays (eqb b 1) (judged_front (whole_front k false) (sized xs)) (Bad cause.Flags) (judged_front (whole_front k false) (sized (xs ++ ys))) (Bad cause.Flags) f (judged_stays (whole_front k false) xs ys f some) (λ same. same))
    e

end_stays : (xs ys : List ℕ) (f : Front) → (f ≡ More → ⊥) → end_front xs ≡ f → end_front (xs ++ ys) ≡ f
end_stays [] ys f some e = absurd (some (sym e))
end_stays (b ∷ xs) ys f some e =
    cond_stays (eqb b 0) (judged_front end_payload_front (sized xs)) (Bad cause.Flags) (judged_front end_payload_front (sized (xs ++ ys))) (Bad cause.Flags) f
    (judged_stays end_payload_front xs ys f some) (λ same. same) e

kind_stays : (n : ℕ) (o : Option Kind) (xs ys : List ℕ) (f : Front) → (f ≡ More → ⊥) → kind_front n o xs ≡ f → kind_front n o (xs ++ ys) ≡ f
kind_stays n (Some k) xs ys f some e = call_stays k xs ys f some e
kind_stays n None xs ys f some e = cond_stays (eqb n 0) (end_front xs) (Bad cause.Kind) (end_front (xs ++ ys)) (Bad cause.Kind) f (end_stays xs ys f some) (λ same. same) e

pub front_stays : (version : ℕ) (xs ys : List ℕ) (f : Front) → (f ≡ More → ⊥) → front version xs ≡ f → front version (xs ++ ys) ≡ f
unfolding front
front_stays version [] ys f some e = absurd (some (sym e))
front_stays version (n ∷ xs) ys f some e = kind_stays n (kind_at version n) xs ys f some e
