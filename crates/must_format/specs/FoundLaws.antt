-- A whole record at the front of some bytes spells its call.
use Rattle.std.proofs.Common.{◌≡◌, ℕ, suc, ◌≤◌, ◌⊎◌, inl, inr, Bool, true, false, cond, ltb, eqb, List, [], ◌∷◌, ◌++◌, length, take, drop, Option, Some, None, Result, Ok, Err, refl, sym, ap, subst, ◌∙◌, append_assoc}
use Rattle.std.specs.Int.{w32, from_be_bytes}
use Rattle.std.proofs.lemmas.Bool.{ltb-false, eqb-true}
use Rattle.std.proofs.lemmas.List.{take-append-drop, length-take-le}
use Rattle.must_call.specs.declared.kind.Kind.{Kind}
use Rattle.must_call.specs.Kinds.{number_of, kind_at}
use Rattle.must_call.specs.KindLaws.{kind_at-is}
use Rattle.must_format.specs.declared.cause.Cause.{Cause}
use Rattle.must_format.specs.declared.cause.Cause.TheVariants as cause
use Rattle.must_format.specs.Values.{IsBytes, u32}
use Rattle.must_format.specs.Payload.{payload_text}
use Rattle.must_format.specs.Spelling.{flag, record_text, Spells, IsKnown}
use Rattle.must_format.specs.Decoding.{body_at, call_at}
use Rattle.must_format.specs.Judging.{whole}
use Rattle.must_format.specs.Record.{Whole, End, Bad, payload_front, Sized, Payload, Short, Long, sized, judged_front, whole_front, call_front, end_front, end_payload_front, end_whole, kind_front, front}
use Rattle.must_format.specs.LeafLaws.{IsBytes-drop, IsBytes-take, wide32}
use Rattle.must_format.specs.GoodLaws.{IsPayload, whole_good}

pub chosen : {A : Type 0} (b : Bool) (x y z : A) → cond b x y ≡ z → ((b ≡ true) × (x ≡ z)) ⊎ ((b ≡ false) × (y ≡ z))
chosen true x y z e = inl (refl, e)
chosen false x y z e = inr (refl, e)

-- a length and as many bytes
pub record Framing (bytes payload : List ℕ) : Type 0 where
  pub others : List ℕ
  pub parts : bytes ≡ (u32 (length payload) ++ payload) ++ others
  pub short : length payload ≤ 1048576
  pub bytes_fit : IsBytes payload

pub payload_is : (p q : List ℕ) → Payload p ≡ Payload q → p ≡ q
payload_is p q e = cc

u32_back : (bytes : List ℕ) → IsBytes bytes → 4 ≤ length bytes → u32 (from_be_bytes w32 (take 4 bytes)) ≡ take 4 bytes
unfolding u32
u32_back bytes fits long = wide32.back (take 4 bytes) (length-take-le 4 bytes long) (IsBytes-take 4 bytes fits)

framing : (bytes p : List ℕ) (n : ℕ) → u32 n ≡ take 4 bytes → take n (drop 4 bytes) ≡ p → length p ≡ n → bytes ≡ (u32 (length p) ++ p) ++ drop n (drop 4 bytes)
framing bytes p n head is len =
    sym (take-append-drop 4 bytes)
    ∙ ap (λ (t : List ℕ). t ++ drop 4 bytes) (sym head)
    ∙ ap (λ (t : List ℕ). u32 n ++ t) (sym (take-append-drop n (drop 4 bytes)))
    ∙ ap (λ (t : List ℕ). u32 n ++ (t ++ drop n (drop 4 bytes))) is
    ∙ sym (append_assoc (u32 n) p (drop n (drop 4 bytes)))
    ∙ ap (λ (m : ℕ). (u32 m ++ p) ++ drop n (drop 4 bytes)) (sym len)

pub sized_is : (bytes p : List ℕ) → IsBytes bytes → sized bytes ≡ Payload p → Framing bytes p
sized_is bytes p fits e =
    let n = from_be_bytes w32 (take 4 bytes) in
    elim (chosen (ltb (length bytes) 4) Short (cond (ltb 1048576 n) Long (cond (ltb (length (drop 4 bytes)) n) Short (Payload (take n (drop 4 bytes))))) (Payload p) e) [
      | inl a ↦ let no = a.1 in absurd cc
      | inr a ↦ elim (chosen (ltb 1048576 n) Long (cond (ltb (length (drop 4 bytes)) n) Short (Payload (take n (drop 4 bytes)))) (Payload p) a.1) [
        | inl b ↦ let no = b.1 in absurd cc
        | inr b ↦ elim (chosen (ltb (length (drop 4 bytes)) n) Short (Payload (take n (drop 4 bytes))) (Payload p) b.1) [
          | inl c ↦ let no = c.1 in absurd cc
          | inr c ↦
              let is : take n (drop 4 bytes) ≡ p = payload_is (take n (drop 4 bytes)) p c.1 in
              let len : length p ≡ n = sym (ap length is) ∙ length-take-le n (drop 4 bytes) (ltb-false _ _ c.0) in
              let head : u32 n ≡ take 4 bytes = u32_back bytes fits (ltb-false _ _ a.0) in
              record {
                others = drop n (drop 4 bytes);
                parts = framing bytes p n head is len;
                short = rw len (ltb-false _ _ b.0);
                bytes_fit = rw (← is) (IsBytes-take n (drop 4 bytes) (IsBytes-drop 4 bytes fits));
              }
        ]
      ]
    ]

payload_ok : (k k' : Kind) (r r' : Bool) (q p : List ℕ) (res : Result (Unit {0}) Cause) → payload_front (Whole k r q) res ≡ Whole k' r' p → (res ≡ Ok tt) × (k ≡ k') × (r ≡ r') × (q ≡ p)
payload_ok k k' r r' q p (Ok u) e = (refl, cc, cc, cc)
payload_ok k k' r r' q p (Err c) e = absurd cc

-- what a record at a kind has
pub record Read (k : Kind) (r : Bool) (p : List ℕ) (k' : Kind) (bytes : List ℕ) : Type 0 where
  pub kind_is : k' ≡ k
  pub good : whole k r p ≡ Ok tt
  pub rest : List ℕ
  pub bytes_are : bytes ≡ flag r ∷ rest
  pub framed : Framing rest p

judged_is : (k k' : Kind) (r r' : Bool) (p bytes : List ℕ) (s : Sized) → IsBytes bytes → sized bytes ≡ s → judged_front (whole_front k' r') s ≡ Whole k r p
    → (k' ≡ k) × (r' ≡ r) × (whole k r p ≡ Ok tt) × Framing bytes p
judged_is k k' r r' p bytes Short fits s e = absurd cc
judged_is k k' r r' p bytes Long fits s e = absurd cc
judged_is k k' r r' p bytes (Payload q) fits s e =
    let t = payload_ok k' k r' r q p (whole k' r' q) e in
    (t.1, t.2, rw (← t.1, ← t.2, ← t.3) t.0, sized_is bytes p fits (s ∙ ap Payload t.3))

pub call_read : (k k' : Kind) (r : Bool) (p bytes : List ℕ) → IsBytes bytes → call_front k' bytes ≡ Whole k r p → Read k r p k' bytes
call_read k k' r p [] fits e = absurd cc
call_read k k' r p (f ∷ bytes) fits e =
    elim (chosen (eqb f 0) (judged_front (whole_front k' true) (sized bytes)) (cond (eqb f 1) (judged_front (whole_front k' false) (sized bytes)) (Bad cause.Flags)) (Whole k r p) e) [
      | inl a ↦
          let t = judged_is k k' r true p bytes (sized bytes) (λ i. fits (suc i)) refl a.1 in
          record { kind_is = t.0; good = t.2; rest = bytes; bytes_are = ap (λ (x : ℕ). x ∷ bytes) (eqb-true _ _ a.0) ∙ ap (λ (b : Bool). flag b ∷ bytes) t.1; framed = t.3 }
      | inr a ↦ elim (chosen (eqb f 1) (judged_front (whole_front k' false) (sized bytes)) (Bad cause.Flags) (Whole k r p) a.1) [
        | inl b ↦
            let t = judged_is k k' r false p bytes (sized bytes) (λ i. fits (suc i)) refl b.1 in
            record { kind_is = t.0; good = t.2; rest = bytes; bytes_are = ap (λ (x : ℕ). x ∷ bytes) (eqb-true _ _ b.0) ∙ ap (λ (v : Bool). flag v ∷ bytes) t.1; framed = t.3 }
        | inr b ↦ let no = b.1 in absurd cc
      ]
    ]

-- ---- the kind with a number

-- ---- a whole record

payload_end : (m : ℕ) (res : Result (Unit {0}) Cause) (k : Kind) (r : Bool) (p : List ℕ) → payload_front (End m) res ≡ Whole k r p → ⊥
payload_end m (Ok u) k r p e = cc
payload_end m (Err c) k r p e = cc

sized_end : (s : Sized) (k : Kind) (r : Bool) (p : List ℕ) → judged_front end_payload_front s ≡ Whole k r p → ⊥
sized_end (Payload q) k r p e = payload_end (from_be_bytes w32 q) (end_whole q) k r p e
sized_end Short k r p e = cc
sized_end Long k r p e = cc

end_never : (bytes : List ℕ) (k : Kind) (r : Bool) (p : List ℕ) → end_front bytes ≡ Whole k r p → ⊥
end_never [] k r p e = cc
end_never (f ∷ bytes) k r p e =
    elim (chosen (eqb f 0) (judged_front end_payload_front (sized bytes)) (Bad cause.Flags) (Whole k r p) e) [
      | inl a ↦ sized_end (sized bytes) k r p a.1
      | inr a ↦ let no = a.1 in absurd cc
    ]

-- a whole record at the front: its bytes, and that its payload is good
pub record IsRecord (bytes : List ℕ) (k : Kind) (r : Bool) (p : List ℕ) : Type 0 where
  pub others : List ℕ
  pub bytes_are : bytes ≡ record_text k r p ++ others
  pub good : whole k r p ≡ Ok tt
  pub short : length p ≤ 1048576
  pub fit : IsBytes p

from_read : (n : ℕ) (k k' : Kind) (r : Bool) (p bytes : List ℕ) → number_of k' ≡ n → Read k r p k' bytes → IsRecord (n ∷ bytes) k r p
from_read n k k' r p bytes e t = record {
  others = t.framed.others;
  bytes_are = ap (λ (m : ℕ). m ∷ bytes) (sym e ∙ ap number_of t.kind_is) ∙ ap (λ (b : List ℕ). number_of k ∷ b) t.bytes_are ∙ ap (λ (b : List ℕ). number_of k ∷ flag r ∷ b) t.framed.parts;
  good = t.good;
  short = t.framed.short;
  fit = t.framed.bytes_fit;
}

kind_read : (version n : ℕ) (o : Option Kind) (k : Kind) (r : Bool) (p bytes : List ℕ) → IsBytes bytes → kind_at version n ≡ o → kind_front n o bytes ≡ Whole k r p
    → IsRecord (n ∷ bytes) k r p × (kind_at version (number_of k) ≡ Some k)
kind_read version n (Some j) k r p bytes fits is e =
    let read = call_read k j r p bytes fits e in
    let number : number_of j ≡ n = kind_at-is version n j is in
    (from_read n k j r p bytes number read, subst (λ (x : Kind). kind_at version (number_of x) ≡ Some x) read.kind_is (ap (kind_at version) number ∙ is))
kind_read version n None k r p bytes fits is e =
    elim (chosen (eqb n 0) (end_front bytes) (Bad cause.Kind) (Whole k r p) e) [
      | inl a ↦ absurd (end_never bytes k r p a.1)
      | inr a ↦ let no = a.1 in absurd cc
    ]

front_read : (version : ℕ) (bytes : List ℕ) (k : Kind) (r : Bool) (p : List ℕ) → IsBytes bytes → front version bytes ≡ Whole k r p
    → IsRecord bytes k r p × (kind_at version (number_of k) ≡ Some k)
unfolding front
front_read version [] k r p fits e = absurd cc
front_read version (n ∷ bytes) k r p fits e = kind_read version n (kind_at version n) k r p bytes (λ i. fits (suc i)) refl e

-- a good payload that is short enough spells its call
payload_spells : (k : Kind) (r : Bool) (p : List ℕ) → IsPayload k r p → length p ≤ 1048576 → Spells (call_at k r p) (record_text k r p)
payload_spells k r p g short = record {
  spellable = record { stand = g.stand; inputs = g.inputs_fit; given = g.given_fits; short = subst (λ (q : List ℕ). length q ≤ 1048576) (sym g.text_is) short };
  bytes_are = ap (record_text k r) (sym g.text_is) ∙ ap (λ (j : Kind). record_text j r (payload_text (body_at k r p))) (sym g.kind_is);
}

-- what is read whole spells its call, of a kind that the version knows
pub front_spells : (version : ℕ) (bytes : List ℕ) (k : Kind) (r : Bool) (p : List ℕ) → IsBytes bytes → front version bytes ≡ Whole k r p
    → Spells (call_at k r p) (record_text k r p) × IsKnown version (call_at k r p) × ((others : List ℕ) × (bytes ≡ record_text k r p ++ others))
front_spells version bytes k r p fits e =
    let read = front_read version bytes k r p fits e in
    let g = whole_good k r p read.0.fit read.0.good in
    (payload_spells k r p g read.0.short, subst (λ (x : Kind). kind_at version (number_of x) ≡ Some x) (sym g.kind_is) read.1, (read.0.others, read.0.bytes_are))

-- the payload of the call of a good payload
pub payload_at : (k : Kind) (r : Bool) (p : List ℕ) → IsBytes p → whole k r p ≡ Ok tt → payload_text (body_at k r p) ≡ p
payload_at k r p fits good = (whole_good k r p fits good).text_is
