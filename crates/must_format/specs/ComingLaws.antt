-- What comes behind some calls, and what stands there.
use Rattle.std.proofs.Common.{◌≡◌, ℕ, zero, suc, ◌+◌, ◌-◌, ◌≤◌, ◌<◌, inl, inr, Bool, true, false, not, cond, ltb, eqb, List, [], ◌∷◌, ◌++◌, length, take, drop, refl, sym, ap, subst, ◌∙◌, append_assoc, arith, length-append}
use Rattle.std.proofs.lemmas.Bool.{lt-ltb, ltb-true, eqb-true}
use Rattle.std.proofs.lemmas.List.{take-append-le, take_all, length-take, take-append-drop}
use Rattle.must_call.specs.declared.call.Call.{Call}
use Rattle.must_call.specs.declared.kind.Kind.{Kind}
use Rattle.must_call.specs.Kinds.{kind_of}
use Rattle.must_call.specs.Made.{made_of, comm_of}
use Rattle.must_format.specs.declared.header.Header.{Header}
use Rattle.must_format.specs.declared.cause.Cause.TheVariants as cause
use Rattle.must_format.specs.declared.cause.Limit.TheVariants as limit
use Rattle.must_format.specs.declared.fault.StreamFault.TheVariants.{Malformed, Bound}
use Rattle.must_format.specs.Values.{IsBytes, u32}
use Rattle.must_format.specs.Payload.{record_length, offset_behind, payload_text}
use Rattle.must_format.specs.Decoding.{call_at}
use Rattle.must_format.specs.Spelling.{Spells, IsKnown, record_text}
use Rattle.must_format.specs.Record.{Front, Whole, End, More, Bad, front}
use Rattle.must_format.specs.Stream.{Next, Done, Stop, stop, is_stuck, next_handle, is_due, have_members, call_limit, coming_call, coming_front, coming_at, room_behind}
use Rattle.must_format.specs.Complete.{MayFollow}
use Rattle.must_format.specs.LeafLaws.{IsBytes-take, length-u32}
use Rattle.must_format.specs.FoundLaws.{chosen, front_spells}
use Rattle.must_format.specs.SpelledLaws.{spelled_front}
use Rattle.must_format.specs.EndLaws.{end_long}
use Rattle.must_format.specs.FrontLaws.{front_stays}

pub take_more : (n : ℕ) (xs ys : List ℕ) → take n (xs ++ ys) ≡ take n xs ++ take (n - length xs) ys
take_more zero xs ys = let none : 0 - length xs ≡ 0 = omega arith in rw none refl
take_more (suc n) [] ys = let all : suc n - 0 ≡ suc n = omega arith in rw all refl
take_more (suc n) (x ∷ xs) ys =
    let left : suc n - suc (length xs) ≡ n - length xs = omega arith in
    rw left (ap (λ (t : List ℕ). x ∷ t) (take_more n xs ys))

-- ---- more bytes

-- a record or a fault stays, whatever follows
pub coming_stays : (h : Header) (before : List Call) (bytes more : List ℕ) (f : Front) → (f ≡ More → ⊥) → front h.version (take (room_behind h before) bytes) ≡ f
    → coming_at h before (bytes ++ more) ≡ coming_front h before (length (bytes ++ more)) (room_behind h before) f
coming_stays h before bytes more f some e =
    let room = room_behind h before in
    ap (λ (g : Front). coming_front h before (length (bytes ++ more)) room g)
    (ap (front h.version) (take_more room bytes more) ∙ front_stays h.version (take room bytes) (take (room - length bytes) more) f some e)

-- what stands past the byte limit isn't looked at
pub coming_past : (h : Header) (before : List Call) (bytes more : List ℕ) (f : Front) → room_behind h before ≤ length bytes → front h.version (take (room_behind h before) bytes) ≡ f
    → coming_at h before (bytes ++ more) ≡ coming_front h before (length (bytes ++ more)) (room_behind h before) f
coming_past h before bytes more f past e =
    let room = room_behind h before in
    ap (λ (g : Front). coming_front h before (length (bytes ++ more)) room g) (ap (front h.version) (take-append-le room bytes more past) ∙ e)

-- ---- a call

pub next_same : (c d : Call) → Next c ≡ Next d → c ≡ d
next_same c d e = cc

-- a call that comes follows those before it, within the limit
pub record Follows (rank n : ℕ) (before : List Call) (call : Call) : Type 0 where
  pub follows : MayFollow rank n before call
  pub few : length before < call_limit n

not_true : (b : Bool) → not b ≡ false → b ≡ true
not_true true e = refl
not_true false e = absurd cc

true_not : (b : Bool) → b ≡ true → not b ≡ false
true_not true e = refl
true_not false e = absurd cc

pub call_follows : (rank n : ℕ) (before : List Call) (call next : Call) → coming_call rank n before call ≡ Next next → (call ≡ next) × Follows rank n before call
unfolding coming_call
call_follows rank n before call next e =
    let due = is_due (next_handle before) (kind_of call.body) (made_of call.body) in
    let members = have_members rank n (comm_of call.body) in
    let fourth = cond (not members) (stop before cause.Members) (Next call) in
    let third = cond (not due) (stop before cause.HandleNumber) fourth in
    let second = cond (not (ltb (length before) (call_limit n))) (Stop (Bound (offset_behind before) limit.Calls)) third in
    elim (chosen (is_stuck before) (stop before cause.AfterUnreturned) second (Next next) e) [
      | inl a ↦ let no = a.1 in absurd cc
      | inr a ↦ elim (chosen (not (ltb (length before) (call_limit n))) (Stop (Bound (offset_behind before) limit.Calls)) third (Next next) a.1) [
        | inl b ↦ let no = b.1 in absurd cc
        | inr b ↦ elim (chosen (not due) (stop before cause.HandleNumber) fourth (Next next) b.1) [
          | inl c ↦ let no = c.1 in absurd cc
          | inr c ↦ elim (chosen (not members) (stop before cause.Members) (Next call) (Next next) c.1) [
            | inl d ↦ let no = d.1 in absurd cc
            | inr d ↦ (next_same call next d.1, record { follows = record { returned = a.0; handle = not_true due c.0; members = not_true members d.0 }; few = ltb-true _ _ (not_true _ b.0) })
          ]
        ]
      ]
    ]

pub follows_call : (rank n : ℕ) (before : List Call) (call : Call) → Follows rank n before call → coming_call rank n before call ≡ Next call
unfolding coming_call
follows_call rank n before call f = rw (f.follows.returned, lt-ltb _ _ f.few, f.follows.handle, f.follows.members) refl

-- the record of a call that comes
pub record IsCall (h : Header) (before : List Call) (f : Front) (call : Call) : Type 0 where
  pub kind : Kind
  pub returned : Bool
  pub payload : List ℕ
  pub front_is : f ≡ Whole kind returned payload
  pub call_is : call_at kind returned payload ≡ call
  pub follows : Follows h.rank h.size before call

pub front_call : (h : Header) (before : List Call) (behind room : ℕ) (f : Front) (call : Call) → coming_front h before behind room f ≡ Next call → IsCall h before f call
front_call h before behind room (Bad c) call e = absurd cc
front_call h before behind room (Whole k r payload) call e =
    let t = call_follows h.rank h.size before (call_at k r payload) call e in
    record { kind = k; returned = r; payload = payload; front_is = refl; call_is = t.0; follows = subst (λ (x : Call). Follows h.rank h.size before x) t.0 t.1 }
front_call h before behind room More call e =
    elim (chosen (ltb room behind) (Stop (Bound (offset_behind before) limit.Bytes)) (stop before cause.Truncated) (Next call) e) [
      | inl a ↦ let no = a.1 in absurd cc
      | inr a ↦ let no = a.1 in absurd cc
    ]
front_call h before behind room (End m) call e =
    elim (chosen (eqb m (length before)) (cond (eqb behind 10) Done (Stop (Malformed (offset_behind before + 10) cause.AfterEnd))) (stop before cause.EndCount) (Next call) e) [
      | inl a ↦ elim (chosen (eqb behind 10) Done (Stop (Malformed (offset_behind before + 10) cause.AfterEnd)) (Next call) a.1) [
        | inl b ↦ let no = b.1 in absurd cc
        | inr b ↦ let no = b.1 in absurd cc
      ]
      | inr a ↦ let no = a.1 in absurd cc
    ]

-- a call's record stands behind the calls before it, within the limits
pub record CallAt (h : Header) (before : List Call) (bytes : List ℕ) (call : Call) : Type 0 where
  pub text : List ℕ
  pub rest : List ℕ
  pub parts : bytes ≡ text ++ rest
  pub spells : Spells call text
  pub known : IsKnown h.version call
  pub follows : Follows h.rank h.size before call
  pub within : length text ≤ room_behind h before

pub record_length-is : (k : Kind) (r : Bool) (p : List ℕ) → length (record_text k r p) ≡ 6 + length p
record_length-is k r p = omega (arith, length-append (u32 (length p)) p, length-u32 (length p))

pub text_length : (call : Call) (text : List ℕ) → Spells call text → length text ≡ record_length call
text_length call text s = ap length s.bytes_are ∙ record_length-is (kind_of call.body) call.returned (payload_text call.body)

pub next_stands : (h : Header) (before : List Call) (bytes : List ℕ) (call : Call) → IsBytes bytes → coming_at h before bytes ≡ Next call → CallAt h before bytes call
next_stands h before bytes call fits e =
    let room = room_behind h before in
    let t = front_call h before (length bytes) room (front h.version (take room bytes)) call e in
    let text = record_text t.kind t.returned t.payload in
    let found = front_spells h.version (take room bytes) t.kind t.returned t.payload (IsBytes-take room bytes fits) t.front_is in
    record {
      text = text;
      rest = found.2.0 ++ drop room bytes;
      parts = sym (take-append-drop room bytes) ∙ ap (λ (front : List ℕ). front ++ drop room bytes) found.2.1 ∙ append_assoc text found.2.0 (drop room bytes);
      spells = subst (λ (c : Call). Spells c text) t.call_is found.0;
      known = subst (λ (c : Call). IsKnown h.version c) t.call_is found.1;
      follows = t.follows;
      within = omega (arith, ap length found.2.1, length-append text found.2.0, length-take room bytes);
    }

pub stands_next : (h : Header) (before : List Call) (bytes : List ℕ) (call : Call) → CallAt h before bytes call → coming_at h before bytes ≡ Next call
stands_next h before bytes call c =
    let room = room_behind h before in
    let rest = take (room - length c.text) c.rest in
    let t = spelled_front h.version call c.text rest c.known c.spells in
    let front_is : front h.version (take room bytes) ≡ Whole (kind_of call.body) call.returned t.0 =
    ap (λ (b : List ℕ). front h.version (take room b)) c.parts
    ∙ ap (front h.version) (take_more room c.text c.rest ∙ ap (λ (front : List ℕ). front ++ rest) (take_all room c.text c.within))
    ∙ t.1 in
    ap (λ (f : Front). coming_front h before (length bytes) room f) front_is
    ∙ ap (λ (x : Call). coming_call h.rank h.size before x) (sym t.2)
    ∙ follows_call h.rank h.size before call c.follows

pub stands_longer : (h : Header) (before : List Call) (bytes more : List ℕ) (call : Call) → CallAt h before bytes call → CallAt h before (bytes ++ more) call
stands_longer h before bytes more call c = record {
  text = c.text;
  rest = c.rest ++ more;
  parts = ap (λ (b : List ℕ). b ++ more) c.parts ∙ append_assoc c.text c.rest more;
  spells = c.spells;
  known = c.known;
  follows = c.follows;
  within = c.within;
}

-- a call that comes goes on coming
pub next_longer : (h : Header) (before : List Call) (bytes more : List ℕ) (call : Call) → IsBytes bytes → coming_at h before bytes ≡ Next call → coming_at h before (bytes ++ more) ≡ Next call
next_longer h before bytes more call fits e = stands_next h before (bytes ++ more) call (stands_longer h before bytes more call (next_stands h before bytes call fits e))

-- ---- the end

-- the end of a stream behind these calls
pub record IsEnd (before : List Call) (behind : ℕ) (f : Front) : Type 0 where
  pub front_is : f ≡ End (length before)
  pub ten : behind ≡ 10

no_done : (rank n : ℕ) (before : List Call) (call : Call) → coming_call rank n before call ≡ Done → ⊥
unfolding coming_call
no_done rank n before call e =
    let due = is_due (next_handle before) (kind_of call.body) (made_of call.body) in
    let members = have_members rank n (comm_of call.body) in
    let fourth = cond (not members) (stop before cause.Members) (Next call) in
    let third = cond (not due) (stop before cause.HandleNumber) fourth in
    let second = cond (not (ltb (length before) (call_limit n))) (Stop (Bound (offset_behind before) limit.Calls)) third in
    elim (chosen (is_stuck before) (stop before cause.AfterUnreturned) second Done e) [
      | inl a ↦ let no = a.1 in cc
      | inr a ↦ elim (chosen (not (ltb (length before) (call_limit n))) (Stop (Bound (offset_behind before) limit.Calls)) third Done a.1) [
        | inl b ↦ let no = b.1 in cc
        | inr b ↦ elim (chosen (not due) (stop before cause.HandleNumber) fourth Done b.1) [
          | inl c ↦ let no = c.1 in cc
          | inr c ↦ elim (chosen (not members) (stop before cause.Members) (Next call) Done c.1) [
            | inl d ↦ let no = d.1 in cc
            | inr d ↦ let no = d.1 in cc
          ]
        ]
      ]
    ]

front_end : (h : Header) (before : List Call) (behind room : ℕ) (f : Front) → coming_front h before behind room f ≡ Done → IsEnd before behind f
front_end h before behind room (Bad c) e = absurd cc
front_end h before behind room (Whole k r payload) e = absurd (no_done h.rank h.size before (call_at k r payload) e)
front_end h before behind room More e =
    elim (chosen (ltb room behind) (Stop (Bound (offset_behind before) limit.Bytes)) (stop before cause.Truncated) Done e) [
      | inl a ↦ let no = a.1 in absurd cc
      | inr a ↦ let no = a.1 in absurd cc
    ]
front_end h before behind room (End m) e =
    elim (chosen (eqb m (length before)) (cond (eqb behind 10) Done (Stop (Malformed (offset_behind before + 10) cause.AfterEnd))) (stop before cause.EndCount) Done e) [
      | inl a ↦ elim (chosen (eqb behind 10) Done (Stop (Malformed (offset_behind before + 10) cause.AfterEnd)) Done a.1) [
        | inl b ↦ record { front_is = ap End (eqb-true _ _ a.0); ten = eqb-true _ _ b.0 }
        | inr b ↦ let no = b.1 in absurd cc
      ]
      | inr a ↦ let no = a.1 in absurd cc
    ]

pub done_is : (h : Header) (before : List Call) (bytes : List ℕ) → coming_at h before bytes ≡ Done → IsEnd before (length bytes) (front h.version (take (room_behind h before) bytes))
done_is h before bytes e = front_end h before (length bytes) (room_behind h before) (front h.version (take (room_behind h before) bytes)) e

-- all of it lies within the byte limit
pub done_within : (h : Header) (before : List Call) (bytes : List ℕ) → coming_at h before bytes ≡ Done → length bytes ≤ room_behind h before
done_within h before bytes e =
    let t = done_is h before bytes e in
    let long = end_long h.version (take (room_behind h before) bytes) (length before) t.front_is in
    omega (arith, long, t.ten, length-take (room_behind h before) bytes)
