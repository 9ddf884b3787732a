-- One step over the bytes that were taken.
use Rattle.std.proofs.Common.{◌≡◌, ℕ, ◌+◌, ◌≤◌, inl, inr, Bool, true, List, [], ◌∷◌, ◌++◌, length, take, drop, Option, Some, refl, sym, ap, subst, ◌∙◌, append_assoc, append-nil, arith, length-append}
use Rattle.std.specs.Prelude.{Result, Ok, Err}
use Rattle.must_call.specs.declared.call.Call.{Call}
use Rattle.must_format.specs.declared.header.Header.{Header}
use Rattle.must_format.specs.declared.place.StreamPlace.{StreamPlace}
use Rattle.must_format.specs.declared.fault.StreamFault.{StreamFault}
use Rattle.must_format.specs.declared.fault.StreamFault.TheVariants as fault
use Rattle.must_format.specs.Payload.{record_length, offset_behind, payload_text}
use Rattle.must_format.specs.Record.{Front, Whole, End, More, Bad, front}
use Rattle.must_format.specs.Stream.{Coming, Next, Stop, byte_limit, coming_front, coming_at, room_behind}
use Rattle.must_format.specs.ComingLaws.{coming_stays, coming_past, front_call}
use Rattle.must_codec.specs.Reader.{IsPlace}
use Rattle.must_codec.specs.Views.{Took, IsSettled, Says, IsRefusal, Stepped, StepAnswers, IsReady}

-- in the midst of a step: a piece of the source's bytes went behind the old ones
pub record Mid (old window rest : List ℕ) (left : Option (List ℕ)) (ended : Bool) : Type 0 where
  pub piece : List ℕ
  pub others : List ℕ
  pub parts : rest ≡ piece ++ others
  pub left_is : left ≡ Some others
  pub window_is : window ≡ old ++ piece
  pub end : ended ≡ true → others ≡ []

pub mid_more : (old window new rest : List ℕ) (left after : Option (List ℕ)) (ended now : Bool) (count : ℕ) → Mid old window rest left ended → ((others : List ℕ) → left ≡ Some others → Took window new others after count) → (now ≡ true → count ≡ 0)
    → Mid old new rest after now
mid_more old window new rest left after ended now count m taken none =
    let t = taken m.others m.left_is in
    record {
      piece = m.piece ++ t.piece;
      others = t.others;
      parts = m.parts ∙ ap (λ (xs : List ℕ). m.piece ++ xs) t.parts ∙ sym (append_assoc m.piece t.piece t.others);
      left_is = t.left_is;
      window_is = t.window ∙ ap (λ (xs : List ℕ). xs ++ t.piece) m.window_is ∙ append_assoc old m.piece t.piece;
      end = λ e. t.end (none e);
    }

-- a read that failed took nothing
pub mid_left : {old window rest : List ℕ} {left after : Option (List ℕ)} {ended : Bool} (m : Mid old window rest left ended) → after ≡ Some m.others → Mid old window rest after ended
mid_left m is = record { piece = m.piece; others = m.others; parts = m.parts; left_is = is; window_is = m.window_is; end = m.end }

-- ---- what is said

said_at : (h : Header) (given : List Call) (window more : List ℕ) (f : Front) (c : Coming) (ended : Bool) → front h.version (take (room_behind h given) window) ≡ f → IsSettled ended (length window) (room_behind h given) f → (ended ≡ true → more ≡ [])
    → coming_at h given (window ++ more) ≡ coming_front h given (length (window ++ more)) (room_behind h given) f
said_at h given window more More c ended e (inl past) end = coming_past h given window more More (omega (arith, past)) e
said_at h given window more More c ended e (inr last) end =
    let none : window ++ more ≡ window = ap (λ (xs : List ℕ). window ++ xs) (end last) ∙ append-nil window in
    ap (λ (f : Front). coming_front h given (length (window ++ more)) (room_behind h given) f) (ap (λ (xs : List ℕ). front h.version (take (room_behind h given) xs)) none ∙ e)
said_at h given window more (Whole k r p) c ended e s end = coming_stays h given window more (Whole k r p) (λ no. cc) e
said_at h given window more (End n) c ended e s end = coming_stays h given window more (End n) (λ no. cc) e
said_at h given window more (Bad d) c ended e s end = coming_stays h given window more (Bad d) (λ no. cc) e

-- what is said of the bytes so far, whatever follows
pub said : (h : Header) (given : List Call) (window more : List ℕ) (c : Coming) (ended : Bool) → Says (Some c) ended h given (length window) (room_behind h given) (front h.version (take (room_behind h given) window)) → (ended ≡ true → more ≡ [])
    → coming_at h given (window ++ more) ≡ c
said h given window more c ended says end =
    let f = front h.version (take (room_behind h given) window) in
    said_at h given window more f c ended refl says.0 end
    ∙ says.1 (length (window ++ more)) (omega (arith, length-append window more)) (λ e. ap (λ (xs : List ℕ). length (window ++ xs)) (end e) ∙ ap length (append-nil window))

pub said_now : (h : Header) (given : List Call) (window : List ℕ) (c : Coming) (ended : Bool) → Says (Some c) ended h given (length window) (room_behind h given) (front h.version (take (room_behind h given) window)) → coming_at h given window ≡ c
said_now h given window c ended says = says.1 (length window) (omega arith) (λ e. refl)

-- a call that comes goes on coming
pub next_all : (h : Header) (given : List Call) (window more : List ℕ) (call : Call) → coming_at h given window ≡ Next call → coming_at h given (window ++ more) ≡ Next call
next_all h given window more call e =
    let room = room_behind h given in
    let t = front_call h given (length window) room (front h.version (take room window)) call e in
    coming_stays h given window more (Whole t.kind t.returned t.payload) (λ no. cc) t.front_is
    ∙ (rw t.front_is at e)

-- ---- what a step answers

few_at : (h : Header) (p : StreamPlace) (given : List Call) (old piece window : List ℕ) → IsPlace p given → IsReady h p window → window ≡ old ++ piece → offset_behind given + length (old ++ piece) ≤ byte_limit h.size + 1
few_at h p given old piece window place ready is = omega (arith, place.at, ready.taken, ap length is)

-- an answer that leaves the window
pub stepped : (h : Header) (p next : StreamPlace) (given : List Call) (old window new rest : List ℕ) (left : Option (List ℕ)) (ended : Bool) (result : Result (Option Call) StreamFault) → IsPlace p given → IsReady h p window
    → (m : Mid old window rest left ended) → StepAnswers h given window m.others new next result → Stepped h given old rest new left next result
stepped h p next given old window new rest left ended result place ready m answer = record {
  piece = m.piece;
  others = m.others;
  parts = m.parts;
  left_is = m.left_is;
  few = few_at h p given old m.piece window place ready m.window_is;
  answer = subst (λ (bytes : List ℕ). StepAnswers h given bytes m.others new next result) m.window_is answer;
}

-- a refusal
pub stop_answers : (h : Header) (given : List Call) (window others new : List ℕ) (next : StreamPlace) (f : StreamFault) (ended : Bool) → IsRefusal f → (ended ≡ true → others ≡ [])
    → Says (Some (Stop f)) ended h given (length window) (room_behind h given) (front h.version (take (room_behind h given) window)) → StepAnswers h given window others new next (Err f)
stop_answers h given window others new next fault.Read ended is end says = absurd is
stop_answers h given window others new next fault.NoMemory ended is end says = absurd is
stop_answers h given window others new next (fault.Malformed at c) ended is end says = (said_now h given window (Stop (fault.Malformed at c)) ended says, said h given window others (Stop (fault.Malformed at c)) ended says end)
stop_answers h given window others new next (fault.Bound at l) ended is end says = (said_now h given window (Stop (fault.Bound at l)) ended says, said h given window others (Stop (fault.Bound at l)) ended says end)

pub refusal_is : (f : StreamFault) → IsRefusal f → f ≡ fault.Read → ⊥
refusal_is fault.Read is e = is
refusal_is fault.NoMemory is e = is
refusal_is (fault.Malformed at c) is e = cc
refusal_is (fault.Bound at l) is e = cc

abbrev err : StreamFault → Result (Option Call) StreamFault
err f = Err f

pub err_same : (f g : StreamFault) → err f ≡ err g → f ≡ g
err_same f g e = cc

-- a call
pub call_answers : (h : Header) (given : List Call) (window others new payload : List ℕ) (p next : StreamPlace) (call came : Call) (ended : Bool) → call ≡ came → payload_text call.body ≡ payload → 6 + length payload ≤ length window
    → new ≡ drop (6 + length payload) window → (IsPlace p given → IsPlace next (given ++ came ∷ [])) → IsPlace p given
    → Says (Some (Next came)) ended h given (length window) (room_behind h given) (front h.version (take (room_behind h given) window)) → StepAnswers h given window others new next (Ok (Some call))
call_answers h given window others new payload p next call came ended same text long new_is place at says =
    let len : record_length call ≡ 6 + length payload = ap (λ (t : List ℕ). 6 + length t) text in
    let comes : coming_at h given window ≡ Next call = said_now h given window (Next came) ended says ∙ ap Next (sym same) in (
      λ more. next_all h given window more call comes,
      subst (λ (c : Call). IsPlace next (given ++ c ∷ [])) (sym same) (place at),
      omega (arith, len, long),
      new_is ∙ ap (λ (n : ℕ). drop n window) (sym len),
    )

-- no memory for a call
pub memory_answers : (h : Header) (given : List Call) (window others new : List ℕ) (next : StreamPlace) (came : Call) (ended : Bool) → Says (Some (Next came)) ended h given (length window) (room_behind h given) (front h.version (take (room_behind h given) window))
    → StepAnswers h given window others new next (Err fault.NoMemory)
memory_answers h given window others new next came ended says = (came, λ more. next_all h given window more came (said_now h given window (Next came) ended says))
