-- What a reader stands for, step by step.
use Rattle.std.proofs.Common.{◌≡◌, ℕ, ◌+◌, ◌≤◌, inl, inr, List, [], ◌++◌, length, drop, Option, Some, None, refl, sym, ap, subst, ◌∙◌, append_assoc, append-nil, arith, length-append}
use Rattle.std.specs.Prelude.{Result, Ok, Err}
use Rattle.std.proofs.lemmas.List.{drop-append-le, drop-drop, length-drop, nil_from_length}
use Rattle.must_call.specs.declared.call.Call.{Call}
use Rattle.must_format.specs.declared.expect.Expect.{Expect}
use Rattle.must_format.specs.declared.header.Header.{Header}
use Rattle.must_format.specs.declared.place.StreamPlace.{StreamPlace}
use Rattle.must_format.specs.declared.fault.StreamFault.{StreamFault}
use Rattle.must_format.specs.declared.fault.StreamFault.TheVariants as fault
use Rattle.must_format.specs.declared.cause.Cause.TheVariants as cause
use Rattle.must_format.specs.Payload.{record_length, offset_behind}
use Rattle.must_format.specs.Stream.{Coming, Next, Stop, byte_limit, header_of, header_fault, header_past, accepted_header, coming_at, coming, outcome, AreCalls, BodyReading, IsStream}
use Rattle.must_format.specs.HeaderLaws.{header_more, fault_more}
use Rattle.must_format.specs.StreamLaws.{no_calls, one_more}
use Rattle.must_format.specs.CompleteLaws.{offset_more}
use Rattle.must_codec.specs.Reader.{Phase, Fresh, Before, Ended, Failed, ReaderState, Stands, StandsBefore, ShowsNone, StandsFor, HasFew, Answers, Gave}
use Rattle.must_codec.specs.Views.{Headed, OpenedAt, Stepped, start}

-- ---- the header

fault_is : (e : Option Expect) (bytes : List ℕ) (f : StreamFault) → header_fault e bytes ≡ Some f → IsStream e bytes [] (Some f)
fault_is e bytes f bad = subst (λ (o : Option StreamFault). BodyReading bytes [] (Some f) o) (sym bad) (refl, refl)

none_accepted : (e : Option Expect) (bytes : List ℕ) (f : StreamFault) → header_fault e bytes ≡ Some f → None ≡ accepted_header e bytes
none_accepted e bytes f bad = sym (ap (λ (o : Option StreamFault). header_past o bytes) bad)

abbrev pub opened_state : Option Expect → Header → ℕ → ReaderState
opened_state e h at = record { expect = e; unread = []; header = Some h; at = at; phase = Before start }

abbrev pub failed_state : Option Expect → List ℕ → Option Header → ℕ → StreamFault → ReaderState
failed_state e unread h at f = record { expect = e; unread = unread; header = h; at = at; phase = Failed f }

pub opened_ok : (e : Option Expect) (h : Header) (at : ℕ) (taken rest : List ℕ) (given : List Call) (left : Option (List ℕ)) → given ≡ [] → taken ≡ [] → Headed e rest left (Ok h) → OpenedAt (opened_state e h at) left taken rest given
opened_ok e h at taken rest given left none fresh t =
    let long = t.says.0 in
    let stands : StandsFor (opened_state e h at) t.piece [] = record {
      header = h;
      accepted = refl;
      opened = record {
        good = λ more. fault_more e t.piece more (omega (arith, long)) ∙ t.says.1;
        header = λ more. header_more t.piece more (omega (arith, long)) ∙ sym t.says.2;
      };
      place = record { at = refl; number = refl; next = refl; stuck = refl };
      each = λ more. no_calls (t.piece ++ more);
      long = omega (arith, long);
      unread = nil_from_length (drop 17 t.piece) (omega (arith, long, length-drop 17 t.piece));
    } in
    record {
      piece = t.piece;
      others = t.others;
      parts = t.parts;
      left_is = t.left_is;
      stands = subst (λ (xs : List ℕ). StandsFor (opened_state e h at) (xs ++ t.piece) given) (sym fresh) (subst (λ (calls : List Call). StandsFor (opened_state e h at) t.piece calls) (sym none) stands);
    }

failed_at : (e : Option Expect) (unread : List ℕ) (at : ℕ) (rest : List ℕ) (left : Option (List ℕ)) (f : StreamFault) → Headed e rest left (Err f) → Gave (failed_state e unread None at f) left [] rest [] (Err f)
failed_at e unread at rest left fault.Read t = record {
  piece = t.piece;
  others = t.others;
  parts = t.parts;
  left_is = t.left_is;
  few = t.few;
  answer = (inr (0, fault_is e t.piece (fault.Malformed 0 cause.Truncated) t.says), none_accepted e t.piece (fault.Malformed 0 cause.Truncated) t.says);
}
failed_at e unread at rest left fault.NoMemory t = absurd t.says
failed_at e unread at rest left (fault.Malformed p c) t = record {
  piece = t.piece;
  others = t.others;
  parts = t.parts;
  left_is = t.left_is;
  few = t.few;
  answer = ((fault_is e t.piece (fault.Malformed p c) t.says.0, none_accepted e t.piece (fault.Malformed p c) t.says.0), fault_is e (t.piece ++ t.others) (fault.Malformed p c) t.says.1);
}
failed_at e unread at rest left (fault.Bound p l) t = record {
  piece = t.piece;
  others = t.others;
  parts = t.parts;
  left_is = t.left_is;
  few = t.few;
  answer = ((fault_is e t.piece (fault.Bound p l) t.says.0, none_accepted e t.piece (fault.Bound p l) t.says.0), fault_is e (t.piece ++ t.others) (fault.Bound p l) t.says.1);
}

pub opened_err : (e : Option Expect) (unread : List ℕ) (at : ℕ) (taken rest : List ℕ) (given : List Call) (left : Option (List ℕ)) (f : StreamFault) → given ≡ [] → taken ≡ [] → Headed e rest left (Err f)
    → Gave (failed_state e unread None at f) left taken rest given (Err f)
opened_err e unread at taken rest given left f none fresh t =
    subst (λ (xs : List ℕ). Gave (failed_state e unread None at f) left xs rest given (Err f)) (sym fresh)
    (subst (λ (calls : List Call). Gave (failed_state e unread None at f) left [] rest calls (Err f)) (sym none) (failed_at e unread at rest left f t))

-- behind a piece that was taken before
pub gave_behind : (new : ReaderState) (left middle : Option (List ℕ)) (taken rest : List ℕ) (given : List Call) (result : Result (Option Call) StreamFault) (o : OpenedAt new middle taken rest given) (now : ReaderState)
    → Gave now left (taken ++ o.piece) o.others given result → Gave now left taken rest given result
gave_behind new left middle taken rest given result o now t =
    let all : (taken ++ o.piece) ++ t.piece ≡ taken ++ (o.piece ++ t.piece) = append_assoc taken o.piece t.piece in
    record {
      piece = o.piece ++ t.piece;
      others = t.others;
      parts = o.parts ∙ ap (λ (xs : List ℕ). o.piece ++ xs) t.parts ∙ sym (append_assoc o.piece t.piece t.others);
      left_is = t.left_is;
      few = subst (HasFew now.header) all t.few;
      answer = subst (λ (xs : List ℕ). Answers now xs t.others given result) all t.answer;
    }

-- ---- a step

-- the bytes that were taken, with a piece behind them
record IsBehind (p : StreamPlace) (r : ReaderState) (taken piece : List ℕ) (given : List Call) (h : Header) : Type 0 where
  good : (more : List ℕ) → header_fault r.expect ((taken ++ piece) ++ more) ≡ None
  header : (more : List ℕ) → header_of ((taken ++ piece) ++ more) ≡ h
  each : (more : List ℕ) → AreCalls ((taken ++ piece) ++ more) given
  unread : drop (offset_behind given) (taken ++ piece) ≡ r.unread ++ piece
  long : offset_behind given ≤ length (taken ++ piece)

some_same : (g h : Header) → Some g ≡ Some h → g ≡ h
some_same g h e = cc

behind_of : (p : StreamPlace) (r : ReaderState) (taken piece : List ℕ) (given : List Call) (h : Header) → r.header ≡ Some h → StandsBefore p r taken given → IsBehind p r taken piece given h
behind_of p r taken piece given h is s =
    let all : (more : List ℕ) → taken ++ (piece ++ more) ≡ (taken ++ piece) ++ more = λ more. sym (append_assoc taken piece more) in
    record {
      good = λ more. subst (λ (xs : List ℕ). header_fault r.expect xs ≡ None) (all more) (s.opened.good (piece ++ more));
      header = λ more. subst (λ (xs : List ℕ). header_of xs ≡ h) (all more) (s.opened.header (piece ++ more) ∙ some_same s.header h (sym s.accepted ∙ is));
      each = λ more. subst (λ (xs : List ℕ). AreCalls xs given) (all more) (s.each (piece ++ more));
      unread = drop-append-le (offset_behind given) taken piece s.long ∙ ap (λ (xs : List ℕ). xs ++ piece) s.unread;
      long = omega (arith, s.long, length-append taken piece);
    }

comes : (p : StreamPlace) (r : ReaderState) (taken piece : List ℕ) (given : List Call) (h : Header) (b : IsBehind p r taken piece given h) (more : List ℕ) (c : Coming) → coming_at h given ((r.unread ++ piece) ++ more) ≡ c → coming ((taken ++ piece) ++ more) given ≡ c
comes p r taken piece given h b more c e =
    ap (λ (x : Header). coming_at x given (drop (offset_behind given) ((taken ++ piece) ++ more))) (b.header more)
    ∙ ap (coming_at h given) (drop-append-le (offset_behind given) (taken ++ piece) more b.long ∙ ap (λ (xs : List ℕ). xs ++ more) b.unread)
    ∙ e

comes_now : (p : StreamPlace) (r : ReaderState) (taken piece : List ℕ) (given : List Call) (h : Header) (b : IsBehind p r taken piece given h) (c : Coming) → coming_at h given (r.unread ++ piece) ≡ c → coming (taken ++ piece) given ≡ c
comes_now p r taken piece given h b c e =
    subst (λ (xs : List ℕ). coming xs given ≡ c) (append-nil (taken ++ piece)) (comes p r taken piece given h b [] c (ap (coming_at h given) (append-nil (r.unread ++ piece)) ∙ e))

stream_of : (e : Option Expect) (bytes : List ℕ) (given : List Call) (end : Option StreamFault) → header_fault e bytes ≡ None → AreCalls bytes given → coming bytes given ≡ outcome end → IsStream e bytes given end
stream_of e bytes given end good each last = subst (λ (o : Option StreamFault). BodyReading bytes given end o) (sym good) (record { each = each; last = last })

stream_now : (p : StreamPlace) (r : ReaderState) (taken piece : List ℕ) (given : List Call) (h : Header) (b : IsBehind p r taken piece given h) (end : Option StreamFault) → coming_at h given (r.unread ++ piece) ≡ outcome end → IsStream r.expect (taken ++ piece) given end
stream_now p r taken piece given h b end e =
    let nil = append-nil (taken ++ piece) in
    stream_of r.expect (taken ++ piece) given end (subst (λ (xs : List ℕ). header_fault r.expect xs ≡ None) nil (b.good [])) (subst (λ (xs : List ℕ). AreCalls xs given) nil (b.each [])) (comes_now p r taken piece given h b (outcome end) e)

accepted_now : (p : StreamPlace) (r : ReaderState) (taken piece : List ℕ) (given : List Call) (h : Header) → IsBehind p r taken piece given h → Some h ≡ accepted_header r.expect (taken ++ piece)
accepted_now p r taken piece given h b =
    let nil = append-nil (taken ++ piece) in
    sym (ap (λ (o : Option StreamFault). header_past o (taken ++ piece)) (subst (λ (xs : List ℕ). header_fault r.expect xs ≡ None) nil (b.good [])) ∙ ap Some (subst (λ (xs : List ℕ). header_of xs ≡ h) nil (b.header [])))

few_now : (p : StreamPlace) (r : ReaderState) (taken piece : List ℕ) (given : List Call) (h : Header) → IsBehind p r taken piece given h → offset_behind given + length (r.unread ++ piece) ≤ byte_limit h.size + 1 → length (taken ++ piece) ≤ byte_limit h.size + 1
few_now p r taken piece given h b few = omega (arith, few, b.long, ap length b.unread, length-drop (offset_behind given) (taken ++ piece))

abbrev pub next_state : Option Expect → List ℕ → Header → ℕ → StreamPlace → ReaderState
next_state e unread h at p = record { expect = e; unread = unread; header = Some h; at = at; phase = Before p }

pub gave_call : (p next : StreamPlace) (r : ReaderState) (taken rest : List ℕ) (given : List Call) (h : Header) (new : List ℕ) (left : Option (List ℕ)) (call : Call) → r.header ≡ Some h → StandsBefore p r taken given → Stepped h given r.unread rest new left next (Ok (Some call))
    → Gave (next_state r.expect new h p.at next) left taken rest given (Ok (Some call))
gave_call p next r taken rest given h new left call is s t =
    let b = behind_of p r taken t.piece given h is s in
    let offset = offset_more given call in
    let bytes = r.unread ++ t.piece in
    record {
      piece = t.piece;
      others = t.others;
      parts = t.parts;
      left_is = t.left_is;
      few = few_now p r taken t.piece given h b t.few;
      answer = (
        record {
          header = h;
          accepted = refl;
          opened = record { good = b.good; header = b.header };
          place = t.answer.1;
          each = λ more. one_more ((taken ++ t.piece) ++ more) given call (b.each more) (comes p r taken t.piece given h b more (Next call) (t.answer.0 more));
          long = omega (arith, offset, t.answer.2, b.long, ap length b.unread, length-drop (offset_behind given) (taken ++ t.piece));
          unread = ap (λ (n : ℕ). drop n (taken ++ t.piece)) offset ∙ sym (drop-drop (record_length call) (offset_behind given) (taken ++ t.piece)) ∙ ap (drop (record_length call)) b.unread ∙ sym t.answer.3;
        },
        s.place.at,
      );
    }

abbrev pub ended_state : Option Expect → List ℕ → Header → ℕ → ReaderState
ended_state e unread h at = record { expect = e; unread = unread; header = Some h; at = at; phase = Ended }

pub gave_end : (p next : StreamPlace) (r : ReaderState) (taken rest : List ℕ) (given : List Call) (h : Header) (new : List ℕ) (at : ℕ) (left : Option (List ℕ)) → r.header ≡ Some h → StandsBefore p r taken given → Stepped h given r.unread rest new left next (Ok None)
    → Gave (ended_state r.expect new h at) left taken rest given (Ok None)
gave_end p next r taken rest given h new at left is s t =
    let b = behind_of p r taken t.piece given h is s in
    record {
      piece = t.piece;
      others = t.others;
      parts = t.parts;
      left_is = t.left_is;
      few = few_now p r taken t.piece given h b t.few;
      answer = ((stream_now p r taken t.piece given h b None t.answer.1, accepted_now p r taken t.piece given h b), t.answer.0);
    }

pub gave_err : (p next : StreamPlace) (r : ReaderState) (taken rest : List ℕ) (given : List Call) (h : Header) (new : List ℕ) (at : ℕ) (left : Option (List ℕ)) (f : StreamFault) → r.header ≡ Some h → StandsBefore p r taken given
    → Stepped h given r.unread rest new left next (Err f) → Gave (failed_state r.expect new (Some h) at f) left taken rest given (Err f)
gave_err p next r taken rest given h new at left fault.Read is s t =
    let b = behind_of p r taken t.piece given h is s in
    let shows : ShowsNone r.expect (taken ++ t.piece) given = elim t.answer [
      | inl e ↦ inr (offset_behind given, stream_now p r taken t.piece given h b (Some (fault.Malformed (offset_behind given) cause.Truncated)) e)
      | inr e ↦ inl (stream_now p r taken t.piece given h b None e)
    ] in
    record { piece = t.piece; others = t.others; parts = t.parts; left_is = t.left_is; few = few_now p r taken t.piece given h b t.few; answer = (shows, accepted_now p r taken t.piece given h b) }
gave_err p next r taken rest given h new at left fault.NoMemory is s t =
    let b = behind_of p r taken t.piece given h is s in
    record {
      piece = t.piece;
      others = t.others;
      parts = t.parts;
      left_is = t.left_is;
      few = few_now p r taken t.piece given h b t.few;
      answer = ((t.answer.0, λ more. comes p r taken t.piece given h b more (Next t.answer.0) (t.answer.1 more)), accepted_now p r taken t.piece given h b);
    }
gave_err p next r taken rest given h new at left (fault.Malformed k c) is s t =
    let b = behind_of p r taken t.piece given h is s in
    let f = fault.Malformed k c in
    record {
      piece = t.piece;
      others = t.others;
      parts = t.parts;
      left_is = t.left_is;
      few = few_now p r taken t.piece given h b t.few;
      answer = (
        (stream_now p r taken t.piece given h b (Some f) t.answer.0, accepted_now p r taken t.piece given h b),
        stream_of r.expect ((taken ++ t.piece) ++ t.others) given (Some f) (b.good t.others) (b.each t.others) (comes p r taken t.piece given h b t.others (Stop f) t.answer.1),
      );
    }
gave_err p next r taken rest given h new at left (fault.Bound k l) is s t =
    let b = behind_of p r taken t.piece given h is s in
    let f = fault.Bound k l in
    record {
      piece = t.piece;
      others = t.others;
      parts = t.parts;
      left_is = t.left_is;
      few = few_now p r taken t.piece given h b t.few;
      answer = (
        (stream_now p r taken t.piece given h b (Some f) t.answer.0, accepted_now p r taken t.piece given h b),
        stream_of r.expect ((taken ++ t.piece) ++ t.others) given (Some f) (b.good t.others) (b.each t.others) (comes p r taken t.piece given h b t.others (Stop f) t.answer.1),
      );
    }

-- ---- where a reader stands

pub stands_before : (p : StreamPlace) (r : ReaderState) (taken : List ℕ) (given : List Call) → r.phase ≡ Before p → StandsFor r taken given → StandsBefore p r taken given
stands_before p r taken given e s = subst (λ (phase : Phase). Stands phase r taken given) e s

pub stands_fresh : (r : ReaderState) (taken : List ℕ) (given : List Call) → r.phase ≡ Fresh → StandsFor r taken given → (given ≡ []) × (taken ≡ [])
stands_fresh r taken given e s = let t : Stands Fresh r taken given = subst (λ (phase : Phase). Stands phase r taken given) e s in (t.0, t.1)
