-- A stream is accepted exactly where it is complete and within the limits, and refused behind exactly the records that it has.
use Rattle.std.proofs.Common.{◌≡◌, ℕ, zero, suc, ◌+◌, ◌-◌, ◌≤◌, ◌<◌, ◌^◌, Bool, true, false, not, cond, ltb, eqb, List, [], ◌∷◌, ◌++◌, length, take, drop, get_or, Option, Some, None, Ok, refl, sym, ap, subst, ◌∙◌, append_assoc, append-nil, arith, length-append}
use Rattle.std.specs.Prelude.{int_lt, codes}
use Rattle.std.specs.List.{sum_by}
use Rattle.std.proofs.Math.Nat.{div-le_self}
use Rattle.std.proofs.lemmas.Bool.{le-ltb, ltb-false, eqb-true, eq-eqb}
use Rattle.std.proofs.lemmas.List.{take_all, drop_at, drop-drop, length-drop, length-take, nil_from_length, get_or-drop}
use Rattle.std.proofs.Math.Seq.{drop-cons}
use Rattle.std.proofs.lemmas.List.Sums.{sum_by-append}
use Rattle.must_call.specs.declared.call.Call.{Call}
use Rattle.must_format.specs.declared.expect.Expect.{Expect}
use Rattle.must_format.specs.declared.limits.TheConstants.{LEAST_TAG_UB, RUN_CALLS}
use Rattle.must_format.specs.declared.header.Header.{Header}
use Rattle.must_format.specs.declared.fault.StreamFault.{StreamFault}
use Rattle.must_format.specs.Values.{IsBytes, u32, i32}
use Rattle.must_format.specs.Payload.{record_length, offset_behind}
use Rattle.must_format.specs.Decoding.{u32_at, i32_at}
use Rattle.must_format.specs.Judging.{past}
use Rattle.must_format.specs.Spelling.{end_text}
use Rattle.must_call.specs.declared.kind.Kind.{Kind}
use Rattle.must_format.specs.Record.{Front, Whole, front}
use Rattle.must_format.specs.Stream.{Coming, Next, Done, Stop, header_text, version_of, rank_of, size_of, tag_ub_of, header_of, is_version, expected_fault, or_else, header_fault, byte_limit, call_limit, room_behind, coming_at, coming_front, coming, outcome, AreCalls, IsReading, BodyReading, IsStream}
use Rattle.must_format.specs.Complete.{IsHeader, Records, IsComplete, IsRefusedBehind}
use Rattle.must_format.specs.LeafLaws.{IsBytes-drop, length-u32, length-i32, u32_good, u32_read, i32_good, i32_read}
use Rattle.must_format.specs.EndLaws.{end_is, end_again}
use Rattle.must_format.specs.HeaderLaws.{header_long}
use Rattle.must_format.specs.StreamLaws.{no_calls, one_more}
use Rattle.must_format.specs.ComingLaws.{CallAt, next_stands, stands_next, text_length, front_call, done_is, done_within}

abbrev some : StreamFault → Option StreamFault
some f = Some f

-- ---- the header is its text

passed : (b : Bool) (f : StreamFault) (o : Option StreamFault) → cond b (some f) o ≡ None → (b ≡ false) × (o ≡ None)
passed true f o e = absurd cc
passed false f o e = (refl, e)

passed_both : (a b : Option StreamFault) → or_else a b ≡ None → (a ≡ None) × (b ≡ None)
passed_both None b e = (refl, e)
passed_both (Some f) b e = absurd cc

not_false : (b : Bool) → not b ≡ false → b ≡ true
not_false true e = refl
not_false false e = absurd cc

-- what a header without a fault says
pub record Passed (e : Option Expect) (bytes : List ℕ) : Type 0 where
  pub long : 17 ≤ length bytes
  pub mark : u32_at bytes ≡ 1297371715
  pub version : is_version (version_of bytes) ≡ true
  pub expected : expected_fault e (rank_of bytes) (size_of bytes) ≡ None
  pub tag_ub : int_lt (tag_ub_of bytes) LEAST_TAG_UB ≡ false

pub passed_header : (e : Option Expect) (bytes : List ℕ) → header_fault e bytes ≡ None → Passed e bytes
unfolding header_fault
passed_header e bytes good =
    let a = passed (ltb (length bytes) 17) _ _ good in
    let b = passed (not (eqb (u32_at bytes) 1297371715)) _ _ a.1 in
    let c = passed (not (is_version (version_of bytes))) _ _ b.1 in
    let d = passed_both (expected_fault e (rank_of bytes) (size_of bytes)) _ c.1 in
    let t = passed (int_lt (tag_ub_of bytes) LEAST_TAG_UB) _ _ d.1 in
    record {
      long = ltb-false _ _ a.0;
      mark = eqb-true _ _ (not_false _ b.0);
      version = not_false _ c.0;
      expected = d.0;
      tag_ub = t.0;
    }

four_past : (bytes : List ℕ) → 4 ≤ length bytes → past 4 bytes ≡ Ok (drop 4 bytes)
four_past bytes long = rw (le-ltb (length bytes) 4 long) refl

u32_front : (bytes : List ℕ) → IsBytes bytes → 4 ≤ length bytes → (u32_at bytes < 2 ^ 32) × (bytes ≡ u32 (u32_at bytes) ++ drop 4 bytes)
u32_front bytes fits long = let g = u32_good bytes (drop 4 bytes) fits (four_past bytes long) in (g.0, g.1.parts)

mark_text : u32 1297371715 ≡ codes "MTRC"
unfolding u32
mark_text = refl

-- a header without a fault is a header, and stands as its text
pub header_is : (e : Option Expect) (bytes : List ℕ) → IsBytes bytes → header_fault e bytes ≡ None → IsHeader e (header_of bytes) × (bytes ≡ header_text (header_of bytes) ++ drop 17 bytes)
header_is e bytes fits good =
    let p = passed_header e bytes good in
    let fits_at : (n : ℕ) → IsBytes (drop n bytes) = λ n. IsBytes-drop n bytes fits in
    let long_at : (n : ℕ) → length (drop n bytes) ≡ length bytes - n = λ n. length-drop n bytes in
    let mark = u32_front bytes fits (omega (arith, p.long)) in
    let rank = u32_front (drop 5 bytes) (fits_at 5) (omega (arith, p.long, long_at 5)) in
    let size = u32_front (drop 9 bytes) (fits_at 9) (omega (arith, p.long, long_at 9)) in
    let tag = i32_good (drop 13 bytes) (drop 4 (drop 13 bytes)) (fits_at 13) (four_past (drop 13 bytes) (omega (arith, p.long, long_at 13))) in
    let version : drop 4 bytes ≡ version_of bytes ∷ drop 5 bytes =
    drop-cons bytes 4 0 (omega (arith, p.long)) ∙ ap (λ (v : ℕ). v ∷ drop 5 bytes) (rw get_or-drop refl) in (
      record { version = p.version; expected = p.expected; tag_ub = p.tag_ub; rank_fits = rank.0; size_fits = size.0; tag_fits = tag.0 },
      mark.1 ∙ ap (λ (m : ℕ). u32 m ++ drop 4 bytes) p.mark ∙ ap (λ (m : List ℕ). m ++ drop 4 bytes) mark_text
          ∙ ap (λ (xs : List ℕ). codes "MTRC" ++ xs) (version
          ∙ ap (λ (xs : List ℕ). version_of bytes ∷ xs) (rank.1
          ∙ ap (λ (xs : List ℕ). u32 (rank_of bytes) ++ xs) (drop-drop 4 5 bytes ∙ size.1
          ∙ ap (λ (xs : List ℕ). u32 (size_of bytes) ++ xs) (drop-drop 4 9 bytes ∙ tag.1.parts ∙ ap (λ (xs : List ℕ). i32 (tag_ub_of bytes) ++ xs) (drop-drop 4 13 bytes))
          ∙ sym (append_assoc (u32 (size_of bytes)) (i32 (tag_ub_of bytes)) (drop 17 bytes)))
          ∙ sym (append_assoc (u32 (rank_of bytes)) (u32 (size_of bytes) ++ i32 (tag_ub_of bytes)) (drop 17 bytes)))),
    )

-- what some bytes that begin with the text of a header say
pub record Headed (e : Option Expect) (h : Header) (bytes rest : List ℕ) : Type 0 where
  pub good : header_fault e bytes ≡ None
  pub header : header_of bytes ≡ h
  pub behind : drop 17 bytes ≡ rest

pub text_is : (e : Option Expect) (h : Header) (bytes rest : List ℕ) → IsHeader e h → bytes ≡ header_text h ++ rest → Headed e h bytes rest
unfolding header_fault
text_is e h bytes rest g is =
    let mark : ℕ = 1297371715 in
    let sizes = u32 h.size ++ i32 h.tag_ub in
    let fields = (u32 h.rank ++ sizes) ++ rest in
    let b : bytes ≡ u32 mark ++ (h.version ∷ fields) =
    is ∙ ap (λ (m : List ℕ). (m ++ (h.version ∷ (u32 h.rank ++ sizes))) ++ rest) (sym mark_text) ∙ append_assoc (u32 mark) (h.version ∷ (u32 h.rank ++ sizes)) rest in
    let d4 : drop 4 bytes ≡ h.version ∷ fields = ap (drop 4) b ∙ drop_at (u32 mark) (h.version ∷ fields) 4 (length-u32 mark) in
    let d5 : drop 5 bytes ≡ u32 h.rank ++ (sizes ++ rest) = sym (drop-drop 1 4 bytes) ∙ ap (drop 1) d4 ∙ append_assoc (u32 h.rank) sizes rest in
    let d9 : drop 9 bytes ≡ u32 h.size ++ (i32 h.tag_ub ++ rest) =
    sym (drop-drop 4 5 bytes) ∙ ap (drop 4) d5 ∙ drop_at (u32 h.rank) (sizes ++ rest) 4 (length-u32 h.rank) ∙ append_assoc (u32 h.size) (i32 h.tag_ub) rest in
    let d13 : drop 13 bytes ≡ i32 h.tag_ub ++ rest = sym (drop-drop 4 9 bytes) ∙ ap (drop 4) d9 ∙ drop_at (u32 h.size) (i32 h.tag_ub ++ rest) 4 (length-u32 h.size) in
    let d17 : drop 17 bytes ≡ rest = sym (drop-drop 4 13 bytes) ∙ ap (drop 4) d13 ∙ drop_at (i32 h.tag_ub) rest 4 (length-i32 h.tag_ub) in
    let mark_is : u32_at bytes ≡ mark = ap u32_at b ∙ u32_read mark (h.version ∷ fields) (omega arith) in
    let version_is : version_of bytes ≡ h.version = ap (λ (xs : List ℕ). get_or xs 0 0) d4 in
    let rank_is : rank_of bytes ≡ h.rank = ap u32_at d5 ∙ u32_read h.rank (sizes ++ rest) g.rank_fits in
    let size_is : size_of bytes ≡ h.size = ap u32_at d9 ∙ u32_read h.size (i32 h.tag_ub ++ rest) g.size_fits in
    let tag_is : tag_ub_of bytes ≡ h.tag_ub = ap i32_at d13 ∙ i32_read h.tag_ub rest g.tag_fits in
    let long : 17 ≤ length bytes = omega (
      arith,
      ap length b,
      length-append (u32 mark) (h.version ∷ fields),
      length-u32 mark,
      length-append (u32 h.rank ++ sizes) rest,
      length-append (u32 h.rank) sizes,
      length-u32 h.rank,
      length-append (u32 h.size) (i32 h.tag_ub),
      length-u32 h.size,
      length-i32 h.tag_ub,
    ) in
    record {
      good = rw (le-ltb (length bytes) 17 long, mark_is, version_is, rank_is, size_is, tag_is, g.version, g.expected, g.tag_ub) refl;
      header = rw (version_is, rank_is, size_is, tag_is) refl;
      behind = d17;
    }

-- ---- the records are the calls

end_length : (m : ℕ) → length (end_text m) ≡ 10
end_length m = omega (arith, length-append (u32 4) (u32 m), length-u32 4, length-u32 m)

pub offset_more : (before : List Call) (call : Call) → offset_behind (before ++ call ∷ []) ≡ offset_behind before + record_length call
offset_more before call = omega (arith, sum_by-append record_length before (call ∷ []))

-- the records of calls behind those before, and what stands behind them
pub record Recorded (h : Header) (before calls : List Call) (bytes : List ℕ) : Type 0 where
  pub records : List ℕ
  pub rest : List ℕ
  pub parts : bytes ≡ records ++ rest
  pub spelled : Records h before calls records
  pub length_is : offset_behind before + length records ≡ offset_behind (before ++ calls)
  pub within : offset_behind before ≤ byte_limit h.size → offset_behind (before ++ calls) ≤ byte_limit h.size
  pub few : length before ≤ call_limit h.size → length (before ++ calls) ≤ call_limit h.size

none_recorded : (h : Header) (before : List Call) (bytes : List ℕ) → Recorded h before [] bytes
none_recorded h before bytes = record {
  records = [];
  rest = bytes;
  parts = refl;
  spelled = refl;
  length_is = rw (append-nil before) (omega arith);
  within = λ le. subst (λ (xs : List Call). offset_behind xs ≤ byte_limit h.size) (sym (append-nil before)) le;
  few = λ le. subst (λ (xs : List Call). length xs ≤ call_limit h.size) (sym (append-nil before)) le;
}

comes_at : (h : Header) (bytes : List ℕ) (before : List Call) (c : Coming) → header_of bytes ≡ h → coming bytes before ≡ c → coming_at h before (drop (offset_behind before) bytes) ≡ c
comes_at h bytes before c is e = subst (λ (x : Header). coming_at x before (drop (offset_behind before) bytes) ≡ c) is e

at_comes : (h : Header) (bytes : List ℕ) (before : List Call) (c : Coming) → header_of bytes ≡ h → coming_at h before (drop (offset_behind before) bytes) ≡ c → coming bytes before ≡ c
at_comes h bytes before c is e = subst (λ (x : Header). coming_at x before (drop (offset_behind before) bytes) ≡ c) (sym is) e

call_recorded : (h : Header) (bytes : List ℕ) (before calls : List Call) (call : Call) (t : CallAt h before (drop (offset_behind before) bytes) call)
    → Recorded h (before ++ call ∷ []) calls (drop (offset_behind (before ++ call ∷ [])) bytes) → Recorded h before (call ∷ calls) (drop (offset_behind before) bytes)
call_recorded h bytes before calls call t r =
    let long : length t.text ≡ record_length call = text_length call t.text t.spells in
    let offset = offset_more before call in
    let behind : drop (offset_behind (before ++ call ∷ [])) bytes ≡ t.rest =
    ap (λ (n : ℕ). drop n bytes) offset ∙ sym (drop-drop (record_length call) (offset_behind before) bytes) ∙ ap (drop (record_length call)) t.parts ∙ drop_at t.text t.rest (record_length call) long in
    let all : (before ++ call ∷ []) ++ calls ≡ before ++ call ∷ calls = append_assoc before (call ∷ []) calls in
    record {
      records = t.text ++ r.records;
      rest = r.rest;
      parts = t.parts ∙ ap (λ (xs : List ℕ). t.text ++ xs) (sym behind ∙ r.parts) ∙ sym (append_assoc t.text r.records r.rest);
      spelled = (t.text, r.records, refl, t.spells, t.known, t.follows.follows, r.spelled);
      length_is = omega (arith, offset, long, length-append t.text r.records, r.length_is, ap offset_behind all);
      within = λ le. subst (λ (xs : List Call). offset_behind xs ≤ byte_limit h.size) all (r.within (omega (arith, le, offset, long, t.within)));
      few = λ le. subst (λ (xs : List Call). length xs ≤ call_limit h.size) all (r.few (omega (arith, t.follows.few, length-append before (call ∷ []))));
    }

pub recorded_from : (h : Header) (bytes : List ℕ) (before calls : List Call) → IsBytes bytes → header_of bytes ≡ h → AreCalls bytes (before ++ calls) → Recorded h before calls (drop (offset_behind before) bytes)
recorded_from h bytes before [] fits is are = none_recorded h before (drop (offset_behind before) bytes)
recorded_from h bytes before (call ∷ calls) fits is are =
    let t = next_stands h before (drop (offset_behind before) bytes) call (IsBytes-drop (offset_behind before) bytes fits) (comes_at h bytes before (Next call) is (are before calls call refl)) in
    let behind : AreCalls bytes ((before ++ call ∷ []) ++ calls) = subst (AreCalls bytes) (sym (append_assoc before (call ∷ []) calls)) are in
    call_recorded h bytes before calls call t (recorded_from h bytes (before ++ call ∷ []) calls fits is behind)

-- the calls of records come, and this stands behind them
pub record Comes (bytes rest : List ℕ) (calls : List Call) : Type 0 where
  pub each : AreCalls bytes calls
  pub behind : drop (offset_behind calls) bytes ≡ rest

comes_from : (h : Header) (bytes rest : List ℕ) (before calls : List Call) (records : List ℕ) → header_of bytes ≡ h → drop (offset_behind before) bytes ≡ records ++ rest → Records h before calls records
    → offset_behind (before ++ calls) ≤ byte_limit h.size → length (before ++ calls) ≤ call_limit h.size → AreCalls bytes before → Comes bytes rest (before ++ calls)
comes_from h bytes rest before [] records is parts none within few are =
    subst (Comes bytes rest) (sym (append-nil before)) (record { each = are; behind = parts ∙ ap (λ (r : List ℕ). r ++ rest) none })
comes_from h bytes rest before (call ∷ calls) records is parts (text, more, cut, spells, known, follows, spelled) within few are =
    let long : length text ≡ record_length call = text_length call text spells in
    let offset = offset_more before call in
    let all : (before ++ call ∷ []) ++ calls ≡ before ++ call ∷ calls = append_assoc before (call ∷ []) calls in
    let sum : sum_by record_length (call ∷ calls) ≡ sum_by record_length (call ∷ []) + sum_by record_length calls = sum_by-append record_length (call ∷ []) calls in
    let here : drop (offset_behind before) bytes ≡ text ++ (more ++ rest) = parts ∙ ap (λ (r : List ℕ). r ++ rest) cut ∙ append_assoc text more rest in
    let t : CallAt h before (drop (offset_behind before) bytes) call = record {
      text = text;
      rest = more ++ rest;
      parts = here;
      spells = spells;
      known = known;
      follows = record { follows = follows; few = omega (arith, few, length-append before (call ∷ calls)) };
      within = omega (arith, within, long, sum, sum_by-append record_length before (call ∷ calls));
    } in
    let comes : coming bytes before ≡ Next call = at_comes h bytes before (Next call) is (stands_next h before (drop (offset_behind before) bytes) call t) in
    let behind : drop (offset_behind (before ++ call ∷ [])) bytes ≡ more ++ rest =
    ap (λ (n : ℕ). drop n bytes) offset ∙ sym (drop-drop (record_length call) (offset_behind before) bytes) ∙ ap (drop (record_length call)) here ∙ drop_at text (more ++ rest) (record_length call) long in
    subst (Comes bytes rest) all
    (comes_from h bytes rest (before ++ call ∷ []) calls more is behind spelled (subst (λ (xs : List Call). offset_behind xs ≤ byte_limit h.size) (sym all) within)
    (subst (λ (xs : List Call). length xs ≤ call_limit h.size) (sym all) few) (one_more bytes before call are comes))

records_length : (h : Header) (before calls : List Call) (records : List ℕ) → Records h before calls records → 17 + length records ≡ offset_behind calls
records_length h before [] records none = omega (arith, ap length none)
records_length h before (call ∷ calls) records (text, more, cut, spells, known, follows, spelled) =
    let sum : sum_by record_length (call ∷ calls) ≡ sum_by record_length (call ∷ []) + sum_by record_length calls = sum_by-append record_length (call ∷ []) calls in
    omega (arith, sum, ap length cut, length-append text more, text_length call text spells, records_length h (before ++ call ∷ []) calls more spelled)

-- ---- accepted streams are complete

-- complete, and within the limits
pub record IsWithin (e : Option Expect) (bytes : List ℕ) (calls : List Call) : Type 0 where
  pub complete : IsComplete e bytes calls
  pub bytes_within : length bytes ≤ byte_limit complete.header.size
  pub calls_within : length calls ≤ call_limit complete.header.size

reading_complete : (e : Option Expect) (bytes : List ℕ) (calls : List Call) → IsBytes bytes → header_fault e bytes ≡ None → IsReading bytes calls None → IsWithin e bytes calls
reading_complete e bytes calls fits good reading =
    let h = header_of bytes in
    let head = header_is e bytes fits good in
    let r = recorded_from h bytes [] calls fits refl reading.each in
    let tail = drop (offset_behind calls) bytes in
    let t = done_is h calls tail reading.last in
    let within = done_within h calls tail reading.last in
    let found = end_is h.version tail (length calls) (IsBytes-drop (offset_behind calls) bytes fits) (ap (front h.version) (sym (take_all (room_behind h calls) tail within)) ∙ t.front_is) in
    let none : found.0 ≡ [] = nil_from_length found.0 (omega (arith, t.ten, ap length found.1, length-append (end_text (length calls)) found.0, end_length (length calls))) in
    let end : tail ≡ end_text (length calls) = found.1 ∙ ap (λ (xs : List ℕ). end_text (length calls) ++ xs) none ∙ append-nil (end_text (length calls)) in
    let rest : r.rest ≡ tail =
    sym (drop_at r.records r.rest (length r.records) refl) ∙ ap (drop (length r.records)) (sym r.parts) ∙ drop-drop (length r.records) 17 bytes ∙ ap (λ (n : ℕ). drop n bytes) r.length_is in
    let size : length bytes ≡ offset_behind calls + 10 = omega (arith, t.ten, length-drop (offset_behind calls) bytes) in
    record {
      complete = record { header = h; good = head.0; records = r.records; parts = head.1 ∙ ap (λ (xs : List ℕ). header_text h ++ xs) (r.parts ∙ ap (λ (xs : List ℕ). r.records ++ xs) (rest ∙ end)); spelled = r.spelled };
      bytes_within = omega (arith, size, within, t.ten);
      calls_within = r.few (omega arith);
    }

body_complete : (e : Option Expect) (bytes : List ℕ) (calls : List Call) (header : Option StreamFault) → IsBytes bytes → header_fault e bytes ≡ header → BodyReading bytes calls None header → IsWithin e bytes calls
body_complete e bytes calls None fits good reading = reading_complete e bytes calls fits good reading
body_complete e bytes calls (Some f) fits bad reading = let no = reading.1 in absurd cc

pub accepted_complete : (e : Option Expect) (bytes : List ℕ) (calls : List Call) → IsBytes bytes → IsStream e bytes calls None → IsWithin e bytes calls
accepted_complete e bytes calls fits accepted = body_complete e bytes calls (header_fault e bytes) fits refl accepted

-- ---- and the other way round

body_of : (e : Option Expect) (bytes : List ℕ) (calls : List Call) (end : Option StreamFault) → header_fault e bytes ≡ None → IsReading bytes calls end → IsStream e bytes calls end
body_of e bytes calls end good reading = subst (λ (o : Option StreamFault). BodyReading bytes calls end o) (sym good) reading

eqb_same : (n : ℕ) → eqb n n ≡ true
eqb_same n = eq-eqb n n refl

end_comes : (h : Header) (calls : List Call) → offset_behind calls + 10 ≤ byte_limit h.size → length calls < 2 ^ 32 → coming_at h calls (end_text (length calls)) ≡ Done
end_comes h calls within small =
    let room = room_behind h calls in
    let text = end_text (length calls) in
    let ten = end_length (length calls) in
    let all : take room text ≡ text ++ [] = take_all room text (omega (arith, within, ten)) ∙ sym (append-nil text) in
    ap (λ (f : Front). coming_front h calls (length text) room f) (ap (front h.version) all ∙ end_again h.version (length calls) [] small)
    ∙ rw (eqb_same (length calls), ten) refl

pub complete_accepted : (e : Option Expect) (bytes : List ℕ) (calls : List Call) → IsWithin e bytes calls → IsStream e bytes calls None
complete_accepted e bytes calls w =
    let c = w.complete in
    let text = end_text (length calls) in
    let head = text_is e c.header bytes (c.records ++ text) c.good c.parts in
    let size : length bytes ≡ offset_behind calls + 10 = omega (
      arith,
      header_long e bytes head.good,
      length-drop 17 bytes,
      ap length head.behind,
      length-append c.records text,
      end_length (length calls),
      records_length c.header [] calls c.records c.spelled,
    ) in
    let comes = comes_from c.header bytes text [] calls c.records head.header head.behind c.spelled (omega (arith, size, w.bytes_within)) w.calls_within (no_calls bytes) in
    let last = end_comes c.header calls (omega (arith, size, w.bytes_within)) (omega (arith, w.calls_within, div-le_self RUN_CALLS c.header.size)) in
    body_of e bytes calls None head.good (record {
      each = comes.each;
      last = at_comes c.header bytes calls Done head.header (ap (coming_at c.header calls) comes.behind ∙ last);
    })

-- ---- refused streams

pub refused_behind : (e : Option Expect) (bytes : List ℕ) (calls : List Call) (fault : StreamFault) → IsBytes bytes → header_fault e bytes ≡ None → 17 ≤ byte_limit (size_of bytes) → IsStream e bytes calls (Some fault)
    → IsRefusedBehind e bytes calls fault
refused_behind e bytes calls fault fits good room stream =
    let reading : IsReading bytes calls (Some fault) = subst (λ (o : Option StreamFault). BodyReading bytes calls (Some fault) o) good stream in
    let h = header_of bytes in
    let head = header_is e bytes fits good in
    let r = recorded_from h bytes [] calls fits refl reading.each in
    let tail = drop (offset_behind calls) bytes in
    let rest : r.rest ≡ tail =
    sym (drop_at r.records r.rest (length r.records) refl) ∙ ap (drop (length r.records)) (sym r.parts) ∙ drop-drop (length r.records) 17 bytes ∙ ap (λ (n : ℕ). drop n bytes) r.length_is in
    record {
      header = h;
      good = head.0;
      records = r.records;
      rest = r.rest;
      parts = head.1 ∙ ap (λ (xs : List ℕ). header_text h ++ xs) r.parts;
      spelled = r.spelled;
      within = r.within room;
      few = r.few (omega arith);
      wrong = ap (coming_at h calls) rest ∙ reading.last;
    }

pub behind_refused : (e : Option Expect) (bytes : List ℕ) (calls : List Call) (fault : StreamFault) → IsRefusedBehind e bytes calls fault → IsStream e bytes calls (Some fault)
behind_refused e bytes calls fault w =
    let head = text_is e w.header bytes (w.records ++ w.rest) w.good w.parts in
    let comes = comes_from w.header bytes w.rest [] calls w.records head.header head.behind w.spelled w.within w.few (no_calls bytes) in
    body_of e bytes calls (Some fault) head.good (record {
      each = comes.each;
      last = at_comes w.header bytes calls (Stop fault) head.header (ap (coming_at w.header calls) comes.behind ∙ w.wrong);
    })

-- ---- each stream has a reading

abbrev pub HasReading : List ℕ → List Call → Type 0
HasReading bytes before = (calls : List Call) × ((end : Option StreamFault) × IsReading bytes (before ++ calls) end)

whole_some : (version : ℕ) (bytes : List ℕ) (k : Kind) (r : Bool) (p : List ℕ) → front version bytes ≡ Whole k r p → 0 < length bytes
unfolding front
whole_some version [] k r p e = absurd cc
whole_some version (b ∷ bytes) k r p e = omega arith

next_shorter : (bytes : List ℕ) (before : List Call) (call : Call) → coming bytes before ≡ Next call → length (drop (offset_behind (before ++ call ∷ [])) bytes) < length (drop (offset_behind before) bytes)
next_shorter bytes before call e =
    let h = header_of bytes in
    let rest = drop (offset_behind before) bytes in
    let room = room_behind h before in
    let t = front_call h before (length rest) room (front h.version (take room rest)) call e in
    let some_bytes = whole_some h.version (take room rest) t.kind t.returned t.payload t.front_is in
    omega (arith, offset_more before call, some_bytes, length-take room rest, length-drop (offset_behind before) bytes, length-drop (offset_behind (before ++ call ∷ [])) bytes)

ended : (bytes : List ℕ) (before : List Call) (end : Option StreamFault) → AreCalls bytes before → coming bytes before ≡ outcome end → HasReading bytes before
ended bytes before end are e = ([], (end, subst (λ (xs : List Call). IsReading bytes xs end) (sym (append-nil before)) (record { each = are; last = e })))

reading_from : (fuel : ℕ) (bytes : List ℕ) (before : List Call) (c : Coming) → length (drop (offset_behind before) bytes) < fuel → AreCalls bytes before → coming bytes before ≡ c → HasReading bytes before
reading_from zero bytes before c short are e = absurd (omega (arith, short))
reading_from (suc fuel) bytes before Done short are e = ended bytes before None are e
reading_from (suc fuel) bytes before (Stop f) short are e = ended bytes before (Some f) are e
reading_from (suc fuel) bytes before (Next call) short are e =
    let behind = before ++ call ∷ [] in
    let rest = reading_from fuel bytes behind (coming bytes behind) (omega (arith, short, next_shorter bytes before call e)) (one_more bytes before call are e) refl in
    (call ∷ rest.0, (rest.1.0, subst (λ (xs : List Call). IsReading bytes xs rest.1.0) (append_assoc before (call ∷ []) rest.0) rest.1.1))

stream_from : (bytes : List ℕ) (header : Option StreamFault) → (calls : List Call) × ((end : Option StreamFault) × BodyReading bytes calls end header)
stream_from bytes None = reading_from (suc (length (drop 17 bytes))) bytes [] (coming bytes []) (omega arith) (no_calls bytes) refl
stream_from bytes (Some f) = ([], (Some f, (refl, refl)))

pub stream_exists : (e : Option Expect) (bytes : List ℕ) → (calls : List Call) × ((end : Option StreamFault) × IsStream e bytes calls end)
stream_exists e bytes = stream_from bytes (header_fault e bytes)
