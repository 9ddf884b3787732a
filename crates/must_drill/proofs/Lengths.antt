-- The stream of each rank is within the limits of bytes and calls.
use Rattle.std.proofs.Common.{◌≡◌, ℕ, zero, suc, ◌*◌, ◌≤◌, ◌<◌, ◌/◌, [], ◌++◌, length, refl, arith, length-append}
use Rattle.std.proofs.lemmas.Nat.{le-div}
use Rattle.must_call.specs.declared.field.Item.TheVariants as item
use Rattle.must_call.specs.declared.body.Body.TheVariants.{Frame, Derive}
use Rattle.must_call.specs.declared.frame.Frame.TheVariants.{Init}
use Rattle.must_call.specs.declared.derive.Derive.TheVariants.{TypeCommit}
use Rattle.must_format.specs.declared.limits.TheConstants.{RUN_BYTES, RUN_CALLS}
use Rattle.must_format.specs.Values.{u32, u64, i32, i64}
use Rattle.must_format.specs.ItemLaws.{length-items}
use Rattle.must_format.specs.Payload.{payload_text}
use Rattle.must_format.specs.Spelling.{end_text}
use Rattle.must_format.specs.Stream.{header_text, whose, Accepted}
use Rattle.must_format.specs.CompleteLaws.{complete_accepted}
use Rattle.must_drill.specs.declared.round.Round.{Round}
use Rattle.must_drill.specs.declared.handles.TheConstants.{PAIR}
use Rattle.must_drill.specs.Numbers.{round_at}
use Rattle.must_drill.specs.Calls.{done, mates_of, split, pair, opening, round_calls, rounds_of, closing, calls_of}
use Rattle.must_drill.specs.Streams.{record_of, records_of, header_of, stream_of}
use Rattle.std.proofs.lemmas.Grind.{flat_map-append}
use Rattle.must_drill.proofs.Fits.{few_mates}
use Rattle.must_drill.proofs.Ranges.{length-calls}
use Rattle.must_drill.proofs.Complete.{complete_stream}
use Rattle.std.proofs.Common.{ap}

length-init : length (record_of (done (Frame Init))) ≡ 6
unfolding record_of payload_text u32
length-init = refl

length-split : (ranks rank : ℕ) → ranks ≤ 1024 → length (record_of (split ranks rank)) ≤ 4122
unfolding record_of payload_text u32 i32
length-split ranks rank few = omega (arith, few, few_mates ranks rank, length-items item.Request (mates_of ranks rank))

length-pair : length (record_of pair) ≡ 46
unfolding record_of payload_text u32 i32 i64
length-pair = refl

length-commit : length (record_of (done (Derive (TypeCommit PAIR)))) ≡ 10
unfolding record_of payload_text u32
length-commit = refl

length-round : (r : Round) → length (records_of (round_calls r)) ≡ 253
unfolding record_of payload_text u32 u64 i32
length-round r = refl

length-closing : length (records_of closing) ≡ 26
unfolding record_of payload_text u32
length-closing = refl

length-end : (calls : ℕ) → length (end_text calls) ≡ 10
unfolding u32
length-end calls = refl

length-header : (ranks rank : ℕ) → length (header_text (header_of ranks rank)) ≡ 17
unfolding u32 i32
length-header ranks rank = refl

length-opening : (ranks rank : ℕ) → ranks ≤ 1024 → length (records_of (opening ranks rank)) ≤ 4184
length-opening ranks rank few =
    let commit = record_of (done (Derive (TypeCommit PAIR))) in
    omega (
      arith,
      length-init,
      length-split ranks rank few,
      length-pair,
      length-commit,
      length-append (record_of (done (Frame Init))) (record_of (split ranks rank) ++ (record_of pair ++ (commit ++ []))),
      length-append (record_of (split ranks rank)) (record_of pair ++ (commit ++ [])),
      length-append (record_of pair) (commit ++ []),
      length-append commit [],
    )

length-round_records : (ranks number rank m : ℕ) → length (records_of (rounds_of ranks number rank m)) ≡ 253 * m
length-round_records ranks number rank zero = refl
length-round_records ranks number rank (suc m) =
    let before = rounds_of ranks number rank m in
    let calls = round_calls (round_at ranks number rank m) in
    omega (arith, ap length (flat_map-append record_of before calls), length-append (records_of before) (records_of calls), length-round (round_at ranks number rank m), length-round_records ranks number rank m)

length-stream : (ranks rounds number rank : ℕ) → ranks ≤ 1024 → rounds ≤ 1000 → length (stream_of ranks rounds number rank) ≤ 257237
length-stream ranks rounds number rank few early =
    let first = opening ranks rank in
    let middle = rounds_of ranks number rank rounds in
    let calls = calls_of ranks rounds number rank in
    omega (
      arith,
      early,
      length-header ranks rank,
      length-append (header_text (header_of ranks rank)) (records_of calls ++ end_text (length calls)),
      length-append (records_of calls) (end_text (length calls)),
      length-end (length calls),
      ap length (flat_map-append record_of first (middle ++ closing)),
      length-append (records_of first) (records_of (middle ++ closing)),
      ap length (flat_map-append record_of middle closing),
      length-append (records_of middle) (records_of closing),
      length-opening ranks rank few,
      length-round_records ranks number rank rounds,
      length-closing,
    )

pub accepted_stream : (ranks rounds number rank : ℕ) → rank < ranks → ranks ≤ 1024 → rounds ≤ 1000 → Accepted rank ranks (stream_of ranks rounds number rank) (calls_of ranks rounds number rank)
unfolding complete_stream
accepted_stream ranks rounds number rank less few early =
    let bytes : 257237 ≤ RUN_BYTES / ranks = le-div 257237 RUN_BYTES ranks (omega (arith, less)) (omega (arith, few)) in
    let calls : 6007 ≤ RUN_CALLS / ranks = le-div 6007 RUN_CALLS ranks (omega (arith, less)) (omega (arith, few)) in
    complete_accepted (whose rank ranks) (stream_of ranks rounds number rank) (calls_of ranks rounds number rank) (record {
      complete = complete_stream ranks rounds number rank less few early;
      bytes_within = omega (arith, bytes, length-stream ranks rounds number rank few early);
      calls_within = omega (arith, calls, early, length-calls ranks rounds number rank);
    })
