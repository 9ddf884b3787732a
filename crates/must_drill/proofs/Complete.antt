-- The stream of each rank is complete.
use Rattle.std.proofs.Common.{◌≡◌, ℕ, zero, suc, ◌+◌, ◌-◌, ◌*◌, ◌≤◌, ◌<◌, ◌^◌, ◌/◌, Bool, true, false, cond, [], ◌++◌, refl, subst, arith}
use Rattle.std.proofs.lemmas.Bool.{eq-eqb}
use Rattle.std.proofs.lemmas.Nat.{mod_below}
use Rattle.must_call.specs.declared.class.Class.TheVariants as class
use Rattle.must_call.specs.declared.body.Body.TheVariants.{Frame, Derive, Object}
use Rattle.must_call.specs.declared.frame.Frame.TheVariants.{Init, Finalize}
use Rattle.must_call.specs.declared.derive.Derive.TheVariants.{TypeCommit, TypeFree}
use Rattle.must_call.specs.declared.object.Object.TheVariants.{CommFree}
use Rattle.must_call.specs.declared.call.Call.{Call}
use Rattle.must_call.specs.Kinds.{kind_at}
use Rattle.must_format.specs.Spelling.{IsKnown}
use Rattle.must_format.specs.Stream.{whose}
use Rattle.must_format.specs.Complete.{IsHeader, IsComplete}
use Rattle.must_drill.specs.declared.round.Round.{Round}
use Rattle.must_drill.specs.declared.handles.TheConstants.{HALF, PAIR}
use Rattle.must_drill.specs.Numbers.{state_at, count_in, is_long, round_of}
use Rattle.must_drill.specs.Calls.{done, split, pair, opening, receive, send, wait, sum, round_calls, rounds_of, closing, calls_of}
use Rattle.must_drill.specs.Streams.{records_of, header_of, stream_of}
use Rattle.must_drill.proofs.Fits.{init_fits, finalize_fits, commit_fits, type_free_fits, comm_free_fits, pair_fits, split_fits, receive_fits, send_fits, wait_fits, sum_fits}
use Rattle.must_drill.proofs.Members.{mates_stand}
use Rattle.must_drill.proofs.Follows.{Stands, Follow, follow_append, recorded, plain, maker}

-- ---- version 1 knows the kinds

init_known : IsKnown 1 (done (Frame Init))
unfolding kind_at
init_known = refl

finalize_known : IsKnown 1 (done (Frame Finalize))
unfolding kind_at
finalize_known = refl

commit_known : IsKnown 1 (done (Derive (TypeCommit PAIR)))
unfolding kind_at
commit_known = refl

type_free_known : IsKnown 1 (done (Derive (TypeFree PAIR)))
unfolding kind_at
type_free_known = refl

comm_free_known : IsKnown 1 (done (Object (CommFree HALF)))
unfolding kind_at
comm_free_known = refl

pair_known : IsKnown 1 pair
unfolding kind_at
pair_known = refl

split_known : (ranks rank : ℕ) → IsKnown 1 (split ranks rank)
unfolding kind_at
split_known ranks rank = refl

receive_known : (buf count source tag request : ℕ) → IsKnown 1 (receive buf count source tag request)
unfolding kind_at
receive_known buf count source tag request = refl

send_known : (buf count dest tag request : ℕ) → IsKnown 1 (send buf count dest tag request)
unfolding kind_at
send_known buf count dest tag request = refl

wait_known : (first left right : ℕ) → IsKnown 1 (wait first left right)
unfolding kind_at
wait_known first left right = refl

sum_known : (count : ℕ) → IsKnown 1 (sum count)
unfolding kind_at
sum_known count = refl

-- ---- before, in and behind the rounds

opening_follows : (ranks rank : ℕ) → rank < ranks → ranks ≤ 1024 → Follow rank ranks 64 66 (opening ranks rank)
opening_follows ranks rank less few = (
  64,
  (
    plain rank ranks 64 (done (Frame Init)) init_fits init_known refl refl refl,
    (
      65,
      (
        maker rank ranks 64 (split ranks rank) class.Comm (split_fits ranks rank few) (split_known ranks rank) refl refl (omega arith) (mates_stand ranks rank less),
        (
          66,
          (
            maker rank ranks 65 pair class.Datatype pair_fits pair_known refl refl (omega arith) refl,
            (66, (plain rank ranks 66 (done (Derive (TypeCommit PAIR))) commit_fits commit_known refl refl refl, refl)),
          ),
        ),
      ),
    ),
  ),
)

closing_follows : (ranks rank next : ℕ) → Follow rank ranks next next closing
closing_follows ranks rank next = (
  next,
  (
    plain rank ranks next (done (Derive (TypeFree PAIR))) type_free_fits type_free_known refl refl refl,
    (
      next,
      (
        plain rank ranks next (done (Object (CommFree HALF))) comm_free_fits comm_free_known refl refl refl,
        (next, (plain rank ranks next (done (Frame Finalize)) finalize_fits finalize_known refl refl refl, refl)),
      ),
    ),
  ),
)

-- the numbers of a round fit their fields
record IsSmall (r : Round) : Type 0 where
  left : r.left < 65536
  right : r.right < 65536
  count : r.count < 65536
  sent : r.sent < 65536
  least : 64 ≤ r.first
  first : r.first + 3 < 2 ^ 32

-- the call where the next request comes
receives : (rank n buf count source tag request : ℕ) → buf < 2 ^ 64 → count < 65536 → source < 65536 → tag < 65536 → 64 ≤ request → request < 2 ^ 32
    → Stands rank n request (request + 1) (receive buf count source tag request)
receives rank n buf count source tag request b c s t least r =
    maker rank n request (receive buf count source tag request) class.Request (receive_fits buf count source tag request b c s t r) (receive_known buf count source tag request) refl refl least refl

sends : (rank n buf count dest tag request : ℕ) → buf < 2 ^ 64 → count < 65536 → dest < 65536 → tag < 65536 → 64 ≤ request → request < 2 ^ 32
    → Stands rank n request (request + 1) (send buf count dest tag request)
sends rank n buf count dest tag request b c d t least r =
    maker rank n request (send buf count dest tag request) class.Request (send_fits buf count dest tag request b c d t r) (send_known buf count dest tag request) refl refl least refl

-- a handle further
further : (rank n a b c : ℕ) (call : Call) → b ≡ c → Stands rank n a b call → Stands rank n a c call
further rank n a b c call e s = subst (λ (x : ℕ). Stands rank n a x call) e s

round_follows : (rank n : ℕ) (r : Round) → IsSmall r → Follow rank n r.first (r.first + 4) (round_calls r)
round_follows rank n r s =
    let f = r.first in (
      f + 1,
      (
        receives rank n 65536 r.count r.left 1 f (omega arith) s.count s.left (omega arith) s.least (omega (arith, s.first)),
        (
          f + 2,
          (
            further rank n (f + 1) (f + 1 + 1) (f + 2) (receive 131072 r.count r.right 2 (f + 1)) (omega arith) (receives rank n 131072 r.count r.right 2 (f + 1) (omega arith) s.count s.right (omega arith) (omega (arith, s.least)) (omega (arith, s.first))),
            (
              f + 3,
              (
                further rank n (f + 2) (f + 2 + 1) (f + 3) (send 196608 r.count r.left 2 (f + 2)) (omega arith) (sends rank n 196608 r.count r.left 2 (f + 2) (omega arith) s.count s.left (omega arith) (omega (arith, s.least)) (omega (arith, s.first))),
                (
                  f + 4,
                  (
                    further rank n (f + 3) (f + 3 + 1) (f + 4) (send 262144 r.sent r.right 1 (f + 3)) (omega arith) (sends rank n 262144 r.sent r.right 1 (f + 3) (omega arith) s.sent s.right (omega arith) (omega (arith, s.least)) (omega (arith, s.first))),
                    (
                      f + 4,
                      (
                        plain rank n (f + 4) (wait f r.left r.right) (wait_fits f r.left r.right s.first s.left s.right) (wait_known f r.left r.right) refl refl refl,
                        (f + 4, (plain rank n (f + 4) (sum r.count) (sum_fits r.count s.count) (sum_known r.count) refl refl refl, refl)),
                      ),
                    ),
                  ),
                ),
              ),
            ),
          ),
        ),
      ),
    )

-- ---- the rounds

few_items : (state : ℕ) → count_in state ≤ 16
unfolding count_in
few_items state = omega (arith, mod_below (state / 2 ^ 33) 16 (omega arith))

few_sent : (b : Bool) (count : ℕ) → count ≤ 16 → cond b (count + 1) count < 65536
few_sent true count few = omega (arith, few)
few_sent false count few = omega (arith, few)

round_small : (ranks number rank m count : ℕ) → rank < ranks → ranks ≤ 1024 → m < 1000 → count ≤ 16 → IsSmall (round_of ranks number rank m count)
unfolding round_of
round_small ranks number rank m count less few early items = record {
  left = omega (arith, few, mod_below (rank + ranks - 1) ranks (omega (arith, less)));
  right = omega (arith, few, mod_below (rank + 1) ranks (omega (arith, less)));
  count = omega (arith, items);
  sent = few_sent (is_long number rank m) count items;
  least = omega arith;
  first = omega (arith, early);
}

first_is : (ranks number rank m count : ℕ) → (round_of ranks number rank m count).first ≡ 66 + 4 * m
unfolding round_of
first_is ranks number rank m count = refl

rounds_follow : (ranks number rank m : ℕ) → rank < ranks → ranks ≤ 1024 → m ≤ 1000 → Follow rank ranks 66 (66 + 4 * m) (rounds_of ranks number rank m)
rounds_follow ranks number rank zero less few early = refl
rounds_follow ranks number rank (suc m) less few early =
    let count = count_in (state_at number (suc m)) in
    let r = round_of ranks number rank m count in
    let is : r.first ≡ 66 + 4 * m = first_is ranks number rank m count in
    let one : Follow rank ranks r.first (r.first + 4) (round_calls r) = round_follows rank ranks r (round_small ranks number rank m count less few (omega (arith, early)) (few_items (state_at number (suc m)))) in
    let from : Follow rank ranks (66 + 4 * m) (r.first + 4) (round_calls r) = subst (λ (x : ℕ). Follow rank ranks x (r.first + 4) (round_calls r)) is one in
    let to : Follow rank ranks (66 + 4 * m) (66 + 4 * suc m) (round_calls r) = subst (λ (x : ℕ). Follow rank ranks (66 + 4 * m) x (round_calls r)) (omega (arith, is)) from in
    follow_append rank ranks 66 (66 + 4 * m) (66 + 4 * suc m) (rounds_of ranks number rank m) (round_calls r) (rounds_follow ranks number rank m less few (omega (arith, early))) to

pub calls_follow : (ranks rounds number rank : ℕ) → rank < ranks → ranks ≤ 1024 → rounds ≤ 1000 → Follow rank ranks 64 (66 + 4 * rounds) (calls_of ranks rounds number rank)
calls_follow ranks rounds number rank less few early =
    follow_append rank ranks 64 66 (66 + 4 * rounds) (opening ranks rank) (rounds_of ranks number rank rounds ++ closing) (opening_follows ranks rank less few)
    (follow_append rank ranks 66 (66 + 4 * rounds) (66 + 4 * rounds) (rounds_of ranks number rank rounds) closing (rounds_follow ranks number rank rounds less few early) (closing_follows ranks rank (66 + 4 * rounds)))

pub header_stands : (ranks rank : ℕ) → rank < ranks → ranks ≤ 1024 → IsHeader (whose rank ranks) (header_of ranks rank)
header_stands ranks rank less few = record {
  version = refl;
  expected = rw (eq-eqb rank rank refl, eq-eqb ranks ranks refl) refl;
  tag_ub = refl;
  rank_fits = omega (arith, less, few);
  size_fits = omega (arith, few);
  tag_fits = record { sfits = omega arith };
}

unfoldable pub complete_stream : (ranks rounds number rank : ℕ) → rank < ranks → ranks ≤ 1024 → rounds ≤ 1000 → IsComplete (whose rank ranks) (stream_of ranks rounds number rank) (calls_of ranks rounds number rank)
complete_stream ranks rounds number rank less few early = record {
  header = header_of ranks rank;
  good = header_stands ranks rank less few;
  records = records_of (calls_of ranks rounds number rank);
  parts = refl;
  spelled = recorded (header_of ranks rank) 64 (66 + 4 * rounds) [] (calls_of ranks rounds number rank) refl (record { returned = refl; handle = refl }) (calls_follow ranks rounds number rank less few early);
}
