-- One item more at a queue.
use Rattle.std.proofs.Common.{◌≡◌, inl, inr, true, false, ℕ, zero, suc, ◌+◌, ◌<◌, ◌≤◌, List, [], ◌∷◌, ◌++◌, length, drop, None, refl, sym, ap, subst, ◌∙◌, arith, nat_lt, lt-ltb, le-ltb}
use Rattle.std.proofs.lemmas.List.{length_push, append-nil}
use Rattle.std.proofs.lemmas.Bool.{cases_lt}
use Rattle.std.proofs.lemmas.Option.{slice_get_past}
use Rattle.std.specs.Prelude.{slice_get}
use Rattle.std.specs.Option.{option_map}
use Rattle.must_p2p.specs.declared.side.Side.{Side}
use Rattle.must_p2p.specs.declared.side.Side.TheVariants.{Send, Receive, Probe}
use Rattle.must_p2p.specs.declared.waiting.Waiting.{Waiting}
use Rattle.must_p2p.specs.declared.queue.Queue.{Queue}
use Rattle.must_p2p.specs.Queues.{left, met, partner, pair_of, with_item, IsQueue}

pub drop_none : (n : ℕ) → drop {A = Waiting} n [] ≡ []
drop_none zero = refl
drop_none (suc n) = refl

met_behind : (xs : List Waiting) (x : Waiting) → met false xs x ≡ xs ++ x ∷ []
met_behind [] x = refl
met_behind (y ∷ ys) x = refl

-- ---- what is left, with one send more or one receive more

send_meets : (s r : List Waiting) (x : Waiting) → length s < length r → left (s ++ x ∷ []) r ≡ met true (left s r) x
send_meets [] [] x h = absurd (omega (arith, h))
send_meets [] (y ∷ r) x h = ap (λ l. l ++ r) (drop_none (length r))
send_meets (y ∷ s) [] x h = absurd (omega (arith, h))
send_meets (y ∷ s) (z ∷ r) x h = send_meets s r x (omega (arith, h))

send_waits : (s r : List Waiting) (x : Waiting) → length r ≤ length s → left (s ++ x ∷ []) r ≡ left s r ++ x ∷ []
send_waits s [] x h =
    ap (λ l. (s ++ x ∷ []) ++ l) (drop_none (length (s ++ x ∷ []))) ∙ append-nil (s ++ x ∷ []) ∙ sym (ap (λ l. (s ++ l) ++ x ∷ []) (drop_none (length s)) ∙ ap (λ l. l ++ x ∷ []) (append-nil s))
send_waits [] (y ∷ r) x h = absurd (omega (arith, h))
send_waits (y ∷ s) (z ∷ r) x h = send_waits s r x (omega (arith, h))

receive_meets : (s r : List Waiting) (x : Waiting) → length r < length s → left s (r ++ x ∷ []) ≡ met true (left s r) x
receive_meets [] r x h = absurd (omega (arith, h))
receive_meets (y ∷ s) [] x h = ap (λ l. s ++ l) (drop_none (length s))
receive_meets (y ∷ s) (z ∷ r) x h = receive_meets s r x (omega (arith, h))

receive_waits : (s r : List Waiting) (x : Waiting) → length s ≤ length r → left s (r ++ x ∷ []) ≡ left s r ++ x ∷ []
receive_waits [] r x h = ap (λ l. l ++ (r ++ x ∷ [])) (drop_none (length (r ++ x ∷ []))) ∙ sym (ap (λ l. (l ++ r) ++ x ∷ []) (drop_none (length r)))
receive_waits (y ∷ s) [] x h = absurd (omega (arith, h))
receive_waits (y ∷ s) (z ∷ r) x h = receive_waits s r x (omega (arith, h))

pub send_left : (s r : List Waiting) (x : Waiting) → left (s ++ x ∷ []) r ≡ met (nat_lt (length s) (length r)) (left s r) x
send_left s r x = elim (cases_lt (length s) (length r)) [
  | inl less ↦ send_meets s r x less ∙ ap (λ b. met b (left s r) x) (sym (lt-ltb (length s) (length r) less))
  | inr more ↦ send_waits s r x more ∙ sym (met_behind (left s r) x) ∙ ap (λ b. met b (left s r) x) (sym (le-ltb (length s) (length r) more))
]

pub receive_left : (s r : List Waiting) (x : Waiting) → left s (r ++ x ∷ []) ≡ met (nat_lt (length r) (length s)) (left s r) x
receive_left s r x = elim (cases_lt (length r) (length s)) [
  | inl less ↦ receive_meets s r x less ∙ ap (λ b. met b (left s r) x) (sym (lt-ltb (length r) (length s) less))
  | inr more ↦ receive_waits s r x more ∙ sym (met_behind (left s r) x) ∙ ap (λ b. met b (left s r) x) (sym (le-ltb (length r) (length s) more))
]

-- ---- the partner of one more

first_receive : (s r : List Waiting) → length s < length r → slice_get (left s r) 0 ≡ slice_get r (length s)
first_receive [] [] h = absurd (omega (arith, h))
first_receive [] (y ∷ r) h = refl
first_receive (y ∷ s) [] h = absurd (omega (arith, h))
first_receive (y ∷ s) (z ∷ r) h = first_receive s r (omega (arith, h))

first_send : (s r : List Waiting) → length r < length s → slice_get (left s r) 0 ≡ slice_get s (length r)
first_send [] r h = absurd (omega (arith, h))
first_send (y ∷ s) [] h = refl
first_send (y ∷ s) (z ∷ r) h = first_send s r (omega (arith, h))

partner_of_send : (s r : List Waiting) → partner (nat_lt (length s) (length r)) (left s r) ≡ slice_get r (length s)
partner_of_send s r = elim (cases_lt (length s) (length r)) [
  | inl less ↦ ap (λ b. partner b (left s r)) (lt-ltb (length s) (length r) less) ∙ first_receive s r less
  | inr more ↦ ap (λ b. partner b (left s r)) (le-ltb (length s) (length r) more) ∙ sym (slice_get_past r (length s) more)
]

partner_of_receive : (s r : List Waiting) → partner (nat_lt (length r) (length s)) (left s r) ≡ slice_get s (length r)
partner_of_receive s r = elim (cases_lt (length r) (length s)) [
  | inl less ↦ ap (λ b. partner b (left s r)) (lt-ltb (length r) (length s) less) ∙ first_send s r less
  | inr more ↦ ap (λ b. partner b (left s r)) (le-ltb (length r) (length s) more) ∙ sym (slice_get_past s (length r) more)
]

-- ---- a queue with one more

pub queue_sent : (s r : List Waiting) (x : Waiting) (old new : Queue) → IsQueue s r old
    → new.waiting.items ≡ met (nat_lt old.sent old.received) old.waiting.items x → new.sent ≡ old.sent + 1 → new.received ≡ old.received → IsQueue (s ++ x ∷ []) r new
queue_sent s r x old new q waits sent received = record {
  sent = omega (arith, length_push s x, sent, q.sent);
  received = received ∙ q.received;
  waits = waits ∙ ap (λ n. met (nat_lt n old.received) old.waiting.items x) q.sent ∙ ap (λ n. met (nat_lt (length s) n) old.waiting.items x) q.received
      ∙ ap (λ l. met (nat_lt (length s) (length r)) l x) q.waits ∙ sym (send_left s r x);
}

pub queue_received : (s r : List Waiting) (x : Waiting) (old new : Queue) → IsQueue s r old
    → new.waiting.items ≡ met (nat_lt old.received old.sent) old.waiting.items x → new.received ≡ old.received + 1 → new.sent ≡ old.sent → IsQueue s (r ++ x ∷ []) new
queue_received s r x old new q waits received sent = record {
  sent = sent ∙ q.sent;
  received = omega (arith, length_push r x, received, q.received);
  waits = waits ∙ ap (λ n. met (nat_lt old.received n) old.waiting.items x) q.sent ∙ ap (λ n. met (nat_lt n (length s)) old.waiting.items x) q.received
      ∙ ap (λ l. met (nat_lt (length r) (length s)) l x) q.waits ∙ sym (receive_left s r x);
}

pub pair_sent : (s r : List Waiting) (x : Waiting) (q : Queue) → IsQueue s r q → option_map (λ y. (x, y)) (partner (nat_lt q.sent q.received) q.waiting.items) ≡ pair_of Send x s r
pair_sent s r x q is =
    ap (option_map (λ y. (x, y)))
    (ap (λ n. partner (nat_lt n q.received) q.waiting.items) is.sent ∙ ap (λ n. partner (nat_lt (length s) n) q.waiting.items) is.received
    ∙ ap (λ l. partner (nat_lt (length s) (length r)) l) is.waits ∙ partner_of_send s r)

pub pair_received : (s r : List Waiting) (x : Waiting) (q : Queue) → IsQueue s r q → option_map (λ y. (y, x)) (partner (nat_lt q.received q.sent) q.waiting.items) ≡ pair_of Receive x s r
pair_received s r x q is =
    ap (option_map (λ y. (y, x)))
    (ap (λ n. partner (nat_lt n q.sent) q.waiting.items) is.received ∙ ap (λ n. partner (nat_lt (length r) n) q.waiting.items) is.sent
    ∙ ap (λ l. partner (nat_lt (length r) (length s)) l) is.waits ∙ partner_of_receive s r)

alone : (t : Side) (x : Waiting) → pair_of t x [] [] ≡ None
alone Send x = refl
alone Receive x = refl
alone Probe x = refl

-- the first item of a class has no match
pub pair_none : (t : Side) (x : Waiting) (s r : List Waiting) → s ≡ [] → r ≡ [] → pair_of t x s r ≡ None
pair_none t x s r p q = ap (λ (l : List Waiting). pair_of t x l r) p ∙ ap (λ (l : List Waiting). pair_of t x [] l) q ∙ alone t x

-- ---- the same, where the side is known by an equation

pub found_sent : (t : Side) (s r : List Waiting) (x : Waiting) (q : Queue) → t ≡ Send → IsQueue s r q → option_map (λ y. (x, y)) (partner (nat_lt q.sent q.received) q.waiting.items) ≡ pair_of t x s r
found_sent t s r x q e is = pair_sent s r x q is ∙ ap (λ w. pair_of w x s r) (sym e)

pub found_received : (t : Side) (s r : List Waiting) (x : Waiting) (q : Queue) → t ≡ Receive → IsQueue s r q → option_map (λ y. (y, x)) (partner (nat_lt q.received q.sent) q.waiting.items) ≡ pair_of t x s r
found_received t s r x q e is = pair_received s r x q is ∙ ap (λ w. pair_of w x s r) (sym e)

pub with_sent : (t : Side) (s r : List Waiting) (x : Waiting) (q : Queue) → t ≡ Send → IsQueue (s ++ x ∷ []) r q → IsQueue (with_item Send t x s) (with_item Receive t x r) q
with_sent t s r x q e is = subst (λ w. IsQueue (with_item Send w x s) (with_item Receive w x r) q) (sym e) is

pub with_received : (t : Side) (s r : List Waiting) (x : Waiting) (q : Queue) → t ≡ Receive → IsQueue s (r ++ x ∷ []) q → IsQueue (with_item Send t x s) (with_item Receive t x r) q
with_received t s r x q e is = subst (λ w. IsQueue (with_item Send w x s) (with_item Receive w x r) q) (sym e) is
