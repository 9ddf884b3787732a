-- A record may have each call of a run.
use Rattle.std.proofs.Common.{ℕ, cond, zero, suc, ◌+◌, ◌≤◌, ◌<◌, ◌^◌, ◌%◌, ◌==◌, Bool, true, false, pos, List, ◌∷◌, length, refl, arith}
use Rattle.std.specs.Prelude.{FitsSigned}
use Rattle.std.specs.Int.{w32}
use Rattle.std.specs.List.{range_with_len, filter, AllByRecursion}
use Rattle.std.proofs.lemmas.Nat.{mod_below}
use Rattle.must_call.specs.declared.field.Item.TheVariants as item
use Rattle.must_call.specs.declared.body.Body.TheVariants.{Frame, Derive, Object}
use Rattle.must_call.specs.declared.frame.Frame.TheVariants.{Init, Finalize}
use Rattle.must_call.specs.declared.derive.Derive.TheVariants.{TypeCommit, TypeFree}
use Rattle.must_call.specs.declared.object.Object.TheVariants.{CommFree}
use Rattle.must_format.specs.Values.{u32, u64, i32, i64, IsItem}
use Rattle.must_format.specs.ItemLaws.{length-items}
use Rattle.must_format.specs.Payload.{payload_text}
use Rattle.must_format.specs.Spelling.{IsSpellable}
use Rattle.must_drill.specs.declared.handles.TheConstants.{HALF, PAIR}
use Rattle.must_drill.specs.Calls.{done, mates_of, split, pair, receive, send, wait, sum}

pub fits_signed : (n : ℕ) → n < 65536 → FitsSigned w32 (pos n)
fits_signed n small = record { sfits = omega (arith, small) }

-- ---- before and behind the rounds

pub init_fits : IsSpellable (done (Frame Init))
unfolding payload_text
init_fits = record { stand = tt; inputs = tt; given = tt; short = omega arith }

pub finalize_fits : IsSpellable (done (Frame Finalize))
unfolding payload_text
finalize_fits = record { stand = tt; inputs = tt; given = tt; short = omega arith }

pub commit_fits : IsSpellable (done (Derive (TypeCommit PAIR)))
unfolding payload_text u32
commit_fits = record { stand = tt; inputs = (omega arith, tt); given = tt; short = omega arith }

pub type_free_fits : IsSpellable (done (Derive (TypeFree PAIR)))
unfolding payload_text u32
type_free_fits = record { stand = tt; inputs = (omega arith, tt); given = tt; short = omega arith }

pub comm_free_fits : IsSpellable (done (Object (CommFree HALF)))
unfolding payload_text u32
comm_free_fits = record { stand = tt; inputs = (omega arith, tt); given = tt; short = omega arith }

pub pair_fits : IsSpellable pair
unfolding payload_text u32 i32 i64
pair_fits = record {
  stand = refl;
  inputs = ((omega arith, ((fits_signed 1 (omega arith), record { sfits = omega arith }, omega arith), ((fits_signed 1 (omega arith), record { sfits = omega arith }, omega arith), tt))), tt);
  given = omega arith;
  short = omega arith;
}

kept_below : (b : Bool) (x : ℕ) (xs : List ℕ) → x < 2 ^ 32 → AllByRecursion (IsItem item.Request) xs → AllByRecursion (IsItem item.Request) (cond b (x ∷ xs) xs)
kept_below true x xs small all = (small, all)
kept_below false x xs small all = all

all_below : (p : ℕ → Bool) (limit a n : ℕ) → a + n ≤ limit → limit < 2 ^ 32 → AllByRecursion (IsItem item.Request) (filter p (range_with_len a n))
all_below p limit a zero within small = tt
all_below p limit a (suc n) within small = kept_below (p a) a (filter p (range_with_len (a + 1) n)) (omega (arith, within, small)) (all_below p limit (a + 1) n (omega (arith, within)) small)

kept_few : (b : Bool) (x : ℕ) (xs : List ℕ) (n : ℕ) → length xs ≤ n → length (cond b (x ∷ xs) xs) ≤ suc n
kept_few true x xs n few = omega (arith, few)
kept_few false x xs n few = omega (arith, few)

few_kept : (p : ℕ → Bool) (a n : ℕ) → length (filter p (range_with_len a n)) ≤ n
few_kept p a zero = omega arith
few_kept p a (suc n) = kept_few (p a) a (filter p (range_with_len (a + 1) n)) n (few_kept p (a + 1) n)

pub few_mates : (ranks rank : ℕ) → length (mates_of ranks rank) ≤ ranks
few_mates ranks rank = few_kept (λ (m : ℕ). m % 2 == rank % 2) 0 ranks

pub split_fits : (ranks rank : ℕ) → ranks ≤ 1024 → IsSpellable (split ranks rank)
unfolding payload_text u32 i32
split_fits ranks rank few = record {
  stand = refl;
  inputs = (omega arith, (fits_signed (rank % 2) (omega (arith, mod_below rank 2 (omega arith))), (fits_signed 0 (omega arith), tt)));
  given = (omega arith, (omega (arith, few, few_mates ranks rank), all_below (λ (m : ℕ). m % 2 == rank % 2) 1024 0 ranks (omega (arith, few)) (omega arith)));
  short = omega (arith, few, few_mates ranks rank, length-items item.Request (mates_of ranks rank));
}

-- ---- a round

pub receive_fits : (buf count source tag request : ℕ) → buf < 2 ^ 64 → count < 65536 → source < 65536 → tag < 65536 → request < 2 ^ 32 → IsSpellable (receive buf count source tag request)
unfolding payload_text u32 u64 i32
receive_fits buf count source tag request b c s t r = record {
  stand = refl;
  inputs = (b, (fits_signed count c, (omega arith, (fits_signed source s, (fits_signed tag t, (omega arith, tt))))));
  given = r;
  short = omega arith;
}

pub send_fits : (buf count dest tag request : ℕ) → buf < 2 ^ 64 → count < 65536 → dest < 65536 → tag < 65536 → request < 2 ^ 32 → IsSpellable (send buf count dest tag request)
unfolding payload_text u32 u64 i32
send_fits buf count dest tag request b c d t r = record {
  stand = refl;
  inputs = (b, (fits_signed count c, (omega arith, (fits_signed dest d, (fits_signed tag t, (omega arith, tt))))));
  given = r;
  short = omega arith;
}

pub wait_fits : (first left right : ℕ) → first + 3 < 2 ^ 32 → left < 65536 → right < 65536 → IsSpellable (wait first left right)
unfolding payload_text u32 i32
wait_fits first left right f l r = record {
  stand = refl;
  inputs = ((omega arith, (omega (arith, f), (omega (arith, f), (omega (arith, f), (f, tt))))), tt);
  given = (refl, ((fits_signed left l, fits_signed 1 (omega arith)), ((fits_signed right r, fits_signed 2 (omega arith)), ((record { sfits = omega arith }, record { sfits = omega arith }), ((record { sfits = omega arith }, record { sfits = omega arith }), tt)))));
  short = omega arith;
}

pub sum_fits : (count : ℕ) → count < 65536 → IsSpellable (sum count)
unfolding payload_text u32 u64 i32
sum_fits count c = record {
  stand = tt;
  inputs = (tt, (omega arith, (omega arith, (fits_signed count c, (omega arith, (omega arith, (omega arith, tt)))))));
  given = tt;
  short = omega arith;
}
