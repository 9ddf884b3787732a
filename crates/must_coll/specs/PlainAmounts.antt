-- The amounts of a wave (C4) depend on the lists that signatures stand for alone.
use Rattle.std.proofs.Common.{◌≡◌, ℕ, zero, suc, ◌+◌, Bool, true, false, cond, ◌&&◌, List, [], ◌∷◌, length, map, Option, Some, None, refl, ap, ◌∙◌}
use Rattle.std.specs.Prelude.{slice_get, ◌==◌}
use Rattle.std.specs.Option.{option_map, is_some}
use Rattle.std.proofs.lemmas.List.{length-map}
use Rattle.std.proofs.lemmas.Option.{slice_get-map}
use Rattle.must_find.specs.declared.finding.Finding.{Finding}
use Rattle.must_sig.specs.Signatures.{Periods, expansion, difference}
use Rattle.must_coll.specs.declared.item.WaveItem.{WaveItem}
use Rattle.must_coll.specs.declared.exchange.Exchange.{Exchange}
use Rattle.must_coll.specs.declared.exchange.Exchange.TheVariants.{Nothing, Bcast, Gather, Gatherv, Scatter, Scatterv, Alltoall, Allgatherv, Alltoallv, Reduce, ReduceScatter}
use Rattle.must_coll.specs.Given.{or_else}
use Rattle.must_coll.specs.Agreement.{has_root, first_counting}
use Rattle.must_coll.specs.Amounts.{exchange_of, own, other, differ, first_number, entry, difference_between, amount_found, pair_row, against, first_against, shares_root, all_share, counts_there, root_first, shared_root, common_root, is_reduction, is_free, rooted_row, rootless_row, amount_row}
use Rattle.must_coll.specs.Plain.{plain_signature, plain_expansion, plain}
use Rattle.must_coll.specs.PlainWaves.{plain_call, counting_plain, call_plain}

-- a signature that there is, told one by one
abbrev pub plain_option : Option Periods → Option Periods
plain_option o = option_map plain_signature o

-- ---- the signatures that are compared

either_plain : (b : Bool) (o p o' p' : Option Periods) → o ≡ plain_option o' → p ≡ plain_option p' → cond b o p ≡ plain_option (cond b o' p')
either_plain true o p o' p' e d = e
either_plain false o p o' p' e d = d

at_plain : (ps : List Periods) (k : ℕ) → slice_get (map plain_signature ps) k ≡ plain_option (slice_get ps k)
at_plain ps k = slice_get-map plain_signature ps k

unless_plain : (b : Bool) (ps : List Periods) (k : ℕ) → cond b None (slice_get (map plain_signature ps) k) ≡ plain_option (cond b None (slice_get ps k))
unless_plain b ps k = either_plain b None (slice_get (map plain_signature ps) k) None (slice_get ps k) refl (at_plain ps k)

two_plain : (b : Bool) (ps qs : List Periods) (k l : ℕ) → cond b (slice_get (map plain_signature ps) k) (slice_get (map plain_signature qs) l) ≡ plain_option (cond b (slice_get ps k) (slice_get qs l))
two_plain b ps qs k l =
    either_plain b (slice_get (map plain_signature ps) k) (slice_get (map plain_signature qs) l) (slice_get ps k) (slice_get qs l) (at_plain ps k) (at_plain qs l)

own_plain : (e : Exchange) (i j : ℕ) (x : WaveItem) → own e i j (plain x) ≡ plain_option (own e i j x)
own_plain Nothing i j x = refl
own_plain Bcast i j x = at_plain x.sends 0
own_plain Gather i j x = unless_plain (i == j && x.in_place) x.sends 0
own_plain Gatherv i j x = unless_plain (i == j && x.in_place) x.sends 0
own_plain Scatter i j x = unless_plain (i == j && x.in_place) x.recvs 0
own_plain Scatterv i j x = unless_plain (i == j && x.in_place) x.recvs 0
own_plain Alltoall i j x = at_plain x.recvs 0
own_plain Allgatherv i j x = at_plain x.recvs j
own_plain Alltoallv i j x = at_plain x.recvs j
own_plain Reduce i j x = at_plain x.sends 0
own_plain ReduceScatter i j x = refl

other_plain : (e : Exchange) (i j : ℕ) (y : WaveItem) → other e i j (plain y) ≡ plain_option (other e i j y)
other_plain Nothing i j y = refl
other_plain Bcast i j y = at_plain y.sends 0
other_plain Gather i j y = at_plain y.recvs 0
other_plain Gatherv i j y = at_plain y.recvs i
other_plain Scatter i j y = at_plain y.sends 0
other_plain Scatterv i j y = at_plain y.sends i
other_plain Alltoall i j y = two_plain y.in_place y.recvs y.sends 0 0
other_plain Allgatherv i j y = two_plain y.in_place y.recvs y.sends j 0
other_plain Alltoallv i j y = two_plain y.in_place y.recvs y.sends i i
other_plain Reduce i j y = at_plain y.sends 0
other_plain ReduceScatter i j y = refl

-- ---- where they differ

differ_by : (a b : Option Periods) → differ (plain_option a) (plain_option b) ≡ differ a b
differ_by (Some a) (Some b) =
    ap (λ l. difference l (expansion (plain_signature b))) (plain_expansion a) ∙ ap (λ l. difference (expansion a) l) (plain_expansion b)
differ_by (Some a) None = refl
differ_by None b = refl

differ_plain : (o p o' p' : Option Periods) → o ≡ plain_option o' → p ≡ plain_option p' → differ o p ≡ differ o' p'
differ_plain o p o' p' e d =
    ap (λ (w : Option Periods). differ w p) e ∙ ap (λ (w : Option Periods). differ (plain_option o') w) d ∙ differ_by o' p'

first_alike : (p q : ℕ → Bool) → ((j : ℕ) → p j ≡ q j) → (j count : ℕ) → first_number p j count ≡ first_number q j count
unfolding first_number
first_alike p q same j zero = refl
first_alike p q same j (suc count) =
    ap (λ b. cond b (Some j) (first_number p (j + 1) count)) (same j)
    ∙ ap (λ (o : Option ℕ). cond (q j) (Some j) o) (first_alike p q same (j + 1) count)

entry_plain : (n : ℕ) (xs ys : List Periods) → entry n (map plain_signature xs) (map plain_signature ys) ≡ entry n xs ys
entry_plain n xs ys =
    first_alike (λ j. is_some (differ (slice_get (map plain_signature xs) j) (slice_get (map plain_signature ys) j))) (λ j. is_some (differ (slice_get xs j) (slice_get ys j)))
    (λ j. ap (λ (o : Option ℕ). is_some o) (differ_plain (slice_get (map plain_signature xs) j) (slice_get (map plain_signature ys) j) (slice_get xs j) (slice_get ys j) (at_plain xs j) (at_plain ys j)))
    0 n

parts_plain : (e : Exchange) (i j : ℕ) (x y : WaveItem) → differ (own e i j (plain x)) (other e i j (plain y)) ≡ differ (own e i j x) (other e i j y)
parts_plain e i j x y = differ_plain (own e i j (plain x)) (other e i j (plain y)) (own e i j x) (other e i j y) (own_plain e i j x) (other_plain e i j y)

difference_plain : (e : Exchange) (n i j : ℕ) (x y : WaveItem) → difference_between e n i j (plain x) (plain y) ≡ difference_between e n i j x y
difference_plain ReduceScatter n i j x y = entry_plain n x.sends y.sends
difference_plain Nothing n i j x y = parts_plain Nothing i j x y
difference_plain Bcast n i j x y = parts_plain Bcast i j x y
difference_plain Gather n i j x y = parts_plain Gather i j x y
difference_plain Gatherv n i j x y = parts_plain Gatherv i j x y
difference_plain Scatter n i j x y = parts_plain Scatter i j x y
difference_plain Scatterv n i j x y = parts_plain Scatterv i j x y
difference_plain Alltoall n i j x y = parts_plain Alltoall i j x y
difference_plain Allgatherv n i j x y = parts_plain Allgatherv i j x y
difference_plain Alltoallv n i j x y = parts_plain Alltoallv i j x y
difference_plain Reduce n i j x y = parts_plain Reduce i j x y

found_plain : (e : Exchange) (x y : WaveItem) (o : Option ℕ) → amount_found e (plain x) (plain y) o ≡ amount_found e x y o
found_plain e x y None = refl
found_plain e x y (Some v) = refl

pair_plain : (e : Exchange) (n i j : ℕ) (x y : WaveItem) → pair_row e n i j (plain x) (plain y) ≡ pair_row e n i j x y
pair_plain e n i j x y =
    ap (λ (o : Option Finding). cond (x.counts && y.counts) o None)
    (ap (λ (o : Option ℕ). amount_found e (plain x) (plain y) o) (difference_plain e n i j x y) ∙ found_plain e x y (difference_between e n i j x y))

-- ---- the calls that a call is compared with

against_by : (e : Exchange) (n j : ℕ) (o : Option WaveItem) (i : ℕ) (x : WaveItem) → against e n j (plain_call o) i (plain x) ≡ against e n j o i x
against_by e n j (Some y) i x = pair_plain e n i j x y
against_by e n j None i x = refl

against_plain : (e : Exchange) (n n' j : ℕ) (o o' : Option WaveItem) (i : ℕ) (x : WaveItem) → n ≡ n' → o ≡ plain_call o' → against e n j o i (plain x) ≡ against e n' j o' i x
against_plain e n n' j o o' i x many same =
    ap (λ m. against e m j o i (plain x)) many ∙ ap (λ (w : Option WaveItem). against e n' j w i (plain x)) same ∙ against_by e n' j o' i x

each_by : (e : Exchange) (n i : ℕ) (x : WaveItem) (j : ℕ) (ys : List WaveItem) → first_against e n i (plain x) j (map plain ys) ≡ first_against e n i x j ys
each_by e n i x j [] = refl
each_by e n i x j (y ∷ ys) =
    ap (λ (o : Option Finding). or_else o (first_against e n i (plain x) (j + 1) (map plain ys))) (pair_plain e n i j x y)
    ∙ ap (λ (o : Option Finding). or_else (pair_row e n i j x y) o) (each_by e n i x (j + 1) ys)

-- ---- the root

shares_plain : (n r : ℕ) (xs : List WaveItem) → all_share n r (map plain xs) ≡ all_share n r xs
shares_plain n r [] = refl
shares_plain n r (x ∷ xs) = ap (λ b. shares_root n r x && b) (shares_plain n r xs)

counts_by : (o : Option WaveItem) → counts_there (plain_call o) ≡ counts_there o
counts_by (Some y) = refl
counts_by None = refl

counts_plain : (calls : List WaveItem) (r : ℕ) → counts_there (slice_get (map plain calls) r) ≡ counts_there (slice_get calls r)
counts_plain calls r = ap (λ (o : Option WaveItem). counts_there o) (call_plain calls r) ∙ counts_by (slice_get calls r)

first_root_plain : (n : ℕ) (o : Option WaveItem) → root_first n (plain_call o) ≡ root_first n o
first_root_plain n (Some x) = refl
first_root_plain n None = refl

shared_plain : (n : ℕ) (calls : List WaveItem) (o : Option ℕ) → shared_root n (map plain calls) o ≡ shared_root n calls o
shared_plain n calls (Some r) =
    ap (λ b. cond (b && counts_there (slice_get (map plain calls) r)) (Some r) None) (shares_plain n r calls)
    ∙ ap (λ b. cond (all_share n r calls && b) (Some r) None) (counts_plain calls r)
shared_plain n calls None = refl

pub many_plain : (calls : List WaveItem) → length (map plain calls) ≡ length calls
many_plain calls = length-map calls plain

common_plain : (calls : List WaveItem) → common_root (map plain calls) ≡ common_root calls
common_plain calls =
    ap (λ n. shared_root n (map plain calls) (root_first n (first_counting (map plain calls)))) (many_plain calls)
    ∙ ap (λ (o : Option WaveItem). shared_root (length calls) (map plain calls) (root_first (length calls) o)) (counting_plain calls)
    ∙ ap (λ (o : Option ℕ). shared_root (length calls) (map plain calls) o) (first_root_plain (length calls) (first_counting calls))
    ∙ shared_plain (length calls) calls (root_first (length calls) (first_counting calls))

-- ---- C4

chosen : (b : Bool) (o p o' p' : Option Finding) → o ≡ o' → p ≡ p' → cond b o p ≡ cond b o' p'
chosen true o p o' p' e d = e
chosen false o p o' p' e d = d

first_plain : (e : Exchange) (calls : List WaveItem) (i : ℕ) (x : WaveItem) → against e (length (map plain calls)) 0 (first_counting (map plain calls)) i (plain x) ≡ against e (length calls) 0 (first_counting calls) i x
first_plain e calls i x =
    against_plain e (length (map plain calls)) (length calls) 0 (first_counting (map plain calls)) (first_counting calls) i x (many_plain calls) (counting_plain calls)

root_plain : (e : Exchange) (calls : List WaveItem) (r i : ℕ) (x : WaveItem) → against e (length (map plain calls)) r (slice_get (map plain calls) r) i (plain x) ≡ against e (length calls) r (slice_get calls r) i x
root_plain e calls r i x =
    against_plain e (length (map plain calls)) (length calls) r (slice_get (map plain calls) r) (slice_get calls r) i x (many_plain calls) (call_plain calls r)

each_plain : (e : Exchange) (calls : List WaveItem) (i : ℕ) (x : WaveItem) → first_against e (length (map plain calls)) i (plain x) 0 (map plain calls) ≡ first_against e (length calls) i x 0 calls
each_plain e calls i x =
    ap (λ n. first_against e n i (plain x) 0 (map plain calls)) (many_plain calls) ∙ each_by e (length calls) i x 0 calls

rooted_by : (e : Exchange) (calls : List WaveItem) (o : Option ℕ) (i : ℕ) (x : WaveItem) → rooted_row e (map plain calls) o i (plain x) ≡ rooted_row e calls o i x
rooted_by e calls (Some r) i x =
    chosen (is_reduction e)
    (against e (length (map plain calls)) 0 (first_counting (map plain calls)) i (plain x)) (against e (length (map plain calls)) r (slice_get (map plain calls) r) i (plain x))
    (against e (length calls) 0 (first_counting calls) i x) (against e (length calls) r (slice_get calls r) i x)
    (first_plain e calls i x) (root_plain e calls r i x)
rooted_by e calls None i x = refl

rooted_plain : (e : Exchange) (calls : List WaveItem) (i : ℕ) (x : WaveItem) → rooted_row e (map plain calls) (common_root (map plain calls)) i (plain x) ≡ rooted_row e calls (common_root calls) i x
rooted_plain e calls i x =
    ap (λ (o : Option ℕ). rooted_row e (map plain calls) o i (plain x)) (common_plain calls) ∙ rooted_by e calls (common_root calls) i x

rootless_plain : (e : Exchange) (calls : List WaveItem) (i : ℕ) (x : WaveItem) → rootless_row e (map plain calls) i (plain x) ≡ rootless_row e calls i x
rootless_plain e calls i x =
    ap (λ (o : Option Finding). cond (is_free e) None o)
    (chosen (is_reduction e)
    (against e (length (map plain calls)) 0 (first_counting (map plain calls)) i (plain x)) (first_against e (length (map plain calls)) i (plain x) 0 (map plain calls))
    (against e (length calls) 0 (first_counting calls) i x) (first_against e (length calls) i x 0 calls)
    (first_plain e calls i x) (each_plain e calls i x))

amount_by : (o : Option WaveItem) (calls : List WaveItem) (i : ℕ) (x : WaveItem) → amount_row (plain_call o) (map plain calls) i (plain x) ≡ amount_row o calls i x
amount_by (Some first) calls i x =
    chosen (has_root first.kind)
    (rooted_row (exchange_of first.kind) (map plain calls) (common_root (map plain calls)) i (plain x)) (rootless_row (exchange_of first.kind) (map plain calls) i (plain x))
    (rooted_row (exchange_of first.kind) calls (common_root calls) i x) (rootless_row (exchange_of first.kind) calls i x)
    (rooted_plain (exchange_of first.kind) calls i x) (rootless_plain (exchange_of first.kind) calls i x)
amount_by None calls i x = refl

pub amount_plain : (calls : List WaveItem) (i : ℕ) (x : WaveItem) → amount_row (slice_get (map plain calls) 0) (map plain calls) i (plain x) ≡ amount_row (slice_get calls 0) calls i x
amount_plain calls i x = ap (λ (o : Option WaveItem). amount_row o (map plain calls) i (plain x)) (call_plain calls 0) ∙ amount_by (slice_get calls 0) calls i x
