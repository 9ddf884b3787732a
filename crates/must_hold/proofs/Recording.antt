-- What a call recorded, gathered one by one.
use Rattle.std.proofs.Common.{◌≡◌, ℕ, zero, suc, ◌+◌, ◌<◌, List, [], ◌∷◌, ◌++◌, length, take, drop, get_or, Option, Some, None, refl, ap, sym, ◌∙◌, arith, append_assoc}
use Rattle.std.specs.Prelude.{map, filter_map, slice_get, option_map}
use Rattle.std.specs.List.{flat_map, cons_option}
use Rattle.std.specs.Option.{option_to_list}
use Rattle.std.proofs.lemmas.List.{map-append, append-nil, take_more}
use Rattle.std.proofs.lemmas.List.Elements.{filter_map-append}
use Rattle.std.proofs.lemmas.Grind.{flat_map-append}
use Rattle.must_call.specs.declared.status.Status3.{Status3}
use Rattle.must_call.specs.declared.items.Completion.{Completion}
use Rattle.must_call.specs.declared.call.Call.{Call}
use Rattle.must_call.specs.Values.{TypedOutput}
use Rattle.must_call.specs.Bodies.{given_of}
use Rattle.must_rules.specs.Making.{picked}
use Rattle.must_messages.specs.PlainLaws.{no_some}
use Rattle.must_rules.specs.Fates.{Completed, completed, each_from, at_index, own_status, status_among}
use Rattle.must_hold.specs.declared.completed.Recorded.{Recorded}
use Rattle.must_hold.specs.Told.{recorded_seen}
use Rattle.must_hold.proofs.Giving.{drop_at, drop_none}

pub get_of : {X : Type 0} (xs : List X) (i : ℕ) (d : X) → i < length xs → slice_get xs i ≡ Some (get_or xs i d)
get_of [] i d h = absurd (omega arith)
get_of (x ∷ xs) zero d h = refl
get_of (x ∷ xs) (suc i) d h = get_of xs i d (omega arith)

pub get_map : {X Y : Type 0} (f : X → Y) (xs : List X) (i : ℕ) (x : X) → slice_get xs i ≡ Some x → slice_get (map f xs) i ≡ Some (f x)
get_map f [] i x e = no_some x e
get_map f (y ∷ xs) zero x e = ap (option_map f) e
get_map f (y ∷ xs) (suc i) x e = get_map f xs i x e

pub take_at : {X : Type 0} (xs : List X) (i : ℕ) (x : X) → slice_get xs i ≡ Some x → take (suc i) xs ≡ take i xs ++ x ∷ []
take_at [] i x e = no_some x e
take_at {X} (y ∷ xs) zero x e = ap (λ (o : Option X). cons_option o []) e
take_at {X} (y ∷ xs) (suc i) x e = ap (λ (ys : List X). y ∷ ys) (take_at xs i x e)

pub next : (i j : ℕ) → j ≡ i + 1 → j ≡ suc i
next i j e = omega (arith, e)

-- ---- one status for each request

abbrev pub IsEach : List ℕ → List Status3 → ℕ → List Recorded → Type 0
IsEach requests statuses i told = map recorded_seen told ++ each_from i (drop i requests) (drop i statuses) ≡ each_from 0 requests statuses

pub each_next : (requests : List ℕ) (statuses : List Status3) (i j : ℕ) (told new : List Recorded) (one : Recorded) → slice_get requests i ≡ Some one.request → slice_get statuses i ≡ Some one.status → one.index ≡ i → j ≡ suc i
    → new ≡ told ++ one ∷ [] → IsEach requests statuses i told → IsEach requests statuses j new
each_next requests statuses i j told new one request status index more e before =
    ap (λ (k : ℕ). map recorded_seen new ++ each_from k (drop k requests) (drop k statuses)) more
    ∙ ap (λ (ts : List Recorded). map recorded_seen ts ++ each_from (suc i) (drop (suc i) requests) (drop (suc i) statuses)) e
    ∙ ap (λ (cs : List Completed). cs ++ each_from (suc i) (drop (suc i) requests) (drop (suc i) statuses)) (map-append recorded_seen told (one ∷ []))
    ∙ append_assoc (map recorded_seen told) (recorded_seen one ∷ []) (each_from (suc i) (drop (suc i) requests) (drop (suc i) statuses))
    ∙ ap (λ (k : ℕ). map recorded_seen told ++ completed k one.status one.request ∷ each_from (suc i) (drop (suc i) requests) (drop (suc i) statuses)) index
    ∙ ap (λ (rs : List ℕ). map recorded_seen told ++ each_from i rs (one.status ∷ drop (suc i) statuses)) (sym (drop_at requests i one.request request))
    ∙ ap (λ (ss : List Status3). map recorded_seen told ++ each_from i (drop i requests) ss) (sym (drop_at statuses i one.status status))
    ∙ before

none_of_requests : (i : ℕ) (rs : List ℕ) (ss : List Status3) → rs ≡ [] → each_from i rs ss ≡ []
none_of_requests i rs ss e = ap (λ (xs : List ℕ). each_from i xs ss) e

none_of_statuses : (i : ℕ) (rs : List ℕ) (ss : List Status3) → ss ≡ [] → each_from i rs ss ≡ []
none_of_statuses i rs ss e = ap (each_from i rs) e ∙ at rs
  where
    at : (xs : List ℕ) → each_from i xs [] ≡ []
    at [] = refl
    at (x ∷ xs) = refl

ends : (requests : List ℕ) (statuses : List Status3) (i : ℕ) (told : List Recorded) → IsEach requests statuses i told → each_from i (drop i requests) (drop i statuses) ≡ [] → map recorded_seen told ≡ each_from 0 requests statuses
ends requests statuses i told before none = sym (append-nil (map recorded_seen told)) ∙ sym (ap (λ (cs : List Completed). map recorded_seen told ++ cs) none) ∙ before

pub no_request : (requests : List ℕ) (statuses : List Status3) (i : ℕ) (told : List Recorded) → IsEach requests statuses i told → slice_get requests i ≡ None → map recorded_seen told ≡ each_from 0 requests statuses
no_request requests statuses i told before e = ends requests statuses i told before (none_of_requests i (drop i requests) (drop i statuses) (drop_none requests i e))

pub no_status : (requests : List ℕ) (statuses : List Status3) (i : ℕ) (told : List Recorded) → IsEach requests statuses i told → slice_get statuses i ≡ None → map recorded_seen told ≡ each_from 0 requests statuses
no_status requests statuses i told before e = ends requests statuses i told before (none_of_statuses i (drop i requests) (drop i statuses) (drop_none statuses i e))

-- ---- some by their indices

pub index_pushed : (requests : List ℕ) (status : Status3) (index : ℕ) (told new : List Recorded) (request : ℕ) → slice_get requests index ≡ Some request → new ≡ told ++ record { index = index; request = request; status = status } ∷ []
    → map recorded_seen new ≡ map recorded_seen told ++ at_index requests status index
index_pushed requests status index told new request there e =
    ap (map recorded_seen) e ∙ map-append recorded_seen told (record { index = index; request = request; status = status } ∷ [])
    ∙ ap (λ (o : Option ℕ). map recorded_seen told ++ option_to_list (option_map (completed index status) o)) (sym there)

pub index_past : (requests : List ℕ) (status : Status3) (index : ℕ) (told : List Recorded) → slice_get requests index ≡ None → map recorded_seen told ≡ map recorded_seen told ++ at_index requests status index
index_past requests status index told none =
    sym (append-nil (map recorded_seen told)) ∙ ap (λ (o : Option ℕ). map recorded_seen told ++ option_to_list (option_map (completed index status) o)) (sym none)

abbrev pub at_completion : List ℕ → Completion → List Completed
at_completion requests c = at_index requests c.status c.index

pub picked_next : (requests : List ℕ) (completions : List Completion) (j : ℕ) (d : Completion) (old new : List Recorded) → j < length completions → map recorded_seen old ≡ flat_map (at_completion requests) (take j completions)
    → map recorded_seen new ≡ map recorded_seen old ++ at_completion requests (get_or completions j d) → map recorded_seen new ≡ flat_map (at_completion requests) (take (j + 1) completions)
picked_next requests completions j d old new within before e =
    let c = get_or completions j d in
    e ∙ ap (λ (cs : List Completed). cs ++ at_completion requests c) before
    ∙ ap (λ (cs : List Completed). flat_map (at_completion requests) (take j completions) ++ cs) (sym (append-nil (at_completion requests c)))
    ∙ sym (flat_map-append (at_completion requests) (take j completions) (c ∷ []))
    ∙ ap (flat_map (at_completion requests)) (sym (take_more completions j d within))

one_picked : (requests : List ℕ) (c : Completion) → picked requests (c ∷ []) ≡ option_to_list (slice_get requests c.index)
one_picked requests c = at (slice_get requests c.index)
  where
    at : (o : Option ℕ) → cons_option o [] ≡ option_to_list o
    at None = refl
    at (Some n) = refl

pub named_next : (requests : List ℕ) (completions : List Completion) (j : ℕ) (d : Completion) (old new : List ℕ) → j < length completions → old ≡ picked requests (take j completions)
    → new ≡ old ++ option_to_list (slice_get requests (get_or completions j d).index) → new ≡ picked requests (take (j + 1) completions)
named_next requests completions j d old new within before e =
    let c = get_or completions j d in
    e ∙ ap (λ (l : List ℕ). l ++ option_to_list (slice_get requests c.index)) before
    ∙ ap (λ (l : List ℕ). picked requests (take j completions) ++ l) (sym (one_picked requests c))
    ∙ sym (filter_map-append (λ (k : Completion). slice_get requests k.index) (take j completions) (c ∷ []))
    ∙ ap (picked requests) (sym (take_more completions j d within))

-- ---- a call's own status

pub own_told : (call : Call) (o : Option TypedOutput) → call.returned ≡ Rattle.std.proofs.Common.true → o ≡ given_of call.body → status_among o ≡ own_status call
own_told call o returned e = ap status_among e ∙ ap (λ b. Rattle.std.proofs.Common.cond b (status_among (given_of call.body)) None) (sym returned)
