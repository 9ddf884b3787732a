-- The needs of a rank's calls: which operations each call names, and one call more.
use Rattle.std.proofs.Common.{◌≡◌, ℕ, ◌<◌, Bool, true, false, cond, List, [], ◌∷◌, ◌++◌, length, take, Option, Some, None, refl, ap, ◌∙◌, length-append, arith}
use Rattle.std.specs.Prelude.{map, option_map, slice_get}
use Rattle.std.specs.List.{AllByRecursion, cons_option}
use Rattle.must_call.specs.declared.finish.Finish.{Finish}
use Rattle.must_call.specs.declared.finish.Finish.TheVariants.{Wait, Waitall, Waitany, Waitsome}
use Rattle.must_call.specs.declared.body.Body.{Body}
use Rattle.must_call.specs.declared.body.Body.TheVariants as body
use Rattle.must_call.specs.declared.call.Call.{Call}
use Rattle.must_entry.specs.Lawful.{Rise}
use Rattle.must_rules.specs.Rank.{Rank}
use Rattle.must_rules.specs.Starts.{start_of}
use Rattle.must_rules.specs.Known.{clear_behind}
use Rattle.must_rules.specs.Operations.{Operation}
use Rattle.must_rules.specs.Fates.{fate_of}
use Rattle.must_messages.specs.ItemLaws.{need_stays}
use Rattle.must_rules.specs.Statuses.{under_way}
use Rattle.must_messages.specs.Holding.{is_settled, under_way_among, named_by}
use Rattle.must_messages.specs.CallNeeds.{Need, Needing, together, one_way, any_way, begun_need, is_started_collective, wave_wants, start_need, request_need, request_needs, done_here, clear_ways, ways_by, ways_of, operation_need, waits_of, needs_of}
use Rattle.must_rules.specs.Turns.{Turn, turn, turns_from, turns}
use Rattle.must_messages.specs.TurnLaws.{turns_more}
use Rattle.std.proofs.lemmas.List.{map-append}

-- ---- which operations a call names

-- these operations need the same
abbrev pub NeedAlike : Needing → Needing → List Operation → Type 0
NeedAlike need other ops = AllByRecursion (λ op. need op ≡ other op) ops

map_alike : (need other : Needing) (ops : List Operation) → NeedAlike need other ops → map need ops ≡ map other ops
map_alike need other [] same = refl
map_alike need other (op ∷ ops) same = ap (λ (n : Need). n ∷ map need ops) same.0 ∙ ap (λ (ns : List Need). other op ∷ ns) (map_alike need other ops same.1)

-- the need of what one operation began, if it is there
begun_alike : (need other : Needing) (op : Option Operation) → NeedAlike need other (cons_option op []) → begun_need need op ≡ begun_need other op
begun_alike need other None same = refl
begun_alike need other (Some op) same = same.0

start_alike : (r : Rank) (need other : Needing) (earlier : List Call) (k : ℕ) (op : Option Operation) (call : Option Call) → NeedAlike need other (cons_option op [])
    → start_need r need earlier k op call ≡ start_need r other earlier k op call
start_alike r need other earlier k op None same = refl
start_alike r need other earlier k op (Some call) same =
    ap (λ (n : Need). cond (is_started_collective call.body) (Some (wave_wants r (take k earlier) call)) n) (begun_alike need other op same)

request_alike : (r : Rank) (need other : Needing) (earlier : List Call) (request : ℕ) → NeedAlike need other (cons_option (under_way r earlier request) [])
    → request_need r need earlier request ≡ request_need r other earlier request
request_alike r need other earlier request same = at (start_of (clear_behind r) earlier request)
  where
    at : (start : Option ℕ) → option_map (λ k. start_need r need earlier k (under_way r earlier request) (slice_get earlier k)) start
        ≡ option_map (λ k. start_need r other earlier k (under_way r earlier request) (slice_get earlier k)) start
    at None = refl
    at (Some k) = ap Some (start_alike r need other earlier k (under_way r earlier request) (slice_get earlier k) same)

first_alike : (need other : Needing) (op : Option Operation) (ops : List Operation) → NeedAlike need other (cons_option op ops) → NeedAlike need other (cons_option op [])
first_alike need other None ops same = tt
first_alike need other (Some op) ops same = (same.0, tt)

others_alike : (need other : Needing) (op : Option Operation) (ops : List Operation) → NeedAlike need other (cons_option op ops) → NeedAlike need other ops
others_alike need other None ops same = same
others_alike need other (Some op) ops same = same.1

requests_alike : (r : Rank) (need other : Needing) (earlier : List Call) (requests : List ℕ) → NeedAlike need other (under_way_among r earlier requests)
    → request_needs r need earlier requests ≡ request_needs r other earlier requests
requests_alike r need other earlier [] same = refl
requests_alike r need other earlier (request ∷ requests) same =
    ap (λ (n : Option Need). cons_option n (request_needs r need earlier requests))
    (request_alike r need other earlier request (first_alike need other (under_way r earlier request) (under_way_among r earlier requests) same))
    ∙ ap (λ (ns : List Need). cons_option (request_need r other earlier request) ns)
    (requests_alike r need other earlier requests (others_alike need other (under_way r earlier request) (under_way_among r earlier requests) same))

finish_alike : (r : Rank) (need other : Needing) (earlier : List Call) (call : Call) (f : Finish) → NeedAlike need other (named_by r earlier call (body.Finish f))
    → clear_ways r need earlier call (body.Finish f) ≡ clear_ways r other earlier call (body.Finish f)
finish_alike r need other earlier call (Wait request status) same = ap (λ (ns : List Need). one_way (together ns)) (requests_alike r need other earlier (request ∷ []) same)
finish_alike r need other earlier call (Waitall requests statuses) same = ap (λ (ns : List Need). one_way (together ns)) (requests_alike r need other earlier requests same)
finish_alike r need other earlier call (Waitany requests choice) same = ap any_way (requests_alike r need other earlier requests same)
finish_alike r need other earlier call (Waitsome requests completions) same = ap any_way (requests_alike r need other earlier requests same)
finish_alike r need other earlier call _ same = refl

clear_alike : (r : Rank) (need other : Needing) (earlier : List Call) (call : Call) (b : Body) → NeedAlike need other (named_by r earlier call b)
    → clear_ways r need earlier call b ≡ clear_ways r other earlier call b
clear_alike r need other earlier call (body.Point p) same = ap (λ (ns : List Need). one_way (together ns)) (map_alike need other (done_here r earlier call) same)
clear_alike r need other earlier call (body.Finish f) same = finish_alike r need other earlier call f same
clear_alike r need other earlier call _ same = refl

-- a call waits by the needs of the operations that it names, and of no others
pub ways_alike : (r : Rank) (need other : Needing) (earlier : List Call) (call : Call) → NeedAlike need other (named_by r earlier call call.body)
    → ways_by r need earlier call ≡ ways_by r other earlier call
unfolding ways_by
ways_alike r need other earlier call same = at (clear_behind r earlier call)
  where
    at : (clear : Bool) → cond clear (clear_ways r need earlier call call.body) (([] ∷ [])) ≡ cond clear (clear_ways r other earlier call call.body) (([] ∷ []))
    at true = clear_alike r need other earlier call call.body same
    at false = refl

-- ---- settled needs

-- these operations were begun by these calls, and are settled
abbrev pub AreSettled : List Call → List Operation → Type 0
AreSettled calls ops = AllByRecursion (λ op. (op.call < length calls) × (is_settled (fate_of calls op) ≡ true)) ops

needs_stay : (r : Rank) (calls : List Call) (call : Call) (ops : List Operation) → AreSettled calls ops → NeedAlike (operation_need r (calls ++ call ∷ [])) (operation_need r calls) ops
needs_stay r calls call [] settled = tt
needs_stay r calls call (op ∷ ops) settled = (need_stays r calls call op settled.0.0 settled.0.1, needs_stay r calls call ops settled.1)

-- the alternatives of a call stay once all operations that it names are settled
pub ways_stay : (r : Rank) (calls : List Call) (more : Call) (earlier : List Call) (call : Call) → AreSettled calls (named_by r earlier call call.body)
    → ways_of r (calls ++ more ∷ []) earlier call ≡ ways_of r calls earlier call
ways_stay r calls more earlier call settled =
    ways_alike r (operation_need r (calls ++ more ∷ [])) (operation_need r calls) earlier call (needs_stay r calls more (named_by r earlier call call.body) settled)

-- ---- one call more

-- the need of one call more stands behind the others
pub needs_more : (r : Rank) (calls : List Call) (call : Call)
    → needs_of r (calls ++ call ∷ []) ≡ map (waits_of r (calls ++ call ∷ [])) (turns calls) ++ waits_of r (calls ++ call ∷ []) (turn calls call) ∷ []
needs_more r calls call =
    ap (map (waits_of r (calls ++ call ∷ []))) (turns_more calls call)
    ∙ map-append (waits_of r (calls ++ call ∷ [])) (turns calls) (turn calls call ∷ [])

-- ---- in order

after : (r : Rank) (calls : List Call) (n : ℕ) (ts : List Turn) → AllByRecursion (λ t. n < length t.earlier) ts
    → AllByRecursion (λ q. r.rank ≡ q.rank → n < q.call) (map (λ w. w.place) (map (waits_of r calls) ts))
after r calls n [] all = tt
after r calls n (t ∷ ts) all = ((λ same. all.0), after r calls n ts all.1)

behind : (n : ℕ) (earlier calls : List Call) → n < length earlier → AllByRecursion (λ t. n < length t.earlier) (turns_from earlier calls)
behind n earlier [] h = tt
behind n earlier (c ∷ calls) h = (h, behind n (earlier ++ c ∷ []) calls (omega (arith, h, length-append earlier (c ∷ []))))

rise_from : (r : Rank) (calls earlier rest : List Call) → Rise (map (λ w. w.place) (map (waits_of r calls) (turns_from earlier rest)))
rise_from r calls earlier [] = tt
rise_from r calls earlier (c ∷ rest) = (
  after r calls (length earlier) (turns_from (earlier ++ c ∷ []) rest) (behind (length earlier) (earlier ++ c ∷ []) rest (omega (arith, length-append earlier (c ∷ [])))),
  rise_from r calls (earlier ++ c ∷ []) rest,
)

-- the needs of a rank rise by call, as nodes want
pub needs_rise : (r : Rank) (calls : List Call) → Rise (map (λ w. w.place) (needs_of r calls))
needs_rise r calls = rise_from r calls [] calls
