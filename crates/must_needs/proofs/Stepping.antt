-- The alternatives of one call more.
use Rattle.std.proofs.Common.{◌≡◌, ℕ, zero, suc, ◌+◌, ◌<◌, ◌≤◌, ◌==◌, nat_eq, Bool, true, false, cond, ◌&&◌, ◌||◌, inl, inr, List, [], ◌∷◌, ◌++◌, length, take, Option, Some, None, refl, ap, sym, subst, ◌∙◌, arith, length-append, append_assoc}
use Rattle.std.specs.Prelude.{◌⊎◌, map, slice_get}
use Rattle.std.specs.List.{AllByRecursion}
use Rattle.std.proofs.lemmas.Bool.{eqb-true, eqb-false, ne_eqb}
use Rattle.std.proofs.lemmas.List.{map-append, length-map}
use Rattle.std.proofs.lemmas.Option.{slice_get_past}
use Rattle.std.specs.Global.{Vec}
use Rattle.must_call.specs.declared.body.Body.{Body}
use Rattle.must_call.specs.declared.body.Body.TheVariants as body
use Rattle.must_call.specs.declared.point.Point.{Point as Pointed}
use Rattle.must_call.specs.declared.object.Object.{Object}
use Rattle.must_call.specs.declared.collective.Collective.{Collective}
use Rattle.must_call.specs.declared.call.Call.{Call}
use Rattle.must_call.specs.Fields.{output}
use Rattle.must_call.specs.Kinds.{kind_of}
use Rattle.must_entry.specs.declared.want.Want.{Want}
use Rattle.must_rules.specs.Rank.{Rank}
use Rattle.must_rules.specs.LifeLaws.{made_now}
use Rattle.must_rules.specs.Making.{made_by}
use Rattle.must_rules.specs.Numbered.{AreNumbered}
use Rattle.must_rules.specs.Facts.{Facts}
use Rattle.must_rules.specs.Clear.{is_clear}
use Rattle.must_rules.specs.Known.{facts_of, clear_behind}
use Rattle.must_rules.specs.Turns.{Turn, turn, turns}
use Rattle.must_rules.specs.Operations.{Operation, operations_at, operations_of}
use Rattle.must_messages.specs.TurnLaws.{turns_more}
use Rattle.must_messages.specs.OperationLaws.{operations_more}
use Rattle.must_messages.specs.CallNeeds.{Need, Needing, together, one_way, at_once, wave_wants, answers_request, clear_ways, ways_by}
use Rattle.must_needs.specs.declared.names.Name.{Name}
use Rattle.must_needs.specs.declared.names.Name.TheVariants.{Operation as Numbered}
use Rattle.must_needs.specs.declared.names.Ways.{Ways}
use Rattle.must_needs.specs.declared.names.Ways.TheVariants.{All}
use Rattle.must_needs.specs.declared.needs.Needs.{Needs}
use Rattle.must_needs.specs.Naming.{need_told, name_need, ways_named, IsThere, AreThere, waits_started, AreStarted, Tells}
use Rattle.must_needs.specs.Stating.{numbers_from, AreNamed, AreWays}
use Rattle.must_needs.proofs.Joining.{all_join, all_weaker, map_same, are_there_more, ways_longer, few_more, are_ways_more}

-- ---- operations by their numbers

numbers_last : (first count : ℕ) → numbers_from first (suc count) ≡ numbers_from first count ++ Numbered (first + count) ∷ []
numbers_last first zero = ap (λ (n : ℕ). Numbered n ∷ []) (let e : first ≡ first + 0 = omega arith in e)
numbers_last first (suc count) =
    ap (λ (ns : List Name). Numbered first ∷ ns) (numbers_last (suc first) count)
    ∙ ap (λ (n : ℕ). Numbered first ∷ numbers_from (suc first) count ++ Numbered n ∷ []) (let e : suc first + count ≡ first + suc count = omega arith in e)

-- one operation more
pub numbers_more : (first count : ℕ) → numbers_from first (count + 1) ≡ numbers_from first count ++ Numbered (first + count) ∷ []
numbers_more first count = ap (numbers_from first) (let e : count + 1 ≡ suc count = omega arith in e) ∙ numbers_last first count

numbers_there : (first count total : ℕ) → first + count ≤ total → AllByRecursion (IsThere total) (numbers_from first count)
numbers_there first zero total few = tt
numbers_there first (suc count) total few = (omega (arith, few), numbers_there (suc first) count total (omega (arith, few)))

slice_at : {X : Type 0} (xs : List X) (y : X) (ys : List X) → slice_get (xs ++ y ∷ ys) (length xs) ≡ Some y
slice_at [] y ys = refl
slice_at (x ∷ xs) y ys = slice_at xs y ys

numbers_needs : (rank : ℕ) (xs ys : List Need) → map (name_need rank (xs ++ ys)) (numbers_from (length xs) (length ys)) ≡ ys
numbers_needs rank xs [] = refl
numbers_needs rank xs (y ∷ ys) =
    ap (λ (o : Option Need). need_told o ∷ map (name_need rank (xs ++ y ∷ ys)) (numbers_from (suc (length xs)) (length ys))) (slice_at xs y ys)
    ∙ ap (λ (n : ℕ). y ∷ map (name_need rank (xs ++ y ∷ ys)) (numbers_from n (length ys))) (let e : suc (length xs) ≡ length (xs ++ y ∷ []) = omega (arith, length-append xs (y ∷ [])) in e)
    ∙ ap (λ (ns : List Need). y ∷ map (name_need rank ns) (numbers_from (length (xs ++ y ∷ [])) (length ys))) (sym (append_assoc xs (y ∷ []) ys))
    ∙ ap (λ (ns : List Need). y ∷ ns) (numbers_needs rank (xs ++ y ∷ []) ys)

numbers_stand : (rank : ℕ) (need : Needing) (front ops : List Operation) → map (name_need rank (map need (front ++ ops))) (numbers_from (length front) (length ops)) ≡ map need ops
numbers_stand rank need front ops =
    ap (λ (ns : List Need). map (name_need rank ns) (numbers_from (length front) (length ops))) (map-append need front ops)
    ∙ (λ i. map (name_need rank (map need front ++ map need ops)) (numbers_from (sym (length-map front need) i) (sym (length-map ops need) i)))
    ∙ numbers_needs rank (map need front) (map need ops)

-- ---- alternatives of a call

pub ways_same : (r : Rank) (ops : List Operation) (f g : Needing → List (List Want)) (w : Ways) → ((need : Needing) → f need ≡ g need) → AreWays r ops f w → AreWays r ops g w
ways_same r ops f g w same a = record { there = a.there; ways_are = λ need. a.ways_are need ∙ same need }

module _ (r : Rank) (calls : List Call) (call : Call) where
  abbrev pub longer : List Operation
  longer = operations_of r (calls ++ call ∷ [])

  -- alternatives stay over the operations that the call begins
  pub ways_later : (f : Needing → List (List Want)) (w : Ways) → AreWays r (operations_of r calls) f w → AreWays r longer f w
  ways_later f w a = subst (λ (ops : List Operation). AreWays r ops f w) (sym (operations_more r calls call)) (are_ways_more r (operations_of r calls) (operations_at r calls call) f w a)

  -- the operations that are done in a call
  pub point_named : (p : Pointed) (first count : ℕ) (names : List Name) → call.body ≡ body.Point p → answers_request (output (kind_of (body.Point p))) ≡ false → first ≡ length (operations_of r calls) → count ≡ length (operations_at r calls call)
      → names ≡ numbers_from first count → AreNamed r longer (λ need. map need (operations_at r calls call)) names
  point_named p first count names is plain begins many e = record {
    there = subst (AllByRecursion (IsThere (length longer))) (sym e) (numbers_there first count (length longer)
        (let len : length longer ≡ length (operations_of r calls) + length (operations_at r calls call) = ap length (operations_more r calls call) ∙ length-append (operations_of r calls) (operations_at r calls call) in omega (arith, begins, many, len)));
    needs_are = λ need.
        ap (map (name_need r.rank (map need longer))) (e ∙ (λ i. numbers_from (begins i) (many i)))
        ∙ ap (λ (ops : List Operation). map (name_need r.rank (map need ops)) (numbers_from (length (operations_of r calls)) (length (operations_at r calls call)))) (operations_more r calls call)
        ∙ numbers_stand r.rank need (operations_of r calls) (operations_at r calls call);
  }

  pub point_need : (p : Pointed) (need : Needing) → call.body ≡ body.Point p → answers_request (output (kind_of (body.Point p))) ≡ false
      → one_way (together (map need (operations_at r calls call))) ≡ clear_ways r need calls call call.body
  point_need p need is plain =
      ap (λ (a : Bool). one_way (together (map need (cond a [] (operations_at r calls call))))) (sym plain ∙ ap (λ (b : Body). answers_request (output (kind_of b))) (sym is))
      ∙ ap (clear_ways r need calls call) (sym is)

  -- a blocking collective call waits for its wave
  pub wave_need : (need : Needing) → ((o : Object) × (call.body ≡ body.Object o)) ⊎ ((c : Collective) × (call.body ≡ body.Collective c)) → wave_wants r calls call ∷ [] ≡ clear_ways r need calls call call.body
  wave_need need (inl is) = ap (clear_ways r need calls call) (sym is.1)
  wave_need need (inr is) = ap (clear_ways r need calls call) (sym is.1)

  pub clear_seen : (clear : Bool) (facts : Facts) → facts ≡ facts_of r calls → clear ≡ is_clear facts call.body → clear ≡ clear_behind r calls call
  unfolding clear_behind
  clear_seen clear facts same e = e ∙ ap (λ (f : Facts). is_clear f call.body) same

  -- a clear call has the alternatives of its body, any other waits for nothing
  pub clear_by : (need : Needing) (clear : Bool) → clear ≡ clear_behind r calls call → ways_by r need calls call ≡ cond clear (clear_ways r need calls call call.body) at_once
  unfolding ways_by
  clear_by need clear e = ap (λ (b : Bool). cond b (clear_ways r need calls call call.body) at_once) (sym e)

  pub none_waited : (names : Vec Name) → names.items ≡ [] → clear_behind r calls call ≡ false → AreWays r longer (λ need. ways_by r need calls call) (All names)
  none_waited names e unclear = record {
    there = subst (AllByRecursion (IsThere (length longer))) (sym e) tt;
    ways_are = λ need. ap (λ (ns : List Name). one_way (together (map (name_need r.rank (map need longer)) ns))) e ∙ sym (clear_by need false (sym unclear));
  }

-- ---- one call more

pub numbered_front : (next : ℕ) (calls others : List Call) → AreNumbered next (calls ++ others) → AreNumbered next calls
numbered_front next [] others n = tt
numbered_front next (c ∷ calls) others n = (n.0, numbered_front (next + made_now (made_by c)) calls others n.1)

eq_next : (k n : ℕ) → (suc k == suc n) ≡ (k == n)
eq_next k n = at (k == n) refl
  where
    at : (b : Bool) → (k == n) ≡ b → (suc k == suc n) ≡ b
    at true e = Rattle.std.proofs.Common.eq-eqb (suc k) (suc n) (ap suc (eqb-true k n e))
    at false e = ne_eqb (suc k) (suc n) (λ same. eqb-false k n e (omega (arith, same)))

-- what is said of a call and those before it, over one call more
place_more : (f : List Call → Option Call → Bool) → ((cs : List Call) → f cs None ≡ false) → (rest : List Call) (call : Call) (k : ℕ)
    → f (take k (rest ++ call ∷ [])) (slice_get (rest ++ call ∷ []) k) ≡ cond (k == length rest) (f rest (Some call)) (f (take k rest) (slice_get rest k))
place_more f none [] call zero = refl
place_more f none [] call (suc k) =
    none (call ∷ take k []) ∙ sym (none []) ∙ ap (λ (b : Bool). cond b (f [] (Some call)) (f [] None)) (sym (ne_eqb (suc k) 0 (λ e. omega (arith, e))))
place_more f none (c ∷ rest) call zero = ap (λ (b : Bool). cond b (f (c ∷ rest) (Some call)) (f [] (Some c))) (sym (ne_eqb 0 (suc (length rest)) (λ e. omega (arith, e))))
place_more f none (c ∷ rest) call (suc k) =
    place_more (λ cs o. f (c ∷ cs) o) (λ cs. none (c ∷ cs)) rest call k
    ∙ ap (λ (b : Bool). cond b (f (c ∷ rest) (Some call)) (f (c ∷ take k rest) (slice_get rest k))) (sym (eq_next k (length rest)))

module _ (r : Rank) (calls : List Call) (call : Call) where
  started_by : (k : ℕ) (old waits : Bool) → waits ≡ waits_started r calls (Some call) → old ≡ waits_started r (take k calls) (slice_get calls k) → (b : Bool) → (k == length calls) ≡ b
      → (old || (waits && b)) ≡ cond b (waits_started r calls (Some call)) (waits_started r (take k calls) (slice_get calls k))
  started_by k old waits w e true at =
      let past : slice_get calls k ≡ None = slice_get_past calls k (let same = eqb-true k (length calls) at in omega (arith, same)) in
      let none : old ≡ false = e ∙ ap (waits_started r (take k calls)) past in
      ap (λ (b : Bool). b || (waits && true)) none ∙ and_true waits ∙ w
    where
      and_true : (b : Bool) → (b && true) ≡ b
      and_true true = refl
      and_true false = refl
  started_by k old waits w e false at = neither old waits ∙ e
    where
      neither : (a b : Bool) → (a || (b && false)) ≡ a
      neither true b = refl
      neither false true = refl
      neither false false = refl

  pub started_more : (old new : ℕ → Bool) (waits : Bool) → ((k : ℕ) → old k ≡ waits_started r (take k calls) (slice_get calls k)) → waits ≡ waits_started r calls (Some call)
      → ((k : ℕ) → new k ≡ (old k || (waits && nat_eq k (length calls)))) → (k : ℕ) → new k ≡ waits_started r (take k (calls ++ call ∷ [])) (slice_get (calls ++ call ∷ []) k)
  started_more old new waits are w e k =
      e k ∙ started_by k (old k) waits w (are k) (k == length calls) refl ∙ sym (place_more (waits_started r) (λ cs. refl) calls call k)

  earlier_ways : (need : Needing) (ws : List Ways) → AllByRecursion (AreThere (length (operations_of r calls))) ws
      → map (ways_named r.rank (map need (operations_of r (calls ++ call ∷ [])))) ws ≡ map (ways_named r.rank (map need (operations_of r calls))) ws
  earlier_ways need ws there =
      ap (λ (ops : List Operation). map (ways_named r.rank (map need ops)) ws) (operations_more r calls call)
      ∙ map_same (AreThere (length (operations_of r calls))) (ways_named r.rank (map need (operations_of r calls ++ operations_at r calls call))) (ways_named r.rank (map need (operations_of r calls)))
      (λ w there. ways_longer r.rank need (operations_of r calls) (operations_at r calls call) w there) ws there

  pub tells_more : (old new : Needs) (w : Ways) → Tells r calls old → new.calls.items ≡ old.calls.items ++ w ∷ [] → AreWays r (operations_of r (calls ++ call ∷ [])) (λ need. ways_by r need calls call) w
      → AreStarted r (calls ++ call ∷ []) new.started → Tells r (calls ++ call ∷ []) new
  tells_more old new w t e a started =
      let few : length (operations_of r calls) ≤ length (operations_of r (calls ++ call ∷ [])) =
      subst (λ (ops : List Operation). length (operations_of r calls) ≤ length ops) (sym (operations_more r calls call)) (few_more (operations_of r calls) (operations_at r calls call)) in
      record {
        there = subst (AllByRecursion (AreThere (length (operations_of r (calls ++ call ∷ []))))) (sym e)
            (all_join (AreThere (length (operations_of r (calls ++ call ∷ [])))) old.calls.items (w ∷ [])
            (all_weaker (AreThere (length (operations_of r calls))) (AreThere (length (operations_of r (calls ++ call ∷ []))))
            (are_there_more (length (operations_of r calls)) (length (operations_of r (calls ++ call ∷ []))) few) old.calls.items t.there)
            (a.there, tt));
        ways = λ need.
            let f : Ways → List (List Want) = ways_named r.rank (map need (operations_of r (calls ++ call ∷ []))) in
            let g : Turn → List (List Want) = λ t. ways_by r need t.earlier t.call in
            ap (map f) e
            ∙ map-append f old.calls.items (w ∷ [])
            ∙ (λ i. (earlier_ways need old.calls.items t.there ∙ t.ways need) i ++ a.ways_are need i ∷ [])
            ∙ sym (map-append g (turns calls) (turn calls call ∷ []))
            ∙ ap (map g) (sym (turns_more calls call));
        started = started;
      }
