-- What the completion of a request waits for.
use Rattle.std.proofs.Common.{◌≡◌, ℕ, ◌+◌, ◌<◌, Bool, true, false, cond, ◌&&◌, List, [], ◌∷◌, ◌++◌, length, take, get_or, Option, Some, None, refl, ap, sym, subst, ◌∙◌, arith, ltb-true}
use Rattle.std.specs.Prelude.{ℤ, find, nat_lt, map, filter_map, option_map, option_and_then, slice_get}
use Rattle.std.specs.List.{cons_option}
use Rattle.std.specs.Option.{option_to_list}
use Rattle.std.proofs.lemmas.Bool.{ltb-false}
use Rattle.std.proofs.lemmas.List.{take_more, length-take-le}
use Rattle.std.proofs.lemmas.List.Elements.{filter_map-append}
use Rattle.std.proofs.lemmas.Option.{slice_get-map, slice_get_within, slice_get_past}
use Rattle.must_call.specs.declared.field.Side.{Side}
use Rattle.must_call.specs.declared.field.Side.TheVariants.{Send, Receive}
use Rattle.must_call.specs.declared.field.Field.TheVariants.{Buffer}
use Rattle.must_call.specs.declared.started.Started.{Started as StartedCall}
use Rattle.must_call.specs.declared.started.Started.TheVariants.{Ibarrier}
use Rattle.must_call.specs.declared.body.Body.{Body}
use Rattle.must_call.specs.declared.body.Body.TheVariants.{Started}
use Rattle.must_call.specs.declared.call.Call.{Call}
use Rattle.must_call.specs.Kinds.{kind_of}
use Rattle.must_call.specs.Bodies.{inputs_of}
use Rattle.must_entry.specs.declared.want.Want.TheVariants as want
use Rattle.must_group.specs.Names.{Name as CommName}
use Rattle.must_rules.specs.Rank.{Rank}
use Rattle.must_rules.specs.ArgumentHandles.{StartOf}
use Rattle.must_rules.specs.Starts.{start_of}
use Rattle.must_rules.specs.Significant.{first_told, or_else}
use Rattle.must_rules.specs.Breaches.{part_in}
use Rattle.must_rules.specs.Making.{is_persistent_kind, started_of}
use Rattle.must_rules.specs.UsableParts.{peer_in}
use Rattle.must_rules.specs.Communicators.{comm_named, usable_name}
use Rattle.must_rules.specs.Known.{clear_behind}
use Rattle.must_rules.specs.Parts.{with_both, numbered}
use Rattle.must_rules.specs.PendingOperations.{parts_behind, begun_request}
use Rattle.must_rules.specs.Operations.{Envelope, Message, Operation, operation, message, action_of, tag_in, envelope_by, envelope_on, message_of, message_probed, waits_for_probe, message_at, begun_here, started_from, operations_at, operations_by, operations_in, operations_of}
use Rattle.must_rules.specs.Statuses.{is_done_with, begun_in, under_way}
use Rattle.must_messages.specs.PlainLaws.{both}
use Rattle.must_messages.specs.CallNeeds.{Need, Needing, begun_need, is_started_collective, waits_for_wave, wave_wants, start_need, request_need, request_needs}
use Rattle.must_hold.specs.Ended.{place_at}
use Rattle.must_needs.specs.declared.names.Name.{Name}
use Rattle.must_needs.specs.declared.names.Name.TheVariants.{Nothing, Operation as Numbered, Wave}
use Rattle.must_needs.specs.Naming.{need_told, name_need, waits_started, IsThere}
use Rattle.must_needs.specs.Stating.{name_of, AreNamed}
use Rattle.must_needs.proofs.Joining.{named_join}

-- ---- a nonblocking collective call begins no operation

tagless : (s : Side) (c : StartedCall) → first_told (tag_in s) (inputs_of (Started c)) ≡ None
tagless s (Ibarrier comm request) = refl
tagless s _ = refl

probeless : (c : StartedCall) → waits_for_probe (kind_of (Started c)) ≡ false
probeless (Ibarrier comm request) = refl
probeless _ = refl

untagged : (comm : ℕ) (name : Option CommName) (peer : Option ℤ) → envelope_by comm name peer None ≡ None
untagged comm None peer = refl
untagged comm (Some name) None = refl
untagged comm (Some name) (Some peer) = refl

module _ (r : Rank) (calls : List Call) (call : Call) (c : StartedCall) (is : call.body ≡ Started c) where
  no_tag : (s : Side) → first_told (tag_in s) (inputs_of call.body) ≡ None
  no_tag s = subst (λ (b : Body). first_told (tag_in s) (inputs_of b) ≡ None) (sym is) (tagless s c)

  no_envelope : (s : Side) (comm : Option ℕ) → envelope_on r calls call.body s comm ≡ None
  no_envelope s None = refl
  no_envelope s (Some comm) =
      ap (λ (t : Option ℤ). envelope_by comm (usable_name r calls comm) (first_told (peer_in s) (inputs_of call.body)) t) (no_tag s)
      ∙ untagged comm (usable_name r calls comm) (first_told (peer_in s) (inputs_of call.body))

  no_message : (s : Side) → message_of r calls call s ≡ None
  unfolding message_of
  no_message s =
      ap (λ (e : Option Envelope). with_both (message (action_of (kind_of call.body) s)) e (numbered (part_in call.body (Buffer s)) (parts_behind r calls call))) (no_envelope s (comm_named call.body))

  nothing_received : message_at r calls call Receive ≡ None
  nothing_received =
      ap (λ (m : Option Message). or_else m (cond (waits_for_probe (kind_of call.body)) (message_probed r calls call) None)) (no_message Receive)
      ∙ ap (λ (w : Bool). cond w (message_probed r calls call) None) (subst (λ (b : Body). waits_for_probe (kind_of b) ≡ false) (sym is) (probeless c))

  pub begins_nothing : operations_at r calls call ≡ []
  unfolding operations_at
  begins_nothing =
      let part : Side → Option Message → Option Operation = λ s m. option_map (operation (length calls) (part_in call.body (Buffer s)) (begun_request call)) m in
      ap (λ (b : Body). cond (is_persistent_kind b) (started_from r calls call 0 (started_of call.body)) (begun_here r calls call)) is
      ∙ (λ i. cons_option (part Send (no_message Send i)) (cons_option (part Receive (nothing_received i)) []))

-- ---- the need of an operation by its number

number_need : (rank : ℕ) (need : Needing) (ops : List Operation) (number : Option ℕ)
    → name_need rank (map need ops) (name_of number (length ops)) ≡ begun_need need (option_and_then (λ n. slice_get ops n) number)
number_need rank need ops None = refl
number_need rank need ops (Some n) = at (nat_lt n (length ops)) refl
  where
    told : (o : Option Operation) → need_told (option_map need o) ≡ begun_need need o
    told None = refl
    told (Some op) = refl

    at : (b : Bool) → nat_lt n (length ops) ≡ b → name_need rank (map need ops) (cond b (Numbered n) Nothing) ≡ begun_need need (slice_get ops n)
    at true e = ap need_told (slice_get-map need ops n) ∙ told (slice_get ops n)
    at false e = ap (begun_need need) (sym (slice_get_past ops n (ltb-false n (length ops) e)))

pub number_there : (number : Option ℕ) (count : ℕ) → IsThere count (name_of number count)
number_there None count = tt
number_there (Some n) count = at (nat_lt n count) refl
  where
    at : (b : Bool) → nat_lt n count ≡ b → IsThere count (cond b (Numbered n) Nothing)
    at true e = ltb-true n count e
    at false e = tt

-- ---- one request

module _ (r : Rank) (calls : List Call) (request : ℕ) where
  abbrev pub one_need : Needing → List Need
  one_need need = request_needs r need calls (request ∷ [])

  -- one that isn't active
  pub named_inactive : (starts : StartOf) → starts ≡ start_of (clear_behind r) calls → starts request ≡ None → AreNamed r (operations_of r calls) one_need []
  named_inactive starts s e = record {
    there = tt;
    needs_are = λ need.
        sym (ap (λ (o : Option ℕ). cons_option (option_map (λ k. start_need r need calls k (under_way r calls request) (slice_get calls k)) o) []) (sym (ap (λ (f : StartOf). f request) s) ∙ e));
  }

  module _ (k : ℕ) (starts : StartOf) (s : starts ≡ start_of (clear_behind r) calls) (e : starts request ≡ Some k) where
    start_is : start_of (clear_behind r) calls request ≡ Some k
    start_is = sym (ap (λ (f : StartOf). f request) s) ∙ e

    active_need : (need : Needing) → one_need need ≡ start_need r need calls k (under_way r calls request) (slice_get calls k) ∷ []
    active_need need = ap (λ (o : Option ℕ). cons_option (option_map (λ h. start_need r need calls h (under_way r calls request) (slice_get calls h)) o) []) start_is

    -- the wave of the call that made it
    wave_need : (need : Needing) (call : Option Call) → slice_get calls k ≡ call → waits_started r (take k calls) call ≡ true
        → Some (want.Wave (place_at r.rank k) ∷ []) ≡ start_need r need calls k (under_way r calls request) call
    wave_need need None at waits = let bad : false ≡ true = waits in absurd cc
    wave_need need (Some call) at waits =
        let is = both (is_started_collective call.body) (waits_for_wave r (take k calls) call) waits in
        let less = slice_get_within calls k call at in
        let len : length (take k calls) ≡ k = length-take-le k calls (omega (arith, less)) in
        ap (λ (n : ℕ). Some (want.Wave (place_at r.rank n) ∷ [])) (sym len)
        ∙ ap (λ (b : Bool). Some (cond b (want.Wave (place_at r.rank (length (take k calls))) ∷ []) [])) (sym is.1)
        ∙ ap (λ (b : Bool). cond b (Some (wave_wants r (take k calls) call)) (begun_need need (under_way r calls request))) (sym is.0)

    pub named_wave : waits_started r (take k calls) (slice_get calls k) ≡ true → AreNamed r (operations_of r calls) one_need (Wave k ∷ [])
    named_wave waits = record {
      there = (tt, tt);
      needs_are = λ need. ap (λ (n : Need). n ∷ []) (wave_need need (slice_get calls k) refl waits) ∙ sym (active_need need);
    }

    -- what no collective call made has the need of its operation
    begun_by : (need : Needing) (call : Option Call) → slice_get calls k ≡ call → waits_started r (take k calls) call ≡ false
        → begun_need need (find (is_done_with request) (operations_by r (take k calls) call)) ≡ start_need r need calls k (find (is_done_with request) (operations_by r (take k calls) call)) call
    begun_by need None at waits = refl
    begun_by need (Some call) at waits = by call.body refl
      where
        op : Option Operation
        op = find (is_done_with request) (operations_at r (take k calls) call)

        started : (c : StartedCall) → call.body ≡ Started c → waits_for_wave r (take k calls) call ≡ false
        started c is = sym (ap (λ (b : Body). is_started_collective b && waits_for_wave r (take k calls) call) is) ∙ waits

        by : (b : Body) → call.body ≡ b → begun_need need op ≡ cond (is_started_collective call.body) (Some (wave_wants r (take k calls) call)) (begun_need need op)
        by (Started c) is =
            ap (λ (ops : List Operation). begun_need need (find (is_done_with request) ops)) (begins_nothing r (take k calls) call c is)
            ∙ ap (λ (w : Bool). Some (cond w (want.Wave (place_at r.rank (length (take k calls))) ∷ []) [])) (sym (started c is))
            ∙ ap (λ (x : Body). cond (is_started_collective x) (Some (wave_wants r (take k calls) call)) (begun_need need op)) (sym is)
        by x is = ap (λ (x : Body). cond (is_started_collective x) (Some (wave_wants r (take k calls) call)) (begun_need need op)) (sym is)

    under_way_is : under_way r calls request ≡ find (is_done_with request) (operations_in r calls k)
    under_way_is = ap (λ (o : Option ℕ). begun_in r calls request o) start_is

    pub named_operation : (number : Option ℕ) → waits_started r (take k calls) (slice_get calls k) ≡ false → option_and_then (λ n. slice_get (operations_of r calls) n) number ≡ under_way r calls request
        → (name : Name) → name ≡ name_of number (length (operations_of r calls)) → AreNamed r (operations_of r calls) one_need (name ∷ [])
    named_operation number waits same name is = subst (λ (n : Name). AreNamed r (operations_of r calls) one_need (n ∷ [])) (sym is) (record {
      there = (number_there number (length (operations_of r calls)), tt);
      needs_are = λ need.
          ap (λ (n : Need). n ∷ [])
          (number_need r.rank need (operations_of r calls) number
          ∙ ap (begun_need need) (same ∙ under_way_is)
          ∙ begun_by need (slice_get calls k) refl waits
          ∙ ap (λ (o : Option Operation). start_need r need calls k o (slice_get calls k)) (sym under_way_is))
          ∙ sym (active_need need);
    })

-- ---- some requests

-- one request more of a list
pub named_more : (r : Rank) (calls : List Call) (requests : List ℕ) (i : ℕ) (old new : List Name) (name : Option Name) → i < length requests → new ≡ old ++ option_to_list name
    → AreNamed r (operations_of r calls) (λ need. request_needs r need calls (take i requests)) old
    → AreNamed r (operations_of r calls) (λ need. request_needs r need calls (get_or requests i 0 ∷ [])) (option_to_list name)
    → AreNamed r (operations_of r calls) (λ need. request_needs r need calls (take (i + 1) requests)) new
named_more r calls requests i old new name less e a b =
    let both_named = named_join r (operations_of r calls) (λ need. request_needs r need calls (take i requests)) (λ need. request_needs r need calls (get_or requests i 0 ∷ [])) old (option_to_list name) a b in
    subst (AreNamed r (operations_of r calls) (λ need. request_needs r need calls (take (i + 1) requests))) (sym e) (record {
      there = both_named.there;
      needs_are = λ need.
          both_named.needs_are need
          ∙ sym (filter_map-append (request_need r need calls) (take i requests) (get_or requests i 0 ∷ []))
          ∙ ap (filter_map (request_need r need calls)) (sym (take_more requests i 0 less));
    })
