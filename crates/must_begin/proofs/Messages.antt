-- What a side of a call asks for, and what a probe does, by their terms.
use Rattle.std.proofs.Common.{◌≡◌, ℕ, ◌+◌, Bool, true, false, cond, not, ◌&&◌, ◌||◌, List, [], Option, Some, None, inl, inr, refl, sym, ap, subst, ◌∙◌, nat_eq, append-nil}
use Rattle.std.specs.Prelude.{ℤ, if◌then◌else◌, nat_le, is_some, flat_map, option_map}
use Rattle.std.specs.Ordering.{int_eq}
use Rattle.must_call.specs.declared.constants.TheConstants.{PROC_NULL}
use Rattle.must_call.specs.declared.field.Side.{Side}
use Rattle.must_call.specs.declared.field.Side.TheVariants.{Send, Receive, Both}
use Rattle.must_call.specs.declared.field.Field.TheVariants.{Buffer}
use Rattle.must_call.specs.declared.body.Body.{Body}
use Rattle.must_call.specs.declared.call.Call.{Call}
use Rattle.must_call.specs.Kinds.{kind_of}
use Rattle.must_call.specs.Bodies.{inputs_of}
use Rattle.must_type.specs.Tree.{TypeTree}
use Rattle.must_type.specs.Constructs.{natural}
use Rattle.must_group.specs.Names.{Name}
use Rattle.must_sig.specs.Signatures.{signature, expansion}
use Rattle.must_rules.specs.Rank.{Rank}
use Rattle.must_rules.specs.Facts.{Facts, Comm}
use Rattle.must_rules.specs.Significant.{first_told, comm_by, comm_of}
use Rattle.must_rules.specs.Breaches.{sends, part_of, part_in}
use Rattle.must_rules.specs.Clear.{is_clear}
use Rattle.must_rules.specs.UsableParts.{peer_in, is_proc_null, is_usable, usable_among, usable_parts}
use Rattle.must_rules.specs.Communicators.{comm_named, usable_name}
use Rattle.must_rules.specs.Known.{facts_of, clear_behind}
use Rattle.must_rules.specs.Types.{type_of, sound_type}
use Rattle.must_rules.specs.Parts.{Part, Block, with_both, part_at, part_told, parts_of, numbered, type_named, datatype_of}
use Rattle.must_rules.specs.PendingOperations.{parts_behind}
use Rattle.must_parts.specs.Matching.{MatchedOption}
use Rattle.must_messages.specs.declared.asked.Asked.{Asked}
use Rattle.must_messages.specs.declared.asked.Deed.{Deed}
use Rattle.must_messages.specs.declared.asked.Deed.TheVariants as deed
use Rattle.must_messages.specs.PlainLaws.{no_some, same_some, both}
use Rattle.must_rules.specs.Operations.{Envelope, Message, message, action_of, tag_in, envelope_by, envelope_on, envelope_of, message_of, is_probe, probes, probed, message_probed}
use Rattle.must_messages.specs.Asking.{action_seen}
use Rattle.must_begin.specs.declared.terms.Terms.{Terms}
use Rattle.must_begin.specs.declared.terms.Probed.{Probed}
use Rattle.must_begin.specs.Terms.{terms_of, probed_by, probed_of}
use Rattle.must_begin.specs.Telling.{IsOn, IsAskedOf, HasTerms}
use Rattle.must_begin.proofs.Shapes.{IsTransfer, Shape, shape}

-- ---- usable parts

abbrev pub bits : Bool → Bool → ℕ
bits a b = (if a then 1 else 0) + (if b then 2 else 0)

abbrev pub has : (parts part : ℕ) → Bool
has parts part = if nat_eq part 0 then (nat_eq parts 1 || nat_eq parts 3) else nat_le 2 parts

has_first : (a b : Bool) → has (bits a b) 0 ≡ a
has_first true true = refl
has_first true false = refl
has_first false true = refl
has_first false false = refl

has_second : (a b : Bool) → has (bits a b) 1 ≡ b
has_second true true = refl
has_second true false = refl
has_second false true = refl
has_second false false = refl

has_part : (usable : ℕ → Bool) (sending : Bool) (s : Side) → has (bits (usable 0) (usable 1)) (part_of sending s) ≡ usable (part_of sending s)
has_part usable true Receive = has_second (usable 0) (usable 1)
has_part usable true Send = has_first (usable 0) (usable 1)
has_part usable true Both = has_first (usable 0) (usable 1)
has_part usable false s = has_first (usable 0) (usable 1)

-- the bit of a side's part says whether it is usable
pub has_usable : (facts : Facts) (sound : ℕ → Bool) (b : Body) (s : Side) (parts part : ℕ) → part ≡ part_in b (Buffer s) → parts ≡ usable_parts facts sound b → has parts part ≡ is_usable facts sound b (part_in b (Buffer s))
has_usable facts sound b s parts part p e =
    ap (has parts) p ∙ ap (λ (n : ℕ). has n (part_in b (Buffer s))) e ∙ has_part (λ n. is_usable facts sound b n) (sends (inputs_of b)) s

and_middle : (a b c : Bool) → ((a && b) && c) ≡ true → b ≡ true
and_middle a b c e = (both a b ((both (a && b) c e).0)).1

-- a communicator that is there
there : {X : Type 0} (o : Option X) → is_some o ≡ true → (x : X) × (o ≡ Some x)
there None e = let no : false ≡ true = e in absurd cc
there (Some x) e = (x, refl)

usable_comm : (facts : Facts) (sound : ℕ → Bool) (b : Body) (part : ℕ) → is_usable facts sound b part ≡ true → (c : Comm) × (comm_of facts b ≡ Some c)
usable_comm facts sound b part e = there (comm_of facts b) (and_middle (is_clear facts b) (is_some (comm_of facts b)) (usable_among facts sound b part (inputs_of b)) e)

-- ---- nothing

both_none : {X Y Z : Type 0} (f : X → Y → Z) (x : Option X) → with_both f x None ≡ None
both_none f None = refl
both_none f (Some x) = refl

nobody : (comm : ℕ) (name : Option Name) (tag : Option ℤ) → envelope_by comm name None tag ≡ None
nobody comm None tag = refl
nobody comm (Some name) tag = refl

module _ (r : Rank) (calls : List Call) (call : Call) (s : Side) where
  unnamed : (comm : Option ℕ) → first_told (peer_in s) (inputs_of call.body) ≡ None → envelope_on r calls call.body s comm ≡ None
  unnamed None e = refl
  unnamed (Some comm) e =
      let tag = first_told (tag_in s) (inputs_of call.body) in
      ap (λ (p : Option ℤ). envelope_by comm (usable_name r calls comm) p tag) e ∙ nobody comm (usable_name r calls comm) tag

  -- a side without terms asks for nothing
  pub termless : terms_of call.body s ≡ None → message_of r calls call s ≡ None
  unfolding message_of parts_behind
  termless e = at (subst (Shape call.body s) e (shape call.body s))
    where
      f : Envelope → Part → Message
      f = message (action_of (kind_of call.body) s)

      at : Shape call.body s None → with_both f (envelope_of r calls call.body s) (numbered (part_in call.body (Buffer s)) (parts_of (facts_of r calls) (type_of (clear_behind r) calls) call.body)) ≡ None
      at (inl peer) = ap (λ (o : Option Envelope). with_both f o (numbered (part_in call.body (Buffer s)) (parts_of (facts_of r calls) (type_of (clear_behind r) calls) call.body))) (unnamed (comm_named call.body) peer)
      at (inr parts) =
          ap (λ (ps : List Part). with_both f (envelope_of r calls call.body s) (numbered (part_in call.body (Buffer s)) ps)) (parts (facts_of r calls) (type_of (clear_behind r) calls))
          ∙ both_none f (envelope_of r calls call.body s)

  -- a call on no communicator names none
  nowhere_named : IsOn r calls call.body None → (o : Option ℕ) → comm_named call.body ≡ o → envelope_on r calls call.body s o ≡ None
  nowhere_named on None e = refl
  nowhere_named on (Some comm) e =
      ap (λ (name : Option Name). envelope_by comm name (first_told (peer_in s) (inputs_of call.body)) (first_told (tag_in s) (inputs_of call.body))) (on comm e)

  pub nowhere : IsOn r calls call.body None → message_of r calls call s ≡ None
  unfolding message_of
  nowhere on =
      ap (λ (o : Option Envelope). with_both (message (action_of (kind_of call.body) s)) o (numbered (part_in call.body (Buffer s)) (parts_behind r calls call))) (nowhere_named on (comm_named call.body) refl)

  -- ---- what a side with terms asks for

  module _ (t : Terms) (is : IsTransfer call.body s t) where
    abbrev pub facts : Facts
    facts = facts_of r calls

    abbrev pub types : ℕ → Option TypeTree
    types = type_of (clear_behind r) calls

    abbrev pub f : Envelope → Part → Message
    f = message (action_of (kind_of call.body) s)

    message_told : message_of r calls call s ≡ with_both f (envelope_of r calls call.body s) (part_told facts types call.body (Buffer s) is.address)
    unfolding message_of parts_behind
    message_told = ap (with_both f (envelope_of r calls call.body s)) (is.told_is facts types)

    pub unusable : is_usable facts (sound_type (clear_behind r) calls) call.body (part_in call.body (Buffer s)) ≡ false → message_of r calls call s ≡ None
    unusable e =
        message_told
        ∙ ap (λ (u : Bool). with_both f (envelope_of r calls call.body s) (cond u (with_both (part_at facts call.body s is.address) (comm_of facts call.body) (datatype_of types call.body s)) None)) e
        ∙ both_none f (envelope_of r calls call.body s)

    -- on a communicator with a name, where the part is usable
    module _ (comm : ℕ) (name : Name) (usable : is_usable facts (sound_type (clear_behind r) calls) call.body (part_in call.body (Buffer s)) ≡ true) (named : comm_named call.body ≡ Some comm) (name_is : usable_name r calls comm ≡ Some name) where
      abbrev pub e : Envelope
      e = record { comm = comm; name = name; peer = t.peer; tag = t.tag }

      envelope_is : envelope_of r calls call.body s ≡ Some e
      envelope_is =
          ap (envelope_on r calls call.body s) named
          ∙ ap (λ (n : Option Name). envelope_by comm n (first_told (peer_in s) (inputs_of call.body)) (first_told (tag_in s) (inputs_of call.body))) name_is
          ∙ ap (λ (p : Option ℤ). envelope_by comm (Some name) p (first_told (tag_in s) (inputs_of call.body))) is.peer_is
          ∙ ap (λ (p : Option ℤ). envelope_by comm (Some name) (Some t.peer) p) is.tag_is

      parts_are : (c : Comm) → comm_of facts call.body ≡ Some c
          → message_of r calls call s ≡ with_both f (Some e) (with_both (part_at facts call.body s is.address) (Some c) (types t.dtype))
      parts_are c there =
          message_told
          ∙ ap (λ (o : Option Envelope). with_both f o (part_told facts types call.body (Buffer s) is.address)) envelope_is
          ∙ ap (λ (u : Bool). with_both f (Some e) (cond u (with_both (part_at facts call.body s is.address) (comm_of facts call.body) (datatype_of types call.body s)) None)) usable
          ∙ ap (λ (o : Option Comm). with_both f (Some e) (with_both (part_at facts call.body s is.address) o (datatype_of types call.body s))) there
          ∙ ap (λ (o : Option ℕ). with_both f (Some e) (with_both (part_at facts call.body s is.address) (Some c) (type_named types o))) is.type_is

      pub asked_is : (done : Deed) (asked : Option Asked) → action_seen done ≡ action_of (kind_of call.body) s → MatchedOption (HasTerms done comm name t) asked (types t.dtype) → IsAskedOf asked (message_of r calls call s)
      asked_is done asked action m =
          let c = usable_comm facts (sound_type (clear_behind r) calls) call.body (part_in call.body (Buffer s)) usable in
          subst (IsAskedOf asked) (sym (parts_are c.0 c.1)) (at c.0 asked (types t.dtype) m)
        where
          at : (c : Comm) (a : Option Asked) (o : Option TypeTree) → MatchedOption (HasTerms done comm name t) a o → IsAskedOf a (with_both f (Some e) (with_both (part_at facts call.body s is.address) (Some c) o))
          at c None None k = tt
          at c None (Some tree) k = absurd k
          at c (Some a) None k = absurd k
          at c (Some a) (Some tree) k = record {
            action_is = sym action ∙ ap action_seen (sym k.deed_is);
            envelope_is = λ i. record { comm = sym k.comm_is i; name = sym k.name_is i; peer = sym k.peer_is i; tag = sym k.tag_is i };
            signature_is =
                ap (flat_map (λ (b : Block). signature tree b.count)) (is.blocks_are facts c tree)
                ∙ append-nil (signature tree (natural t.count))
                ∙ sym k.signature_is;
          }

-- ---- probes

abbrev pub probed_at : (source tag : ℤ) → Probed
probed_at source tag = record { source = source; tag = tag }

unprobed : (comm : ℕ) (name : Option Name) (source tag : Option ℤ) → probed_by source tag ≡ None → envelope_by comm name source tag ≡ None
unprobed comm None source tag e = refl
unprobed comm (Some name) None tag e = refl
unprobed comm (Some name) (Some source) None e = refl
unprobed comm (Some name) (Some source) (Some tag) e = let no : Some (probed_at source tag) ≡ None = e in absurd cc

-- what the fields of a probe are
pub record IsProbe (b : Body) (t : Probed) : Type 0 where
  pub kind_is : is_probe (kind_of b) ≡ true
  pub source_is : first_told (peer_in Receive) (inputs_of b) ≡ Some t.source
  pub tag_is : first_told (tag_in Receive) (inputs_of b) ≡ Some t.tag

pub probe_is : (b : Body) (t : Probed) → probed_of b ≡ Some t → IsProbe b t
probe_is b t e = at (is_probe (kind_of b)) (first_told (peer_in Receive) (inputs_of b)) (first_told (tag_in Receive) (inputs_of b)) refl refl refl e
  where
    at : (p : Bool) (source tag : Option ℤ) → is_probe (kind_of b) ≡ p → first_told (peer_in Receive) (inputs_of b) ≡ source → first_told (tag_in Receive) (inputs_of b) ≡ tag
        → cond p (probed_by source tag) None ≡ Some t → IsProbe b t
    at false source tag x y z f = no_some t f
    at true None tag x y z f = no_some t f
    at true (Some source) None x y z f = no_some t f
    at true (Some source) (Some tag) x y z f =
        let same = same_some (probed_at source tag) t f in
        record { kind_is = x; source_is = y ∙ ap (λ (w : Probed). Some w.source) same; tag_is = z ∙ ap (λ (w : Probed). Some w.tag) same }

module _ (r : Rank) (calls : List Call) (call : Call) where
  abbrev pub rest : Bool
  rest = clear_behind r calls call && (is_some (comm_of (facts_of r calls) call.body) && not (is_proc_null (first_told (peer_in Receive) (inputs_of call.body))))

  unprobed_on : (o : Option ℕ) → probed_by (first_told (peer_in Receive) (inputs_of call.body)) (first_told (tag_in Receive) (inputs_of call.body)) ≡ None → envelope_on r calls call.body Receive o ≡ None
  unprobed_on None e = refl
  unprobed_on (Some comm) e = unprobed comm (usable_name r calls comm) (first_told (peer_in Receive) (inputs_of call.body)) (first_told (tag_in Receive) (inputs_of call.body)) e

  nothing_either : (b : Bool) (o : Option Envelope) → o ≡ None → cond b (option_map probed o) None ≡ None
  nothing_either true o e = ap (option_map probed) e
  nothing_either false o e = refl

  -- what the code asks is what the rank knows
  pub looks_seen : (facts : Facts) (clear : Bool) (comm : ℕ) (read source : ℤ) (b : Bool) → facts ≡ facts_of r calls → clear ≡ clear_behind r calls call → read ≡ source → b ≡ (clear && (is_some (facts.comm comm) && not (int_eq read PROC_NULL)))
      → (clear_behind r calls call && (is_some ((facts_of r calls).comm comm) && not (int_eq source PROC_NULL))) ≡ b
  looks_seen facts clear comm read source b f c s e = sym (e ∙ (λ i. c i && (is_some ((f i).comm comm) && not (int_eq (s i) PROC_NULL))))

  -- a call without a probe's terms probes nothing
  pub probeless : probed_of call.body ≡ None → message_probed r calls call ≡ None
  unfolding message_probed
  probeless e = at (is_probe (kind_of call.body)) e
    where
      at : (p : Bool) → cond p (probed_by (first_told (peer_in Receive) (inputs_of call.body)) (first_told (tag_in Receive) (inputs_of call.body))) None ≡ None
          → cond (p && rest) (option_map probed (envelope_of r calls call.body Receive)) None ≡ None
      at false f = refl
      at true f = nothing_either rest (envelope_of r calls call.body Receive) (unprobed_on (comm_named call.body) f)

  pub nowhere_probed : IsOn r calls call.body None → message_probed r calls call ≡ None
  unfolding message_probed
  nowhere_probed on = nothing_either (probes r calls call) (envelope_of r calls call.body Receive) (nowhere_named r calls call Receive on (comm_named call.body) refl)

  module _ (t : Probed) (is : IsProbe call.body t) (comm : ℕ) (name : Name) (named : comm_named call.body ≡ Some comm) (name_is : usable_name r calls comm ≡ Some name) where
    abbrev pub looks : Bool
    looks = clear_behind r calls call && (is_some ((facts_of r calls).comm comm) && not (int_eq t.source PROC_NULL))

    probes_is : probes r calls call ≡ looks
    probes_is =
        ap (λ (p : Bool). p && rest) is.kind_is
        ∙ ap (λ (o : Option ℕ). clear_behind r calls call && (is_some (comm_by (facts_of r calls) o) && not (is_proc_null (first_told (peer_in Receive) (inputs_of call.body))))) named
        ∙ ap (λ (o : Option ℤ). clear_behind r calls call && (is_some ((facts_of r calls).comm comm) && not (is_proc_null o))) is.source_is

    abbrev pub looked : Envelope
    looked = record { comm = comm; name = name; peer = t.source; tag = t.tag }

    looked_is : envelope_of r calls call.body Receive ≡ Some looked
    looked_is =
        ap (envelope_on r calls call.body Receive) named
        ∙ ap (λ (n : Option Name). envelope_by comm n (first_told (peer_in Receive) (inputs_of call.body)) (first_told (tag_in Receive) (inputs_of call.body))) name_is
        ∙ ap (λ (p : Option ℤ). envelope_by comm (Some name) p (first_told (tag_in Receive) (inputs_of call.body))) is.source_is
        ∙ ap (λ (p : Option ℤ). envelope_by comm (Some name) (Some t.source) p) is.tag_is

    probed_told : (b : Bool) → looks ≡ b → message_probed r calls call ≡ cond b (Some (probed looked)) None
    unfolding message_probed
    probed_told b e =
        ap (λ (p : Bool). cond p (option_map probed (envelope_of r calls call.body Receive)) None) (probes_is ∙ e)
        ∙ ap (λ (o : Option Envelope). cond b (option_map probed o) None) looked_is

    pub unlooked : looks ≡ false → message_probed r calls call ≡ None
    unlooked e = probed_told false e

    pub probed_is : (asked : Asked) → looks ≡ true → asked.deed ≡ deed.Probe → asked.comm ≡ comm → asked.name ≡ name → asked.peer ≡ t.source → asked.tag ≡ t.tag → expansion asked.sig ≡ [] → IsAskedOf (Some asked) (message_probed r calls call)
    probed_is asked e done on of source tag sig =
        subst (IsAskedOf (Some asked)) (sym (probed_told true e)) (record {
          action_is = ap action_seen (sym done);
          envelope_is = λ i. record { comm = sym on i; name = sym of i; peer = sym source i; tag = sym tag i };
          signature_is = sym sig;
        })
