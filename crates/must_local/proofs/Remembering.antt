-- The table stands for one call more.
use Rattle.std.proofs.Common.{◌≡◌, ℕ, suc, ◌+◌, ◌-◌, ◌≤◌, ◌==◌, Bool, true, false, cond, ◌&&◌, List, [], ◌∷◌, ◌++◌, length, Option, Some, None, refl, sym, ap, ◌∙◌, inl, inr, arith, length-append}
use Rattle.std.specs.Prelude.{◌⊎◌}
use Rattle.std.specs.Option.{option_map}
use Rattle.std.proofs.lemmas.Bool.{le-leb, eq-eqb, eqb-true, ne_eqb}
use Rattle.must_call.specs.declared.class.Class.{Class}
use Rattle.must_call.specs.declared.class.Class.TheVariants.{Comm, Group, Datatype, Operation, Request}
use Rattle.must_call.specs.declared.life.Life.{Life}
use Rattle.must_call.specs.declared.life.Life.TheVariants.{Never, Live, Freed, Predefined}
use Rattle.must_call.specs.declared.call.Call.{Call}
use Rattle.must_call.specs.declared.body.Body.{Body}
use Rattle.must_call.specs.Handles.{ClassedHandle}
use Rattle.must_group.specs.Names.{Name}
use Rattle.must_rules.specs.Rank.{Rank}
use Rattle.must_rules.specs.Making.{same_class, is_handle, made_by, makes}
use Rattle.must_rules.specs.MakingLaws.{same_class_is}
use Rattle.must_rules.specs.Lives.{ends, life, is_kept, made_count}
use Rattle.must_rules.specs.LifeLaws.{next_life, life_more, made_count_more, made_now}
use Rattle.must_rules.specs.Facts.{Facts}
use Rattle.must_rules.specs.Clear.{is_clear}
use Rattle.must_rules.specs.Communicators.{Derived, is_there, there, is_collective_on, collectives, derived_of, derived_name, child_of, name_of, usable_name}
use Rattle.must_rules.specs.Known.{sound_group, group_made, group_of, facts_of}
use Rattle.must_rules.specs.KnownLaws.{collectives_more, collectives_never, name_more, group_more}
use Rattle.std.specs.Prelude.{slice_get}
use Rattle.std.proofs.lemmas.Option.{slice_get_past}
use Rattle.must_handle.specs.declared.slot.Slot.{Slot}
use Rattle.must_handle.specs.Slots as handle
use Rattle.must_handle.specs.Slots.{life_in, state_in}
use Rattle.must_handle.specs.Changes.{IsNext}
use Rattle.must_items.specs.CollectiveItems.{commute_made}
use Rattle.must_items.specs.CollectiveLists.{commute_of}
use Rattle.must_items.specs.CommuteLaws.{commute_more}
use Rattle.must_local.specs.declared.handles.Handles.{Handles}
use Rattle.must_local.specs.declared.known.Known.{Known}
use Rattle.must_local.specs.declared.known.Known.TheVariants as known
use Rattle.must_local.specs.Counted.{Counted, counted, one_more}
use Rattle.must_local.specs.Objects.{slot_of, comm_slot, comm_in, group_slot, group_in, operation_slot, operation_in, counted_of, Remembers}
use Rattle.must_local.specs.Bumps.{bumped}
use Rattle.must_local.specs.HandlesKnown.{facts_in, HandlesStand, derived_from, comm_made, known_comm, known_group, known_operation, known_made, counts_on, Counts, Grows}
use Rattle.must_local.proofs.Tables.{slot_new, slot_past, slot_other}
use Rattle.must_local.proofs.Facing.{usable_is, facts_are}
use Rattle.must_local.proofs.Beginning.{made_number}

-- ---- what may be used after one call more

kept_there : {X : Type 0} (l : Life) (m e : Bool) (k : ℕ) (x x' y y' : Option X) → there l x ≡ there l y → (is_there l ≡ true → x ≡ y → x' ≡ y') → (l ≡ Never → m ≡ true → x' ≡ y')
    → there (next_life k m e l) x' ≡ there (next_life k m e l) y'
kept_there Never true e k x x' y y' before kept new = new refl refl
kept_there Never false e k x x' y y' before kept new = refl
kept_there (Live made) m true k x x' y y' before kept new = refl
kept_there (Live made) m false k x x' y y' before kept new = kept refl before
kept_there (Freed made freed) m e k x x' y y' before kept new = refl
kept_there Predefined m e k x x' y y' before kept new = kept refl before

-- ---- the handle that a call makes

both : (a b : Bool) → (a && b) ≡ true → (a ≡ true) × (b ≡ true)
both true true e = (refl, refl)
both true false e = let bad : false ≡ true = e in absurd cc
both false b e = let bad : false ≡ true = e in absurd cc

-- what the table has of a number after the call: what it had, with one collective call more or none, or what the call made
record Stays (old : Handles) (call : Call) (new : List Known) (h : ℕ) : Type 0 where
  slot : slot_of new h ≡ cond (counts_on old call.body h) (option_map bumped (slot_of old.objects h)) (slot_of old.objects h)
  none : (class : Class) → makes class h call ≡ false

record Comes (old : Handles) (clear : Bool) (call : Call) (new : List Known) (calls : List Call) (h : ℕ) : Type 0 where
  class : Class
  made : made_by call ≡ Some (class, h)
  high : 64 ≤ h
  slot : slot_of new h ≡ Some (known_made old class clear call.body)
  before : slot_of old.objects h ≡ None
  never : (c : Class) → life calls c h ≡ Never

never_named : (class : Class) (h : ℕ) (call : Call) → made_by call ≡ None → makes class h call ≡ false
never_named class h call e = ap (λ (o : Option ClassedHandle). is_handle class h o) e

other_named : (class own : Class) (h n : ℕ) (call : Call) → made_by call ≡ Some (own, n) → (h ≡ n → ⊥) → makes class h call ≡ false
other_named class own h n call e other =
    ap (λ (o : Option ClassedHandle). is_handle class h o) e ∙ ap (λ (b : Bool). same_class own class && b) (ne_eqb n h (λ x. other (sym x))) ∙ last (same_class own class)
  where
    last : (b : Bool) → (b && false) ≡ false
    last true = refl
    last false = refl

here_named : (class own : Class) (h : ℕ) (call : Call) → made_by call ≡ Some (own, h) → makes class h call ≡ same_class own class
here_named class own h call e =
    ap (λ (o : Option ClassedHandle). is_handle class h o) e ∙ ap (λ (b : Bool). same_class own class && b) (eq-eqb h h refl) ∙ last (same_class own class)
  where
    last : (b : Bool) → (b && true) ≡ b
    last true = refl
    last false = refl

state_past : (slots : List Slot) (c : Class) (n : ℕ) → n ≡ 64 + length slots → state_in slots c n ≡ Never
state_past slots c n is =
    let here : handle.slot_of slots n ≡ None = ap (λ b. cond {A = Option Slot} b (slice_get slots (n - 64)) None) (le-leb 64 n (omega (arith, is))) ∙ slice_get_past slots (n - 64) (omega (arith, is)) in
    ap (λ b. cond b Predefined (life_in c (handle.slot_of slots n))) (made_number c n (omega (arith, is))) ∙ ap (life_in c) here

grown_at : (r : Rank) (calls : List Call) (call : Call) (old : Handles) (clear : Bool) (mid new : List Known) (h n : ℕ) (class : Class) (b : Bool) → HandlesStand r old calls → n ≡ 64 + length old.lives
    → Counts old call.body old.objects mid → made_by call ≡ Some (class, n) → new ≡ mid ++ known_made old class clear call.body ∷ [] → (h == n) ≡ b → Stays old call new h ⊎ Comes old clear call new calls h
grown_at r calls call old clear mid new h n class true s number counts made is e =
    let same : h ≡ n = eqb-true h n e in
    let two : 2 ≤ length mid = omega (arith, counts.size, s.objects.size) in
    let place : n ≡ 62 + length mid = omega (arith, number, counts.size, s.objects.size, s.lives.count) in
    inr (record {
      class = class;
      made = made ∙ ap (λ (m : ℕ). Some (class, m)) (sym same);
      high = omega (arith, same, number);
      slot = ap (λ (xs : List Known). slot_of xs h) is ∙ slot_new mid (known_made old class clear call.body) h two (same ∙ place);
      before = slot_past old.objects h (omega (arith, s.objects.size)) (omega (arith, same, place, counts.size));
      never = λ c. sym (s.lives.lives c h) ∙ state_past old.lives c h (same ∙ number);
    })
grown_at r calls call old clear mid new h n class false s number counts made is e =
    let apart : h ≡ n → ⊥ = λ x. (let bad : false ≡ true = sym e ∙ eq-eqb h n x in cc) in
    let two : 2 ≤ length mid = omega (arith, counts.size, s.objects.size) in
    let place : n ≡ 62 + length mid = omega (arith, number, counts.size, s.objects.size, s.lives.count) in
    inl (record {
      slot = ap (λ (xs : List Known). slot_of xs h) is ∙ slot_other mid (known_made old class clear call.body) h two (λ x. apart (x ∙ sym place)) ∙ counts.each h;
      none = λ c. other_named c class h n call made apart;
    })

grown : (r : Rank) (calls : List Call) (call : Call) (old : Handles) (clear : Bool) (mid new : List Known) → HandlesStand r old calls → IsNext old.lives call → Counts old call.body old.objects mid
    → Grows old clear call mid new → (h : ℕ) → Stays old call new h ⊎ Comes old clear call new calls h
grown r calls call old clear mid new s next counts (inl none) h =
    inl (record { slot = ap (λ (xs : List Known). slot_of xs h) none.1 ∙ counts.each h; none = λ class. never_named class h call none.0 })
grown r calls call old clear mid new s next counts (inr made) h =
    grown_at r calls call old clear mid new h made.number made.class (h == made.number) s (next made.class made.number made.made) counts made.made made.new_is refl

-- ---- communicators

slot_comm : (t : Bool) (o : Option Known) → comm_slot (cond t (option_map bumped o) o) ≡ cond t (option_map one_more (comm_slot o)) (comm_slot o)
slot_comm true None = refl
slot_comm true (Some known.Nothing) = refl
slot_comm true (Some (known.Comm comm)) = refl
slot_comm true (Some (known.Group group)) = refl
slot_comm true (Some (known.Operation commute)) = refl
slot_comm false o = refl

counted_more : (t : Bool) (c : ℕ) (n : Option Name) → option_map (counted (cond t (suc c) c)) n ≡ cond t (option_map one_more (option_map (counted c) n)) (option_map (counted c) n)
counted_more true c None = refl
counted_more true c (Some n) = ap (λ (k : ℕ). Some (counted k n)) (let e : suc c ≡ c + 1 = omega arith in e)
counted_more false c n = refl

counted_stays : (r : Rank) (calls : List Call) (call : Call) (h : ℕ) → makes Comm h call ≡ false
    → counted_of r (calls ++ call ∷ []) h ≡ cond (is_collective_on h call && is_there (life calls Comm h)) (option_map one_more (counted_of r calls h)) (counted_of r calls h)
counted_stays r calls call h none =
    ap (λ (c : ℕ). option_map (counted c) (name_of r (calls ++ call ∷ []) h)) (collectives_more calls call h)
    ∙ ap (λ (n : Option Name). option_map (counted (cond (is_collective_on h call && is_there (life calls Comm h)) (suc (collectives calls h)) (collectives calls h))) n)
    (name_more r calls call h ∙ ap (λ b. cond b (derived_name (usable_name r calls) (collectives calls) (derived_of call.body)) (name_of r calls h)) none)
    ∙ counted_more (is_collective_on h call && is_there (life calls Comm h)) (collectives calls h) (name_of r calls h)

comm_stays : (r : Rank) (calls : List Call) (call : Call) (old : Handles) (new : List Known) (h : ℕ) → HandlesStand r old calls → Stays old call new h → comm_in old.objects h ≡ counted_of r calls h → comm_in new h ≡ counted_of r (calls ++ call ∷ []) h
comm_stays r calls call old new h s stays same =
    let t : Bool = counts_on old call.body h in
    let there_is : t ≡ (is_collective_on h call && is_there (life calls Comm h)) = ap (λ (l : Life). is_collective_on h call && is_there l) (s.lives.lives Comm h) in
    ap comm_slot stays.slot ∙ slot_comm t (slot_of old.objects h)
    ∙ ap (λ (x : Option Counted). cond t (option_map one_more x) x) same
    ∙ ap (λ b. cond b (option_map one_more (counted_of r calls h)) (counted_of r calls h)) there_is
    ∙ sym (counted_stays r calls call h (stays.none Comm))

known_slot : (o : Option Name) → comm_slot (Some (known_comm o)) ≡ option_map (counted 0) o
known_slot None = refl
known_slot (Some n) = refl

derived_there : (d : Derived) (b : Bool) (c : ℕ) (o : Option Name) → option_map (derived_from d) (cond b (option_map (counted c) o) None) ≡ option_map (child_of c d) (cond b o None)
derived_there d true c None = refl
derived_there d true c (Some n) = refl
derived_there d false c o = refl

made_name : (r : Rank) (old : Handles) (calls : List Call) (d : Option Derived) → HandlesStand r old calls → comm_made old d ≡ derived_name (usable_name r calls) (collectives calls) d
made_name r old calls None s = refl
made_name r old calls (Some d) s =
    ap (option_map (derived_from d)) (usable_is r old calls d.parent s) ∙ derived_there d (is_there (life calls Comm d.parent)) (collectives calls d.parent) (name_of r calls d.parent)

none_counted : (on : Bool) (l : Life) (n : ℕ) → l ≡ Never → n ≡ 0 → cond (on && is_there l) (suc n) n ≡ 0
none_counted true l n e z = ap (λ (x : Life). cond (is_there x) (suc n) n) e ∙ z
none_counted false l n e z = z

comm_comes : (r : Rank) (calls : List Call) (call : Call) (old : Handles) (clear : Bool) (new : List Known) (h : ℕ) → HandlesStand r old calls → (c : Comes old clear call new calls h) → makes Comm h call ≡ true
    → comm_in new h ≡ counted_of r (calls ++ call ∷ []) h
comm_comes r calls call old clear new h s c named =
    let class : c.class ≡ Comm = same_class_is c.class Comm (sym (here_named Comm c.class h call c.made) ∙ named) in
    let zero_calls : collectives (calls ++ call ∷ []) h ≡ 0 =
    collectives_more calls call h ∙ none_counted (is_collective_on h call) (life calls Comm h) (collectives calls h) (c.never Comm) (collectives_never calls h (c.never Comm)) in
    ap comm_slot c.slot ∙ ap (λ (x : Class). comm_slot (Some (known_made old x clear call.body))) class
    ∙ known_slot (comm_made old (derived_of call.body))
    ∙ ap (option_map (counted 0)) (made_name r old calls (derived_of call.body) s ∙ sym (name_more r calls call h ∙ ap (λ b. cond b (derived_name (usable_name r calls) (collectives calls) (derived_of call.body)) (name_of r calls h)) named))
    ∙ ap (λ (n : ℕ). option_map (counted n) (name_of r (calls ++ call ∷ []) h)) (sym zero_calls)

-- ---- groups

slot_group : (t : Bool) (o : Option Known) → group_slot (cond t (option_map bumped o) o) ≡ group_slot o
slot_group true None = refl
slot_group true (Some known.Nothing) = refl
slot_group true (Some (known.Comm comm)) = refl
slot_group true (Some (known.Group group)) = refl
slot_group true (Some (known.Operation commute)) = refl
slot_group false o = refl

group_stays : (r : Rank) (calls : List Call) (call : Call) (old : Handles) (new : List Known) (h : ℕ) → Stays old call new h → group_in old.objects h ≡ group_of r calls h → group_in new h ≡ group_of r (calls ++ call ∷ []) h
group_stays r calls call old new h stays same =
    ap (λ o. cond (h == 1) (Some []) (group_slot o)) stays.slot ∙ ap (cond (h == 1) (Some [])) (slot_group (counts_on old call.body h) (slot_of old.objects h))
    ∙ same ∙ sym (group_more r calls call h ∙ ap (λ b. cond b (sound_group (facts_of r calls) call.body) (group_of r calls h)) (stays.none Group))

known_members : (o : Option (List ℕ)) → group_slot (Some (known_group o)) ≡ o
known_members None = refl
known_members (Some g) = refl

group_comes : (r : Rank) (calls : List Call) (call : Call) (old : Handles) (clear : Bool) (new : List Known) (h : ℕ) → HandlesStand r old calls → clear ≡ is_clear (facts_in old) call.body → (c : Comes old clear call new calls h) → makes Group h call ≡ true
    → group_in new h ≡ group_of r (calls ++ call ∷ []) h
group_comes r calls call old clear new h s is c named =
    let class : c.class ≡ Group = same_class_is c.class Group (sym (here_named Group c.class h call c.made) ∙ named) in
    let apart : (h == 1) ≡ false = ne_eqb h 1 (λ e. omega (arith, e, c.high)) in
    ap (λ b. cond b (Some []) (group_slot (slot_of new h))) apart ∙ ap group_slot c.slot ∙ ap (λ (x : Class). group_slot (Some (known_made old x clear call.body))) class
    ∙ known_members (cond clear (group_made (facts_in old) call.body) None)
    ∙ ap (λ b. cond b (group_made (facts_in old) call.body) None) is
    ∙ ap (λ (f : Facts). sound_group f call.body) (facts_are r old calls s)
    ∙ sym (group_more r calls call h ∙ ap (λ b. cond b (sound_group (facts_of r calls) call.body) (group_of r calls h)) named)

-- ---- operations

slot_operation : (t : Bool) (o : Option Known) → operation_slot (cond t (option_map bumped o) o) ≡ operation_slot o
slot_operation true None = refl
slot_operation true (Some known.Nothing) = refl
slot_operation true (Some (known.Comm comm)) = refl
slot_operation true (Some (known.Group group)) = refl
slot_operation true (Some (known.Operation commute)) = refl
slot_operation false o = refl

known_commute : (o : Option Bool) → operation_slot (Some (known_operation o)) ≡ o
known_commute None = refl
known_commute (Some commute) = refl

no_operation : (o : Option Name) → operation_slot (Some (known_comm o)) ≡ None
no_operation None = refl
no_operation (Some n) = refl

no_operation_group : (o : Option (List ℕ)) → operation_slot (Some (known_group o)) ≡ None
no_operation_group None = refl
no_operation_group (Some g) = refl

-- what is known of a handle of another class is no operation
operation_made : (old : Handles) (class : Class) (clear : Bool) (b : Body) → operation_slot (Some (known_made old class clear b)) ≡ cond (same_class class Operation) (commute_made b) None
operation_made old Comm clear b = no_operation (comm_made old (derived_of b))
operation_made old Group clear b = no_operation_group (cond clear (group_made (facts_in old) b) None)
operation_made old Datatype clear b = refl
operation_made old Operation clear b = known_commute (commute_made b)
operation_made old Request clear b = refl

operations_more : (calls : List Call) (call : Call) (old : Handles) (clear : Bool) (new : List Known) (h : ℕ) → Stays old call new h ⊎ Comes old clear call new calls h → operation_in old.objects h ≡ commute_of calls h
    → operation_in new h ≡ commute_of (calls ++ call ∷ []) h
operations_more calls call old clear new h (inl x) same =
    ap operation_slot x.slot ∙ slot_operation (counts_on old call.body h) (slot_of old.objects h) ∙ same
    ∙ sym (commute_more calls call h ∙ ap (λ b. cond b (commute_made call.body) (commute_of calls h)) (x.none Operation))
operations_more calls call old clear new h (inr c) same =
    let unmade : commute_of calls h ≡ None = sym same ∙ ap operation_slot c.before in
    ap operation_slot c.slot ∙ operation_made old c.class clear call.body
    ∙ sym (commute_more calls call h ∙ ap (λ b. cond b (commute_made call.body) (commute_of calls h)) (here_named Operation c.class h call c.made) ∙ ap (λ o. cond (same_class c.class Operation) (commute_made call.body) o) unmade)

-- ---- one call more

after : (calls : List Call) (call : Call) (class : Class) (h : ℕ) {X : Type 0} (x y : Option X)
    → there (next_life (length calls) (makes class h call) (ends (is_kept calls class h) class h call) (life calls class h)) x ≡ there (next_life (length calls) (makes class h call) (ends (is_kept calls class h) class h call) (life calls class h)) y
    → there (life (calls ++ call ∷ []) class h) x ≡ there (life (calls ++ call ∷ []) class h) y
after calls call class h x y e = ap (λ (l : Life). there l x) (life_more calls call class h) ∙ e ∙ sym (ap (λ (l : Life). there l y) (life_more calls call class h))

stays_true : (class : Class) (h : ℕ) (call : Call) {P : Type 0} → makes class h call ≡ false → makes class h call ≡ true → P
stays_true class h call a b = let bad : false ≡ true = sym a ∙ b in absurd cc

never_there : (l : Life) {P : Type 0} → l ≡ Never → is_there l ≡ true → P
never_there l e t = let bad : false ≡ true = sym (ap is_there e) ∙ t in absurd cc

grown_size : (call : Call) (calls : List Call) (old : Handles) (clear : Bool) (mid new : List Known) → length mid ≡ 2 + made_count calls → Grows old clear call mid new → length new ≡ 2 + made_count (calls ++ call ∷ [])
grown_size call calls old clear mid new size (inl none) =
    ap length none.1 ∙ size ∙ ap (λ n. 2 + n) (sym (made_count_more calls call ∙ ap (λ o. made_count calls + made_now o) none.0 ∙ omega arith))
grown_size call calls old clear mid new size (inr made) =
    ap length made.new_is ∙ length-append mid (known_made old made.class clear call.body ∷ [])
    ∙ (let more : made_count (calls ++ call ∷ []) ≡ made_count calls + 1 = made_count_more calls call ∙ ap (λ o. made_count calls + made_now o) made.made in omega (arith, size, more))

pub remembers_more : (r : Rank) (calls : List Call) (call : Call) (old : Handles) (clear : Bool) (mid new : List Known) → HandlesStand r old calls → IsNext old.lives call → clear ≡ is_clear (facts_in old) call.body
    → Counts old call.body old.objects mid → Grows old clear call mid new → Remembers r new (calls ++ call ∷ [])
remembers_more r calls call old clear mid new s next is counts grows =
    let at = grown r calls call old clear mid new s next counts grows in
    record {
      size = grown_size call calls old clear mid new (counts.size ∙ s.objects.size) grows;
      comms = λ h. after calls call Comm h (comm_in new h) (counted_of r (calls ++ call ∷ []) h)
          (kept_there (life calls Comm h) (makes Comm h call) (ends (is_kept calls Comm h) Comm h call) (length calls) (comm_in old.objects h) (comm_in new h) (counted_of r calls h) (counted_of r (calls ++ call ∷ []) h) (s.objects.comms h)
          (λ t same. elim (at h) [ inl x ↦ comm_stays r calls call old new h s x same | inr c ↦ never_there (life calls Comm h) (c.never Comm) t ])
          (λ never named. elim (at h) [ inl x ↦ stays_true Comm h call (x.none Comm) named | inr c ↦ comm_comes r calls call old clear new h s c named ]));
      groups = λ h. after calls call Group h (group_in new h) (group_of r (calls ++ call ∷ []) h)
          (kept_there (life calls Group h) (makes Group h call) (ends (is_kept calls Group h) Group h call) (length calls) (group_in old.objects h) (group_in new h) (group_of r calls h) (group_of r (calls ++ call ∷ []) h) (s.objects.groups h)
          (λ t same. elim (at h) [ inl x ↦ group_stays r calls call old new h x same | inr c ↦ never_there (life calls Group h) (c.never Group) t ])
          (λ never named. elim (at h) [ inl x ↦ stays_true Group h call (x.none Group) named | inr c ↦ group_comes r calls call old clear new h s is c named ]));
      operations = λ h. operations_more calls call old clear new h (at h) (s.objects.operations h);
    }
