-- Which buffers are usable, and what their types are in the table.
use Rattle.std.proofs.Common.{◌≡◌, ℕ, ◌+◌, Bool, true, false, ◌&&◌, ◌||◌, List, Option, Some, None, refl, sym, ap, subst, ◌∙◌, nat_eq}
use Rattle.std.specs.Prelude.{nat_le, if◌then◌else◌, is_some, ℤ}
use Rattle.std.specs.Option.{IsSome, option_map}
use Rattle.must_call.specs.declared.life.Life.{Life}
use Rattle.must_call.specs.declared.life.Life.TheVariants.{Never, Live, Freed, Predefined}
use Rattle.must_call.specs.declared.field.Side.{Side}
use Rattle.must_call.specs.declared.field.Side.TheVariants.{Send, Receive, Both}
use Rattle.must_type.specs.declared.construct.TypeNo.{TypeNo}
use Rattle.must_type.specs.Tree.{TypeTree}
use Rattle.must_type.specs.Table.{tree_at}
use Rattle.must_rules.specs.Significant.{is_receive, comm_of}
use Rattle.must_call.specs.declared.field.Field.TheVariants.{Buffer}
use Rattle.must_call.specs.declared.body.Body.{Body}
use Rattle.must_call.specs.Bodies.{inputs_of}
use Rattle.must_rules.specs.Facts.{Facts, Comm}
use Rattle.must_rules.specs.UsableParts.{is_usable, usable_parts}
use Rattle.must_rules.specs.Breaches as breaches
use Rattle.must_rules.specs.Breaches.{part_of, part_in}
use Rattle.must_rules.specs.Parts.{Part, Layout, with_both, part_at, part_told, datatype_of}
use Rattle.must_derived.specs.Standing.{Fits, Suits}
use Rattle.must_parts.specs.declared.scope.Seats.{Seats}
use Rattle.must_parts.specs.Scopes.{seats_of}
use Rattle.must_parts.specs.Telling.{IsAlike, IsTold, IsToldOf}
use Rattle.must_parts.specs.declared.told.Told.{Told}

-- ---- bits of usable parts

abbrev pub bits : Bool → Bool → ℕ
bits a b = (if a then 1 else 0) + (if b then 2 else 0)

abbrev pub has : ℕ → Bool → Bool
has parts second = if second then nat_le 2 parts else (nat_eq parts 1 || nat_eq parts 3)

pub has_first : (a b : Bool) → has (bits a b) false ≡ a
has_first true true = refl
has_first true false = refl
has_first false true = refl
has_first false false = refl

pub has_second : (a b : Bool) → has (bits a b) true ≡ b
has_second true true = refl
has_second true false = refl
has_second false true = refl
has_second false false = refl

-- the part of a side, by whether the call sends
pub has_part_is : (usable : ℕ → Bool) (sends : Bool) (s : Side) → has (bits (usable 0) (usable 1)) (sends && is_receive s) ≡ usable (part_of sends s)
has_part_is usable true Receive = has_second (usable 0) (usable 1)
has_part_is usable true Send = has_first (usable 0) (usable 1)
has_part_is usable true Both = has_first (usable 0) (usable 1)
has_part_is usable false s = has_first (usable 0) (usable 1)

-- the bit of a buffer's part says whether it is usable
pub buffer_usable : (facts : Facts) (sound : ℕ → Bool) (b : Body) (sends : Bool) (s : Side) (n : ℕ) → sends ≡ breaches.sends (inputs_of b) → n ≡ usable_parts facts sound b
    → has n (sends && is_receive s) ≡ is_usable facts sound b (part_in b (Buffer s))
buffer_usable facts sound b sends s n sends_is n_is =
    ap (λ (m : ℕ). has m (sends && is_receive s)) n_is
    ∙ has_part_is (λ part. is_usable facts sound b part) sends s
    ∙ ap (λ (q : Bool). is_usable facts sound b (part_of q s)) sends_is

pub number_is : (sends : Bool) (s : Side) → (if (sends && is_receive s) then 1 else 0) ≡ part_of sends s
number_is true Receive = refl
number_is true Send = refl
number_is true Both = refl
number_is false s = refl

-- ---- types

-- the table has a type like that which a handle stands for
pub record HasLike (slots : List (Option TypeTree)) (n : TypeNo) (o : Option TypeTree) : Type 0 where
  pub held : TypeTree
  pub held_is : tree_at slots n.number ≡ Some held
  pub stands_for : TypeTree
  pub stands_is : o ≡ Some stands_for
  pub alike : IsAlike held stands_for

like_by : (slots : List (Option TypeTree)) (n : TypeNo) (life : Life) (t : TypeTree) → Suits (tree_at slots n.number) life (Some t) → IsSome (tree_at slots n.number) → HasLike slots n (Some t)
like_by slots n (Live made) t s live = record { held = s.held; held_is = s.at_is; stands_for = t; stands_is = refl; alike = record { map_is = s.like.map; weight_is = s.like.weight } }
like_by slots n Predefined t s live = record { held = t; held_is = s.0; stands_for = t; stands_is = refl; alike = record { map_is = refl; weight_is = refl } }
like_by slots n (Freed made freed) t s live = let bad : IsSome {T = TypeTree} None = subst IsSome s live in absurd (cc (bad))
like_by slots n Never t s live = absurd s

pub has_like : (slots : List (Option TypeTree)) (n : TypeNo) (life : Life) (o : Option TypeTree) → Fits slots (Some n) life o → IsSome (tree_at slots n.number) → HasLike slots n o
has_like slots n life None f live = absurd f
has_like slots n life (Some t) f live = like_by slots n life t f live

-- ---- parts

none_by : (slots : List (Option TypeTree)) (u : Bool) (o : Option Part) → (u ≡ true → o ≡ None) → IsToldOf slots None (if u then o else None)
none_by slots true o e = subst (λ p. IsToldOf slots None p) (sym (e refl)) tt
none_by slots false o e = tt

both_none : {X Y Z : Type 0} (f : X → Y → Z) (o : Option X) → with_both f o None ≡ None
both_none f None = refl
both_none f (Some x) = refl

module _ (slots : List (Option TypeTree)) (facts : Facts) (types : ℕ → Option TypeTree) (b : Body) (s : Side) (address : ℕ) where
  pub told_unusable : is_usable facts (λ h. is_some (types h)) b (part_in b (Buffer s)) ≡ false → IsToldOf slots None (part_told facts types b (Buffer s) address)
  told_unusable e =
      none_by slots (is_usable facts (λ h. is_some (types h)) b (part_in b (Buffer s))) (with_both (part_at facts b s address) (comm_of facts b) (datatype_of types b s))
      (λ u. let bad : false ≡ true = sym e ∙ u in absurd cc)

  pub told_nowhere : comm_of facts b ≡ None → IsToldOf slots None (part_told facts types b (Buffer s) address)
  told_nowhere e =
      none_by slots (is_usable facts (λ h. is_some (types h)) b (part_in b (Buffer s))) (with_both (part_at facts b s address) (comm_of facts b) (datatype_of types b s))
      (λ u. ap (λ (o : Option Comm). with_both (part_at facts b s address) o (datatype_of types b s)) e)

  pub told_untyped : datatype_of types b s ≡ None → IsToldOf slots None (part_told facts types b (Buffer s) address)
  told_untyped e =
      none_by slots (is_usable facts (λ h. is_some (types h)) b (part_in b (Buffer s))) (with_both (part_at facts b s address) (comm_of facts b) (datatype_of types b s))
      (λ u. ap (with_both (part_at facts b s address) (comm_of facts b)) e ∙ both_none (part_at facts b s address) (comm_of facts b))

  pub told_usable : (told : Told) (comm : Comm) (t : TypeTree) → is_usable facts (λ h. is_some (types h)) b (part_in b (Buffer s)) ≡ true → comm_of facts b ≡ Some comm → datatype_of types b s ≡ Some t
      → IsTold slots told (part_at facts b s address comm t) → IsToldOf slots (Some told) (part_told facts types b (Buffer s) address)
  told_usable told comm t u c d is =
      let f = part_at facts b s address in
      let all : part_told facts types b (Buffer s) address ≡ Some (f comm t) =
      ap (λ (m : Bool). if m then with_both f (comm_of facts b) (datatype_of types b s) else None) u ∙ ap (λ (o : Option Comm). with_both f o (datatype_of types b s)) c ∙ ap (with_both f (Some comm)) d in
      subst (λ o. IsToldOf slots (Some told) o) (sym all) is

-- ---- communicators

pub no_seats : (comm : Option Comm) → option_map seats_of comm ≡ None → comm ≡ None
no_seats None e = refl
no_seats (Some c) e = absurd cc

-- the communicator that has these seats
pub record HasSeats (seats : Seats) (o : Option Comm) : Type 0 where
  pub comm : Comm
  pub is : o ≡ Some comm
  pub seats_are : seats ≡ seats_of comm

pub some_seats : (comm : Option Comm) (seats : Seats) → option_map seats_of comm ≡ Some seats → HasSeats seats comm
some_seats None seats e = absurd cc
some_seats (Some c) seats e = record { comm = c; is = refl; seats_are = cc }

-- ---- layouts

pub same_layout : (a e f : ℤ) (m n p q : ℕ) (x y : Bool) → e ≡ f → m ≡ n → p ≡ q → x ≡ y
    → ◌≡◌ {A = Layout} (record { address = a; extent = e; members = m; position = p; for_each = x }) (record { address = a; extent = f; members = n; position = q; for_each = y })
same_layout a e f m n p q x y h k l o = λ i. record { address = a; extent = h i; members = k i; position = l i; for_each = o i }
