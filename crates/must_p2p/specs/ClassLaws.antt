-- Classes that compare as equal are equal, and items that come in order make chains of their lanes.
use Rattle.std.proofs.Common.{◌≡◌, true, false, List, [], ◌∷◌, ◌++◌, Ordering, Less, Equal, Greater, refl, sym, ap, ◌∙◌}
use Rattle.std.specs.Cmp.{IsTotalOrder}
use Rattle.std.specs.List.{AllByRecursion}
use Rattle.std.specs.Ordering.{nat_cmp, int_cmp, ordering_then, ordering_reverse, is_eq, is_lt}
use Rattle.std.specs.FinMap.{nat_cmp-IsAntisymmetric, int_cmp-IsAntisymmetric}
use Rattle.std.proofs.lemmas.Cmp.{nat_cmp_total, int_cmp_total, on_total, then_total, tied_itself}
use Rattle.std.proofs.lemmas.Bool.{and_parts, and_from}
use Rattle.must_p2p.specs.declared.side.Side.{Side}
use Rattle.must_p2p.specs.declared.side.Side.TheVariants.{Send, Receive, Probe}
use Rattle.must_p2p.specs.declared.item.MsgItem.{MsgItem}
use Rattle.must_p2p.specs.Items.{Class, class_of, class_cmp, spot_cmp, is_earlier, same_side, in_lane, end_of, IsPlaced, InOrder, Orderly}
use Rattle.must_p2p.specs.LaneLaws.{Chain, IsAfter, has_before}
use Rattle.must_group.specs.Names.{name_cmp}
use Rattle.must_group.specs.NameOrder.{name_total, name_same}

pub class_total : IsTotalOrder class_cmp
class_total =
    then_total (on_total (λ (c : Class). c.source) nat_cmp_total)
    (then_total (on_total (λ (c : Class). c.dest) nat_cmp_total) (then_total (on_total (λ (c : Class). c.tag) int_cmp_total) (on_total (λ (c : Class). c.name) name_total)))

pub spot_total : IsTotalOrder spot_cmp
spot_total = then_total (on_total (λ (x : MsgItem). x.place.call) nat_cmp_total) (on_total (λ (x : MsgItem). x.part) nat_cmp_total)

pub then_parts : (a b : Ordering) → ordering_then a b ≡ Equal → (a ≡ Equal) × (b ≡ Equal)
then_parts Less b e = cc
then_parts Equal b e = (refl, e)
then_parts Greater b e = cc

pub class_same : (a b : Class) → class_cmp a b ≡ Equal → a ≡ b
class_same a b e =
    let p = then_parts (nat_cmp a.source b.source) (ordering_then (nat_cmp a.dest b.dest) (ordering_then (int_cmp a.tag b.tag) (name_cmp a.name b.name))) e in
    let q = then_parts (nat_cmp a.dest b.dest) (ordering_then (int_cmp a.tag b.tag) (name_cmp a.name b.name)) p.1 in
    let r = then_parts (int_cmp a.tag b.tag) (name_cmp a.name b.name) q.1 in
    let source = nat_cmp-IsAntisymmetric a.source b.source p.0 in
    let dest = nat_cmp-IsAntisymmetric a.dest b.dest q.0 in
    let tag = int_cmp-IsAntisymmetric a.tag b.tag r.0 in
    let name = name_same a.name b.name r.1 in
    λ i. record { source = source i; dest = dest i; tag = tag i; name = name i }

pub eq_equal : (o : Ordering) → is_eq o ≡ true → o ≡ Equal
eq_equal Less e = cc
eq_equal Equal e = refl
eq_equal Greater e = cc

pub side_same : (s t : Side) → same_side s t ≡ true → t ≡ s
side_same Send Send e = refl
side_same Send Receive e = cc
side_same Send Probe e = cc
side_same Receive Send e = cc
side_same Receive Receive e = refl
side_same Receive Probe e = cc
side_same Probe Send e = cc
side_same Probe Receive e = cc
side_same Probe Probe e = refl

side_itself : (s : Side) → same_side s s ≡ true
side_itself Send = refl
side_itself Receive = refl
side_itself Probe = refl

-- what stands in a lane
pub in_lane_is : (c : Class) (side : Side) (x : MsgItem) → in_lane c side x ≡ true → (x.side ≡ side) × (c ≡ class_of x)
in_lane_is c side x e =
    let p = and_parts (same_side side x.side) (is_eq (class_cmp c (class_of x))) e in
    (side_same side x.side p.0, class_same c (class_of x) (eq_equal (class_cmp c (class_of x)) p.1))

pub in_lane_from : (c : Class) (side : Side) (x : MsgItem) → x.side ≡ side → c ≡ class_of x → in_lane c side x ≡ true
in_lane_from c side x s e =
    and_from (same_side side x.side) (is_eq (class_cmp c (class_of x))) (ap (same_side side) s ∙ side_itself side) (ap (λ (k : Class). is_eq (class_cmp c k)) (sym e) ∙ ap is_eq (tied_itself class_total c))

-- no item is earlier than itself
pub earlier_itself : (x : MsgItem) → is_earlier x x ≡ false
earlier_itself x = ap is_lt (tied_itself spot_total x)

same_end : (c : Class) (side : Side) (x y : MsgItem) → x.side ≡ side → y.side ≡ side → c ≡ class_of x → c ≡ class_of y → end_of x x.side ≡ end_of y y.side
same_end c Send x y p q e f = ap (end_of x) p ∙ sym (ap (λ (k : Class). k.source) e) ∙ ap (λ (k : Class). k.source) f ∙ sym (ap (end_of y) q)
same_end c Receive x y p q e f = ap (end_of x) p ∙ sym (ap (λ (k : Class). k.dest) e) ∙ ap (λ (k : Class). k.dest) f ∙ sym (ap (end_of y) q)
same_end c Probe x y p q e f = ap (end_of x) p ∙ sym (ap (λ (k : Class). k.dest) e) ∙ ap (λ (k : Class). k.dest) f ∙ sym (ap (end_of y) q)

after_of : (c : Class) (side : Side) (x y : MsgItem) → in_lane c side x ≡ true → IsPlaced x → IsPlaced y → (x.place.rank ≡ y.place.rank → spot_cmp x y ≡ Less) → IsAfter (in_lane c side) is_earlier x y
after_of c side x y px xp yp rises = λ py.
    let a = in_lane_is c side x px in
    let b = in_lane_is c side y py in
    let less = rises (xp ∙ same_end c side x y a.0 b.0 a.1 b.1 ∙ sym yp) in
    (ap is_lt less, ap is_lt (spot_total.antisymm y x ∙ ap ordering_reverse less))

after_all : (c : Class) (side : Side) (x : MsgItem) (xs : List MsgItem) → in_lane c side x ≡ true → IsPlaced x → AllByRecursion IsPlaced xs → AllByRecursion (λ y. x.place.rank ≡ y.place.rank → spot_cmp x y ≡ Less) xs → AllByRecursion (IsAfter (in_lane c side) is_earlier x) xs
after_all c side x [] px xp ps rises = tt
after_all c side x (y ∷ ys) px xp ps rises = (after_of c side x y px xp ps.0 rises.0, after_all c side x ys px xp ps.1 rises.1)

-- the lanes of items that come in order are chains
pub chain_of : (c : Class) (side : Side) (xs : List MsgItem) → AllByRecursion IsPlaced xs → InOrder xs → Chain (in_lane c side) is_earlier xs
chain_of c side [] ps rises = tt
chain_of c side (x ∷ xs) ps rises = (λ px. after_all c side x xs px ps.0 ps.1 rises.0, chain_of c side xs ps.1 rises.1)

all_front : {X : Type 0} (P : X → Type 0) (xs ys : List X) → AllByRecursion P (xs ++ ys) → AllByRecursion P xs
all_front P [] ys a = tt
all_front P (x ∷ xs) ys a = (a.0, all_front P xs ys a.1)

order_front : (xs ys : List MsgItem) → InOrder (xs ++ ys) → InOrder xs
order_front [] ys a = tt
order_front (x ∷ xs) ys a = (all_front (λ y. x.place.rank ≡ y.place.rank → spot_cmp x y ≡ Less) xs ys a.0, order_front xs ys a.1)

-- a front of items in order is in order
pub orderly_front : (xs ys : List MsgItem) → Orderly (xs ++ ys) → Orderly xs
orderly_front xs ys o = record { placed = all_front IsPlaced xs ys o.placed; rising = order_front xs ys o.rising; named = λ x y h k. o.named x y (has_before xs ys x h) (has_before xs ys y k) }
