-- A place has one item, a receive has one match, and a place has at most one row of a rule.
use Rattle.std.proofs.Common.{◌≡◌, List, [], ◌∷◌, Some, None, Less, Equal, refl, sym, ap, subst, ◌∙◌, inl, inr}
use Rattle.std.specs.Prelude.{slice_get, ◌⊎◌}
use Rattle.std.specs.Ordering.{nat_cmp, ordering_then}
use Rattle.std.proofs.lemmas.Cmp.{nat_cmp_total, tied_itself}
use Rattle.must_base.specs.Listing.{Has}
use Rattle.must_base.specs.ListingLaws.{all_has}
use Rattle.must_find.specs.declared.rule.Rule.{Rule}
use Rattle.must_find.specs.declared.rule.Rule.TheVariants.{M1, M2, M3, M4}
use Rattle.must_find.specs.declared.finding.Finding.{Finding}
use Rattle.must_p2p.specs.declared.side.Side.{Side}
use Rattle.must_p2p.specs.declared.side.Side.TheVariants.{Send, Receive, Probe}
use Rattle.must_p2p.specs.declared.item.MsgItem.{MsgItem}
use Rattle.must_sig.specs.declared.fit.Fit.{Fit}
use Rattle.must_sig.specs.declared.fit.Fit.TheVariants.{Fits, Differs, TooLong}
use Rattle.must_p2p.specs.Items.{Class, class_of, spot_cmp, lane, number, InOrder, Orderly}
use Rattle.must_p2p.specs.MessageRules.{fit_of, broken, match_finding, lone, lone_finding}
use Rattle.must_p2p.specs.Matching.{IsMatch, IsMatchRow, IsLoneRow, IsMessageRow}
use Rattle.must_p2p.specs.LaneLaws.{some_is}
use Rattle.must_p2p.specs.MatchLaws.{send_place, receive_place}

spot_equal : (x y : MsgItem) → x.place.call ≡ y.place.call → x.part ≡ y.part → spot_cmp x y ≡ Equal
spot_equal x y c p =
    ap (λ n. ordering_then (nat_cmp x.place.call n) (nat_cmp x.part y.part)) (sym c) ∙ ap (λ o. ordering_then o (nat_cmp x.part y.part)) (tied_itself nat_cmp_total x.place.call)
    ∙ ap (λ n. nat_cmp x.part n) (sym p) ∙ tied_itself nat_cmp_total x.part

apart : (x y : MsgItem) → x.place.call ≡ y.place.call → x.part ≡ y.part → spot_cmp x y ≡ Less → ⊥
apart x y c p less = let n : Equal ≡ Less = sym (spot_equal x y c p) ∙ less in cc

-- at one place stands one item
pub place_one : (items : List MsgItem) (x y : MsgItem) → InOrder items → Has items x → Has items y → x.place.rank ≡ y.place.rank → x.place.call ≡ y.place.call → x.part ≡ y.part → x ≡ y
place_one [] x y o h k r c p = absurd h
place_one (z ∷ zs) x y o (inl e) (inl f) r c p = e ∙ sym f
place_one (z ∷ zs) x y o (inl e) (inr k) r c p =
    let less = all_has (λ w. z.place.rank ≡ w.place.rank → spot_cmp z w ≡ Less) zs y o.0 k in
    absurd (apart x y c p (subst (λ (w : MsgItem). w.place.rank ≡ y.place.rank → spot_cmp w y ≡ Less) (sym e) less r))
place_one (z ∷ zs) x y o (inr h) (inl f) r c p =
    let less = all_has (λ w. z.place.rank ≡ w.place.rank → spot_cmp z w ≡ Less) zs x o.0 h in
    absurd (apart y x (sym c) (sym p) (subst (λ (w : MsgItem). w.place.rank ≡ x.place.rank → spot_cmp w x ≡ Less) (sym f) less (sym r)))
place_one (z ∷ zs) x y o (inr h) (inr k) r c p = place_one zs x y o.1 h k r c p

-- a receive matches one send
pub send_one : (items : List MsgItem) (s t r : MsgItem) → Orderly items → IsMatch items s r → IsMatch items t r → s ≡ t
send_one items s t r o m n =
    let c : class_of s ≡ class_of t = m.one_class ∙ sym n.one_class in
    let k : number items s ≡ number items t = m.one_number ∙ sym n.one_number in
    some_is s t (sym (send_place items s r o m) ∙ ap (λ (w : Class). slice_get (lane w Send items) (number items s)) c ∙ ap (λ i. slice_get (lane (class_of t) Send items) i) k ∙ send_place items t r o n)

-- and a send one receive
pub receive_one : (items : List MsgItem) (s r t : MsgItem) → Orderly items → IsMatch items s r → IsMatch items s t → r ≡ t
receive_one items s r t o m n = some_is r t (sym (receive_place items s r o m) ∙ receive_place items s t o n)

-- where a finding of an item stands
pub record IsFoundAt (x : MsgItem) (f : Finding) : Type 0 where
  pub rank : f.rank ≡ x.place.rank
  pub call : f.call ≡ x.place.call
  pub part : f.part ≡ x.part

finding_is : (f g : Finding) → Some f ≡ Some g → f ≡ g
finding_is f g e = cc

no_finding : (f : Finding) → None ≡ Some f → ⊥
no_finding f e = cc

at_finding : (x : MsgItem) (f g : Finding) → f ≡ g → IsFoundAt x f → IsFoundAt x g
at_finding x f g e s = record { rank = sym (ap (λ (w : Finding). w.rank) e) ∙ s.rank; call = sym (ap (λ (w : Finding). w.call) e) ∙ s.call; part = sym (ap (λ (w : Finding). w.part) e) ∙ s.part }

match_at : (v : Fit) (s r : MsgItem) (f : Finding) → broken v s.place r.place r.part ≡ Some f → IsFoundAt r f × ((f.rule ≡ M1) ⊎ (f.rule ≡ M2))
match_at Fits s r f e = absurd (no_finding f e)
match_at (Differs n) s r f e = let same = finding_is _ f e in (at_finding r _ f same (record { rank = refl; call = refl; part = refl }), inl (sym (ap (λ (w : Finding). w.rule) same)))
match_at (TooLong n) s r f e = let same = finding_is _ f e in (at_finding r _ f same (record { rank = refl; call = refl; part = refl }), inr (sym (ap (λ (w : Finding). w.rule) same)))

lone_at : (t : Side) (x : MsgItem) (f : Finding) → lone t x.place x.part ≡ Some f → IsFoundAt x f × ((f.rule ≡ M3) ⊎ (f.rule ≡ M4))
lone_at Send x f e = let same = finding_is _ f e in (at_finding x _ f same (record { rank = refl; call = refl; part = refl }), inl (sym (ap (λ (w : Finding). w.rule) same)))
lone_at Receive x f e = let same = finding_is _ f e in (at_finding x _ f same (record { rank = refl; call = refl; part = refl }), inr (sym (ap (λ (w : Finding). w.rule) same)))
lone_at Probe x f e = absurd (no_finding f e)

rules_apart : (a b : Rule) → ((a ≡ M1) ⊎ (a ≡ M2)) → ((b ≡ M3) ⊎ (b ≡ M4)) → a ≡ b → ⊥
rules_apart a b (inl p) (inl q) e = let n : M1 ≡ M3 = sym p ∙ e ∙ q in cc
rules_apart a b (inl p) (inr q) e = let n : M1 ≡ M4 = sym p ∙ e ∙ q in cc
rules_apart a b (inr p) (inl q) e = let n : M2 ≡ M3 = sym p ∙ e ∙ q in cc
rules_apart a b (inr p) (inr q) e = let n : M2 ≡ M4 = sym p ∙ e ∙ q in cc

-- two findings at one place under one rule
pub record SameSpot (f g : Finding) : Type 0 where
  pub rank : f.rank ≡ g.rank
  pub call : f.call ≡ g.call
  pub rule : f.rule ≡ g.rule
  pub part : f.part ≡ g.part

item_one : (items : List MsgItem) (x y : MsgItem) (f g : Finding) → Orderly items → Has items x → Has items y → IsFoundAt x f → IsFoundAt y g → SameSpot f g → x ≡ y
item_one items x y f g o h k a b s = place_one items x y o.rising h k (sym a.rank ∙ s.rank ∙ b.rank) (sym a.call ∙ s.call ∙ b.call) (sym a.part ∙ s.part ∙ b.part)

match_rows_one : (items : List MsgItem) (f g : Finding) → Orderly items → IsMatchRow items f → IsMatchRow items g → SameSpot f g → f ≡ g
match_rows_one items f g o a b s =
    let p = match_at (fit_of a.send.sig a.receive.sig) a.send a.receive f a.gives in
    let q = match_at (fit_of b.send.sig b.receive.sig) b.send b.receive g b.gives in
    let r : a.receive ≡ b.receive = item_one items a.receive b.receive f g o a.is_match.receive_there b.is_match.receive_there p.0 q.0 s in
    let t : a.send ≡ b.send = send_one items a.send b.send b.receive o (subst (λ (w : MsgItem). IsMatch items a.send w) r a.is_match) b.is_match in
    finding_is f g (sym a.gives ∙ ap (λ (w : MsgItem). match_finding w a.receive) t ∙ ap (λ (w : MsgItem). match_finding b.send w) r ∙ b.gives)

lone_rows_one : (items : List MsgItem) (f g : Finding) → Orderly items → IsLoneRow items f → IsLoneRow items g → SameSpot f g → f ≡ g
lone_rows_one items f g o a b s =
    let p = lone_at a.item.side a.item f a.gives in
    let q = lone_at b.item.side b.item g b.gives in
    let x : a.item ≡ b.item = item_one items a.item b.item f g o a.there b.there p.0 q.0 s in
    finding_is f g (sym a.gives ∙ ap lone_finding x ∙ b.gives)

-- the rows M1 to M4 have at most one finding at a rank, call, rule and part
pub message_rows_one : (items : List MsgItem) (f g : Finding) → Orderly items → IsMessageRow items f → IsMessageRow items g → SameSpot f g → f ≡ g
message_rows_one items f g o (inl a) (inl b) s = match_rows_one items f g o a b s
message_rows_one items f g o (inr a) (inr b) s = lone_rows_one items f g o a b s
message_rows_one items f g o (inl a) (inr b) s = absurd (rules_apart f.rule g.rule (match_at (fit_of a.send.sig a.receive.sig) a.send a.receive f a.gives).1 (lone_at b.item.side b.item g b.gives).1 s.rule)
message_rows_one items f g o (inr a) (inl b) s = absurd (rules_apart g.rule f.rule (match_at (fit_of b.send.sig b.receive.sig) b.send b.receive g b.gives).1 (lone_at a.item.side a.item f a.gives).1 (sym s.rule))
