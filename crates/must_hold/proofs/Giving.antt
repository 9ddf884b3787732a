-- Giving the operations that are settled, up to the first that is open.
use Rattle.std.proofs.Common.{◌≡◌, ◌⊎◌, inl, inr, ℕ, zero, suc, ◌+◌, ◌<◌, ◌≤◌, ◌==◌, Bool, true, false, cond, List, [], ◌∷◌, ◌++◌, length, drop, Option, Some, None, refl, ap, sym, subst, ◌∙◌, arith, eqb-true, append_assoc}
use Rattle.std.proofs.lemmas.Bool.{eqb-false, ltb-true, lt-ltb}
use Rattle.std.specs.Prelude.{◌&&◌, nat_lt, map, filter_map, option_map, option_to_list, slice_get}
use Rattle.std.specs.List.{cons_option}
use Rattle.std.specs.Ordering.{nat_cmp}
use Rattle.std.specs.BTreeMap.{get}
use Rattle.std.proofs.lemmas.List.{map-append, append-nil}
use Rattle.must_call.specs.declared.call.Call.{Call}
use Rattle.must_p2p.specs.declared.item.MsgItem.{MsgItem}
use Rattle.must_entry.specs.declared.entry.Entry.{Entry}
use Rattle.must_entry.specs.declared.entry.Entry.TheVariants.{Message}
use Rattle.must_rules.specs.Rank.{Rank}
use Rattle.must_messages.specs.PlainLaws.{no_some, same_some, both}
use Rattle.must_rules.specs.Operations.{Operation}
use Rattle.must_messages.specs.MessageItems.{Item, item_seen, item_of}
use Rattle.must_messages.specs.Holding.{front, is_settled, is_known}
use Rattle.must_rules.specs.Fates.{Open as StillOpen, fate_of}
use Rattle.must_hold.specs.declared.held.Held.{Held}
use Rattle.must_hold.specs.declared.held.Held.TheVariants.{Open, Settled}
use Rattle.must_hold.specs.declared.table.Table.{Table}
use Rattle.must_hold.specs.Queue.{Shows, Holds, IsHeldAt}
use Rattle.must_hold.specs.Changes.{IsPut, GivesOne, GivesFront, Giving, is_over, may_give}

pub drop_at : {X : Type 0} (xs : List X) (n : ℕ) (x : X) → slice_get xs n ≡ Some x → drop n xs ≡ x ∷ drop (suc n) xs
drop_at [] n x e = no_some x e
drop_at {X} (y ∷ xs) zero x e = ap (λ (z : X). z ∷ xs) (same_some y x e)
drop_at (y ∷ xs) (suc n) x e = drop_at xs n x e

pub drop_none : {X : Type 0} (xs : List X) (n : ℕ) → slice_get xs n ≡ None → drop n xs ≡ []
drop_none [] zero e = refl
drop_none [] (suc n) e = refl
drop_none (y ∷ xs) zero e = let no : Some y ≡ None = e in absurd cc
drop_none (y ∷ xs) (suc n) e = drop_none xs n e

pub get_there : {X : Type 0} (xs : List X) (n : ℕ) → n < length xs → (x : X) × (slice_get xs n ≡ Some x)
get_there [] n h = absurd (omega arith)
get_there (x ∷ xs) zero h = (x, refl)
get_there (x ∷ xs) (suc n) h = get_there xs n (omega arith)

module _ (r : Rank) (calls : List Call) (ops : List Operation) where
  abbrev rest : ℕ → List Operation
  rest given = front (is_known calls) (drop given ops)

  pub first : (old : Table) (entries : List Entry) → Holds r calls ops old → Giving r calls ops old old entries entries
  first old entries h = record { items = []; entries_are = sym (append-nil entries); items_are = refl; given = refl; holds = h }

  front_one : (op : Operation) (xs : List Operation) → is_known calls op ≡ true → front (is_known calls) (op ∷ xs) ≡ op ∷ front (is_known calls) xs
  front_one op xs e = ap (λ (b : Bool). cond b (op ∷ front (is_known calls) xs) []) e

  front_none : (op : Operation) (xs : List Operation) → is_known calls op ≡ false → front (is_known calls) (op ∷ xs) ≡ []
  front_none op xs e = ap (λ (b : Bool). cond b (op ∷ front (is_known calls) xs) []) e

  items_of_option : (item : Option MsgItem) (is : List Item) → cons_option (option_map item_seen item) is ≡ map item_seen (option_to_list item) ++ is
  items_of_option None is = refl
  items_of_option (Some item) is = refl

  -- without the one that is given
  holds_next : (old new : Table) (item : Option MsgItem) (before after : List Entry) → Holds r calls ops old → GivesOne item old new before after → get nat_cmp old.held old.given ≡ Some (Settled item) → old.given < length ops → Holds r calls ops new
  holds_next old new item before after h g here inside = record {
    count = g.count ∙ h.count;
    few = let e = g.given in omega (arith, e, inside);
    each = λ n op there given.
        let one = h.each n op there (omega (arith, given, g.given)) in
        record { one = one.one; there = g.held.others n (λ same. omega (arith, same, given, g.given)) ∙ one.there; shows = one.shows };
    past = λ n more. g.held.others n (λ same. omega (arith, same, more, inside)) ∙ h.past n more;
    before = λ n op there less. known n op there (n == old.given) refl (omega (arith, less, g.given));
    sound = λ q n e. h.sound q n (sym (g.numbers q) ∙ e);
    whole = λ q n o. g.numbers q ∙ h.whole q n o;
  }
    where
      known : (n : ℕ) (op : Operation) → slice_get ops n ≡ Some op → (b : Bool) → (n == old.given) ≡ b → n ≤ old.given → is_known calls op ≡ true
      known n op there true same less =
          let is : n ≡ old.given = eqb-true n old.given same in
          let one = h.each n op there (omega (arith, is)) in
          let settled : one.one ≡ Settled item = same_some one.one (Settled item) (sym one.there ∙ ap (get nat_cmp old.held) is ∙ here) in
          (subst (λ (x : Held). Shows r calls x op) settled one.shows).0
      known n op there false other less = let apart = eqb-false n old.given other in h.before n op there (omega (arith, less, apart))

  pub next : (start old new : Table) (item : Option MsgItem) (entries before after : List Entry) → Giving r calls ops start old entries before → get nat_cmp old.held old.given ≡ Some (Settled item) → old.given < old.count → GivesOne item old new before after
      → Giving r calls ops start new entries after
  next start old new item entries before after s here less g =
      let inside : old.given < length ops = omega (arith, less, s.holds.count) in
      let op = get_there ops old.given inside in
      let one = s.holds.each old.given op.0 op.1 (omega arith) in
      let settled : one.one ≡ Settled item = same_some one.one (Settled item) (sym one.there ∙ here) in
      let shows = subst (λ (x : Held). Shows r calls x op.0) settled one.shows in
      let more : rest old.given ≡ op.0 ∷ rest new.given =
      ap (front (is_known calls)) (drop_at ops old.given op.0 op.1) ∙ front_one op.0 (drop (suc old.given) ops) shows.0 ∙ ap (λ (k : ℕ). op.0 ∷ rest k) (sym g.given) in
      record {
        items = s.items ++ option_to_list item;
        entries_are = g.entries ∙ ap (λ (es : List Entry). es ++ map Message (option_to_list item)) s.entries_are ∙ append_assoc entries (map Message s.items) (map Message (option_to_list item))
            ∙ ap (λ (es : List Entry). entries ++ es) (sym (map-append Message s.items (option_to_list item)));
        items_are =
            ap (λ (is : List Item). is ++ filter_map (item_of r calls) (rest new.given)) (map-append item_seen s.items (option_to_list item))
            ∙ append_assoc (map item_seen s.items) (map item_seen (option_to_list item)) (filter_map (item_of r calls) (rest new.given))
            ∙ ap (λ (is : List Item). map item_seen s.items ++ is) (sym (items_of_option item (filter_map (item_of r calls) (rest new.given))) ∙ ap (λ (i : Option Item). cons_option i (filter_map (item_of r calls) (rest new.given))) shows.1
            ∙ sym (ap (filter_map (item_of r calls)) more))
            ∙ s.items_are;
        given = let e = s.given in let l = ap length more in omega (arith, e, l, g.given);
        holds = holds_next old new item before after s.holds g here inside;
      }

  -- nothing more can be given
  stops : (t : Table) → Holds r calls ops t → ((t.given < t.count → ⊥) ⊎ (is_over (get nat_cmp t.held t.given) ≡ false)) → rest t.given ≡ []
  stops t h cases = at (slice_get ops t.given) refl cases
    where
      open_one : (op : Operation) (one : Held) → Shows r calls one op → is_over (Some one) ≡ false → is_known calls op ≡ false
      open_one op (Open p) s e = ap is_settled s.2
      open_one op (Settled item) s e = let no : true ≡ false = e in absurd cc

      at : (o : Option Operation) → slice_get ops t.given ≡ o → ((t.given < t.count → ⊥) ⊎ (is_over (get nat_cmp t.held t.given) ≡ false)) → rest t.given ≡ []
      at None e c = ap (front (is_known calls)) (drop_none ops t.given e)
      at (Some op) e (inl past) = absurd (past (let inside = Rattle.must_hold.specs.ActiveLaws.get_within ops t.given op e in omega (arith, inside, h.count)))
      at (Some op) e (inr over) =
          let one = h.each t.given op e (omega arith) in
          ap (front (is_known calls)) (drop_at ops t.given op e) ∙ front_none op (drop (suc t.given) ops) (open_one op one.one one.shows (sym (ap is_over one.there) ∙ over))

  pub last : (start end : Table) (entries after : List Entry) → Giving r calls ops start end entries after → ((end.given < end.count → ⊥) ⊎ (is_over (get nat_cmp end.held end.given) ≡ false)) → GivesFront r calls ops start end entries after
  last start end entries after s cases =
      let none = stops end s.holds cases in
      record {
        items = s.items;
        entries = s.entries_are;
        items_are = sym (append-nil (map item_seen s.items)) ∙ sym (ap (λ (xs : List Operation). map item_seen s.items ++ filter_map (item_of r calls) xs) none) ∙ s.items_are;
        given = let e = s.given in let l = ap length none in omega (arith, e, l);
        holds = s.holds;
      }

over_item : (o : Option Held) → is_over o ≡ true → (item : Option MsgItem) × (o ≡ Some (Settled item))
over_item None e = absurd (let no : false ≡ true = e in cc)
over_item (Some (Open p)) e = absurd (let no : false ≡ true = e in cc)
over_item (Some (Settled item)) e = (item, refl)

pub may : (t : Table) → may_give t ≡ true → (t.given < t.count) × ((item : Option MsgItem) × (get nat_cmp t.held t.given ≡ Some (Settled item)))
may t e = let p = both (nat_lt t.given t.count) (is_over (get nat_cmp t.held t.given)) e in (ltb-true t.given t.count p.0, over_item (get nat_cmp t.held t.given) p.1)

pub may_not : (t : Table) → may_give t ≡ false → ((t.given < t.count → ⊥) ⊎ (is_over (get nat_cmp t.held t.given) ≡ false))
may_not t e = at (nat_lt t.given t.count) refl e
  where
    at : (b : Bool) → nat_lt t.given t.count ≡ b → (b && is_over (get nat_cmp t.held t.given)) ≡ false → ((t.given < t.count → ⊥) ⊎ (is_over (get nat_cmp t.held t.given) ≡ false))
    at true f g = inr g
    at false f g = inl (λ less. let no : true ≡ false = sym (lt-ltb t.given t.count less) ∙ f in cc)
