-- Giving all that is held, when the calls end.
use Rattle.std.proofs.Common.{◌≡◌, ℕ, suc, ◌+◌, ◌<◌, ◌≤◌, Bool, true, false, List, [], ◌∷◌, ◌++◌, length, drop, Option, Some, None, refl, ap, sym, subst, ◌∙◌, arith, append_assoc}
use Rattle.std.specs.Prelude.{map, filter_map, option_map, slice_get}
use Rattle.std.specs.List.{cons_option}
use Rattle.std.specs.Option.{option_to_list}
use Rattle.std.specs.Ordering.{nat_cmp}
use Rattle.std.specs.BTreeMap.{get}
use Rattle.std.proofs.lemmas.List.{map-append, append-nil}
use Rattle.std.proofs.lemmas.Option.{slice_get_past}
use Rattle.must_call.specs.declared.call.Call.{Call}
use Rattle.must_p2p.specs.declared.item.MsgItem.{MsgItem}
use Rattle.must_entry.specs.declared.entry.Entry.{Entry}
use Rattle.must_entry.specs.declared.entry.Entry.TheVariants.{Message}
use Rattle.must_rules.specs.Rank.{Rank}
use Rattle.must_rules.specs.Operations.{Operation, operations_of}
use Rattle.must_rules.specs.Fates.{Fate, Open as StillOpen, fate_of}
use Rattle.must_rules.specs.Statuses.{is_cancelled, breaks_status_by, breaks_status}
use Rattle.must_messages.specs.MessageItems.{Item, item_seen, item_by, item_of}
use Rattle.must_messages.specs.Holding.{is_known, given, held, items_given}
use Rattle.must_messages.specs.HoldingLaws.{items_whole}
use Rattle.must_hold.specs.declared.held.Held.{Held}
use Rattle.must_hold.specs.declared.held.Held.TheVariants.{Open, Settled}
use Rattle.must_hold.specs.declared.table.Table.{Table}
use Rattle.must_hold.specs.Queue.{Shows, Holds, IsHeldAt}
use Rattle.must_hold.specs.Changes.{GivesOne, GivesAny, GivingRest, GivesAll, item_left, not_done}
use Rattle.must_hold.specs.Keeping.{GivesRest, GivesLast}
use Rattle.must_hold.proofs.Items.{item_is}
use Rattle.must_hold.proofs.Giving.{drop_at, drop_none, get_there}
use Rattle.must_hold.proofs.Taking.{no_rows, no_waves, no_needs, the_items, back_drop}

left_is : (r : Rank) (calls : List Call) (one : Held) (op : Operation) → Shows r calls one op → item_left r.rank (Some one) ≡ item_of r calls op
unfolding item_of breaks_status
left_is r calls (Settled item) op s = s.1
left_is r calls (Open p) op s =
    item_is r p op s.0 not_done StillOpen refl refl
    ∙ ap (λ (f : Fate). item_by r (is_cancelled op f) (breaks_status_by r calls op f) f op op.message.action op.message.envelope) (sym s.2)

items_of_option : (item : Option MsgItem) (is : List Item) → cons_option (option_map item_seen item) is ≡ map item_seen (option_to_list item) ++ is
items_of_option None is = refl
items_of_option (Some item) is = refl

module _ (r : Rank) (calls : List Call) (ops : List Operation) where
  pub rest_first : (old : Table) (entries : List Entry) → Holds r calls ops old → GivingRest r calls ops old old entries entries
  rest_first old entries h = record { items = []; entries_are = sym (append-nil entries); items_are = refl; count = h.count; each = h.each }

  pub rest_next : (rank : ℕ) (start old new : Table) (entries before after : List Entry) → r.rank ≡ rank → old.given < old.count → GivesAny rank old new before after → GivingRest r calls ops start old entries before → GivingRest r calls ops start new entries after
  rest_next rank start old new entries before after same less any s =
      let g = any.gives in
      let inside : old.given < length ops = omega (arith, less, s.count) in
      let op = get_there ops old.given inside in
      let one = s.each old.given op.0 op.1 (omega arith) in
      let item_now : option_map item_seen any.item ≡ item_of r calls op.0 =
      any.item_is ∙ ap (item_left rank) one.there ∙ ap (λ (n : ℕ). item_left n (Some one.one)) (sym same) ∙ left_is r calls one.one op.0 one.shows in
      let left = filter_map (item_of r calls) (drop new.given ops) in
      record {
        items = s.items ++ option_to_list any.item;
        entries_are = g.entries ∙ ap (λ (es : List Entry). es ++ map Message (option_to_list any.item)) s.entries_are ∙ append_assoc entries (map Message s.items) (map Message (option_to_list any.item))
            ∙ ap (λ (es : List Entry). entries ++ es) (sym (map-append Message s.items (option_to_list any.item)));
        items_are =
            ap (λ (is : List Item). is ++ left) (map-append item_seen s.items (option_to_list any.item))
            ∙ append_assoc (map item_seen s.items) (map item_seen (option_to_list any.item)) left
            ∙ ap (λ (is : List Item). map item_seen s.items ++ is)
            (sym (items_of_option any.item left) ∙ ap (λ (i : Option Item). cons_option i left) item_now
            ∙ ap (λ (k : ℕ). cons_option (item_of r calls op.0) (filter_map (item_of r calls) (drop k ops))) g.given
            ∙ sym (ap (filter_map (item_of r calls)) (drop_at ops old.given op.0 op.1)))
            ∙ s.items_are;
        count = g.count ∙ s.count;
        each = λ n x there above.
            let e = g.given in
            let was = s.each n x there (omega (arith, above, e)) in
            record { one = was.one; there = g.held.others n (λ is. omega (arith, is, above, e)) ∙ was.there; shows = was.shows };
      }

  pub rest_last : (start end : Table) (entries after : List Entry) → (end.given < end.count → ⊥) → GivingRest r calls ops start end entries after → GivesAll r calls ops start entries after
  rest_last start end entries after past s = record {
    items = s.items;
    entries_are = s.entries_are;
    items_are = sym (append-nil (map item_seen s.items)) ∙ sym (ap (λ (xs : List Operation). map item_seen s.items ++ filter_map (item_of r calls) xs) (drop_none ops end.given (none (slice_get ops end.given) refl))) ∙ s.items_are;
  }
    where
      none : (o : Option Operation) → slice_get ops end.given ≡ o → slice_get ops end.given ≡ None
      none None e = e
      none (Some op) e = absurd (past (let inside = Rattle.must_hold.specs.ActiveLaws.get_within ops end.given op e in omega (arith, inside, s.count)))

pub gives_last : (r : Rank) (calls : List Call) (old : Table) (before after : List Entry) → old.given ≡ length (given r calls) → GivesAll r calls (operations_of r calls) old before after → GivesLast r calls before after
gives_last r calls old before after same g = record {
  more = map Message g.items;
  entries = g.entries_are;
  gives = record {
    rows = no_rows g.items;
    waves = no_waves g.items;
    wants = no_needs g.items;
    items = items_whole r calls
        ∙ ap (λ (is : List Item). items_given r calls ++ is)
        (sym (g.items_are ∙ ap (λ (n : ℕ). filter_map (item_of r calls) (drop n (operations_of r calls))) same ∙ ap (filter_map (item_of r calls)) (back_drop (is_known calls) (operations_of r calls)))
        ∙ ap (map item_seen) (sym (the_items g.items)));
  };
}
