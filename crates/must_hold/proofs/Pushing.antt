-- One operation more in a table.
use Rattle.std.proofs.Common.{◌≡◌, ℕ, suc, ◌<◌, ◌≤◌, ◌==◌, Bool, true, false, List, [], ◌∷◌, ◌++◌, length, Option, Some, None, refl, ap, sym, subst, ◌∙◌, ◌⊎◌, inl, inr, arith, eqb-true, length-append}
use Rattle.std.proofs.lemmas.Bool.{eqb-false}
use Rattle.std.specs.Prelude.{slice_get}
use Rattle.std.specs.Ordering.{nat_cmp}
use Rattle.std.specs.BTreeMap.{BTreeMap, get}
use Rattle.must_call.specs.declared.call.Call.{Call}
use Rattle.must_rules.specs.Rank.{Rank}
use Rattle.must_messages.specs.PlainLaws.{no_some, same_some}
use Rattle.must_rules.specs.Operations.{Operation}
use Rattle.must_rules.specs.Fates.{Open as StillOpen, fate_of}
use Rattle.must_messages.specs.Holding.{is_settled, is_known}
use Rattle.must_hold.specs.declared.held.Pending.{Pending}
use Rattle.must_hold.specs.declared.held.Held.{Held}
use Rattle.must_hold.specs.declared.held.Held.TheVariants.{Open, Settled}
use Rattle.must_hold.specs.declared.table.Table.{Table}
use Rattle.must_hold.specs.Queue.{Shows, IsOpenAt, IsHeldAt, Holds}
use Rattle.must_hold.specs.Changes.{IsPut, AreSame, IsNoted, Pushes}
use Rattle.must_hold.specs.ActiveLaws.{get_append, get_within, get_last, get_either}

module _ (r : Rank) (now : List Call) (ops : List Operation) (op : Operation) (n : ℕ) (one : Held) (request : Option ℕ) (old new : Table) where
  pub pushed : Holds r now ops old → old.given ≤ length ops → Pushes n one request old new → Shows r now one op
      → ((q : ℕ) → request ≡ Some q → (op.request ≡ Some q) × (fate_of now op ≡ StillOpen))
      → ((q : ℕ) → op.request ≡ Some q → fate_of now op ≡ StillOpen → request ≡ Some q)
      → ((q m : ℕ) → request ≡ Some q → IsOpenAt now ops q m → ⊥)
      → Holds r now (ops ++ op ∷ []) new
  pushed h few p shows opens named apart = record {
    count = p.count ∙ ap suc h.count ∙ sym (long ops);
    few = let g = p.given in omega (arith, few, g, long ops);
    each = λ m x there given. held_at m x (get_either ops op m x there) (subst (λ (g : ℕ). g ≤ m) p.given given);
    past = λ m more. p.held.others m (λ same. omega (arith, more, same, h.count, long ops)) ∙ h.past m (omega (arith, more, long ops));
    before = λ m x there less. known m x (get_either ops op m x there) (subst (λ (g : ℕ). m < g) p.given less);
    sound = λ q m e. by_number q m request refl p.numbers e;
    whole = λ q m o. whole_at q m o (get_either ops op m o.op o.there);
  }
    where
      long : (xs : List Operation) → length (xs ++ op ∷ []) ≡ suc (length xs)
      long [] = refl
      long (x ∷ xs) = ap suc (long xs)

      not_here : (m : ℕ) (x : Operation) → slice_get ops m ≡ Some x → m ≡ old.count → ⊥
      not_here m x there same = let inside = get_within ops m x there in omega (arith, inside, same, h.count)

      held_at : (m : ℕ) (x : Operation) → (slice_get ops m ≡ Some x) ⊎ ((m ≡ length ops) × (x ≡ op)) → old.given ≤ m → IsHeldAt r now new.held m x
      held_at m x (inl there) given = let was = h.each m x there given in record { one = was.one; there = p.held.others m (not_here m x there) ∙ was.there; shows = was.shows }
      held_at m x (inr last) given = record { one = one; there = ap (get nat_cmp new.held) (last.0 ∙ sym h.count) ∙ p.held.here; shows = subst (Shows r now one) (sym last.1) shows }

      known : (m : ℕ) (x : Operation) → (slice_get ops m ≡ Some x) ⊎ ((m ≡ length ops) × (x ≡ op)) → m < old.given → is_known now x ≡ true
      known m x (inl there) less = h.before m x there less
      known m x (inr last) less = let at = last.0 in absurd (omega (arith, at, less, few))

      old_one : (q m : ℕ) → get nat_cmp old.numbers q ≡ Some m → IsOpenAt now (ops ++ op ∷ []) q m
      old_one q m e = let was = h.sound q m e in record { op = was.op; there = get_append ops (op ∷ []) m was.op was.there; request_is = was.request_is; is_open = was.is_open }

      by_number : (q m : ℕ) (o : Option ℕ) → request ≡ o → IsNoted old.count o old.numbers new.numbers → get nat_cmp new.numbers q ≡ Some m → IsOpenAt now (ops ++ op ∷ []) q m
      by_number q m None is same e = old_one q m (sym (same q) ∙ e)
      by_number q m (Some k) is put e = at (q == k) refl
        where
          at : (b : Bool) → (q == k) ≡ b → IsOpenAt now (ops ++ op ∷ []) q m
          at true same =
              let eq : q ≡ k = eqb-true q k same in
              let here = opens k is in
              let place : old.count ≡ m = same_some old.count m (sym put.here ∙ sym (ap (get nat_cmp new.numbers) eq) ∙ e) in
              record { op = op; there = ap (slice_get (ops ++ op ∷ [])) (sym place ∙ h.count) ∙ get_last ops op; request_is = here.0 ∙ ap Some (sym eq); is_open = here.1 }
          at false other = old_one q m (sym (put.others q (eqb-false q k other)) ∙ e)

      whole_at : (q m : ℕ) (o : IsOpenAt now (ops ++ op ∷ []) q m) → (slice_get ops m ≡ Some o.op) ⊎ ((m ≡ length ops) × (o.op ≡ op)) → get nat_cmp new.numbers q ≡ Some m
      whole_at q m o (inl there) =
          let was : IsOpenAt now ops q m = record { op = o.op; there = there; request_is = o.request_is; is_open = o.is_open } in
          at request refl p.numbers was
        where
          at : (x : Option ℕ) → request ≡ x → IsNoted old.count x old.numbers new.numbers → IsOpenAt now ops q m → get nat_cmp new.numbers q ≡ Some m
          at None is same was = same q ∙ h.whole q m was
          at (Some k) is put was = put.others q (λ same. apart q m (is ∙ ap Some (sym same)) was) ∙ h.whole q m was
      whole_at q m o (inr last) = at request (named q (sym (ap (λ (x : Operation). x.request) last.1) ∙ o.request_is) (sym (ap (fate_of now) last.1) ∙ o.is_open)) p.numbers
        where
          at : (x : Option ℕ) → x ≡ Some q → IsNoted old.count x old.numbers new.numbers → get nat_cmp new.numbers q ≡ Some m
          at None is same = no_some q is
          at (Some k) is put = let eq : k ≡ q = same_some k q is in ap (get nat_cmp new.numbers) (sym eq) ∙ put.here ∙ ap Some (h.count ∙ sym last.0)
