-- Maps with one key put in or taken out.
use Rattle.std.proofs.Common.{◌≡◌, ℕ, Bool, true, false, cond, Option, Some, None, refl, sym, ap, subst, ◌∙◌, nat_eq, arith}
use Rattle.std.specs.Ordering.{nat_cmp}
use Rattle.std.specs.BTreeMap.{BTreeMap, get, is_at, IsEmpty, Updates}
use Rattle.std.specs.Map.{lookup}
use Rattle.std.proofs.lemmas.Bool.{ne_eqb}
use Rattle.must_args.proofs.Seen.{seen_more}
use Rattle.std.specs.Prelude.{option_map}
use Rattle.must_p2p.specs.declared.item.MsgItem.{MsgItem}
use Rattle.must_messages.specs.PlainLaws.{same_some}
use Rattle.must_messages.specs.MessageItems.{item_seen}
use Rattle.must_hold.specs.declared.held.Pending.{Pending}
use Rattle.must_hold.specs.declared.held.End.{End}
use Rattle.must_hold.specs.declared.held.Need.{Need}
use Rattle.must_hold.specs.declared.held.Held.{Held}
use Rattle.must_hold.specs.declared.held.Held.TheVariants.{Open, Settled}
use Rattle.must_hold.specs.declared.table.Table.{Table}
use Rattle.must_hold.specs.Ended.{item_ended, need_ended}
use Rattle.must_hold.specs.Changes.{IsPut, AreSame, Ends}

cond_self : (b : Bool) → b ≡ cond b true false
cond_self true = refl
cond_self false = refl

same_key : (k n : ℕ) → is_at (nat_cmp k) n ≡ nat_eq n k
same_key k n = cond_self (is_at (nat_cmp k) n) ∙ seen_more k n false

pub put : {X : Type 0} (key : ℕ) (x : Option X) (old new : BTreeMap ℕ X) → Updates nat_cmp old new key x → IsPut key x old new
put key x old new u = record { here = u.1; others = λ k apart. u.2 k (same_key key k ∙ ne_eqb k key apart) }

-- taken out and put in again
pub put_again : {X : Type 0} (key : ℕ) (x y : Option X) (old middle new : BTreeMap ℕ X) → IsPut key x old middle → IsPut key y middle new → IsPut key y old new
put_again key x y old middle new a b = record { here = b.here; others = λ k apart. b.others k apart ∙ a.others k apart }

pub empty : {X : Type 0} (m : BTreeMap ℕ X) (k : ℕ) → IsEmpty m → get nat_cmp m k ≡ None
empty m k e = ap (lookup (is_at (nat_cmp k))) e

-- the open operation of a request is taken out and put in again as it ended
pub ended : (rank q n number : ℕ) (p pending : Pending) (end : End) (old new : Table) (middle : BTreeMap ℕ Held) (item : Option MsgItem) (need : Need)
    → get nat_cmp old.numbers q ≡ Some n → get nat_cmp old.held n ≡ Some (Open p) → Some number ≡ get nat_cmp old.numbers q → Some (Open pending) ≡ get nat_cmp old.held number
    → option_map item_seen item ≡ item_ended rank pending end pending.asked.deed → need ≡ need_ended rank pending end
    → Updates nat_cmp old.held middle number None → Updates nat_cmp middle new.held number (Some (Settled item)) → Updates nat_cmp old.numbers new.numbers q None
    → new.count ≡ old.count → new.given ≡ old.given → Ends rank q n p end (Some (record { number = number; need = need })) old new
ended rank q n number p pending end old new middle item need found here number_is pending_is item_is need_is removed inserted unnumbered count given =
    let same_n : number ≡ n = same_some number n (number_is ∙ found) in
    let same_open : Open pending ≡ Open p = same_some (Open pending) (Open p) (pending_is ∙ ap (get nat_cmp old.held) same_n ∙ here) in
    let same_p : pending ≡ p = cc in
    let base : Ends rank q number pending end (Some (record { number = number; need = need })) old new = record {
      item = item;
      item_is = item_is;
      settling_is = ap (λ (x : Need). Some (record { number = number; need = x })) need_is;
      count = count;
      given = given;
      held = put_again number None (Some (Settled item)) old.held middle new.held (put number None old.held middle removed) (put number (Some (Settled item)) middle new.held inserted);
      numbers = put q None old.numbers new.numbers unnumbered;
    } in
    subst (λ (x : Pending). Ends rank q n x end (Some (record { number = number; need = need })) old new) same_p
    (subst (λ (m : ℕ). Ends rank q m pending end (Some (record { number = number; need = need })) old new) same_n base)
