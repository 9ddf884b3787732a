-- The places of a rank's items rise.
use Rattle.std.proofs.Common.{◌≡◌, ℕ, suc, ◌+◌, ◌<◌, ◌≤◌, Bool, true, false, List, [], ◌∷◌, ◌++◌, length, map, refl, sym, ap, subst, ◌∙◌, arith, length-append}
use Rattle.std.specs.List.{AllByRecursion}
use Rattle.must_call.specs.declared.place.Place.{Place}
use Rattle.must_call.specs.declared.call.Call.{Call}
use Rattle.must_coll.specs.declared.item.WaveItem.{WaveItem}
use Rattle.must_entry.specs.Lawful.{Rise}
use Rattle.must_rules.specs.Rank.{Rank}
use Rattle.must_rules.specs.Known.{facts_of}
use Rattle.must_items.specs.CollectiveLists.{IsItemOf, OneWhere, stands_in_wave, AreItemsBehind, AreItemsOf}

-- the item stands at this call or a later one
abbrev From : ℕ → WaveItem → Type 0
From k x = k ≤ x.place.call

record Placed (k : ℕ) (items : List WaveItem) : Type 0 where
  from : AllByRecursion (From k) items
  rise : Rise (map {B = Place} (λ x. x.place) items)

later : (k : ℕ) (items : List WaveItem) → AllByRecursion (From (suc k)) items → AllByRecursion (From k) items
later k [] all = tt
later k (x ∷ xs) all = ((let h = all.0 in omega (arith, h)), later k xs all.1)

behind : (p : Place) (items : List WaveItem) → AllByRecursion (From (suc p.call)) items → AllByRecursion (λ (q : Place). p.rank ≡ q.rank → p.call < q.call) (map {B = Place} (λ x. x.place) items)
behind p [] all = tt
behind p (x ∷ xs) all = ((λ same. (let h = all.0 in omega (arith, h))), behind p xs all.1)

joined : (r : Rank) (earlier : List Call) (call : Call) (b : Bool) (front back : List WaveItem) → OneWhere b (IsItemOf r earlier call) front → Placed (suc (length earlier)) back → Placed (length earlier) (front ++ back)
joined r earlier call false front back none placed =
    subst (λ (l : List WaveItem). Placed (length earlier) (l ++ back)) (sym none) (record { from = later (length earlier) back placed.from; rise = placed.rise })
joined r earlier call true front back one placed =
    let x = one.item in
    let at : x.place.call ≡ length earlier = ap (λ (p : Place). p.call) one.is.place_is in
    subst (λ (l : List WaveItem). Placed (length earlier) (l ++ back)) (sym one.items_are) (record {
      from = ((let s : length earlier ≤ x.place.call = omega (arith, at) in s), later (length earlier) back placed.from);
      rise = (behind x.place back (subst (λ (n : ℕ). AllByRecursion (From (suc n)) back) (sym at) placed.from), placed.rise);
    })

placed : (r : Rank) (earlier calls : List Call) (items : List WaveItem) → AreItemsBehind r earlier calls items → Placed (length earlier) items
placed r earlier [] items none = subst (Placed (length earlier)) (sym none) (record { from = tt; rise = tt })
placed r earlier (call ∷ calls) items parted =
    let longer : length (earlier ++ call ∷ []) ≡ suc (length earlier) = (let s = length-append earlier (call ∷ []) in omega (arith, s)) in
    subst (Placed (length earlier)) (sym parted.items_are)
    (joined r earlier call (stands_in_wave (facts_of r earlier) call.body) parted.front parted.back parted.first
    (subst (λ (n : ℕ). Placed n parted.back) longer (placed r (earlier ++ call ∷ []) calls parted.back parted.rest)))

pub items_rise : (r : Rank) (calls : List Call) (items : List WaveItem) → AreItemsOf r calls items → Rise (map {B = Place} (λ x. x.place) items)
items_rise r calls items are = (placed r [] calls items are).rise
