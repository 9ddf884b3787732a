-- Lists that calls share.
use Rattle.std.proofs.Common.{◌≡◌, ℕ, Bool, true, false, List, [], ◌∷◌, ◌++◌, length, map, Some, refl, sym, ap, ◌∙◌}
use Rattle.std.specs.Prelude.{slice_get}
use Rattle.std.proofs.lemmas.Option.{get_or_from_slice_get}
use Rattle.std.specs.BTreeMap as tree
use Rattle.std.specs.Ordering.{nat_cmp, is_eq}
use Rattle.std.specs.FinMap.{nat_cmp-IsAntisymmetric}
use Rattle.must_call.specs.declared.place.Place.{Place}
use Rattle.must_group.specs.NameOrder.{name_same}
use Rattle.must_group.specs.Names.{name_cmp}
use Rattle.must_p2p.specs.ClassLaws.{then_parts, eq_equal}
use Rattle.must_p2p.specs.LaneLaws.{get_before, get_last, some_is}
use Rattle.must_wait.specs.declared.way.Way.{Way}
use Rattle.must_wait.specs.declared.way.Way.TheVariants.{Own, Shared}
use Rattle.must_wait.specs.Ways.{places_of}
use Rattle.must_node.specs.declared.fact.Fact.{Fact}
use Rattle.must_node.specs.declared.keys.WaveKey.{WaveKey}
use Rattle.must_node.specs.declared.sharing.Sharing.{Sharing}
use Rattle.must_node.specs.Sharing.{wave_cmp, calls_of_wave, AreShared, Grows, IsWay, AreWays}

wave_same : (a b : WaveKey) → is_eq (wave_cmp a b) ≡ true → a ≡ b
wave_same a b e =
    let p = then_parts (nat_cmp a.number b.number) (name_cmp a.name b.name) (eq_equal (wave_cmp a b) e) in
    let number = nat_cmp-IsAntisymmetric a.number b.number p.0 in
    let name = name_same a.name b.name p.1 in
    λ i. record { number = number i; name = name i }

pub grows_not : (s : Sharing) → Grows s s
grows_not s = record { needs = refl; lists = λ number places e. e }

pub grows_more : (a b c : Sharing) → Grows a b → Grows b c → Grows a c
grows_more a b c g h = record { needs = h.needs ∙ g.needs; lists = λ number places e. h.lists number places (g.lists number places e) }

-- one list more
pub grows_list : (old new : Sharing) (places : List Place) → new.rows.needs ≡ old.rows.needs → new.rows.lists ≡ old.rows.lists ++ places ∷ [] → Grows old new
grows_list old new places needs lists = record { needs = needs; lists = λ number other e. ap (λ (l : List (List Place)). slice_get l number) lists ∙ get_before old.rows.lists (places ∷ []) number other e }

pub list_is : (old new : Sharing) (number : ℕ) (places : List Place) → number ≡ length old.rows.lists → new.rows.lists ≡ old.rows.lists ++ places ∷ [] → slice_get new.rows.lists number ≡ Some places
list_is old new number places at lists = ap (slice_get new.rows.lists) at ∙ ap (λ (l : List (List Place)). slice_get l (length old.rows.lists)) lists ∙ get_last old.rows.lists places

shared_by : (old new : Sharing) (facts : List Fact) (wave : WaveKey) (number : ℕ) → AreShared old facts → Grows old new → slice_get new.rows.lists number ≡ Some (calls_of_wave facts wave) → tree.get wave_cmp new.waves wave ≡ Some number
    → ((other : WaveKey) → is_eq (wave_cmp wave other) ≡ false → tree.get wave_cmp new.waves other ≡ tree.get wave_cmp old.waves other)
    → (other : WaveKey) (n : ℕ) (b : Bool) → is_eq (wave_cmp wave other) ≡ b → tree.get wave_cmp new.waves other ≡ Some n → slice_get new.rows.lists n ≡ Some (calls_of_wave facts other)
shared_by old new facts wave number shared grows at here others other n true is e =
    let same = wave_same wave other is in
    let k : number ≡ n = some_is number n (sym here ∙ ap (λ w. tree.get wave_cmp new.waves w) same ∙ e) in
    ap (slice_get new.rows.lists) (sym k) ∙ at ∙ ap (λ w. Some (calls_of_wave facts w)) same
shared_by old new facts wave number shared grows at here others other n false is e = grows.lists n (calls_of_wave facts other) (shared other n (sym (others other is) ∙ e))

-- the list of one wave more
pub shared_more : (old new : Sharing) (facts : List Fact) (wave : WaveKey) (number : ℕ) → AreShared old facts → Grows old new → slice_get new.rows.lists number ≡ Some (calls_of_wave facts wave) → tree.get wave_cmp new.waves wave ≡ Some number
    → ((other : WaveKey) → is_eq (wave_cmp wave other) ≡ false → tree.get wave_cmp new.waves other ≡ tree.get wave_cmp old.waves other) → AreShared new facts
shared_more old new facts wave number shared grows at here others = λ other n e. shared_by old new facts wave number shared grows at here others other n (is_eq (wave_cmp wave other)) refl e

-- calls alone change nothing of the lists
pub shared_still : (old new : Sharing) (facts : List Fact) → new.waves ≡ old.waves → new.rows.lists ≡ old.rows.lists → AreShared old facts → AreShared new facts
shared_still old new facts waves lists shared = λ wave n e. ap (λ (l : List (List Place)). slice_get l n) lists ∙ shared wave n (ap (λ w. tree.get wave_cmp w wave) (sym waves) ∙ e)

way_grows : (old new : List (List Place)) → ((number : ℕ) (places : List Place) → slice_get old number ≡ Some places → slice_get new number ≡ Some places) → (way : Way) (wanted : List Place) → IsWay old way wanted → IsWay new way wanted
way_grows old new more (Own places) wanted is = is
way_grows old new more (Shared number) wanted is = more number wanted is

pub ways_grow : (old new : List (List Place)) → ((number : ℕ) (places : List Place) → slice_get old number ≡ Some places → slice_get new number ≡ Some places) → (ways : List Way) (wanted : List (List Place)) → AreWays old ways wanted → AreWays new ways wanted
ways_grow old new more [] [] are = tt
ways_grow old new more [] (p ∷ ps) are = absurd are
ways_grow old new more (w ∷ ws) [] are = absurd are
ways_grow old new more (w ∷ ws) (p ∷ ps) are = (way_grows old new more w p are.0, ways_grow old new more ws ps are.1)

pub ways_push : (lists : List (List Place)) (ways : List Way) (wanted : List (List Place)) (way : Way) (places : List Place) → AreWays lists ways wanted → IsWay lists way places → AreWays lists (ways ++ way ∷ []) (wanted ++ places ∷ [])
ways_push lists [] [] way places are is = (is, tt)
ways_push lists [] (p ∷ ps) way places are is = absurd are
ways_push lists (w ∷ ws) [] way places are is = absurd are
ways_push lists (w ∷ ws) (p ∷ ps) way places are is = (are.0, ways_push lists ws ps way places are.1 is)

way_is : (lists : List (List Place)) (way : Way) (wanted : List Place) → IsWay lists way wanted → places_of lists way ≡ wanted
way_is lists (Own places) wanted is = is
way_is lists (Shared number) wanted is = get_or_from_slice_get lists number wanted [] is

-- what the alternatives stand for
pub ways_are : (lists : List (List Place)) (ways : List Way) (wanted : List (List Place)) → AreWays lists ways wanted → map (places_of lists) ways ≡ wanted
ways_are lists [] [] are = refl
ways_are lists [] (p ∷ ps) are = absurd are
ways_are lists (w ∷ ws) [] are = absurd are
ways_are lists (w ∷ ws) (p ∷ ps) are = ap (λ (l : List Place). l ∷ map (places_of lists) ws) (way_is lists w p are.0) ∙ ap (λ (l : List (List Place)). p ∷ l) (ways_are lists ws ps are.1)
