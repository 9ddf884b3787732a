-- Calls that come in order stand at places of their own.
use Rattle.std.proofs.Common.{◌≡◌, ◌<◌, List, [], ◌∷◌, map, sym, ap, ◌∙◌, inl, inr, arith}
use Rattle.std.specs.List.{AllByRecursion}
use Rattle.must_base.specs.Listing.{Has}
use Rattle.must_call.specs.declared.place.Place.{Place}
use Rattle.must_coll.specs.declared.item.WaveItem.{WaveItem}
use Rattle.must_coll.specs.OneRowLaws.{ArePlacedOnce}
use Rattle.must_entry.specs.Lawful.{Rise}

abbrev places : List WaveItem → List Place
places items = map (λ x. x.place) items

not_behind : (p : Place) (items : List WaveItem) (y : WaveItem) → AllByRecursion (λ q. p.rank ≡ q.rank → p.call < q.call) (places items) → Has items y → p ≡ y.place → ⊥
not_behind p [] y later h same = h
not_behind p (x ∷ xs) y later (inl e) same =
    let at : p ≡ x.place = same ∙ ap (λ (z : WaveItem). z.place) e in
    let less = later.0 (ap (λ (q : Place). q.rank) at) in
    let calls : p.call ≡ x.place.call = ap (λ (q : Place). q.call) at in
    omega (arith, less, calls)
not_behind p (x ∷ xs) y later (inr h) same = not_behind p xs y later.1 h same

pub calls_once : (items : List WaveItem) → Rise (places items) → ArePlacedOnce items
calls_once [] rise x y h k same = absurd h
calls_once (z ∷ zs) rise x y (inl e) (inl d) same = e ∙ sym d
calls_once (z ∷ zs) rise x y (inl e) (inr k) same = absurd (not_behind z.place zs y rise.0 k (sym (ap (λ (w : WaveItem). w.place) e) ∙ same))
calls_once (z ∷ zs) rise x y (inr h) (inl d) same = absurd (not_behind z.place zs x rise.0 h (sym (ap (λ (w : WaveItem). w.place) d) ∙ sym same))
calls_once (z ∷ zs) rise x y (inr h) (inr k) same = calls_once zs rise.1 x y h k same
