use Rattle.std.proofs.Common.{◌≡◌, ◌∙◌, ap, subst, arith, ℕ, ℤ, List, get_or, to_z, of_z}
use Rattle.std.specs.Prelude.{flat_map, sum_by}
use Rattle.std.specs.Int.{w128}
use Rattle.std.proofs.lemmas.Int.{ints}
use Rattle.std.proofs.lemmas.List.{take_all}
use Rattle.must_type.specs.Maps.{Entry, extent, block}
use Rattle.must_type.specs.Weights.{weigh}
use Rattle.must_span.specs.Steps.{IsLaid, Repeats, Adds, element}
use Rattle.must_span.proofs.LaidLaws.{put_block, indexed_more}
use Rattle.must_span.proofs.forms.all_blocks.Goals as goal

pub loop-item-preserved : goal.loop-item-preserved
loop-item-preserved g c = λ T w h.
    let X = g.row.P.Denot in
    let old = c.args.old.now in
    let items = c.args.items.now in
    let length_of : X → ℕ = λ it. g.P.Place.blocklength it c.args.common in
    let at : X → ℤ = λ it. g.P.Place.at it (extent T) in
    let item = c.item-item.result in
    let e : to_z w128 (of_z w128 old.extent) ≡ old.extent = omega (arith, ints, c.requires.old.extent_near) in
    let b : to_z w128 (of_z w128 c.begins-at.result) ≡ c.begins-at.result = omega (arith, ints, c.begins-at.ensures.near) in
    let begins : to_z w128 (of_z w128 c.begins-at.result) ≡ at item = b ∙ c.begins-at.ensures.value ∙ ap (λ (x : ℤ). g.P.Place.at item x) (e ∙ h.extent_is) in
    let put : Repeats c.loop-item.made.items old.ranges.items (to_z w128 (of_z w128 c.begins-at.result)) (to_z w128 (of_z w128 old.extent)) (length_of item) c.repeat.new.out.items = rw (c.as_slice.ensures.value, c.blocklength_of-count.ensures.value) at c.in_ok-repeat.ensures in
    let added = put_block c.loop-item.made.items old.ranges.items c.repeat.new.out.items T (to_z w128 (of_z w128 c.begins-at.result)) (at item) (to_z w128 (of_z w128 old.extent)) old.extent (length_of item) w begins e h.extent_is h.laid put in
    let f : X → List Entry = λ it. block (length_of it) T (at it) in
    let n : X → ℕ = λ it. weigh (length_of it) (element T w) in
    let more : Adds c.loop-item.made.items c.repeat.new.out.items (f (get_or items c.loop-item.item-index item)) (n (get_or items c.loop-item.item-index item)) = subst (λ (it : X). Adds c.loop-item.made.items c.repeat.new.out.items (f it) (n it)) c.item-item.is added in
    indexed_more c.loop-item.made.items c.repeat.new.out.items items c.loop-item.item-index item f n (omega arith) (c.loop-item.invariant T w h) more

pub returns : goal.returns
returns g c = λ T w h.
    let X = g.row.P.Denot in
    let f : X → List Entry = λ it. block (g.P.Place.blocklength it c.args.common) T (g.P.Place.at it (extent T)) in
    let n : X → ℕ = λ it. weigh (g.P.Place.blocklength it c.args.common) (element T w) in
    subst (λ (l : List X). IsLaid c.loop-item.made.items (flat_map f l) (sum_by n l)) (take_all c.loop-item.item-index c.args.items.now c.loop-item-test.false) (c.loop-item.invariant T w h)
