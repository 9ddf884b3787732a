use Rattle.std.proofs.Common.{◌≡◌, ℕ, ◌+◌, ◌^◌, subst, sym, ◌∙◌, ap, arith, ℤ, to_z, of_z}
use Rattle.std.specs.Int.{w128}
use Rattle.must_type.specs.Summaries.{shift, repeated, Fits}
use Rattle.must_type.specs.Maps.{extent, block}
use Rattle.must_type.proofs.Distances.{kept, wider}
use Rattle.must_type.proofs.Layouts.{no_entries_fit, no_entries_are, next_is, front_of_items, all_items}
use Rattle.must_type.proofs.layout.all_blocks.Goals as goal

pub loop-item-init : goal.loop-item-init
loop-item-init g c = record { fits = subst Fits (sym c.empty-all.ensures) no_entries_fit; all_is = λ T h. c.empty-all.ensures ∙ no_entries_are }

pub returns-in_default : goal.returns-in_default
returns-in_default g c = λ T h fits.
    let X = g.row.P.Denot in
    let f = c.args.old.now in
    let items = c.args.items.now in
    let length_of : X → ℕ = λ it. g.P.Place.blocklength it c.args.common in
    let at : X → ℤ → ℤ = λ it e. g.P.Place.at it e in
    let item = c.item-item.result in
    let begins : to_z w128 (of_z w128 c.begins-at.result) ≡ at item f.bounds.extent = kept c.begins-at.result (wider (2 ^ 94) (2 ^ 126) c.begins-at.result (omega arith) c.begins-at.ensures.bounded) ∙ c.begins-at.ensures.value ∙ ap (at item) (kept f.bounds.extent (wider (2 ^ 63) (2 ^ 126) f.bounds.extent (omega arith) c.requires.settled.near)) in
    let one : c.block.result ≡ shift (at item f.bounds.extent) (repeated (length_of item) f.bounds.extent f.summary) =
    c.block.ensures.value ∙ ap (λ (d : ℤ). shift d (repeated c.blocklength_of-blocklength.result f.bounds.extent f.summary)) begins ∙ ap (λ (n : ℕ). shift (at item f.bounds.extent) (repeated n f.bounds.extent f.summary)) c.blocklength_of-blocklength.ensures.value in
    let next = next_is X length_of at items c.loop-item.item-index item T f c.loop-item.all c.block.result h (omega arith) c.item-item.is (c.loop-item.invariant.all_is T h) one in
    c.in_default.ensures (subst Fits (sym next) (front_of_items X (λ it. block (length_of it) T (at it (extent T))) items (c.loop-item.item-index + 1) fits))

pub loop-item-preserved : goal.loop-item-preserved
loop-item-preserved g c =
    let X = g.row.P.Denot in
    let f = c.args.old.now in
    let items = c.args.items.now in
    let length_of : X → ℕ = λ it. g.P.Place.blocklength it c.args.common in
    let at : X → ℤ → ℤ = λ it e. g.P.Place.at it e in
    let item = c.item-item.result in
    let begins : to_z w128 (of_z w128 c.begins-at.result) ≡ at item f.bounds.extent = kept c.begins-at.result (wider (2 ^ 94) (2 ^ 126) c.begins-at.result (omega arith) c.begins-at.ensures.bounded) ∙ c.begins-at.ensures.value ∙ ap (at item) (kept f.bounds.extent (wider (2 ^ 63) (2 ^ 126) f.bounds.extent (omega arith) c.requires.settled.near)) in
    let one : c.block.result ≡ shift (at item f.bounds.extent) (repeated (length_of item) f.bounds.extent f.summary) =
    c.block.ensures.value ∙ ap (λ (d : ℤ). shift d (repeated c.blocklength_of-blocklength.result f.bounds.extent f.summary)) begins ∙ ap (λ (n : ℕ). shift (at item f.bounds.extent) (repeated n f.bounds.extent f.summary)) c.blocklength_of-blocklength.ensures.value in
    let both = c.in-Some.ensures in
    record {
      fits = subst Fits (sym both.0) both.1;
      all_is = λ T h. both.0 ∙ next_is X length_of at items c.loop-item.item-index item T f c.loop-item.all c.block.result h (omega arith) c.item-item.is (c.loop-item.invariant.all_is T h) one;
    }

pub returns : goal.returns
returns g c = λ T h.
    let X = g.row.P.Denot in
    let e = all_items X (λ it. block (g.P.Place.blocklength it c.args.common) T (g.P.Place.at it (extent T))) c.args.items.now c.loop-item.item-index c.loop-item.all c.loop-item-test.false (c.loop-item.invariant.all_is T h) in
    (e, subst Fits e c.loop-item.invariant.fits)
