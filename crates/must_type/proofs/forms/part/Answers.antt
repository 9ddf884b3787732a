use Rattle.std.proofs.Common.{rules, ◌≡◌, ◌+◌, ◌-◌, ◌*◌, ◌≤◌, ◌<◌, ◌^◌, ℕ, subst, sym, ◌∙◌, ap, ℤ, ◌*ℤ◌, arith, length, get_or, to_z, of_z}
use Rattle.std.specs.Int.{w128}
use Rattle.must_type.specs.declared.summary.Summary.{Summary}
use Rattle.must_call.specs.declared.items.Dim.{Dim}
use Rattle.must_type.specs.Maps.{IsBounded}
use Rattle.must_type.specs.Constructs.{slow_first}
use Rattle.must_type.specs.Facts.{IsWhereFits, IsPartly}
use Rattle.must_type.proofs.Distances.{kept, wider}
use Rattle.must_type.proofs.Parts.{length-slow, part_start, step_start, all_start, step_next, all_next, part_more, part_within, part_end}
use Rattle.must_type.proofs.forms.part.Goals as goal

pub loop-k-init : goal.loop-k-init
loop-k-init c =
    let f = c.args.old.now in
    let slow = slow_first c.args.order c.args.dims.now in
    let e = kept f.bounds.extent (wider (2 ^ 63) (2 ^ 126) f.bounds.extent (omega arith) c.requires.settled.near) in
    record {
      partly = subst (λ (x : ℤ). IsPartly x c.unmarked-all.result) (sym e) (subst (IsPartly f.bounds.extent) (sym c.unmarked-all.ensures) (part_start f c.requires.settled));
      step_is = λ T h. e ∙ step_start slow T f h;
      all_is = λ T h. c.unmarked-all.ensures ∙ all_start slow T f h;
    }

pub returns-then-not-has_room : goal.returns-then-not-has_room
returns-then-not-has_room c = λ T h fits.
    let dim = c.nth_fastest-dim.result in
    let slow = slow_first c.args.order c.args.dims.now in
    let k = c.loop-k.k in
    let step = to_z w128 c.loop-k.step-bits in
    let inv = c.loop-k.invariant in
    let same : length slow ≡ length c.args.dims.now = length-slow c.args.order c.args.dims.now in
    let below : k < length slow = omega (arith, same) in
    let is : (d : Dim) → dim ≡ get_or slow (length slow - 1 - k) d = λ d. c.nth_fastest-dim.ensures.value d ∙ ap (λ (n : ℕ). get_or slow (n - 1 - k) d) (sym same) in
    let n : to_z w128 (of_z w128 c.from.result) ≡ dim.size = search rules in
    let far = c.times-size.ensures.bounded (2 ^ 63) inv.partly.near in
    let size : to_z w128 (of_z w128 c.times-size.result) ≡ dim.size *ℤ step =
    kept c.times-size.result (wider (2 ^ 31 * 2 ^ 63) (2 ^ 126) c.times-size.result (omega arith) far) ∙ c.times-size.ensures.value ∙ ap (λ (x : ℤ). x *ℤ step) n in
    let w = part_within c.args.order c.args.dims.now T (k + 1) c.requires.part.parts fits in
    let all = all_next slow k T dim step c.loop-k.all c.widened-wider.result below is (inv.step_is T h) (inv.all_is T h) c.widened-wider.ensures.value in
    let at = step_next slow k T dim step (to_z w128 (of_z w128 c.times-size.result)) below is c.nth_fastest-dim.ensures.part (inv.step_is T h) size in
    let yes = c.has_room.ensures.1 (subst (λ (s : Summary). s.size ≤ 2 ^ 62) (sym all) w.0, subst (IsBounded (2 ^ 62)) (sym at) w.1) in
    let no = c.if-not-has_room.true in
    cc (yes, no)

pub loop-k-preserved : goal.loop-k-preserved
loop-k-preserved c =
    let dim = c.nth_fastest-dim.result in
    let slow = slow_first c.args.order c.args.dims.now in
    let k = c.loop-k.k in
    let step = to_z w128 c.loop-k.step-bits in
    let inv = c.loop-k.invariant in
    let same : length slow ≡ length c.args.dims.now = length-slow c.args.order c.args.dims.now in
    let below : k < length slow = omega (arith, same) in
    let is : (d : Dim) → dim ≡ get_or slow (length slow - 1 - k) d = λ d. c.nth_fastest-dim.ensures.value d ∙ ap (λ (n : ℕ). get_or slow (n - 1 - k) d) (sym same) in
    let n : to_z w128 (of_z w128 c.from.result) ≡ dim.size = search rules in
    let far = c.times-size.ensures.bounded (2 ^ 63) inv.partly.near in
    let size : to_z w128 (of_z w128 c.times-size.result) ≡ dim.size *ℤ step =
    kept c.times-size.result (wider (2 ^ 31 * 2 ^ 63) (2 ^ 126) c.times-size.result (omega arith) far) ∙ c.times-size.ensures.value ∙ ap (λ (x : ℤ). x *ℤ step) n in
    let room = c.has_room.ensures.0 c.if-not-has_room.false in
    record {
      partly = part_more dim step (to_z w128 (of_z w128 c.times-size.result)) c.loop-k.all c.widened-wider.result c.nth_fastest-dim.ensures.part inv.partly size c.widened-wider.ensures.value c.widened-wider.ensures.bounded room.0 room.1;
      step_is = λ T h. step_next slow k T dim step (to_z w128 (of_z w128 c.times-size.result)) below is c.nth_fastest-dim.ensures.part (inv.step_is T h) size;
      all_is = λ T h. all_next slow k T dim step c.loop-k.all c.widened-wider.result below is (inv.step_is T h) (inv.all_is T h) c.widened-wider.ensures.value;
    }

pub returns : goal.returns
returns c = λ T h.
    let inv = c.loop-k.invariant in
    subst (IsWhereFits c.where_fits.result) (c.marked.ensures ∙ part_end c.args.order c.args.dims.now T c.loop-k.k (to_z w128 c.loop-k.step-bits) c.loop-k.all c.loop-k-test.false (inv.step_is T h) (inv.all_is T h)) c.where_fits.ensures
