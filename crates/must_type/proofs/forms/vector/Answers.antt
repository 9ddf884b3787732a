use Rattle.std.proofs.Common.{rules, ◌≡◌, ◌^◌, ◌*◌, subst, sym, ◌∙◌, ap, ℕ, ℤ, ◌*ℤ◌, arith, to_z, of_z}
use Rattle.std.specs.Int.{w128}
use Rattle.must_type.specs.Maps.{IsBounded}
use Rattle.must_type.specs.Constructs.{natural}
use Rattle.must_type.specs.Summaries.{repeated}
use Rattle.must_type.specs.Facts.{IsWhereFits}
use Rattle.must_type.proofs.Laid.{vector_is}
use Rattle.must_type.proofs.Distances.{kept, wider}
use Rattle.must_type.proofs.forms.vector.Goals as goal

pub runs-requires-clause-near : goal.runs-requires-clause-near
runs-requires-clause-near c =
    let f = c.args.old.now in
    let e = kept f.bounds.extent (wider (2 ^ 63) (2 ^ 126) f.bounds.extent (omega arith) c.requires.settled.near) in
    let far = c.times-stride.ensures.bounded (2 ^ 63) (subst (IsBounded (2 ^ 63)) (sym e) c.requires.settled.near) in
    let keep = kept c.times-stride.result (wider (2 ^ 31 * 2 ^ 63) (2 ^ 126) c.times-stride.result (omega arith) far) in
    subst (IsBounded (2 ^ 94)) (sym keep) (wider (2 ^ 31 * 2 ^ 63) (2 ^ 94) c.times-stride.result (omega arith) far)

pub returns : goal.returns
returns c = λ T h.
    let f = c.args.old.now in
    let e = kept f.bounds.extent (wider (2 ^ 63) (2 ^ 126) f.bounds.extent (omega arith) c.requires.settled.near) in
    let far = c.times-stride.ensures.bounded (2 ^ 63) (subst (IsBounded (2 ^ 63)) (sym e) c.requires.settled.near) in
    let n : c.natural.result ≡ natural c.args.count = search rules in
    let m : c.natural-2.result ≡ natural c.args.blocklength = search rules in
    let s : to_z w128 (of_z w128 c.from.result) ≡ c.args.stride = search rules in
    let d : to_z w128 (of_z w128 c.times-stride.result) ≡ c.args.stride *ℤ f.bounds.extent =
    kept c.times-stride.result (wider (2 ^ 31 * 2 ^ 63) (2 ^ 126) c.times-stride.result (omega arith) far) ∙ c.times-stride.ensures.value ∙ ap (λ (x : ℤ). x *ℤ to_z w128 (of_z w128 f.bounds.extent)) s ∙ ap (λ (x : ℤ). c.args.stride *ℤ x) e in
    subst (IsWhereFits c.runs.result) (ap (λ (k : ℕ). repeated k (to_z w128 (of_z w128 c.times-stride.result)) (repeated c.natural-2.result f.bounds.extent f.summary)) n ∙ ap (λ (x : ℤ). repeated (natural c.args.count) x (repeated c.natural-2.result f.bounds.extent f.summary)) d ∙ ap (λ (k : ℕ). repeated (natural c.args.count) (c.args.stride *ℤ f.bounds.extent) (repeated k f.bounds.extent f.summary)) m ∙ vector_is (natural c.args.count) (natural c.args.blocklength) c.args.stride T f h) c.runs.ensures
