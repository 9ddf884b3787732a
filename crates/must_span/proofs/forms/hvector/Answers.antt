use Rattle.std.proofs.Common.{◌≡◌, ◌∙◌, ap, rules, to_z, of_z}
use Rattle.std.specs.Int.{w128, w32}
use Rattle.must_type.specs.Constructs.{natural}
use Rattle.std.proofs.lemmas.Int.{to_z-of_z}
use Rattle.must_span.proofs.forms.hvector.Goals as goal

pub returns : goal.returns
returns c = λ T w h.
    let n : c.natural.result ≡ natural c.args.count = c.natural.ensures.value ∙ ap natural (to_z-of_z w32 c.args.count c.ranges.count) in
    let b : c.natural-2.result ≡ natural c.args.blocklength = c.natural-2.ensures.value ∙ ap natural (to_z-of_z w32 c.args.blocklength c.ranges.blocklength) in
    let s : to_z w128 (of_z w128 c.from.result) ≡ c.args.stride = search rules in
    rw (n, b, s) at (c.rows.ensures T w h)
