use Rattle.std.proofs.Common.{◌≡◌, ◌∙◌, ap, arith, ◌*◌, length}
use Rattle.must_type.specs.Tree.{type_map}
use Rattle.must_sig.specs.Signatures.{laid, basics_of}
use Rattle.must_sig.proofs.Flat.{repeated_one}
use Rattle.must_sig.proofs.Periods.{repeated_length}
use Rattle.must_sig.proofs.Trees.{basics_short}
use Rattle.must_sig.proofs.sig.one_element.Goals as goal

pub returns-clause-same : goal.returns-clause-same
returns-clause-same c = c.in_ok-copies.ensures.same ∙ repeated_one (basics_of (type_map c.args.tree.now))

pub total-length-requires : goal.total-length-requires
total-length-requires c =
    omega (arith, ap (λ rs. length (laid rs)) c.as_slice.ensures.value, c.in_ok-copies.ensures.short, basics_short (type_map c.args.tree.now), c.bounds-bounds.ensures.makeable.reach.small)

pub returns-clause-small : goal.returns-clause-small
returns-clause-small c =
    let n = c.in_ok-copies.copies.times in
    let all = c.in_ok-copies.ensures.same ∙ repeated_one (basics_of (type_map c.args.tree.now)) in
    let l : c.total-length.result ≡ length (laid c.in_ok-copies.copies.runs.items) = c.total-length.ensures ∙ ap (λ rs. length (laid rs)) c.as_slice.ensures.value in
    omega (arith, ap (λ k. n * k) l, repeated_length n (laid c.in_ok-copies.copies.runs.items), ap length all, basics_short (type_map c.args.tree.now), c.bounds-bounds.ensures.makeable.reach.small)
