use Rattle.std.specs.Prelude.{FitsSigned}
use Rattle.std.proofs.Common.{rules, map, sym, ap, ◌∙◌, arith}
use Rattle.std.proofs.lemmas.Int.{to_z-of_z}
use mir.Syntax.{w32}
use Rattle.must_sig.specs.Signatures.{expansion, repeated}
use Rattle.must_items.specs.Moved.{elements}
use Rattle.must_items.specs.Seen.{counts_seen}
use Rattle.must_items.proofs.Repeating.{one_more, end_of}
use Rattle.must_items.proofs.signatures.repeated_each.Goals as goal

pub loop-i-preserved : goal.loop-i-preserved
loop-i-preserved c =
    let counts = counts_seen c.args.moved.now in
    let few = c.entries-i-end.ensures.few in
    let len = c.len.ensures in
    let within = c.loop-i-test.true in
    let fits : FitsSigned w32 c.count.result = search rules in
    ap (map expansion) c.in_ok-push.ensures.items
    ∙ one_more (λ z. repeated (elements z) (expansion c.args.one.now)) c.loop-i.sigs.items c.in_ok-repeated.field-0 counts c.loop-i.i (omega (arith, few, len, within)) c.loop-i.invariant
    (c.in_ok-repeated.ensures.expansion ∙ ap (λ n. repeated n (expansion c.args.one.now)) (c.elements.ensures ∙ ap elements (to_z-of_z w32 c.count.result fits ∙ c.count.ensures)))

pub returns : goal.returns
returns c =
    let counts = counts_seen c.args.moved.now in
    ap (map expansion) c.from_vec.ensures ∙ c.loop-i.invariant
    ∙ ap (map (λ z. repeated (elements z) (expansion c.args.one.now)))
    (end_of counts c.loop-i.i c.entries-i-end.result c.loop-i.auto.i-end c.loop-i-test.false ∙ c.entries-i-end.ensures.front counts (sym c.len.ensures))
