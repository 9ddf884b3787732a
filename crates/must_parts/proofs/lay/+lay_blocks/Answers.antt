use Rattle.std.proofs.Common.{List, map, sym, ap, subst, ◌∙◌}
use Rattle.std.proofs.lemmas.List.{map-append}
use Rattle.must_parts.proofs.Laying.{halves}
use Rattle.must_rules.specs.Parts as parts
use Rattle.must_parts.specs.Telling.{block_seen}
use Rattle.must_parts.specs.Laying.{IsLaid}
use Rattle.must_parts.proofs.lay.+lay_blocks.Goals as goal

pub returns : goal.returns
returns t c = λ ty there.
    let whole = halves c.args.blocks.now _ _ _ c.split_at.ensures.front c.split_at.ensures.back in
    subst (λ (bs : List parts.Block). IsLaid c.in_ok-laid.laid ty bs) (sym (map-append block_seen _ _) ∙ ap (map block_seen) whole)
    (c.in_ok-laid.ensures ty _ _ (c.in_ok-first.ensures ty there) (c.in_ok-second.ensures ty there))
