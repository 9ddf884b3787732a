use Rattle.std.proofs.Common.{rules, ◌≡◌, subst, ℕ, ℤ}
use Rattle.std.specs.List.{flat_map}
use Rattle.must_type.specs.Maps.{block}
use Rattle.must_type.specs.Constructs.{natural}
use Rattle.must_type.specs.Summaries.{summary}
use Rattle.must_type.specs.Facts.{IsWhereFits}
use Rattle.must_type.specs.Constructs.{hindexed_block_map}
use Rattle.must_type.proofs.forms.hindexed_block.Goals as goal

pub returns : goal.returns
unfolding hindexed_block_map
returns c = λ T h.
    let n : c.natural.result ≡ natural c.args.blocklength = search rules in
    subst (λ (k : ℕ). IsWhereFits c.all_blocks.result (summary (flat_map (λ (d : ℤ). block k T d) c.args.disps.now))) n (c.all_blocks.ensures T h)
