use Rattle.must_cli.proofs.PartLists.{reads_rules}
use Rattle.must_cli.proofs.parts.read_part.Goals as goal

pub returns-clause-reads : goal.returns-clause-reads
returns-clause-reads g c =
    reads_rules (g.S.Source.left c.args.part.now) (g.S.Source.left c.settings_of.new.src) (g.S.Source.faults c.args.part.now) (g.S.Source.faults c.settings_of.new.src) (g.S.Source.shows c.settings_of.new.src) c.settings_of.result
    (c.source_law.ensures c.settings_of.new.src) c.requires.fresh c.settings_of.ensures.accepted c.settings_of.ensures.refused c.settings_of.ensures.read
