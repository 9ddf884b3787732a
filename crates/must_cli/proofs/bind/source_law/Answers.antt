use Rattle.must_cli.proofs.bind.source_law.Goals as goal

pub returns : goal.returns
returns g c = g.met.S.Source.shows_is
