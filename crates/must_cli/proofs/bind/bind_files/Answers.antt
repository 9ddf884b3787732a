use Rattle.std.proofs.Common.{length, sym, ap, ◌∙◌}
use Rattle.std.proofs.lemmas.List.{length-map}
use Rattle.must_cli.proofs.Binding.{bound_unread}
use Rattle.must_cli.proofs.bind.bind_files.Goals as goal

pub returns-clause-left : goal.returns-clause-left
returns-clause-left g c =
    (bound_unread g.T.Src.Source.shows g.T.Src.Source.left g.T.Src.Source.faults c.source_law.ensures (g.T.Trace.files c.args.trace.now) (g.T.Trace.bound c.bind.new.self) c.args.files.now c.in_ok-bind.ensures.parts).bytes

pub returns-clause-fresh : goal.returns-clause-fresh
returns-clause-fresh g c =
    (bound_unread g.T.Src.Source.shows g.T.Src.Source.left g.T.Src.Source.faults c.source_law.ensures (g.T.Trace.files c.args.trace.now) (g.T.Trace.bound c.bind.new.self) c.args.files.now c.in_ok-bind.ensures.parts).fresh

pub returns-clause-count : goal.returns-clause-count
returns-clause-count g c = sym (length-map (g.T.Trace.bound c.bind.new.self) g.T.Src.Source.shows) ∙ ap length c.in_ok-bind.ensures.parts ∙ length-map c.args.files.now _
