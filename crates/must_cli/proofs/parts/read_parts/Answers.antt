use Rattle.std.proofs.Common.{ap}
use Rattle.must_base.specs.Views.{SourceView}
use Rattle.must_tree.specs.Reading.{mode_of}
use Rattle.must_cli.proofs.PartLists.{tied_early, tied_late, reads_refused, reads_run, reads_stop}
use Rattle.must_cli.proofs.parts.read_parts.Goals as goal

pub returns-in-Err-clause-reads : goal.returns-in-Err-clause-reads
returns-in-Err-clause-reads g c = reads_refused g.S.Source.left g.S.Source.shows c.args.count c.args.parts.now c.read_settings.new.parts c.in-Err.fault c.in-Err.ensures.reads

pub returns-in-Err-clause-tied : goal.returns-in-Err-clause-tied
returns-in-Err-clause-tied g c = tied_early g.S.Source.left g.S.Source.shows (λ s. ap (λ (v : SourceView). v.left) (g.met.S.Source.shows_is s)) c.args.count c.args.parts.now c.read_settings.new.parts
    c.in-Err.ensures.front c.in-Err.ensures.tied

pub returns-in-Ok-analyse_front-clause-reads : goal.returns-in-Ok-analyse_front-clause-reads
returns-in-Ok-analyse_front-clause-reads g c = reads_run g.S.Source.left g.S.Source.shows c.args.count c.args.parts.now c.read_settings.new.parts c.analyse_front.new.parts c.in-Ok.settings c.args.options.now.sends _ c.in-Ok-analyse_front.findings
    (ap mode_of c.plan_of-plan.ensures.sends) c.in-Ok.ensures.front c.in-Ok-analyse_front.ensures.behind c.in-Ok.ensures.reads c.in-Ok-analyse_front.ensures.analyses

pub returns-in-Ok-analyse_front-clause-tied : goal.returns-in-Ok-analyse_front-clause-tied
returns-in-Ok-analyse_front-clause-tied g c = tied_late g.S.Source.left g.S.Source.shows c.args.count c.args.parts.now c.read_settings.new.parts c.analyse_front.new.parts
    c.in-Ok.ensures.front c.in-Ok-analyse_front.ensures.behind c.in-Ok-analyse_front.ensures.tied c.in-Ok.ensures.tied

pub returns-in-Err-analyse_front-clause-reads : goal.returns-in-Err-analyse_front-clause-reads
returns-in-Err-analyse_front-clause-reads g c = reads_stop g.S.Source.left g.S.Source.shows c.args.count c.args.parts.now c.read_settings.new.parts c.analyse_front.new.parts c.in-Ok.settings c.args.options.now.sends (mode_of c.plan_of-plan.result.sends) c.in-Err-analyse_front.fault
    c.in-Ok.ensures.front c.in-Err-analyse_front.ensures.behind c.in-Ok.ensures.reads c.in-Err-analyse_front.ensures.analyses

pub returns-in-Err-analyse_front-clause-tied : goal.returns-in-Err-analyse_front-clause-tied
returns-in-Err-analyse_front-clause-tied g c = tied_late g.S.Source.left g.S.Source.shows c.args.count c.args.parts.now c.read_settings.new.parts c.analyse_front.new.parts
    c.in-Ok.ensures.front c.in-Err-analyse_front.ensures.behind c.in-Err-analyse_front.ensures.tied c.in-Ok.ensures.tied
