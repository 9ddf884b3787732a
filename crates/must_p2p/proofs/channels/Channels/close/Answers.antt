use Rattle.std.proofs.Common.{List, [], subst}
use Rattle.must_find.specs.Adds.{Adds}
use Rattle.must_find.specs.declared.finding.Finding.{Finding}
use Rattle.must_p2p.specs.Matching.{IsLoneRow}
use Rattle.must_p2p.specs.Standing.{IsLeftIn}
use Rattle.must_p2p.proofs.Steps.{on_ok}
use Rattle.must_p2p.proofs.Rows.{merged_in}
use Rattle.must_p2p.proofs.Close.{left_is_lone}
use Rattle.must_p2p.proofs.channels.Channels.close.Goals as goal

pub returns : goal.returns
returns c = λ h st o.
    let found = c.in_ok-collect_all.ensures in
    let rows = c.collect_all.new.rows.items in
    let adds : Adds [] rows (IsLeftIn c.args.self.queues.entries) = subst (λ (l : List Finding). Adds l rows (IsLeftIn c.args.self.queues.entries)) c.new-rows.ensures.items found.rows in
    on_ok c.merge.result c.merge.ensures.ok
    (λ merge. merged_in c.args.out.now c.merge.new.self c.in_ok-lone.lone rows (IsLeftIn c.args.self.queues.entries) (IsLoneRow h) merge c.in_ok-lone.ensures adds (λ f. left_is_lone c.args.self h f st o found.ordered))
