use Rattle.std.proofs.Common.{List, ◌++◌, map, ap, ◌∙◌}
use Rattle.std.proofs.lemmas.Result.{on_ok_weaker}
use Rattle.must_hold.specs.Ended.{need_seen}
use Rattle.must_needs.specs.declared.names.Ways.{Ways}
use Rattle.must_needs.specs.Naming.{ways_named}
use Rattle.must_needs.specs.Stating.{entries_from}
use Rattle.must_needs.proofs.Telling.{gives_needs}
use Rattle.must_needs.proofs.needs.Needs.finish.Goals as goal

pub returns : goal.returns
returns c = on_ok_weaker c.push_needs.result (λ gives. λ r calls rank tells needs.
    let needed = map (need_seen c.args.rank) c.args.needs.now in
    let old = c.args.entries.now.items in
    gives_needs r calls c.args.self c.args.rank needed old _ rank tells needs
    (gives ∙ ap (λ (ws : List Ways). old ++ entries_from c.args.rank 0 (map (ways_named c.args.rank needed) ws)) c.deref.ensures.value)) c.push_needs.ensures
