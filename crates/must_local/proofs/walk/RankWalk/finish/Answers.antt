use Rattle.std.proofs.Common.{List, ◌++◌, ap, ◌∙◌, refl, map}
use Rattle.must_find.specs.declared.finding.Finding.{Finding}
use Rattle.must_entry.specs.declared.entry.Entry.{Entry}
use Rattle.must_entry.specs.declared.entry.Entry.TheVariants.{Row}
use Rattle.must_local.specs.Walks.{WalkState}
use Rattle.must_local.proofs.Walked.{rest_seen, wildcards_seen, end_rows, walks_end}
use Rattle.must_local.proofs.walk.RankWalk.finish.Goals as goal

pub returns : goal.returns
returns c = λ version calls given walks.
    let rest = rest_seen version _ c.args.self c.self.view_is calls _ _ _ walks.knows refl c.in_ok-finish.ensures.gives in
    let wildcards = wildcards_seen version _ c.args.self c.self.view_is calls _ _ walks.knows c.in_ok-finish.ensures.rows in
    let rows = end_rows _ calls c.in_ok-rows.rows c.finish.new.rows (c.in_ok-rows.ensures version calls walks.knows) wildcards c.as_slice.ensures.rises in
    let all = c.in_ok-entries.ensures ∙ ap (λ (l : List Entry). l ++ map Row c.as_slice.result.now) (rest.entries ∙ ap (λ (l : List Entry). l ++ rest.more) c.new-entries.ensures.items) in
    walks_end version c.args.self calls given _ c.finish.new.rows rest.more rows rest.gives (all ∙ ap (λ (fs : List Finding). rest.more ++ map Row fs) c.as_slice.ensures.items) (ap (λ (w : WalkState). w.rank.rank) c.self.view_is) refl walks
