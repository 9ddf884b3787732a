use Rattle.std.proofs.Common.{◌≡◌, ◌∷◌, ◌++◌, [], true, rules, sym, subst}
use Rattle.must_inbox.specs.Rows.{HasRows}
use Rattle.must_levels.specs.RowLists.{GaveCalls, calls_more}
use Rattle.must_levels.proofs.tests.CallReaderRankReaderCalls.next.Goals as goal

pub returns-then-part-clause-gives : goal.returns-then-part-clause-gives
returns-then-part-clause-gives c = λ size rank first given gave.
    let batch = c.in_ok-batch-2.batch in
    let told : c.args.self.now.told ≡ true = search rules in
    let rows : HasRows rank batch = subst (λ r. HasRows r batch) gave.0 c.in_ok-batch-2.ensures in
    let before : GaveCalls rank true given = subst (λ b. GaveCalls rank b given) told gave.2 in
    (gave.0, gave.1, subst (λ b. GaveCalls rank b (given ++ batch ∷ [])) (sym told) (calls_more rank given batch before rows))
