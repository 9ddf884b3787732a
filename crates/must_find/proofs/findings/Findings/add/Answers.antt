use Rattle.must_find.proofs.Inserted.{has_insert}
use Rattle.must_find.proofs.findings.Findings.add.Goals as goal

pub returns-in_ok-insert-in-Some-clause-ok : goal.returns-in_ok-insert-in-Some-clause-ok
returns-in_ok-insert-in-Some-clause-ok c = λ x. rw (c.in_ok-insert-in-Some.ensures.items, c.self.view_is) (has_insert c.args.self.now c.in-Some.at c.args.f x)
