use Rattle.must_record.proofs.made.made_at.Goals as goal

pub returns-in-Some : goal.returns-in-Some
returns-in-Some c = λ n. rw c.in-Some.is (c.made_where.ensures n)
