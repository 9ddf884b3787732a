use Rattle.must_inbox.specs.Rows.{rows_lawful, rows_push}
use Rattle.must_inbox.proofs.tests.send.Goals as goal

pub push-requires-clause-lawful : goal.push-requires-clause-lawful
push-requires-clause-lawful g c = rows_lawful c.args.port.now.range c.args.rank _ c.requires.range (rows_push c.args.rank c.args.port.now.sent c.args.batch c.requires.rows c.requires.batch)
