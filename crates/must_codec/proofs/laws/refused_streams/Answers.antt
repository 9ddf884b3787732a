use Rattle.must_format.specs.CompleteLaws.{refused_behind, behind_refused}
use Rattle.must_codec.proofs.laws.refused_streams.Goals as goal

pub returns-clause-refused : goal.returns-clause-refused
returns-clause-refused c = λ e bytes calls fault fits good room stream. refused_behind e bytes calls fault fits good room stream

pub returns-clause-behind : goal.returns-clause-behind
returns-clause-behind c = λ e bytes calls fault refused. behind_refused e bytes calls fault refused
