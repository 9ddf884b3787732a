use Rattle.must_begin.proofs.Keeping.{first_kept, empty_key}
use Rattle.must_begin.proofs.requests.Requests.new.Goals as goal

pub returns : goal.returns
returns c = λ r n. empty_key c.new.result n _ c.new.ensures.empty (first_kept r n)
