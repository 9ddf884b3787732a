use Rattle.std.proofs.lemmas.Result.{on_err_weaker}
use Rattle.must_format.specs.Values.{u32, status_text}
use Rattle.must_value.specs.FrontLaws.{front_second}
use Rattle.must_value.proofs.coded.CompletionCoded.put.Goals as goal

pub returns-clause-front : goal.returns-clause-front
returns-clause-front c =
    on_err_weaker c.put.result (front_second c.args.out.now.items (u32 c.args.self.index) (status_text c.args.self.status) c.put_u32.new.out.items c.put.new.out.items c.in_ok-put_u32.ensures.ok) c.put.ensures.front
