use Rattle.std.proofs.Common.{◌≡◌, ◌++◌, rules}
use Rattle.std.proofs.lemmas.Result.{on_err_weaker}
use Rattle.must_format.specs.Values.{i32}
use Rattle.must_value.specs.FrontLaws.{front_whole}
use Rattle.must_value.proofs.coded.AmountCoded.put.Goals as goal

pub returns-clause-front : goal.returns-clause-front
returns-clause-front c =
    let first : c.put_i32.new.out.items ≡ c.args.out.now.items ++ i32 c.args.self.count = search rules in
    on_err_weaker c.put_i32-2.result (front_whole c.args.out.now.items (i32 c.args.self.count) (i32 c.args.self.disp) c.put_i32.new.out.items c.put_i32-2.new.out.items first) c.put_i32-2.ensures.err
