use Rattle.std.proofs.Common.{◌≡◌, ◌++◌, rules}
use Rattle.std.proofs.lemmas.Result.{err_from_is_err_and, on_err_weaker}
use Rattle.must_format.specs.Values.{i32, i64, u32}
use Rattle.must_value.specs.FrontLaws.{front_second, front_whole}
use Rattle.must_value.proofs.coded.StructBlockCoded.put.Goals as goal

pub returns-in_err-put_i64-clause-front : goal.returns-in_err-put_i64-clause-front
returns-in_err-put_i64-clause-front c =
    let first : c.put_i32.new.out.items ≡ c.args.out.now.items ++ i32 c.args.self.block = search rules in
    let p = err_from_is_err_and c.from_residual-in_err-put_i64.result c.from_residual-in_err-put_i64.ensures.1 in
    rw p.1 (front_whole c.args.out.now.items (i32 c.args.self.block) (i64 c.args.self.disp ++ u32 c.args.self.old) c.put_i32.new.out.items c.put_i64.new.out.items first c.in_err-put_i64.ensures.err)

pub returns-clause-front : goal.returns-clause-front
returns-clause-front c =
    let first : c.put_i32.new.out.items ≡ c.args.out.now.items ++ i32 c.args.self.block = search rules in
    let second : c.put_i64.new.out.items ≡ c.put_i32.new.out.items ++ i64 c.args.self.disp = search rules in
    on_err_weaker c.put_u32.result (λ same. front_second c.args.out.now.items (i32 c.args.self.block) (i64 c.args.self.disp ++ u32 c.args.self.old) c.put_i32.new.out.items c.put_u32.new.out.items first (front_whole c.put_i32.new.out.items (i64 c.args.self.disp) (u32 c.args.self.old) c.put_i64.new.out.items c.put_u32.new.out.items second same)) c.put_u32.ensures.err
