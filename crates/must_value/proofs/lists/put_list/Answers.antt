use Rattle.std.proofs.Common.{length}
use Rattle.std.specs.List.{flat_map}
use Rattle.std.proofs.lemmas.Result.{on_err_weaker}
use Rattle.must_format.specs.Values.{u32}
use Rattle.must_value.specs.FrontLaws.{front_second}
use Rattle.must_value.proofs.lists.put_list.Goals as goal

pub returns-clause-front : goal.returns-clause-front
returns-clause-front g c =
    on_err_weaker c.put_items.result (front_second c.args.out.now.items (u32 (length c.args.items.now)) (flat_map g.T.Coded.text c.args.items.now) c.put_u32.new.out.items c.put_items.new.out.items c.in_ok-put_u32.ensures.ok) c.put_items.ensures.front
