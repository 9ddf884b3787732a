use Rattle.must_call.specs.declared.class.Class.TheVariants.{Comm, Group, Datatype, Operation, Request}
use Rattle.must_find.specs.declared.rule.Rule.TheVariants.{L1, L2, L3, L4, L5}
use Rattle.must_local.specs.Adding.{ClassRows}
use Rattle.must_local.proofs.Gathered.{adds_five}
use Rattle.must_local.proofs.leaks.add_leaks.Goals as goal

pub returns : goal.returns
returns c = λ is_clear calls stands.
    let rank = c.args.at.rank in
    let k = c.args.at.call in
    adds_five (ClassRows rank k Datatype L1 calls) (ClassRows rank k Comm L2 calls) (ClassRows rank k Group L3 calls) (ClassRows rank k Operation L4 calls) (ClassRows rank k Request L5 calls)
    c.args.rows.now c.add_class.new.rows c.add_class-2.new.rows c.add_class-3.new.rows c.add_class-4.new.rows c.add_class-5.new.rows
    (c.in_ok-add_class.ensures is_clear calls stands) (c.in_ok-add_class-2.ensures is_clear calls stands) (c.in_ok-add_class-3.ensures is_clear calls stands)
    (c.in_ok-add_class-4.ensures is_clear calls stands) (c.in_ok-add_class-5.ensures is_clear calls stands)
