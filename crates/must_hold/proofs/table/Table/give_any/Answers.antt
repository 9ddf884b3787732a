use Rattle.std.proofs.Common.{None, refl, ap, ◌∙◌, arith}
use Rattle.must_hold.specs.Changes.{item_left}
use Rattle.must_hold.proofs.Putting.{put}
use Rattle.must_hold.proofs.table.Table.give_any.Goals as goal

pub returns : goal.returns
returns c = record {
  item = c.left-item.result;
  item_is = c.left-item.ensures ∙ ap (item_left c.args.rank) c.remove-held.ensures.value;
  gives = record {
    count = refl;
    given = let e = c.in_ok-next.ensures in omega (arith, e);
    held = put c.args.self.now.given None c.args.self.now.held c.remove-held.new.self c.remove-held.ensures.updates;
    numbers = λ k. refl;
    entries = c.in_ok-put_item.ensures;
  };
}
