use Rattle.std.proofs.Common.{◌≡◌, sym, rules, Some}
use Rattle.std.specs.BTreeMap as tree
use Rattle.must_p2p.specs.Standing.{handle_of, handle_cmp}
use Rattle.must_p2p.proofs.Named.{handle_number}
use Rattle.must_p2p.proofs.names.Names.find.Goals as goal

pub returns-in-Some : goal.returns-in-Some
returns-in-Some c = λ items known o.
    let e : tree.get handle_cmp c.args.self.now.handles (handle_of c.args.item.now) ≡ Some c.in-Some.number.now = search rules in
    sym (handle_number c.args.self.now items c.args.item.now c.in-Some.number.now known o e)
