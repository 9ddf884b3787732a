use Rattle.std.proofs.Common.{◌+◌, ◌*◌, length}
use Rattle.must_levels.proofs.tree.+tree.Given as goal

abbrev pub decreases-run_both-join_mut+arg2 : goal.decreases-run_both-join_mut+arg2
decreases-run_both-join_mut+arg2 g l = l.level * 400 + 2

abbrev pub decreases-run_both-join_mut+arg3 : goal.decreases-run_both-join_mut+arg3
decreases-run_both-join_mut+arg3 g l = l.level * 400 + 5 * length l.others.now + 7

abbrev pub decreases-run_beside-join_mut+arg2 : goal.decreases-run_beside-join_mut+arg2
decreases-run_beside-join_mut+arg2 g l = l.level * 400 + 370

abbrev pub decreases-run_all : goal.decreases-run_all
decreases-run_all g l = l.level * 400 + 360

abbrev pub decreases-run_both : goal.decreases-run_both
decreases-run_both g l = l.level * 400 + 5 * length l.others.now + 8

abbrev pub decreases-run_child : goal.decreases-run_child
decreases-run_child g l = l.level * 400

abbrev pub decreases-run_children : goal.decreases-run_children
decreases-run_children g l = l.level * 400 + 5 * length l.ports.now + 4

abbrev pub decreases-run_first : goal.decreases-run_first
decreases-run_first g l = l.level * 400 + 1

abbrev pub decreases-run_node : goal.decreases-run_node
decreases-run_node g l = l.level * 400 + 390

abbrev pub decreases-run_beside : goal.decreases-run_beside
decreases-run_beside g l = l.level * 400 + 380

abbrev pub decreases-run_rest : goal.decreases-run_rest
decreases-run_rest g l = l.level * 400 + 5 * length l.others.now + 6
