use Rattle.std.proofs.Common.{ℕ, List}
use Rattle.std.proofs.Common.{subst}
use Rattle.must_format.specs.Stream.{version_of}
use Rattle.must_rules.specs.Limits.{limit_at}
use Rattle.must_rules.specs.Streams.{rank_told}
use Rattle.std.proofs.lemmas.Result.{on_ok_weaker, IfErr-weaker, err_from_is_err_and}
use Rattle.must_node.specs.declared.node.Node.{Node}
use Rattle.must_tree.specs.Ranks.{IsFaultOf, IsLimitFault}
use Rattle.must_tree.specs.Beside.{Beside, Walked, told_by}
use Rattle.must_tree.proofs.Reached.{beside_first, walked_all, left_walked, goes_on, handed_on, within_gathered, limit_fault, call_reached}
use Rattle.must_tree.proofs.rank.walk_stream.Goals as goal

pub returns-in-None-clause-done : goal.returns-in-None-clause-done
returns-in-None-clause-done g c = λ bytes first k.
    walked_all c.args.expect.rank c.args.expect.size bytes (g.S.Source.left c.args.src.now) c.args.reader.now c.args.first_call c.args.walk.now first c.args.node.now c.in-None.is c.requires.whose c.requires.leaves k

pub returns-in-None-clause-tied : goal.returns-in-None-clause-tied
returns-in-None-clause-tied g c = λ bytes first k.
    left_walked c.args.expect.rank c.args.expect.size bytes (g.S.Source.left c.args.src.now) c.args.reader.now c.args.first_call c.args.walk.now first c.args.node.now k

pub returns-in_err-take_call-in-Some-clause-tied : goal.returns-in_err-take_call-in-Some-clause-tied
returns-in_err-take_call-in-Some-clause-tied g c = λ bytes first k.
    left_walked c.args.expect.rank c.args.expect.size bytes (g.S.Source.left c.args.src.now) c.args.reader.now c.args.first_call c.args.walk.now first c.args.node.now k

pub read_calls-requires-clause-open : goal.read_calls-requires-clause-open
read_calls-requires-clause-open g c = goes_on c.args.reader.now.phase c.args.first_call c.in-Some.call c.in-Some.is c.requires.leaves

pub returns-in_ok-take_call-in-Some-clause-done : goal.returns-in_ok-take_call-in-Some-clause-done
returns-in_ok-take_call-in-Some-clause-done g c = on_ok_weaker c.read_calls.result (λ done bytes first k. done bytes first
    (beside_first c.args.expect.rank c.args.expect.size bytes (g.S.Source.left c.args.src.now) c.args.reader.now c.args.first_call c.in-Some.call c.args.walk.now c.take_call.new.walk first c.args.node.now c.take_call.new.node c.in-Some.is c.in_ok-take_call-in-Some.ensures.took k)) c.read_calls.ensures.done

pub returns-in_ok-take_call-in-Some-clause-tied : goal.returns-in_ok-take_call-in-Some-clause-tied
returns-in_ok-take_call-in-Some-clause-tied g c = λ bytes first k. c.read_calls.ensures.tied bytes first
    (beside_first c.args.expect.rank c.args.expect.size bytes (g.S.Source.left c.args.src.now) c.args.reader.now c.args.first_call c.in-Some.call c.args.walk.now c.take_call.new.walk first c.args.node.now c.take_call.new.node c.in-Some.is c.in_ok-take_call-in-Some.ensures.took k)

pub returns-in_ok-take_call-in-Some-clause-refused : goal.returns-in_ok-take_call-in-Some-clause-refused
returns-in_ok-take_call-in-Some-clause-refused g c = IfErr-weaker c.read_calls.result
    (λ fault. (bytes : List ℕ) (first : Node) → Beside c.args.expect.rank c.args.expect.size bytes (g.S.Source.left c.args.src.now) c.args.reader.now c.take_call.new.walk first c.take_call.new.node → IsFaultOf c.args.expect.rank c.args.expect.size bytes (g.S.Source.left c.read_calls.new.src) fault)
    (λ fault. (bytes : List ℕ) (first : Node) → Walked c.args.expect.rank c.args.expect.size bytes (g.S.Source.left c.args.src.now) c.args.reader.now c.args.first_call c.args.walk.now first c.args.node.now → IsFaultOf c.args.expect.rank c.args.expect.size bytes (g.S.Source.left c.read_calls.new.src) fault)
    (λ fault refused bytes first k. refused bytes first
    (beside_first c.args.expect.rank c.args.expect.size bytes (g.S.Source.left c.args.src.now) c.args.reader.now c.args.first_call c.in-Some.call c.args.walk.now c.take_call.new.walk first c.args.node.now c.take_call.new.node c.in-Some.is c.in_ok-take_call-in-Some.ensures.took k)) c.read_calls.ensures.refused

pub returns-in_err-take_call-in-Some-clause-refused : goal.returns-in_err-take_call-in-Some-clause-refused
returns-in_err-take_call-in-Some-clause-refused g c =
    let p = err_from_is_err_and c.from_residual.result c.from_residual.ensures.1 in
    let f = c.in_err-take_call-in-Some.field-0.0 in
    let rank = c.args.expect.rank in
    let n = c.args.expect.size in
    let left = g.S.Source.left c.args.src.now in
    let reader = c.args.reader.now in
    handed_on c.from_residual.result p.0 f
    (λ fault. (bytes : List ℕ) (first : Node) → Walked rank n bytes left reader c.args.first_call c.args.walk.now first c.args.node.now → IsFaultOf rank n bytes left fault) p.1 p.2
    (λ bytes first k.
    limit_fault rank n bytes left reader k.calls c.in-Some.call f (goes_on reader.phase c.args.first_call c.in-Some.call c.in-Some.is c.requires.leaves) c.requires.whose
    (call_reached bytes left reader k.calls c.args.first_call c.in-Some.call c.in-Some.is k.reached) (within_gathered rank n bytes c.args.walk.now k.calls first c.args.node.now k.gathers)
    (subst (λ (m : ℕ). IsLimitFault (limit_at (rank_told rank n bytes) k.calls c.in-Some.call) m f) c.at.ensures (c.in_err-take_call-in-Some.ensures.over (told_by rank n bytes) (version_of bytes) k.calls first k.gathers)))
