use Rattle.std.proofs.Common.{ℕ, List, ◌∙◌, refl}
use Rattle.std.proofs.lemmas.Result.{err_from_is_err_and}
use Rattle.must_node.specs.declared.node.Node.{Node}
use Rattle.std.proofs.Common.{subst}
use Rattle.must_format.specs.Stream.{version_of}
use Rattle.must_rules.specs.Limits.{limit_at}
use Rattle.must_rules.specs.Streams.{rank_told}
use Rattle.must_tree.specs.Ranks.{IsFaultOf, IsLimitFault}
use Rattle.must_tree.specs.Beside.{Beside, told_by}
use Rattle.must_tree.proofs.Reached.{beside_more, beside_all, left_next, left_beside, stood_fault, goes_on, not_failed, open_unfailed, ok_is_no_fault, handed_on, within_gathered, limit_fault, call_reached, reached_more}
use Rattle.must_tree.proofs.rank.read_calls.Goals as goal

pub loop-init : goal.loop-init
loop-init g c = record {
  beside = λ bytes first b. b;
  kept = refl;
  whose = c.requires.whose;
  goes_on = c.requires.«open»;
  unfailed = open_unfailed c.args.reader.now.phase c.requires.«open»;
}

pub loop-preserved : goal.loop-preserved
loop-preserved g c = record {
  beside = λ bytes first b. beside_more c.args.expect.rank c.args.expect.size bytes (g.S.Source.left c.loop.src) (g.S.Source.left c.next.new.src) c.loop.reader c.next.new.self c.in_ok-next.next c.in-Some.call c.loop.walk c.take_call.new.walk first c.loop.node c.take_call.new.node
      c.in-Some.is c.in_ok-take_call-in-Some.ensures.took c.in_ok-next.ensures.given c.loop.invariant.goes_on (c.loop.invariant.beside bytes first b);
  kept = c.in_ok-next.ensures.kept (λ e. ok_is_no_fault c.in_ok-next.next _ e) ∙ c.loop.invariant.kept;
  whose = c.in_ok-next.ensures.whose ∙ c.loop.invariant.whose;
  goes_on = goes_on c.next.new.self.phase c.in_ok-next.next c.in-Some.call c.in-Some.is c.in_ok-next.ensures.phase;
  unfailed = not_failed c.next.new.self.phase c.in_ok-next.next c.in_ok-next.ensures.phase;
}

pub returns-in-None-clause-done : goal.returns-in-None-clause-done
returns-in-None-clause-done g c = λ bytes first b.
    beside_all c.args.expect.rank c.args.expect.size bytes (g.S.Source.left c.loop.src) (g.S.Source.left c.next.new.src) c.loop.reader c.next.new.self c.in_ok-next.next c.loop.walk first c.loop.node
    c.in-None.is c.in_ok-next.ensures.given c.loop.invariant.goes_on (c.in_ok-next.ensures.whose ∙ c.loop.invariant.whose) c.in_ok-next.ensures.phase (c.loop.invariant.beside bytes first b)

pub returns-in-None-clause-tied : goal.returns-in-None-clause-tied
returns-in-None-clause-tied g c = λ bytes first b.
    left_next c.args.expect.rank c.args.expect.size bytes (g.S.Source.left c.loop.src) (g.S.Source.left c.next.new.src) c.loop.reader c.next.new.self _ c.loop.walk first c.loop.node c.in_ok-next.ensures.given c.loop.invariant.goes_on (c.loop.invariant.beside bytes first b)

pub returns-in_err-take_call-in-Some-clause-tied : goal.returns-in_err-take_call-in-Some-clause-tied
returns-in_err-take_call-in-Some-clause-tied g c = λ bytes first b.
    left_next c.args.expect.rank c.args.expect.size bytes (g.S.Source.left c.loop.src) (g.S.Source.left c.next.new.src) c.loop.reader c.next.new.self _ c.loop.walk first c.loop.node c.in_ok-next.ensures.given c.loop.invariant.goes_on (c.loop.invariant.beside bytes first b)

pub returns-in_err-next-clause-tied : goal.returns-in_err-next-clause-tied
returns-in_err-next-clause-tied g c = λ bytes first b.
    left_next c.args.expect.rank c.args.expect.size bytes (g.S.Source.left c.loop.src) (g.S.Source.left c.next.new.src) c.loop.reader c.next.new.self _ c.loop.walk first c.loop.node c.in_err-next.ensures.given c.loop.invariant.goes_on (c.loop.invariant.beside bytes first b)

pub returns-in_err-next-clause-refused : goal.returns-in_err-next-clause-refused
returns-in_err-next-clause-refused g c =
    let p = err_from_is_err_and c.from_residual.result c.from_residual.ensures.1 in
    handed_on c.from_residual.result p.0 c.in_err-next.field-0.0
    (λ fault. (bytes : List ℕ) (first : Node) → Beside c.args.expect.rank c.args.expect.size bytes (g.S.Source.left c.args.src.now) c.args.reader.now c.args.walk.now first c.args.node.now → IsFaultOf c.args.expect.rank c.args.expect.size bytes (g.S.Source.left c.next.new.src) fault) p.1 p.2
    (λ bytes first b.
    let k = c.loop.invariant.beside bytes first b in
    stood_fault c.args.expect.rank c.args.expect.size bytes (g.S.Source.left c.loop.src) (g.S.Source.left c.next.new.src) c.loop.reader c.next.new.self k.calls c.in_err-next.field-0.0
    c.in_err-next.ensures.given c.loop.invariant.goes_on (c.in_err-next.ensures.whose ∙ c.loop.invariant.whose) c.in_err-next.ensures.phase (within_gathered c.args.expect.rank c.args.expect.size bytes c.loop.walk k.calls first c.loop.node k.gathers) k.stood)

pub returns-clause-tied : goal.returns-clause-tied
returns-clause-tied g c = λ bytes first b.
    left_beside c.args.expect.rank c.args.expect.size bytes (g.S.Source.left c.loop.src) c.loop.reader c.loop.walk first c.loop.node (c.loop.invariant.beside bytes first b)

pub returns-in_err-take_call-in-Some-clause-refused : goal.returns-in_err-take_call-in-Some-clause-refused
returns-in_err-take_call-in-Some-clause-refused g c =
    let p = err_from_is_err_and c.from_residual-in_err-take_call-in-Some.result c.from_residual-in_err-take_call-in-Some.ensures.1 in
    let f = c.in_err-take_call-in-Some.field-0.0 in
    let rank = c.args.expect.rank in
    let n = c.args.expect.size in
    let left = g.S.Source.left c.next.new.src in
    let reader = c.next.new.self in
    handed_on c.from_residual-in_err-take_call-in-Some.result p.0 f
    (λ fault. (bytes : List ℕ) (first : Node) → Beside rank n bytes (g.S.Source.left c.args.src.now) c.args.reader.now c.args.walk.now first c.args.node.now → IsFaultOf rank n bytes left fault) p.1 p.2
    (λ bytes first b.
    let k = c.loop.invariant.beside bytes first b in
    let reached = call_reached bytes left reader k.calls c.in_ok-next.next c.in-Some.call c.in-Some.is (reached_more bytes (g.S.Source.left c.loop.src) left c.loop.reader reader k.calls c.in_ok-next.next c.in_ok-next.ensures.given c.loop.invariant.goes_on k.stood) in
    limit_fault rank n bytes left reader k.calls c.in-Some.call f (goes_on reader.phase c.in_ok-next.next c.in-Some.call c.in-Some.is c.in_ok-next.ensures.phase) (c.in_ok-next.ensures.whose ∙ c.loop.invariant.whose) reached
    (within_gathered rank n bytes c.loop.walk k.calls first c.loop.node k.gathers)
    (subst (λ (m : ℕ). IsLimitFault (limit_at (rank_told rank n bytes) k.calls c.in-Some.call) m f) c.at.ensures (c.in_err-take_call-in-Some.ensures.over (told_by rank n bytes) (version_of bytes) k.calls first k.gathers)))
