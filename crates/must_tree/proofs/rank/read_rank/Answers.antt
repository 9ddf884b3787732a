use Rattle.std.proofs.Common.{rules, ◌≡◌, ℕ, List, [], Some, ◌∙◌, ap}
use Rattle.std.specs.Int.{w32}
use Rattle.std.specs.Prelude.{FitsSigned}
use Rattle.std.proofs.lemmas.Int.{to_z-of_z}
use Rattle.std.proofs.lemmas.Result.{err_from_is_err_and}
use Rattle.must_rules.specs.LimitLaws.{within_none}
use Rattle.must_tree.specs.Ranks.{IsFaultOf}
use Rattle.must_tree.proofs.Reached.{begun, told_tag, taken_reads, stood_fault, fresh_stood, fresh_open, left_behind, handed_on}
use Rattle.must_tree.proofs.rank.read_rank.Goals as goal

pub returns-in_err-next-clause-refused : goal.returns-in_err-next-clause-refused
returns-in_err-next-clause-refused g c =
    let p = err_from_is_err_and c.from_residual-in_err-next.result c.from_residual-in_err-next.ensures.1 in
    handed_on c.from_residual-in_err-next.result p.0 c.in_err-next.field-0.0
    (λ fault. (bytes : List ℕ) → g.S.Source.left c.args.src.now ≡ Some bytes → IsFaultOf c.args.expect.rank c.args.expect.size bytes (g.S.Source.left c.next.new.src) fault) p.1 p.2
    (λ bytes e. stood_fault c.args.expect.rank c.args.expect.size bytes (g.S.Source.left c.args.src.now) (g.S.Source.left c.next.new.src) c.in_ok-reader.reader c.next.new.self [] c.in_err-next.field-0.0
    c.in_err-next.ensures.given (fresh_open c.in_ok-reader.reader _ c.in_ok-reader.ensures) (c.in_err-next.ensures.whose ∙ ap (λ r. r.expect) c.in_ok-reader.ensures) c.in_err-next.ensures.phase (within_none _)
    (fresh_stood bytes (g.S.Source.left c.args.src.now) c.in_ok-reader.reader _ e c.in_ok-reader.ensures))

pub returns-in_err-next-clause-tied : goal.returns-in_err-next-clause-tied
returns-in_err-next-clause-tied g c = λ bytes e.
    left_behind bytes (g.S.Source.left c.args.src.now) (g.S.Source.left c.next.new.src) c.in_ok-reader.reader c.next.new.self [] _
    (fresh_stood bytes (g.S.Source.left c.args.src.now) c.in_ok-reader.reader _ e c.in_ok-reader.ensures) c.in_err-next.ensures.given (fresh_open c.in_ok-reader.reader _ c.in_ok-reader.ensures)

pub returns-in_err-walk-clause-tied : goal.returns-in_err-walk-clause-tied
returns-in_err-walk-clause-tied g c = λ bytes e.
    left_behind bytes (g.S.Source.left c.args.src.now) (g.S.Source.left c.next.new.src) c.in_ok-reader.reader c.next.new.self [] _
    (fresh_stood bytes (g.S.Source.left c.args.src.now) c.in_ok-reader.reader _ e c.in_ok-reader.ensures) c.in_ok-next.ensures.given (fresh_open c.in_ok-reader.reader _ c.in_ok-reader.ensures)

pub returns-in_err-walk_stream-clause-refused : goal.returns-in_err-walk_stream-clause-refused
returns-in_err-walk_stream-clause-refused g c =
    let fits : FitsSigned w32 c.greatest_tag-tag_ub.result = search rules in
    let p = err_from_is_err_and c.from_residual-in_err-walk_stream.result c.from_residual-in_err-walk_stream.ensures.1 in
    handed_on c.from_residual-in_err-walk_stream.result p.0 c.in_err-walk_stream.field-0.0
    (λ fault. (bytes : List ℕ) → g.S.Source.left c.args.src.now ≡ Some bytes → IsFaultOf c.args.expect.rank c.args.expect.size bytes (g.S.Source.left c.walk_stream.new.src) fault) p.1 p.2
    (λ bytes e. c.in_err-walk_stream.ensures.refused bytes c.args.node.now
    (begun c.args.expect.rank c.args.expect.size c.greatest_tag-tag_ub.result bytes (g.S.Source.left c.args.src.now) (g.S.Source.left c.next.new.src) _ c.in_ok-reader.reader c.next.new.self c.in_ok-next.next c.in_ok-walk.walk c.args.node.now
    c.requires.rank e c.in_ok-reader.ensures c.in_ok-next.ensures.given c.in_ok-next.ensures.phase c.greatest_tag-tag_ub.ensures c.in_ok-walk.ensures.walks
    (told_tag c.in_ok-walk.walk.rank c.args.expect.rank c.args.expect.size c.greatest_tag-tag_ub.result _ c.in_ok-walk.ensures.rank (to_z-of_z w32 c.greatest_tag-tag_ub.result fits))))

pub returns-in_err-walk_stream-clause-tied : goal.returns-in_err-walk_stream-clause-tied
returns-in_err-walk_stream-clause-tied g c =
    let fits : FitsSigned w32 c.greatest_tag-tag_ub.result = search rules in
    λ bytes e. c.in_err-walk_stream.ensures.tied bytes c.args.node.now
    (begun c.args.expect.rank c.args.expect.size c.greatest_tag-tag_ub.result bytes (g.S.Source.left c.args.src.now) (g.S.Source.left c.next.new.src) _ c.in_ok-reader.reader c.next.new.self c.in_ok-next.next c.in_ok-walk.walk c.args.node.now
    c.requires.rank e c.in_ok-reader.ensures c.in_ok-next.ensures.given c.in_ok-next.ensures.phase c.greatest_tag-tag_ub.ensures c.in_ok-walk.ensures.walks
    (told_tag c.in_ok-walk.walk.rank c.args.expect.rank c.args.expect.size c.greatest_tag-tag_ub.result _ c.in_ok-walk.ensures.rank (to_z-of_z w32 c.greatest_tag-tag_ub.result fits)))

pub returns-in_err-end_walk-clause-tied : goal.returns-in_err-end_walk-clause-tied
returns-in_err-end_walk-clause-tied g c =
    let fits : FitsSigned w32 c.greatest_tag-tag_ub.result = search rules in
    λ bytes e. c.in_ok-walk_stream.ensures.tied bytes c.args.node.now
    (begun c.args.expect.rank c.args.expect.size c.greatest_tag-tag_ub.result bytes (g.S.Source.left c.args.src.now) (g.S.Source.left c.next.new.src) _ c.in_ok-reader.reader c.next.new.self c.in_ok-next.next c.in_ok-walk.walk c.args.node.now
    c.requires.rank e c.in_ok-reader.ensures c.in_ok-next.ensures.given c.in_ok-next.ensures.phase c.greatest_tag-tag_ub.ensures c.in_ok-walk.ensures.walks
    (told_tag c.in_ok-walk.walk.rank c.args.expect.rank c.args.expect.size c.greatest_tag-tag_ub.result _ c.in_ok-walk.ensures.rank (to_z-of_z w32 c.greatest_tag-tag_ub.result fits)))

pub returns-clause-tied : goal.returns-clause-tied
returns-clause-tied g c =
    let fits : FitsSigned w32 c.greatest_tag-tag_ub.result = search rules in
    λ bytes e. c.in_ok-walk_stream.ensures.tied bytes c.args.node.now
    (begun c.args.expect.rank c.args.expect.size c.greatest_tag-tag_ub.result bytes (g.S.Source.left c.args.src.now) (g.S.Source.left c.next.new.src) _ c.in_ok-reader.reader c.next.new.self c.in_ok-next.next c.in_ok-walk.walk c.args.node.now
    c.requires.rank e c.in_ok-reader.ensures c.in_ok-next.ensures.given c.in_ok-next.ensures.phase c.greatest_tag-tag_ub.ensures c.in_ok-walk.ensures.walks
    (told_tag c.in_ok-walk.walk.rank c.args.expect.rank c.args.expect.size c.greatest_tag-tag_ub.result _ c.in_ok-walk.ensures.rank (to_z-of_z w32 c.greatest_tag-tag_ub.result fits)))

pub returns-clause-done : goal.returns-clause-done
returns-clause-done g c =
    let fits : FitsSigned w32 c.greatest_tag-tag_ub.result = search rules in
    λ bytes e. taken_reads c.args.expect.rank c.args.expect.size bytes (g.S.Source.left c.walk_stream.new.src) c.walk_stream.new.walk c.args.node.now c.walk_stream.new.node c.end_walk.new.node c.in_ok-end_walk.ensures
    (c.in_ok-walk_stream.ensures.done bytes c.args.node.now
    (begun c.args.expect.rank c.args.expect.size c.greatest_tag-tag_ub.result bytes (g.S.Source.left c.args.src.now) (g.S.Source.left c.next.new.src) _ c.in_ok-reader.reader c.next.new.self c.in_ok-next.next c.in_ok-walk.walk c.args.node.now
    c.requires.rank e c.in_ok-reader.ensures c.in_ok-next.ensures.given c.in_ok-next.ensures.phase c.greatest_tag-tag_ub.ensures c.in_ok-walk.ensures.walks
    (told_tag c.in_ok-walk.walk.rank c.args.expect.rank c.args.expect.size c.greatest_tag-tag_ub.result _ c.in_ok-walk.ensures.rank (to_z-of_z w32 c.greatest_tag-tag_ub.result fits))))
