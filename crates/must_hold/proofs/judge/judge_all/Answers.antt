use Rattle.std.proofs.Common.{ℕ, ℤ, ◌+◌, subst, List, false, get_or, ap, sym, ◌∙◌, arith, w32}
use Rattle.std.specs.Prelude.{map}
use Rattle.std.specs.List.{list_any}
use Rattle.std.specs.Ordering.{nat_cmp}
use Rattle.std.specs.BTreeMap.{is_at}
use Rattle.std.proofs.lemmas.Int.{to_z-of_z}
use Rattle.std.proofs.lemmas.List.{length-map}
use Rattle.must_hold.specs.Judging.{Judges}
use Rattle.must_hold.specs.Told.{recorded_seen}
use Rattle.must_hold.proofs.Recording.{get_of, get_map}
use Rattle.must_hold.proofs.Judged.{gather_first, gather_next, gather_last}
use Rattle.must_hold.proofs.judge.judge_all.Goals as goal

pub loop-completed-init : goal.loop-completed-init
loop-completed-init c = λ wrong j. gather_first wrong c.args.at.rank c.args.at.call (map recorded_seen c.args.completions.now) c.args.rows.now _ _ c.new-told.ensures.empty (λ h. ap (λ (ks : List ℕ). list_any (is_at (nat_cmp h)) ks) c.new-seen.ensures.empty)

pub loop-completed-preserved : goal.loop-completed-preserved
loop-completed-preserved c = λ wrong j.
    let cs = c.args.completions.now in
    let i = c.loop-completed.completed-index in
    gather_next wrong c.args.at.rank c.args.at.call (map recorded_seen cs) c.args.rows.now i (i + 1) _ _ _ _ _ _ _ _ _ (omega arith)
    (get_map recorded_seen cs i _ (get_of cs i _ (omega arith)))
    (c.judge-answer.ensures j.r j.calls j.rank_is j.tag_is j.numbered j.holds ∙ sym (j.wrong_is _))
    c.in_ok-again.ensures.again c.in_ok-again.ensures.seen c.in_ok-add_row.ensures (λ w e q. c.in_ok-note.ensures w (e ∙ sym c.is_some.ensures) q) (c.loop-completed.invariant wrong j)

pub returns : goal.returns
returns c = λ wrong j.
    gather_last wrong c.args.at.rank c.args.at.call (map recorded_seen c.args.completions.now) c.args.rows.now c.loop-completed.completed-index _ _ _ (omega (arith, length-map c.args.completions.now recorded_seen))
    (c.loop-completed.invariant wrong (subst (λ (z : ℤ). Judges wrong c.args.table.now c.args.at.rank z) (sym (to_z-of_z w32 c.args.tag_ub c.ranges.tag_ub)) j))
