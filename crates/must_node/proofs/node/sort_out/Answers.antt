use Rattle.std.proofs.Common.{◌≡◌, true, false, not, [], ◌∷◌, ◌++◌, List, sym, ap, ◌∙◌, append_assoc}
use Rattle.std.specs.Vec.Iter.{into_iter_items}
use Rattle.must_entry.specs.declared.entry.Entry.{Entry}
use Rattle.must_node.specs.Inner.{is_inner, inner}
use Rattle.must_node.specs.ListLaws.{kept_push, left_push}
use Rattle.must_node.proofs.Sort.{orderly_upto, calls_upto, knows_kept, knows_left}
use Rattle.must_node.proofs.node.sort_out.Goals as goal

pub loop-entry-preserved-in-Continue-1 : goal.loop-entry-preserved-in-Continue-1
loop-entry-preserved-in-Continue-1 c =
    let e = c.in-Some.entry in
    let ys = c.loop-entry.yielded in
    let rest = into_iter_items c.next.new.self in
    let all = c.args.entries.items in
    let p = is_inner c.args.root c.args.range in
    let whole : ys ++ e ∷ rest ≡ all = ap (λ (l : List Entry). ys ++ l) (sym c.in-Some.ensures.steps.0) ∙ c.loop-entry.invariant.all in
    let hit : p e ≡ true = sym c.is_inner.ensures ∙ c.if-is_inner.true in
    record {
      all = append_assoc ys (e ∷ []) rest ∙ whole;
      outer = c.loop-entry.invariant.outer ∙ sym (left_push (λ w. not (p w)) ys e (ap not hit));
      inner = λ g k o w. knows_kept p c.settle.new.self g ys e hit (c.in_ok-settle.ensures (g ++ inner c.args.root c.args.range ys) (c.loop-entry.invariant.inner g k o w) (orderly_upto p g ys e rest all hit whole o) (calls_upto p g ys e rest all hit whole w));
    }

pub loop-entry-preserved : goal.loop-entry-preserved
loop-entry-preserved c =
    let e = c.in-Some.entry in
    let ys = c.loop-entry.yielded in
    let rest = into_iter_items c.next.new.self in
    let all = c.args.entries.items in
    let p = is_inner c.args.root c.args.range in
    let whole : ys ++ e ∷ rest ≡ all = ap (λ (l : List Entry). ys ++ l) (sym c.in-Some.ensures.steps.0) ∙ c.loop-entry.invariant.all in
    let miss : p e ≡ false = sym c.is_inner.ensures ∙ c.if-is_inner.false in
    record {
      all = append_assoc ys (e ∷ []) rest ∙ whole;
      outer = c.in_ok-push.ensures.items ∙ ap (λ (l : List Entry). l ++ e ∷ []) c.loop-entry.invariant.outer ∙ sym (kept_push (λ w. not (p w)) ys e (ap not miss));
      inner = λ g k o w. knows_left p c.loop-entry.settled g ys e miss (c.loop-entry.invariant.inner g k o w);
    }
