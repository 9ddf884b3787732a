use Rattle.std.proofs.Common.{◌≡◌, ◌∙◌, sym, ap, arith, negsuc, take, map, nat_eq, slice_index_or, pos}
use Rattle.std.specs.Prelude.{IsPermutation}
use Rattle.std.specs.BTreeMap as tree
use Rattle.std.specs.Cmp.{nat_eq_equiv}
use Rattle.std.specs.List.{IsDistinct}
use Rattle.std.specs.Ordering.{int_eq, int_cmp}
use Rattle.std.proofs.lemmas.Bool.{not-true, not-false}
use Rattle.std.proofs.lemmas.List.{take_all}
use Rattle.std.proofs.lemmas.List.Sorted.{IsPermutation-map}
use Rattle.std.proofs.lemmas.Map.Keys.{IsDistinct-IsPermutation}
use Rattle.must_group.specs.declared.splits.SplitRow.{SplitRow}
use Rattle.must_group.proofs.Gathered.{gathered, gathered_skip, gathered_join, new_member, no_member, split_gathered}
use Rattle.must_group.proofs.splits.split.Goals as goal
use Rattle.must_group.proofs.splits.split.Goals.{then-is_defined+in_ok-join, else-is_defined}

-- what a read past the end would give
past : SplitRow
past = record { member = 0; color = pos 0; key = pos 0 }

pub join-requires : goal.join-requires
unfolding past
join-requires c =
    let rows = c.deref-row-items.result.now in
    let row = slice_index_or rows c.loop-row.row-index past in
    let moved : IsPermutation c.args.rows.now rows = rw c.deref-row-items.ensures.value c.in_ok-ordered.ensures.permutation in
    let distinct : IsDistinct nat_eq (map (λ (row : SplitRow). row.member) rows) = IsDistinct-IsPermutation nat_eq nat_eq_equiv.symm _ _ (IsPermutation-map (λ (row : SplitRow). row.member) c.args.rows.now rows moved) c.requires in
    rw (c.loop-row.invariant row.color) (no_member (take c.loop-row.row-index rows) row.color row.member (new_member rows c.loop-row.row-index past row.color c.loop-row-test.true distinct))

pub loop-row-preserved : goal.loop-row-preserved
unfolding past
loop-row-preserved c = λ color.
    let rows = c.deref-row-items.result.now in
    let row = slice_index_or rows c.loop-row.row-index past in
    let own = c.loop-row.invariant row.color in
    let old = c.loop-row.invariant color in
    elim c.if-is_defined.branch [
      | then-is_defined+in_ok-join w ↦
          let joined = w.in_ok-join.ensures color in
          let defined = not-true (int_eq row.color (negsuc 0)) (sym w.if-is_defined.ensures) in
          rw w.groups-is (joined ∙ rw (own, old) (sym (gathered_join rows c.loop-row.row-index past c.loop-row-test.true defined color)))
      | else-is_defined w ↦
          let undefined = not-false (int_eq row.color (negsuc 0)) (sym w.if-is_defined.ensures) in
          rw w.groups-is (old ∙ sym (gathered_skip rows c.loop-row.row-index past c.loop-row-test.true undefined color))
    ]

pub returns : goal.returns
returns c =
    let rows = c.args.rows.now in
    let ordered = c.in_ok-ordered.ordered.items in
    let all : take c.loop-row.row-index c.deref-row-items.result.now ≡ ordered = take_all c.loop-row.row-index c.deref-row-items.result.now (omega arith) ∙ c.deref-row-items.ensures.value in
    rw c.in_ok-colors.ensures (split_gathered rows ordered c.in_ok-ordered.ensures.sorted c.in_ok-ordered.ensures.stable (λ color. tree.get int_cmp c.loop-row.groups color) (λ color. c.loop-row.invariant color ∙ ap (λ l. gathered l color) all))
