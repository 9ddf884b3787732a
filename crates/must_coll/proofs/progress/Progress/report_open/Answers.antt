use Rattle.std.proofs.Common.{◌≡◌, ℕ, true, not, refl, List, Option, ap, subst, ◌∙◌}
use Rattle.must_find.specs.Adds.{Adds}
use Rattle.must_coll.specs.declared.item.WaveItem.{WaveItem}
use Rattle.must_coll.specs.Waves.{present, missing}
use Rattle.must_coll.specs.Rows.{IsRowOf, IsRowIn}
use Rattle.must_coll.specs.Fronts.{fronts}
use Rattle.must_coll.proofs.Counting.{gap_from}
use Rattle.must_coll.proofs.NoCall.{adds_under}
use Rattle.must_coll.proofs.progress.Progress.report_open.Goals as goal

pub returns : goal.returns
returns c =
    let ws = fronts c.args.self.lanes in
    let members : c.ranks.result.now ≡ c.args.self.name.members = c.ranks.ensures.ranks ∙ c.members.ensures in
    let first : c.missing-missing.result ≡ missing c.args.self.name.members ws = c.missing-missing.ensures ∙ ap (λ (ms : List ℕ). missing ms ws) members in
    let calls : c.deref.result.now ≡ present ws = c.deref.ensures.value ∙ c.in_ok-calls.ensures.calls in
    let adds = c.in_ok-report_wave.ensures.rows in
    let with_first = subst (λ (m : Option ℕ). Adds c.args.out.now c.report_wave.new.out (IsRowOf m c.deref.result.now)) first adds in
    let with_calls = subst (λ (cs : List WaveItem). Adds c.args.out.now c.report_wave.new.out (IsRowOf (missing c.args.self.name.members ws) cs)) calls with_first in
    adds_under (c.args.self.clean ≡ true) c.args.out.now c.report_wave.new.out (IsRowIn c.args.self.name.members ws) (gap_from c.args.self.clean (not c.args.self.clean) refl c.if-not-self.false) with_calls
