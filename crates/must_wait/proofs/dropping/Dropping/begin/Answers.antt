use Rattle.std.proofs.Common.{sym, subst, inl, inr, arith}
use Rattle.std.proofs.lemmas.Bool.{cases_order}
use Rattle.must_wait.specs.Dropping.{core_state, WasLooked}
use Rattle.must_wait.specs.Shared.{coded}
use Rattle.must_wait.proofs.Dropped.{both_core_steps, still_looked}
use Rattle.must_wait.proofs.dropping.Dropping.begin.Goals as goal

pub loop-way-preserved : goal.loop-way-preserved
loop-way-preserved c =
    let s = core_state c.loop-way.self in
    let t = core_state c.look.new.self in
    record {
      steps = both_core_steps (coded c.args.rows.now) (core_state c.args.self.now) s t c.loop-way.invariant.steps c.in_ok-look.ensures.steps;
      looked = λ way less. elim (cases_order way c.loop-way.way) [
        | inl same ↦ subst (λ k. WasLooked (coded c.args.rows.now) t c.args.place.rank c.args.place.call k) (sym same) c.in_ok-look.ensures.looked
        | inr (inl below) ↦ still_looked (coded c.args.rows.now) s t c.args.place.rank c.args.place.call way c.in_ok-look.ensures.steps (c.loop-way.invariant.looked way below)
        | inr (inr above) ↦ absurd (omega arith)
      ];
    }
