use Rattle.std.proofs.Common.{sym, ap, ◌∙◌}
use Rattle.std.proofs.lemmas.Result.{err_from_is_err_and}
use Rattle.must_derived.specs.Numbers.{construct_by}
use Rattle.must_derived.specs.Steps.{Builds, IsRefused}
use Rattle.must_derived.proofs.Handing.{handed_on, refused_is}
use Rattle.must_derived.proofs.datatypes.Datatypes.make.Goals as goal

pub returns-in_err-no-clause-over : goal.returns-in_err-no-clause-over
returns-in_err-no-clause-over c =
    let table = c.args.self.now.table in
    let numbers = c.args.self.now.numbers in
    let can = c.can_make.ensures.0 c.if-not-can_make.false in
    let builds : Builds table numbers c.args.body.now = record {
      call = c.in-Some.construct;
      call_is = ap (construct_by numbers) c.in-Derive.is ∙ sym c.in_ok-construct.ensures ∙ c.in-Some.is;
      live = can.0;
    } in
    let p = err_from_is_err_and c.from_residual-in_err-no.result c.from_residual-in_err-no.ensures.1 in
    let f = c.in_err-no.field-0.0 in
    handed_on c.from_residual-in_err-no.result p.0 f (IsRefused table numbers c.args.body.now) p.1 p.2
    (refused_is table numbers c.args.body.now builds c.make.result f c.in_err-no.was c.make.ensures.heavy c.make.ensures.wide)

pub returns-clause-makes : goal.returns-clause-makes
returns-clause-makes c =
    let table = c.args.self.now.table in
    let numbers = c.args.self.now.numbers in
    let can = c.can_make.ensures.0 c.if-not-can_make.false in
    let builds : Builds table numbers c.args.body.now = record {
      call = c.in-Some.construct;
      call_is = ap (construct_by numbers) c.in-Derive.is ∙ sym c.in_ok-construct.ensures ∙ c.in-Some.is;
      live = can.0;
    } in
    record {
      builds = builds;
      number = c.in_ok-no.ensures.made.0;
      new_is = c.in_ok-no.ensures.made.1;
      light = c.in_ok-no.ensures.lawful.0;
      within = c.in_ok-no.ensures.lawful.1;
    }
