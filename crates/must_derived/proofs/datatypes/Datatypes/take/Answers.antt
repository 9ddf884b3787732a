use Rattle.std.proofs.Common.{◌≡◌, List, [], ◌∷◌, ◌++◌, sym, ap, ◌∙◌}
use Rattle.std.proofs.lemmas.Result.{err_from_is_err_and}
use Rattle.must_call.specs.declared.call.Call.{Call}
use Rattle.must_rules.specs.Starts.{Clearness}
use Rattle.must_rules.specs.Limits.{type_limit_at}
use Rattle.must_derived.specs.Standing.{Stands, IsTypeLimit}
use Rattle.must_derived.proofs.Handing.{handed_on}
use Rattle.must_derived.proofs.Stepping.{stands_made, stands_left, left_limit, made_within, made_over}
use Rattle.must_derived.proofs.datatypes.Datatypes.take.Goals as goal

pub returns-in_err-no-in-Some-clause-over : goal.returns-in_err-no-in-Some-clause-over
returns-in_err-no-in-Some-clause-over c =
    let p = err_from_is_err_and c.from_residual.result c.from_residual.ensures.1 in
    let f = c.in_err-no-in-Some.field-0.0 in
    let call = c.args.call.now in
    handed_on c.from_residual.result p.0 f
    (λ fault. (is_clear : Clearness) (calls : List Call) → c.args.clear ≡ is_clear calls call → Stands is_clear c.args.self.now calls → IsTypeLimit (type_limit_at c.args.self.now.table.weight_limit is_clear calls call) fault) p.1 p.2
    (λ is_clear calls clear s. made_over is_clear calls call c.args.self.now c.in-Some.class c.in-Some._number c.args.clear f s (sym c.made.ensures ∙ c.in-Some.is) clear c.in_err-no-in-Some.ensures.over)

pub returns-in-None-clause-stands : goal.returns-in-None-clause-stands
returns-in-None-clause-stands c = λ is_clear calls next clear s.
    stands_left is_clear calls c.args.call.now c.args.self.now c.free.new.self s (sym c.made.ensures ∙ c.in-None.is) c.free.ensures.frees c.free.ensures.numbers

pub returns-in-None-clause-within : goal.returns-in-None-clause-within
returns-in-None-clause-within c = λ is_clear calls clear s. left_limit c.args.self.now.table.weight_limit is_clear calls c.args.call.now (sym c.made.ensures ∙ c.in-None.is)

pub returns-in_ok-push-in-Some-clause-stands : goal.returns-in_ok-push-in-Some-clause-stands
returns-in_ok-push-in-Some-clause-stands c = λ is_clear calls next clear s.
    stands_made is_clear calls c.args.call.now c.args.self.now _ c.in-Some.class c.in-Some._number c.args.clear c.in_ok-no-in-Some.no s next (sym c.made.ensures ∙ c.in-Some.is) clear c.in_ok-no-in-Some.ensures.makes (c.in_ok-push-in-Some.ensures ∙ ap (λ ns. ns ++ c.in_ok-no-in-Some.no ∷ []) c.in_ok-no-in-Some.ensures.numbers)

pub returns-in_ok-push-in-Some-clause-within : goal.returns-in_ok-push-in-Some-clause-within
returns-in_ok-push-in-Some-clause-within c = λ is_clear calls clear s.
    made_within is_clear calls c.args.call.now c.args.self.now c.make_of.new.self.table c.in-Some.class c.in-Some._number c.args.clear c.in_ok-no-in-Some.no s (sym c.made.ensures ∙ c.in-Some.is) clear c.in_ok-no-in-Some.ensures.makes
