use Rattle.std.proofs.Common.{Some, None, refl, sym, ap, ◌∙◌}
use Rattle.std.specs.Option.{option_to_list}
use Rattle.must_begin.proofs.Keeping.{release_step, removed_key}
use Rattle.must_begin.proofs.requests.Requests.release.Goals as goal

pub returns-in_default : goal.returns-in_default
returns-in_default c = λ r calls kept. release_step r calls c.args.call.now None _ _ c.requires (ap option_to_list (sym c.in_default.is) ∙ c.freed_request.ensures) kept (λ n. refl)

pub returns : goal.returns
returns c = λ r calls kept.
    release_step r calls c.args.call.now (Some c.in-Some.request) _ _ c.requires (ap option_to_list (sym c.in-Some.is) ∙ c.freed_request.ensures) kept (λ n. removed_key c.in-Some.request n _ _ (c.remove.ensures.updates.0 n))
