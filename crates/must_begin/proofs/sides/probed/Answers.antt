use Rattle.std.specs.Prelude.{FitsSigned}
use Rattle.std.proofs.Common.{Option, refl, sym, subst, rules, ◌∙◌}
use Rattle.std.proofs.lemmas.Int.{to_z-of_z}
use mir.Syntax.{w32}
use Rattle.must_begin.specs.declared.named.Named.{Named}
use Rattle.must_begin.specs.Telling.{IsOn}
use Rattle.must_begin.proofs.Messages.{probe_is, probeless, nowhere_probed, looks_seen, unlooked, probed_is}
use Rattle.must_begin.proofs.Beginning.{asked_none}
use Rattle.must_begin.proofs.sides.probed.Goals as goal

pub returns-in_default : goal.returns-in_default
returns-in_default g c = λ r calls facts clear on. asked_none _ (probeless r calls c.args.call.now (sym c.probe_terms.ensures ∙ c.in_default.is))

pub returns-in_default-on : goal.returns-in_default-on
returns-in_default-on g c = λ r calls facts clear on.
    asked_none _ (nowhere_probed r calls c.args.call.now (subst (λ (o : Option Named). IsOn r calls c.args.call.now.body o) c.in_default-on.is on))

pub returns-then-not-looks : goal.returns-then-not-looks
returns-then-not-looks g c = λ r calls facts clear on.
    let t = c.in-Some.terms in
    let named = subst (λ (o : Option Named). IsOn r calls c.args.call.now.body o) c.in-Some-on.is on in
    let fits : FitsSigned w32 t.source = search rules in
    asked_none _ (unlooked r calls c.args.call.now t (probe_is c.args.call.now.body t (sym c.probe_terms.ensures ∙ c.in-Some.is)) _ _ named.0 named.1
    (looks_seen r calls c.args.call.now _ c.args.clear c.in-Some-on.on.comm _ t.source _ facts clear (to_z-of_z w32 t.source fits) c.looks.ensures ∙ c.if-not-looks.true))

pub returns : goal.returns
returns g c = λ r calls facts clear on.
    let t = c.in-Some.terms in
    let named = subst (λ (o : Option Named). IsOn r calls c.args.call.now.body o) c.in-Some-on.is on in
    let fits : FitsSigned w32 t.source = search rules in
    let tag : FitsSigned w32 t.tag = search rules in
    probed_is r calls c.args.call.now t (probe_is c.args.call.now.body t (sym c.probe_terms.ensures ∙ c.in-Some.is)) _ _ named.0 named.1 _
    (looks_seen r calls c.args.call.now _ c.args.clear c.in-Some-on.on.comm _ t.source _ facts clear (to_z-of_z w32 t.source fits) c.looks.ensures ∙ c.if-not-looks.false)
    refl refl c.in_ok-name.ensures (to_z-of_z w32 t.source fits) (to_z-of_z w32 t.tag tag) c.in_ok-sig.ensures
