use Rattle.std.specs.Prelude.{FitsSigned}
use Rattle.std.proofs.Common.{Some, refl, sym, ap, subst, rules, ◌∙◌}
use Rattle.std.proofs.lemmas.Int.{to_z-of_z}
use mir.Syntax.{w32}
use Rattle.must_type.specs.Constructs.{natural}
use Rattle.must_sig.specs.Signatures.{signature}
use Rattle.must_parts.specs.Matching.{MatchedOption}
use Rattle.must_begin.specs.Telling.{HasTerms}
use Rattle.must_begin.proofs.Typing.{signed}
use Rattle.must_begin.proofs.sides.asked.Goals as goal

pub returns : goal.returns
returns c = λ trees has.
    let terms = c.args.terms in
    let peer : FitsSigned w32 terms.peer = search rules in
    let tag : FitsSigned w32 terms.tag = search rules in
    let count : FitsSigned w32 terms.count = search rules in
    let is = signed c.args.types.now c.table-table.result.now trees terms.dtype c.in-Some.no c.in_ok-sig.sig (natural terms.count) c.table-table.ensures has (sym c.type_no.ensures ∙ c.in-Some.is) (c.is_live.ensures.0 c.if-not-is_live.false)
    (λ t at. c.in_ok-sig.ensures.expansion t at ∙ ap (signature t) (c.elements.ensures ∙ ap natural (to_z-of_z w32 terms.count count))) in
    subst (MatchedOption (HasTerms c.args.deed c.args.on.comm c.args.on.name.now terms) (Some _)) (sym is.tree_is) (record {
      deed_is = refl;
      comm_is = refl;
      name_is = c.in_ok-name.ensures;
      peer_is = to_z-of_z w32 terms.peer peer;
      tag_is = to_z-of_z w32 terms.tag tag;
      signature_is = is.signature_is;
    })
