use Rattle.std.proofs.Common.{ap, sym, ◌∙◌, List}
use Rattle.must_messages.specs.CallNeeds.{Need, together, one_way}
use Rattle.must_needs.proofs.Stepping.{point_named, point_need}
use Rattle.must_needs.proofs.waits.point_ways.Goals as goal

pub returns : goal.returns
returns c = λ r calls call is keeps many.
    let plain = sym c.answers_request.ensures ∙ c.if-answers_request.false in
    let named = point_named r calls call c.args.point.now _ _ _ is plain (c.count.ensures r calls keeps) many c.in_ok-names.ensures in
    record {
      there = named.there;
      ways_are = λ need. ap (λ (ns : List Need). one_way (together ns)) (named.needs_are need) ∙ point_need r calls call c.args.point.now need is plain;
    }
