use Rattle.std.proofs.Common.{◌≡◌, ◌<ℤ◌, subst, arith, [], ◌∷◌, ◌++◌}
use Rattle.std.proofs.lemmas.Int.{ints}
use Rattle.must_span.specs.Ranges.{AreApart}
use Rattle.must_span.specs.Steps.{IsBehind}
use Rattle.must_span.proofs.RangeLaws.{puts_behind, puts_within, all_back, apart_last}
use Rattle.must_span.proofs.ranges.put.Goals as goal

pub returns-then-last-range : goal.returns-then-last-range
returns-then-last-range c =
    let rest = c.pop.new.self.items in
    let last = c.in-Some.last in
    let was : c.args.swept.now.items ≡ rest ++ last ∷ [] = c.in-Some.ensures.items in
    let below : last.high <ℤ c.args.range.low = grind (arith, ints) in
    rw (was, c.in_ok-push-3.ensures.items, c.in_ok-push-2.ensures.items)
    (puts_behind rest last c.args.range (subst AreApart was c.requires.apart) c.requires.filled (subst (IsBehind c.args.range.low) was c.requires.behind) below)

pub joined-requires-clause-from : goal.joined-requires-clause-from
joined-requires-clause-from c =
    let rest = c.pop.new.self.items in
    let last = c.in-Some.last in
    let was : c.args.swept.now.items ≡ rest ++ last ∷ [] = c.in-Some.ensures.items in
    (all_back _ rest (last ∷ []) (subst (IsBehind c.args.range.low) was c.requires.behind)).0

pub joined-requires-clause-filled : goal.joined-requires-clause-filled
joined-requires-clause-filled c =
    let rest = c.pop.new.self.items in
    let last = c.in-Some.last in
    let was : c.args.swept.now.items ≡ rest ++ last ∷ [] = c.in-Some.ensures.items in
    apart_last rest last (subst AreApart was c.requires.apart)

pub returns : goal.returns
returns c =
    let rest = c.pop.new.self.items in
    let last = c.in-Some.last in
    let was : c.args.swept.now.items ≡ rest ++ last ∷ [] = c.in-Some.ensures.items in
    rw (was, c.in_ok-push-4.ensures.items)
    (puts_within rest last c.args.range c.joined.result (subst AreApart was c.requires.apart) (subst (IsBehind c.args.range.low) was c.requires.behind) c.joined.ensures.low c.joined.ensures.filled c.joined.ensures.covers)
