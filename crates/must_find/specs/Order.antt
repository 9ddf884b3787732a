-- The order of findings.
use Rattle.std.specs.declared.cmp.Ordering.{Ordering}
use Rattle.std.specs.Ordering.{nat_cmp, int_cmp, ordering_then}
use Rattle.std.specs.Option.{option_cmp}
use Rattle.must_call.specs.declared.place.Place.{Place}
use Rattle.must_find.specs.declared.finding.Finding.{Finding}
use Rattle.must_find.specs.Rules.{rule_place}

-- by rank, call, rule and part
abbrev pub by_place : Finding → Finding → Ordering
by_place f g = ordering_then (nat_cmp f.rank g.rank) (ordering_then (nat_cmp f.call g.call) (ordering_then (nat_cmp (rule_place f.rule) (rule_place g.rule)) (nat_cmp f.part g.part)))

-- by rank and call
abbrev pub by_spot : Place → Place → Ordering
by_spot s t = ordering_then (nat_cmp s.rank t.rank) (nat_cmp s.call t.call)

-- by place, then by see and value
abbrev pub by_all : Finding → Finding → Ordering
by_all f g = ordering_then (by_place f g) (ordering_then (option_cmp by_spot f.see g.see) (int_cmp f.value g.value))
